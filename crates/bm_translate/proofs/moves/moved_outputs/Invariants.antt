use Rattle.std.proofs.Common.{◌≡◌, ℕ, map, take}
use Rattle.spec_calculus.specs.declared.step.Owner.{Owner}
use Rattle.bm_world_board.specs.Accounts.{owner_in}
use Rattle.bm_translate.proofs.moves.moved_outputs.Given as goal

-- the outputs so far
abbrev pub invariant-loop-output : goal.invariant-loop-output
invariant-loop-output l = l.moved.items ≡ map {B = Owner × ℕ} (λ o. (owner_in l.accounts o.script, o.value)) (take l.output-index l.outputs)
