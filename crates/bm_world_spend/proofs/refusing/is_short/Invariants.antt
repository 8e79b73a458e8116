use Rattle.std.proofs.Common.{◌≡◌, ◌-◌, ℕ, take}
use Rattle.std.specs.Prelude.{sum_by, slice_get}
use Rattle.spec_run.specs.Owners.{deposit_value}
use Rattle.bm_world_spend.proofs.refusing.is_short.Given as goal

abbrev pub invariant-loop-number : goal.invariant-loop-number
invariant-loop-number l = l.need ≡ l.total - sum_by (λ (n : ℕ). deposit_value (slice_get l.board.coins.outputs n)) (take l.number-index l.inputs)
