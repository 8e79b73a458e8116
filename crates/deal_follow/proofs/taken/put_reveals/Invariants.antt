use Rattle.std.proofs.Common.{◌≡◌, ◌++◌, map, drop}
use Rattle.spec_chain.specs.Following.{reveal_steps}
use Rattle.deal_follow.specs.Seen.{step_of}
use Rattle.deal_follow.proofs.taken.put_reveals.Given as goal

abbrev pub invariant-loop-secret : goal.invariant-loop-secret
invariant-loop-secret l =
    map step_of l.deeds.items ++ reveal_steps (drop l.secret-index l.secrets) ≡ map step_of l.initial.deeds.items ++ reveal_steps l.secrets
