use Rattle.std.proofs.Common.{◌≡◌, ◌++◌, map, drop}
use Rattle.spec_terms.specs.Precondition.{persistent}
use Rattle.spec_run.specs.Steps.{auth_inits}
use Rattle.spec_deal.specs.Needed.{deal_contract}
use Rattle.deal_follow.specs.Seen.{step_of}
use Rattle.deal_follow.proofs.taken.put_auth_inits.Given as goal

abbrev pub invariant-loop-entry : goal.invariant-loop-entry
invariant-loop-entry l =
    map step_of l.deeds.items ++ auth_inits deal_contract (persistent (drop l.entry-index l.pre))
    ≡ map step_of l.initial.deeds.items ++ auth_inits deal_contract (persistent l.pre)
