use Rattle.std.proofs.Common.{◌≡◌, ◌++◌, map, drop}
use Rattle.spec_chain.specs.declared.requirement.Requirement.TheVariants as requirements
use Rattle.deal_state.proofs.outstanding.put_deposits.Given as goal

abbrev pub invariant-loop-name : goal.invariant-loop-name
invariant-loop-name l =
    l.requirements.items ++ map requirements.Deposit (drop l.name-index l.names) ≡ l.initial.requirements.items ++ map requirements.Deposit l.names
