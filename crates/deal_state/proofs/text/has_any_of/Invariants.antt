use Rattle.std.proofs.Common.{◌≡◌, drop}
use Rattle.std.specs.List.{list_any}
use Rattle.spec_chain.specs.Outstanding.{is_of}
use Rattle.deal_state.proofs.text.has_any_of.Given as goal

abbrev pub invariant-loop-requirement : goal.invariant-loop-requirement
invariant-loop-requirement l =
    list_any (is_of l.party) (drop l.requirement-index l.requirements) ≡ list_any (is_of l.party) l.requirements
