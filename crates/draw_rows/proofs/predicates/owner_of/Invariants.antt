use Rattle.std.proofs.Common.{◌≡◌, drop}
use Rattle.spec_data.specs.Lists.{look_up}
use Rattle.spec_terms.specs.Precondition.{secrets}
use Rattle.draw_rows.proofs.predicates.owner_of.Given as goal

abbrev pub invariant-loop-entry : goal.invariant-loop-entry
invariant-loop-entry l =
    look_up l.secret (secrets (drop l.entry-index l.pre)) ≡ look_up l.secret (secrets l.pre)
