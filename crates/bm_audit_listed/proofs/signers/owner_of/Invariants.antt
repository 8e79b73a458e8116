use Rattle.std.proofs.Common.{◌≡◌, drop}
use Rattle.std.specs.Prelude.{option_map}
use Rattle.spec_data.specs.Lists.{look_up}
use Rattle.spec_terms.specs.Precondition.{volatile}
use Rattle.bm_audit_listed.proofs.signers.owner_of.Given as goal

abbrev pub invariant-loop-entry : goal.invariant-loop-entry
invariant-loop-entry l = look_up l.name (volatile (drop l.entry-index l.pre)) ≡ look_up l.name (volatile l.pre)
