use Rattle.std.proofs.Common.{◌≡◌, true, drop}
use Rattle.spec_terms.specs.Precondition.{names_of}
use Rattle.spec_tool.specs.Psbt.{are_ascending}
use Rattle.spec_tool.specs.PsbtBytes as spec
use Rattle.bm_psbt.proofs.signatures.signatures_differ.Given as goal

-- those that are left decide
abbrev pub invariant-loop-key : goal.invariant-loop-key
invariant-loop-key l = record {
  here : are_ascending (names_of (drop l.key-index l.here)) ≡ true;
  there : are_ascending (names_of l.others) ≡ true;
  same : spec.signatures_differ (drop l.key-index l.here) l.others ≡ spec.signatures_differ l.here l.there;
}
