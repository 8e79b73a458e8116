use Rattle.std.proofs.Common.{◌≡◌, ◌++◌, true, drop}
use Rattle.spec_terms.specs.Precondition.{names_of}
use Rattle.spec_tool.specs.Psbt.{are_ascending}
use Rattle.spec_tool.specs.PsbtBytes.{signatures_joined}
use Rattle.bm_psbt.proofs.signatures.joined.Given as goal

-- those that are joined and those that are left are the whole
abbrev pub invariant-loop-key : goal.invariant-loop-key
invariant-loop-key l = record {
  here : are_ascending (names_of (drop l.key-index l.here)) ≡ true;
  there : are_ascending (names_of l.others) ≡ true;
  whole : l.all ++ signatures_joined (drop l.key-index l.here) l.others ≡ signatures_joined l.here l.there;
}
