use Rattle.std.proofs.Common.{◌≡◌, ◌+◌, drop}
use Rattle.bm_psbt_plan.specs.Parts.{place_of}
use Rattle.bm_psbt_plan.proofs.signing.place_of.Given as goal

abbrev pub invariant-loop-other : goal.invariant-loop-other
invariant-loop-other l = record {
  counted : l.place ≡ l.other-index;
  rest : l.place + place_of l.key (drop l.other-index l.signatures) ≡ place_of l.key l.signatures;
}
