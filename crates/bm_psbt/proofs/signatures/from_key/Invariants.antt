use Rattle.std.proofs.Common.{◌≡◌, ◌+◌, length}
use Rattle.bm_psbt.specs.Merged.{not_before}
use Rattle.bm_psbt.proofs.signatures.from_key.Given as goal

-- so many are behind, and the rest decides
abbrev pub invariant-loop : goal.invariant-loop
invariant-loop l = record {
  count : length l.rest + l.counter ≡ length l.signatures;
  same : not_before l.key l.rest ≡ not_before l.key l.signatures;
}
