use Rattle.std.proofs.Common.{◌≡◌, ◌+◌, drop}
use Rattle.bm_keys.specs.Pieces.{digit_count}
use Rattle.bm_keys.proofs.pieces.digit_count.Given as goal

-- what is counted, and the digits that are left
abbrev pub invariant-loop-byte : goal.invariant-loop-byte
invariant-loop-byte l = record {
  told : digit_count l.text ≡ l.count + digit_count (drop l.byte-index l.text);
  same : l.count ≡ l.byte-index;
}
