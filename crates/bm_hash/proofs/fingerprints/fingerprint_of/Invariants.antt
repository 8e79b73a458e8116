use Rattle.std.proofs.Common.{◌≡◌, length, drop}
use Rattle.std.specs.List.{fold}
use Rattle.bm_hash.specs.Fingerprints.{mixed, mixed_word, fingerprint_of}
use Rattle.bm_hash.proofs.fingerprints.fingerprint_of.Given as goal

-- what is mixed in and what is left to mix in are the whole
abbrev pub invariant-loop-word : goal.invariant-loop-word
invariant-loop-word l = fold mixed_word l.fingerprint (drop l.word-index l.words) ≡ fold mixed_word (length l.bytes) l.words

abbrev pub invariant-loop-byte : goal.invariant-loop-byte
invariant-loop-byte l = fold mixed l.fingerprint (drop l.byte-index l.rest) ≡ fingerprint_of l.bytes
