use Rattle.std.proofs.Common.{◌≡◌, ◌++◌, drop}
use Rattle.bm_psbt.specs.Written.{records_bytes, signature_records}
use Rattle.bm_psbt.proofs.writing.put_signatures.Given as goal

-- what is written and what is left to write are the whole
abbrev pub invariant-loop-key : goal.invariant-loop-key
invariant-loop-key l =
    l.out.items ++ records_bytes (signature_records (drop l.key-index l.signatures)) ≡ l.initial.out.items ++ records_bytes (signature_records l.signatures)
