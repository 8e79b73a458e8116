use Rattle.std.proofs.Common.{◌≡◌, ◌++◌, drop, map}
use Rattle.bm_audit_listed.specs.Parts.{put_signer}
use Rattle.bm_audit_listed.proofs.signers.add_put_signers.Given as goal

abbrev pub invariant-loop-name : goal.invariant-loop-name
invariant-loop-name l =
    l.signers.items ++ map (put_signer l.checked) (drop l.name-index l.puts) ≡ l.initial.signers.items ++ map (put_signer l.checked) l.puts
