use Rattle.std.proofs.Common.{◌≡◌, ◌++◌, drop}
use Rattle.bm_audit_listed.specs.Parts.{missing_by}
use Rattle.bm_audit_listed.proofs.lacking.put_transaction.Given as goal

abbrev pub invariant-loop-k : goal.invariant-loop-k
invariant-loop-k g l =
    l.missing ++ missing_by (g.H.Hash32.digest_of l.hasher) l.book l.which l.k (drop l.k l.signers) l.rest
    ≡ l.initial.missing ++ missing_by (g.H.Hash32.digest_of l.hasher) l.book l.which 0 l.signers l.digests
