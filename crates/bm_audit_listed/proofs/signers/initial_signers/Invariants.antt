use Rattle.std.proofs.Common.{◌≡◌, ◌++◌, drop, map}
use Rattle.spec_terms.specs.Precondition.{persistent}
use Rattle.spec_tool.specs.Listed.{deposit_signer}
use Rattle.bm_audit_listed.proofs.signers.initial_signers.Given as goal

abbrev pub invariant-loop-entry : goal.invariant-loop-entry
invariant-loop-entry l =
    l.signers.items ++ map (λ d. deposit_signer (d.1).owner) (persistent (drop l.entry-index l.pre))
    ≡ map (λ d. deposit_signer (d.1).owner) (persistent l.pre)
