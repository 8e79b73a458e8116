use Rattle.std.proofs.Common.{◌≡◌, ◌++◌, map, drop}
use Rattle.spec_deal.specs.declared.transaction.Signer.{Signer}
use Rattle.deal_finish.specs.Filled.{signature_at}
use Rattle.deal_finish.proofs.signatures.signatures_of.Given as goal

abbrev pub invariant-loop-signer : goal.invariant-loop-signer
invariant-loop-signer l =
    l.all.items ++ map (λ (s : Signer). signature_at l.given l.tx l.number s.key) (drop l.signer-index l.input.signers)
    ≡ map (λ (s : Signer). signature_at l.given l.tx l.number s.key) l.input.signers
