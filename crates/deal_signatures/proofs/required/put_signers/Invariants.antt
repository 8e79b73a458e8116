use Rattle.std.proofs.Common.{◌≡◌, ◌++◌, map, drop}
use Rattle.spec_deal.specs.declared.transaction.Signer.{Signer}
use Rattle.deal_signatures.specs.Keying.{required_at}
use Rattle.deal_signatures.specs.Seen.{required_in}
use Rattle.deal_signatures.proofs.required.put_signers.Given as goal

abbrev pub invariant-loop-signer : goal.invariant-loop-signer
invariant-loop-signer l =
    map required_in l.places
    ++ map (λ (s : Signer). required_at l.tx l.number s.key l.input.digest) (drop l.signer-index l.input.signers)
    ≡ map required_in l.initial.places ++ map (λ (s : Signer). required_at l.tx l.number s.key l.input.digest) l.input.signers
