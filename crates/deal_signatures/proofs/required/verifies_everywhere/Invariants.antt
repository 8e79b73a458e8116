use Rattle.std.proofs.Common.{◌≡◌, map, drop}
use Rattle.spec_deal.specs.SignatureFile.{is_verified}
use Rattle.spec_deal.specs.Verifier.{secp256k1}
use Rattle.deal_signatures.specs.Keying.{signed_by}
use Rattle.deal_signatures.specs.Seen.{required_in}
use Rattle.deal_signatures.proofs.required.verifies_everywhere.Given as goal

abbrev pub invariant-loop-place : goal.invariant-loop-place
invariant-loop-place l =
    is_verified secp256k1 (map required_in (drop l.place-index l.places)) (signed_by l.tx l.input l.key l.signature)
    ≡ is_verified secp256k1 (map required_in l.places) (signed_by l.tx l.input l.key l.signature)
