-- What is claimed of the verifier that the program uses: it is ECDSA over secp256k1 (SEC 1, version 2, sections 2.3.4 and 4.1.4), asked of
-- the key, of the digest and of the signature that it is given.
use Rattle.std.specs.Prelude.{◌≡◌, ℕ, List, true, Some, ◌↔◌, is_some}
use Rattle.spec_curve.specs.Key.{number_of, point}
use Rattle.spec_curve.specs.Point.{Point}
use Rattle.spec_curve.specs.Signature.{Numbers, numbers_of}
use Rattle.spec_curve.specs.Verify.{verifies}
use Rattle.spec_deal.specs.Verifier.{secp256k1}

-- the key spells a point, the signature an R and an S, and these sign the digest's number under the point
pub record SignsUnder (key digest signature : List ℕ) : Type 0 where
  pub q : Point
  pub m : Numbers
  pub is_point : point key ≡ Some q
  pub is_spelled : numbers_of signature ≡ Some m
  pub is_good : verifies (number_of digest) m.r m.s q ≡ true

pub record IsEcdsa : Type 0 where
  pub points : (key : List ℕ) → (secp256k1.is_point key ≡ true) ↔ (is_some (point key) ≡ true)
  pub signatures : (key digest signature : List ℕ) → (secp256k1.is_signature key digest signature ≡ true) ↔ SignsUnder key digest signature
