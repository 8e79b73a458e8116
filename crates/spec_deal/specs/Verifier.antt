-- What judges keys and signatures; that of the curve secp256k1, and one that accepts all.
use Rattle.std.specs.Prelude.{ℕ, List, Bool, true}
use Rattle.spec_curve.specs.Key.{is_key}
use Rattle.spec_curve.specs.Signature as curve

pub record Verifier : Type 0 where
  -- whether bytes are a key: they spell a point
  pub is_point : List ℕ → Bool
  -- whether bytes sign a digest under a key: first the key, then the digest, then the signature
  pub is_signature : List ℕ → List ℕ → List ℕ → Bool

-- ECDSA over secp256k1 (SEC 1, version 2, sections 2.3.4 and 4.1.4)
abbrev pub secp256k1 : Verifier
secp256k1 = record { is_point = is_key; is_signature = curve.is_signature }

-- finds a point in all bytes, and each signature good: values that ask nothing of a verifier are worked out with it
abbrev pub accepting : Verifier
accepting = record { is_point = λ key. true; is_signature = λ key digest signature. true }
