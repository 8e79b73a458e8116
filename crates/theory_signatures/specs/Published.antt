-- The signatures that BIP 143 publishes, and what is refused of them.
use Rattle.std.specs.Prelude.{◌≡◌, ℕ, List, ◌++◌, codes, Bool, true, false}
use Rattle.std.specs.Prelude.{reverse}
use Rattle.spec_curve.specs.Signature.{is_signature}
use Rattle.theory_signatures.specs.Bytes.{bytes_of}

-- what a signature of a transaction consists of, as bytes
pub record Signed : Type 0 where
  pub key : List ℕ
  pub digest : List ℕ
  pub signature : List ℕ

unfoldable pub verifies : Signed → Bool
verifies s = is_signature s.key s.digest s.signature

-- strict DER of R and S of 32 bytes each
abbrev pub spelled : List ℕ → List ℕ → List ℕ
spelled r s = bytes_of (codes "30440220" ++ r ++ codes "0220" ++ s ++ codes "01")

-- P2WPKH
abbrev pub native : Signed
native = record {
  key = bytes_of (codes "025476c2e83188368da1ff3e292e7acafcdb3566bb0ad253f62fc70f07aeee6357");
  digest = bytes_of (codes "c37af31116d1b27caf68aae9e3ac82f1477929014d5b917657d0eb49478cb670");
  signature = spelled (codes "3609e17b84f6a7d30c80bfa610b5b4542f32a8a0d5447a12fb1366d7f01cc44a") (codes "573a954c4518331561406f90300e8f3358f51928d43c212a8caed02de67eebee");
}

-- P2WPKH in P2SH
abbrev pub nested : Signed
nested = record {
  key = bytes_of (codes "03ad1d8e89212f0b92c74d23bb710c00662ad1470198ac48c43f7d6f93a2a26873");
  digest = bytes_of (codes "64f3b0f4dd2bb3aa1ce8566d220cc74dda9df97d8490cc81d89d735c92e59fb6");
  signature = spelled (codes "47ac8e878352d3ebbde1c94ce3a10d057c24175747116f8288e5d794d12d482f") (codes "217f36a485cae903c713331d877c1f64677e3622ad4010726870540656fe9dcb");
}

-- P2WSH in P2SH, the first of six keys
abbrev pub nested_script : Signed
nested_script = record {
  key = bytes_of (codes "0307b8ae49ac90a048e9b53357a2354b3334e9c8bee813ecb98e99a7e07e8c3ba3");
  digest = bytes_of (codes "185c0be5263dce5b4bb50a047973c1b6272bfbd0103a89444597dc40b248ee7c");
  signature = spelled (codes "6ac44d672dac41f9b00e28f4df20c52eeb087207e8d758d76d92c6fab3b73e2b") (codes "367750dbbe19290069cba53d096f44530e4f98acaa594810388cf7409a1870ce");
}

-- its digest in the other order
abbrev pub turned : Signed → Signed
turned s = record s { digest = reverse s.digest }

pub record PublishedSignatures : Type 0 where
  pub native_verifies : verifies native ≡ true
  pub native_turned : verifies (turned native) ≡ false
  pub nested_verifies : verifies nested ≡ true
  pub nested_turned : verifies (turned nested) ≡ false
  pub nested_script_verifies : verifies nested_script ≡ true
  pub nested_script_turned : verifies (turned nested_script) ≡ false
  pub other_key : verifies (record native { key = nested.key }) ≡ false
  -- the opposite point
  pub other_sign : verifies (record native { key = bytes_of (codes "035476c2e83188368da1ff3e292e7acafcdb3566bb0ad253f62fc70f07aeee6357") }) ≡ false
  pub other_r : verifies (record native { signature = spelled (codes "3609e17b84f6a7d30c80bfa610b5b4542f32a8a0d5447a12fb1366d7f01cc44b") (codes "573a954c4518331561406f90300e8f3358f51928d43c212a8caed02de67eebee") }) ≡ false
  pub other_s : verifies (record native { signature = spelled (codes "3609e17b84f6a7d30c80bfa610b5b4542f32a8a0d5447a12fb1366d7f01cc44a") (codes "573a954c4518331561406f90300e8f3358f51928d43c212a8caed02de67eebef") }) ≡ false
