-- Published vectors in the format of NIST, with SHA-256, and numbers at their bounds.
use Rattle.std.specs.Prelude.{◌≡◌, ℕ, ◌+◌, ◌-◌, List, codes, Bool, true, false, Some}
use Rattle.spec_curve.specs.Field.{group_order}
use Rattle.spec_curve.specs.Key.{point}
use Rattle.spec_curve.specs.Signature.{sign}
use Rattle.theory_signatures.specs.Bytes.{bytes_of}

-- a key, the number of a digest, R and S
pub record Vector : Type 0 where
  pub key : List ℕ
  pub digest : ℕ
  pub r : ℕ
  pub s : ℕ

unfoldable pub verifies : Vector → Bool
verifies v = sign (point v.key) v.digest (Some (record { r = v.r; s = v.s }))

-- R and S in each other's place
abbrev pub exchanged : Vector → Vector
exchanged v = record v { r = v.s; s = v.r }

abbrev pub first : Vector
first = record {
  key = bytes_of (codes "03131ca4e5811267fa90fc631d6298c2d7a4ecccc45cc60d378e0660b61f82fe8d");
  digest = 0x5ae8317d34d1e595e3fa7247db80c0af4320cce1116de187f8f7e2e099c0d8d0;
  r = 0xd89f9586070230bb03e625cca18c89bb3117cd472ff6ee2a50809f0e89039309;
  s = 0x45972842e92e3a41abeea1089d812eb5343ca8f075ac9c66e13f3db287048638;
}

abbrev pub second : Vector
second = record {
  key = bytes_of (codes "0354ed69e1bbde38e60c7fb764479e0c2db60f2b853a537818c48d03c524e5245e");
  digest = 0x586052916fb6f746e1d417766cceffbe1baf95579bab67ad49addaaa6e798862;
  r = 0x40927e35b7b847a198e130312d5d9264325895892d4a9c262c323ecf500a5759;
  s = 0xb2a9f6e8660e5bc6eb78a81b76c1eb9c56d8d6860eaabfe9cb58a3587594cdfe;
}

abbrev pub third : Vector
third = record {
  key = bytes_of (codes "0244b8fb4d303cd3faca335ec8bb564039b9017429cef7152ef373bd462e63d55f");
  digest = 0xc36d0ecf4bfd178835c97aae7585f6a87de7dfa23cc927944f99a8d60feff68b;
  r = 0xd002d116bce62a4f928fb9b5794518c28fb619023e9954d96272628d160fdfd2;
  s = 0x06e2d2303f0b6edbabae1bacc6c22b1ada579fc88285aa7f7b52a716791f56f7;
}

pub record PublishedVectors : Type 0 where
  pub first_verifies : verifies first ≡ true
  pub first_exchanged : verifies (exchanged first) ≡ false
  pub second_verifies : verifies second ≡ true
  pub second_exchanged : verifies (exchanged second) ≡ false
  pub third_verifies : verifies third ≡ true
  pub third_exchanged : verifies (exchanged third) ≡ false

-- ---- numbers at their bounds

-- the base point, whose first coordinate this is
abbrev pub base_first : ℕ
base_first = 0x79be667ef9dcbbac55a06295ce870b07029bfcdb2dce28d959f2815b16f81798

abbrev pub base_key : List ℕ
base_key = bytes_of (codes "0279be667ef9dcbbac55a06295ce870b07029bfcdb2dce28d959f2815b16f81798")

-- the first coordinate of twice the base point
abbrev pub double_first : ℕ
double_first = 0xc6047f9441ed7d6d3045406e95c07cd85c778e4b8cef3ca7abac09b95c709ee5

-- a point of which the first coordinate is 2 more than the order
abbrev pub far_key : List ℕ
far_key = bytes_of (codes "02fffffffffffffffffffffffffffffffebaaedce6af48a03bbfd25e8cd0364143")

pub record NumbersAtBounds : Type 0 where
  -- both halves of the sum are one point
  pub equal_halves : verifies (record { key = base_key; digest = double_first; r = double_first; s = double_first }) ≡ true
  -- the halves are opposite: their sum is infinity
  pub opposite_halves : verifies (record { key = base_key; digest = group_order - double_first; r = double_first; s = double_first }) ≡ false
  -- the first half is infinity
  pub digest_zero : verifies (record { key = base_key; digest = 0; r = base_first; s = base_first }) ≡ true
  -- a digest counts modulo the order
  pub digest_of_order : verifies (record { key = base_key; digest = group_order; r = base_first; s = base_first }) ≡ true
  pub zero_r : verifies (record { key = base_key; digest = 5; r = 0; s = base_first }) ≡ false
  pub zero_s : verifies (record { key = base_key; digest = 5; r = base_first; s = 0 }) ≡ false
  pub order_r : verifies (record { key = base_key; digest = 0; r = group_order; s = base_first }) ≡ false
  pub order_s : verifies (record { key = base_key; digest = 0; r = base_first; s = group_order }) ≡ false
  -- the first coordinate of the sum counts modulo the order
  pub far_first : verifies (record { key = far_key; digest = 0; r = 2; s = 2 }) ≡ true
  -- and R and S don't
  pub far_r : verifies (record { key = far_key; digest = 0; r = group_order + 2; s = 2 }) ≡ false
  pub far_s : verifies (record { key = far_key; digest = 0; r = 2; s = group_order + 2 }) ≡ false
