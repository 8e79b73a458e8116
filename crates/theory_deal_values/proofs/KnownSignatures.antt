-- Which signatures verify: each is worked out once by the curve, and what asks a verifier of these alone is worked out by their list.
use Rattle.std.proofs.Common.{◌≡◌, ℕ, List, [], ◌∷◌, ◌++◌, Bool, true, false, Option, Some, None, refl, sym, ◌∙◌, subst, cond}
use Rattle.std.specs.Prelude.{◌&&◌, codes}
use Rattle.std.specs.Str.{bytes_eq}
use Rattle.std.proofs.lemmas.Bool.{and_parts}
use Rattle.std.proofs.lemmas.Slice.Eq.{bytes_eq-Decides}
use Rattle.spec_data.specs.Digits.{read_hex}
use Rattle.spec_curve.specs.Field.{plus, minus, times, power, inverse, root}
use Rattle.spec_curve.specs.Point.{double, add, multiple}
use Rattle.spec_curve.specs.Key.{square_at, of_sign, point_at, point, is_key}
use Rattle.spec_curve.specs.Verify.{has_first, sum_of, verifies}
use Rattle.spec_curve.specs.Signature.{is_signature}
use Rattle.spec_deal.specs.Verifier.{Verifier}

-- ---- by a list

-- a key, a digest and a signature, and whether it signs the digest under the key
pub record Row : Type 0 where
  pub key : List ℕ
  pub digest : List ℕ
  pub signature : List ℕ
  pub answer : Bool

abbrev pub is_of : Row → List ℕ → List ℕ → List ℕ → Bool
is_of r key digest signature = bytes_eq key r.key && (bytes_eq digest r.digest && bytes_eq signature r.signature)

-- what the list says, and what the curve says of all else
abbrev pub known : List Row → List ℕ → List ℕ → List ℕ → Bool
known [] key digest signature = is_signature key digest signature
known (r ∷ rs) key digest signature = cond (is_of r key digest signature) r.answer (known rs key digest signature)

abbrev pub IsRight : Row → Type 0
IsRight r = is_signature r.key r.digest r.signature ≡ r.answer

abbrev pub AreRight : List Row → Type 0
AreRight [] = Unit {0}
AreRight (r ∷ rs) = IsRight r × AreRight rs

same : (rs : List Row) → AreRight rs → (key digest signature : List ℕ)
    → known rs key digest signature ≡ is_signature key digest signature
same [] h key digest signature = refl
same (r ∷ rs) h key digest signature = by_row (is_of r key digest signature) refl (same rs h.1 key digest signature)
  where
    by_row : (b : Bool) → is_of r key digest signature ≡ b → known rs key digest signature ≡ is_signature key digest signature
        → cond b r.answer (known rs key digest signature) ≡ is_signature key digest signature
    by_row true e rest =
        let k = and_parts (bytes_eq key r.key) (bytes_eq digest r.digest && bytes_eq signature r.signature) e in
        let d = and_parts (bytes_eq digest r.digest) (bytes_eq signature r.signature) k.1 in
        let key_is : key ≡ r.key = (bytes_eq-Decides key r.key).0 k.0 in
        let digest_is : digest ≡ r.digest = (bytes_eq-Decides digest r.digest).0 d.0 in
        let signature_is : signature ≡ r.signature = (bytes_eq-Decides signature r.signature).0 d.1 in
        sym ((λ i. is_signature (key_is i) (digest_is i) (signature_is i)) ∙ h.0)
    by_row false e rest = rest

-- the curve's verifier, by a list of what is known
abbrev pub by_list : List Row → Verifier
by_list rs = record { is_point = is_key; is_signature = known rs }

-- what holds by the list holds by the curve
pub by_curve : (P : (List ℕ → List ℕ → List ℕ → Bool) → Type 0) (rs : List Row) → AreRight rs → P (known rs) → P is_signature
by_curve P rs h p = subst P (λ i key digest signature. same rs h key digest signature i) p

-- ---- the signatures

-- the bytes that hexadecimal digits spell
abbrev or_nothing : Option (List ℕ) → List ℕ
or_nothing (Some bytes) = bytes
or_nothing None = []

abbrev bytes_of : List ℕ → List ℕ
bytes_of digits = or_nothing (read_hex digits)

-- the signature of the smallest deal's initial transaction
abbrev pub init_of_one : Row
init_of_one = record {
  key = bytes_of (codes "03913ffe7036ec1cefec5d4589d0c2e8e7b6a300c97e0a106cd9624f149bcda7f5");
  digest = bytes_of (codes "1f8523b2fcda66a2ba3d9862049ad3658616ab5b91569a90b6cf569660492ab5");
  signature = bytes_of (codes "3044022071182d8233ea50481a98e243aea81371a60a2db7d9b85c24faa69d81735c91020220456aefd2fc0daeb0b91ed24f" ++
      codes "53de0eaf3570aa9920b6c468e69f6a10a38ba57001");
  answer = true;
}

pub init_of_one_is : IsRight init_of_one
unfolding point point_at square_at of_sign root power times plus minus inverse double add multiple has_first sum_of verifies is_signature
init_of_one_is = refl

-- that of its branch
abbrev pub branch_of_one : Row
branch_of_one = record {
  key = bytes_of (codes "03880380f4fe91faca6db3387f5c981c02fee0dbae9278e8dcf2e0769b15457907");
  digest = bytes_of (codes "a99dda9543730ec77317a9d236db04d3f26bc1a2a11a0b65059218fc850f9280");
  signature = bytes_of (codes "304402200a7619223b285d7242afa2ffe641857891f83e405eea869f0b4754ff4cda2ef6022016d59c083345f0368658d8c3" ++
      codes "4881404e5c9009f4663a8acbe0e853e25cf443ab01");
  answer = true;
}

pub branch_of_one_is : IsRight branch_of_one
unfolding point point_at square_at of_sign root power times plus minus inverse double add multiple has_first sum_of verifies is_signature
branch_of_one_is = refl

-- that of its branch under the key of the initial transaction, for its digest
abbrev pub swapped : Row
swapped = record {
  key = bytes_of (codes "03913ffe7036ec1cefec5d4589d0c2e8e7b6a300c97e0a106cd9624f149bcda7f5");
  digest = bytes_of (codes "1f8523b2fcda66a2ba3d9862049ad3658616ab5b91569a90b6cf569660492ab5");
  signature = bytes_of (codes "304402200a7619223b285d7242afa2ffe641857891f83e405eea869f0b4754ff4cda2ef6022016d59c083345f0368658d8c3" ++
      codes "4881404e5c9009f4663a8acbe0e853e25cf443ab01");
  answer = false;
}

pub swapped_is : IsRight swapped
unfolding point point_at square_at of_sign root power times plus minus inverse double add multiple has_first sum_of verifies is_signature
swapped_is = refl

-- the signatures of the branch of the bet that reveals
abbrev pub bet_of_b : Row
bet_of_b = record {
  key = bytes_of (codes "023c24fce1010225fd96c5407ef8f06e3a5bae1e6b8f3449ef2085634b3e148b29");
  digest = bytes_of (codes "c008d976de0d4079d9a6363008d5900aaafb209b2dbfcc744809ce0d7decc457");
  signature = bytes_of (codes "30440220240e1b686e26c227b1a1b730bb1f226ca09eb0094c5eca26cb1ea6afe0326c2802204c00ac3b23178946bcc873f1" ++
      codes "4ba1f71436f43c3501b0f1965af7f92fc1346c1001");
  answer = true;
}

pub bet_of_b_is : IsRight bet_of_b
unfolding point point_at square_at of_sign root power times plus minus inverse double add multiple has_first sum_of verifies is_signature
bet_of_b_is = refl

abbrev pub bet_of_a : Row
bet_of_a = record {
  key = bytes_of (codes "03880380f4fe91faca6db3387f5c981c02fee0dbae9278e8dcf2e0769b15457907");
  digest = bytes_of (codes "c008d976de0d4079d9a6363008d5900aaafb209b2dbfcc744809ce0d7decc457");
  signature = bytes_of (codes "304402203a401fb47256ed8b20b52ce47fed3916a68f4783ee7e4e3608b7ef0123721b1802206f43613687bec80abbb6e9af" ++
      codes "dc662d61f80555175de251f612be2f63dca7936601");
  answer = true;
}

pub bet_of_a_is : IsRight bet_of_a
unfolding point point_at square_at of_sign root power times plus minus inverse double add multiple has_first sum_of verifies is_signature
bet_of_a_is = refl

-- another good one of B
abbrev pub bet_again : Row
bet_again = record {
  key = bytes_of (codes "023c24fce1010225fd96c5407ef8f06e3a5bae1e6b8f3449ef2085634b3e148b29");
  digest = bytes_of (codes "c008d976de0d4079d9a6363008d5900aaafb209b2dbfcc744809ce0d7decc457");
  signature = bytes_of (codes "3045022100ace1a9b74e3880b0974cfb007cef0b5f2154ca87104a99c87e65400b05f15c6902200ddc55cf7f52a8dc8c8b08" ++
      codes "1bd6af0017aa80cd29e1c81751ea7996dd3def346c01");
  answer = true;
}

pub bet_again_is : IsRight bet_again
unfolding point point_at square_at of_sign root power times plus minus inverse double add multiple has_first sum_of verifies is_signature
bet_again_is = refl

-- those of the bet with the hash of a longer string
abbrev pub long_of_b : Row
long_of_b = record {
  key = bytes_of (codes "023c24fce1010225fd96c5407ef8f06e3a5bae1e6b8f3449ef2085634b3e148b29");
  digest = bytes_of (codes "9e53c7664ce0f928a6bcde4b48b75e3fcc09e864b4ec5b52fc8c85469bcf8705");
  signature = bytes_of (codes "3045022100f7d7b13ecd854f4e2f49f9d79959254c1b2e9bc640d4f44cfa03fa97c7e4297d022068308af0056e1633907032" ++
      codes "c20005ee5da8cebdddcea898e6135b235b47c9a4c301");
  answer = true;
}

pub long_of_b_is : IsRight long_of_b
unfolding point point_at square_at of_sign root power times plus minus inverse double add multiple has_first sum_of verifies is_signature
long_of_b_is = refl

abbrev pub long_of_a : Row
long_of_a = record {
  key = bytes_of (codes "03880380f4fe91faca6db3387f5c981c02fee0dbae9278e8dcf2e0769b15457907");
  digest = bytes_of (codes "9e53c7664ce0f928a6bcde4b48b75e3fcc09e864b4ec5b52fc8c85469bcf8705");
  signature = bytes_of (codes "304402204d379ecaf5e4042869ce920935948a73961aac365ac5bea94c640de15b0aae0f0220785eeb0d7210c63693781fe4" ++
      codes "ef6d0080e1e3a5432e2118334dfb8c655a53e63401");
  answer = true;
}

pub long_of_a_is : IsRight long_of_a
unfolding point point_at square_at of_sign root power times plus minus inverse double add multiple has_first sum_of verifies is_signature
long_of_a_is = refl
