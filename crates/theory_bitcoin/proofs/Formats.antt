-- Each format's reader is exact.
use Rattle.std.proofs.Common.{◌≡◌, ◌≢◌, lit<, ℕ, zero, suc, ◌+◌, ◌-◌, ◌^◌, ◌<◌, ◌≤◌, Bool, true, false, leb, eqb, List, [], ◌∷◌, ◌++◌, length, get_or, take, drop, Ok, refl, sym, ap, subst, ◌∙◌, arith, inl, inr}
use Rattle.std.specs.Int.{Width, w16, w32, w64, byte_len, byte_at, bytes_low_first, from_le_bytes, to_le_bytes}
use Rattle.std.proofs.lemmas.List.{append-nil, length-append, length-take, take-append-drop, drop_all}
use Rattle.std.proofs.lemmas.Nat.{le_bytes_2, le_bytes_4, le_bytes_8, from_le_bytes-to_le_bytes_2, from_le_bytes-to_le_bytes_4, from_le_bytes-to_le_bytes_8}
use Rattle.std.proofs.lemmas.Bool.{cases_lt, lt-ltb, le-ltb, le-leb, leb-true, eqb-true, eqb-false}
use Rattle.std.proofs.lemmas.Bool.Decides.{eqb_tells}
use Rattle.std.proofs.Math.Seq.{get_or-append_seam, drop-cons}
use Rattle.spec_bitcoin.specs.Spelling.{compact, sized, IsBytes}
use Rattle.spec_bitcoin.specs.Reading.{◌>>=◌, byte_where, chunk, any, not_zero, number_at, wide_at, compact_from, compact_at, string_at}
use Rattle.spec_data.proofs.ByteLemmas.{IsBytes-append}
use Rattle.theory_bitcoin.proofs.Exact.{IsBytes-take, Exact, One, Chunk, bind, pure, one, transfer, same_reader, a_chunk}
use Rattle.theory_bitcoin.proofs.Languages.{Seq, Nothing}

-- ---- numbers of a width

byte_small : (i n : ℕ) → byte_at i n < 256
byte_small zero n = omega arith
byte_small (suc i) n = omega arith

low_first_fits : (i k n : ℕ) → IsBytes (bytes_low_first i k n)
low_first_fits i zero n j = omega arith
low_first_fits i (suc k) n zero = byte_small i n
low_first_fits i (suc k) n (suc j) = low_first_fits (suc i) k n j

-- what has a width and a limit
pub record IsWide (w : Width) (limit : ℕ) : Type 0 where
  pub len : (n : ℕ) → length (to_le_bytes w n) ≡ byte_len w
  pub back : (bytes : List ℕ) → length bytes ≡ byte_len w → IsBytes bytes → to_le_bytes w (from_le_bytes w bytes) ≡ bytes
  pub again : (n : ℕ) → n < limit → from_le_bytes w (to_le_bytes w n) ≡ n
  pub below : (bytes : List ℕ) → IsBytes bytes → from_le_bytes w bytes < limit

pub wide16 : IsWide w16 (2 ^ 16)
wide16 = record {
  len = λ n. refl;
  back = λ bytes len fits. le_bytes_2 bytes _ len fits refl;
  again = λ n lt. from_le_bytes-to_le_bytes_2 n lt;
  below = λ bytes fits. omega (arith, fits 0, fits 1);
}

pub wide32 : IsWide w32 (2 ^ 32)
wide32 = record {
  len = λ n. refl;
  back = λ bytes len fits. le_bytes_4 bytes _ len fits refl;
  again = λ n lt. from_le_bytes-to_le_bytes_4 n lt;
  below = λ bytes fits. omega (arith, fits 0, fits 1, fits 2, fits 3);
}

pub wide64 : IsWide w64 (2 ^ 64)
wide64 = record {
  len = λ n. refl;
  back = λ bytes len fits. le_bytes_8 bytes _ len fits refl;
  again = λ n lt. from_le_bytes-to_le_bytes_8 n lt;
  below = λ bytes fits. omega (arith, fits 0, fits 1, fits 2, fits 3, fits 4, fits 5, fits 6, fits 7);
}

pub record Number (w : Width) (low limit : ℕ) (text : List ℕ) (n : ℕ) : Type 0 where
  pub bytes : text ≡ to_le_bytes w n
  pub least : low ≤ n
  pub most : n < limit

number_to : (w : Width) (limit : ℕ) → IsWide w limit → (text : List ℕ) (n : ℕ)
    → Seq (Chunk (byte_len w)) (λ c. Nothing (from_le_bytes w c)) text n → Number w 0 limit text n
number_to w limit wide text n s =
    let is : text ≡ s.value = s.parts ∙ ap (λ (l : List ℕ). s.first ++ l) s.back.empty ∙ append-nil s.first ∙ s.prefix.same in
    record {
      bytes = is ∙ sym (wide.back s.value s.prefix.len s.prefix.fits) ∙ ap (to_le_bytes w) s.back.same;
      least = omega arith;
      most = subst (λ (m : ℕ). m < limit) s.back.same (wide.below s.value s.prefix.fits);
    }

number_from : (w : Width) (limit : ℕ) → IsWide w limit → (text : List ℕ) (n : ℕ) → Number w 0 limit text n
    → Seq (Chunk (byte_len w)) (λ c. Nothing (from_le_bytes w c)) text n
number_from w limit wide text n h = record {
  first = text;
  second = [];
  value = to_le_bytes w n;
  parts = sym (append-nil text);
  prefix = record { same = h.bytes; len = wide.len n; fits = low_first_fits 0 (byte_len w) n };
  back = record { empty = refl; same = wide.again n h.most };
}

pub number : (w : Width) (limit : ℕ) → IsWide w limit → Exact (Number w 0 limit) (number_at w)
number w limit wide =
    transfer (Seq (Chunk (byte_len w)) (λ c. Nothing (from_le_bytes w c))) (Number w 0 limit) (number_at w) (number_to w limit wide) (number_from w limit wide)
    (bind (Chunk (byte_len w)) (λ c. Nothing (from_le_bytes w c)) (chunk (byte_len w)) (λ c bytes. Ok (from_le_bytes w c, bytes))
    (a_chunk (byte_len w)) (λ c t l. pure (from_le_bytes w c)))

one_fits : (b : ℕ) → b < 256 → IsBytes (b ∷ [])
one_fits b lt zero = lt
one_fits b lt (suc i) = omega arith

-- all bytes but the last, and the last
record Last (bytes : List ℕ) (k : ℕ) : Type 0 where
  prefix : List ℕ
  last : ℕ
  parts : bytes ≡ prefix ++ last ∷ []
  len : length prefix ≡ k
  prefix_fits : IsBytes prefix
  last_fits : last < 256

last_of : (bytes : List ℕ) (k : ℕ) → length bytes ≡ k + 1 → IsBytes bytes → Last bytes k
last_of bytes k len fits =
    let d : drop k bytes ≡ get_or bytes k 0 ∷ drop (suc k) bytes = drop-cons bytes k 0 (omega (arith, len)) in
    let none : drop (suc k) bytes ≡ [] = drop_all (suc k) bytes (omega (arith, len)) in
    record {
      prefix = take k bytes;
      last = get_or bytes k 0;
      parts = sym (take-append-drop k bytes) ∙ ap (λ (l : List ℕ). take k bytes ++ l) (d ∙ ap (λ (l : List ℕ). get_or bytes k 0 ∷ l) none);
      len = omega (arith, length-take k bytes, len);
      prefix_fits = IsBytes-take k bytes fits;
      last_fits = fits k;
    }

-- ---- numbers that are at least low

-- the byte that is put behind all others tells that a number is large
pub record IsTopped (w : Width) (low : ℕ) : Type 0 where
  pub topped : (c : List ℕ) → length c ≡ byte_len w - 1 → low ≤ from_le_bytes w (c ++ 255 ∷ [])

pub topped16 : IsTopped w16 253
topped16 =
    record {
      topped =
          λ c len.
          let top : get_or (c ++ 255 ∷ []) 1 0 ≡ 255 = subst (λ (k : ℕ). get_or (c ++ 255 ∷ []) k 0 ≡ 255) len (get_or-append_seam c 255 [] 0) in
          omega (arith, top);
    }

pub topped32 : IsTopped w32 (2 ^ 16)
topped32 =
    record {
      topped =
          λ c len.
          let top : get_or (c ++ 255 ∷ []) 3 0 ≡ 255 = subst (λ (k : ℕ). get_or (c ++ 255 ∷ []) k 0 ≡ 255) len (get_or-append_seam c 255 [] 0) in
          omega (arith, top);
    }

pub topped64 : IsTopped w64 (2 ^ 32)
topped64 =
    record {
      topped =
          λ c len.
          let top : get_or (c ++ 255 ∷ []) 7 0 ≡ 255 = subst (λ (k : ℕ). get_or (c ++ 255 ∷ []) k 0 ≡ 255) len (get_or-append_seam c 255 [] 0) in
          omega (arith, top);
    }

abbrev large : Width → ℕ → List ℕ → ℕ → Bool
large w low c b = leb low (from_le_bytes w (c ++ b ∷ []))

abbrev Wide : Width → ℕ → List ℕ → ℕ → Type 0
Wide w low = Seq (Chunk (byte_len w - 1)) (λ c. Seq (One (large w low c)) (λ b. Nothing (from_le_bytes w (c ++ b ∷ []))))

wide_to : (w : Width) (low limit : ℕ) → 0 < byte_len w → IsWide w limit → (text : List ℕ) (n : ℕ) → Wide w low text n → Number w low limit text n
wide_to w low limit some wide text n s =
    let c = s.value in
    let b = s.back.value in
    let is : text ≡ c ++ b ∷ [] =
    s.parts ∙ ap (λ (l : List ℕ). s.first ++ l) (s.back.parts ∙ ap (λ (l : List ℕ). s.back.first ++ l) s.back.back.empty
    ∙ append-nil s.back.first ∙ s.back.prefix.single) ∙ ap (λ (l : List ℕ). l ++ b ∷ []) s.prefix.same in
    let len : length (c ++ b ∷ []) ≡ byte_len w = omega (arith, length-append c (b ∷ []), s.prefix.len) in
    let fits : IsBytes (c ++ b ∷ []) = IsBytes-append c (b ∷ []) s.prefix.fits (one_fits b s.back.prefix.fits) in
    record {
      bytes = is ∙ sym (wide.back (c ++ b ∷ []) len fits) ∙ ap (to_le_bytes w) s.back.back.same;
      least = subst (λ (m : ℕ). low ≤ m) s.back.back.same (leb-true low (from_le_bytes w (c ++ b ∷ [])) s.back.prefix.passes);
      most = subst (λ (m : ℕ). m < limit) s.back.back.same (wide.below (c ++ b ∷ []) fits);
    }

wide_from : (w : Width) (low limit : ℕ) → 0 < byte_len w → IsWide w limit → (text : List ℕ) (n : ℕ) → Number w low limit text n → Wide w low text n
wide_from w low limit some wide text n h =
    let l = last_of (to_le_bytes w n) (byte_len w - 1) (omega (arith, wide.len n)) (low_first_fits 0 (byte_len w) n) in
    let again : from_le_bytes w (l.prefix ++ l.last ∷ []) ≡ n = ap (from_le_bytes w) (sym l.parts) ∙ wide.again n h.most in
    record {
      first = l.prefix;
      second = l.last ∷ [];
      value = l.prefix;
      parts = h.bytes ∙ l.parts;
      prefix = record { same = refl; len = l.len; fits = l.prefix_fits };
      back = record {
        first = l.last ∷ [];
        second = [];
        value = l.last;
        parts = refl;
        prefix = record { single = refl; passes = le-leb low (from_le_bytes w (l.prefix ++ l.last ∷ [])) (rw again h.least); fits = l.last_fits };
        back = record { empty = refl; same = again };
      };
    }

pub wide : (w : Width) (low limit : ℕ) → 0 < byte_len w → IsWide w limit → IsTopped w low → Exact (Number w low limit) (wide_at w low)
unfolding wide_at
wide w low limit some is top =
    transfer (Wide w low) (Number w low limit) (wide_at w low) (wide_to w low limit some is) (wide_from w low limit some is)
    (bind (Chunk (byte_len w - 1)) (λ c. Seq (One (large w low c)) (λ b. Nothing (from_le_bytes w (c ++ b ∷ [])))) (chunk (byte_len w - 1))
    (λ c bytes. byte_where (large w low c) bytes >>= λ b. Ok (from_le_bytes w (c ++ b.0 ∷ []), b.1)) (a_chunk (byte_len w - 1))
    (λ c t l. bind (One (large w low c)) (λ b. Nothing (from_le_bytes w (c ++ b ∷ []))) (byte_where (large w low c))
    (λ b bytes. Ok (from_le_bytes w (c ++ b ∷ []), bytes))
    (one (large w low c) 255 (le-leb low (from_le_bytes w (c ++ 255 ∷ [])) (top.topped c l.len)) (omega arith))
    (λ b u m. pure (from_le_bytes w (c ++ b ∷ [])))))

-- ---- counts

-- the four forms of a count
pub data Form (n : ℕ) : Type 0 where
  single : n < 253 → compact n ≡ n ∷ [] → Form n
  two : 253 ≤ n → n < 2 ^ 16 → compact n ≡ 253 ∷ to_le_bytes w16 n → Form n
  four : 2 ^ 16 ≤ n → n < 2 ^ 32 → compact n ≡ 254 ∷ to_le_bytes w32 n → Form n
  eight : 2 ^ 32 ≤ n → compact n ≡ 255 ∷ to_le_bytes w64 n → Form n

pub form_of : (n : ℕ) → Form n
unfolding compact
form_of n =
    elim (cases_lt n 253) [
      | inl lt ↦ single lt (rw (lt-ltb _ _ lt) refl)
      | inr le ↦ elim (cases_lt n (2 ^ 16)) [
        | inl lt2 ↦ two le lt2 (rw (le-ltb _ _ le, lt-ltb _ _ lt2) refl)
        | inr le2 ↦ elim (cases_lt n (2 ^ 32)) [
          | inl lt4 ↦ four le2 lt4 (rw (le-ltb _ _ le, le-ltb _ _ le2, lt-ltb _ _ lt4) refl)
          | inr le4 ↦ eight le4 (rw (le-ltb _ _ le, le-ltb _ _ le2, le-ltb _ _ le4) refl)
        ]
      ]
    ]

-- what stands behind the first byte of a count
record From (b : ℕ) (text : List ℕ) (n : ℕ) : Type 0 where
  is : b ∷ text ≡ compact n
  most : n < 2 ^ 64

single_to : (b : ℕ) → b < 253 → (t : List ℕ) (n : ℕ) → Nothing b t n → From b t n
unfolding compact
single_to b lt t n h = record { is = rw (h.empty, ← h.same, lt-ltb _ _ lt) refl; most = omega (arith, h.same) }

single_from : (b : ℕ) → b < 253 → (t : List ℕ) (n : ℕ) → From b t n → Form n → Nothing b t n
single_from b lt t n h (single _ e) = let q : b ∷ t ≡ n ∷ [] = h.is ∙ e in record { empty = cc; same = cc }
single_from b lt t n h (two _ _ e) = let q : b ∷ t ≡ 253 ∷ to_le_bytes w16 n = h.is ∙ e in let bad : b ≡ 253 = cc in absurd (omega arith)
single_from b lt t n h (four _ _ e) = let q : b ∷ t ≡ 254 ∷ to_le_bytes w32 n = h.is ∙ e in let bad : b ≡ 254 = cc in absurd (omega arith)
single_from b lt t n h (eight _ e) = let q : b ∷ t ≡ 255 ∷ to_le_bytes w64 n = h.is ∙ e in let bad : b ≡ 255 = cc in absurd (omega arith)

tail_is : (b : ℕ) (t u : List ℕ) → b ∷ t ≡ b ∷ u → t ≡ u
tail_is b t u e = cc

pub head_is : (a b : ℕ) (t u : List ℕ) → a ∷ t ≡ b ∷ u → a ≡ b
head_is a b t u e = cc

two_to : (t : List ℕ) (n : ℕ) → Number w16 253 (2 ^ 16) t n → Form n → From 253 t n
two_to t n h (single lt e) = absurd (omega (arith, h.least, h.most))
two_to t n h (two ge lt e) = record { is = ap (λ (l : List ℕ). 253 ∷ l) h.bytes ∙ sym e; most = omega (arith, h.most) }
two_to t n h (four ge lt e) = absurd (omega (arith, h.least, h.most))
two_to t n h (eight ge e) = absurd (omega (arith, h.least, h.most))

two_from : (t : List ℕ) (n : ℕ) → From 253 t n → Form n → Number w16 253 (2 ^ 16) t n
two_from t n h (single lt e) = let q : 253 ∷ t ≡ n ∷ [] = h.is ∙ e in let bad : 253 ≡ n = cc in absurd (omega arith)
two_from t n h (two ge lt e) =
    let q : 253 ∷ t ≡ 253 ∷ to_le_bytes w16 n = h.is ∙ e in record { bytes = tail_is 253 t (to_le_bytes w16 n) q; least = ge; most = lt }
two_from t n h (four ge lt e) = let q : 253 ∷ t ≡ 254 ∷ to_le_bytes w32 n = h.is ∙ e in absurd (omega (arith, head_is 253 254 t _ q))
two_from t n h (eight ge e) = let q : 253 ∷ t ≡ 255 ∷ to_le_bytes w64 n = h.is ∙ e in absurd (omega (arith, head_is 253 255 t _ q))

four_to : (t : List ℕ) (n : ℕ) → Number w32 (2 ^ 16) (2 ^ 32) t n → Form n → From 254 t n
four_to t n h (single lt e) = absurd (omega (arith, h.least, h.most))
four_to t n h (two ge lt e) = absurd (omega (arith, h.least, h.most))
four_to t n h (four ge lt e) = record { is = ap (λ (l : List ℕ). 254 ∷ l) h.bytes ∙ sym e; most = omega (arith, h.most) }
four_to t n h (eight ge e) = absurd (omega (arith, h.least, h.most))

four_from : (t : List ℕ) (n : ℕ) → From 254 t n → Form n → Number w32 (2 ^ 16) (2 ^ 32) t n
four_from t n h (single lt e) = let q : 254 ∷ t ≡ n ∷ [] = h.is ∙ e in let bad : 254 ≡ n = cc in absurd (omega arith)
four_from t n h (two ge lt e) = let q : 254 ∷ t ≡ 253 ∷ to_le_bytes w16 n = h.is ∙ e in absurd (omega (arith, head_is 254 253 t _ q))
four_from t n h (four ge lt e) =
    let q : 254 ∷ t ≡ 254 ∷ to_le_bytes w32 n = h.is ∙ e in record { bytes = tail_is 254 t (to_le_bytes w32 n) q; least = ge; most = lt }
four_from t n h (eight ge e) = let q : 254 ∷ t ≡ 255 ∷ to_le_bytes w64 n = h.is ∙ e in absurd (omega (arith, head_is 254 255 t _ q))

eight_to : (t : List ℕ) (n : ℕ) → Number w64 (2 ^ 32) (2 ^ 64) t n → Form n → From 255 t n
eight_to t n h (single lt e) = absurd (omega (arith, h.least, h.most))
eight_to t n h (two ge lt e) = absurd (omega (arith, h.least, h.most))
eight_to t n h (four ge lt e) = absurd (omega (arith, h.least, h.most))
eight_to t n h (eight ge e) = record { is = ap (λ (l : List ℕ). 255 ∷ l) h.bytes ∙ sym e; most = omega (arith, h.most) }

eight_from : (t : List ℕ) (n : ℕ) → From 255 t n → Form n → Number w64 (2 ^ 32) (2 ^ 64) t n
eight_from t n h (single lt e) = let q : 255 ∷ t ≡ n ∷ [] = h.is ∙ e in let bad : 255 ≡ n = cc in absurd (omega arith)
eight_from t n h (two ge lt e) = let q : 255 ∷ t ≡ 253 ∷ to_le_bytes w16 n = h.is ∙ e in absurd (omega (arith, head_is 255 253 t _ q))
eight_from t n h (four ge lt e) = let q : 255 ∷ t ≡ 254 ∷ to_le_bytes w32 n = h.is ∙ e in absurd (omega (arith, head_is 255 254 t _ q))
eight_from t n h (eight ge e) =
    let q : 255 ∷ t ≡ 255 ∷ to_le_bytes w64 n = h.is ∙ e in record { bytes = tail_is 255 t (to_le_bytes w64 n) q; least = ge; most = h.most }

from_single : (b : ℕ) → b < 253 → Exact (From b) (λ bytes. Ok (b, bytes))
from_single b lt = transfer (Nothing b) (From b) (λ bytes. Ok (b, bytes)) (single_to b lt) (λ t n h. single_from b lt t n h (form_of n)) (pure b)

from_two : Exact (From 253) (wide_at w16 253)
from_two = transfer (Number w16 253 (2 ^ 16)) (From 253) (wide_at w16 253) (λ t n h. two_to t n h (form_of n))
    (λ t n h. two_from t n h (form_of n)) (wide w16 253 (2 ^ 16) (lit< tt) wide16 topped16)

from_four : Exact (From 254) (wide_at w32 (2 ^ 16))
from_four = transfer (Number w32 (2 ^ 16) (2 ^ 32)) (From 254) (wide_at w32 (2 ^ 16)) (λ t n h. four_to t n h (form_of n))
    (λ t n h. four_from t n h (form_of n)) (wide w32 (2 ^ 16) (2 ^ 32) (lit< tt) wide32 topped32)

from_eight : Exact (From 255) (wide_at w64 (2 ^ 32))
from_eight = transfer (Number w64 (2 ^ 32) (2 ^ 64)) (From 255) (wide_at w64 (2 ^ 32)) (λ t n h. eight_to t n h (form_of n))
    (λ t n h. eight_from t n h (form_of n)) (wide w64 (2 ^ 32) (2 ^ 64) (lit< tt) wide64 topped64)

above : (b : ℕ) → 253 ≤ b → b < 256 → (x : Bool) → eqb b 253 ≡ x → (y : Bool) → eqb b 254 ≡ y → Exact (From b) (compact_from b)
above b le small true is y js =
    let e : b ≡ 253 = eqb-true _ _ is in
    same_reader (From b) (wide_at w16 253) (compact_from b) (λ bytes. rw (le-ltb _ _ le, is) refl)
    (subst (λ (k : ℕ). Exact (From k) (wide_at w16 253)) (sym e) from_two)
above b le small false is true js =
    let e : b ≡ 254 = eqb-true _ _ js in
    same_reader (From b) (wide_at w32 (2 ^ 16)) (compact_from b) (λ bytes. rw (le-ltb _ _ le, is, js) refl)
    (subst (λ (k : ℕ). Exact (From k) (wide_at w32 (2 ^ 16))) (sym e) from_four)
above b le small false is false js =
    let n3 : b ≢ 253 = eqb-false _ _ is in
    let n4 : b ≢ 254 = eqb-false _ _ js in
    let e : b ≡ 255 = omega arith in
    same_reader (From b) (wide_at w64 (2 ^ 32)) (compact_from b) (λ bytes. rw (le-ltb _ _ le, is, js) refl)
    (subst (λ (k : ℕ). Exact (From k) (wide_at w64 (2 ^ 32))) (sym e) from_eight)

from_byte : (b : ℕ) → b < 256 → Exact (From b) (compact_from b)
from_byte b small =
    elim (cases_lt b 253) [
      | inl lt ↦ same_reader (From b) (λ bytes. Ok (b, bytes)) (compact_from b) (λ bytes. rw (lt-ltb _ _ lt) refl) (from_single b lt)
      | inr le ↦ above b le small (eqb b 253) refl (eqb b 254) refl
    ]

no_empty : (n : ℕ) → Form n → [] ≡ compact n → ⊥
no_empty n (single lt e) h = let q : [] ≡ n ∷ [] = h ∙ e in cc
no_empty n (two ge lt e) h = let q : [] ≡ 253 ∷ to_le_bytes w16 n = h ∙ e in cc
no_empty n (four ge lt e) h = let q : [] ≡ 254 ∷ to_le_bytes w32 n = h ∙ e in cc
no_empty n (eight ge e) h = let q : [] ≡ 255 ∷ to_le_bytes w64 n = h ∙ e in cc

head_small : (b : ℕ) (rest : List ℕ) (n : ℕ) → b ∷ rest ≡ compact n → Form n → b < 256
head_small b rest n h (single lt e) = omega (arith, head_is b n rest [] (h ∙ e))
head_small b rest n h (two ge lt e) = omega (arith, head_is b 253 rest _ (h ∙ e))
head_small b rest n h (four ge lt e) = omega (arith, head_is b 254 rest _ (h ∙ e))
head_small b rest n h (eight ge e) = omega (arith, head_is b 255 rest _ (h ∙ e))

-- a count whose first byte passes the test
pub record Count (p : ℕ → Bool) (text : List ℕ) (n : ℕ) : Type 0 where
  pub bytes : text ≡ compact n
  pub most : n < 2 ^ 64
  pub head : (b : ℕ) → (rest : List ℕ) → text ≡ b ∷ rest → p b ≡ true

count_to : (p : ℕ → Bool) (text : List ℕ) (n : ℕ) → Seq (One p) From text n → Count p text n
count_to p text n s =
    let is : text ≡ s.value ∷ s.second = s.parts ∙ ap (λ (l : List ℕ). l ++ s.second) s.prefix.single in
    record {
      bytes = is ∙ s.back.is;
      most = s.back.most;
      head = λ b rest e. let same : s.value ≡ b = head_is s.value b s.second rest (sym is ∙ e) in ap p (sym same) ∙ s.prefix.passes;
    }

count_from : (p : ℕ → Bool) (text : List ℕ) (n : ℕ) → Count p text n → Seq (One p) From text n
count_from p [] n h = absurd (no_empty n (form_of n) h.bytes)
count_from p (b ∷ rest) n h = record {
  first = b ∷ [];
  second = rest;
  value = b;
  parts = refl;
  prefix = record { single = refl; passes = h.head b rest refl; fits = head_small b rest n h.bytes (form_of n) };
  back = record { is = h.bytes; most = h.most };
}

pub count : (p : ℕ → Bool) (w : ℕ) → p w ≡ true → w < 256 → Exact (Count p) (compact_at p)
unfolding compact_at
count p w passes small = transfer (Seq (One p) From) (Count p) (compact_at p) (count_to p) (count_from p)
    (bind (One p) From (byte_where p) compact_from (one p w passes small) (λ b t l. from_byte b l.fits))

-- ---- strings of bytes

pub record Text (text bytes : List ℕ) : Type 0 where
  pub same : text ≡ sized bytes
  pub most : length bytes < 2 ^ 64
  pub fits : IsBytes bytes

string_to : (text bytes : List ℕ) → Seq (Count any) Chunk text bytes → Text text bytes
string_to text bytes s =
    let is : s.first ++ s.second ≡ compact (length bytes) ++ bytes = rw (s.prefix.bytes, s.back.same, s.back.len) refl in
    record { same = s.parts ∙ is; most = omega (arith, s.back.len, s.prefix.most); fits = s.back.fits }

string_from : (text bytes : List ℕ) → Text text bytes → Seq (Count any) Chunk text bytes
string_from text bytes h = record {
  first = compact (length bytes);
  second = bytes;
  value = length bytes;
  parts = h.same;
  prefix = record { bytes = refl; most = h.most; head = λ b rest e. refl };
  back = record { same = refl; len = refl; fits = h.fits };
}

pub a_string : Exact Text string_at
unfolding string_at
a_string = transfer (Seq (Count any) Chunk) Text string_at string_to string_from
    (bind (Count any) Chunk (compact_at any) chunk (count any 0 refl (lit< tt)) (λ n t l. a_chunk n))

-- ---- counts that are not zero

pub counted_some : (n : ℕ) (text : List ℕ) → Count not_zero text n → (m : ℕ) → m ≡ n → 0 < m
unfolding compact
counted_some zero text c m e = let bad : not_zero 0 ≡ true = c.head 0 [] c.bytes in absurd cc
counted_some (suc n) text c m e = omega arith

not_zero_of : (b : ℕ) → 0 < b → not_zero b ≡ true
not_zero_of b h = elim (eqb_tells b 0) [ inl w ↦ absurd (omega (arith, w.1)) | inr w ↦ rw w.0 refl ]

pub not_zero_head : (n : ℕ) → 0 < n → (b : ℕ) (rest : List ℕ) → Form n → compact n ≡ b ∷ rest → not_zero b ≡ true
not_zero_head n some b rest (single lt e) h = let is : n ≡ b = head_is n b [] rest (sym e ∙ h) in not_zero_of b (omega arith)
not_zero_head n some b rest (two ge lt e) h = let is : 253 ≡ b = head_is 253 b _ rest (sym e ∙ h) in subst (λ (x : ℕ). not_zero x ≡ true) is refl
not_zero_head n some b rest (four ge lt e) h = let is : 254 ≡ b = head_is 254 b _ rest (sym e ∙ h) in subst (λ (x : ℕ). not_zero x ≡ true) is refl
not_zero_head n some b rest (eight ge e) h = let is : 255 ≡ b = head_is 255 b _ rest (sym e ∙ h) in subst (λ (x : ℕ). not_zero x ≡ true) is refl
