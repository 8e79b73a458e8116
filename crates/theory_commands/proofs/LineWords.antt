-- Words of a line are read as what they spell.
use Rattle.std.proofs.Common.{◌≡◌, ℕ, ◌+◌, ◌-◌, ◌*◌, ◌≤◌, ◌<◌, ◌^◌, Bool, true, false, ◌==◌, List, [], ◌∷◌, length, Option, Some, None}
use Rattle.std.proofs.Common.{refl, sym, ap, subst, ◌∙◌, inl, inr, arith}
use Rattle.std.specs.Prelude.{◌⊎◌, ◌&&◌, ◌||◌, if◌then◌else◌, nat_le}
use Rattle.std.specs.Fmt.{decimal}
use Rattle.std.specs.List.{Contains, AllZip}
use Rattle.std.specs.Str.{bytes_eq}
use Rattle.std.proofs.lemmas.Bool.Decides.{nat_tests}
use Rattle.std.proofs.lemmas.Slice.Eq.{bytes_eq-Decides}
use Rattle.spec_data.specs.Digits.{is_digit, hex_digit_value, hex_pair, hex_bytes, read_hex}
use Rattle.spec_data.specs.Lists.{is_among}
use Rattle.spec_terms.specs.Readable.{is_name}
use Rattle.spec_text.specs.RunText.{output_text}
use Rattle.spec_text.specs.Words.{◌>>=◌, given, small, amount, output, a_name, one_of, digest, all_of}
use Rattle.theory_calculus.specs.Members.{Is_in}
use Rattle.theory_calculus.proofs.Members.{in_from_contains, contains_from_in}
use Rattle.theory_text.proofs.Options.{some, some_is, none_some, came, onto_is, given_is}
use Rattle.theory_text.proofs.Lines.Decimals.{number_less, small_back, guarded}
use Rattle.theory_text.proofs.Lines.PrintedWords.{small_word, amount_word, output_word}
use Rattle.theory_commands.specs.LineForms.{IsSmall, IsName, IsHexDigit, AreHex, SpellsBytes, SpellsDigest}

-- ---- numbers, outputs and names

pub record IsNumber (bound : ℕ) (word : List ℕ) (n : ℕ) : Type 0 where
  pub word' : word ≡ decimal n
  pub less : n < bound

pub small_spelled : (word : List ℕ) (n : ℕ) → small word ≡ some n → IsNumber (2 ^ 32) word n
small_spelled word n h = record { word' = sym (small_word word n h); less = number_less (2 ^ 32) word n h }

pub amount_spelled : (word : List ℕ) (n : ℕ) → amount word ≡ some n → IsNumber (2 ^ 64) word n
amount_spelled word n h = record { word' = sym (amount_word word n h); less = number_less (2 ^ 64) word n h }

pub record IsOutput (word : List ℕ) (n : ℕ) : Type 0 where
  pub word' : word ≡ output_text n
  pub less : IsSmall n

pub output_spelled : (word : List ℕ) (n : ℕ) → output word ≡ some n → IsOutput word n
output_spelled [] n h = absurd (none_some n h)
output_spelled (b ∷ bytes) n h =
    let g = guarded (b == 35) (small bytes) n h in
    record { word' = sym (output_word (b ∷ bytes) n h); less = number_less (2 ^ 32) bytes n g.then' }

pub output_back : (n : ℕ) → IsSmall n → output (output_text n) ≡ some n
output_back n h = small_back n h

-- one of names stands among them
among_in : (a : List ℕ) (names : List (List ℕ)) → is_among a names ≡ true → Is_in a names
among_in a [] h = absurd (cc)
among_in a (name ∷ names) h = by_first (bytes_eq name a) refl h (among_in a names)
  where
    by_first : (t : Bool) → bytes_eq name a ≡ t → (t || is_among a names) ≡ true → (is_among a names ≡ true → Is_in a names)
        → Is_in a (name ∷ names)
    by_first true e k later = inl (sym ((bytes_eq-Decides name a).0 e))
    by_first false e k later = inr (later k)

in_among : (a : List ℕ) (names : List (List ℕ)) → Is_in a names → is_among a names ≡ true
in_among a [] h = absurd h
in_among a (name ∷ names) (inl h) = ap (λ (t : Bool). t || is_among a names) ((bytes_eq-Decides name a).1 (sym h))
in_among a (name ∷ names) (inr h) = by_first (bytes_eq name a) (in_among a names h)
  where
    by_first : (t : Bool) → is_among a names ≡ true → (t || is_among a names) ≡ true
    by_first true e = refl
    by_first false e = e

pub among_is : (a : List ℕ) (names : List (List ℕ)) → is_among a names ≡ true → Contains names a
among_is a names h = contains_from_in names a (among_in a names h)

pub is_among_names : (a : List ℕ) (names : List (List ℕ)) → Contains names a → is_among a names ≡ true
is_among_names a names h = in_among a names (in_from_contains names a h)

pub record IsOne (names : List (List ℕ)) (word a : List ℕ) : Type 0 where
  pub word' : word ≡ a
  pub there : Contains names a

pub one_spelled : (names : List (List ℕ)) (word a : List ℕ) → one_of names word ≡ some a → IsOne names word a
one_spelled names word a h =
    let g = given_is (is_among word names) word a h in
    record { word' = g.same; there = subst (Contains names) g.same (among_is word names g.holds) }

pub one_back : (names : List (List ℕ)) (a : List ℕ) → Contains names a → one_of names a ≡ some a
one_back names a h = ap (λ (t : Bool). given t a) (is_among_names a names h)

pub record IsNamed (word x : List ℕ) : Type 0 where
  pub word' : word ≡ x
  pub name : IsName x

pub name_spelled : (word x : List ℕ) → a_name word ≡ some x → IsNamed word x
name_spelled word x h =
    let g = given_is (is_name word) word x h in record { word' = g.same; name = subst IsName g.same g.holds }

pub name_back : (x : List ℕ) → IsName x → a_name x ≡ some x
name_back x h = ap (λ (t : Bool). given t x) h

-- ---- hexadecimal digits

digit_by : (t : Bool) (n : ℕ) (later : Option ℕ) (v : ℕ) (P : Type 0) → (if t then some n else later) ≡ some v → (t ≡ true → n ≡ v → P)
    → (later ≡ some v → P) → P
digit_by true n later v P h f g = f refl (some_is n v h)
digit_by false n later v P h f g = g h

digit_spelled : (c v : ℕ) → hex_digit_value c ≡ some v → IsHexDigit c v
digit_spelled c v h =
    digit_by (is_digit c) (c - 48) _ v (IsHexDigit c v) h (λ t e. inl (low t e)) (λ h1.
    digit_by (nat_le 97 c && nat_le c 102) (c - 87) _ v (IsHexDigit c v) h1 (λ t e. inr (small_letter t e)) (λ h2.
    digit_by (nat_le 65 c && nat_le c 70) (c - 55) _ v (IsHexDigit c v) h2 (λ t e. inr (capital t e)) (λ h3. absurd (none_some v h3))))
  where
    low : is_digit c ≡ true → c - 48 ≡ v → (v < 10) × (c ≡ 48 + v)
    low t e = let l : v < 10 = grind (arith, nat_tests) in let s : c ≡ 48 + v = grind (arith, nat_tests) in (l, s)

    small_letter : (nat_le 97 c && nat_le c 102) ≡ true → c - 87 ≡ v → (10 ≤ v) × (v < 16) × ((c ≡ 87 + v) ⊎ (c ≡ 55 + v))
    small_letter t e =
        let l : 10 ≤ v = grind (arith, nat_tests) in
        let m : v < 16 = grind (arith, nat_tests) in
        let s : c ≡ 87 + v = grind (arith, nat_tests) in
        (l, m, inl s)

    capital : (nat_le 65 c && nat_le c 70) ≡ true → c - 55 ≡ v → (10 ≤ v) × (v < 16) × ((c ≡ 87 + v) ⊎ (c ≡ 55 + v))
    capital t e =
        let l : 10 ≤ v = grind (arith, nat_tests) in
        let m : v < 16 = grind (arith, nat_tests) in
        let s : c ≡ 55 + v = grind (arith, nat_tests) in
        (l, m, inr s)

digit_back : (c v : ℕ) → IsHexDigit c v → hex_digit_value c ≡ some v
digit_back c v (inl h) =
    let t : is_digit c ≡ true = low c v (h.0) (h.1) in let n : c - 48 ≡ v = omega (arith, h.1) in rw t (ap some n)
  where
    low : (c v : ℕ) → v < 10 → c ≡ 48 + v → is_digit c ≡ true
    low c v less e = grind (arith, nat_tests)
digit_back c v (inr (more, less, inl e)) =
    let n : c - 87 ≡ v = omega (arith, e) in rw (no_digit c v more e, letter c v more less e) (ap some n)
  where
    no_digit : (c v : ℕ) → 10 ≤ v → c ≡ 87 + v → is_digit c ≡ false
    no_digit c v more e = grind (arith, nat_tests)

    letter : (c v : ℕ) → 10 ≤ v → v < 16 → c ≡ 87 + v → (nat_le 97 c && nat_le c 102) ≡ true
    letter c v more less e = grind (arith, nat_tests)
digit_back c v (inr (more, less, inr e)) =
    let n : c - 55 ≡ v = omega (arith, e) in rw (no_digit c v more less e, no_letter c v less e, letter c v more less e) (ap some n)
  where
    no_digit : (c v : ℕ) → 10 ≤ v → v < 16 → c ≡ 55 + v → is_digit c ≡ false
    no_digit c v more less e = grind (arith, nat_tests)

    no_letter : (c v : ℕ) → v < 16 → c ≡ 55 + v → (nat_le 97 c && nat_le c 102) ≡ false
    no_letter c v less e = grind (arith, nat_tests)

    letter : (c v : ℕ) → 10 ≤ v → v < 16 → c ≡ 55 + v → (nat_le 65 c && nat_le c 70) ≡ true
    letter c v more less e = grind (arith, nat_tests)

-- two digits and the byte that they are
pub record ArePair (a b : Option ℕ) (v : ℕ) : Type 0 where
  pub high : ℕ
  pub low : ℕ
  pub first : a ≡ some high
  pub second : b ≡ some low
  pub is : high * 16 + low ≡ v

pair_is : (a b : Option ℕ) (v : ℕ) → hex_pair a b ≡ some v → ArePair a b v
pair_is (Some high) (Some low) v h =
    record { high = high; low = low; first = refl; second = refl; is = some_is (high * 16 + low) v h }
pair_is (Some high) None v h = absurd (none_some v h)
pair_is None b v h = absurd (none_some v h)

hex_spelled : (word bytes : List ℕ) → hex_bytes word ≡ some bytes → AreHex word bytes
hex_spelled [] bytes h = sym (some_is [] bytes h)
hex_spelled (c ∷ []) bytes h = none_some bytes h
hex_spelled (c ∷ d ∷ cs) bytes h =
    let o = onto_is (hex_pair (hex_digit_value c) (hex_digit_value d)) (hex_bytes cs) bytes h in
    let p = pair_is (hex_digit_value c) (hex_digit_value d) o.first o.is in (
      p.high,
      p.low,
      o.others,
      o.all ∙ ap (λ (b : ℕ). b ∷ o.others) (sym p.is),
      digit_spelled c p.high p.first,
      digit_spelled d p.low p.second,
      hex_spelled cs o.others o.are,
    )

hex_back : (word bytes : List ℕ) → AreHex word bytes → hex_bytes word ≡ some bytes
hex_back [] bytes h = ap some (sym h)
hex_back (c ∷ []) bytes h = absurd h
hex_back (c ∷ d ∷ cs) bytes (high, low, rest, e, first, second, more) =
    rw (digit_back c high first, digit_back d low second, hex_back cs rest more) (ap some (sym e))

pub bytes_spelled : (word bytes : List ℕ) → read_hex word ≡ some bytes → SpellsBytes word bytes
bytes_spelled [] bytes h = absurd (none_some bytes h)
bytes_spelled (c ∷ cs) bytes h = (hex_spelled (c ∷ cs) bytes h, λ e. absurd (cc))

pub bytes_back : (word bytes : List ℕ) → SpellsBytes word bytes → read_hex word ≡ some bytes
bytes_back [] bytes h = absurd (h.1 refl)
bytes_back (c ∷ cs) bytes h = hex_back (c ∷ cs) bytes h.0

size_is : (bytes : List ℕ) → (length bytes == 32) ≡ true → length bytes ≡ 32
size_is bytes h = grind (arith, nat_tests)

is_size : (bytes : List ℕ) → length bytes ≡ 32 → (length bytes == 32) ≡ true
is_size bytes h = grind (arith, nat_tests)

pub digest_spelled : (word bytes : List ℕ) → digest word ≡ some bytes → SpellsDigest word bytes
digest_spelled word bytes h =
    let c = came (read_hex word) (λ bs. given (length bs == 32) bs) bytes h in
    let g = given_is (length c.first == 32) c.first bytes c.then' in
    subst (SpellsDigest word) g.same (bytes_spelled word c.first c.is, size_is c.first g.holds)

pub digest_back : (word bytes : List ℕ) → SpellsDigest word bytes → digest word ≡ some bytes
digest_back word bytes h =
    ap (λ (o : Option (List ℕ)). o >>= λ bs. given (length bs == 32) bs) (bytes_back word bytes (h.0))
    ∙ ap (λ (t : Bool). given t bytes) (is_size bytes (h.1))

-- ---- all words of a kind

pub all_spelled : {A : Type 0} (read : List ℕ → Option A) (Spells : List ℕ → A → Type 0)
    → ((word : List ℕ) (x : A) → read word ≡ some x → Spells word x) → (words : List (List ℕ)) (xs : List A) → all_of read words ≡ some xs
    → AllZip Spells words xs
all_spelled read Spells f [] xs h = subst (AllZip Spells []) (some_is [] xs h) tt
all_spelled read Spells f (word ∷ words) xs h =
    let o = onto_is (read word) (all_of read words) xs h in
    subst (AllZip Spells (word ∷ words)) (sym o.all) (f word o.first o.is, all_spelled read Spells f words o.others o.are)

pub all_back : {A : Type 0} (read : List ℕ → Option A) (Spells : List ℕ → A → Type 0)
    → ((word : List ℕ) (x : A) → Spells word x → read word ≡ some x) → (words : List (List ℕ)) (xs : List A) → AllZip Spells words xs
    → all_of read words ≡ some xs
all_back read Spells f [] [] h = refl
all_back read Spells f [] (x ∷ xs) h = absurd h
all_back read Spells f (word ∷ words) [] h = absurd h
all_back read Spells f (word ∷ words) (x ∷ xs) h = rw (f word x (h.0), all_back read Spells f words xs (h.1)) refl
