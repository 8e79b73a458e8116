-- What is read in Base64 is what is written of the bytes.
use Rattle.std.proofs.Common.{◌≡◌, ℕ, zero, suc, ◌+◌, ◌*◌, ◌/◌, ◌%◌, ◌<◌, List, [], ◌∷◌, ◌++◌, Bool, true, false, Option, Some, None, refl, sym, ap, subst, ◌∙◌, arith, append-nil}
use Rattle.std.specs.Prelude.{◌==◌, if◌then◌else◌}
use Rattle.std.proofs.lemmas.Bool.{eqb-true}
use Rattle.spec_data.specs.Hashes.{IsBytes}
use Rattle.spec_text.specs.Words.{given}
use Rattle.spec_tool.specs.Base64.{padding, symbol_of, base64_text, value_of, first_byte, second_byte, third_byte, whole_group, two_group, one_group, joined, base64_bytes}
use Rattle.theory_psbt.proofs.Base64Symbols.{some, some_is, IsSymbol, symbol_of_value}
use Rattle.theory_psbt.proofs.Base64ReadBack.{whole_by, two_by, one_by}

-- a text is that of these bytes
pub record IsOf (text bytes : List ℕ) : Type 0 where
  pub same : text ≡ base64_text bytes
  pub each : IsBytes bytes

-- ---- bytes

none_bytes : IsBytes []
none_bytes i = omega arith

one_more : (x : ℕ) (xs : List ℕ) → x < 256 → IsBytes xs → IsBytes (x ∷ xs)
one_more x xs h k zero = h
one_more x xs h k (suc i) = k i

none_is : IsOf [] []
unfolding base64_text
none_is = record { same = refl; each = none_bytes }

given_is : (t : Bool) (x y : List ℕ) → given t x ≡ some y → (t ≡ true) × (x ≡ y)
given_is true x y h = (refl, some_is x y h)
given_is false x y h = absurd cc

-- ---- groups whose symbols have these values

three_are : (a b c d v w x y : ℕ) (text rest : List ℕ) → IsSymbol a v → IsSymbol b w → IsSymbol c x → IsSymbol d y → IsOf text rest
    → IsOf (a ∷ b ∷ c ∷ d ∷ text) (first_byte v w ∷ second_byte w x ∷ third_byte x y ∷ rest)
unfolding base64_text
three_are a b c d v w x y text rest p q r s later =
    let lv = p.small in
    let lw = q.small in
    let lx = r.small in
    let ly = s.small in
    let e0 : v ≡ first_byte v w / 4 = omega arith in
    let e1 : w ≡ first_byte v w % 4 * 16 + second_byte w x / 16 = omega arith in
    let e2 : x ≡ second_byte w x % 16 * 4 + third_byte x y / 64 = omega arith in
    let e3 : y ≡ third_byte x y % 64 = omega arith in
    let f0 = sym p.is ∙ ap symbol_of e0 in
    let f1 = sym q.is ∙ ap symbol_of e1 in
    let f2 = sym r.is ∙ ap symbol_of e2 in
    let f3 = sym s.is ∙ ap symbol_of e3 in
    let f4 = later.same in
    let h0 : first_byte v w < 256 = omega arith in
    let h1 : second_byte w x < 256 = omega arith in
    let h2 : third_byte x y < 256 = omega arith in
    record {
      same = λ i. f0 i ∷ f1 i ∷ f2 i ∷ f3 i ∷ f4 i;
      each = one_more _ (second_byte w x ∷ third_byte x y ∷ rest) h0 (one_more _ (third_byte x y ∷ rest) h1 (one_more _ rest h2 later.each));
    }

two_are : (a b c v w x : ℕ) → IsSymbol a v → IsSymbol b w → IsSymbol c x → x % 4 ≡ 0
    → IsOf (a ∷ b ∷ c ∷ padding ∷ []) (first_byte v w ∷ second_byte w x ∷ [])
unfolding base64_text
two_are a b c v w x p q r whole =
    let lv = p.small in
    let lw = q.small in
    let lx = r.small in
    let e0 : v ≡ first_byte v w / 4 = omega arith in
    let e1 : w ≡ first_byte v w % 4 * 16 + second_byte w x / 16 = omega arith in
    let e2 : x ≡ second_byte w x % 16 * 4 = omega arith in
    let f0 = sym p.is ∙ ap symbol_of e0 in
    let f1 = sym q.is ∙ ap symbol_of e1 in
    let f2 = sym r.is ∙ ap symbol_of e2 in
    let h0 : first_byte v w < 256 = omega arith in
    let h1 : second_byte w x < 256 = omega arith in
    record { same = λ i. f0 i ∷ f1 i ∷ f2 i ∷ padding ∷ []; each = one_more _ (second_byte w x ∷ []) h0 (one_more _ [] h1 none_bytes) }

one_is : (a b v w : ℕ) → IsSymbol a v → IsSymbol b w → w % 16 ≡ 0 → IsOf (a ∷ b ∷ padding ∷ padding ∷ []) (first_byte v w ∷ [])
unfolding base64_text
one_is a b v w p q whole =
    let lv = p.small in
    let lw = q.small in
    let e0 : v ≡ first_byte v w / 4 = omega arith in
    let e1 : w ≡ first_byte v w % 4 * 16 = omega arith in
    let f0 = sym p.is ∙ ap symbol_of e0 in
    let f1 = sym q.is ∙ ap symbol_of e1 in
    let h0 : first_byte v w < 256 = omega arith in
    record { same = λ i. f0 i ∷ f1 i ∷ padding ∷ padding ∷ []; each = one_more _ [] h0 none_bytes }

-- ---- groups that are read

whole_only : (a b c d : ℕ) (o p q r : Option ℕ) (prefix text rest : List ℕ) → value_of a ≡ o → value_of b ≡ p → value_of c ≡ q → value_of d ≡ r
    → whole_by o p q r ≡ some prefix → IsOf text rest → IsOf (a ∷ b ∷ c ∷ d ∷ text) (prefix ++ rest)
whole_only a b c d None p q r prefix text rest ea eb ec ed h later = absurd cc
whole_only a b c d (Some v) None q r prefix text rest ea eb ec ed h later = absurd cc
whole_only a b c d (Some v) (Some w) None r prefix text rest ea eb ec ed h later = absurd cc
whole_only a b c d (Some v) (Some w) (Some x) None prefix text rest ea eb ec ed h later = absurd cc
whole_only a b c d (Some v) (Some w) (Some x) (Some y) prefix text rest ea eb ec ed h later =
    let three = first_byte v w ∷ second_byte w x ∷ third_byte x y ∷ [] in
    subst (λ (f : List ℕ). IsOf (a ∷ b ∷ c ∷ d ∷ text) (f ++ rest)) (some_is three prefix h)
    (three_are a b c d v w x y text rest (symbol_of_value a v ea) (symbol_of_value b w eb) (symbol_of_value c x ec) (symbol_of_value d y ed) later)

two_only : (a b c : ℕ) (o p q : Option ℕ) (bytes : List ℕ) → value_of a ≡ o → value_of b ≡ p → value_of c ≡ q
    → two_by o p q ≡ some bytes → IsOf (a ∷ b ∷ c ∷ padding ∷ []) bytes
two_only a b c None p q bytes ea eb ec h = absurd cc
two_only a b c (Some v) None q bytes ea eb ec h = absurd cc
two_only a b c (Some v) (Some w) None bytes ea eb ec h = absurd cc
two_only a b c (Some v) (Some w) (Some x) bytes ea eb ec h =
    let g = given_is (x % 4 == 0) (first_byte v w ∷ second_byte w x ∷ []) bytes h in
    subst (λ (f : List ℕ). IsOf (a ∷ b ∷ c ∷ padding ∷ []) f) g.1
    (two_are a b c v w x (symbol_of_value a v ea) (symbol_of_value b w eb) (symbol_of_value c x ec) (eqb-true (x % 4) 0 g.0))

one_only : (a b : ℕ) (o p : Option ℕ) (bytes : List ℕ) → value_of a ≡ o → value_of b ≡ p → one_by o p ≡ some bytes
    → IsOf (a ∷ b ∷ padding ∷ padding ∷ []) bytes
one_only a b None p bytes ea eb h = absurd cc
one_only a b (Some v) None bytes ea eb h = absurd cc
one_only a b (Some v) (Some w) bytes ea eb h =
    let g = given_is (w % 16 == 0) (first_byte v w ∷ []) bytes h in
    subst (λ (f : List ℕ). IsOf (a ∷ b ∷ padding ∷ padding ∷ []) f) g.1
    (one_is a b v w (symbol_of_value a v ea) (symbol_of_value b w eb) (eqb-true (w % 16) 0 g.0))

-- the last group by whether its last symbols are paddings
last_only : (a b c d : ℕ) (t u : Bool) (bytes : List ℕ) → (d == padding) ≡ t → (c == padding) ≡ u
    → (if t then (if u then one_group a b else two_group a b c) else whole_group a b c d) ≡ some bytes → IsOf (a ∷ b ∷ c ∷ d ∷ []) bytes
last_only a b c d true true bytes et eu h =
    let pd : padding ≡ d = sym (eqb-true d padding et) in
    let pc : padding ≡ c = sym (eqb-true c padding eu) in
    let r = one_only a b (value_of a) (value_of b) bytes refl refl h in
    subst (λ (x : ℕ). IsOf (a ∷ b ∷ x ∷ d ∷ []) bytes) pc (subst (λ (x : ℕ). IsOf (a ∷ b ∷ padding ∷ x ∷ []) bytes) pd r)
last_only a b c d true false bytes et eu h =
    let pd : padding ≡ d = sym (eqb-true d padding et) in
    subst (λ (x : ℕ). IsOf (a ∷ b ∷ c ∷ x ∷ []) bytes) pd (two_only a b c (value_of a) (value_of b) (value_of c) bytes refl refl refl h)
last_only a b c d false u bytes et eu h =
    subst (λ (f : List ℕ). IsOf (a ∷ b ∷ c ∷ d ∷ []) f) (append-nil bytes)
    (whole_only a b c d (value_of a) (value_of b) (value_of c) (value_of d) bytes [] [] refl refl refl refl h
    none_is)

-- ---- the whole

pub record AreBoth (o p : Option (List ℕ)) (bytes : List ℕ) : Type 0 where
  pub prefix : List ℕ
  pub more : List ℕ
  pub first : o ≡ some prefix
  pub later : p ≡ some more
  pub all : prefix ++ more ≡ bytes

both_are : (o p : Option (List ℕ)) (bytes : List ℕ) → joined o p ≡ some bytes → AreBoth o p bytes
both_are None p bytes h = absurd cc
both_are (Some prefix) None bytes h = absurd cc
both_are (Some prefix) (Some more) bytes h =
    record { prefix = prefix; more = more; first = refl; later = refl; all = some_is (prefix ++ more) bytes h }

pub bytes_only : (text bytes : List ℕ) → base64_bytes text ≡ some bytes → IsOf text bytes
unfolding base64_bytes
bytes_only [] bytes h = subst (λ (b : List ℕ). IsOf [] b) (some_is [] bytes h) none_is
bytes_only (a ∷ []) bytes h = absurd cc
bytes_only (a ∷ b ∷ []) bytes h = absurd cc
bytes_only (a ∷ b ∷ c ∷ []) bytes h = absurd cc
bytes_only (a ∷ b ∷ c ∷ d ∷ []) bytes h = last_only a b c d (d == padding) (c == padding) bytes refl refl h
bytes_only (a ∷ b ∷ c ∷ d ∷ e ∷ rest) bytes h =
    let both = both_are (whole_group a b c d) (base64_bytes (e ∷ rest)) bytes h in
    let later = bytes_only (e ∷ rest) both.more both.later in
    subst (λ (f : List ℕ). IsOf (a ∷ b ∷ c ∷ d ∷ e ∷ rest) f) both.all
    (whole_only a b c d (value_of a) (value_of b) (value_of c) (value_of d) both.prefix (e ∷ rest) both.more refl refl refl refl both.first later)
