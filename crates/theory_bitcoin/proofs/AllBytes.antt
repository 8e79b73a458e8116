-- All of the bytes: a value, or the place where they go wrong.
use Rattle.std.proofs.Common.{◌≡◌, ℕ, ◌+◌, ◌-◌, ◌<◌, ◌≤◌, List, [], ◌∷◌, ◌++◌, length, take, Result, Ok, Err, refl, sym, ap, subst, ◌∙◌, append_assoc, arith}
use Rattle.std.proofs.lemmas.List.{append-nil, length-append, take_at}
use Rattle.spec_bitcoin.specs.Spelling.{IsBytes}
use Rattle.theory_bitcoin.proofs.Exact.{Exact, ok_is}
use Rattle.theory_bitcoin.proofs.Languages.{longer}

-- the bytes spell nothing, and p is the length of their longest prefix that begins a text
pub record BadAt {A : Type 0} (L : List ℕ → A → Type 0) (bytes : List ℕ) (p : ℕ) : Type 0 where
  pub none : (a : A) → L bytes a → ⊥
  pub within : p ≤ length bytes
  pub more : List ℕ
  pub value : A
  pub begins : L (take p bytes ++ more) value
  pub longest : (q : ℕ) → p < q → q ≤ length bytes → (further : List ℕ) (a : A) → L (take q bytes ++ further) a → ⊥

abbrev w_prefix : List ℕ → ℕ → List ℕ → List ℕ → List ℕ
w_prefix prefix c within further = prefix ++ c ∷ (within ++ further)

bad_from : {A : Type 0} (L : List ℕ → A → Type 0) (bytes prefix rest more : List ℕ) (value : A) → bytes ≡ prefix ++ rest → L (prefix ++ more) value
    → ((a : A) → L bytes a → ⊥) → ((c : ℕ) (after further : List ℕ) (a : A) → rest ≡ c ∷ after → L (prefix ++ c ∷ further) a → ⊥)
    → BadAt L bytes (length bytes - length rest)
bad_from L bytes prefix rest more value parts begins none stops =
    let len : length bytes ≡ length prefix + length rest = ap length parts ∙ length-append prefix rest in
    let place : length bytes - length rest ≡ length prefix = omega arith in
    let prefixes : take (length bytes - length rest) bytes ≡ prefix = rw (place, parts) (take_at prefix rest (length prefix) refl) in
    record {
      none = none;
      within = omega arith;
      more = more;
      value = value;
      begins = rw prefixes begins;
      longest = λ q lt le further a l.
          let w = longer prefix rest q (omega arith) (subst (λ (b : List ℕ). q ≤ length b) parts le) in
          let is : take q bytes ++ further ≡ w_prefix prefix w.0 w.2 further =
          ap (λ (b : List ℕ). take q b ++ further) parts ∙ ap (λ (b : List ℕ). b ++ further) w.4 ∙ append_assoc prefix (w.0 ∷ w.2) further in
          stops w.0 w.1 (w.2 ++ further) a w.3 (subst (λ (t : List ℕ). L t a) is l);
    }

stopped_none : {A : Type 0} (L : List ℕ → A → Type 0) (read : List ℕ → Result (A × List ℕ) ℕ) → Exact L read
    → (bytes : List ℕ) (left : ℕ) (a : A) → read bytes ≡ Err left → L bytes a → ⊥
stopped_none L read x bytes left a e l =
    let again : read bytes ≡ Ok (a, []) = ap read (sym (append-nil bytes)) ∙ x.again bytes [] a l in
    absurd cc

whole_rest : {A : Type 0} (L : List ℕ → A → Type 0) (read : List ℕ → Result (A × List ℕ) ℕ) → Exact L read
    → (bytes : List ℕ) (a : A) (rest : List ℕ) (b : A) → read bytes ≡ Ok (a, rest) → L bytes b → rest ≡ []
whole_rest L read x bytes a rest b e l =
    let again : read bytes ≡ Ok (b, []) = ap read (sym (append-nil bytes)) ∙ x.again bytes [] b l in
    ap (λ (p : _ × List ℕ). p.1) (ok_is (a, rest) (b, []) (sym e ∙ again))

-- no text begins another
pub nothing_after : {A : Type 0} (L : List ℕ → A → Type 0) (read : List ℕ → Result (A × List ℕ) ℕ) → Exact L read → (text : List ℕ) (a : A)
    → L text a → (c : ℕ) (further : List ℕ) (b : A) → L (text ++ c ∷ further) b → ⊥
nothing_after L read x text a l c further b m =
    let one : read (text ++ c ∷ further) ≡ Ok (a, c ∷ further) = x.again text (c ∷ further) a l in
    let two : read (text ++ c ∷ further) ≡ Ok (b, []) = ap read (sym (append-nil (text ++ c ∷ further))) ∙ x.again (text ++ c ∷ further) [] b m in
    let three : c ∷ further ≡ [] = ap (λ (p : _ × List ℕ). p.1) (ok_is (a, c ∷ further) (b, []) (sym one ∙ two)) in
    cc

-- reading stopped
pub bad_stopped : {A : Type 0} (L : List ℕ → A → Type 0) (read : List ℕ → Result (A × List ℕ) ℕ) → Exact L read
    → (bytes : List ℕ) (left : ℕ) → IsBytes bytes → read bytes ≡ Err left → BadAt L bytes (length bytes - left)
bad_stopped L read x bytes left fits e =
    let s = x.fails bytes left fits e in
    let none : (a : _) → L bytes a → ⊥ = λ (a : _) (l : L bytes a). stopped_none L read x bytes left a e l in
    subst (λ (n : ℕ). BadAt L bytes (length bytes - n)) s.left_is (bad_from L bytes s.prefix s.rest s.more s.value s.parts s.begins none s.stops)

-- a whole text, and bytes behind it
pub bad_trailing : {A : Type 0} (L : List ℕ → A → Type 0) (read : List ℕ → Result (A × List ℕ) ℕ) → Exact L read
    → (bytes : List ℕ) (a : A) (rest : List ℕ) → IsBytes bytes → read bytes ≡ Ok (a, rest) → (length rest ≡ 0 → ⊥) → BadAt L bytes (length bytes - length rest)
bad_trailing L read x bytes a rest fits e some =
    let t = x.takes bytes a rest fits e in
    let begins : L (t.text ++ []) a = subst (λ (l : List ℕ). L l a) (sym (append-nil t.text)) t.spelled in
    bad_from L bytes t.text rest [] a t.parts begins
    (λ b l. some (ap length (whole_rest L read x bytes a rest b e l)))
    (λ c after further b at l. nothing_after L read x t.text a t.spelled c further b l)
