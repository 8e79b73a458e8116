-- Readers that also answer how many branches a contract may still have.
use Rattle.std.proofs.Common.{◌≡◌, ℕ, suc, ◌+◌, ◌-◌, ◌≤◌, List, [], ◌∷◌, ◌++◌, length, refl, sym, ap, subst, ◌∙◌, append_assoc, arith}
use Rattle.std.proofs.lemmas.List.{length-append}
use Rattle.spec_text.specs.declared.lexeme.Lexeme.{Lexeme}
use Rattle.spec_text.specs.Reading.{Seen}
use Rattle.theory_bitcoin.proofs.Languages.{Some_text, Seq}
use Rattle.theory_text.proofs.Told.Tells.{Behind}
use Rattle.theory_text.proofs.Told.FirstToken.{Begun}
use Rattle.theory_text.proofs.Told.Clears.{Clear_to}

-- a text, and how many of so many are left after what its value counts
abbrev pub Counted : {A : Type 0} → (A → ℕ) → (List Lexeme → A → Type 0) → ℕ → List Lexeme → A × ℕ → Type 0
Counted count L b t v = L t (v.0) × (v.1 ≡ b - count (v.0))

pub counted_some : {A : Type 0} (count : A → ℕ) (L : List Lexeme → A → Type 0) (b : ℕ) → Some_text L → Some_text (Counted count L b)
counted_some count L b s = record { text = s.text; value = (s.value, b - count s.value); spelled = (s.spelled, refl) }

counted_behind : {A : Type 0} (count : A → ℕ) (L : List Lexeme → A → Type 0) (b : ℕ) (c : Lexeme) → Some_text (Behind c L)
    → Some_text (Behind c (Counted count L b))
counted_behind count L b c s = record { text = s.text; value = (s.value, b - count s.value); spelled = (s.spelled, refl) }

pub counted_begun : {A V : Type 0} {see : Lexeme → Seen V} (count : A → ℕ) (L : List Lexeme → A → Type 0) (b : ℕ) → Begun see L → Begun see (Counted count L b)
counted_begun count L b g = record {
  nothing = λ v l. g.nothing (v.0) (l.0);
  first = λ d t v l h. g.first d t (v.0) (l.0) h;
  fair = g.fair;
  some = counted_some count L b g.some;
  begins = λ c v h. counted_behind count L b c (g.begins c v h);
  exceeds = λ c w h. let x = g.exceeds c w h in (x.0, x.1, counted_behind count L b (x.0) (x.2));
}

some_length : {A : Type 0} (F : List Lexeme → A → Type 0) → ((a : A) → F [] a → ⊥) → (t : List Lexeme) (a : A) → F t a → 1 ≤ length t
some_length F nothing [] a l = absurd (nothing a l)
some_length F nothing (c ∷ t) a l = omega arith

clear_after_at : {A Y : Type 0} (n : ℕ) (F : List Lexeme → A → Type 0) (K : A → List Lexeme → Y → Type 0) → ((a : A) → F [] a → ⊥)
    → Clear_to (suc n) F → ((a : A) → Clear_to n (K a)) → (t x u y : List Lexeme) (v w : Y) → length t ≤ suc n → Seq F K t v → Seq F K u w
    → t ++ x ≡ u ++ y → (v ≡ w) × (x ≡ y)
clear_after_at n F K nothing cf ck t x u y v w le p q e =
    let is : p.first ++ (p.second ++ x) ≡ q.first ++ (q.second ++ y) =
    sym (append_assoc p.first p.second x) ∙ ap (λ (z : List Lexeme). z ++ x) (sym p.parts)
    ∙ e ∙ ap (λ (z : List Lexeme). z ++ y) q.parts ∙ append_assoc q.first q.second y in
    let len : length t ≡ length p.first + length p.second = ap length p.parts ∙ length-append p.first p.second in
    let some = some_length F nothing p.first p.value p.prefix in
    let one = cf.apart p.first (p.second ++ x) q.first (q.second ++ y) p.value q.value (omega arith) p.prefix q.prefix is in
    (ck q.value).apart p.second x q.second y v w (omega arith) (subst (λ (z : _). K z p.second v) one.0 p.back) q.back one.1

-- a first part that takes tokens: what follows is shorter
pub clear_after : {A Y : Type 0} {n : ℕ} (F : List Lexeme → A → Type 0) (K : A → List Lexeme → Y → Type 0) → ((a : A) → F [] a → ⊥)
    → Clear_to (suc n) F → ((a : A) → Clear_to n (K a)) → Clear_to (suc n) (Seq F K)
clear_after {n = n} F K nothing cf ck = record { apart = clear_after_at n F K nothing cf ck }
