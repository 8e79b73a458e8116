-- Texts that say where they end, up to a length, so that a recursion goes by it.
use Rattle.std.proofs.Common.{◌≡◌, ℕ, suc, ◌+◌, ◌≤◌, List, [], ◌∷◌, ◌++◌, length, sym, ap, subst, ◌∙◌, append_assoc, arith}
use Rattle.std.proofs.lemmas.List.{length-append}
use Rattle.spec_text.specs.declared.lexeme.Lexeme.{Lexeme}
use Rattle.theory_bitcoin.proofs.Languages.{Nothing, Seq}
use Rattle.theory_text.proofs.Told.Tells.{Clear, Behind}

-- each text of at most this length says where it ends and what it stands for
pub record Clear_to {A : Type 0} (n : ℕ) (L : List Lexeme → A → Type 0) : Type 0 where
  pub apart : (t x u y : List Lexeme) (a b : A) → length t ≤ n → L t a → L u b → t ++ x ≡ u ++ y → (a ≡ b) × (x ≡ y)

pub clear_to : {A : Type 0} {n : ℕ} {L : List Lexeme → A → Type 0} → Clear L → Clear_to n L
clear_to c = record { apart = λ t x u y a b le l m e. c.apart t x u y a b l m e }

pub clear_of : {A : Type 0} {L : List Lexeme → A → Type 0} → ((n : ℕ) → Clear_to n L) → Clear L
clear_of f = record { apart = λ t x u y a b l m e. (f (length t)).apart t x u y a b (omega arith) l m e }

pub clear_less : {A : Type 0} {n : ℕ} {L : List Lexeme → A → Type 0} (m : ℕ) → m ≤ n → Clear_to n L → Clear_to m L
clear_less m lt c = record { apart = λ t x u y a b le l k e. c.apart t x u y a b (omega arith) l k e }

pub clear_pure : {A : Type 0} {n : ℕ} (a : A) → Clear_to n (Nothing a)
clear_pure a = record {
  apart = λ t x u y b c le l m e.
      let l0 = l.empty in
      let m0 = m.empty in
      (sym l.same ∙ m.same, ap (λ (z : List Lexeme). z ++ x) (sym l0) ∙ e ∙ ap (λ (z : List Lexeme). z ++ y) m0);
}

clear_seq_at : {A Y : Type 0} (n : ℕ) (F : List Lexeme → A → Type 0) (K : A → List Lexeme → Y → Type 0) → Clear_to n F
    → ((a : A) → Clear_to n (K a)) → (t x u y : List Lexeme) (v w : Y) → length t ≤ n → Seq F K t v → Seq F K u w → t ++ x ≡ u ++ y → (v ≡ w) × (x ≡ y)
clear_seq_at n F K cf ck t x u y v w le p q e =
    let is : p.first ++ (p.second ++ x) ≡ q.first ++ (q.second ++ y) =
    sym (append_assoc p.first p.second x) ∙ ap (λ (z : List Lexeme). z ++ x) (sym p.parts)
    ∙ e ∙ ap (λ (z : List Lexeme). z ++ y) q.parts ∙ append_assoc q.first q.second y in
    let len : length t ≡ length p.first + length p.second = ap length p.parts ∙ length-append p.first p.second in
    let one = cf.apart p.first (p.second ++ x) q.first (q.second ++ y) p.value q.value (omega arith) p.prefix q.prefix is in
    (ck q.value).apart p.second x q.second y v w (omega arith) (subst (λ (z : _). K z p.second v) one.0 p.back) q.back one.1

pub clear_seq : {A Y : Type 0} {n : ℕ} {F : List Lexeme → A → Type 0} {K : A → List Lexeme → Y → Type 0} → Clear_to n F
    → ((a : A) → Clear_to n (K a)) → Clear_to n (Seq F K)
clear_seq {n = n} {F = F} {K = K} cf ck = record { apart = clear_seq_at n F K cf ck }

-- fewer texts
pub clear_from : {A : Type 0} {n : ℕ} {L : List Lexeme → A → Type 0} (M : List Lexeme → A → Type 0)
    → ((t : List Lexeme) (a : A) → M t a → L t a) → Clear_to n L → Clear_to n M
clear_from M from c = record { apart = λ t x u y a b le l m e. c.apart t x u y a b le (from t a l) (from u b m) e }

-- no texts
pub clear_none : {A : Type 0} {n : ℕ} (L : List Lexeme → A → Type 0) → ((t : List Lexeme) (a : A) → L t a → ⊥) → Clear_to n L
clear_none L none = record { apart = λ t x u y a b le l m e. absurd (none t a l) }

-- behind a token
pub clear_behind : {A : Type 0} {n : ℕ} {L : List Lexeme → A → Type 0} (c : Lexeme) → Clear_to (suc n) L → Clear_to n (Behind c L)
clear_behind c k = record {
  apart = λ t x u y a b le l m e. k.apart (c ∷ t) x (c ∷ u) y a b (omega arith) l m (ap (λ (z : List Lexeme). c ∷ z) e);
}

clear_first_at : {A : Type 0} (n : ℕ) (L : List Lexeme → A → Type 0) → ((a : A) → L [] a → ⊥) → ((c : Lexeme) → Clear_to n (Behind c L))
    → (t x u y : List Lexeme) (a b : A) → length t ≤ suc n → L t a → L u b → t ++ x ≡ u ++ y → (a ≡ b) × (x ≡ y)
clear_first_at n L nothing each [] x u y a b le l m e = absurd (nothing a l)
clear_first_at n L nothing each (c ∷ t) x [] y a b le l m e = absurd (nothing b m)
clear_first_at n L nothing each (c ∷ t) x (d ∷ u) y a b le l m e =
    let heads : d ≡ c = cc in
    let tails : t ++ x ≡ u ++ y = cc in
    (each c).apart t x u y a b (omega arith) l (subst (λ (z : Lexeme). L (z ∷ u) b) heads m) tails

-- by the first token
pub clear_first : {A : Type 0} {n : ℕ} (L : List Lexeme → A → Type 0) → ((a : A) → L [] a → ⊥) → ((c : Lexeme) → Clear_to n (Behind c L)) → Clear_to (suc n) L
clear_first {n = n} L nothing each = record { apart = clear_first_at n L nothing each }

clear_zero_at : {A : Type 0} (L : List Lexeme → A → Type 0) → ((a : A) → L [] a → ⊥) → (t x u y : List Lexeme) (a b : A) → length t ≤ 0
    → L t a → L u b → t ++ x ≡ u ++ y → (a ≡ b) × (x ≡ y)
clear_zero_at L nothing [] x u y a b le l m e = absurd (nothing a l)
clear_zero_at L nothing (c ∷ t) x u y a b le l m e = absurd (omega arith)

pub clear_zero : {A : Type 0} (L : List Lexeme → A → Type 0) → ((a : A) → L [] a → ⊥) → Clear_to 0 L
clear_zero L nothing = record { apart = clear_zero_at L nothing }
