-- A walk over the tokens that stops at the first limit, and readers that answer as it does.
use Rattle.std.proofs.Common.{◌≡◌, ℕ, suc, ◌+◌, List, [], ◌∷◌, ◌++◌, length, Some, None, Result, Ok, Err, refl, ap, ◌∙◌, append_assoc}
use Rattle.spec_terms.specs.Readable.{most_branches}
use Rattle.spec_terms.specs.declared.limit.Limit.{Limit}
use Rattle.spec_text.specs.declared.stop.Stop.{Stop}
use Rattle.spec_text.specs.declared.stop.Stop.TheVariants as stops
use Rattle.spec_text.specs.declared.lexeme.Lexeme.{Lexeme}
use Rattle.spec_text.specs.Reading.{Reads, ◌>>=◌}
use Rattle.theory_limits.specs.Awaited.{Awaited, Next, next}
use Rattle.theory_limits.specs.Marks.{exceeded, came}

-- ---- the walk

abbrev pub Judgement : Type 0
Judgement = Result (Unit {0}) Stop

-- what is answered at a token, by what it lets await, what it exceeds, and how the walk goes on
abbrev pub stepped : Next → List Limit → ℕ → (List Awaited → Judgement) → Judgement
stepped None ws left on = Err (stops.Syntax left)
stepped (Some new) [] left on = on new
stepped (Some new) (w ∷ ws) left on = Err (stops.Limit w left)

-- what is answered of tokens of which these parts are awaited, where so many branches came before
abbrev pub judged : List Awaited → ℕ → List Lexeme → Judgement
judged [] before [] = Ok tt
judged (a ∷ as') before [] = Err (stops.Syntax 0)
judged [] before (t ∷ ts) = Err (stops.Syntax (suc (length ts)))
judged (a ∷ as') before (t ∷ ts) =
    stepped (next a t) (exceeded a before t ts) (suc (length ts)) (λ new. judged (new ++ as') (came a t before) ts)

-- ---- readers that count no branches

-- the answer to what follows, where something was read
abbrev pub followed : {A : Type 0} → Reads A → (List Lexeme → Judgement) → Judgement
followed (Ok x) k = k (x.1)
followed (Err e) k = Err e

-- a reader reads what is awaited, and stops where the walk does
pub record Walks {A : Type 0} (parts : List Awaited) (read : List Lexeme → Reads A) : Type 0 where
  pub goes : (more : List Awaited) (before : ℕ) (ts : List Lexeme)
      → judged (parts ++ more) before ts ≡ followed (read ts) (judged more before)

pub walks_none : {A : Type 0} (a : A) → Walks [] (λ ts. Ok (a, ts))
walks_none a = record { goes = λ more before ts. refl }

pub followed_by : {A B : Type 0} (r : Reads A) (k : A → List Lexeme → Reads B) (f g : List Lexeme → Judgement)
    → ((a : A) (ts : List Lexeme) → f ts ≡ followed (k a ts) g) → followed r f ≡ followed (r >>= λ x. k (x.0) (x.1)) g
followed_by (Ok x) k f g h = h (x.0) (x.1)
followed_by (Err e) k f g h = refl

pub walks_seq : {A B : Type 0} {ps qs : List Awaited} {read : List Lexeme → Reads A} {k : A → List Lexeme → Reads B} → Walks ps read
    → ((a : A) → Walks qs (k a)) → Walks (ps ++ qs) (λ ts. read ts >>= λ x. k (x.0) (x.1))
walks_seq {ps = ps} {qs = qs} {read = read} {k = k} w v = record {
  goes = λ more before ts.
      ap (λ (z : List Awaited). judged z before ts) (append_assoc ps qs more) ∙ w.goes (qs ++ more) before ts
      ∙ followed_by (read ts) k (judged (qs ++ more) before) (judged more before) (λ a u. (v a).goes more before u);
}

-- ---- readers that count branches

-- the same of a reader that answers how many branches may still come
abbrev pub Counts : {A : Type 0} → Judgement → List Awaited → Reads (A × ℕ) → Type 0
Counts j more (Ok x) = (before : ℕ) × (before + x.0.1 ≡ most_branches) × (j ≡ judged more before (x.1))
Counts j more (Err e) = j ≡ Err e

pub record Walks_on {A : Type 0} (parts : List Awaited) (read : ℕ → List Lexeme → Reads (A × ℕ)) : Type 0 where
  pub goes : (more : List Awaited) (before b : ℕ) (ts : List Lexeme) → before + b ≡ most_branches
      → Counts (judged (parts ++ more) before ts) more (read b ts)

-- another judgement that is the same
pub counts_as : {A : Type 0} (i j : Judgement) (more : List Awaited) (r : Reads (A × ℕ)) → i ≡ j → Counts j more r → Counts i more r
counts_as i j more (Ok x) e c = (c.0, c.1, e ∙ c.2)
counts_as i j more (Err s) e c = e ∙ c

pub on_none : {A : Type 0} (a : A) → Walks_on [] (λ b ts. Ok ((a, b), ts))
on_none a = record { goes = λ more before b ts h. (before, h, refl) }

on_by : {A B : Type 0} (j : Judgement) (rest more : List Awaited) (r : Reads (A × ℕ)) (k : A → ℕ → List Lexeme → Reads (B × ℕ))
    → Counts j rest r
    → ((a : A) (before b : ℕ) (ts : List Lexeme) → before + b ≡ most_branches → Counts (judged rest before ts) more (k a b ts))
    → Counts j more (r >>= λ x. k (x.0.0) (x.0.1) (x.1))
on_by j rest more (Ok x) k c h =
    counts_as j (judged rest (c.0) (x.1)) more (k (x.0.0) (x.0.1) (x.1)) c.2 (h (x.0.0) (c.0) (x.0.1) (x.1) c.1)
on_by j rest more (Err e) k c h = c

pub on_seq : {A B : Type 0} {ps qs : List Awaited} {read : ℕ → List Lexeme → Reads (A × ℕ)} {k : A → ℕ → List Lexeme → Reads (B × ℕ)}
    → Walks_on ps read → ((a : A) → Walks_on qs (k a)) → Walks_on (ps ++ qs) (λ b ts. read b ts >>= λ x. k (x.0.0) (x.0.1) (x.1))
on_seq {ps = ps} {qs = qs} {read = read} {k = k} w v = record {
  goes = λ more before b ts h.
      on_by (judged ((ps ++ qs) ++ more) before ts) (qs ++ more) more (read b ts) k
      (counts_as (judged ((ps ++ qs) ++ more) before ts) (judged (ps ++ (qs ++ more)) before ts) (qs ++ more) (read b ts)
      (ap (λ (z : List Awaited). judged z before ts) (append_assoc ps qs more)) (w.goes (qs ++ more) before b ts h))
      (λ a c d u e. (v a).goes more c d u e);
}

then_by : {A B : Type 0} (j : Judgement) (rest more : List Awaited) (before b : ℕ) (r : Reads A) (k : A → ℕ → List Lexeme → Reads (B × ℕ))
    → j ≡ followed r (judged rest before)
    → ((a : A) (ts : List Lexeme) → Counts (judged rest before ts) more (k a b ts)) → Counts j more (r >>= λ x. k (x.0) b (x.1))
then_by j rest more before b (Ok x) k e h = counts_as j (judged rest before (x.1)) more (k (x.0) b (x.1)) e (h (x.0) (x.1))
then_by j rest more before b (Err s) k e h = e

-- a reader that counts no branches, and then one that does
pub then_on : {A B : Type 0} {ps qs : List Awaited} {read : List Lexeme → Reads A} {k : A → ℕ → List Lexeme → Reads (B × ℕ)} → Walks ps read
    → ((a : A) → Walks_on qs (k a)) → Walks_on (ps ++ qs) (λ b ts. read ts >>= λ x. k (x.0) b (x.1))
then_on {ps = ps} {qs = qs} {read = read} {k = k} w v = record {
  goes = λ more before b ts h.
      then_by (judged ((ps ++ qs) ++ more) before ts) (qs ++ more) more before b (read ts) k
      (ap (λ (z : List Awaited). judged z before ts) (append_assoc ps qs more) ∙ w.goes (qs ++ more) before ts)
      (λ a u. (v a).goes more before b u h);
}

-- a reader that counts no branches and leaves these parts to the next one, which does
pub record Leaves {A : Type 0} (parts : List Awaited) (read : List Lexeme → Reads A) (rest : List Awaited) : Type 0 where
  pub goes : (more : List Awaited) (before : ℕ) (ts : List Lexeme)
      → judged (parts ++ more) before ts ≡ followed (read ts) (judged (rest ++ more) before)

pub left_on : {A B : Type 0} {ps qs : List Awaited} {read : List Lexeme → Reads A} {k : A → ℕ → List Lexeme → Reads (B × ℕ)}
    → Leaves ps read qs → ((a : A) → Walks_on qs (k a)) → Walks_on ps (λ b ts. read ts >>= λ x. k (x.0) b (x.1))
left_on {ps = ps} {qs = qs} {read = read} {k = k} w v = record {
  goes =
      λ more before b ts h. then_by (judged (ps ++ more) before ts) (qs ++ more) more before b (read ts) k (w.goes more before ts)
      (λ a u. (v a).goes more before b u h);
}
