-- The reader stops at the first mark, or where the grammar ends.
use Rattle.std.proofs.Common.{◌≡◌, ℕ, suc, ◌+◌, ◌-◌, ◌≤◌, inl, inr, List, [], ◌∷◌, ◌++◌, length, Option, Some, None, Result, Ok, Err, refl, ap, sym, subst, ◌∙◌, arith}
use Rattle.std.proofs.lemmas.Bool.Decides.{leb_tells}
use Rattle.spec_terms.specs.Advert.{Advert}
use Rattle.spec_terms.specs.declared.limit.Limit.{Limit}
use Rattle.spec_text.specs.declared.stop.Stop.{Stop}
use Rattle.spec_text.specs.declared.stop.Stop.TheVariants as stops
use Rattle.spec_text.specs.declared.lexeme.Lexeme.{Lexeme}
use Rattle.spec_text.specs.Grammar.{Spells}
use Rattle.spec_text.specs.ReadAdvert.{advert_of_all}
use Rattle.spec_text.specs.Statements.{IsSyntaxAt, IsLimitAt}
use Rattle.theory_text.proofs.Told.StopPlaces.{syntax_is, limit_is, found_is}
use Rattle.theory_limits.specs.Awaited.{Awaited, Next, next, an_advert}
use Rattle.theory_limits.specs.Marks.{exceeded, came, Mark, marks_at, marks_here, marks_from, marks, end_here, end_from, grammar_end}
use Rattle.theory_limits.specs.Statements.{IsFirstMark, StandFrom, LimitsTheorem}
use Rattle.theory_limits.proofs.Judged.{Judgement, stepped, judged}
use Rattle.theory_limits.proofs.Adverts.{bare_answer, judged_is}
use Rattle.theory_limits.proofs.OneAdvert.{one_advert}

-- ---- the walk stops at the first mark, or where the grammar ends

-- what is answered where these are the marks and the grammar ends so
abbrev verdict : List Mark → Option ℕ → Judgement
verdict (m ∷ ms) end = Err (stops.Limit m.quantity m.left)
verdict [] None = Ok tt
verdict [] (Some left) = Err (stops.Syntax left)

step_is : (n : Next) (ws : List Limit) (left : ℕ) (on : List Awaited → Judgement) (behind : List Awaited → List Mark)
    (end : List Awaited → Option ℕ) → ((new : List Awaited) → on new ≡ verdict (behind new) (end new))
    → stepped n ws left on ≡ verdict (marks_here n (marks_at left ws) behind) (end_here n left end)
step_is None ws left on behind end h = refl
step_is (Some new) [] left on behind end h = h new
step_is (Some new) (w ∷ ws) left on behind end h = refl

walk_is : (awaited : List Awaited) (before : ℕ) (ts : List Lexeme)
    → judged awaited before ts ≡ verdict (marks_from awaited before ts) (end_from awaited ts)
walk_is [] before [] = refl
walk_is (a ∷ as') before [] = refl
walk_is [] before (t ∷ ts) = refl
walk_is (a ∷ as') before (t ∷ ts) =
    step_is (next a t) (exceeded a before t ts) (suc (length ts)) (λ new. judged (new ++ as') (came a t before) ts)
    (λ new. marks_from (new ++ as') (came a t before) ts) (λ new. end_from (new ++ as') ts)
    (λ new. walk_is (new ++ as') (came a t before) ts)

answer_is : (t : List Lexeme) → bare_answer (advert_of_all t) ≡ verdict (marks t) (grammar_end t)
answer_is t = sym (judged_is t) ∙ walk_is an_advert 0 t

-- ---- where the grammar ends

abbrev some_place : ℕ → Option ℕ
some_place n = Some n

abbrev no_end : Option ℕ
no_end = None

some_is : (m n : ℕ) → some_place m ≡ some_place n → m ≡ n
some_is m n h = cc

no_place : (n : ℕ) → no_end ≡ some_place n → ⊥
no_place n h = absurd cc

here_within : (n : Next) (here left most : ℕ) (behind : List Awaited → Option ℕ) → here ≤ most
    → ((new : List Awaited) → behind new ≡ Some left → left ≤ most) → end_here n here behind ≡ Some left → left ≤ most
here_within None here left most behind le h e = let i = some_is here left e in omega (arith, i)
here_within (Some new) here left most behind le h e = h new e

end_within : (awaited : List Awaited) (ts : List Lexeme) (left : ℕ) → end_from awaited ts ≡ Some left → left ≤ length ts
end_within [] [] left e = absurd (no_place left e)
end_within (a ∷ as') [] left e = let i = some_is 0 left e in omega (arith, i)
end_within [] (t ∷ ts) left e = let i = some_is (suc (length ts)) left e in omega (arith, i)
end_within (a ∷ as') (t ∷ ts) left e =
    here_within (next a t) (suc (length ts)) left (suc (length ts)) (λ new. end_from (new ++ as') ts) (omega arith)
    (λ new k. let i = end_within (new ++ as') ts left k in omega (arith, i)) e

-- ---- what an answer tells

abbrev failed : Stop → Judgement
failed e = Err e

failed_is : (e f : Stop) → failed e ≡ failed f → e ≡ f
failed_is e f h = cc

abbrev passed : Judgement
passed = Ok tt

not_passed : (e : Stop) → failed e ≡ passed → ⊥
not_passed e h = absurd cc

abbrev stopped : Stop → Result Advert Stop
stopped e = Err e

limit_quantity : (v w : Limit) (m n : ℕ) → stops.Limit v m ≡ stops.Limit w n → v ≡ w
limit_quantity v w m n h = cc

limit_left : (v w : Limit) (m n : ℕ) → stops.Limit v m ≡ stops.Limit w n → m ≡ n
limit_left v w m n h = cc

syntax_left : (m n : ℕ) → stops.Syntax m ≡ stops.Syntax n → m ≡ n
syntax_left m n h = cc

limit_syntax : (w : Limit) (m n : ℕ) → stops.Limit w m ≡ stops.Syntax n → ⊥
limit_syntax w m n h = absurd cc

-- a limit is the first mark
first_by : (t : List Lexeme) (w : Limit) (left : ℕ) (ms : List Mark) (end : Option ℕ) → marks t ≡ ms
    → failed (stops.Limit w left) ≡ verdict ms end → IsFirstMark t w left
first_by t w left (m ∷ ms) end e h =
    let f = failed_is (stops.Limit w left) (stops.Limit m.quantity m.left) h in
    let q = limit_quantity w m.quantity left m.left f in
    let l = limit_left w m.quantity left m.left f in
    record { others = ms; first = e ∙ ap (λ (z : Mark). z ∷ ms) (λ i. record { quantity = sym q i; left = sym l i }) }
first_by t w left [] None e h = absurd (not_passed (stops.Limit w left) h)
first_by t w left [] (Some n) e h = absurd (limit_syntax w left n (failed_is (stops.Limit w left) (stops.Syntax n) h))

-- no mark stands where none is answered
none_by : (j : Judgement) (ms : List Mark) (end : Option ℕ) → ((w : Limit) (left : ℕ) → j ≡ failed (stops.Limit w left) → ⊥)
    → j ≡ verdict ms end → ms ≡ []
none_by j [] end never h = refl
none_by j (m ∷ ms) end never h = absurd (never m.quantity m.left h)

-- ---- limits

first_is : (t : List Lexeme) (w : Limit) (left : ℕ) → advert_of_all t ≡ Err (stops.Limit w left) → IsFirstMark t w left
first_is t w left h = first_by t w left (marks t) (grammar_end t) refl (sym (ap bare_answer h) ∙ answer_is t)

-- the answer that is a stop
stop_by : (r : Result Advert Stop) (e : Stop) → bare_answer r ≡ failed e → r ≡ stopped e
stop_by (Ok a) e h = absurd (not_passed e (sym h))
stop_by (Err f) e h = ap stopped (failed_is f e h)

limit_only_is : (t : List Lexeme) (w : Limit) (left : ℕ) → IsFirstMark t w left → advert_of_all t ≡ Err (stops.Limit w left)
limit_only_is t w left m =
    stop_by (advert_of_all t) (stops.Limit w left) (answer_is t ∙ ap (λ (z : List Mark). verdict z (grammar_end t)) m.first)

-- ---- syntax errors

unmarked : (t : List Lexeme) (left : ℕ) → advert_of_all t ≡ Err (stops.Syntax left) → marks t ≡ []
unmarked t left h =
    let is : failed (stops.Syntax left) ≡ verdict (marks t) (grammar_end t) = sym (ap bare_answer h) ∙ answer_is t in
    none_by (failed (stops.Syntax left)) (marks t) (grammar_end t)
    (λ w n e. limit_syntax w n left (sym (failed_is (stops.Syntax left) (stops.Limit w n) e))) is

end_by : (t : List Lexeme) (left : ℕ) (ms : List Mark) (end : Option ℕ) → ms ≡ [] → failed (stops.Syntax left) ≡ verdict ms end
    → end ≡ Some left
end_by t left [] None e h = absurd (not_passed (stops.Syntax left) h)
end_by t left [] (Some n) e h = ap some_place (sym (syntax_left left n (failed_is (stops.Syntax left) (stops.Syntax n) h)))
end_by t left (m ∷ ms) end e h = absurd cc

-- a syntax error is answered where the walk ends
end_is : (t : List Lexeme) (left : ℕ) → advert_of_all t ≡ Err (stops.Syntax left) → grammar_end t ≡ Some left
end_is t left h = end_by t left (marks t) (grammar_end t) (unmarked t left h) (sym (ap bare_answer h) ∙ answer_is t)

pub left_within : (t : List Lexeme) (left : ℕ) → advert_of_all t ≡ Err (stops.Syntax left) → left ≤ length t
left_within t left h = end_within an_advert t left (end_is t left h)

syntax_both : (t : List Lexeme) (left : ℕ) → advert_of_all t ≡ Err (stops.Syntax left)
    → IsSyntaxAt t (length t - left) × StandFrom (length t - left) (length t) (marks t)
syntax_both t left h = (syntax_is t left h, subst (StandFrom (length t - left) (length t)) (sym (unmarked t left h)) tt)

-- the grammar ends at one place
one_end : (t : List Lexeme) (p q : ℕ) → IsSyntaxAt t p → IsSyntaxAt t q → p ≤ q
one_end t p q s u = elim (leb_tells p q) [ inl w ↦ w.1 | inr w ↦ absurd (u.longest p w.1 s.within s.begins) ]

first_from : (t : List Lexeme) (p : ℕ) (w : Limit) (left : ℕ) → IsFirstMark t w left → StandFrom p (length t) (marks t)
    → p ≤ length t - left
first_from t p w left m s = (subst (StandFrom p (length t)) m.first s).0

limit_later : (t : List Lexeme) (p q : ℕ) → IsSyntaxAt t p → IsLimitAt t q → p ≤ q → ⊥
limit_later t p q s l le = let k = l.within in s.longest (q + 1) (omega arith) (omega arith) l.begins

places : (n p left : ℕ) → p ≤ n - left → n - left ≤ p → left ≤ n → left ≡ n - p
places n p left a b c = omega arith

syntax_at : (t : List Lexeme) (p : ℕ) → IsSyntaxAt t p → StandFrom p (length t) (marks t) → (r : Result Advert Stop) → advert_of_all t ≡ r
    → r ≡ stopped (stops.Syntax (length t - p))
syntax_at t p s m (Ok a) h = absurd (s.none a (found_is t a h))
syntax_at t p s m (Err (stops.Limit w left)) h =
    absurd (limit_later t p (length t - left) s (limit_is t w left h) (first_from t p w left (first_is t w left h) m))
syntax_at t p s m (Err (stops.Syntax left)) h =
    let u = syntax_is t left h in
    let a = one_end t p (length t - left) s u in
    let b = one_end t (length t - left) p u s in
    ap (λ (n : ℕ). stopped (stops.Syntax n)) (places (length t) p left a b (left_within t left h))

syntax_only_is : (t : List Lexeme) (p : ℕ) → IsSyntaxAt t p → StandFrom p (length t) (marks t)
    → advert_of_all t ≡ Err (stops.Syntax (length t - p))
syntax_only_is t p s m = syntax_at t p s m (advert_of_all t) refl

-- ---- adverts

read_both : (t : List Lexeme) (advert : Advert) → advert_of_all t ≡ Ok advert → Spells t advert × (marks t ≡ [])
read_both t advert h =
    let is : passed ≡ verdict (marks t) (grammar_end t) = sym (ap bare_answer h) ∙ answer_is t in
    (found_is t advert h, none_by passed (marks t) (grammar_end t) (λ w n e. not_passed (stops.Limit w n) (sym e)) is)

abbrev found : Advert → Result Advert Stop
found a = Ok a

none_first : (t : List Lexeme) (w : Limit) (left : ℕ) → marks t ≡ [] → IsFirstMark t w left → ⊥
none_first t w left h m = let k = m.first in absurd cc

read_at : (t : List Lexeme) (advert : Advert) → Spells t advert → marks t ≡ [] → (r : Result Advert Stop) → advert_of_all t ≡ r
    → r ≡ found advert
read_at t advert l m (Ok a) h = ap found (one_advert t a advert (found_is t a h) l)
read_at t advert l m (Err (stops.Syntax left)) h = absurd ((syntax_is t left h).none advert l)
read_at t advert l m (Err (stops.Limit w left)) h = absurd (none_first t w left m (first_is t w left h))

read_only_is : (t : List Lexeme) (advert : Advert) → Spells t advert → marks t ≡ [] → advert_of_all t ≡ Ok advert
read_only_is t advert l m = read_at t advert l m (advert_of_all t) refl

-- the reader stops at the first limit, or where the grammar ends
pub limits_are : LimitsTheorem
limits_are = record {
  limit = λ t w left h. (first_is t w left h, limit_is t w left h);
  limit_only = limit_only_is;
  syntax = syntax_both;
  syntax_only = syntax_only_is;
  read = read_both;
  read_only = read_only_is;
}
