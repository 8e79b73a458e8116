-- What the walk without limits sees of a token, and where it ends.
use Rattle.std.proofs.Common.{◌≡◌, ℕ, suc, List, [], ◌∷◌, ◌++◌, length, Option, Some, None, refl, ap, ◌∙◌}
use Rattle.spec_text.specs.declared.lexeme.Lexeme.{Lexeme}
use Rattle.spec_text.specs.declared.lexeme.Lexeme.TheVariants.{Name as name, Number as number, LongName as long_name, HugeNumber as huge_number}
use Rattle.spec_text.specs.Grammar.{StandsFor, StandFor}
use Rattle.theory_limits.specs.Awaited.{Awaited, this_symbol, Next, next}
use Rattle.theory_limits.specs.Marks.{end_here, end_from}

-- a long name and a huge number come as what they stand for does
long_next : (a : Awaited) (x : List ℕ) → next a long_name ≡ next a (name x)
long_next (this_symbol s) x = refl
long_next a x = refl

huge_next : (a : Awaited) (n : ℕ) → next a huge_number ≡ next a (number n)
huge_next (this_symbol s) n = refl
huge_next a n = refl

stands_next : (a : Awaited) (c d : Lexeme) → StandsFor c d → next a c ≡ next a d
stands_next a long_name (name x) st = long_next a x
stands_next a huge_number (number n) st = huge_next a n
stands_next a c d st = ap (next a) st

pub stand_length : (t m : List Lexeme) → StandFor t m → length t ≡ length m
stand_length [] [] st = refl
stand_length [] (d ∷ m) st = absurd st
stand_length (c ∷ t) [] st = absurd st
stand_length (c ∷ t) (d ∷ m) st = ap (λ (n : ℕ). suc n) (stand_length t m st.1)

abbrev an_end : ℕ → Option ℕ
an_end n = Some n

ends_same : (n : Next) (left : ℕ) (f g : List Awaited → Option ℕ) → ((new : List Awaited) → f new ≡ g new)
    → end_here n left f ≡ end_here n left g
ends_same None left f g h = refl
ends_same (Some new) left f g h = h new

-- the walk ends at one place in tokens and in what they stand for
pub stand_end : (as' : List Awaited) (t m : List Lexeme) → StandFor t m → end_from as' t ≡ end_from as' m
stand_end as' [] [] st = refl
stand_end as' [] (d ∷ m) st = absurd st
stand_end as' (c ∷ t) [] st = absurd st
stand_end [] (c ∷ t) (d ∷ m) st = ap (λ (n : ℕ). an_end (suc n)) (stand_length t m st.1)
stand_end (a ∷ as') (c ∷ t) (d ∷ m) st =
    ends_same (next a c) (suc (length t)) (λ new. end_from (new ++ as') t) (λ new. end_from (new ++ as') m)
    (λ new. stand_end (new ++ as') t m st.1)
    ∙ (λ i. end_here (stands_next a c d st.0 i) (suc (stand_length t m st.1 i)) (λ new. end_from (new ++ as') m))
