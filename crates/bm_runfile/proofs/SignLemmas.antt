-- The words of `sign`: three, or another number.
use Rattle.std.proofs.Common.{◌≡◌, ℕ, List, [], ◌∷◌, None, refl, ap}
use Rattle.spec_text.specs.EventLines.{sign}
use Rattle.theory_text.proofs.Options.{some, some_is}
use Rattle.bm_runfile.specs.ThreeWords.{three_words}

abbrev Word : Type 0
Word = List ℕ

abbrev listed : Word × Word × Word → List Word
listed p = p.0 ∷ p.1 ∷ p.2 ∷ []

three_are : (words : List Word) (p : Word × Word × Word) → three_words words ≡ some p → words ≡ listed p
three_are [] p h = absurd cc
three_are (x ∷ []) p h = absurd cc
three_are (x ∷ y ∷ []) p h = absurd cc
three_are (x ∷ y ∷ z ∷ []) p h = let t : Word × Word × Word = (x, y, z) in ap listed (some_is t p h)
three_are (x ∷ y ∷ z ∷ w ∷ words) p h = absurd cc

pub sign_three : (parties words : List Word) (a b c : Word) → three_words words ≡ some (a, b, c)
    → sign parties words ≡ sign parties (a ∷ b ∷ c ∷ [])
sign_three parties words a b c h = ap (sign parties) (let p : Word × Word × Word = (a, b, c) in three_are words p h)

pub sign_other : (parties words : List Word) → three_words words ≡ None → sign parties words ≡ None
sign_other parties [] h = refl
sign_other parties (x ∷ []) h = refl
sign_other parties (x ∷ y ∷ []) h = refl
sign_other parties (x ∷ y ∷ z ∷ []) h = absurd cc
sign_other parties (x ∷ y ∷ z ∷ w ∷ words) h = refl
