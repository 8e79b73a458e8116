-- Lines of a chain that have neither no words nor two.
use Rattle.std.proofs.Common.{◌≡◌, ℕ, ◌<◌, ◌≤◌, List, [], ◌∷◌, length, map, refl, arith}
use Rattle.spec_chain.specs.declared.fault.ChainReason.TheVariants as reasons
use Rattle.spec_chain.specs.declared.reading.Line.TheVariants.{Bad}
use Rattle.spec_chain.specs.ChainFile.{line_says}

pub one_word : {X : Type 0} (word_in : X → List ℕ) (height : ℕ) (words : List X) → 1 ≤ length words → length words < 2
    → Bad reasons.Form ≡ line_says height (map word_in words)
one_word word_in height [] some few = grind (arith, some)
one_word word_in height (w ∷ []) some few = refl
one_word word_in height (w ∷ (v ∷ words)) some few = grind (arith, few)

pub many_words : {X : Type 0} (word_in : X → List ℕ) (height : ℕ) (words : List X) → 3 ≤ length words
    → Bad reasons.Form ≡ line_says height (map word_in words)
many_words word_in height [] many = grind (arith, many)
many_words word_in height (w ∷ []) many = grind (arith, many)
many_words word_in height (w ∷ (v ∷ [])) many = grind (arith, many)
many_words word_in height (w ∷ (v ∷ (u ∷ words))) many = refl
