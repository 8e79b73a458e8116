-- What is missing for conditions that are joined.
use Rattle.std.proofs.Common.{◌≡◌, List, [], ◌∷◌, ◌++◌, map, Bool, true, false, refl, sym, ap, ◌∙◌, append_assoc, append-nil}
use Rattle.std.specs.Prelude.{not, if◌then◌else◌}
use Rattle.std.specs.List.{filter}
use Rattle.spec_next.specs.declared.requirement.Requirement.{Requirement}
use Rattle.spec_next.specs.Requirements.{Condition, unmet}

-- no need more
pub nothing_more : (xs : List Requirement) → xs ++ [] ≡ xs
nothing_more xs = append-nil xs

-- those that aren't met
abbrev failing : List Condition → List Condition
failing xs = filter (λ (d : Condition). not (d.0)) xs

pub unmet_first : (c : Condition) (cs : List Condition) → unmet (c ∷ cs) ≡ unmet (c ∷ []) ++ unmet cs
unmet_first c cs = by_test (c.0)
  where
    by_test : (b : Bool) → map (λ (d : Condition). d.1) (if not b then c ∷ failing cs else failing cs)
        ≡ map (λ (d : Condition). d.1) (if not b then c ∷ [] else []) ++ unmet cs
    by_test true = refl
    by_test false = refl

pub unmet_append : (xs ys : List Condition) → unmet (xs ++ ys) ≡ unmet xs ++ unmet ys
unmet_append [] ys = refl
unmet_append (x ∷ xs) ys =
    unmet_first x (xs ++ ys) ∙ ap (λ (ws : List Requirement). unmet (x ∷ []) ++ ws) (unmet_append xs ys)
    ∙ append_first (unmet (x ∷ [])) (unmet xs) (unmet ys) (unmet (x ∷ xs)) (unmet_first x xs)
  where
    append_first : (a b c d : List Requirement) → d ≡ a ++ b → a ++ (b ++ c) ≡ d ++ c
    append_first a b c d h = sym (append_assoc a b c) ∙ ap (λ (ws : List Requirement). ws ++ c) (sym h)
