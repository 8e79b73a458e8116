-- The branch that a witness chooses.
use Rattle.std.proofs.Common.{◌≡◌, ℕ, ◌<◌, List, [], ◌∷◌, ◌++◌, refl, ap, ◌∙◌}
use Rattle.std.specs.Prelude.{drop, reverse}
use Rattle.std.proofs.lemmas.List.{reverse-append}
use Rattle.spec_bitcoin.specs.Verdict.{items_of, script_of}
use Rattle.spec_compiler.specs.Witness.{selectors, witness_stack, witness_of, chosen, chosen_by}
use Rattle.theory_script.proofs.ScriptTheorem.{selectors_select}
use Rattle.theory_script.proofs.Scripts.Chosen.{chosen_from}
use Rattle.theory_script.proofs.Scripts.Witnesses.{from_top}

-- a stack with the script behind it
script_last : (stack : List (List ℕ)) (script : List ℕ) → drop 1 (reverse (stack ++ script ∷ [])) ≡ reverse stack
script_last stack script = ap (drop 1) (reverse-append stack (script ∷ []))

pub witness_chooses : (n i : ℕ) (signatures strings : List (List ℕ)) (script : List ℕ) → i < n → chosen_by n (witness_of signatures strings i n script) ≡ i
witness_chooses n i signatures strings script below =
    ap (chosen n) (script_last (witness_stack signatures strings i n) script ∙ from_top signatures strings i n)
    ∙ chosen_from n i (selectors i n) (strings ++ signatures) below (selectors_select i n)

-- a witness is its items and its script
whole : (x : List ℕ) (rest : List (List ℕ)) → x ∷ rest ≡ items_of (x ∷ rest) ++ script_of (x ∷ rest) ∷ []
whole x [] = refl
whole x (y ∷ rest) = ap (λ (l : List (List ℕ)). x ∷ l) (whole y rest)

pub chooses_by_items : (witness : List (List ℕ)) → drop 1 (reverse witness) ≡ reverse (items_of witness)
chooses_by_items [] = refl
chooses_by_items (x ∷ rest) = ap (λ (l : List (List ℕ)). drop 1 (reverse l)) (whole x rest) ∙ script_last (items_of (x ∷ rest)) (script_of (x ∷ rest))
