-- The branch that a stack opens is the branch that its selectors choose.
use Rattle.std.proofs.Common.{◌≡◌, ℕ, zero, suc, ◌+◌, ◌-◌, ◌<◌, List, [], ◌∷◌, ◌++◌, length, map, take, Bool, true, false, sym, ap, ◌∙◌, arith}
use Rattle.std.specs.Prelude.{if◌then◌else◌, nat_lt}
use Rattle.spec_terms.specs.Term.{Contract, branches}
use Rattle.spec_terms.specs.declared.path.PathStep.{PathStep}
use Rattle.spec_bitcoin.specs.Effects.{truth}
use Rattle.spec_compiler.specs.Keyed.Keys.{Keys}
use Rattle.spec_compiler.specs.Keyed.Instance.{Instance}
use Rattle.spec_compiler.specs.Witness.{selection, first_true, chosen}
use Rattle.spec_compiler.specs.Keyed.Statements.{Opens}
use Rattle.theory_calculus.proofs.Members.{get_below}
use Rattle.theory_script.proofs.Scripts.Readable.{next_selection}

first_is : (k last : ℕ) (x : List ℕ) (xs : List (List ℕ)) (b : Bool) → truth x ≡ b → first_true k last (x ∷ xs) ≡ (if b then k else first_true (k + 1) last xs)
first_is k last x xs b h = ap (λ t. if t then k else first_true (k + 1) last xs) h

-- of m + 1 branches
chosen_of : (m i k : ℕ) (selectors rest : List (List ℕ)) → i < suc m → map truth selectors ≡ selection i (suc m)
    → first_true k (k + m) (take m (selectors ++ rest)) ≡ k + i
chosen_of zero i k selectors rest below s = omega arith
chosen_of (suc m) zero k selectors rest below s =
    let t : nat_lt (0 + 1) (suc (suc m)) ≡ true = grind arith in
    by_first selectors (rw t at s)
  where
    by_first : (xs : List (List ℕ)) → map truth xs ≡ true ∷ [] → first_true k (k + suc m) (take (suc m) (xs ++ rest)) ≡ k + 0
    by_first [] e = cc
    by_first (x ∷ xs) e = let h : truth x ≡ true = cc in first_is k (k + suc m) x (take m (xs ++ rest)) true h ∙ omega arith
chosen_of (suc m) (suc i) k selectors rest below s =
    by_next selectors (s ∙ next_selection i (suc m)) (λ xs e. chosen_of m i (k + 1) xs rest (omega arith) e)
  where
    by_next : (xs : List (List ℕ)) → map truth xs ≡ false ∷ selection i (suc m)
        → ((ys : List (List ℕ)) → map truth ys ≡ selection i (suc m) → first_true (k + 1) (k + 1 + m) (take m (ys ++ rest)) ≡ k + 1 + i)
        → first_true k (k + suc m) (take (suc m) (xs ++ rest)) ≡ k + suc i
    by_next [] e ih = cc
    by_next (x ∷ xs) e ih =
        let h : truth x ≡ false = cc in
        let r : map truth xs ≡ selection i (suc m) = cc in
        let n : k + suc m ≡ k + 1 + m = omega arith in
        first_is k (k + suc m) x (take m (xs ++ rest)) false h ∙ ap (λ last. first_true (k + 1) last (take m (xs ++ rest))) n ∙ ih xs r ∙ omega arith

pub chosen_from : (n i : ℕ) (selectors rest : List (List ℕ)) → i < n → map truth selectors ≡ selection i n → chosen n (selectors ++ rest) ≡ i
chosen_from zero i selectors rest below s = absurd (omega (arith, below))
chosen_from (suc m) i selectors rest below s =
    let e : suc m - 1 ≡ m = omega arith in
    let z : 0 + m ≡ m = omega arith in
    ap (λ (k : ℕ). first_true 0 k (take k (selectors ++ rest))) e
    ∙ ap (λ (k : ℕ). first_true 0 k (take m (selectors ++ rest))) (sym z)
    ∙ chosen_of m i 0 selectors rest below s ∙ omega arith

pub opened_is_chosen : (hash : List ℕ → List ℕ) (keys : Keys) (valid : List ℕ → List ℕ → Bool) (s : Instance) (position : List PathStep)
    (choice : Contract) (stack : List (List ℕ)) (opened : Opens hash keys valid s position choice stack) → chosen (length (branches choice)) stack ≡ opened.i
opened_is_chosen hash keys valid s position choice stack o =
    ap (chosen (length (branches choice))) o.is_stack
    ∙ chosen_from (length (branches choice)) o.i o.selectors (o.strings ++ o.signatures) (get_below (branches choice) o.i o.b o.is_branch) o.selects
