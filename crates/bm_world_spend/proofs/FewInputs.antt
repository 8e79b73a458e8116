-- A gift that isn't refused has no more inputs than there are outputs: these are live, and different.
use Rattle.std.proofs.Common.{◌≡◌, ℕ, ◌≤◌, List, [], ◌∷◌, length, Bool, true, false, None, refl, sym, inl, inr}
use Rattle.std.specs.Prelude.{◌==◌, ◌||◌, not}
use Rattle.std.specs.List.{AllByRecursion, IsDistinct, list_any}
use Rattle.std.proofs.lemmas.Bool.{and_parts, or_cases, not-true, not-false, eqb-true, eqb-false, false_from_ne_true}
use Rattle.std.proofs.lemmas.Map.Steps.{length-le_from_distinct_below}
use Rattle.spec_data.specs.Lists.{NoneTrue, first_reason, has_number, are_distinct}
use Rattle.spec_data.proofs.ListLemmas.{no_reason-none_true}
use Rattle.spec_run.specs.Setup.{Setup}
use Rattle.spec_run.specs.World.{World}
use Rattle.spec_run.specs.Giving.{give_row}
use Rattle.theory_calculus.specs.Members.{Is_in}
use Rattle.theory_calculus.proofs.Members.{get_below}
use Rattle.theory_run.proofs.Events.Given.{is_given}

apart_one : (n m : ℕ) (rest : Bool) → ((m == n) || rest) ≡ false → ((n == m) ≡ false) × (rest ≡ false)
apart_one n m rest h = by_test (m == n) refl h
  where
    by_test : (b : Bool) → (m == n) ≡ b → (b || rest) ≡ false → ((n == m) ≡ false) × (rest ≡ false)
    by_test true e q = cc
    by_test false e q = (false_from_ne_true (n == m) (λ same. eqb-false m n e (sym (eqb-true n m same))), q)

apart : (n : ℕ) (ns : List ℕ) → has_number n ns ≡ false → AllByRecursion (λ m. (n == m) ≡ false) ns
apart n [] h = tt
apart n (m ∷ ns) h = let p = apart_one n m (has_number n ns) h in (p.0, apart n ns p.1)

distinct : (ns : List ℕ) → are_distinct ns ≡ true → IsDistinct (λ n m. n == m) ns
unfolding IsDistinct
distinct [] h = tt
distinct (n ∷ ns) h = let p = and_parts (not (has_number n ns)) (are_distinct ns) h in (apart n ns (not-true (has_number n ns) p.0), distinct ns p.1)

there : (n : ℕ) (ns : List ℕ) → list_any (λ m. n == m) ns ≡ true → Is_in n ns
there n [] h = cc
there n (m ∷ ns) h = elim (or_cases (n == m) (list_any (λ k. n == k) ns) h) [
  | inl same ↦ inl (eqb-true n m same)
  | inr later ↦ inr (there n ns later)
]

pub few_inputs : (s : Setup) (w : World) (party : List ℕ) (inputs : List ℕ) (outputs : List (List ℕ × ℕ))
    → first_reason (give_row s w party inputs outputs) ≡ None → length inputs ≤ length w.outputs
few_inputs s w party inputs outputs passed =
    let row : NoneTrue (give_row s w party inputs outputs) = no_reason-none_true (give_row s w party inputs outputs) passed in
    let live = is_given w inputs row.0 in
    length-le_from_distinct_below inputs (length w.outputs) (distinct inputs (not-false (are_distinct inputs) row.1.1.0))
    (λ n h. let one = live n (there n inputs h) in get_below w.outputs n one.output one.there)
