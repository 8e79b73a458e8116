-- Lists that stand in an order, joined and filtered.
use Rattle.std.proofs.Common.{◌≡◌, List, [], ◌∷◌, ◌++◌, Bool, true, false, refl}
use Rattle.std.specs.Prelude.{if◌then◌else◌}
use Rattle.std.specs.List.{filter, list_all}
use Rattle.std.proofs.lemmas.Bool.{and_parts, and_from}
use Rattle.spec_calculus.specs.InOrder.{stands_in_order}
use Rattle.theory_calculus.proofs.Members.{all_append, all_filter}

module _ {X : Type 0} (before : X → X → Bool) where
  pub in_order-append : (xs ys : List X) → stands_in_order before xs ≡ true → stands_in_order before ys ≡ true
      → list_all (λ x. list_all (λ y. before x y) ys) xs ≡ true → stands_in_order before (xs ++ ys) ≡ true
  in_order-append [] ys h k b = k
  in_order-append (x ∷ xs) ys h k b =
      let p = and_parts (list_all (λ y. before x y) xs) (stands_in_order before xs) h in
      let q = and_parts (list_all (λ y. before x y) ys) (list_all (λ z. list_all (λ y. before z y) ys) xs) b in
      and_from _ _ (all_append (λ y. before x y) xs ys p.0 q.0) (in_order-append xs ys p.1 k q.1)

  pub in_order-filter : (p : X → Bool) (xs : List X) → stands_in_order before xs ≡ true → stands_in_order before (filter p xs) ≡ true
  in_order-filter p [] h = refl
  in_order-filter p (x ∷ xs) h =
      let q = and_parts (list_all (λ y. before x y) xs) (stands_in_order before xs) h in
      by_test (p x) (all_filter (λ y. before x y) p xs q.0) (in_order-filter p xs q.1)
    where
      by_test : (b : Bool) → list_all (λ y. before x y) (filter p xs) ≡ true → stands_in_order before (filter p xs) ≡ true
          → stands_in_order before (if b then x ∷ filter p xs else filter p xs) ≡ true
      by_test true a ih = and_from _ _ a ih
      by_test false a ih = ih
