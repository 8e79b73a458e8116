-- Totals are sums over the way.
use Rattle.std.proofs.Common.{◌≡◌, ℕ, suc, ◌+◌, List, [], ◌∷◌, ◌++◌, length, Bool, true, false, Some, refl, sym, ap, ◌∙◌, subst, arith, cond}
use Rattle.std.specs.Prelude.{◌↔◌, slice_get, sum_by, take, drop, if◌then◌else◌}
use Rattle.std.specs.List.{filter}
use Rattle.std.proofs.Math.Seq.{take-append_seam}
use Rattle.std.proofs.lemmas.List.{take-append-drop}
use Rattle.std.proofs.lemmas.List.Sums.{sum_by-cons}
use Rattle.spec_terms.specs.PathSameness.{path_eq-Decides}
use Rattle.spec_terms.specs.declared.path.PathStep.{PathStep}
use Rattle.spec_compiler.specs.Transactions.{initial_unsigned}
use Rattle.spec_compiler.specs.Compilation.{path_transactions}
use Rattle.spec_tool.specs.declared.weight.Weight.{Weight}
use Rattle.spec_tool.specs.Weights.{weights, exactly, initial_weight, path_weight, path_weights, is_on_way, total_to, added}
use Rattle.theory_script.proofs.Listing.Stands.{some_same}
use Rattle.theory_weights.specs.Runs.{GoesOnFrom, weights_to, WeightsAddUp}
use Rattle.theory_weights.proofs.Bounded.{entry_is}

-- ---- the way

way_is : (path to : List PathStep) → (is_on_way path to ≡ true) ↔ GoesOnFrom path to
way_is path to = (goes_on, is_prefix)
  where
    goes_on : is_on_way path to ≡ true → GoesOnFrom path to
    goes_on h =
        let e = (path_eq-Decides path (take (length path) to)).0 h in
        record { more = drop (length path) to; is = sym (take-append-drop (length path) to) ∙ ap (λ q. q ++ drop (length path) to) (sym e) }

    is_prefix : GoesOnFrom path to → is_on_way path to ≡ true
    is_prefix g =
        (path_eq-Decides path (take (length path) to)).1 (sym (take-append_seam path g.more) ∙ ap (take (length path)) (sym g.is))

-- ---- sums

-- what is added to a total of the weights of those on the way
pub total_is : (part : Weight → ℕ) → ((a b : Weight) → part (added a b) ≡ part a + part b) → (to : List PathStep) (sum : Weight)
    (ps : List (List PathStep × Weight))
    → part (total_to to sum ps) ≡ part sum + sum_by (λ p. part (p.1)) (filter (λ p. is_on_way (p.0) to) ps)
total_is part adds to sum [] = omega arith
total_is part adds to sum (p ∷ ps) = by_test (is_on_way (p.0) to) (total_is part adds to (added sum (p.1)) ps) (total_is part adds to sum ps)
  where
    rest : List (List PathStep × Weight)
    rest = filter (λ q. is_on_way (q.0) to) ps

    by_test : (b : Bool)
        → part (total_to to (added sum (p.1)) ps) ≡ part (added sum (p.1)) + sum_by (λ q. part (q.1)) (filter (λ q. is_on_way (q.0) to) ps)
        → part (total_to to sum ps) ≡ part sum + sum_by (λ q. part (q.1)) (filter (λ q. is_on_way (q.0) to) ps)
        → part (total_to to (if b then added sum (p.1) else sum) ps)
        ≡ part sum + sum_by (λ q. part (q.1)) (cond b (p ∷ filter (λ q. is_on_way (q.0) to) ps) (filter (λ q. is_on_way (q.0) to) ps))
    by_test true h k =
        let a = adds sum (p.1) in
        let c = sum_by-cons (λ (q : List PathStep × Weight). part (q.1)) p rest in
        omega (arith, h, a, c)
    by_test false h k = k

pub weights_add_up : WeightsAddUp
weights_add_up hash s =
    let ts = path_transactions hash s in
    let init = exactly (initial_weight (initial_unsigned hash s)) in
    let all = path_weights hash s in
    record {
      on_way = way_is;
      initial = λ weight total h.
          let e : (init, init) ≡ (weight, total) = some_same h in
          sym (ap (λ (q : Weight × Weight). q.1) e) ∙ ap (λ (q : Weight × Weight). q.0) e;
      paths = λ n path d initial initial_total weight total h i k.
          let z : n + 1 ≡ suc n = omega arith in
          let j : slice_get (weights hash s) (suc n) ≡ Some (weight, total) = subst (λ m. slice_get (weights hash s) m ≡ Some (weight, total)) z k in
          let e : (path_weight s.advert path d, total_to path init all) ≡ (weight, total) =
          some_same (sym (entry_is s.advert init all ts n path d h) ∙ j) in
          let t : total_to path init all ≡ total = ap (λ (q : Weight × Weight). q.1) e in
          let f : (init, init) ≡ (initial, initial_total) = some_same i in
          let u : init ≡ initial = ap (λ (q : Weight × Weight). q.0) f in (
            ap (λ (x : Weight). x.least) (sym t) ∙ total_is (λ x. x.least) (λ a b. refl) path init all
                ∙ ap (λ (x : Weight). x.least + sum_by (λ p. (p.1).least) (weights_to path hash s)) u,
            ap (λ (x : Weight). x.most) (sym t) ∙ total_is (λ x. x.most) (λ a b. refl) path init all
                ∙ ap (λ (x : Weight). x.most + sum_by (λ p. (p.1).most) (weights_to path hash s)) u,
          );
    }
