-- Every enabled contract step stands among the offers, and the offers stand in order.
use Rattle.std.proofs.Common.{◌≡◌, ℕ, zero, suc, ◌+◌, ◌<◌, ◌≤◌, List, [], ◌∷◌, ◌++◌, map, Bool, true, false, Option, Some, None, refl, sym}
use Rattle.std.proofs.Common.{ap, ◌∙◌, subst, arith, inl, inr}
use Rattle.std.specs.Prelude.{◌==◌, nat_lt, slice_get, option_map, option_and_then, is_some}
use Rattle.std.specs.List.{Contains, list_all}
use Rattle.std.proofs.lemmas.Bool.{and_parts, and_from, eqb-true, eq-eqb}
use Rattle.std.proofs.lemmas.Bool.Decides.{nat_tests}
use Rattle.spec_terms.specs.Advert.{Advert}
use Rattle.spec_terms.specs.Term as term
use Rattle.spec_terms.specs.Term.{branches, auth, after, put_reveal, withdraw, split, Contract}
use Rattle.spec_terms.specs.Core.{core, continuation}
use Rattle.spec_terms.specs.Paths.{Subterm, position, at_branch, as_branch, as_contract, next_subterm, below, subterm_from}
use Rattle.spec_terms.proofs.PathLemmas.{at_longer}
use Rattle.spec_terms.specs.declared.path.PathStep.TheVariants.{Branch as To}
use Rattle.spec_calculus.specs.declared.step.Step.{Step}
use Rattle.spec_calculus.specs.declared.step.Step.TheVariants as steps
use Rattle.spec_calculus.specs.declared.parts.ActiveContract.{ActiveContract}
use Rattle.spec_calculus.specs.Configuration.{Configuration}
use Rattle.spec_calculus.specs.Beginning.{contract_at}
use Rattle.spec_calculus.specs.Branches.{active_at, branch_in, branch_of, is_put, is_withdraw, is_split, is_put_core, is_withdraw_core}
use Rattle.spec_calculus.specs.Branches.{is_split_core}
use Rattle.spec_calculus.specs.Steps.{fails, premises, branch_at}
use Rattle.spec_calculus.specs.Offers.{is_enabled, beginnings, taking, takings, branches_at, branches_in, branches_of, all_takings, offers}
use Rattle.spec_calculus.specs.InOrder.{stands_in_order, are_ascending}
use Rattle.spec_calculus.specs.Offered.{is_contract_step, key_of, is_key_less, is_offered_before}
use Rattle.theory_calculus.specs.Offered.{EveryEnabledIsOffered, OffersStandInOrder}
use Rattle.theory_calculus.specs.Members.{Is_in}
use Rattle.theory_calculus.proofs.Members.{in_left, in_right, in_from_contains, contains_from_in, in_filter, filter_has, all_in}
use Rattle.theory_calculus.proofs.Members.{all_append, all_filter, found, some_there, no_false}
use Rattle.theory_calculus.proofs.Ordered.{in_order-append, in_order-filter}

-- ---- a branch by its path is the branch of its number at the position

pub branch_is : (contracts : List Advert) (a : ActiveContract) (i : ℕ)
    → branch_of contracts (Some a) i ≡ slice_get (branches_of contracts a) i
branch_is contracts a i = by_advert (contract_at contracts a.contract)
  where
    by_slot : (o : Option term.Guarded) → option_and_then as_branch (option_map at_branch o) ≡ o
    by_slot None = refl
    by_slot (Some b) = refl

    by_core : (c : term.Guarded) → option_and_then as_branch (below c (To i)) ≡ slice_get (branches_at (continuation c)) i
    by_core (put_reveal puts reveals test next) = by_slot (slice_get (branches next) i)
    by_core (auth party body) = refl
    by_core (after height body) = refl
    by_core (withdraw party) = refl
    by_core (split parts) = refl

    by_spot : (o : Option Subterm)
        → option_and_then as_branch (option_and_then (λ q. next_subterm q (To i)) o) ≡ slice_get (branches_at (option_and_then as_contract o)) i
    by_spot None = refl
    by_spot (Some (position c)) = by_slot (slice_get (branches c) i)
    by_spot (Some (at_branch b)) = by_core (core b)

    by_advert : (o : Option Advert) → branch_in o a.position i ≡ slice_get (branches_in o a.position) i
    by_advert None = refl
    by_advert (Some advert) = at_longer advert.root a.position i ∙ by_spot (subterm_from (position advert.root) a.position)

-- ---- the steps that may be offered

beginning_there : (k j : ℕ) (contracts : List Advert) → is_some (contract_at contracts j) ≡ true
    → Is_in (steps.Init (j + k)) (beginnings k contracts)
beginning_there k j [] h = cc
beginning_there k zero (c ∷ cs) h = inl (ap steps.Init (omega arith))
beginning_there k (suc j) (c ∷ cs) h =
    let e : j + (k + 1) ≡ suc j + k = omega arith in
    inr (subst (λ n. Is_in (steps.Init n) (beginnings (k + 1) cs)) e (beginning_there (k + 1) j cs h))

taking_there : (output i j : ℕ) (bs : List term.Guarded) (b : term.Guarded) (s : Step) → slice_get bs j ≡ Some b
    → Is_in s (taking output (j + i) (core b)) → Is_in s (takings output i bs)
taking_there output i j [] b s e h = cc
taking_there output i zero (d ∷ bs) b s e h =
    let z : d ≡ b = cc in
    let n : 0 + i ≡ i = omega arith in
    in_left s (taking output i (core d)) (takings output (i + 1) bs)
    (subst (λ m. Is_in s (taking output m (core d))) n (subst (λ x. Is_in s (taking output (0 + i) (core x))) (sym z) h))
taking_there output i (suc j) (d ∷ bs) b s e h =
    let n : suc j + i ≡ j + (i + 1) = omega arith in
    in_right s (taking output i (core d)) (takings output (i + 1) bs)
    (taking_there output (i + 1) j bs b s e (subst (λ m. Is_in s (taking output m (core b))) n h))

contract_there : (contracts : List Advert) (xs : List ActiveContract) (a : ActiveContract) (s : Step) → Is_in a xs
    → Is_in s (takings a.number 0 (branches_of contracts a)) → Is_in s (all_takings contracts xs)
contract_there contracts [] a s i h = absurd i
contract_there contracts (x ∷ xs) a s (inl e) h =
    in_left s (takings x.number 0 (branches_of contracts x)) (all_takings contracts xs)
    (subst (λ (y : ActiveContract). Is_in s (takings y.number 0 (branches_of contracts y))) e h)
contract_there contracts (x ∷ xs) a s (inr i) h =
    in_right s (takings x.number 0 (branches_of contracts x)) (all_takings contracts xs) (contract_there contracts xs a s i h)

module _ (g : Configuration) where
  -- the step that takes a branch of an active contract
  taken_there : (output i : ℕ) (s : Step) (good : Option term.Guarded → Bool) → good None ≡ false
      → ((b : term.Guarded) → good (Some b) ≡ true → Is_in s (taking output i (core b)))
      → is_some (active_at g.active output) ≡ true → good (branch_at g output i) ≡ true → Is_in s (all_takings g.contracts g.active)
  taken_there output i s good none kind active taken =
      let a = some_there (active_at g.active output) active in
      let f = found (λ (x : ActiveContract). x.number == output) g.active a.0 a.1 in
      let n : a.0.number ≡ output = eqb-true a.0.number output f.1 in
      let t : good (slice_get (branches_of g.contracts a.0) i) ≡ true =
      subst (λ o. good o ≡ true) (ap (λ o. branch_of g.contracts o i) a.1 ∙ branch_is g.contracts a.0 i) taken in
      by_branch a.0 f.0 n (slice_get (branches_of g.contracts a.0) i) refl t
    where
      by_branch : (a : ActiveContract) → Is_in a g.active → a.number ≡ output → (o : Option term.Guarded)
          → slice_get (branches_of g.contracts a) i ≡ o → good o ≡ true → Is_in s (all_takings g.contracts g.active)
      by_branch a there n None e t = cc
      by_branch a there n (Some b) e t =
          let z : i ≡ i + 0 = omega arith in
          contract_there g.contracts g.active a s there (taking_there a.number 0 i (branches_of g.contracts a) b s e
          (subst (λ m. Is_in s (taking m (i + 0) (core b))) (sym n) (subst (λ m. Is_in s (taking output m (core b))) z (kind b t))))

  offered_from : (s : Step) → Is_in s (beginnings 0 g.contracts ++ all_takings g.contracts g.active) → fails g s ≡ 0 → Contains (offers g) s
  offered_from s i e =
      contains_from_in (offers g) s (filter_has (λ x. is_enabled g x) (beginnings 0 g.contracts ++ all_takings g.contracts g.active) s i
      (eq-eqb (fails g s) 0 e))

  put_kind : (output i : ℕ) (b : term.Guarded) → is_put (Some b) ≡ true → Is_in (steps.PutReveal output i) (taking output i (core b))
  put_kind output i b h = by_core (core b) h
    where
      by_core : (c : term.Guarded) → is_put_core c ≡ true → Is_in (steps.PutReveal output i) (taking output i c)
      by_core (put_reveal puts reveals test next) h = inl refl
      by_core (auth party body) h = cc
      by_core (after height body) h = cc
      by_core (withdraw party) h = cc
      by_core (split parts) h = cc

  withdraw_kind : (output i : ℕ) (b : term.Guarded) → is_withdraw (Some b) ≡ true
      → Is_in (steps.Withdraw output i) (taking output i (core b))
  withdraw_kind output i b h = by_core (core b) h
    where
      by_core : (c : term.Guarded) → is_withdraw_core c ≡ true → Is_in (steps.Withdraw output i) (taking output i c)
      by_core (withdraw party) h = inl refl
      by_core (auth party body) h = cc
      by_core (after height body) h = cc
      by_core (put_reveal puts reveals test next) h = cc
      by_core (split parts) h = cc

  split_kind : (output i : ℕ) (b : term.Guarded) → is_split (Some b) ≡ true → Is_in (steps.Split output i) (taking output i (core b))
  split_kind output i b h = by_core (core b) h
    where
      by_core : (c : term.Guarded) → is_split_core c ≡ true → Is_in (steps.Split output i) (taking output i c)
      by_core (split parts) h = inl refl
      by_core (auth party body) h = cc
      by_core (after height body) h = cc
      by_core (put_reveal puts reveals test next) h = cc
      by_core (withdraw party) h = cc

  enabled_offered : (s : Step) → is_contract_step s ≡ true → fails g s ≡ 0 → Contains (offers g) s
  enabled_offered (steps.Init k) c e =
      let p = no_false 1 (premises g (steps.Init k)) (omega arith) e in
      let q = and_parts (is_some (contract_at g.contracts k)) _ p.0 in
      let z : k + 0 ≡ k = omega arith in
      offered_from (steps.Init k) (in_left (steps.Init k) (beginnings 0 g.contracts) (all_takings g.contracts g.active)
      (subst (λ n. Is_in (steps.Init n) (beginnings 0 g.contracts)) z (beginning_there 0 k g.contracts q.0))) e
  enabled_offered (steps.PutReveal output i) c e =
      let p = no_false 1 (premises g (steps.PutReveal output i)) (omega arith) e in
      offered_from (steps.PutReveal output i) (in_right (steps.PutReveal output i) (beginnings 0 g.contracts)
      (all_takings g.contracts g.active)
      (taken_there output i (steps.PutReveal output i) is_put refl (put_kind output i) p.0 p.1.0)) e
  enabled_offered (steps.Withdraw output i) c e =
      let p = no_false 1 (premises g (steps.Withdraw output i)) (omega arith) e in
      offered_from (steps.Withdraw output i) (in_right (steps.Withdraw output i) (beginnings 0 g.contracts)
      (all_takings g.contracts g.active)
      (taken_there output i (steps.Withdraw output i) is_withdraw refl (withdraw_kind output i) p.0 p.1.0)) e
  enabled_offered (steps.Split output i) c e =
      let p = no_false 1 (premises g (steps.Split output i)) (omega arith) e in
      offered_from (steps.Split output i) (in_right (steps.Split output i) (beginnings 0 g.contracts) (all_takings g.contracts g.active)
      (taken_there output i (steps.Split output i) is_split refl (split_kind output i) p.0 p.1.0)) e
  enabled_offered (steps.Delay blocks) c e = cc
  enabled_offered (steps.AuthMove party action) c e = cc
  enabled_offered (steps.Move action) c e = cc
  enabled_offered (steps.Advertise contract bindings) c e = cc
  enabled_offered (steps.Commit contract party lengths) c e = cc
  enabled_offered (steps.AuthInit contract party deposit) c e = cc
  enabled_offered (steps.Reveal contract party secret) c e = cc
  enabled_offered (steps.AuthBranch party output branch) c e = cc

-- ---- no other step is offered

beginnings_kind : (k : ℕ) (contracts : List Advert) → list_all is_contract_step (beginnings k contracts) ≡ true
beginnings_kind k [] = refl
beginnings_kind k (c ∷ cs) = beginnings_kind (k + 1) cs

taking_kind : (output i : ℕ) (c : term.Guarded) → list_all is_contract_step (taking output i c) ≡ true
taking_kind output i (put_reveal puts reveals test next) = refl
taking_kind output i (withdraw party) = refl
taking_kind output i (split parts) = refl
taking_kind output i (auth party body) = refl
taking_kind output i (after height body) = refl

takings_kind : (output i : ℕ) (bs : List term.Guarded) → list_all is_contract_step (takings output i bs) ≡ true
takings_kind output i [] = refl
takings_kind output i (b ∷ bs) =
    all_append is_contract_step (taking output i (core b)) (takings output (i + 1) bs) (taking_kind output i (core b))
    (takings_kind output (i + 1) bs)

all_takings_kind : (contracts : List Advert) (xs : List ActiveContract) → list_all is_contract_step (all_takings contracts xs) ≡ true
all_takings_kind contracts [] = refl
all_takings_kind contracts (x ∷ xs) =
    all_append is_contract_step (takings x.number 0 (branches_of contracts x)) (all_takings contracts xs)
    (takings_kind x.number 0 (branches_of contracts x)) (all_takings_kind contracts xs)

offered_enabled : (g : Configuration) (s : Step) → Contains (offers g) s → (is_contract_step s ≡ true) × (fails g s ≡ 0)
offered_enabled g s h =
    let all = beginnings 0 g.contracts ++ all_takings g.contracts g.active in
    let r = in_filter (λ x. is_enabled g x) all s (in_from_contains (offers g) s h) in
    let kinds =
    all_append is_contract_step (beginnings 0 g.contracts) (all_takings g.contracts g.active) (beginnings_kind 0 g.contracts)
    (all_takings_kind g.contracts g.active) in
    (all_in is_contract_step all s kinds r.0, eqb-true (fails g s) 0 r.1)

-- all offers are steps by which contracts begin or go on
pub offers_kind : (g : Configuration) → list_all is_contract_step (offers g) ≡ true
offers_kind g =
    all_filter is_contract_step (λ s. is_enabled g s) (beginnings 0 g.contracts ++ all_takings g.contracts g.active)
    (all_append is_contract_step (beginnings 0 g.contracts) (all_takings g.contracts g.active) (beginnings_kind 0 g.contracts)
    (all_takings_kind g.contracts g.active))

pub every_enabled : EveryEnabledIsOffered
every_enabled g s = (offered_enabled g s, λ h. enabled_offered g s h.0 h.1)

-- ---- the order

later_contract : (m j n i : ℕ) → m < n → is_key_less (1, m, j) (1, n, i) ≡ true
later_contract m j n i l = grind (arith, nat_tests, l)

later_branch : (n j i : ℕ) → j < i → is_key_less (1, n, j) (1, n, i) ≡ true
later_branch n j i l = grind (arith, nat_tests, l)

-- all of these stand after the key
abbrev AllAfter : ℕ × ℕ × ℕ → List Step → Type 0
AllAfter key xs = list_all (λ t. is_key_less key (key_of t)) xs ≡ true

beginnings_after : (k n : ℕ) (contracts : List Advert) → k < n → AllAfter (0, k, 0) (beginnings n contracts)
beginnings_after k n [] l = refl
beginnings_after k n (c ∷ cs) l =
    let e : is_key_less (0, k, 0) (0, n, 0) ≡ true = grind (arith, nat_tests, l) in
    and_from _ _ e (beginnings_after k (n + 1) cs (omega (arith, l)))

beginnings_order : (k : ℕ) (contracts : List Advert) → stands_in_order is_offered_before (beginnings k contracts) ≡ true
beginnings_order k [] = refl
beginnings_order k (c ∷ cs) = and_from _ _ (beginnings_after k (k + 1) cs (omega arith)) (beginnings_order (k + 1) cs)

taking_after : (key : ℕ × ℕ × ℕ) (output i : ℕ) (c : term.Guarded) → is_key_less key (1, output, i) ≡ true → AllAfter key (taking output i c)
taking_after key output i (put_reveal puts reveals test next) h = and_from _ _ h refl
taking_after key output i (withdraw party) h = and_from _ _ h refl
taking_after key output i (split parts) h = and_from _ _ h refl
taking_after key output i (auth party body) h = refl
taking_after key output i (after height body) h = refl

-- the branches of a contract from one on
takings_after : (key : ℕ × ℕ × ℕ) (output i : ℕ) (bs : List term.Guarded) → ((j : ℕ) → i ≤ j → is_key_less key (1, output, j) ≡ true)
    → AllAfter key (takings output i bs)
takings_after key output i [] h = refl
takings_after key output i (b ∷ bs) h =
    all_append (λ t. is_key_less key (key_of t)) (taking output i (core b)) (takings output (i + 1) bs)
    (taking_after key output i (core b) (h i (omega arith))) (takings_after key output (i + 1) bs (λ j l. h j (omega (arith, l))))

contracts_after : (key : ℕ × ℕ × ℕ) (contracts : List Advert) (xs : List ActiveContract) (m : ℕ)
    → ((n j : ℕ) → m < n → is_key_less key (1, n, j) ≡ true)
    → list_all (λ n. nat_lt m n) (map (λ (a : ActiveContract). a.number) xs) ≡ true → AllAfter key (all_takings contracts xs)
contracts_after key contracts [] m h l = refl
contracts_after key contracts (x ∷ xs) m h l =
    let p = and_parts (nat_lt m x.number) (list_all (λ n. nat_lt m n) (map (λ (a : ActiveContract). a.number) xs)) l in
    let less : m < x.number = grind (arith, nat_tests, p.0) in
    all_append (λ t. is_key_less key (key_of t)) (takings x.number 0 (branches_of contracts x)) (all_takings contracts xs)
    (takings_after key x.number 0 (branches_of contracts x) (λ j q. h x.number j less)) (contracts_after key contracts xs m h p.1)

-- what stands after each key of a contract's branches stands after their steps
taking_before : (output i : ℕ) (c : term.Guarded) (ys : List Step) → AllAfter (1, output, i) ys
    → list_all (λ x. list_all (λ y. is_offered_before x y) ys) (taking output i c) ≡ true
taking_before output i (put_reveal puts reveals test next) ys h = and_from _ _ h refl
taking_before output i (withdraw party) ys h = and_from _ _ h refl
taking_before output i (split parts) ys h = and_from _ _ h refl
taking_before output i (auth party body) ys h = refl
taking_before output i (after height body) ys h = refl

takings_before : (output i : ℕ) (bs : List term.Guarded) (ys : List Step) → ((j : ℕ) → AllAfter (1, output, j) ys)
    → list_all (λ x. list_all (λ y. is_offered_before x y) ys) (takings output i bs) ≡ true
takings_before output i [] ys h = refl
takings_before output i (b ∷ bs) ys h =
    all_append (λ x. list_all (λ y. is_offered_before x y) ys) (taking output i (core b)) (takings output (i + 1) bs)
    (taking_before output i (core b) ys (h i)) (takings_before output (i + 1) bs ys h)

taking_order : (output i : ℕ) (c : term.Guarded) → stands_in_order is_offered_before (taking output i c) ≡ true
taking_order output i (put_reveal puts reveals test next) = refl
taking_order output i (withdraw party) = refl
taking_order output i (split parts) = refl
taking_order output i (auth party body) = refl
taking_order output i (after height body) = refl

takings_order : (output i : ℕ) (bs : List term.Guarded) → stands_in_order is_offered_before (takings output i bs) ≡ true
takings_order output i [] = refl
takings_order output i (b ∷ bs) =
    in_order-append is_offered_before (taking output i (core b)) (takings output (i + 1) bs) (taking_order output i (core b))
    (takings_order output (i + 1) bs)
    (taking_before output i (core b) (takings output (i + 1) bs)
    (takings_after (1, output, i) output (i + 1) bs (λ j l. later_branch output i j (omega (arith, l)))))

all_takings_order : (contracts : List Advert) (xs : List ActiveContract)
    → are_ascending (map (λ (a : ActiveContract). a.number) xs) ≡ true
    → stands_in_order is_offered_before (all_takings contracts xs) ≡ true
all_takings_order contracts [] h = refl
all_takings_order contracts (x ∷ xs) h =
    let p =
    and_parts (list_all (λ n. nat_lt x.number n) (map (λ (a : ActiveContract). a.number) xs))
    (are_ascending (map (λ (a : ActiveContract). a.number) xs)) h in
    in_order-append is_offered_before (takings x.number 0 (branches_of contracts x)) (all_takings contracts xs)
    (takings_order x.number 0 (branches_of contracts x)) (all_takings_order contracts xs p.1)
    (takings_before x.number 0 (branches_of contracts x) (all_takings contracts xs)
    (λ j. contracts_after (1, x.number, j) contracts xs x.number (λ n i l. later_contract x.number j n i l) p.0))

takings_begun : (k output i : ℕ) (bs : List term.Guarded) → AllAfter (0, k, 0) (takings output i bs)
takings_begun k output i bs = takings_after (0, k, 0) output i bs (λ j l. refl)

all_begun : (k : ℕ) (contracts : List Advert) (xs : List ActiveContract) → AllAfter (0, k, 0) (all_takings contracts xs)
all_begun k contracts [] = refl
all_begun k contracts (x ∷ xs) =
    all_append (λ t. is_key_less (0, k, 0) (key_of t)) (takings x.number 0 (branches_of contracts x)) (all_takings contracts xs)
    (takings_begun k x.number 0 (branches_of contracts x)) (all_begun k contracts xs)

beginnings_before : (k : ℕ) (cs contracts : List Advert) (xs : List ActiveContract)
    → list_all (λ x. list_all (λ y. is_offered_before x y) (all_takings contracts xs)) (beginnings k cs) ≡ true
beginnings_before k [] contracts xs = refl
beginnings_before k (c ∷ cs) contracts xs = and_from _ _ (all_begun k contracts xs) (beginnings_before (k + 1) cs contracts xs)

pub in_order : OffersStandInOrder
in_order g h =
    in_order-filter is_offered_before (λ s. is_enabled g s) (beginnings 0 g.contracts ++ all_takings g.contracts g.active)
    (in_order-append is_offered_before (beginnings 0 g.contracts) (all_takings g.contracts g.active) (beginnings_order 0 g.contracts)
    (all_takings_order g.contracts g.active h) (beginnings_before 0 g.contracts g.contracts g.active))
