-- Numbers of deposits and contracts ascend and stay below the next, whatever step is taken.
use Rattle.std.proofs.Common.{◌≡◌, ℕ, zero, suc, ◌+◌, ◌-◌, ◌<◌, ◌≤◌, List, [], ◌∷◌, ◌++◌, length, map, Bool, true, false, not, refl, sym, ap, ◌∙◌, subst, arith}
use Rattle.std.specs.Prelude.{◌==◌, nat_lt, if◌then◌else◌, Option, filter}
use Rattle.std.specs.List.{list_all}
use Rattle.std.proofs.lemmas.Bool.{and_parts, and_from, not-true, not_from_false, or_from, or_parts}
use Rattle.std.proofs.lemmas.Bool.Decides.{nat_tests}
use Rattle.std.proofs.lemmas.List.{map-append}
use Rattle.spec_data.specs.Lists.{has_number}
use Rattle.spec_terms.specs.Advert.{Advert}
use Rattle.spec_terms.specs.declared.path.PathStep.{PathStep}
use Rattle.spec_terms.specs.declared.path.PathStep.TheVariants.{Branch as To}
use Rattle.spec_calculus.specs.declared.step.Owner.{Owner}
use Rattle.spec_calculus.specs.declared.step.Owner.TheVariants.{Party}
use Rattle.spec_calculus.specs.declared.step.Move.{Move}
use Rattle.spec_calculus.specs.declared.step.Step.{Step}
use Rattle.spec_calculus.specs.declared.step.Step.TheVariants as steps
use Rattle.spec_calculus.specs.declared.parts.Deposit.{Deposit}
use Rattle.spec_calculus.specs.declared.parts.ActiveContract.{ActiveContract}
use Rattle.spec_calculus.specs.Configuration.{Configuration}
use Rattle.spec_calculus.specs.Beginning.{contract_at, pre_of, fee_of, bindings_of, numbers_of, persistent_names}
use Rattle.spec_calculus.specs.Moves.{kept, made}
use Rattle.spec_calculus.specs.Branches.{active_at, contract_number, position_of, balance_of, advert_of, puts_of_taken, payee_of, values_of, gone, total_value, others, parts_made}
use Rattle.spec_calculus.specs.Steps.{branch_at, begun, continued, withdrawn, divided, moved, effect, opening, owned}
use Rattle.spec_calculus.specs.InOrder.{are_ascending}
use Rattle.theory_calculus.specs.Numbered.{IsNumbered, NumbersStandApart, deposit_numbers, contract_numbers}
use Rattle.theory_calculus.proofs.Members.{all_append, all_then}
use Rattle.theory_calculus.proofs.Ordered.{in_order-append}
use Rattle.theory_calculus.proofs.Runs.{kept_along}

-- ---- numbers in a row

-- so many numbers, from n on
abbrev pub numbers_from : ℕ → ℕ → List ℕ
numbers_from n zero = []
numbers_from n (suc k) = n ∷ numbers_from (n + 1) k

abbrev pub AllBelow : ℕ → List ℕ → Type 0
AllBelow m ns = list_all (λ n. nat_lt n m) ns ≡ true

abbrev pub AllAbove : ℕ → List ℕ → Type 0
AllAbove m ns = list_all (λ n. nat_lt m n) ns ≡ true

from_above : (m n k : ℕ) → m < n → AllAbove m (numbers_from n k)
from_above m n zero l = refl
from_above m n (suc k) l = and_from _ _ (grind (arith, nat_tests, l)) (from_above m (n + 1) k (omega (arith, l)))

from_below : (m n k : ℕ) → n + k ≤ m → AllBelow m (numbers_from n k)
from_below m n zero l = refl
from_below m n (suc k) l =
    let here : nat_lt n m ≡ true = (let s : n < m = omega (arith, l) in grind (arith, nat_tests, s)) in
    and_from _ _ here (from_below m (n + 1) k (omega (arith, l)))

from_ascends : (n k : ℕ) → are_ascending (numbers_from n k) ≡ true
from_ascends n zero = refl
from_ascends n (suc k) = and_from _ _ (from_above n (n + 1) k (omega arith)) (from_ascends (n + 1) k)

below_more : (m n : ℕ) (xs : List ℕ) → m ≤ n → AllBelow m xs → AllBelow n xs
below_more m n xs l h = all_then (λ x. nat_lt x m) (λ x. nat_lt x n) xs (λ x p. grind (arith, nat_tests, l, p)) h

-- all below m come before all from n on
below_before : (m n k : ℕ) (xs : List ℕ) → m ≤ n → AllBelow m xs → list_all (λ x. list_all (λ y. nat_lt x y) (numbers_from n k)) xs ≡ true
below_before m n k xs l h =
    all_then (λ x. nat_lt x m) (λ x. list_all (λ y. nat_lt x y) (numbers_from n k)) xs
    (λ x p. from_above x n k (let s : x < m = grind (arith, nat_tests, p) in omega (arith, s, l))) h

pub grown_ascends : (n k : ℕ) (xs : List ℕ) → are_ascending xs ≡ true → AllBelow n xs → are_ascending (xs ++ numbers_from n k) ≡ true
grown_ascends n k xs a b = in_order-append nat_lt xs (numbers_from n k) a (from_ascends n k) (below_before n n k xs (omega arith) b)

grown_below : (m n k : ℕ) (xs : List ℕ) → n + k ≤ m → AllBelow n xs → AllBelow m (xs ++ numbers_from n k)
grown_below m n k xs l b = all_append (λ x. nat_lt x m) xs (numbers_from n k) (below_more n m xs (omega (arith, l)) b) (from_below m n k l)

-- ---- what a filter leaves

module _ {X : Type 0} (name : X → ℕ) (p : X → Bool) where
  pub filtered_all : (f : ℕ → Bool) (xs : List X) → list_all f (map name xs) ≡ true → list_all f (map name (filter p xs)) ≡ true
  filtered_all f [] h = refl
  filtered_all f (x ∷ xs) h =
      let q = and_parts (f (name x)) (list_all f (map name xs)) h in
      by_test (p x) q.0 (filtered_all f xs q.1)
    where
      by_test : (b : Bool) → f (name x) ≡ true → list_all f (map name (filter p xs)) ≡ true
          → list_all f (map name (if b then x ∷ filter p xs else filter p xs)) ≡ true
      by_test true a ih = and_from _ _ a ih
      by_test false a ih = ih

  pub filtered_ascends : (xs : List X) → are_ascending (map name xs) ≡ true → are_ascending (map name (filter p xs)) ≡ true
  filtered_ascends [] h = refl
  filtered_ascends (x ∷ xs) h =
      let q = and_parts (list_all (λ n. nat_lt (name x) n) (map name xs)) (are_ascending (map name xs)) h in
      by_test (p x) (filtered_all (λ n. nat_lt (name x) n) xs q.0) (filtered_ascends xs q.1)
    where
      by_test : (b : Bool) → list_all (λ n. nat_lt (name x) n) (map name (filter p xs)) ≡ true
          → are_ascending (map name (filter p xs)) ≡ true → are_ascending (map name (if b then x ∷ filter p xs else filter p xs)) ≡ true
      by_test true a ih = and_from _ _ a ih
      by_test false a ih = ih

  filtered_lacks : (n : ℕ) (xs : List X) → has_number n (map name xs) ≡ false → has_number n (map name (filter p xs)) ≡ false
  filtered_lacks n [] h = refl
  filtered_lacks n (x ∷ xs) h =
      let q = or_parts (name x == n) (has_number n (map name xs)) h in
      by_test (p x) q.0 (filtered_lacks n xs q.1)
    where
      by_test : (b : Bool) → (name x == n) ≡ false → has_number n (map name (filter p xs)) ≡ false
          → has_number n (map name (if b then x ∷ filter p xs else filter p xs)) ≡ false
      by_test true a ih = or_from _ _ a ih
      by_test false a ih = ih

  pub filtered_apart : (ns : List ℕ) (xs : List X) → list_all (λ n. not (has_number n (map name xs))) ns ≡ true
      → list_all (λ n. not (has_number n (map name (filter p xs)))) ns ≡ true
  filtered_apart ns xs h =
      all_then (λ n. not (has_number n (map name xs))) (λ n. not (has_number n (map name (filter p xs)))) ns
      (λ n q. not_from_false _ (filtered_lacks n xs (not-true _ q))) h

-- ---- what is new

made_numbers : (n : ℕ) (os : List (Owner × ℕ)) → map (λ (d : Deposit). d.number) (made n os) ≡ numbers_from n (length os)
made_numbers n [] = refl
made_numbers n (o ∷ os) = ap (λ ns. n ∷ ns) (made_numbers (n + 1) os)

pub parts_numbers : (n contract : ℕ) (path : List PathStep) (k : ℕ) (vs : List ℕ)
    → map (λ (a : ActiveContract). a.number) (parts_made n contract path k vs) ≡ numbers_from n (length vs)
parts_numbers n contract path k [] = refl
parts_numbers n contract path k (v ∷ vs) = ap (λ ns. n ∷ ns) (parts_numbers (n + 1) contract path (k + 1) vs)

-- numbers below the new ones aren't among them
below_lacks : (m n k : ℕ) → m < n → has_number m (numbers_from n k) ≡ false
below_lacks m n zero l = refl
below_lacks m n (suc k) l = or_from _ _ (grind (arith, nat_tests, l)) (below_lacks m (n + 1) k (omega (arith, l)))

below_absent : (n m : ℕ) (xs : List ℕ) → n ≤ m → AllBelow n xs → has_number m xs ≡ false
below_absent n m [] l h = refl
below_absent n m (x ∷ xs) l h =
    let p = and_parts (nat_lt x n) (list_all (λ y. nat_lt y n) xs) h in
    let e : (x == m) ≡ false = grind (arith, nat_tests, p.0, l) in
    or_from _ _ e (below_absent n m xs l p.1)

new_apart : (n m k : ℕ) (xs : List ℕ) → n ≤ m → AllBelow n xs → list_all (λ y. not (has_number y xs)) (numbers_from m k) ≡ true
new_apart n m zero xs l h = refl
new_apart n m (suc k) xs l h = and_from _ _ (not_from_false _ (below_absent n m xs l h)) (new_apart n (m + 1) k xs (omega (arith, l)) h)

any_append : (n : ℕ) (xs ys : List ℕ) → has_number n xs ≡ false → has_number n ys ≡ false → has_number n (xs ++ ys) ≡ false
any_append n [] ys h k = k
any_append n (x ∷ xs) ys h k = let p = or_parts (x == n) (has_number n xs) h in or_from _ _ p.0 (any_append n xs ys p.1 k)

apart_from_more : (n k : ℕ) (ds cs : List ℕ) → AllBelow n ds → list_all (λ d. not (has_number d cs)) ds ≡ true
    → list_all (λ d. not (has_number d (cs ++ numbers_from n k))) ds ≡ true
apart_from_more n k [] cs b h = refl
apart_from_more n k (d ∷ ds) cs b h =
    let p = and_parts (nat_lt d n) (list_all (λ x. nat_lt x n) ds) b in
    let q = and_parts (not (has_number d cs)) (list_all (λ x. not (has_number x cs)) ds) h in
    let l : d < n = grind (arith, nat_tests, p.0) in
    and_from _ _ (not_from_false _ (any_append d cs (numbers_from n k) (not-true _ q.0) (below_lacks d n k l)))
    (apart_from_more n k ds cs p.1 q.1)

-- ---- each step

-- numbers of both kinds and the next one
pub record Row (next : ℕ) (ds cs : List ℕ) : Type 0 where
  pub deposits : are_ascending ds ≡ true
  pub active : are_ascending cs ≡ true
  pub deposits_below : AllBelow next ds
  pub active_below : AllBelow next cs
  pub apart : list_all (λ n. not (has_number n cs)) ds ≡ true

more_deposits : (n k : ℕ) (ds cs : List ℕ) → Row n ds cs → Row (n + k) (ds ++ numbers_from n k) cs
more_deposits n k ds cs r = record {
  deposits = grown_ascends n k ds r.deposits r.deposits_below;
  active = r.active;
  deposits_below = grown_below (n + k) n k ds (omega arith) r.deposits_below;
  active_below = below_more n (n + k) cs (omega arith) r.active_below;
  apart = all_append (λ d. not (has_number d cs)) ds (numbers_from n k) r.apart (new_apart n n k cs (omega arith) r.active_below);
}

more_contracts : (n k : ℕ) (ds cs : List ℕ) → Row n ds cs → Row (n + k) ds (cs ++ numbers_from n k)
more_contracts n k ds cs r = record {
  deposits = r.deposits;
  active = grown_ascends n k cs r.active r.active_below;
  deposits_below = below_more n (n + k) ds (omega arith) r.deposits_below;
  active_below = grown_below (n + k) n k cs (omega arith) r.active_below;
  apart = apart_from_more n k ds cs r.deposits_below r.apart;
}

abbrev d_names : List Deposit → List ℕ
d_names ds = map (λ d. d.number) ds

abbrev a_names : List ActiveContract → List ℕ
a_names cs = map (λ a. a.number) cs

fewer_deposits : (n : ℕ) (ds : List Deposit) (cs : List ℕ) (p : Deposit → Bool) → Row n (d_names ds) cs → Row n (d_names (filter p ds)) cs
fewer_deposits n ds cs p r = record {
  deposits = filtered_ascends (λ (d : Deposit). d.number) p ds r.deposits;
  active = r.active;
  deposits_below = filtered_all (λ (d : Deposit). d.number) p (λ m. nat_lt m n) ds r.deposits_below;
  active_below = r.active_below;
  apart = filtered_all (λ (d : Deposit). d.number) p (λ m. not (has_number m cs)) ds r.apart;
}

pub fewer_contracts : (n : ℕ) (ds : List ℕ) (cs : List ActiveContract) (p : ActiveContract → Bool) → Row n ds (a_names cs)
    → Row n ds (a_names (filter p cs))
fewer_contracts n ds cs p r = record {
  deposits = r.deposits;
  active = filtered_ascends (λ (a : ActiveContract). a.number) p cs r.active;
  deposits_below = r.deposits_below;
  active_below = filtered_all (λ (a : ActiveContract). a.number) p (λ m. nat_lt m n) cs r.active_below;
  apart = filtered_apart (λ (a : ActiveContract). a.number) p ds cs r.apart;
}

add_deposits : (n k : ℕ) (ds new : List Deposit) (cs : List ℕ) → d_names new ≡ numbers_from n k → Row n (d_names ds) cs
    → Row (n + k) (d_names (ds ++ new)) cs
add_deposits n k ds new cs e r =
    let z : d_names (ds ++ new) ≡ d_names ds ++ numbers_from n k =
    map-append (λ (d : Deposit). d.number) ds new ∙ ap (λ xs. d_names ds ++ xs) e in
    subst (λ xs. Row (n + k) xs cs) (sym z) (more_deposits n k (d_names ds) cs r)

pub add_contracts : (n k : ℕ) (ds : List ℕ) (cs new : List ActiveContract) → a_names new ≡ numbers_from n k → Row n ds (a_names cs)
    → Row (n + k) ds (a_names (cs ++ new))
add_contracts n k ds cs new e r =
    let z : a_names (cs ++ new) ≡ a_names cs ++ numbers_from n k =
    map-append (λ (a : ActiveContract). a.number) cs new ∙ ap (λ xs. a_names cs ++ xs) e in
    subst (λ xs. Row (n + k) ds xs) (sym z) (more_contracts n k ds (a_names cs) r)

abbrev RowOf : Configuration → Type 0
RowOf g = Row g.next (deposit_numbers g) (contract_numbers g)

begun_row : (g : Configuration) (contract : ℕ) (advert : Option Advert) (numbers : List ℕ) → RowOf g
    → RowOf (begun g contract advert numbers)
begun_row g contract advert numbers r =
    let new : ActiveContract =
    record { number = g.next; contract = contract; position = []; balance = total_value (gone g.deposits numbers) - fee_of advert } in
    add_contracts g.next 1 (d_names (kept g.deposits numbers)) g.active (new ∷ []) refl
    (fewer_deposits g.next g.deposits (a_names g.active) (λ d. not (has_number d.number numbers)) r)

continued_row : (g : Configuration) (output branch : ℕ) (active : Option ActiveContract) (numbers : List ℕ) → RowOf g
    → RowOf (continued g output branch active numbers)
continued_row g output branch active numbers r =
    let new : ActiveContract = record {
      number = g.next;
      contract = contract_number active;
      position = position_of active ++ To branch ∷ [];
      balance = balance_of active + total_value (gone g.deposits numbers) - fee_of (advert_of g.contracts active);
    } in
    add_contracts g.next 1 (d_names (kept g.deposits numbers)) (others g.active output) (new ∷ []) refl
    (fewer_contracts g.next (d_names (kept g.deposits numbers)) g.active (λ x. not (x.number == output))
    (fewer_deposits g.next g.deposits (a_names g.active) (λ d. not (has_number d.number numbers)) r))

withdrawn_row : (g : Configuration) (output : ℕ) (active : Option ActiveContract) (party : List ℕ) → RowOf g
    → RowOf (withdrawn g output active party)
withdrawn_row g output active party r =
    let new : Deposit =
    record { number = g.next; owner = Party party; value = balance_of active - fee_of (advert_of g.contracts active) } in
    add_deposits g.next 1 g.deposits (new ∷ []) (a_names (others g.active output)) refl
    (fewer_contracts g.next (d_names g.deposits) g.active (λ x. not (x.number == output)) r)

divided_row : (g : Configuration) (output branch : ℕ) (active : Option ActiveContract) (values : List ℕ) → RowOf g
    → RowOf (divided g output branch active values)
divided_row g output branch active values r =
    add_contracts g.next (length values) (d_names g.deposits) (others g.active output)
    (parts_made g.next (contract_number active) (position_of active ++ To branch ∷ []) 0 values)
    (parts_numbers g.next (contract_number active) (position_of active ++ To branch ∷ []) 0 values)
    (fewer_contracts g.next (d_names g.deposits) g.active (λ x. not (x.number == output)) r)

moved_row : (g : Configuration) (action : Move) → RowOf g → RowOf (moved g action)
moved_row g action r =
    add_deposits g.next (length action.outputs) (kept g.deposits action.inputs) (made g.next action.outputs) (a_names g.active)
    (made_numbers g.next action.outputs)
    (fewer_deposits g.next g.deposits (a_names g.active) (λ d. not (has_number d.number action.inputs)) r)

row_after : (g : Configuration) (s : Step) → RowOf g → RowOf (effect g s)
row_after g (steps.Delay blocks) r = r
row_after g (steps.AuthMove party action) r = r
row_after g (steps.Move action) r = moved_row g action r
row_after g (steps.Advertise contract bindings) r = r
row_after g (steps.Commit contract party lengths) r = r
row_after g (steps.AuthInit contract party deposit) r = r
row_after g (steps.Init contract) r =
    begun_row g contract (contract_at g.contracts contract)
    (numbers_of (bindings_of g.advertised contract) (persistent_names (pre_of (contract_at g.contracts contract)))) r
row_after g (steps.Reveal contract party secret) r = r
row_after g (steps.AuthBranch party output branch) r = r
row_after g (steps.PutReveal output branch) r =
    continued_row g output branch (active_at g.active output)
    (numbers_of (bindings_of g.advertised (contract_number (active_at g.active output))) (puts_of_taken (branch_at g output branch))) r
row_after g (steps.Withdraw output branch) r = withdrawn_row g output (active_at g.active output) (payee_of (branch_at g output branch)) r
row_after g (steps.Split output branch) r =
    divided_row g output branch (active_at g.active output) (values_of (branch_at g output branch)) r

pub row_from : (g : Configuration) → IsNumbered g → RowOf g
row_from g h =
    record { deposits = h.deposits; active = h.active; deposits_below = h.deposits_below; active_below = h.active_below; apart = h.apart }

numbered_from : (g : Configuration) → RowOf g → IsNumbered g
numbered_from g h =
    record { deposits = h.deposits; active = h.active; deposits_below = h.deposits_below; active_below = h.active_below; apart = h.apart }

-- whatever the step
pub numbered_after : (g : Configuration) (s : Step) → IsNumbered g → IsNumbered (effect g s)
numbered_after g s h = numbered_from (effect g s) (row_after g s (row_from g h))

owned_length : (deposits : List (List ℕ × ℕ)) → length (owned deposits) ≡ length deposits
owned_length [] = refl
owned_length (d ∷ ds) = ap suc (owned_length ds)

none_absent : (ns : List ℕ) → list_all (λ n. not (has_number n [])) ns ≡ true
none_absent [] = refl
none_absent (n ∷ ns) = none_absent ns

pub opening_numbered : (parties honest : List (List ℕ)) (deposits : List (List ℕ × ℕ)) (contracts : List Advert)
    → IsNumbered (opening parties honest deposits contracts)
opening_numbered parties honest deposits contracts =
    let e : d_names (made 0 (owned deposits)) ≡ numbers_from 0 (length deposits) =
    made_numbers 0 (owned deposits) ∙ ap (numbers_from 0) (owned_length deposits) in
    record {
      deposits = subst (λ ns. are_ascending ns ≡ true) (sym e) (from_ascends 0 (length deposits));
      active = refl;
      deposits_below = subst (AllBelow (length deposits)) (sym e) (from_below (length deposits) 0 (length deposits) (omega arith));
      active_below = refl;
      apart = none_absent (d_names (made 0 (owned deposits)));
    }

pub numbers_apart : NumbersStandApart
numbers_apart parties honest deposits contracts ss g r =
    kept_along IsNumbered (λ c s e h. numbered_after c s h) (opening parties honest deposits contracts) ss g r
    (opening_numbered parties honest deposits contracts)
