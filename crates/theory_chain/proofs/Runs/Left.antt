-- What a transaction of the deal leaves: the deposits that it doesn't take, and the contracts that it doesn't spend.
use Rattle.std.proofs.Common.{◌≡◌, ℕ, ◌+◌, ◌<◌, List, [], ◌∷◌, ◌++◌, length, map, Bool, true, false, Option, Some, None}
use Rattle.std.proofs.Common.{refl, sym, ap, subst, ◌∙◌, inl, inr, cond, arith, append_assoc}
use Rattle.std.specs.Prelude.{◌||◌, ◌&&◌, ◌==◌, not, nat_lt}
use Rattle.std.proofs.lemmas.Bool.Decides.{nat_tests}
use Rattle.std.specs.List.{list_any, list_all, filter, find, flat_map}
use Rattle.std.specs.Str.{bytes_eq}
use Rattle.std.proofs.lemmas.Bool.{both_ways, eq-eqb, ne_eqb}
use Rattle.spec_data.specs.Lists.{look_up, is_among, has_number}
use Rattle.spec_terms.specs.Precondition.{Holding, deposits}
use Rattle.spec_calculus.specs.declared.step.Owner.TheVariants as owners
use Rattle.spec_calculus.specs.declared.parts.Deposit.{Deposit as LiveDeposit}
use Rattle.spec_calculus.specs.declared.parts.ActiveContract.{ActiveContract}
use Rattle.spec_calculus.specs.Beginning.{and_then, numbers_of}
use Rattle.spec_calculus.specs.InOrder.{are_ascending}
use Rattle.spec_calculus.specs.Moves.{is_live, kept}
use Rattle.spec_bitcoin.specs.declared.tx.OutPoint.{OutPoint}
use Rattle.spec_compiler.specs.Keyed.Instance.{Instance}
use Rattle.theory_calculus.specs.Members.{Is_in}
use Rattle.theory_calculus.proofs.Members.{in_left}
use Rattle.theory_calculus.proofs.Names.{bytes-true, bytes_refl}
use Rattle.theory_world.proofs.Hashed.{find_any}
use Rattle.theory_world.proofs.Tests.{any-append, filter-append}
use Rattle.spec_chain.specs.declared.happened.Happened.{Happened}
use Rattle.spec_chain.specs.declared.output.Held.{Held}
use Rattle.spec_chain.specs.declared.output.Held.TheVariants as helds
use Rattle.spec_chain.specs.declared.output.Output.{Output}
use Rattle.spec_chain.specs.Chain.{Course}
use Rattle.spec_chain.specs.Outputs.{is_there, without, without_all}
use Rattle.theory_chain.specs.ChainSteps.{numbered, deal_bindings, taken_by, is_taken, left_from, paid_deposit, deposits_shown, active_contract}
use Rattle.theory_chain.proofs.Deals.Outputs.{any_there, HasNumber}
use Rattle.theory_chain.proofs.Runs.Kept.{false_of}

-- ---- lists

pub flat_append : {X Y : Type 0} (f : X → List Y) (xs ys : List X) → flat_map f (xs ++ ys) ≡ flat_map f xs ++ flat_map f ys
flat_append f [] ys = refl
flat_append f (x ∷ xs) ys = ap (λ (zs : List _). f x ++ zs) (flat_append f xs ys) ∙ sym (append_assoc (f x) (flat_map f xs) (flat_map f ys))

-- whether an output lies at one of these places
abbrev pub lies_at : List OutPoint → Output → Bool
lies_at places o = list_any (λ p. is_there p o) places

filter_twice : {X : Type 0} (p q : X → Bool) (xs : List X) → filter q (filter p xs) ≡ filter (λ x. p x && q x) xs
filter_twice p q [] = refl
filter_twice p q (x ∷ xs) = by_test (p x) (q x) refl (filter_twice p q xs)
  where
    by_test : (a b : Bool) → q x ≡ b → filter q (filter p xs) ≡ filter (λ y. p y && q y) xs
        → filter q (cond a (x ∷ filter p xs) (filter p xs)) ≡ cond (a && b) (x ∷ filter (λ y. p y && q y) xs) (filter (λ y. p y && q y) xs)
    by_test true true e ih = rw e (ap (λ (ys : List _). x ∷ ys) ih)
    by_test true false e ih = rw e ih
    by_test false b e ih = ih

filter_alike : {X : Type 0} (p q : X → Bool) (xs : List X) → ((x : X) → p x ≡ q x) → filter p xs ≡ filter q xs
filter_alike p q xs h = λ i. filter (λ x. h x i) xs

all_stay : {X : Type 0} (xs : List X) → filter (λ x. not false) xs ≡ xs
all_stay [] = refl
all_stay (x ∷ xs) = ap (λ (ys : List _). x ∷ ys) (all_stay xs)

-- what isn't spent is what lies at none of the places
pub unspent_are : (live : List Output) (places : List OutPoint) → without_all live places ≡ filter (λ o. not (lies_at places o)) live
unspent_are live [] = sym (all_stay live)
unspent_are live (place ∷ places) =
    unspent_are (without live place) places
    ∙ filter_twice (λ o. not (is_there place o)) (λ o. not (lies_at places o)) live
    ∙ filter_alike _ _ live (λ o. neither (is_there place o) (lies_at places o))
  where
    neither : (a b : Bool) → (not a && not b) ≡ not (a || b)
    neither true b = refl
    neither false b = refl

-- ---- contracts

-- the contracts that are left are those of the outputs that aren't spent
pub contracts_left : (keep : ActiveContract → Bool) (live : List Output) (places : List OutPoint)
    → ((o : Output) → Is_in o live → filter keep (active_contract o) ≡ cond (lies_at places o) [] (active_contract o))
    → filter keep (flat_map active_contract live) ≡ flat_map active_contract (without_all live places)
contracts_left keep live places each =
    all live each ∙ ap (flat_map active_contract) (sym (unspent_are live places))
  where
    all : (os : List Output) → ((o : Output) → Is_in o os → filter keep (active_contract o) ≡ cond (lies_at places o) [] (active_contract o))
        → filter keep (flat_map active_contract os) ≡ flat_map active_contract (filter (λ o. not (lies_at places o)) os)
    all [] f = refl
    all (o ∷ os) f =
        filter-append keep (active_contract o) (flat_map active_contract os)
        ∙ (λ i. f o (inl refl) i ++ all os (λ x h. f x (inr h)) i)
        ∙ by_test (lies_at places o)
      where
        by_test : (b : Bool) → cond b [] (active_contract o) ++ flat_map active_contract (filter (λ x. not (lies_at places x)) os)
            ≡ flat_map active_contract (cond (not b) (o ∷ filter (λ x. not (lies_at places x)) os) (filter (λ x. not (lies_at places x)) os))
        by_test true = refl
        by_test false = refl

-- where none is spent all are left
pub contracts_stay : (live : List Output) (places : List OutPoint)
    → ((o : Output) → Is_in o live → lies_at places o ≡ true → active_contract o ≡ [])
    → flat_map active_contract (without_all live places) ≡ flat_map active_contract live
contracts_stay live places none = ap (flat_map active_contract) (unspent_are live places) ∙ all live none
  where
    all : (os : List Output) → ((o : Output) → Is_in o os → lies_at places o ≡ true → active_contract o ≡ [])
        → flat_map active_contract (filter (λ o. not (lies_at places o)) os) ≡ flat_map active_contract os
    all [] f = refl
    all (o ∷ os) f = by_test (lies_at places o) refl (all os (λ x h. f x (inr h)))
      where
        by_test : (b : Bool) → lies_at places o ≡ b
            → flat_map active_contract (filter (λ x. not (lies_at places x)) os) ≡ flat_map active_contract os
            → flat_map active_contract (cond (not b) (o ∷ filter (λ x. not (lies_at places x)) os) (filter (λ x. not (lies_at places x)) os))
            ≡ flat_map active_contract (o ∷ os)
        by_test true e ih = ih ∙ ap (λ (xs : List ActiveContract). xs ++ flat_map active_contract os) (sym (f o (inl refl) e))
        by_test false e ih = ap (λ (xs : List ActiveContract). active_contract o ++ xs) ih

-- ---- numbers

-- among ascending numbers each is found by itself
pub ascending_found : {X : Type 0} (name : X → ℕ) (xs : List X) (x : X) → are_ascending (map name xs) ≡ true → Is_in x xs
    → find (λ y. name y == name x) xs ≡ Some x
ascending_found name [] x h i = absurd i
ascending_found name (y ∷ ys) x h (inl e) =
    ap (λ (b : Bool). cond b (Some y) (find (λ z. name z == name x) ys)) (eq-eqb (name y) (name x) (ap name (sym e))) ∙ ap Some (sym e)
ascending_found name (y ∷ ys) x h (inr i) =
    let p = parts (list_all (λ m. nat_lt (name y) m) (map name ys)) (are_ascending (map name ys)) h in
    let less : name y < name x = below (name y) ys x i p.0 in
    ap (λ (b : Bool). cond b (Some y) (find (λ z. name z == name x) ys)) (ne_eqb (name y) (name x) (λ q. omega (arith, q, less)))
    ∙ ascending_found name ys x p.1 i
  where
    parts : (a b : Bool) → (a && b) ≡ true → (a ≡ true) × (b ≡ true)
    parts true b k = (refl, k)
    parts false b k = cc

    less_of : (m n : ℕ) → nat_lt m n ≡ true → m < n
    less_of m n k = grind (arith, nat_tests)

    below : (m : ℕ) (zs : List _) (z : _) → Is_in z zs → list_all (λ n. nat_lt m n) (map name zs) ≡ true → m < name z
    below m [] z j k = absurd j
    below m (w ∷ zs) z (inl e) k = less_of m (name z) (subst (λ v. nat_lt m (name v) ≡ true) (sym e) (parts (nat_lt m (name w)) _ k).0)
    below m (w ∷ zs) z (inr j) k = below m zs z j (parts (nat_lt m (name w)) _ k).1

pub numbered_below : (n : ℕ) (names : List (List ℕ)) (x : List ℕ) (m : ℕ) → look_up x (numbered n names) ≡ Some m → m < n + length names
numbered_below n [] x m h = cc
numbered_below n (y ∷ names) x m h = by_test (bytes_eq y x) h (numbered_below (n + 1) names x m)
  where
    by_test : (b : Bool) → cond b (Some n) (look_up x (numbered (n + 1) names)) ≡ Some m
        → (look_up x (numbered (n + 1) names) ≡ Some m → m < n + 1 + length names) → m < n + length (y ∷ names)
    by_test true k later = let e : n ≡ m = cc in omega (arith, e)
    by_test false k later = let l = later k in omega (arith, l)

-- the number of a name is among those of these names exactly where the name is among them
pub number_among : (bs : List (List ℕ × ℕ)) (xs : List (List ℕ)) (m : ℕ) (name : List ℕ) → look_up name bs ≡ Some m
    → ((x : List ℕ) → look_up x bs ≡ Some m → x ≡ name) → has_number m (numbers_of bs xs) ≡ is_among name xs
number_among bs [] m name h once = refl
number_among bs (x ∷ xs) m name h once = by_bound (look_up x bs) refl (number_among bs xs m name h once)
  where
    no_none : (k : ℕ) → None ≡ Some k → ⊥
    no_none k e = cc

    some_number : {a b : ℕ} → Some a ≡ Some b → a ≡ b
    some_number e = cc

    isnt : (o : Option ℕ) → look_up x bs ≡ o → (o ≡ Some m → ⊥) → bytes_eq x name ≡ false
    isnt o e other =
        false_of (bytes_eq x name) (λ t. other (sym e ∙ ap (λ (y : List ℕ). look_up y bs) (bytes-true x name t) ∙ h))

    by_bound : (o : Option ℕ) → look_up x bs ≡ o → has_number m (numbers_of bs xs) ≡ is_among name xs
        → has_number m (and_then o (numbers_of bs xs)) ≡ (bytes_eq x name || is_among name xs)
    by_bound None e ih = ih ∙ ap (λ (b : Bool). b || is_among name xs) (sym (isnt None e (no_none m)))
    by_bound (Some k) e ih = by_test (bytes_eq x name) refl
      where
        by_test : (b : Bool) → bytes_eq x name ≡ b → ((k == m) || has_number m (numbers_of bs xs)) ≡ (b || is_among name xs)
        by_test true t =
            let same : k ≡ m = some_number (sym e ∙ ap (λ (y : List ℕ). look_up y bs) (bytes-true x name t) ∙ h) in
            ap (λ (c : Bool). c || has_number m (numbers_of bs xs)) (eq-eqb k m same)
        by_test false t =
            let other : (k == m) ≡ false =
            ne_eqb k m (λ q. both_ways _ t (subst (λ (y : List ℕ). bytes_eq y name ≡ true) (sym (once x (e ∙ ap Some q))) (bytes_refl name))) in
            (λ i. other i || ih i)

-- a number that no name has isn't among them
pub number_apart : (bs : List (List ℕ × ℕ)) (xs : List (List ℕ)) (m : ℕ) → ((x : List ℕ) → look_up x bs ≡ Some m → ⊥)
    → has_number m (numbers_of bs xs) ≡ false
number_apart bs [] m none = refl
number_apart bs (x ∷ xs) m none = by_bound (look_up x bs) refl (number_apart bs xs m none)
  where
    by_bound : (o : Option ℕ) → look_up x bs ≡ o → has_number m (numbers_of bs xs) ≡ false → has_number m (and_then o (numbers_of bs xs)) ≡ false
    by_bound None e ih = ih
    by_bound (Some k) e ih = let other : (k == m) ≡ false = ne_eqb k m (λ q. none x (e ∙ ap Some q)) in (λ i. other i || ih i)

-- ---- deposits

left_kept : (taken more : List ℕ → Bool) (ns : List ℕ) (n : ℕ) (ds : List (List ℕ × Holding))
    → ((m : ℕ) (d : List ℕ × Holding) → HasNumber n ds m d → has_number m ns ≡ more (d.0))
    → left_from (λ x. taken x || more x) n ds ≡ kept (left_from taken n ds) ns
left_kept taken more ns n [] each = refl
left_kept taken more ns n (d ∷ ds) each =
    by_test (taken (d.0)) (more (d.0)) (each n d (inl (refl, refl))) (left_kept taken more ns (n + 1) ds (λ m e h. each m e (inr h)))
  where
    by_test : (a b : Bool) → has_number n ns ≡ b → left_from (λ x. taken x || more x) (n + 1) ds ≡ kept (left_from taken (n + 1) ds) ns
        → cond (a || b) (left_from (λ x. taken x || more x) (n + 1) ds)
        (record { number = n; owner = owners.Party ((d.1).owner); value = (d.1).value } ∷ left_from (λ x. taken x || more x) (n + 1) ds)
        ≡ kept (cond a (left_from taken (n + 1) ds)
        (record { number = n; owner = owners.Party ((d.1).owner); value = (d.1).value } ∷ left_from taken (n + 1) ds)) ns
    by_test true b e ih = ih
    by_test false true e ih = rw e ih
    by_test false false e ih =
        rw e (ap (λ (xs : List LiveDeposit). record { number = n; owner = owners.Party ((d.1).owner); value = (d.1).value } ∷ xs) ih)

paid_kept : (ns : List ℕ) (os : List Output) → ((o : Output) → Is_in o os → has_number o.number ns ≡ false)
    → kept (flat_map paid_deposit os) ns ≡ flat_map paid_deposit os
paid_kept ns [] each = refl
paid_kept ns (o ∷ os) each =
    filter-append (λ (d : LiveDeposit). not (has_number d.number ns)) (paid_deposit o) (flat_map paid_deposit os)
    ∙ (λ i. by_held o.held refl (each o (inl refl)) i ++ paid_kept ns os (λ x h. each x (inr h)) i)
  where
    by_held : (h : Held) → o.held ≡ h → has_number o.number ns ≡ false → kept (paid_deposit o) ns ≡ paid_deposit o
    by_held (helds.Deposit name) e none = rw e refl
    by_held (helds.Position path) e none = rw e refl
    by_held (helds.Payout party) e none = rw e (rw none refl)

module _ (s : Instance) (course later : Course) (h : Happened) (xs : List (List ℕ)) (new : List Output)
    (history : later.history ≡ course.history ++ h ∷ []) (taken : taken_by s h.which ≡ xs)
    (made : later.state.made ≡ course.state.made ++ new) where
  pub taken_more : (x : List ℕ) → is_taken s later.history x ≡ (is_taken s course.history x || is_among x xs)
  taken_more x =
      ap (λ (hs : List Happened). is_taken s hs x) history
      ∙ any-append (λ (y : Happened). is_among x (taken_by s y.which)) course.history (h ∷ [])
      ∙ ap (λ (b : Bool). is_taken s course.history x || b) (last (is_among x (taken_by s h.which)) ∙ ap (is_among x) taken)
    where
      last : (b : Bool) → (b || false) ≡ b
      last true = refl
      last false = refl

  -- what is left of the deposits, with what is paid
  pub deposits_after : ((m : ℕ) (d : List ℕ × Holding) → HasNumber 0 (deposits s.advert.pre) m d
      → has_number m (numbers_of (deal_bindings s) xs) ≡ is_among (d.0) xs)
      → ((o : Output) → Is_in o course.state.made → has_number o.number (numbers_of (deal_bindings s) xs) ≡ false)
      → kept (deposits_shown s course) (numbers_of (deal_bindings s) xs) ++ flat_map paid_deposit new ≡ deposits_shown s later
  deposits_after among apart =
      let ns = numbers_of (deal_bindings s) xs in
      let left = left_from (is_taken s course.history) 0 (deposits s.advert.pre) in
      ap (λ (ds : List LiveDeposit). ds ++ flat_map paid_deposit new)
      (filter-append (λ (d : LiveDeposit). not (has_number d.number ns)) left (flat_map paid_deposit course.state.made)
      ∙ (λ i. sym (left_kept (is_taken s course.history) (λ x. is_among x xs) ns 0 (deposits s.advert.pre) among) i ++ paid_kept ns course.state.made apart i))
      ∙ append_assoc (left_from (λ x. is_taken s course.history x || is_among x xs) 0 (deposits s.advert.pre))
      (flat_map paid_deposit course.state.made) (flat_map paid_deposit new)
      ∙ (λ i. left_from (λ x. sym (taken_more x) i) 0 (deposits s.advert.pre)
      ++ (sym (flat_append paid_deposit course.state.made new) ∙ ap (flat_map paid_deposit) (sym made)) i)

-- a deposit that wasn't taken is left
pub left_there : (taken : List ℕ → Bool) (n : ℕ) (ds : List (List ℕ × Holding)) (m : ℕ) (d : List ℕ × Holding) → HasNumber n ds m d
    → taken (d.0) ≡ false → Is_in (record { number = m; owner = owners.Party ((d.1).owner); value = (d.1).value }) (left_from taken n ds)
left_there taken n [] m d h none = absurd h
left_there taken n (e ∷ ds) m d (inl k) none =
    subst (λ (b : Bool). Is_in (record { number = m; owner = owners.Party ((d.1).owner); value = (d.1).value })
    (cond b (left_from taken (n + 1) ds) (record { number = n; owner = owners.Party ((e.1).owner); value = (e.1).value } ∷ left_from taken (n + 1) ds)))
    (sym (ap (λ (x : List ℕ × Holding). taken (x.0)) (sym k.1) ∙ none))
    (inl (λ i. record { number = k.0 i; owner = owners.Party (((k.1 i).1).owner); value = ((k.1 i).1).value }))
left_there taken n (e ∷ ds) m d (inr h) none = by_test (taken (e.0)) (left_there taken (n + 1) ds m d h none)
  where
    by_test : (b : Bool) → Is_in (record { number = m; owner = owners.Party ((d.1).owner); value = (d.1).value }) (left_from taken (n + 1) ds)
        → Is_in (record { number = m; owner = owners.Party ((d.1).owner); value = (d.1).value })
        (cond b (left_from taken (n + 1) ds) (record { number = n; owner = owners.Party ((e.1).owner); value = (e.1).value } ∷ left_from taken (n + 1) ds))
    by_test true i = i
    by_test false i = inr i

pub left_live : (taken : List ℕ → Bool) (ds : List (List ℕ × Holding)) (rest : List LiveDeposit) (m : ℕ) (d : List ℕ × Holding)
    → HasNumber 0 ds m d → taken (d.0) ≡ false → is_live (left_from taken 0 ds ++ rest) m ≡ true
left_live taken ds rest m d h none =
    let here : LiveDeposit = record { number = m; owner = owners.Party ((d.1).owner); value = (d.1).value } in
    find_any (λ (x : LiveDeposit). x.number == m) (left_from taken 0 ds ++ rest)
    (any_there (λ (x : LiveDeposit). x.number == m) (left_from taken 0 ds ++ rest) here
    (in_left here (left_from taken 0 ds) rest (left_there taken 0 ds m d h none)) (eq-eqb m m refl))
