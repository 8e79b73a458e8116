-- The steps of a legal run show numbers within eight bytes, and names as text may have them.
use Rattle.std.proofs.Common.{◌≡◌, ℕ, zero, suc, ◌+◌, ◌<◌, ◌≤◌, ◌^◌, List, [], ◌∷◌, ◌++◌, map, length, Bool, true, false, Option, Some}
use Rattle.std.proofs.Common.{None, refl, sym, ap, subst, ◌∙◌}
use Rattle.std.proofs.Common.{arith, inl, inr, cond}
use Rattle.std.specs.Prelude.{◌&&◌, ◌||◌, ◌==◌, nat_le, nat_lt, slice_get, is_some, filter, if◌then◌else◌}
use Rattle.std.specs.List.{list_all, AllByRecursion}
use Rattle.std.specs.Str.{bytes_eq}
use Rattle.std.proofs.lemmas.Bool.{and_parts}
use Rattle.std.proofs.lemmas.Bool.Decides.{nat_tests}
use Rattle.std.proofs.lemmas.List.Sums.{sum_by-cons}
use Rattle.spec_data.specs.Lists.{is_among, look_up, are_distinct}
use Rattle.spec_data.specs.Ranges.{max_money, last_height, most_contracts}
use Rattle.spec_terms.specs.Advert.{Advert}
use Rattle.spec_terms.specs.Term as term
use Rattle.spec_terms.specs.Term.{auth, after, put_reveal, withdraw, split}
use Rattle.spec_terms.specs.Core.{core, asks}
use Rattle.spec_terms.specs.Faults.{IsWellFormed}
use Rattle.spec_terms.specs.Readable.{is_name, is_readable_branch}
use Rattle.spec_terms.specs.Precondition.{Holding, deposits, persistent, secrets_of}
use Rattle.spec_terms.specs.declared.path.PathStep.TheVariants.{Branch as To}
use Rattle.spec_calculus.specs.declared.parts.Deposit.{Deposit}
use Rattle.spec_calculus.specs.declared.parts.ActiveContract.{ActiveContract}
use Rattle.spec_calculus.specs.declared.parts.Committed.{Committed}
use Rattle.spec_calculus.specs.declared.step.Owner.{Owner}
use Rattle.spec_calculus.specs.declared.step.Owner.TheVariants.{Party, Outside}
use Rattle.spec_calculus.specs.declared.step.Move.{Move}
use Rattle.spec_calculus.specs.declared.step.Step.{Step}
use Rattle.spec_calculus.specs.declared.step.Step.TheVariants as steps
use Rattle.spec_calculus.specs.Same.{owner_eq}
use Rattle.spec_calculus.specs.Configuration.{Configuration}
use Rattle.spec_calculus.specs.Moves.{deposit_at, is_live, owner_of, owner_at, owns_one, spends_live, are_live, pays, value_in, value_out}
use Rattle.spec_calculus.specs.Moves.{kept, made}
use Rattle.spec_calculus.specs.Beginning.{contract_at, pre_of, participants_of, binds_one, binds_each, fits_deposit, lists_each, is_fair}
use Rattle.spec_calculus.specs.Beginning.{has_persistent, is_own}
use Rattle.spec_calculus.specs.Branches.{active_at, branch_in, branch_of, is_withdraw_core, length_at, asks_of}
use Rattle.spec_calculus.specs.Branches.{payee_of, payee_in, is_put, is_withdraw, is_split}
use Rattle.spec_calculus.specs.Steps.{fails, premises, effect, branch_at}
use Rattle.theory_calculus.specs.Money.{IsFunded, IsWithinAllMoney}
use Rattle.theory_calculus.specs.Numbered.{IsNumbered}
use Rattle.theory_calculus.specs.Members.{Is_in}
use Rattle.theory_calculus.proofs.Bindings.{below_in}
use Rattle.theory_calculus.proofs.Members.{get_below, found, some_there, no_false}
use Rattle.theory_world.proofs.Labels.{core_readable}
use Rattle.theory_calculus.proofs.Names.{bytes-true, all_among, looked_in}
use Rattle.theory_play_text.specs.Report.{shown_step}
use Rattle.theory_play_text.specs.Printable.{IsWide, IsNamed, IsOwner, IsLength, IsShownStep}
use Rattle.theory_play_text.proofs.Named.{AllNamed, IsHeld, HasNames, has_names, deposits_named, persistent_named, own_named}
use Rattle.theory_play_text.proofs.Named.{asks_named, branch_fine, last_step}

-- ---- lists

pub all_by_in : {X : Type 0} (P : X → Type 0) (xs : List X) → AllByRecursion P xs → (x : X) → Is_in x xs → P x
all_by_in P [] h x i = absurd i
all_by_in P (y ∷ ys) h x i = elim i [ inl e ↦ subst P (sym e) h.0 | inr j ↦ all_by_in P ys h.1 x j ]

pub by_get : {X : Type 0} (P : X → Type 0) (xs : List X) (n : ℕ) (x : X) → AllByRecursion P xs → slice_get xs n ≡ Some x → P x
by_get P [] n x h e = cc
by_get P (y ∷ ys) zero x h e = let same : y ≡ x = cc in subst P same h.0
by_get P (y ∷ ys) (suc n) x h e = by_get P ys n x h.1 e

pub by_append : {X : Type 0} (P : X → Type 0) (xs ys : List X) → AllByRecursion P xs → AllByRecursion P ys → AllByRecursion P (xs ++ ys)
by_append P [] ys h k = k
by_append P (x ∷ xs) ys h k = (h.0, by_append P xs ys h.1 k)

by_filter : {X : Type 0} (P : X → Type 0) (p : X → Bool) (xs : List X) → AllByRecursion P xs → AllByRecursion P (filter p xs)
by_filter P p [] h = tt
by_filter P p (x ∷ xs) h = by_test (p x) (by_filter P p xs h.1)
  where
    by_test : (t : Bool) → AllByRecursion P (filter p xs) → AllByRecursion P (cond t (x ∷ filter p xs) (filter p xs))
    by_test true r = (h.0, r)
    by_test false r = r

-- ---- what every configuration of a run keeps

-- lengths that may be shown
abbrev pub IsSized : List ℕ × Option ℕ → Type 0
IsSized l = IsNamed (l.0) × IsLength (l.1)

abbrev pub IsPledge : Committed → Type 0
IsPledge c = IsWide c.contract × IsNamed c.party × AllByRecursion IsSized c.lengths

pub record IsFine (g : Configuration) : Type 0 where
  pub contracts : AllByRecursion IsWellFormed g.contracts
  pub few : length g.contracts ≤ most_contracts
  pub owners : AllByRecursion (λ d. IsOwner d.owner) g.deposits
  pub pledges : AllByRecursion IsPledge g.committed
  pub time : g.time ≤ last_height

-- the new owners of a move are declared
abbrev pub MovesToNamed : Step → Type 0
MovesToNamed (steps.Move action) = AllByRecursion (λ o. IsOwner (o.0)) action.outputs
MovesToNamed s = Unit {0}

three_all : (a b c : Bool) → (a && b && c) ≡ true → (a ≡ true) × (b ≡ true) × (c ≡ true)
three_all true true true h = (refl, refl, refl)
three_all true true false h = cc
three_all true false c h = cc
three_all false b c h = cc

below_bound : (n b : ℕ) → nat_lt n b ≡ true → n < b
below_bound n b h = grind (arith, nat_tests)

within_bound : (n b : ℕ) → nat_le n b ≡ true → n ≤ b
within_bound n b h = grind (arith, nat_tests)

same_number : (a b : ℕ) → (a == b) ≡ true → a ≡ b
same_number a b h = grind (arith, nat_tests)

named_by : (a b : List ℕ) → bytes_eq a b ≡ true → IsNamed a → IsNamed b
named_by a b e h = subst IsNamed (bytes-true a b e) h

-- ---- one configuration that a legal run leads to

module _ (g : Configuration) (fine : IsFine g) (numbered : IsNumbered g) (funded : IsFunded g) (within : IsWithinAllMoney g)
    (bound : g.next ≤ 2 ^ 64) where
  -- contracts that are there
  pub few_contracts : (k : ℕ) (a : Advert) → contract_at g.contracts k ≡ Some a → IsWide k
  few_contracts k a e = let l = get_below g.contracts k a e in omega (arith, l, fine.few)

  well_formed : (k : ℕ) (a : Advert) → contract_at g.contracts k ≡ Some a → IsWellFormed a
  well_formed k a e = by_get IsWellFormed g.contracts k a fine.contracts e

  names_at : (k : ℕ) (a : Advert) → contract_at g.contracts k ≡ Some a → HasNames a
  names_at k a e = has_names a (well_formed k a e)

  -- deposits that are there
  pub deposit_wide : (d : Deposit) → Is_in d g.deposits → IsWide d.number
  deposit_wide d i = let l = below_in g.next g.deposits d numbered.deposits_below i in omega (arith, l, bound)

  live_wide : (n : ℕ) → is_live g.deposits n ≡ true → IsWide n
  live_wide n h =
      let d = some_there (deposit_at g.deposits n) h in
      let f = found (λ (x : Deposit). x.number == n) g.deposits d.0 d.1 in
      subst IsWide (same_number d.0.number n f.1) (deposit_wide d.0 f.0)

  -- active contracts that are there
  pub active_wide : (a : ActiveContract) → Is_in a g.active → IsWide a.number
  active_wide a i = let l = contract_below g.next g.active a numbered.active_below i in omega (arith, l, bound)
    where
      contract_below : (m : ℕ) (as' : List ActiveContract) (x : ActiveContract)
          → list_all (λ n. nat_lt n m) (map (λ (y : ActiveContract). y.number) as') ≡ true → Is_in x as' → x.number < m
      contract_below m [] x h j = absurd j
      contract_below m (y ∷ ys) x h (inl e) =
          let p = and_parts (nat_lt y.number m) _ h in
          subst (λ (z : ActiveContract). z.number < m) (sym e) (below_bound y.number m p.0)
      contract_below m (y ∷ ys) x h (inr j) = contract_below m ys x (and_parts (nat_lt y.number m) _ h).1 j

  -- a branch that may be taken
  record TakenFine (n i : ℕ) (b : term.Guarded) : Type 0 where
    output : IsWide n
    branch : IsWide i
    readable : is_readable_branch b ≡ true

  taken_fine : (n i : ℕ) (b : term.Guarded) → is_some (active_at g.active n) ≡ true → branch_at g n i ≡ Some b → TakenFine n i b
  taken_fine n i b active taken =
      let a = some_there (active_at g.active n) active in
      let f = found (λ (x : ActiveContract). x.number == n) g.active a.0 a.1 in
      let there : branch_of g.contracts (Some a.0) i ≡ Some b = ap (λ o. branch_of g.contracts o i) (sym a.1) ∙ taken in
      by_advert a.0 f.0 (same_number a.0.number n f.1) (contract_at g.contracts a.0.contract) refl there
    where
      by_advert : (a : ActiveContract) → Is_in a g.active → a.number ≡ n → (o : Option Advert) → contract_at g.contracts a.contract ≡ o
          → branch_in o a.position i ≡ Some b → TakenFine n i b
      by_advert a there same None e h = cc
      by_advert a there same (Some advert) e h =
          let f = branch_fine advert (well_formed a.contract advert e) (a.position ++ To i ∷ []) b h in
          let l = last_step a.position i f.steps in
          record { output = subst IsWide same (active_wide a there); branch = omega (arith, l); readable = f.readable }

  some_taken : (n i : ℕ) (test : Option term.Guarded → Bool) → test None ≡ false → is_some (active_at g.active n) ≡ true
      → test (branch_at g n i) ≡ true → IsWide n × IsWide i
  some_taken n i test none active h = by_branch (branch_at g n i) refl h
    where
      by_branch : (o : Option term.Guarded) → branch_at g n i ≡ o → test o ≡ true → IsWide n × IsWide i
      by_branch None e k = cc
      by_branch (Some b) e k = let t = taken_fine n i b active e in (t.output, t.branch)

  -- ---- what a party owns

  owns_named : (a : List ℕ) (inputs : List ℕ) → owns_one g.deposits inputs a ≡ true → IsNamed a
  owns_named a [] h = cc
  owns_named a (n ∷ ns) h = by_test (owner_eq (owner_at g.deposits n) (Party a)) refl h (owns_named a ns)
    where
      by_owner : (o : Owner) → IsOwner o → owner_eq o (Party a) ≡ true → IsNamed a
      by_owner (Party b) k e = named_by b a e k
      by_owner Outside k e = cc

      by_deposit : (o : Option Deposit) → deposit_at g.deposits n ≡ o → owner_eq (owner_of o) (Party a) ≡ true → IsNamed a
      by_deposit None q e = cc
      by_deposit (Some d) q e =
          let f = found (λ (x : Deposit). x.number == n) g.deposits d q in
          by_owner d.owner (all_by_in (λ (x : Deposit). IsOwner x.owner) g.deposits fine.owners d f.0) e

      by_test : (t : Bool) → owner_eq (owner_at g.deposits n) (Party a) ≡ t → (t || owns_one g.deposits ns a) ≡ true
          → (owns_one g.deposits ns a ≡ true → IsNamed a) → IsNamed a
      by_test true e k ih = by_deposit (deposit_at g.deposits n) refl e
      by_test false e k ih = ih k

  inputs_wide : (inputs : List ℕ) → are_live g.deposits inputs ≡ true → AllByRecursion IsWide inputs
  inputs_wide [] h = tt
  inputs_wide (n ∷ ns) h = let p = and_parts (is_live g.deposits n) _ h in (live_wide n p.0, inputs_wide ns p.1)

  outputs_wide : (outputs : List (Owner × ℕ)) → AllByRecursion (λ o. IsOwner (o.0)) outputs → value_out outputs ≤ max_money
      → AllByRecursion (λ o. IsOwner (o.0) × IsWide (o.1)) outputs
  outputs_wide [] h l = tt
  outputs_wide (o ∷ os) h l =
      let e = sum_by-cons (λ (x : Owner × ℕ). x.1) o os in
      ((h.0, omega (arith, e, l)), outputs_wide os h.1 (omega (arith, e, l)))

  move_shown : (action : Move) → AllByRecursion (λ o. IsOwner (o.0)) action.outputs → spends_live g.deposits action.inputs ≡ true
      → pays g.deposits action ≡ true → IsShownStep (steps.Move action)
  move_shown action owners spends paid =
      let s = three_all _ (are_distinct action.inputs) (are_live g.deposits action.inputs) spends in
      let v = (and_parts _ (nat_le (value_out action.outputs) (value_in g.deposits action.inputs)) paid).1 in
      let l = within_bound _ _ v in
      let m = within.inputs action.inputs s.1 in
      (inputs_wide action.inputs s.2, outputs_wide action.outputs owners (omega (arith, l, m)))

  -- ---- what is bound and pledged

  bindings_shown : (ds : List (List ℕ × Holding)) (bs : List (List ℕ × ℕ)) → AllByRecursion IsHeld ds → binds_each g.deposits ds bs ≡ true
      → AllByRecursion (λ b. IsNamed (b.0) × IsWide (b.1)) bs
  bindings_shown [] [] h e = tt
  bindings_shown [] (b ∷ bs) h e = cc
  bindings_shown (d ∷ ds) [] h e = cc
  bindings_shown (d ∷ ds) (b ∷ bs) h e =
      let p = and_parts (binds_one g.deposits d b) (binds_each g.deposits ds bs) e in
      let q = and_parts (bytes_eq (b.0) (d.0)) (fits_deposit g.deposits (b.1) d.1.owner d.1.value) p.0 in
      let l = (three_all (is_live g.deposits (b.1)) _ _ q.1).0 in
      ((subst IsNamed (sym (bytes-true (b.0) (d.0) q.0)) (h.0).0, live_wide (b.1) l), bindings_shown ds bs h.1 p.1)

  advertise_shown : (k : ℕ) (bs : List (List ℕ × ℕ)) (o : Option Advert) → contract_at g.contracts k ≡ o → is_some o ≡ true
      → binds_each g.deposits (deposits (pre_of o)) bs ≡ true → IsShownStep (steps.Advertise k bs)
  advertise_shown k bs None e h j = cc
  advertise_shown k bs (Some a) e h j =
      (few_contracts k a e, bindings_shown (deposits a.pre) bs (deposits_named a.pre (names_at k a e).pre) j)

  sized : (n : Option ℕ) → is_fair n ≡ true → IsLength n
  sized None h = tt
  sized (Some n) h = let l = within_bound n 504 h in omega (arith, l)

  lengths_shown : (names : List (List ℕ)) (ls : List (List ℕ × Option ℕ)) → AllNamed names → lists_each names ls ≡ true
      → AllByRecursion IsSized ls
  lengths_shown [] [] h e = tt
  lengths_shown [] (l ∷ ls) h e = cc
  lengths_shown (x ∷ xs) [] h e = cc
  lengths_shown (x ∷ xs) (l ∷ ls) h e =
      let p = three_all (bytes_eq (l.0) x) (is_fair (l.1)) (lists_each xs ls) e in
      let n = and_parts (is_name x) (list_all is_name xs) h in
      ((subst IsNamed (sym (bytes-true (l.0) x p.0)) n.0, sized (l.1) p.1), lengths_shown xs ls n.1 p.2)

  commit_shown : (k : ℕ) (a : List ℕ) (ls : List (List ℕ × Option ℕ)) (o : Option Advert) → contract_at g.contracts k ≡ o
      → is_among a (participants_of o) ≡ true → lists_each (secrets_of a (pre_of o)) ls ≡ true → IsShownStep (steps.Commit k a ls)
  commit_shown k a ls None e h j = cc
  commit_shown k a ls (Some advert) e h j =
      let n = names_at k advert e in (
        few_contracts k advert e,
        all_among is_name _ a n.people h,
        lengths_shown (secrets_of a advert.pre) ls
            (own_named a advert.pre n.pre) j,
      )

  auth_init_shown : (k : ℕ) (a x : List ℕ) (o : Option Advert) → contract_at g.contracts k ≡ o → has_persistent (pre_of o) a x ≡ true
      → IsShownStep (steps.AuthInit k a x)
  auth_init_shown k a x None e h = cc
  auth_init_shown k a x (Some advert) e h = by_held (look_up x (persistent advert.pre)) refl h
    where
      by_held : (p : Option Holding) → look_up x (persistent advert.pre) ≡ p → is_own p a ≡ true → IsShownStep (steps.AuthInit k a x)
      by_held None q j = cc
      by_held (Some d) q j =
          let i = looked_in (persistent advert.pre) x d q in
          let n = all_by_in IsHeld (persistent advert.pre) (persistent_named advert.pre (names_at k advert e).pre) (x, d) i in
          (few_contracts k advert e, named_by d.owner a j n.1, n.0)

  init_shown : (k : ℕ) (o : Option Advert) → contract_at g.contracts k ≡ o → is_some o ≡ true → IsWide k
  init_shown k None e h = cc
  init_shown k (Some a) e h = few_contracts k a e

  -- a length that is committed
  record PledgedAt (k : ℕ) (a x : List ℕ) (n : Option ℕ) : Type 0 where
    contract : IsWide k
    party : IsNamed a
    name : IsNamed x
    size : IsLength n

  pledged : (cs : List Committed) → AllByRecursion IsPledge cs → (k : ℕ) (a x : List ℕ) (n : Option ℕ) → length_at cs k a x ≡ Some n
      → PledgedAt k a x n
  pledged [] h k a x n e = cc
  pledged (c ∷ cs) h k a x n e = by_test ((c.contract == k) && bytes_eq c.party a) refl e (pledged cs h.1 k a x n)
    where
      by_test : (t : Bool) → ((c.contract == k) && bytes_eq c.party a) ≡ t
          → (if t then look_up x c.lengths else length_at cs k a x) ≡ Some n
          → (length_at cs k a x ≡ Some n → PledgedAt k a x n) → PledgedAt k a x n
      by_test true q j ih =
          let p = and_parts (c.contract == k) (bytes_eq c.party a) q in
          let i = looked_in c.lengths x n j in
          let s = all_by_in IsSized c.lengths (h.0).2 (x, n) i in
          record {
            contract = subst IsWide (same_number c.contract k p.0) (h.0).0;
            party = named_by c.party a p.1 (h.0).1;
            name = s.0;
            size = s.1;
          }
      by_test false q j ih = ih j

  pub pledged_at : (k : ℕ) (a x : List ℕ) (n : Option ℕ) → length_at g.committed k a x ≡ Some n → IsLength n
  pledged_at k a x n e = (pledged g.committed fine.pledges k a x n e).size

  reveal_shown : (k : ℕ) (a x : List ℕ) → is_some (length_at g.committed k a x) ≡ true → IsShownStep (steps.Reveal k a x)
  reveal_shown k a x h =
      let n = some_there (length_at g.committed k a x) h in
      let p = pledged g.committed fine.pledges k a x n.0 n.1 in
      (p.contract, p.party, p.name)

  auth_branch_shown : (a : List ℕ) (n i : ℕ) (o : Option term.Guarded) → branch_at g n i ≡ o → is_some (active_at g.active n) ≡ true
      → is_among a (asks_of o) ≡ true → IsShownStep (steps.AuthBranch a n i)
  auth_branch_shown a n i None e h j = cc
  auth_branch_shown a n i (Some b) e h j =
      let t = taken_fine n i b h e in
      (all_among is_name (asks b) a (asks_named b t.readable) j, t.output, t.branch)

  -- ---- all steps

  pub step_shown : (st : Step) → fails g st ≡ 0 → MovesToNamed st → IsShownStep (shown_step st)
  step_shown (steps.Delay n) e m =
      let p = no_false 1 (premises g (steps.Delay n)) (omega arith) e in
      let l = within_bound (g.time + n) last_height p.1.0 in omega (arith, l)
  step_shown (steps.AuthMove a action) e m =
      let p = no_false 1 (premises g (steps.AuthMove a action)) (omega arith) e in (owns_named a action.inputs p.1.0, refl)
  step_shown (steps.Move action) e m =
      let p = no_false 1 (premises g (steps.Move action)) (omega arith) e in move_shown action m p.0 p.1.0
  step_shown (steps.Advertise k bs) e m =
      let p = no_false 1 (premises g (steps.Advertise k bs)) (omega arith) e in
      let there = (and_parts (is_some (contract_at g.contracts k)) _ p.0).0 in
      let bound = (and_parts (binds_each g.deposits (deposits (pre_of (contract_at g.contracts k))) bs) _ p.1.0).0 in
      advertise_shown k bs (contract_at g.contracts k) refl there bound
  step_shown (steps.Commit k a ls) e m =
      let p = no_false 1 (premises g (steps.Commit k a ls)) (omega arith) e in
      let part = (and_parts (is_among a (participants_of (contract_at g.contracts k))) _ p.1.0).0 in
      commit_shown k a ls (contract_at g.contracts k) refl part p.1.1.0
  step_shown (steps.AuthInit k a x) e m =
      let p = no_false 1 (premises g (steps.AuthInit k a x)) (omega arith) e in
      auth_init_shown k a x (contract_at g.contracts k) refl p.1.0
  step_shown (steps.Init k) e m =
      let p = no_false 1 (premises g (steps.Init k)) (omega arith) e in
      init_shown k (contract_at g.contracts k) refl (and_parts (is_some (contract_at g.contracts k)) _ p.0).0
  step_shown (steps.Reveal k a x) e m =
      let p = no_false 1 (premises g (steps.Reveal k a x)) (omega arith) e in reveal_shown k a x p.0
  step_shown (steps.AuthBranch a n i) e m =
      let p = no_false 1 (premises g (steps.AuthBranch a n i)) (omega arith) e in
      auth_branch_shown a n i (branch_at g n i) refl p.0 p.1.1.0
  step_shown (steps.PutReveal n i) e m =
      let p = no_false 1 (premises g (steps.PutReveal n i)) (omega arith) e in some_taken n i is_put refl p.0 p.1.0
  step_shown (steps.Withdraw n i) e m =
      let p = no_false 1 (premises g (steps.Withdraw n i)) (omega arith) e in some_taken n i is_withdraw refl p.0 p.1.0
  step_shown (steps.Split n i) e m =
      let p = no_false 1 (premises g (steps.Split n i)) (omega arith) e in some_taken n i is_split refl p.0 p.1.0

  -- ---- what a step leaves

  kept_owners : (numbers : List ℕ) → AllByRecursion (λ (d : Deposit). IsOwner d.owner) (kept g.deposits numbers)
  kept_owners numbers = by_filter (λ (d : Deposit). IsOwner d.owner) _ g.deposits fine.owners

  made_owners : (n : ℕ) (outputs : List (Owner × ℕ)) → AllByRecursion (λ o. IsOwner (o.0)) outputs
      → AllByRecursion (λ (d : Deposit). IsOwner d.owner) (made n outputs)
  made_owners n [] h = tt
  made_owners n (o ∷ os) h = (h.0, made_owners (n + 1) os h.1)

  payee_core : (c : term.Guarded) → is_readable_branch c ≡ true → is_withdraw_core c ≡ true → IsNamed (payee_in c)
  payee_core (withdraw party) h k = h
  payee_core (auth party body) h k = cc
  payee_core (after height body) h k = cc
  payee_core (put_reveal puts reveals test next) h k = cc
  payee_core (split parts) h k = cc

  payee_named : (n i : ℕ) (o : Option term.Guarded) → branch_at g n i ≡ o → is_some (active_at g.active n) ≡ true → is_withdraw o ≡ true
      → IsNamed (payee_of o)
  payee_named n i None e h k = cc
  payee_named n i (Some b) e h k = payee_core (core b) (core_readable b (taken_fine n i b h e).readable) k

  abbrev fine_with : ℕ → List Deposit → List Committed → Configuration → Type 0
  fine_with time ds cs h = (h.contracts ≡ g.contracts) × (h.time ≡ time) × (h.deposits ≡ ds) × (h.committed ≡ cs)

  -- nothing else is asked of the next configuration
  fine_next : (h : Configuration) → h.contracts ≡ g.contracts → AllByRecursion (λ (d : Deposit). IsOwner d.owner) h.deposits
      → AllByRecursion IsPledge h.committed → h.time ≤ last_height → IsFine h
  fine_next h same owners pledges time = record {
    contracts = subst (AllByRecursion IsWellFormed) (sym same) fine.contracts;
    few = subst (λ (cs : List Advert). length cs ≤ most_contracts) (sym same) fine.few;
    owners = owners;
    pledges = pledges;
    time = time;
  }

  as_before : (h : Configuration) → h.contracts ≡ g.contracts → h.deposits ≡ g.deposits → h.committed ≡ g.committed → h.time ≡ g.time
      → IsFine h
  as_before h same ds cs t =
      fine_next h same (subst (AllByRecursion (λ (d : Deposit). IsOwner d.owner)) (sym ds) fine.owners)
      (subst (AllByRecursion IsPledge) (sym cs) fine.pledges) (omega (arith, t, fine.time))

  pub fine_after : (st : Step) → fails g st ≡ 0 → MovesToNamed st → IsFine (effect g st)
  fine_after (steps.Delay n) e m =
      let p = no_false 1 (premises g (steps.Delay n)) (omega arith) e in
      fine_next _ refl fine.owners fine.pledges (within_bound (g.time + n) last_height p.1.0)
  fine_after (steps.AuthMove a action) e m = as_before _ refl refl refl refl
  fine_after (steps.Move action) e m =
      fine_next _ refl (by_append (λ (d : Deposit). IsOwner d.owner) _ _ (kept_owners action.inputs) (made_owners g.next action.outputs m))
      fine.pledges fine.time
  fine_after (steps.Advertise k bs) e m = as_before _ refl refl refl refl
  fine_after (steps.Commit k a ls) e m =
      let shown = step_shown (steps.Commit k a ls) e tt in
      fine_next _ refl fine.owners (by_append IsPledge g.committed _ fine.pledges (shown, tt)) fine.time
  fine_after (steps.AuthInit k a x) e m = as_before _ refl refl refl refl
  fine_after (steps.Init k) e m = fine_next _ refl (kept_owners _) fine.pledges fine.time
  fine_after (steps.Reveal k a x) e m = as_before _ refl refl refl refl
  fine_after (steps.AuthBranch a n i) e m = as_before _ refl refl refl refl
  fine_after (steps.PutReveal n i) e m = fine_next _ refl (kept_owners _) fine.pledges fine.time
  fine_after (steps.Withdraw n i) e m =
      let p = no_false 1 (premises g (steps.Withdraw n i)) (omega arith) e in
      fine_next _ refl
      (by_append (λ (d : Deposit). IsOwner d.owner) g.deposits _ fine.owners (payee_named n i (branch_at g n i) refl p.0 p.1.0, tt))
      fine.pledges fine.time
  fine_after (steps.Split n i) e m = as_before _ refl refl refl refl
