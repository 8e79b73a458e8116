-- Each legal step keeps what is kept, and money.
use Rattle.std.proofs.Common.{◌≡◌, ℕ, ◌+◌, ◌-◌, ◌≤◌, pos, List, [], ◌∷◌, ◌++◌, length, true, not, Option, Some, None, refl, sym, ap, ◌∙◌, subst, arith, inl, inr, le_refl, le_trans}
use Rattle.std.specs.Prelude.{◌&&◌, ◌==◌, is_some, nat_le}
use Rattle.std.specs.List.{Contains, AllByRecursion}
use Rattle.std.proofs.lemmas.Bool.{and_parts, leb-true}
use Rattle.spec_data.specs.Lists.{are_distinct}
use Rattle.spec_data.specs.Ranges.{max_money}
use Rattle.spec_terms.specs.Advert.{Advert}
use Rattle.spec_terms.specs.Balance.{as_funded, all_funded}
use Rattle.spec_terms.specs.Core.{core}
use Rattle.spec_terms.specs.Faults.{IsWellFormed, sum_of_parts}
use Rattle.spec_terms.specs.Paths.{position}
use Rattle.spec_terms.specs.Term.{Guarded, auth, after, put_reveal, withdraw, split, Contract, Parts, no_part, part, Pred}
use Rattle.spec_terms.specs.declared.path.PathStep.TheVariants.{Branch as To}
use Rattle.spec_calculus.specs.declared.step.Step.{Step}
use Rattle.spec_calculus.specs.declared.step.Step.TheVariants as steps
use Rattle.spec_calculus.specs.declared.parts.Deposit.{Deposit}
use Rattle.spec_calculus.specs.declared.parts.ActiveContract.{ActiveContract}
use Rattle.spec_calculus.specs.Configuration.{Configuration}
use Rattle.spec_calculus.specs.Beginning.{contract_at, pre_of, fee_of, bindings_of, are_there, numbers_of, persistent_names}
use Rattle.spec_calculus.specs.Moves.{are_live, value_in, value_out}
use Rattle.spec_calculus.specs.Branches.{active_at, contract_number, position_of, balance_of, advert_of, is_put, is_withdraw, is_split, is_put_core, is_withdraw_core, is_split_core, puts_of_taken, payee_of, values_of, values_in, part_values, gone, total_value, others, parts_made}
use Rattle.spec_calculus.specs.Steps.{premises, fails, effect, branch_at, opening}
use Rattle.theory_calculus.specs.Numbered.{IsNumbered}
use Rattle.theory_calculus.specs.Money.{Pays, IsBalanced, total_money, fee_at, IsMoneyKept, IsFunded, MoneyIsKept, IsWithinAllMoney, MoneyStaysWithin}
use Rattle.theory_calculus.specs.Members.{Is_in}
use Rattle.theory_calculus.proofs.Members.{in_append, in_filter, in_from_contains, contains_from_in, some_there, no_false}
use Rattle.theory_calculus.proofs.Runs.{kept_along}
use Rattle.theory_calculus.proofs.Numbered.{numbered_after, opening_numbered}
use Rattle.theory_calculus.proofs.Sums.{sum_of, kept_gone, gone_value, others_balance}
use Rattle.theory_calculus.proofs.Bindings.{bound_by_none}
use Rattle.theory_calculus.proofs.Checked.{branch_pays, root_enough}
use Rattle.theory_calculus.proofs.Stands.{stands_branch}
use Rattle.theory_calculus.proofs.OneBalance.{one_balance}
use Rattle.theory_calculus.proofs.Funded.{StandsAt, IsFine, checked_at, bound_kept, bound_moved, bound_paid, bound_divided, bound_advertised}
use Rattle.theory_calculus.proofs.Standing.{taken_by, init_gone, begun_stands, put_value, put_enough, continued_stands, divided_stands}
use Rattle.theory_calculus.proofs.Totals.{begun_total, continued_total, withdrawn_total, divided_total, moved_total, all_little}

-- ---- kinds of branches

put_some : (o : Option Guarded) → is_put o ≡ true → is_some o ≡ true
put_some None h = h
put_some (Some b) h = refl

withdraw_some : (o : Option Guarded) → is_withdraw o ≡ true → is_some o ≡ true
withdraw_some None h = h
withdraw_some (Some b) h = refl

split_some : (o : Option Guarded) → is_split o ≡ true → is_some o ≡ true
split_some None h = h
split_some (Some b) h = refl

put_core : (c : Guarded) → is_put_core c ≡ true
    → (puts : List (List ℕ)) × (reveals : List (List ℕ)) × (test : Pred) × (next : Contract) × (c ≡ put_reveal puts reveals test next)
put_core (put_reveal puts reveals test next) h = (puts, reveals, test, next, refl)
put_core (auth party body) h = cc
put_core (after height body) h = cc
put_core (withdraw party) h = cc
put_core (split parts) h = cc

withdraw_core : (c : Guarded) → is_withdraw_core c ≡ true → (party : List ℕ) × (c ≡ withdraw party)
withdraw_core (withdraw party) h = (party, refl)
withdraw_core (auth party body) h = cc
withdraw_core (after height body) h = cc
withdraw_core (put_reveal puts reveals test next) h = cc
withdraw_core (split parts) h = cc

split_core : (c : Guarded) → is_split_core c ≡ true → (parts : Parts) × (c ≡ split parts)
split_core (split parts) h = (parts, refl)
split_core (auth party body) h = cc
split_core (after height body) h = cc
split_core (put_reveal puts reveals test next) h = cc
split_core (withdraw party) h = cc

sum_of_values : (parts : Parts) → sum_of (part_values parts) ≡ sum_of_parts parts
sum_of_values no_part = refl
sum_of_values (part v c ps) = ap (λ m. v + m) (sum_of_values ps)

module _ (g : Configuration) (fine : IsFine g) where
  others_stand : (output : ℕ) (a : ActiveContract) → Is_in a (others g.active output) → StandsAt g.contracts a
  others_stand output a i = fine.standing a (in_filter (λ (x : ActiveContract). not (x.number == output)) g.active a i).0

  -- those of a list, and one more
  and_one : (xs : List ActiveContract) (new : ActiveContract) → ((a : ActiveContract) → Is_in a xs → StandsAt g.contracts a)
      → StandsAt g.contracts new
      → (a : ActiveContract) → Is_in a (xs ++ new ∷ []) → StandsAt g.contracts a
  and_one xs new old h a i = elim (in_append a xs (new ∷ []) i) [ inl k ↦ old a k | inr k ↦ only a k ]
    where
      only : (x : ActiveContract) → Is_in x (new ∷ []) → StandsAt g.contracts x
      only x (inl e) = subst (StandsAt g.contracts) (sym e) h
      only x (inr k) = absurd k

  -- ---- beginnings

  module _ (k : ℕ) (e : fails g (steps.Init k) ≡ 0) where
    abbrev begins : List ℕ
    begins = numbers_of (bindings_of g.advertised k) (persistent_names (pre_of (contract_at g.contracts k)))

    init_all : (advert : Advert) × (contract_at g.contracts k ≡ Some advert) ×
        (are_there g.deposits (bindings_of g.advertised k) (persistent_names advert.pre) ≡ true)
    init_all =
        let p = no_false 1 (premises g (steps.Init k)) (omega arith) e in
        let c = some_there (contract_at g.contracts k) (and_parts (is_some (contract_at g.contracts k)) _ p.0).0 in
        (c.0, c.1, subst (λ o. are_there g.deposits (bindings_of g.advertised k) (persistent_names (pre_of o)) ≡ true) c.1 p.1.0)

    init_stands : StandsAt g.contracts (record {
      number = g.next;
      contract = k;
      position = [];
      balance = total_value (gone g.deposits begins) - fee_of (contract_at g.contracts k);
    })
    init_stands =
        let q = init_all in
        let c = q.1 in
        let there : ActiveContract =
        record {
          number = g.next;
          contract = k;
          position = [];
          balance = total_value (gone g.deposits begins) - fee_of (contract_at g.contracts k);
        } in
        let here : ActiveContract = record {
          number = g.next;
          contract = k;
          position = [];
          balance = total_value (gone g.deposits (numbers_of (bindings_of g.advertised k) (persistent_names q.0.pre))) - q.0.fee;
        } in
        let same : there ≡ here = (λ j. record {
          number = g.next;
          contract = k;
          position = [];
          balance = total_value (gone g.deposits (numbers_of (bindings_of g.advertised k) (persistent_names (pre_of (c j))))) - fee_of
              (c j);
        }) in
        subst (StandsAt g.contracts) (sym same) (begun_stands g fine k g.next q.0 c q.2)

    init_enough : fee_of (contract_at g.contracts k) ≤ total_value (gone g.deposits begins)
    init_enough =
        let q = init_all in
        let c = q.1 in
        let v = init_gone g fine k q.0 c q.2 in
        let l = root_enough q.0 (checked_at g.contracts k q.0 fine.checked c) in
        let whole : q.0.fee ≤ total_value (gone g.deposits (numbers_of (bindings_of g.advertised k) (persistent_names q.0.pre))) =
        subst (λ m. q.0.fee ≤ m) (sym v) l in
        subst (λ o. fee_of o ≤ total_value (gone g.deposits (numbers_of (bindings_of g.advertised k) (persistent_names (pre_of o)))))
        (sym c) whole

  -- ---- puts and reveals

  module _ (output i : ℕ) (e : fails g (steps.PutReveal output i) ≡ 0) where
    abbrev puts_in : List ℕ
    puts_in = numbers_of (bindings_of g.advertised (contract_number (active_at g.active output))) (puts_of_taken (branch_at g output i))

    abbrev put_new : ActiveContract
    put_new = record {
      number = g.next;
      contract = contract_number (active_at g.active output);
      position = position_of (active_at g.active output) ++ To i ∷ [];
      balance = balance_of (active_at g.active output) + total_value (gone g.deposits puts_in) - fee_of
          (advert_of g.contracts (active_at g.active output));
    }

    put_both : StandsAt g.contracts put_new × (fee_at g output ≤ balance_of (active_at g.active output) + total_value
        (gone g.deposits puts_in))
    put_both =
        let p = no_false 1 (premises g (steps.PutReveal output i)) (omega arith) e in
        let t = taken_by g fine output i p.0 (put_some (branch_at g output i) p.1.0) in
        let c = put_core (core t.branch) (subst (λ o. is_put o ≡ true) t.taken p.1.0) in
        let there = p.1.1.1.1.0 in
        let v = put_value g fine output i t c.0 c.1 c.2 c.3 c.4 there in
        let l = put_enough g fine output i t c.0 c.1 c.2 c.3 c.4 there in
        let b : balance_of (active_at g.active output) ≡ t.active.balance = ap balance_of t.is in
        let w : fee_at g output ≡ t.held.advert.fee = ap fee_of t.of_advert in
        (continued_stands g fine output i t c.0 c.1 c.2 c.3 c.4 there, omega (arith, v, l, b, w))

  -- ---- withdrawals

  withdraw_enough : (output i : ℕ) → fails g (steps.Withdraw output i) ≡ 0 → fee_at g output ≤ balance_of (active_at g.active output)
  withdraw_enough output i e =
      let p = no_false 1 (premises g (steps.Withdraw output i)) (omega arith) e in
      let t = taken_by g fine output i p.0 (withdraw_some (branch_at g output i) p.1.0) in
      let c = withdraw_core (core t.branch) (subst (λ o. is_withdraw o ≡ true) t.taken p.1.0) in
      let q = branch_pays t.held.advert t.well (t.active.position ++ To i ∷ []) t.active.balance t.branch t.static in
      let l : t.held.advert.fee ≤ t.active.balance = subst (Pays t.held.advert t.active.balance) c.1 q in
      let b : balance_of (active_at g.active output) ≡ t.active.balance = ap balance_of t.is in
      let w : fee_at g output ≡ t.held.advert.fee = ap fee_of t.of_advert in
      omega (arith, l, b, w)

  -- ---- splits

  module _ (output i : ℕ) (e : fails g (steps.Split output i) ≡ 0) where
    abbrev split_new : List ActiveContract
    split_new =
        parts_made g.next (contract_number (active_at g.active output)) (position_of (active_at g.active output) ++ To i ∷ []) 0
        (values_of (branch_at g output i))

    split_both : ((a : ActiveContract) → Is_in a split_new → StandsAt g.contracts a) ×
        (sum_of (values_of (branch_at g output i)) + fee_at g output ≡ balance_of (active_at g.active output))
    split_both =
        let p = no_false 1 (premises g (steps.Split output i)) (omega arith) e in
        let t = taken_by g fine output i p.0 (split_some (branch_at g output i) p.1.0) in
        let c = split_core (core t.branch) (subst (λ o. is_split o ≡ true) t.taken p.1.0) in
        let q = branch_pays t.held.advert t.well (t.active.position ++ To i ∷ []) t.active.balance t.branch t.static in
        let l : sum_of_parts c.0 + t.held.advert.fee ≡ t.active.balance = subst (Pays t.held.advert t.active.balance) c.1 q in
        let v : sum_of (values_of (branch_at g output i)) ≡ sum_of_parts c.0 =
        ap (λ o. sum_of (values_of o)) t.taken ∙ ap (λ x. sum_of (values_in x)) c.1 ∙ sum_of_values c.0 in
        let b : balance_of (active_at g.active output) ≡ t.active.balance = ap balance_of t.is in
        let w : fee_at g output ≡ t.held.advert.fee = ap fee_of t.of_advert in
        (divided_stands g fine output i t c.0 c.1, omega (arith, l, v, b, w))

  -- ---- each step

  pub fine_after : (s : Step) → fails g s ≡ 0 → IsFine (effect g s)
  fine_after (steps.Delay blocks) e =
      record {
        checked = fine.checked;
        numbered = numbered_after g (steps.Delay blocks) fine.numbered;
        bound = fine.bound;
        standing = fine.standing;
      }
  fine_after (steps.AuthMove party action) e =
      record {
        checked = fine.checked;
        numbered = numbered_after g (steps.AuthMove party action) fine.numbered;
        bound = fine.bound;
        standing = fine.standing;
      }
  fine_after (steps.Move action) e =
      record {
        checked = fine.checked;
        numbered = numbered_after g (steps.Move action) fine.numbered;
        bound = bound_moved g fine action.inputs action.outputs;
        standing = fine.standing;
      }
  fine_after (steps.Advertise contract bindings) e = record {
    checked = fine.checked;
    numbered = numbered_after g (steps.Advertise contract bindings) fine.numbered;
    bound = bound_advertised g fine contract bindings e;
    standing = fine.standing;
  }
  fine_after (steps.Commit contract party lengths) e =
      record {
        checked = fine.checked;
        numbered = numbered_after g (steps.Commit contract party lengths) fine.numbered;
        bound = fine.bound;
        standing = fine.standing;
      }
  fine_after (steps.AuthInit contract party deposit) e =
      record {
        checked = fine.checked;
        numbered = numbered_after g (steps.AuthInit contract party deposit) fine.numbered;
        bound = fine.bound;
        standing = fine.standing;
      }
  fine_after (steps.Init contract) e = record {
    checked = fine.checked;
    numbered = numbered_after g (steps.Init contract) fine.numbered;
    bound = bound_kept g fine (begins contract e);
    standing = and_one g.active _ fine.standing (init_stands contract e);
  }
  fine_after (steps.Reveal contract party secret) e =
      record {
        checked = fine.checked;
        numbered = numbered_after g (steps.Reveal contract party secret) fine.numbered;
        bound = fine.bound;
        standing = fine.standing;
      }
  fine_after (steps.AuthBranch party output branch) e =
      record {
        checked = fine.checked;
        numbered = numbered_after g (steps.AuthBranch party output branch) fine.numbered;
        bound = fine.bound;
        standing = fine.standing;
      }
  fine_after (steps.PutReveal output branch) e = record {
    checked = fine.checked;
    numbered = numbered_after g (steps.PutReveal output branch) fine.numbered;
    bound = bound_kept g fine (puts_in output branch e);
    standing = and_one (others g.active output) (put_new output branch e) (others_stand output) (put_both output branch e).0;
  }
  fine_after (steps.Withdraw output branch) e = record {
    checked = fine.checked;
    numbered = numbered_after g (steps.Withdraw output branch) fine.numbered;
    bound = λ k. bound_paid g fine _ k refl;
    standing = others_stand output;
  }
  fine_after (steps.Split output branch) e = record {
    checked = fine.checked;
    numbered = numbered_after g (steps.Split output branch) fine.numbered;
    bound = bound_divided g fine (length (values_of (branch_at g output branch)));
    standing = λ a i. elim (in_append a (others g.active output) (split_new output branch e) i) [
      | inl k ↦ others_stand output a k
      | inr k ↦ (split_both output branch e).0 a k
    ];
  }

  money_kept : (s : Step) → fails g s ≡ 0 → IsMoneyKept g s
  money_kept (steps.Move action) e =
      let p = no_false 1 (premises g (steps.Move action)) (omega arith) e in
      let q = and_parts (not (length action.inputs == 0) && are_distinct action.inputs) (are_live g.deposits action.inputs) p.0 in
      moved_total g fine.numbered action (and_parts (not (length action.inputs == 0)) (are_distinct action.inputs) q.0).1
  money_kept (steps.Init contract) e =
      begun_total g contract (contract_at g.contracts contract) (begins contract e) (init_enough contract e)
  money_kept (steps.PutReveal output branch) e =
      continued_total g fine.numbered output branch (puts_in output branch e) (put_both output branch e).1
  money_kept (steps.Withdraw output branch) e =
      withdrawn_total g fine.numbered output (payee_of (branch_at g output branch)) (withdraw_enough output branch e)
  money_kept (steps.Split output branch) e =
      divided_total g fine.numbered output branch (values_of (branch_at g output branch)) (split_both output branch e).1
  money_kept (steps.Delay blocks) e = refl
  money_kept (steps.AuthMove party action) e = refl
  money_kept (steps.Advertise contract bindings) e = refl
  money_kept (steps.Commit contract party lengths) e = refl
  money_kept (steps.AuthInit contract party deposit) e = refl
  money_kept (steps.Reveal contract party secret) e = refl
  money_kept (steps.AuthBranch party output branch) e = refl

  pub never_grows : (s : Step) → fails g s ≡ 0 → total_money (effect g s) ≤ total_money g
  never_grows (steps.Move action) e =
      let p = no_false 1 (premises g (steps.Move action)) (omega arith) e in
      let q = and_parts (not (length action.outputs == 0)) (nat_le (value_out action.outputs) (value_in g.deposits action.inputs)) p.1.0 in
      let l = leb-true (value_out action.outputs) (value_in g.deposits action.inputs) q.1 in
      let k = money_kept (steps.Move action) e in
      omega (arith, k, l)
  never_grows (steps.Init contract) e = let k = money_kept (steps.Init contract) e in omega (arith, k)
  never_grows (steps.PutReveal output branch) e = let k = money_kept (steps.PutReveal output branch) e in omega (arith, k)
  never_grows (steps.Withdraw output branch) e = let k = money_kept (steps.Withdraw output branch) e in omega (arith, k)
  never_grows (steps.Split output branch) e = let k = money_kept (steps.Split output branch) e in omega (arith, k)
  never_grows (steps.Delay blocks) e = le_refl (total_money g)
  never_grows (steps.AuthMove party action) e = le_refl (total_money g)
  never_grows (steps.Advertise contract bindings) e = le_refl (total_money g)
  never_grows (steps.Commit contract party lengths) e = le_refl (total_money g)
  never_grows (steps.AuthInit contract party deposit) e = le_refl (total_money g)
  never_grows (steps.Reveal contract party secret) e = le_refl (total_money g)
  never_grows (steps.AuthBranch party output branch) e = le_refl (total_money g)

  balanced : (a : ActiveContract) → Contains g.active a → IsBalanced g.contracts a
  balanced a i =
      let st = fine.standing a (in_from_contains g.active a i) in
      let well = checked_at g.contracts a.contract st.advert fine.checked st.there in
      record {
        advert = st.advert;
        there = st.there;
        choice = st.choice;
        chosen = st.chosen;
        static = contains_from_in (all_funded st.advert) (as_funded a.position (pos a.balance) (position st.choice)) st.static;
        only = λ v c h. one_balance st.advert a.position (pos a.balance) v st.choice c st.static
            (in_from_contains (all_funded st.advert) (as_funded a.position v (position c)) h);
        pays = λ j b h. branch_pays st.advert well (a.position ++ To j ∷ []) a.balance b
            (stands_branch st.advert a.position (pos a.balance) st.choice j b st.static h);
      }

  pub funded : IsFunded g
  funded = record { balanced = balanced; kept = money_kept; never_grows = never_grows }

-- ---- from the opening on

module _ (parties honest : List (List ℕ)) (deposits : List (List ℕ × ℕ)) (contracts : List Advert)
    (checked : AllByRecursion IsWellFormed contracts) where
  pub opening_fine : IsFine (opening parties honest deposits contracts)
  opening_fine =
      record {
        checked = checked;
        numbered = opening_numbered parties honest deposits contracts;
        bound = λ k. bound_by_none _ _ _;
        standing = λ a i. absurd i;
      }

pub money_is_kept : MoneyIsKept
money_is_kept parties honest deposits contracts ss g checked r =
    funded g (kept_along IsFine (λ c s e f. fine_after c f s e) (opening parties honest deposits contracts) ss g r
    (opening_fine parties honest deposits contracts checked))

abbrev FineWithin : Configuration → Type 0
FineWithin g = IsFine g × (total_money g ≤ max_money)

within_after : (g : Configuration) (s : Step) → fails g s ≡ 0 → FineWithin g → FineWithin (effect g s)
within_after g s e f = let l = never_grows g f.0 s e in (fine_after g f.0 s e, le_trans l f.1)

within : (g : Configuration) → IsNumbered g → total_money g ≤ max_money → IsWithinAllMoney g
within g numbered l = record {
  total = l;
  deposits = all_little (λ (d : Deposit). d.value) g.deposits max_money (omega (arith, l));
  active = all_little (λ (a : ActiveContract). a.balance) g.active max_money (omega (arith, l));
  inputs = λ ns d. (let k = kept_gone g.deposits ns in let v = gone_value g.deposits ns numbered.deposits d in omega (arith, k, v, l));
  joined = λ n ns. (let k = kept_gone g.deposits ns in let o = others_balance n g.active numbered.active in omega (arith, k, o, l));
}

pub money_stays_within : MoneyStaysWithin
money_stays_within parties honest deposits contracts ss g checked l r =
    let f =
    kept_along FineWithin within_after (opening parties honest deposits contracts) ss g r
    (opening_fine parties honest deposits contracts checked, l) in
    within g f.0.numbered f.1
