-- Contracts that begin or go on stand at their positions with the static balance.
use Rattle.std.proofs.Common.{◌≡◌, ℕ, suc, ◌+◌, ◌-◌, ◌≤◌, pos, List, [], ◌∷◌, ◌++◌, true, Some, refl, sym, ap, ◌∙◌, subst, arith, inl, inr}
use Rattle.std.specs.Prelude.{◌==◌, slice_get, is_some}
use Rattle.spec_data.specs.Lists.{is_among, are_different, look_up}
use Rattle.spec_terms.specs.Advert.{Advert}
use Rattle.spec_terms.specs.Balance.{as_funded, all_funded}
use Rattle.spec_terms.specs.Core.{core}
use Rattle.spec_terms.specs.Core as cores
use Rattle.spec_terms.specs.Faults.{IsWellFormed, are_among}
use Rattle.spec_terms.specs.Paths.{position, at_branch}
use Rattle.spec_terms.specs.Precondition.{persistent, volatile, deposits, names_of, total_of, value_of, value_of_puts}
use Rattle.spec_terms.specs.Term.{Guarded, put_reveal, split, Contract, branches, Parts, no_part, part, parts_list, Pred}
use Rattle.spec_terms.specs.declared.path.PathStep.{PathStep}
use Rattle.spec_terms.specs.declared.path.PathStep.TheVariants.{Branch as To, Part as Into}
use Rattle.spec_calculus.specs.declared.parts.Deposit.{Deposit}
use Rattle.spec_calculus.specs.declared.parts.ActiveContract.{ActiveContract}
use Rattle.spec_calculus.specs.Configuration.{Configuration}
use Rattle.spec_calculus.specs.Beginning.{contract_at, pre_of, fee_of, bindings_of, are_there, numbers_of, persistent_names}
use Rattle.spec_calculus.specs.Moves.{deposit_at}
use Rattle.spec_calculus.specs.Branches.{active_at, contract_number, position_of, balance_of, advert_of, branch_of, puts_of_taken, values_of, values_in, part_values, gone, total_value, parts_made}
use Rattle.spec_calculus.specs.Steps.{branch_at}
use Rattle.spec_calculus.specs.Offers.{branches_at, branches_in}
use Rattle.theory_calculus.specs.Money.{Pays}
use Rattle.theory_calculus.specs.Members.{Is_in}
use Rattle.theory_calculus.proofs.Members.{found, some_there}
use Rattle.theory_calculus.proofs.Offered.{branch_is}
use Rattle.theory_calculus.proofs.Sums.{gone_value}
use Rattle.theory_calculus.proofs.Stands.{stands_branch, stands_next, stands_part, choice_next, choice_part}
use Rattle.theory_calculus.proofs.Bindings.{IsBound, numbers_distinct, names_value, entries_value}
use Rattle.theory_calculus.proofs.Checked.{persistent_names_differ, worth_among, puts_sum, puts_known, puts_differ, branch_pays, difference, root_is}
use Rattle.theory_calculus.proofs.Funded.{StandsAt, IsFine, checked_at}
use Rattle.theory_calculus.proofs.Names.{named_looked, persistent_deposit, volatile_deposit, looked_in, all_among}

module _ (g : Configuration) (fine : IsFine g) where
  bound_of : (k : ℕ) (advert : Advert) → contract_at g.contracts k ≡ Some advert
      → IsBound g.deposits g.next (deposits advert.pre) (bindings_of g.advertised k)
  bound_of k advert e = subst (λ o. IsBound g.deposits g.next (deposits (pre_of o)) (bindings_of g.advertised k)) e (fine.bound k)

  -- ---- what is taken of the deposits

  pub init_gone : (k : ℕ) (advert : Advert) → contract_at g.contracts k ≡ Some advert
      → are_there g.deposits (bindings_of g.advertised k) (persistent_names advert.pre) ≡ true
      → total_value (gone g.deposits (numbers_of (bindings_of g.advertised k) (persistent_names advert.pre)))
      ≡ total_of (persistent advert.pre)
  init_gone k advert e t =
      let b = bound_of k advert e in
      let well = checked_at g.contracts k advert fine.checked e in
      let bs = bindings_of g.advertised k in
      gone_value g.deposits (numbers_of bs (persistent_names advert.pre)) fine.numbered.deposits
      (numbers_distinct g.deposits bs (persistent_names advert.pre) b.apart (persistent_names_differ advert well))
      ∙ entries_value g.deposits bs (persistent advert.pre)
      (λ x n h d i l f. b.values x n h d l (persistent_deposit advert.pre (x, h) i) f) t

  pub put_gone : (k : ℕ) (advert : Advert) (puts : List (List ℕ)) → contract_at g.contracts k ≡ Some advert
      → are_among puts (names_of (volatile advert.pre)) ≡ true → are_different puts ≡ true
      → are_there g.deposits (bindings_of g.advertised k) puts ≡ true
      → total_value (gone g.deposits (numbers_of (bindings_of g.advertised k) puts)) ≡ value_of_puts (volatile advert.pre) puts
  put_gone k advert puts e known apart t =
      let b = bound_of k advert e in
      let bs = bindings_of g.advertised k in
      gone_value g.deposits (numbers_of bs puts) fine.numbered.deposits (numbers_distinct g.deposits bs puts b.apart apart)
      ∙ names_value g.deposits bs (worth_among (volatile advert.pre)) puts
      (λ x n d a l f. worth x n d (all_among (λ y. is_among y (names_of (volatile advert.pre))) puts x known a) l f b) t
      ∙ puts_sum (volatile advert.pre) puts
    where
      worth : (x : List ℕ) (n : ℕ) (d : Deposit) → is_among x (names_of (volatile advert.pre)) ≡ true
          → look_up x (bindings_of g.advertised k) ≡ Some n → deposit_at g.deposits n ≡ Some d
          → IsBound g.deposits g.next (deposits advert.pre) (bindings_of g.advertised k) → d.value ≡ worth_among (volatile advert.pre) x
      worth x n d a l f b =
          let h = named_looked (volatile advert.pre) x a in
          b.values x n h.0 d l (volatile_deposit advert.pre (x, h.0) (looked_in (volatile advert.pre) x h.0 h.1)) f ∙ sym (ap value_of h.1)

  -- ---- a contract that begins

  pub begun_stands : (k n : ℕ) (advert : Advert) → contract_at g.contracts k ≡ Some advert
      → are_there g.deposits (bindings_of g.advertised k) (persistent_names advert.pre) ≡ true
      → StandsAt g.contracts (record {
        number = n;
        contract = k;
        position = [];
        balance = total_value (gone g.deposits (numbers_of (bindings_of g.advertised k) (persistent_names advert.pre))) - advert.fee;
      })
  begun_stands k n advert e t =
      let v = init_gone k advert e t in
      let well = checked_at g.contracts k advert fine.checked e in
      subst (λ m. StandsAt g.contracts (record { number = n; contract = k; position = []; balance = m - advert.fee })) (sym v) (record {
        advert = advert;
        there = e;
        choice = advert.root;
        chosen = refl;
        static = inl (ap (λ m. as_funded [] m (position advert.root)) (sym (root_is advert well)));
      })

  -- ---- a branch of an active contract

  -- the branch of this number of the active contract of this number
  pub record IsTaken (output i : ℕ) : Type 0 where
    pub active : ActiveContract
    pub is : active_at g.active output ≡ Some active
    pub held : StandsAt g.contracts active
    pub of_advert : advert_of g.contracts (active_at g.active output) ≡ Some held.advert
    pub well : IsWellFormed held.advert
    pub branch : Guarded
    pub taken : branch_at g output i ≡ Some branch
    pub among : slice_get (branches held.choice) i ≡ Some branch
    pub static : Is_in (as_funded (active.position ++ To i ∷ []) (pos active.balance) (at_branch branch)) (all_funded held.advert)

  pub taken_by : (output i : ℕ) → is_some (active_at g.active output) ≡ true → is_some (branch_at g output i) ≡ true → IsTaken output i
  taken_by output i h k =
      let a = some_there (active_at g.active output) h in
      let f = found (λ (x : ActiveContract). x.number == output) g.active a.0 a.1 in
      let st = fine.standing a.0 f.0 in
      let b = some_there (branch_at g output i) k in
      let same : branch_at g output i ≡ slice_get (branches st.choice) i =
      ap (λ o. branch_of g.contracts o i) a.1 ∙ branch_is g.contracts a.0 i ∙ ap (λ o. slice_get (branches_in o a.0.position) i) st.there
      ∙ ap (λ o. slice_get (branches_at o) i) st.chosen in
      let among = sym same ∙ b.1 in
      record {
        active = a.0;
        is = a.1;
        held = st;
        of_advert = ap (advert_of g.contracts) a.1 ∙ st.there;
        well = checked_at g.contracts a.0.contract st.advert fine.checked st.there;
        branch = b.0;
        taken = b.1;
        among = among;
        static = stands_branch st.advert a.0.position (pos a.0.balance) st.choice i b.0 st.static among;
      }

  module _ (output i : ℕ) (t : IsTaken output i) where
    module _ (puts reveals : List (List ℕ)) (test : Pred) (next : Contract) (e : core t.branch ≡ put_reveal puts reveals test next)
        (there : are_there g.deposits (bindings_of g.advertised (contract_number (active_at g.active output))) (puts_of_taken (branch_at g output i))
        ≡ true) where
      place_is : contract_number (active_at g.active output) ≡ t.active.contract
      place_is = ap contract_number t.is

      puts_is : puts_of_taken (branch_at g output i) ≡ puts
      puts_is = ap puts_of_taken t.taken ∙ ap cores.puts_of e

      pub put_value : total_value (gone g.deposits (numbers_of (bindings_of g.advertised (contract_number (active_at g.active output)))
          (puts_of_taken (branch_at g output i)))) ≡ value_of_puts (volatile t.held.advert.pre) puts
      put_value =
          let same : are_there g.deposits (bindings_of g.advertised (contract_number (active_at g.active output)))
          (puts_of_taken (branch_at g output i)) ≡ are_there g.deposits (bindings_of g.advertised t.active.contract) puts =
          (λ j. are_there g.deposits (bindings_of g.advertised (place_is j)) (puts_is j)) in
          let moved : total_value (gone g.deposits (numbers_of (bindings_of g.advertised (contract_number (active_at g.active output)))
          (puts_of_taken (branch_at g output i)))) ≡ total_value
          (gone g.deposits (numbers_of (bindings_of g.advertised t.active.contract) puts)) =
          (λ j. total_value (gone g.deposits (numbers_of (bindings_of g.advertised (place_is j)) (puts_is j)))) in
          let q = t.active.position ++ To i ∷ [] in
          let known =
          subst (λ b. are_among (cores.puts_of b) (names_of (volatile t.held.advert.pre)) ≡ true) e
          (puts_known t.held.advert t.well q (pos t.active.balance) t.branch t.static) in
          let apart =
          subst (λ b. are_different (cores.puts_of b) ≡ true) e
          (puts_differ t.held.advert t.well q (pos t.active.balance) t.branch t.static) in
          moved ∙ put_gone t.active.contract t.held.advert puts t.held.there known apart (sym same ∙ there)

      pub put_enough : t.held.advert.fee ≤ t.active.balance + value_of_puts (volatile t.held.advert.pre) puts
      put_enough =
          subst (Pays t.held.advert t.active.balance) e
          (branch_pays t.held.advert t.well (t.active.position ++ To i ∷ []) t.active.balance t.branch t.static)

      pub continued_stands : StandsAt g.contracts (record {
        number = g.next;
        contract = contract_number (active_at g.active output);
        position = position_of (active_at g.active output) ++ To i ∷ [];
        balance = balance_of (active_at g.active output) + total_value
            (gone g.deposits (numbers_of (bindings_of g.advertised (contract_number (active_at g.active output)))
            (puts_of_taken (branch_at g output i)))) - fee_of (advert_of g.contracts (active_at g.active output));
      })
      continued_stands =
          let q = t.active.position ++ To i ∷ [] in
          let v = put_value in
          let here : ActiveContract =
          record {
            number = g.next;
            contract = t.active.contract;
            position = q;
            balance = t.active.balance + value_of_puts (volatile t.held.advert.pre) puts - t.held.advert.fee;
          } in
          let there : ActiveContract = record {
            number = g.next;
            contract = contract_number (active_at g.active output);
            position = position_of (active_at g.active output) ++ To i ∷ [];
            balance = balance_of (active_at g.active output) + total_value
                (gone g.deposits (numbers_of (bindings_of g.advertised (contract_number (active_at g.active output)))
                (puts_of_taken (branch_at g output i)))) - fee_of (advert_of g.contracts (active_at g.active output));
          } in
          let same : there ≡ here = (λ j. record {
            number = g.next;
            contract = contract_number (t.is j);
            position = position_of (t.is j) ++ To i ∷ [];
            balance = balance_of (t.is j) + v j - fee_of (t.of_advert j);
          }) in
          subst (StandsAt g.contracts) (sym same) (record {
            advert = t.held.advert;
            there = t.held.there;
            choice = next;
            chosen = choice_next t.held.advert.root t.active.position t.held.choice i t.branch puts reveals test next t.held.chosen t.among e;
            static =
                subst (λ m. Is_in (as_funded q m (position next)) (all_funded t.held.advert))
                (difference t.active.balance (value_of_puts (volatile t.held.advert.pre) puts) t.held.advert.fee put_enough)
                (stands_next t.held.advert q (pos t.active.balance) t.branch puts reveals test next t.static e);
          })

    -- ---- the parts of a split

    parts_stand : (n k contract : ℕ) (p : List PathStep) (ps : Parts)
        → ((j m q : ℕ) (x : ℕ × Contract) → slice_get (parts_list ps) j ≡ Some x → q ≡ j + k
        → StandsAt g.contracts (record { number = m; contract = contract; position = p ++ Into q ∷ []; balance = x.0 }))
        → (y : ActiveContract) → Is_in y (parts_made n contract p k (part_values ps)) → StandsAt g.contracts y
    parts_stand n k contract p no_part each y h = absurd h
    parts_stand n k contract p (part v c ps) each y (inl e) = subst (StandsAt g.contracts) (sym e) (each 0 n k (v, c) refl (omega arith))
    parts_stand n k contract p (part v c ps) each y (inr h) =
        parts_stand (n + 1) (k + 1) contract p ps (λ j m q x e f. each (suc j) m q x e (omega (arith, f))) y h

    pub divided_stands : (parts : Parts) → core t.branch ≡ split parts → (y : ActiveContract)
        → Is_in y (parts_made g.next (contract_number (active_at g.active output)) (position_of (active_at g.active output) ++ To i ∷ []) 0
        (values_of (branch_at g output i)))
        → StandsAt g.contracts y
    divided_stands parts e y h =
        let p = t.active.position ++ To i ∷ [] in
        let vs : values_of (branch_at g output i) ≡ part_values parts = ap values_of t.taken ∙ ap values_in e in
        let same : parts_made g.next (contract_number (active_at g.active output)) (position_of (active_at g.active output) ++ To i ∷ []) 0
        (values_of (branch_at g output i)) ≡ parts_made g.next t.active.contract p 0 (part_values parts) =
        (λ j. parts_made g.next (contract_number (t.is j)) (position_of (t.is j) ++ To i ∷ []) 0 (vs j)) in
        parts_stand g.next 0 t.active.contract p parts each y (subst (Is_in y) same h)
      where
        each : (j m q : ℕ) (x : ℕ × Contract) → slice_get (parts_list parts) j ≡ Some x → q ≡ j + 0
            → StandsAt g.contracts (record {
              number = m;
              contract = t.active.contract;
              position = (t.active.position ++ To i ∷ []) ++ Into q ∷ [];
              balance = x.0;
            })
        each j m q x f z =
            let n : j ≡ q = omega (arith, z) in
            subst (λ r. StandsAt g.contracts (record {
              number = m;
              contract = t.active.contract;
              position = (t.active.position ++ To i ∷ []) ++ Into r ∷ [];
              balance = x.0;
            })) n (record {
              advert = t.held.advert;
              there = t.held.there;
              choice = x.1;
              chosen = choice_part t.held.advert.root t.active.position t.held.choice i t.branch parts j x t.held.chosen t.among e f;
              static = stands_part t.held.advert (t.active.position ++ To i ∷ []) (pos t.active.balance) t.branch parts j x t.static e f;
            })
