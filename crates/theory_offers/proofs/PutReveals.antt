-- An offered branch that puts deposits in or reveals secrets is kept.
use Rattle.std.proofs.Common.{◌≡◌, ℕ, ◌+◌, List, [], ◌∷◌, length, true, Option, Some, None, refl, sym, ap, ◌∙◌, subst, arith}
use Rattle.std.specs.Prelude.{◌&&◌, slice_get, is_some}
use Rattle.std.specs.List.{list_all}
use Rattle.std.proofs.lemmas.Bool.{and_parts}
use Rattle.spec_data.specs.Lists.{is_among, are_different, look_up, AllTrue}
use Rattle.spec_terms.specs.Term as term
use Rattle.spec_terms.specs.Term.{Contract, auth, after, put_reveal, withdraw, split}
use Rattle.spec_terms.specs.Core.{core, puts_of, reveals_of, test_of}
use Rattle.spec_terms.specs.Faults.{IsWellFormed, are_among}
use Rattle.spec_terms.specs.Value.{holds}
use Rattle.spec_terms.specs.Precondition.{Holding, volatile, names_of, value_of, value_of_puts, secrets_of}
use Rattle.spec_bitcoin.specs.Verdict as bitcoin
use Rattle.spec_calculus.specs.declared.step.Step.TheVariants as steps
use Rattle.spec_calculus.specs.Configuration.{Configuration}
use Rattle.spec_calculus.specs.Beginning.{is_there, bindings_of, pre_of}
use Rattle.spec_calculus.specs.Branches as calculus
use Rattle.spec_calculus.specs.Branches.{active_at, are_revealed}
use Rattle.spec_calculus.specs.Steps.{fails, branch_at, put_reveal_premises}
use Rattle.spec_compiler.specs.Instance.{Instance, branch_path, position_script}
use Rattle.spec_compiler.specs.Transactions.{pays, continued_value, core_outputs, branch_unsigned, put_deposits, holding_or_none}
use Rattle.spec_run.specs.declared.event.Event.TheVariants as events
use Rattle.spec_run.specs.Setup as setups
use Rattle.spec_run.specs.Setup.{Setup, contract_at}
use Rattle.spec_run.specs.World.{Promise, World, bindings_at, digests_at}
use Rattle.spec_run.specs.Compiled.{compiled_instance}
use Rattle.spec_run.specs.Conditions.{IsSetup}
use Rattle.spec_run.specs.Agreement.{Agree}
use Rattle.spec_run.specs.Steps.{core_step}
use Rattle.spec_run.specs.Statements.{IsKept}
use Rattle.theory_script.proofs.Checked.{core_fact}
use Rattle.theory_calculus.proofs.Faultless.{no_fault}
use Rattle.theory_calculus.proofs.Names.{different_names}
use Rattle.theory_calculus.specs.Members.{Is_in}
use Rattle.theory_calculus.proofs.Members.{all_in, no_false}
use Rattle.theory_world.proofs.Later.{compiled_is}
use Rattle.theory_world.proofs.Contracts.Standing.{term_choice}
use Rattle.theory_run.specs.KeptSecrets.{KeptSecrets}
use Rattle.theory_run.proofs.Facts.KeptSecrets.{Begins}
use Rattle.theory_run.specs.KeptBook.{KeptBook}
use Rattle.theory_run.proofs.Accepted.Spending.{Checked}
use Rattle.theory_world.proofs.Ledger.Acceptable.{worth}
use Rattle.theory_offers.proofs.Basis.Offered.{KeptOffers}
use Rattle.theory_offers.proofs.Starts.{one_total, there_is}
use Rattle.theory_run.proofs.Steps.Beginnings.{bindings_same}
use Rattle.theory_run.proofs.Accepted.Numbers.{entry_in}
use Rattle.theory_offers.proofs.TakingLeads.{takes_kept}
use Rattle.theory_offers.proofs.Permitted.{Active, is_active, fine, Permitted, permitted}
use Rattle.theory_offers.proofs.Unlocked.{Unlocked, unlocked}

-- ---- what the check of a contract says of a core

puts_worth : (hash : List ℕ → List ℕ) (st : Instance) (puts : List (List ℕ)) → worth (put_deposits hash st puts) ≡ value_of_puts (volatile st.advert.pre) puts
puts_worth hash st [] = refl
puts_worth hash st (x ∷ puts) =
    let a = by_look (look_up x (volatile st.advert.pre)) in
    let b = puts_worth hash st puts in
    λ j. a j + b j
  where
    by_look : (o : Option Holding) → (holding_or_none o).value ≡ value_of o
    by_look None = refl
    by_look (Some h) = refl

module _ (s : Setup) (setup : IsSetup s) (z : List (List ℕ)) (g : Configuration) (w : World) (agree : Agree s g w)
    (kept : KeptBook s g w) (check : Checked s w) (secrets : KeptSecrets s z g w) (begins : Begins z w.posted) (more : KeptOffers s g w) where
  module _ (n i : ℕ) (a : Active s setup g w agree kept check more n) (b : term.Guarded) (p : Permitted s setup g w agree kept check more n i a b) where
    abbrev pub st : Instance
    st = (fine s setup g w agree kept check more n i a).instance

    abbrev pub k : ℕ
    k = a.held.contract

    pub compiled : compiled_instance s w k ≡ Some st
    compiled = (fine s setup g w agree kept check more n i a).compiled

    there : contract_at s k ≡ Some st.advert
    there = let ci = compiled_is s w k st compiled in ci.there ∙ ap (λ (y : Instance). Some y.advert) (sym ci.is)

    pub pre_is : pre_of (calculus.advert_of g.contracts
        (Some record { number = n; contract = a.held.contract; position = a.held.position; balance = a.output.value })) ≡ st.advert.pre
    pre_is = ap (λ cs. pre_of (slice_get cs k)) more.constant.contracts ∙ ap pre_of there

    pub hashes : st.hashes ≡ digests_at w.promises k
    hashes = ap (λ (y : Instance). y.hashes) (compiled_is s w k st compiled).is

    pub well : IsWellFormed st.advert
    well = check.checked k st compiled

    pub own : (q : Promise) → Is_in q w.promises → q.contract ≡ k → (name : List ℕ) → is_some (look_up name q.digests) ≡ true
        → is_among name (secrets_of q.party st.advert.pre) ≡ true
    own q j c name h =
        let l = more.named q name j h in
        let e : setups.pre_at s q.contract ≡ st.advert.pre = ap (setups.pre_at s) c ∙ ap setups.pre_of there in
        subst (λ pre. is_among name (secrets_of q.party pre) ≡ true) e l

    pub opened : are_revealed g.revealed k st.advert.pre (reveals_of (core b)) ≡ true
        → Unlocked s z g w secrets begins st k hashes (different_names st.advert well) own (reveals_of (core b))
    opened h = unlocked s z g w secrets begins st k hashes (different_names st.advert well) own (reveals_of (core b)) h

    -- a put's or reveal's branch that may be taken
    pub put_take : (puts reveals : List (List ℕ)) (test : term.Pred) (next : Contract) → core b ≡ put_reveal puts reveals test next
        → list_all (λ x. is_there g.deposits (look_up x (bindings_of g.advertised k))) (puts_of (core b)) ≡ true
        → are_revealed g.revealed k st.advert.pre (reveals_of (core b)) ≡ true
        → holds (calculus.secret_lengths g.committed k st.advert.pre (reveals_of (core b))) (test_of (core b)) ≡ true
        → IsKept s g w (record { step = steps.PutReveal n i; event = events.Fire n i })
    put_take puts reveals test next e live shown true_of =
        let f = fine s setup g w agree kept check more n i a in
        let u = opened shown in
        let nf = no_fault st.advert well in
        let pos = term_choice s.hash st a.held.position f.here f.choice f.stands in
        let known = core_fact (λ y. are_among (puts_of y) (names_of (volatile st.advert.pre))) st.advert a.held.position f.choice i b nf.1.0 pos p.is_branch in
        let apart = core_fact (λ y. are_different (puts_of y) && are_different (reveals_of y))
        st.advert a.held.position f.choice i b nf.1.1.1.0 pos p.is_branch in
        let same : bindings_of g.advertised k ≡ bindings_at w.advertised k = bindings_same g.advertised k ∙ ap (λ xs. bindings_at xs k) agree.advertised in
        let v = continued_value st f.here.output.value puts in
        let out = pays s.hash (position_script s.hash st (branch_path f.here.position i) next) v in
        let o : (branch_unsigned s.hash st f.here i b).outputs ≡ out ∷ [] = ap (core_outputs s.hash st (branch_path f.here.position i) f.here.output.value) e in
        let t = ap bitcoin.total_of o ∙ one_total out in
        let l = ap length o in
        let pw = puts_worth s.hash st (puts_of (core b)) in
        let pv : value_of_puts (volatile st.advert.pre) (puts_of (core b)) ≡ value_of_puts (volatile st.advert.pre) puts =
        ap (λ c. value_of_puts (volatile st.advert.pre) (puts_of c)) e in
        takes_kept s setup g w kept check more n i
        (record {
          output = a.output;
          there = a.there;
          live = a.live;
          held = a.held;
          holds_it = a.holds_it;
          fine = f;
          branch = b;
          is_branch = p.is_branch;
          reached = p.reached;
          agreed = p.agreed;
          live_puts = λ name j. sym (there_is s setup z g w agree kept secrets more (look_up name (bindings_at w.advertised k)))
              ∙ subst (λ bs. is_there g.deposits (look_up name bs) ≡ true) same
              (all_in (λ x. is_there g.deposits (look_up x (bindings_of g.advertised k))) (puts_of (core b)) name live j);
          known_puts = λ name j. entry_in st.advert.pre name (all_in (λ x. is_among x (names_of (volatile st.advert.pre))) (puts_of (core b)) name known j);
          different_puts = (and_parts (are_different (puts_of (core b))) (are_different (reveals_of (core b))) apart).0;
          shown = u.shown;
          fits = u.fit;
          predicate = subst (λ ls. holds ls (test_of (core b)) ≡ true) u.sizes true_of;
          makes = omega (arith, l);
          enough = omega (arith, t, pw, pv);
        })
        (steps.PutReveal n i) (ap (core_step n i) e)

    pub put_core : (c : term.Guarded) → core b ≡ c → calculus.is_put_core c ≡ true
        → list_all (λ x. is_there g.deposits (look_up x (bindings_of g.advertised k))) (puts_of (core b)) ≡ true
        → are_revealed g.revealed k st.advert.pre (reveals_of (core b)) ≡ true
        → holds (calculus.secret_lengths g.committed k st.advert.pre (reveals_of (core b))) (test_of (core b)) ≡ true
        → IsKept s g w (record { step = steps.PutReveal n i; event = events.Fire n i })
    put_core (put_reveal puts reveals test next) e x l r h = put_take puts reveals test next e l r h
    put_core (withdraw party) e x l r h = cc
    put_core (split parts) e x l r h = cc
    put_core (auth party body) e x l r h = cc
    put_core (after height body) e x l r h = cc

  put_by : (n i : ℕ) (a : Active s setup g w agree kept check more n) (o : Option term.Guarded) → branch_at g n i ≡ o
      → AllTrue (put_reveal_premises g n i (Some
      record { number = n; contract = a.held.contract; position = a.held.position; balance = a.output.value }) o)
      → IsKept s g w (record { step = steps.PutReveal n i; event = events.Fire n i })
  put_by n i a None e t = let x = t.1.0 in cc
  put_by n i a (Some b) e t =
      let p = permitted s setup g w agree kept check more n i a b e t.1.1.0 t.1.1.1.0 in
      let pre = pre_is n i a b p in
      let k = a.held.contract in
      put_core n i a b p (core b) refl t.1.0 t.1.1.1.1.0
      (subst (λ x. are_revealed g.revealed k x (reveals_of (core b)) ≡ true) pre t.1.1.1.1.1.0)
      (subst (λ x. holds (calculus.secret_lengths g.committed k x (reveals_of (core b))) (test_of (core b)) ≡ true) pre t.1.1.1.1.1.1.0)

  -- an offered put or reveal is kept
  pub put_kept : (n i : ℕ) → fails g (steps.PutReveal n i) ≡ 0 → IsKept s g w (record { step = steps.PutReveal n i; event = events.Fire n i })
  put_kept n i h =
      let t = no_false 1 (put_reveal_premises g n i (active_at g.active n) (branch_at g n i)) (omega arith) h in
      let a = is_active s setup g w agree kept check more n t.0 in
      put_by n i a (branch_at g n i) refl (subst (λ x. AllTrue (put_reveal_premises g n i x (branch_at g n i))) a.seen t)
