-- What the premises of a branch's step say of the world: its contract output is live, its lock is over, and all whom it asks have agreed.
use Rattle.std.proofs.Common.{◌≡◌, ℕ, ◌+◌, ◌-◌, ◌<◌, ◌≤◌, List, [], ◌∷◌, length, map, Bool, true, false, Option, Some, None, refl, sym, ap, ◌∙◌, subst, arith}
use Rattle.std.specs.Prelude.{slice_get, is_some, if◌then◌else◌, nat_le}
use Rattle.std.specs.List.{list_all}
use Rattle.std.specs.Option.{option_and_then}
use Rattle.std.proofs.lemmas.List.Sums.{sum_by-cons}
use Rattle.spec_data.specs.Lists.{are_different}
use Rattle.spec_terms.specs.Term as term
use Rattle.spec_terms.specs.Term.{branches, always, auth, after, put_reveal, withdraw, split, Parts, no_part, part, parts_list}
use Rattle.spec_terms.specs.Core.{core, asks, lock, is_asked, puts_of, reveals_of, test_of}
use Rattle.spec_terms.specs.Faults.{sum_of_parts}
use Rattle.spec_terms.specs.Value.{holds}
use Rattle.spec_terms.specs.declared.path.PathStep.{PathStep}
use Rattle.spec_bitcoin.specs.declared.tx.TxOut.{TxOut}
use Rattle.spec_bitcoin.specs.Verdict as bitcoin
use Rattle.spec_calculus.specs.declared.step.Step.TheVariants as steps
use Rattle.spec_calculus.specs.Configuration.{Configuration}
use Rattle.spec_calculus.specs.Branches as calculus
use Rattle.spec_calculus.specs.Branches.{active_at, branch_of, has_branch_authorised, is_withdraw, is_withdraw_core, is_split, is_split_core}
use Rattle.spec_calculus.specs.Steps.{fails, branch_at, withdraw_premises, split_premises}
use Rattle.spec_compiler.specs.Instance.{Instance, branch_path, position_script}
use Rattle.spec_compiler.specs.Scripts.{digest_of}
use Rattle.spec_compiler.specs.Statements.{are_secrets, secret_lengths}
use Rattle.spec_compiler.specs.Transactions.{pays, party_script, part_position, part_outputs, core_outputs, branch_unsigned}
use Rattle.spec_run.specs.declared.event.Event.TheVariants as events
use Rattle.spec_run.specs.Setup.{Setup, contract_at}
use Rattle.spec_run.specs.World.{ContractPosition, Output, World}
use Rattle.spec_run.specs.Conditions.{IsSetup}
use Rattle.spec_run.specs.Agreement.{Agree, active_in, active_by}
use Rattle.spec_run.specs.Firing.{shown_strings, first_unshown}
use Rattle.spec_run.specs.Steps.{core_step}
use Rattle.spec_run.specs.Statements.{IsKept}
use Rattle.theory_calculus.proofs.Names.{all_among}
use Rattle.theory_calculus.specs.Members.{Is_in}
use Rattle.theory_calculus.proofs.Members.{no_false}
use Rattle.theory_script.proofs.Scripts.Predicates.{within_of_test}
use Rattle.theory_world.proofs.Ledger.Outputs.{active-at}
use Rattle.theory_world.proofs.Later.{compiled_is}
use Rattle.theory_world.proofs.Contracts.Standing.{term_branches}
use Rattle.theory_run.specs.KeptBook.{KeptBook, HeldFine}
use Rattle.theory_run.proofs.Accepted.Spending.{Checked}
use Rattle.theory_offers.proofs.Basis.Offered.{KeptOffers}
use Rattle.theory_offers.proofs.Starts.{one_total}
use Rattle.theory_offers.proofs.Takings.{MayTake}
use Rattle.theory_offers.proofs.TakingLeads.{takes_kept}

-- the parts of a split are worth their sum
parts_total : (hash : List ℕ → List ℕ) (st : Instance) (path : List PathStep) (k : ℕ) (ps : Parts)
    → bitcoin.total_of (part_outputs hash st path k ps) ≡ sum_of_parts ps
parts_total hash st path k no_part = refl
parts_total hash st path k (part v c ps) =
    sum_by-cons (λ (x : TxOut). x.value) (pays hash (position_script hash st (part_position path k) c) v)
    (part_outputs hash st path (k + 1) ps) ∙ ap (λ n. v + n) (parts_total hash st path (k + 1) ps)

some_part : (hash : List ℕ → List ℕ) (st : Instance) (path : List PathStep) (ps : Parts) → 0 < length (parts_list ps)
    → 0 < length (part_outputs hash st path 0 ps)
some_part hash st path no_part h = absurd (omega (arith, h))
some_part hash st path (part v c ps) h = omega arith

module _ (s : Setup) (setup : IsSetup s)
    (g : Configuration) (w : World) (agree : Agree s g w) (kept : KeptBook s g w) (check : Checked s w) (more : KeptOffers s g w) where
  -- a live contract output as an active contract
  pub record Active (n : ℕ) : Type 0 where
    pub output : Output
    pub there : slice_get w.outputs n ≡ Some output
    pub live : output.live ≡ true
    pub held : ContractPosition
    pub holds_it : output.holds ≡ Some held
    pub seen : active_at g.active n ≡ Some record { number = n; contract = held.contract; position = held.position; balance = output.value }

  pub is_active : (n : ℕ) → is_some (active_at g.active n) ≡ true → Active n
  is_active n h = by_output (slice_get w.outputs n) refl (sym (ap is_some look) ∙ h) look
    where
      look : active_at g.active n ≡ option_and_then (active_in n) (slice_get w.outputs n)
      look = ap (λ xs. active_at xs n) agree.active ∙ active-at n w.outputs

      by_held : (o : Output) → slice_get w.outputs n ≡ Some o → o.live ≡ true → (h : Option ContractPosition) → o.holds ≡ h
          → is_some (active_by n o.value h) ≡ true → active_at g.active n ≡ active_by n o.value h → Active n
      by_held o e l None q x y = cc
      by_held o e l (Some held) q x y = record { output = o; there = e; live = l; held = held; holds_it = q; seen = y }

      by_live : (o : Output) → slice_get w.outputs n ≡ Some o → (b : Bool) → o.live ≡ b
          → is_some (active_by n o.value (if b then o.holds else None)) ≡ true → active_at g.active n
          ≡ active_by n o.value (if b then o.holds else None) → Active n
      by_live o e false l x y = cc
      by_live o e true l x y = by_held o e l o.holds refl x y

      by_output : (r : Option Output) → slice_get w.outputs n ≡ r → is_some (option_and_then (active_in n) r) ≡ true → active_at g.active n
          ≡ option_and_then (active_in n) (slice_get w.outputs n) → Active n
      by_output None e x y = cc
      by_output (Some o) e x y = by_live o e o.live refl x (y ∙ ap (option_and_then (active_in n)) e)

  module _ (n i : ℕ) (a : Active n) where
    abbrev pub fine : HeldFine s w a.output a.held
    fine = kept.held n a.output a.held a.there a.holds_it

    pub branch_seen : branch_at g n i ≡ slice_get (branches fine.choice) i
    branch_seen =
        let ci = compiled_is s w a.held.contract fine.instance fine.compiled in
        let c : contract_at s a.held.contract ≡ Some fine.instance.advert = ci.there ∙ ap (λ (y : Instance). Some y.advert) (sym ci.is) in
        ap (λ x. branch_of g.contracts x i) a.seen
        ∙ ap (λ cs. calculus.branch_in (slice_get cs a.held.contract) a.held.position i) more.constant.contracts
        ∙ ap (λ o. calculus.branch_in o a.held.position i) c
        ∙ term_branches s.hash fine.instance a.held.position fine.here fine.choice i fine.stands

    -- the premises that all branches have
    pub record Permitted (b : term.Guarded) : Type 0 where
      pub is_branch : slice_get (branches fine.choice) i ≡ Some b
      pub reached : lock b ≤ w.tip
      pub agreed : (p : List ℕ) → is_asked b p ≡ true → has_branch_authorised g.branch_authorised n i p ≡ true

    pub permitted : (b : term.Guarded) → branch_at g n i ≡ Some b → nat_le (lock b) g.time ≡ true
        → list_all (λ p. has_branch_authorised g.branch_authorised n i p) (asks b) ≡ true → Permitted b
    permitted b e l h = record {
      is_branch = sym branch_seen ∙ e;
      reached = subst (λ t. lock b ≤ t) agree.time (within_of_test (lock b) g.time l);
      agreed = λ p k. all_among (λ x. has_branch_authorised g.branch_authorised n i x) (asks b) p h k;
    }

    -- a branch that puts nothing and reveals nothing
    pub quiet_take : (b : term.Guarded) → Permitted b → puts_of (core b) ≡ [] → reveals_of (core b) ≡ [] → test_of (core b) ≡ always
        → 0 < length (branch_unsigned s.hash fine.instance fine.here i b).outputs
        → bitcoin.total_of (branch_unsigned s.hash fine.instance fine.here i b).outputs ≤ fine.here.output.value → MayTake s g w n i
    quiet_take b p pe re te makes enough = record {
      output = a.output;
      there = a.there;
      live = a.live;
      held = a.held;
      holds_it = a.holds_it;
      fine = fine;
      branch = b;
      is_branch = p.is_branch;
      reached = p.reached;
      agreed = p.agreed;
      live_puts = λ name k. absurd (subst (Is_in name) pe k);
      known_puts = λ name k. absurd (subst (Is_in name) pe k);
      different_puts = ap are_different pe;
      shown = ap (first_unshown s w fine.instance) re;
      fits = ap (λ rs. are_secrets s.hash (shown_strings s w fine.instance rs) (map (digest_of fine.instance.hashes) rs)) re;
      predicate = λ j. holds (secret_lengths (re j) (shown_strings s w fine.instance (re j))) (te j);
      makes = makes;
      enough = omega (arith, enough);
    }

    withdraw_take : (b : term.Guarded) → Permitted b → (c : term.Guarded) → core b ≡ c → is_withdraw_core c ≡ true
        → IsKept s g w (record { step = steps.Withdraw n i; event = events.Fire n i })
    unfolding quiet_take
    withdraw_take b p (put_reveal puts reveals test next) e h = cc
    withdraw_take b p (split parts) e h = cc
    withdraw_take b p (auth party body) e h = cc
    withdraw_take b p (after height body) e h = cc
    withdraw_take b p (withdraw party) e h =
        let v = fine.here.output.value - fine.instance.advert.fee in
        let o : (branch_unsigned s.hash fine.instance fine.here i b).outputs ≡ pays s.hash (party_script s.hash party) v ∷ [] =
        ap (core_outputs s.hash fine.instance (branch_path fine.here.position i) fine.here.output.value) e in
        let t = ap bitcoin.total_of o ∙ one_total (pays s.hash (party_script s.hash party) v) in
        let l = ap length o in
        takes_kept s setup g w kept check more n i
        (quiet_take b p (ap puts_of e) (ap reveals_of e) (ap test_of e) (omega (arith, l)) (omega (arith, t)))
        (steps.Withdraw n i) (ap (core_step n i) e)

    split_take : (b : term.Guarded) → Permitted b → (c : term.Guarded) → core b ≡ c → is_split_core c ≡ true
        → ((ps : Parts) → core b ≡ split ps → (0 < length (parts_list ps)) × (sum_of_parts ps ≤ fine.here.output.value))
        → IsKept s g w (record { step = steps.Split n i; event = events.Fire n i })
    unfolding quiet_take
    split_take b p (put_reveal puts reveals test next) e h k = cc
    split_take b p (withdraw party) e h k = cc
    split_take b p (auth party body) e h k = cc
    split_take b p (after height body) e h k = cc
    split_take b p (split ps) e h k =
        let q = k ps e in
        let path = branch_path fine.here.position i in
        let o : (branch_unsigned s.hash fine.instance fine.here i b).outputs ≡ part_outputs s.hash fine.instance path 0 ps =
        ap (core_outputs s.hash fine.instance path fine.here.output.value) e in
        let t = ap bitcoin.total_of o ∙ parts_total s.hash fine.instance path 0 ps in
        let l = ap length o in
        let f = some_part s.hash fine.instance path ps q.0 in
        let u = q.1 in
        takes_kept s setup g w kept check more n i
        (quiet_take b p (ap puts_of e) (ap reveals_of e) (ap test_of e) (omega (arith, l, f)) (omega (arith, t, u)))
        (steps.Split n i) (ap (core_step n i) e)

  withdraw_by : (n i : ℕ) (a : Active n) (o : Option term.Guarded) → branch_at g n i ≡ o → is_withdraw o ≡ true
      → nat_le (calculus.lock_of o) g.time ≡ true → calculus.have_branch_authorised g.branch_authorised n i (calculus.asks_of o) ≡ true
      → IsKept s g w (record { step = steps.Withdraw n i; event = events.Fire n i })
  withdraw_by n i a None e x l h = cc
  withdraw_by n i a (Some b) e x l h = withdraw_take n i a b (permitted n i a b e l h) (core b) refl x

  -- an offered withdrawal is kept
  pub withdraw_kept : (n i : ℕ) → fails g (steps.Withdraw n i) ≡ 0 → IsKept s g w (record { step = steps.Withdraw n i; event = events.Fire n i })
  withdraw_kept n i h =
      let t = no_false 1 (withdraw_premises g n i (active_at g.active n) (branch_at g n i)) (omega arith) h in
      withdraw_by n i (is_active n t.0) (branch_at g n i) refl t.1.0 t.1.1.0 t.1.1.1.0

  split_by : (n i : ℕ) (a : Active n) (o : Option term.Guarded) → branch_at g n i ≡ o → is_split o ≡ true
      → nat_le (calculus.lock_of o) g.time ≡ true → calculus.have_branch_authorised g.branch_authorised n i (calculus.asks_of o) ≡ true
      → ((b : term.Guarded) (ps : Parts) → slice_get (branches (fine n i a).choice) i ≡ Some b → core b ≡ split ps
      → (0 < length (parts_list ps)) × (sum_of_parts ps ≤ (fine n i a).here.output.value))
      → IsKept s g w (record { step = steps.Split n i; event = events.Fire n i })
  split_by n i a None e x l h k = cc
  split_by n i a (Some b) e x l h k =
      let p = permitted n i a b e l h in
      split_take n i a b p (core b) refl x (λ ps q. k b ps p.is_branch q)

  -- an offered split is kept, where its parts are worth no more than its position
  pub split_kept : (n i : ℕ) → fails g (steps.Split n i) ≡ 0
      → ((a : Active n) (b : term.Guarded) (ps : Parts) → slice_get (branches (fine n i a).choice) i ≡ Some b → core b ≡ split ps
      → (0 < length (parts_list ps)) × (sum_of_parts ps ≤ (fine n i a).here.output.value))
      → IsKept s g w (record { step = steps.Split n i; event = events.Fire n i })
  split_kept n i h k =
      let t = no_false 1 (split_premises g n i (active_at g.active n) (branch_at g n i)) (omega arith) h in
      let a = is_active n t.0 in
      split_by n i a (branch_at g n i) refl t.1.0 t.1.1.0 t.1.1.1.0 (k a)
