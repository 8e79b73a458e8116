-- The event of an offered branch leads to it.
use Rattle.std.proofs.Common.{◌≡◌, ℕ, List, [], ◌∷◌, ◌++◌, length, map, not, Option, Some, None, refl, sym, ap, ◌∙◌, subst, append_assoc}
use Rattle.std.specs.Prelude.{slice_get, is_some}
use Rattle.std.specs.List.{filter}
use Rattle.spec_data.specs.Lists.{first_reason}
use Rattle.spec_terms.specs.Core.{core}
use Rattle.spec_terms.specs.Precondition.{persistent}
use Rattle.spec_terms.specs.Term.{branches}
use Rattle.spec_bitcoin.specs.declared.tx.Tx.{Tx}
use Rattle.spec_bitcoin.specs.Verdict as bitcoin
use Rattle.spec_calculus.specs.declared.step.Step.{Step}
use Rattle.spec_calculus.specs.Configuration.{Configuration}
use Rattle.spec_compiler.specs.Transactions.{input_of, tx_of, prepared, initial_unsigned}
use Rattle.spec_run.specs.declared.event.Event.TheVariants as events
use Rattle.spec_run.specs.Setup.{Setup, people_at}
use Rattle.spec_run.specs.World.{Output, World, live_position_at}
use Rattle.spec_run.specs.Conditions.{IsSetup}
use Rattle.spec_run.specs.Pending.{unless, answer}
use Rattle.spec_run.specs.Signing.{branch_if_live}
use Rattle.spec_run.specs.Firing.{taking_witnesses, fire_row, reaches_if, position_instance, unknown_secret, unknown_at, script_of_position}
use Rattle.spec_run.specs.Ledger.{judged, accepted, kind_by, kind_of, Takes, initial_of, branch_count}
use Rattle.spec_compiler.specs.Witness.{chosen_by}
use Rattle.spec_run.specs.Steps.{reveals, kind_steps, branch_steps, auth_branch, is_awaited, core_step, steps_of}
use Rattle.spec_run.specs.Event.{pending}
use Rattle.spec_run.specs.Statements.{IsLast, LeadsTo, IsKept}
use Rattle.theory_bitcoin.specs.Apart.{bare}
use Rattle.theory_calculus.proofs.Members.{get_below}
use Rattle.theory_calculus.proofs.Names.{persistent_deposit}
use Rattle.theory_script.proofs.Scripts.Choosing.{witness_chooses}
use Rattle.theory_run.specs.KeptBook.{KeptBook}
use Rattle.theory_run.proofs.Accepted.Spending.{Checked}
use Rattle.theory_run.proofs.Accepted.Kinded.{counted}
use Rattle.theory_run.proofs.Accepted.WhatItIs.{initial_is, at_bound, first_persistent}
use Rattle.theory_world.proofs.Ledger.Acceptable.{none_reason, with-bare}
use Rattle.theory_offers.proofs.Basis.Offered.{KeptOffers}
use Rattle.theory_offers.proofs.Leads.{leads_by}
use Rattle.theory_offers.proofs.Takings as taking
use Rattle.theory_offers.proofs.Takings.{MayTake}

module _ (s : Setup) (setup : IsSetup s) (g : Configuration)
    (w : World) (kept : KeptBook s g w) (check : Checked s w) (more : KeptOffers s g w) (n i : ℕ) (may : MayTake s g w n i) where
  abbrev tx : Tx
  tx = taking.tx s setup g w kept check more n i may

  abbrev ns : List ℕ
  ns = taking.ns s setup g w kept check more n i may

  held_is : live_position_at w n ≡ Some may.held
  held_is = taking.held_is s setup g w kept check more n i may

  row : first_reason (fire_row s w n i) ≡ None
  row =
      let b : branch_if_live s (live_position_at w n) i ≡ Some may.branch =
      ap (λ h. branch_if_live s h i) held_is ∙ taking.branch_is s setup g w kept check more n i may in
      let t : position_instance s w (live_position_at w n) ≡ Some may.fine.instance = ap (position_instance s w) held_is ∙ may.fine.compiled in
      let u : unknown_at s w n i ≡ None = (λ j. unknown_secret s w (t j) (b j)) ∙ may.shown in
      none_reason (fire_row s w n i) (ap (λ o. not (is_some o)) held_is, (ap (λ o. not (is_some o)) b, (ap is_some u, tt)))

  pending_is : pending s w (events.Fire n i) ≡ accepted s w tx (n ∷ ns)
  pending_is =
      let t = taking.taking_is s setup g w kept check more n i may in
      (λ j. unless (row j) w [] (reaches_if s w (t j))) ∙ ap (judged s w w tx) (taking.taking_accepts s setup g w kept check more n i may)

  tx_bare : bare tx ≡ bare (tx_of (taking.made s setup g w kept check more n i may))
  tx_bare = with-bare (tx_of (taking.made s setup g w kept check more n i may))
      (taking_witnesses s w may.fine.instance may.held i may.fine.choice may.branch (prepared s.hash (taking.made s setup g w kept check more n i may)))

  -- it is no initial transaction
  no_initial : initial_of s w tx ≡ None
  no_initial = by_contract (initial_of s w tx) refl
    where
      by_contract : (o : Option ℕ) → initial_of s w tx ≡ o → o ≡ None
      by_contract None e = refl
      by_contract (Some j) e =
          let is = initial_is s w tx j e in
          let b : bare (tx_of (taking.made s setup g w kept check more n i may)) ≡ bare (tx_of (initial_unsigned s.hash is.instance)) = sym tx_bare ∙ is.is in
          let d = first_persistent s.hash is.instance (persistent is.instance.advert.pre) (input_of may.fine.here.output) _ (ap (λ (y : Tx). y.inputs) b) in
          let a = at_bound s g w kept j is.instance is.compiled (d.0.0) (d.0.1) (persistent_deposit is.instance.advert.pre d.0 d.1) in
          let m = kept.apart n a.number may.output a.bound.output may.there a.bound.there (may.fine.outpoint ∙ d.2 ∙ a.outpoint) in
          let o : (let y : Option Output = Some may.output in y) ≡ Some a.bound.output = sym may.there ∙ ap (slice_get w.outputs) m ∙ a.bound.there in
          let f : may.output ≡ a.bound.output = cc in
          let k : Some may.held ≡ None = sym may.holds_it ∙ ap (λ (y : Output). y.holds) f ∙ a.bound.free in
          cc

  kind_is : kind_of s w tx (n ∷ ns) ≡ Takes may.held n i
  kind_is =
      let witness = taking.witness s setup g w kept check more n i may in
      let c : chosen_by (branch_count s may.held) witness ≡ i =
      ap (λ m. chosen_by m witness) (counted s w may.held may.output may.fine)
      ∙ witness_chooses (length (branches may.fine.choice)) i
      (taking.sigs s setup g w kept check more n i may) (taking.strings s setup g w kept check more n i may)
      (script_of_position s may.fine.instance may.held may.fine.choice) (get_below (branches may.fine.choice) i may.branch may.is_branch) in
      (λ j. kind_by s tx (n ∷ ns) (no_initial j) (held_is j)) ∙ ap (Takes may.held n) c

  module _ (step : Step) (step_is : core_step n i (core may.branch) ≡ step ∷ []) where
    last : (next : World) → IsLast step (steps_of s next.posted g w next (events.Fire n i) (accepted s w tx (n ∷ ns)))
    last next =
        let people = people_at s may.held.contract in
        let auths = map (auth_branch n i) (filter (is_awaited g n i may.branch) people) in
        let b = taking.branch_is s setup g w kept check more n i may in (
          reveals s w next ++ auths,
          (λ j. reveals s w next ++ kind_steps s g w tx (n ∷ ns) (kind_is j)) ∙ (λ j. reveals s w next ++ branch_steps g people n i (b j))
              ∙ (λ j. reveals s w next ++ (auths ++ step_is j)) ∙ sym (append_assoc (reveals s w next) auths (step ∷ [])),
        )

    -- a branch that is offered is kept
    pub takes_kept : IsKept s g w (record { step = step; event = events.Fire n i })
    takes_kept = record {
      tx = tx;
      spent = n ∷ ns;
      made = bitcoin.numbers_from (length w.outputs) (taking.made s setup g w kept check more n i may).outputs;
      fires = taking.taking_is s setup g w kept check more n i may;
      accepts = taking.taking_accepts s setup g w kept check more n i may;
      leads = subst (λ d. LeadsTo s g w (events.Fire n i) step (answer s w d)) (sym pending_is)
          (leads_by s g w (events.Fire n i) step (accepted s w tx (n ∷ ns)) last);
    }
