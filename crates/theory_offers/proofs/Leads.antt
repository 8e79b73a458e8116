-- The event of an offered beginning leads to it.
use Rattle.std.proofs.Common.{◌≡◌, ℕ, List, [], ◌∷◌, ◌++◌, length, not, Option, Some, None, refl, sym, ap, ◌∙◌, subst, append_assoc}
use Rattle.std.specs.Prelude.{is_some}
use Rattle.spec_data.specs.Lists.{first_reason}
use Rattle.spec_terms.specs.Precondition.{persistent}
use Rattle.spec_bitcoin.specs.declared.tx.Tx.{Tx}
use Rattle.spec_bitcoin.specs.Verdict as bitcoin
use Rattle.spec_calculus.specs.declared.step.Step.{Step}
use Rattle.spec_calculus.specs.declared.step.Step.TheVariants as steps
use Rattle.spec_calculus.specs.Configuration.{Configuration}
use Rattle.spec_calculus.specs.Steps.{fails}
use Rattle.spec_compiler.specs.Instance.{Instance}
use Rattle.spec_compiler.specs.Transactions.{tx_of, prepared, initial_unsigned}
use Rattle.spec_run.specs.declared.event.Event.{Event}
use Rattle.spec_run.specs.declared.event.Event.TheVariants as events
use Rattle.spec_run.specs.declared.header.HeldSecret.{HeldSecret}
use Rattle.spec_run.specs.Setup.{Setup, pre_at}
use Rattle.spec_run.specs.World.{World}
use Rattle.spec_run.specs.Compiled.{compiled_instance, instance_of}
use Rattle.spec_run.specs.Conditions.{IsSetup}
use Rattle.spec_run.specs.Pending.{Pending, unless, apply, applied, answer, guess}
use Rattle.spec_data.specs.Messages.{collision}
use Rattle.spec_run.specs.Agreement.{Agree}
use Rattle.spec_run.specs.Firing.{initial_witnesses, initial_transaction, initial_by, fire_init_row, reaches_if}
use Rattle.spec_run.specs.Ledger.{judged, accepted, kind_by, kind_of, Begins, first_position, initial_of}
use Rattle.spec_run.specs.Steps.{reveals, kind_steps, auth_inits, unauthorised, steps_of}
use Rattle.spec_run.specs.Event.{pending}
use Rattle.spec_run.specs.Statements.{IsLast, LeadsTo, IsKept}
use Rattle.theory_bitcoin.specs.Apart.{bare}
use Rattle.theory_run.proofs.Facts.OnePosition.{one_initial}
use Rattle.theory_run.specs.KeptSecrets.{KeptSecrets}
use Rattle.theory_run.specs.KeptBook.{KeptBook}
use Rattle.theory_run.proofs.Accepted.Spending.{Checked}
use Rattle.theory_run.proofs.Accepted.WhatItIs.{initial_is, not_initial}
use Rattle.theory_world.proofs.Ledger.Acceptable.{none_reason, with-bare}
use Rattle.theory_offers.proofs.Basis.Offered.{KeptOffers}
use Rattle.theory_offers.proofs.Starts.{MayBegin, may_begin, numbers, start_accepts}

-- ---- what is left of an event

-- where a pending effect has the steps, its event leads to the last one
pub leads_by : (s : Setup) (g : Configuration) (w : World) (e : Event) (step : Step) (d : Pending)
    → ((next : World) → IsLast step (steps_of s next.posted g w next e d)) → LeadsTo s g w e step (answer s w d)
leads_by s g w e step d h = by_halts (collision s.hash w.hashed d.hashes) (guess s w.posted d.posts d.allowed)
  where
    by_halts : (c : Option (List ℕ × List ℕ)) (x : Option HeldSecret) → LeadsTo s g w e step (apply w d c x)
    by_halts (Some pair) x = tt
    by_halts None (Some held) = tt
    by_halts None None = h (applied w d)

-- ---- a beginning

module _ (s : Setup) (setup : IsSetup s) (z : List (List ℕ)) (g : Configuration) (w : World) (agree : Agree s g w) (kept : KeptBook s g w)
    (check : Checked s w) (secrets : KeptSecrets s z g w) (more : KeptOffers s g w) (k : ℕ) (may : MayBegin s setup z g w agree kept secrets more k) where
  abbrev st : Instance
  st = instance_of w k may.advert

  abbrev tx : Tx
  tx = initial_transaction s (instance_of w k may.advert)

  abbrev ns : List ℕ
  ns = numbers s setup z g w agree kept secrets more k may

  tx_bare : bare tx ≡ bare (tx_of (initial_unsigned s.hash (instance_of w k may.advert)))
  tx_bare = with-bare (tx_of (initial_unsigned s.hash (instance_of w k may.advert)))
      (initial_witnesses s (instance_of w k may.advert) (prepared s.hash (initial_unsigned s.hash (instance_of w k may.advert))))

  is_initial_of : initial_of s w tx ≡ Some k
  is_initial_of = by_contract (initial_of s w tx) refl
    where
      by_contract : (o : Option ℕ) → initial_of s w tx ≡ o → o ≡ Some k
      by_contract None e = absurd (not_initial s w tx k (instance_of w k may.advert) e may.compiled tx_bare)
      by_contract (Some j) e =
          let is = initial_is s w tx j e in
          let q = one_initial s setup.hash setup.few_contracts w check w.hashed secrets.clear kept.heard k j
          (instance_of w k may.advert) is.instance may.compiled is.compiled (sym tx_bare ∙ is.is) in
          ap Some (sym q)

  kind_is : kind_of s w tx ns ≡ Begins k
  kind_is = ap (λ o. kind_by s tx ns o (first_position w ns)) is_initial_of

  row : first_reason (fire_init_row s w k) ≡ None
  row = none_reason (fire_init_row s w k) (ap (λ o. not (is_some o)) may.there, (ap (λ o. not (is_some o)) may.compiled, tt))

  pending_is : pending s w (events.FireInit k) ≡ accepted s w tx ns
  pending_is =
      let i : initial_by s (compiled_instance s w k) ≡ Some tx = ap (initial_by s) may.compiled in
      (λ j. unless (row j) w [] (reaches_if s w (i j))) ∙ ap (judged s w w tx) (start_accepts s setup z g w agree kept secrets more k may)

  last : (next : World) → IsLast (steps.Init k) (steps_of s next.posted g w next (events.FireInit k) (accepted s w tx ns))
  last next =
      let auths = auth_inits k (unauthorised g k (persistent (pre_at s k))) in (
        reveals s w next ++ auths,
        (λ j. reveals s w next ++ kind_steps s g w tx ns (kind_is j))
            ∙ sym (append_assoc (reveals s w next) auths (steps.Init k ∷ [])),
      )

  -- a beginning that is offered is kept
  pub begins_kept : IsKept s g w (record { step = steps.Init k; event = events.FireInit k })
  begins_kept = record {
    tx = tx;
    spent = ns;
    made = bitcoin.numbers_from (length w.outputs) (initial_unsigned s.hash (instance_of w k may.advert)).outputs;
    fires = ap (initial_by s) may.compiled;
    accepts = start_accepts s setup z g w agree kept secrets more k may;
    leads = subst (λ d. LeadsTo s g w (events.FireInit k) (steps.Init k) (answer s w d)) (sym pending_is)
        (leads_by s g w (events.FireInit k) (steps.Init k) (accepted s w tx ns) last);
  }

pub init_kept : (s : Setup) (setup : IsSetup s) (z : List (List ℕ)) (g : Configuration) (w : World) (agree : Agree s g w)
    (kept : KeptBook s g w) (check : Checked s w) (secrets : KeptSecrets s z g w) (more : KeptOffers s g w) (k : ℕ) → fails g (steps.Init k)
    ≡ 0 → IsKept s g w (record { step = steps.Init k; event = events.FireInit k })
init_kept s setup z g w agree kept check secrets more k h =
    begins_kept s setup z g w agree kept check secrets more k (may_begin s setup z g w agree kept secrets more k h)
