-- An event for which nothing is said to be missing comes, or halts, or is refused for a reason that may pass though nothing fails of its
-- conditions but what is in hand.
use Rattle.std.proofs.Common.{◌≡◌, ℕ, List, [], ◌∷◌, ◌++◌, map, Bool, true, false, Option, Some, None, refl, sym, ap, ◌∙◌, inl, inr, ◌⊎◌}
use Rattle.std.specs.Prelude.{not, ◌||◌, if◌then◌else◌}
use Rattle.std.specs.List.{filter, list_any}
use Rattle.std.proofs.lemmas.Bool.{false≢true}
use Rattle.spec_data.specs.Messages.{collision}
use Rattle.spec_calculus.specs.Configuration.{Configuration}
use Rattle.spec_run.specs.declared.event.Event.{Event}
use Rattle.spec_run.specs.declared.header.HeldSecret.{HeldSecret}
use Rattle.spec_run.specs.declared.outcome.Outcome.TheVariants as outcomes
use Rattle.spec_run.specs.declared.outcome.Reason.{Reason}
use Rattle.spec_run.specs.Setup.{Setup}
use Rattle.spec_run.specs.World.{World}
use Rattle.spec_run.specs.Event.{pending}
use Rattle.spec_run.specs.Pending.{apply, guess}
use Rattle.spec_next.specs.declared.outlook.Ruling.{Ruling}
use Rattle.spec_next.specs.declared.outlook.Ruling.TheVariants as rulings
use Rattle.spec_next.specs.declared.requirement.Requirement.{Requirement}
use Rattle.spec_next.specs.Hands.{is_in_hand}
use Rattle.spec_next.specs.Prospects.{is_never, decisive, lasting, outstanding, prospect, requirements_by, ruling, ruling_by, ruling_of}
use Rattle.spec_next.specs.Requirements.{Condition, unmet}
use Rattle.theory_calculus.specs.Members.{Is_in}
use Rattle.theory_next.specs.Ready.{CanUnlessHalts}

-- ---- what isn't said to be missing

abbrev pub cannot : Reason → Ruling
cannot reason = rulings.Cannot reason

-- a list with something that never comes has such after the rest is left out
never_left : (xs : List Requirement) → list_any is_never xs ≡ true → filter is_never xs ≡ [] → ⊥
never_left [] h k = false≢true h
never_left (x ∷ xs) h k = by_first (is_never x) h k (never_left xs)
  where
    by_first : (b : Bool) → (b || list_any is_never xs) ≡ true → (if b then x ∷ filter is_never xs else filter is_never xs) ≡ []
        → (list_any is_never xs ≡ true → filter is_never xs ≡ [] → ⊥) → ⊥
    by_first true e f later = cc
    by_first false e f later = later e f

decisive_none : (xs : List Requirement) → decisive xs ≡ [] → xs ≡ []
decisive_none xs h = by_any (list_any is_never xs) refl h
  where
    by_any : (b : Bool) → list_any is_never xs ≡ b → (if b then filter is_never xs else xs) ≡ [] → xs ≡ []
    by_any true e k = absurd (never_left xs e k)
    by_any false e k = k

none_both : (xs ys : List Requirement) → xs ++ ys ≡ [] → (xs ≡ []) × (ys ≡ [])
none_both [] ys h = (refl, h)
none_both (x ∷ xs) ys h = cc

module _ (s : Setup) (g : Configuration) (w : World) where
  -- it is refused, for a reason that may pass, and nothing fails of its conditions but what is in hand
  pub record Refused (e : Event) : Type 0 where
    pub reason : Reason
    pub is : ruling s w e ≡ cannot reason
    pub passes : lasting reason ≡ []
    pub nothing : outstanding s g w e ≡ []

  refused_or : (e : Event) → (prospect s g w e).requirements ≡ [] → CanUnlessHalts s w e ⊎ Refused e
  refused_or e h = by_ruling (ruling s w e) refl h
    where
      by_ruling : (r : Ruling) → ruling s w e ≡ r → requirements_by (outstanding s g w e) r ≡ [] → CanUnlessHalts s w e ⊎ Refused e
      by_ruling rulings.Can q k = inl (inl q)
      by_ruling rulings.Halts q k = inl (inr q)
      by_ruling (rulings.Cannot reason) q k =
          let both = none_both (lasting reason) (outstanding s g w e) (decisive_none (lasting reason ++ outstanding s g w e) k) in
          inr (record { reason = reason; is = q; passes = both.0; nothing = both.1 })

  -- so where it comes if no condition fails, it comes
  pub unless_refused : (e : Event) → (prospect s g w e).requirements ≡ [] → (Refused e → CanUnlessHalts s w e) → CanUnlessHalts s w e
  unless_refused e h f = by_or (refused_or e h)
    where
      by_or : CanUnlessHalts s w e ⊎ Refused e → CanUnlessHalts s w e
      by_or (inl c) = c
      by_or (inr r) = f r

  -- nothing of these is in hand
  unfoldable pub Plain : List Condition → Type 0
  Plain cs = (c : Condition) → Is_in c cs → is_in_hand s w (c.1) ≡ false

  pub none_in_hand : (cs : List Condition) → Plain cs → filter (λ x. not (is_in_hand s w x)) (unmet cs) ≡ [] → unmet cs ≡ []
  unfolding Plain
  none_in_hand [] p h = refl
  none_in_hand (c ∷ cs) p h = by_test (c.0) h (none_in_hand cs (λ d i. p d (inr i)))
    where
      by_test : (b : Bool)
          → filter (λ x. not (is_in_hand s w x)) (map (λ (d : Condition). d.1) (if not b then c ∷ filter (λ (d : Condition). not (d.0)) cs else filter (λ (d : Condition). not (d.0)) cs)) ≡ []
          → (filter (λ x. not (is_in_hand s w x)) (unmet cs) ≡ [] → unmet cs ≡ [])
          → map (λ (d : Condition). d.1) (if not b then c ∷ filter (λ (d : Condition). not (d.0)) cs else filter (λ (d : Condition). not (d.0)) cs) ≡ []
      by_test true k later = later k
      by_test false k later = absurd (stays (is_in_hand s w (c.1)) (p c (inl refl)) k)
        where
          stays : (b : Bool) → b ≡ false
              → (if not b then c.1 ∷ filter (λ x. not (is_in_hand s w x)) (unmet cs) else filter (λ x. not (is_in_hand s w x)) (unmet cs)) ≡ [] → ⊥
          stays true q f = false≢true (sym q)
          stays false q f = cc

  -- a refusal is by the outcome, where nothing halts
  pub same_reason : (e : Event) (r reason : Reason) → (pending s w e).outcome ≡ outcomes.Refused reason → ruling s w e ≡ cannot r → reason ≡ r
  same_reason e r reason o q =
      let d = pending s w e in
      by_halt (collision s.hash w.hashed d.hashes) (guess s w.posted d.posts d.allowed) q
    where
      by_halt : (c : Option (List ℕ × List ℕ)) (u : Option HeldSecret) → ruling_of (apply w (pending s w e) c u) ≡ cannot r → reason ≡ r
      by_halt (Some pair) u k = cc
      by_halt None (Some held) k = cc
      by_halt None None k = let z : cannot reason ≡ cannot r = sym (ap ruling_by o) ∙ k in cc
