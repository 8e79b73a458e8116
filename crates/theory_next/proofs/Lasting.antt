-- Refusals that stay.
use Rattle.std.proofs.Common.{◌≡◌, ℕ, List, [], ◌∷◌, Bool, true, false, Option, Some, None, refl, sym, ap, ◌∙◌, inl, inr, ◌⊎◌}
use Rattle.std.specs.Prelude.{if◌then◌else◌, is_some, not}
use Rattle.std.specs.List.{list_any}
use Rattle.spec_data.specs.Lists.{first_reason}
use Rattle.spec_data.specs.Messages.{collision}
use Rattle.spec_run.specs.declared.event.Event.{Event}
use Rattle.spec_run.specs.declared.event.Event.TheVariants as events
use Rattle.spec_run.specs.declared.header.HeldSecret.{HeldSecret}
use Rattle.spec_run.specs.declared.outcome.Outcome.{Outcome}
use Rattle.spec_run.specs.declared.outcome.Outcome.TheVariants as outcomes
use Rattle.spec_run.specs.declared.outcome.Reason.{Reason}
use Rattle.spec_run.specs.declared.outcome.Reason.TheVariants as reason
use Rattle.spec_run.specs.Setup.{Setup, is_honest, people_at}
use Rattle.spec_run.specs.World.{World}
use Rattle.spec_run.specs.Pending.{Pending, guess, apply, unless}
use Rattle.spec_run.specs.Event.{pending}
use Rattle.spec_run.specs.Advertising.{advertise_row}
use Rattle.spec_run.specs.Committing.{missing_secret, bad_secret, commit_row, digest_row}
use Rattle.spec_next.specs.declared.outlook.Ruling.TheVariants as rulings
use Rattle.spec_next.specs.Prospects.{ruling_by, ruling_of, ruling}
use Rattle.theory_calculus.specs.Members.{Is_in}
use Rattle.theory_next.specs.Lasting.{CommitsNever, RefusalsLast}

-- ---- rows

-- a refusal is of a test that is true
record Refuses (row : List (Bool × Reason)) (why : Reason) : Type 0 where
  test : Bool × Reason
  there : Is_in test row
  is_true : test.0 ≡ true
  is : test.1 ≡ why

refuses : (row : List (Bool × Reason)) (why : Reason) → first_reason row ≡ Some why → Refuses row why
refuses [] why h = cc
refuses (p ∷ ps) why h = by_test (p.0) refl h (refuses ps why)
  where
    by_test : (b : Bool) → p.0 ≡ b → (if b then Some (p.1) else first_reason ps) ≡ Some why → (first_reason ps ≡ Some why → Refuses ps why)
        → Refuses (p ∷ ps) why
    by_test true e q later = record { test = p; there = inl refl; is_true = e; is = cc }
    by_test false e q later =
        let r = later q in record { test = r.test; there = inr r.there; is_true = r.is_true; is = r.is }

-- where a test is true something is refused
is_refused_by : (row : List (Bool × Reason)) (p : Bool × Reason) → Is_in p row → p.0 ≡ true → (why : Reason) × (first_reason row ≡ Some why)
is_refused_by [] p i h = absurd i
is_refused_by (q ∷ qs) p (inl e) h =
    let z : q.0 ≡ true = ap (λ (x : Bool × Reason). x.0) (sym e) ∙ h in (q.1, ap (λ b. if b then Some (q.1) else first_reason qs) z)
is_refused_by (q ∷ qs) p (inr i) h = by_test (q.0) (is_refused_by qs p i h)
  where
    by_test : (b : Bool) → (why : Reason) × (first_reason qs ≡ Some why)
        → (why : Reason) × ((if b then Some (q.1) else first_reason qs) ≡ Some why)
    by_test true r = (q.1, refl)
    by_test false r = r

-- ---- rulings

refused_outcome : (w : World) (d : Pending) (c : Option (List ℕ × List ℕ)) (u : Option HeldSecret) (why : Reason)
    → ruling_of (apply w d c u) ≡ rulings.Cannot why → d.outcome ≡ outcomes.Refused why
refused_outcome w d (Some pair) u why h = cc
refused_outcome w d None (Some held) why h = cc
refused_outcome w d None None why h = by_outcome d.outcome h
  where
    by_outcome : (o : Outcome) → ruling_by o ≡ rulings.Cannot why → o ≡ outcomes.Refused why
    by_outcome outcomes.Done q = cc
    by_outcome (outcomes.Accepted spent made lock) q = cc
    by_outcome (outcomes.Refused other) q = let e : other ≡ why = cc in ap outcomes.Refused e

not_refused : (w : World) (d : Pending) (c : Option (List ℕ × List ℕ)) (u : Option HeldSecret) (why : Reason)
    → ruling_of (apply w d c u) ≡ rulings.Can → d.outcome ≡ outcomes.Refused why → ⊥
not_refused w d (Some pair) u why h e = cc
not_refused w d None (Some held) why h e = cc
not_refused w d None None why h e = let q : rulings.Cannot why ≡ rulings.Can = sym (ap ruling_by e) ∙ h in cc

module _ (s : Setup) (w : World) (e : Event) where
  abbrev d : Pending
  d = pending s w e

  outcome_of : (why : Reason) → ruling s w e ≡ rulings.Cannot why → d.outcome ≡ outcomes.Refused why
  outcome_of why h = refused_outcome w d (collision s.hash w.hashed d.hashes) (guess s w.posted d.posts d.allowed) why h

  never_refused : (why : Reason) → ruling s w e ≡ rulings.Can → d.outcome ≡ outcomes.Refused why → ⊥
  never_refused why h q = not_refused w d (collision s.hash w.hashed d.hashes) (guess s w.posted d.posts d.allowed) why h q

-- ---- pending effects

by_first : (o : Option Reason) (w : World) (strings : List (List ℕ)) (later : Pending) (why : Reason)
    → (unless o w strings later).outcome ≡ outcomes.Refused why → (o ≡ Some why) ⊎ (later.outcome ≡ outcomes.Refused why)
by_first None w strings later why h = inr h
by_first (Some other) w strings later why h = let e : other ≡ why = cc in inl (ap Some e)

-- where a test of the row is true, the event can't come
module _ (s : Setup) (w : World) (e : Event) (row : List (Bool × Reason)) (later : Pending) (is : pending s w e ≡ unless (first_reason row) w [] later) where
  stops : (p : Bool × Reason) → Is_in p row → p.0 ≡ true → ruling s w e ≡ rulings.Can → ⊥
  stops p i t h =
      let r = is_refused_by row p i t in
      never_refused s w e r.0 h
      (ap (λ (x : Pending). x.outcome) is ∙ ap (λ o. (unless o w [] later).outcome) r.1)

-- ---- the claims

nobody : (s : Setup) (w later : World) (k : ℕ) (bindings others : List (List ℕ × ℕ))
    → ruling s w (events.Advertise k bindings) ≡ rulings.Cannot reason.NoHonest → ruling s later (events.Advertise k others) ≡ rulings.Can → ⊥
nobody s w later k bindings others h can =
    elim (by_first (first_reason (advertise_row s w k bindings)) w [] _ reason.NoHonest
    (outcome_of s w (events.Advertise k bindings) reason.NoHonest h)) [
      | inl e ↦
          let r = refuses (advertise_row s w k bindings) reason.NoHonest e in
          stops s later (events.Advertise k others) (advertise_row s later k others) _ refl
          (not (list_any (is_honest s) (people_at s k)), reason.NoHonest)
          (inr (inr (inr (inr (inr (inr (inl refl))))))) (by_place r.test r.there r.is_true r.is) can
      | inr e ↦ cc
    ]
  where
    by_place : (p : Bool × Reason) → Is_in p (advertise_row s w k bindings) → p.0 ≡ true → p.1 ≡ reason.NoHonest
        → not (list_any (is_honest s) (people_at s k)) ≡ true
    by_place p (inl q) t e = let x = sym (ap (λ (y : Bool × Reason). y.1) q) ∙ e in cc
    by_place p (inr (inl q)) t e = let x = sym (ap (λ (y : Bool × Reason). y.1) q) ∙ e in cc
    by_place p (inr (inr (inl q))) t e = let x = sym (ap (λ (y : Bool × Reason). y.1) q) ∙ e in cc
    by_place p (inr (inr (inr (inl q)))) t e = let x = sym (ap (λ (y : Bool × Reason). y.1) q) ∙ e in cc
    by_place p (inr (inr (inr (inr (inl q))))) t e = let x = sym (ap (λ (y : Bool × Reason). y.1) q) ∙ e in cc
    by_place p (inr (inr (inr (inr (inr (inl q)))))) t e = let x = sym (ap (λ (y : Bool × Reason). y.1) q) ∙ e in cc
    by_place p (inr (inr (inr (inr (inr (inr (inl q))))))) t e = sym (ap (λ (y : Bool × Reason). y.0) q) ∙ t
    by_place p (inr (inr (inr (inr (inr (inr (inr q))))))) t e = absurd q

-- whether the reason is that a secret isn't there, or hasn't the size of one
abbrev is_missing : Reason → Bool
is_missing (reason.NoSecret secret) = true
is_missing _ = false

abbrev is_badly_long : Reason → Bool
is_badly_long (reason.BadSecretLength secret) = true
is_badly_long _ = false

abbrev is_repeated : Reason → Bool
is_repeated (reason.HashRepeated secret) = true
is_repeated _ = false

module _ (s : Setup) (w : World) (k : ℕ) (party : List ℕ) where
  -- a refusal that isn't of a repeated digest is of the first row
  of_row : (digests : List (List ℕ × List ℕ)) (why : Reason) → is_repeated why ≡ false
      → ruling s w (events.Commit k party digests) ≡ rulings.Cannot why → Refuses (commit_row s w k party digests) why
  of_row digests why other h =
      elim (by_first (first_reason (commit_row s w k party digests)) w [] _ why
      (outcome_of s w (events.Commit k party digests) why h)) [
        | inl e ↦ refuses (commit_row s w k party digests) why e
        | inr e ↦ elim (by_first (first_reason (digest_row s w k party digests)) w _ _ why e) [
          | inl q ↦
              let r = refuses (digest_row s w k party digests) why q in
              absurd (by_place r.test r.there r.is)
          | inr q ↦ cc
        ]
      ]
    where
      by_place : (p : Bool × Reason) → Is_in p (digest_row s w k party digests) → p.1 ≡ why → ⊥
      by_place p (inl q) e = let x = ap is_repeated (sym (ap (λ (y : Bool × Reason). y.1) q) ∙ e) ∙ other in cc
      by_place p (inr q) e = q

  missing_is : (digests : List (List ℕ × List ℕ)) (why : Reason) → is_missing why ≡ true → Refuses (commit_row s w k party digests) why
      → is_some (missing_secret s k party) ≡ true
  missing_is digests why m r = by_place r.test r.there r.is_true r.is
    where
      by_place : (p : Bool × Reason) → Is_in p (commit_row s w k party digests) → p.0 ≡ true → p.1 ≡ why → is_some (missing_secret s k party) ≡ true
      by_place p (inl q) t e = let x = ap is_missing (sym (ap (λ (y : Bool × Reason). y.1) q) ∙ e) ∙ m in cc
      by_place p (inr (inl q)) t e = let x = ap is_missing (sym (ap (λ (y : Bool × Reason). y.1) q) ∙ e) ∙ m in cc
      by_place p (inr (inr (inl q))) t e = let x = ap is_missing (sym (ap (λ (y : Bool × Reason). y.1) q) ∙ e) ∙ m in cc
      by_place p (inr (inr (inr (inl q)))) t e = let x = ap is_missing (sym (ap (λ (y : Bool × Reason). y.1) q) ∙ e) ∙ m in cc
      by_place p (inr (inr (inr (inr (inl q))))) t e = let x = ap is_missing (sym (ap (λ (y : Bool × Reason). y.1) q) ∙ e) ∙ m in cc
      by_place p (inr (inr (inr (inr (inr (inl q)))))) t e = sym (ap (λ (y : Bool × Reason). y.0) q) ∙ t
      by_place p (inr (inr (inr (inr (inr (inr (inl q))))))) t e =
          let x = ap is_missing (sym (ap (λ (y : Bool × Reason). y.1) q) ∙ e) ∙ m in cc
      by_place p (inr (inr (inr (inr (inr (inr (inr q))))))) t e = absurd q

  long_is : (digests : List (List ℕ × List ℕ)) (why : Reason) → is_badly_long why ≡ true → Refuses (commit_row s w k party digests) why
      → is_some (bad_secret s k party) ≡ true
  long_is digests why m r = by_place r.test r.there r.is_true r.is
    where
      by_place : (p : Bool × Reason) → Is_in p (commit_row s w k party digests) → p.0 ≡ true → p.1 ≡ why → is_some (bad_secret s k party) ≡ true
      by_place p (inl q) t e = let x = ap is_badly_long (sym (ap (λ (y : Bool × Reason). y.1) q) ∙ e) ∙ m in cc
      by_place p (inr (inl q)) t e = let x = ap is_badly_long (sym (ap (λ (y : Bool × Reason). y.1) q) ∙ e) ∙ m in cc
      by_place p (inr (inr (inl q))) t e = let x = ap is_badly_long (sym (ap (λ (y : Bool × Reason). y.1) q) ∙ e) ∙ m in cc
      by_place p (inr (inr (inr (inl q)))) t e = let x = ap is_badly_long (sym (ap (λ (y : Bool × Reason). y.1) q) ∙ e) ∙ m in cc
      by_place p (inr (inr (inr (inr (inl q))))) t e = let x = ap is_badly_long (sym (ap (λ (y : Bool × Reason). y.1) q) ∙ e) ∙ m in cc
      by_place p (inr (inr (inr (inr (inr (inl q)))))) t e =
          let x = ap is_badly_long (sym (ap (λ (y : Bool × Reason). y.1) q) ∙ e) ∙ m in cc
      by_place p (inr (inr (inr (inr (inr (inr (inl q))))))) t e = sym (ap (λ (y : Bool × Reason). y.0) q) ∙ t
      by_place p (inr (inr (inr (inr (inr (inr (inr q))))))) t e = absurd q

missing : (s : Setup) (w : World) (k : ℕ) (party secret : List ℕ) → CommitsNever s w k party (reason.NoSecret secret)
missing s w k party secret later digests others h can =
    stops s later (events.Commit k party others) (commit_row s later k party others) _ refl (is_some (missing_secret s k party), _)
    (inr (inr (inr (inr (inr (inl refl))))))
    (missing_is s w k party digests (reason.NoSecret secret) refl (of_row s w k party digests (reason.NoSecret secret) refl h)) can

badly_long : (s : Setup) (w : World) (k : ℕ) (party secret : List ℕ) → CommitsNever s w k party (reason.BadSecretLength secret)
badly_long s w k party secret later digests others h can =
    stops s later (events.Commit k party others) (commit_row s later k party others) _ refl (is_some (bad_secret s k party), _)
    (inr (inr (inr (inr (inr (inr (inl refl)))))))
    (long_is s w k party digests (reason.BadSecretLength secret) refl (of_row s w k party digests (reason.BadSecretLength secret) refl h)) can

pub refusals_last : RefusalsLast
refusals_last = record { nobody = nobody; missing = missing; badly_long = badly_long }
