-- What lets an honest party's signed deposit be spent: a gift that has been made, or an endorsement or a start that was done.
use Rattle.std.proofs.Common.{◌≡◌, ℕ, List, [], ◌∷◌, ◌++◌, Bool, true, Option, Some, None, refl, ◌∙◌, subst, inl, inr}
use Rattle.std.specs.Prelude.{◌&&◌, ◌⊎◌}
use Rattle.std.proofs.lemmas.Bool.{and_from, or_left, or_right}
use Rattle.spec_bitcoin.specs.Keys.{Pair, has_signed}
use Rattle.spec_calculus.specs.Configuration.{Configuration}
use Rattle.spec_calculus.specs.Steps.{after_steps}
use Rattle.spec_compiler.specs.Instance.{deposit_key}
use Rattle.spec_run.specs.declared.event.Event.{Event}
use Rattle.spec_run.specs.declared.outcome.Reason.{Reason}
use Rattle.spec_run.specs.declared.outcome.Record.{Record}
use Rattle.spec_run.specs.Setup.{Setup, is_declared, is_honest}
use Rattle.spec_run.specs.World.{World, is_advertised}
use Rattle.spec_data.specs.Messages.{collision}
use Rattle.spec_run.specs.Pending.{Pending, refused, unless, applied}
use Rattle.spec_run.specs.Values.{is_done}
use Rattle.spec_run.specs.HonestDeposits.{is_init, is_endorse, was_done}
use Rattle.spec_run.specs.Event.{opening_world, pending, record_of}
use Rattle.spec_run.specs.Steps.{steps_of}
use Rattle.theory_world.proofs.Tests.{any-append}
use Rattle.theory_run.proofs.Facts.Growing.{Grows, grows}
use Rattle.theory_run.specs.KeptBook.{KeptBook, AdvertFine, Gave, Needed, Started}
use Rattle.theory_run.proofs.Facts.Kept.{AllDead, Frame, all_dead_later, gave_later, needed_later, started_later}
use Rattle.theory_world.proofs.Staying.{inits_stay, asked_stay}

-- why an honest party's signature of a deposit stands in the book
pub data Leave (s : Setup) (before : List Record) (g : Configuration) (w : World) (a d : List ℕ) : Type 0 where
  by_gift : (h : Gave s w a d) → AllDead w h.tx.inputs → Leave s before g w a d
  by_endorsement : (h : Needed s w a d) → was_done (is_endorse h.contract a) before ≡ true → Leave s before g w a d
  by_start : (h : Started s g w a d) → was_done (is_init h.contract a) before ≡ true → Leave s before g w a d

pub record KeptLeave (s : Setup) (before : List Record) (g : Configuration) (w : World) : Type 0 where
  pub leave : (a d : List ℕ) → is_declared s a ≡ true → is_honest s a ≡ true → has_signed w.book (deposit_key s.hash a) d ≡ true → Leave s before g w a d

-- nothing is signed at the opening
pub opening_leave : (s : Setup) (g : Configuration) → KeptLeave s [] g (opening_world s)
opening_leave s g = record { leave = λ a d k h x. cc }

-- ---- more records

was_more : (test : Event → Bool) (before rs : List Record) → was_done test before ≡ true → was_done test (before ++ rs) ≡ true
was_more test before rs h = any-append (λ (r : Record). is_done r.outcome && test r.event) before rs ∙ or_left _ _ h

pub was_new : (test : Event → Bool) (before : List Record) (r : Record) → is_done r.outcome ≡ true → test r.event ≡ true
    → was_done test (before ++ r ∷ []) ≡ true
was_new test before r d t =
    any-append (λ (x : Record). is_done x.outcome && test x.event) before (r ∷ []) ∙ or_right (was_done test before) _ (or_left _ _ (and_from _ _ d t))

leave_later : (s : Setup) (before rs : List Record) (g g' : Configuration) (w next : World) → Frame s g g' w next
    → ((k : ℕ) → is_advertised w k ≡ true → AdvertFine s w k) → (a d : List ℕ) → Leave s before g w a d → Leave s (before ++ rs) g' next a d
unfolding gave_later needed_later started_later
leave_later s before rs g g' w next f adverts a d (by_gift h dead) =
    by_gift (gave_later s g g' w next f a d h) (all_dead_later s g g' w next f h.tx.inputs dead)
leave_later s before rs g g' w next f adverts a d (by_endorsement h was) =
    by_endorsement (needed_later s g g' w next f a d h) (was_more (is_endorse h.contract a) before rs was)
leave_later s before rs g g' w next f adverts a d (by_start h was) =
    by_start (started_later s g g' w next f adverts a d h) (was_more (is_init h.contract a) before rs was)

-- ---- one event

module _ (s : Setup) (strings : List (List ℕ))
    (before : List Record) (g : Configuration) (w : World) (kept : KeptBook s g w) (leave : KeptLeave s before g w) (e : Event) where
  -- what is kept after an event that comes to this pending effect, unless it collides
  abbrev pub LeaveAfter : Pending → Type 0
  LeaveAfter d = collision s.hash w.hashed d.hashes ≡ None
      → KeptLeave s (before ++ record_of e d ∷ []) (after_steps g (steps_of s strings g w (applied w d) e d)) (applied w d)

  pub frame_of : (d : Pending) → pending s w e ≡ d → Frame s g (after_steps g (steps_of s strings g w (applied w d) e d)) w (applied w d)
  frame_of d q =
      let gr = subst (λ x. Grows s w (applied w x)) q (grows s g w kept e) in
      let xs = steps_of s strings g w (applied w d) e d in
      record {
        outputs = gr.outputs;
        book = gr.book;
        hashed = gr.hashed;
        compiled = gr.compiled;
        bindings = gr.bindings;
        inits = inits_stay
            xs g;
        asked = asked_stay xs g;
      }

  -- where these pairs are new, each has its leave
  pub leave_by : (d : Pending) → pending s w e ≡ d → (pairs : List Pair)
      → ((k x : List ℕ) → has_signed d.world.book k x ≡ true → (has_signed w.book k x ≡ true) ⊎ (has_signed pairs k x ≡ true))
      → ((a x : List ℕ) → is_declared s a ≡ true → is_honest s a ≡ true → has_signed pairs (deposit_key s.hash a) x ≡ true
      → Leave s (before ++ record_of e d ∷ []) (after_steps g (steps_of s strings g w (applied w d) e d)) (applied w d) a x)
      → KeptLeave s (before ++ record_of e d ∷ []) (after_steps g (steps_of s strings g w (applied w d) e d)) (applied w d)
  leave_by d q pairs split new = record {
    leave = λ a x decl honest h. elim (split (deposit_key s.hash a) x h) [
      | inl y ↦ leave_later s before (record_of e d ∷ []) g _ w (applied w d) (frame_of d q) kept.adverts a x (leave.leave a x decl honest y)
      | inr y ↦ new a x decl honest y
    ];
  }

  -- where nothing is signed
  pub quiet_leave : (d : Pending) → pending s w e ≡ d → d.world.book ≡ w.book → LeaveAfter d
  quiet_leave d q same apart = leave_by d q [] (λ k x h. inl (subst (λ b. has_signed b k x ≡ true) same h)) (λ a x decl honest h. cc)

  pub unless_leave : (r : Option Reason) (hashes : List (List ℕ)) (d : Pending) → pending s w e ≡ unless r w hashes d
      → (r ≡ None → pending s w e ≡ d → LeaveAfter d) → LeaveAfter (unless r w hashes d)
  unless_leave None hashes d q h = h refl q
  unless_leave (Some r) hashes d q h = quiet_leave (refused w hashes r) q refl
