-- A run played event by event: what one more event adds, at the front and at the end.
use Rattle.std.proofs.Common.{◌≡◌, ℕ, List, [], ◌∷◌, ◌++◌, map, Option, Some, None, refl, sym, ap, subst, append_assoc}
use Rattle.spec_calculus.specs.Configuration.{Configuration}
use Rattle.spec_run.specs.declared.event.Event.{Event}
use Rattle.spec_run.specs.declared.header.HeldSecret.{HeldSecret}
use Rattle.spec_run.specs.Setup.{Setup}
use Rattle.spec_data.specs.Messages.{collision}
use Rattle.spec_run.specs.World.{World}
use Rattle.spec_run.specs.Pending.{Pending, Answer, Went, Halted, Halt, guess, applied, apply}
use Rattle.spec_run.specs.Event.{Passed, Progress, pending, event, goes_on, played_from, onto_passed}
use Rattle.spec_run.specs.Translation.{turn_of, turns_from, world_after, last_or}

-- ---- the first event

-- an event that goes on, and the events after it
pub played-went : (s : Setup) (w : World) (e : Event) (es : List Event) (d : Pending) (next : World) → event s w e ≡ Went d next
    → played_from s w (e ∷ es) ≡ onto_passed (record { event = e; pending = d; world = next }) (played_from s next es)
played-went s w e es d next h = ap (λ (a : Answer). goes_on e a (λ x. played_from s x es)) h

-- an event that halts
pub played-halted : (s : Setup) (w : World) (e : Event) (es : List Event) (halt : Halt) → event s w e ≡ Halted halt
    → played_from s w (e ∷ es) ≡ record { passed = []; halt = Some (e, halt) }
played-halted s w e es halt h = ap (λ (a : Answer). goes_on e a (λ x. played_from s x es)) h

-- what was played so far, before what is still played
abbrev pub before : List Passed → Progress → Progress
before ps later = record { passed = ps ++ later.passed; halt = later.halt }

pub before-onto : (ps : List Passed) (p : Passed) (later : Progress) → before ps (onto_passed p later) ≡ before (ps ++ p ∷ []) later
before-onto ps p later = ap (λ xs. record { passed = xs; halt = later.halt }) (sym (append_assoc ps (p ∷ []) later.passed))

-- ---- one more event at the end

-- the world after one more
pub left_more : (ps : List Passed) (p : Passed) (w : World) → world_after w (ps ++ p ∷ []) ≡ p.world
left_more [] p w = refl
left_more (q ∷ ps) p w = left_more ps p q.world

-- the turns leave the world that the events left
pub last_left : (s : Setup) (z : List (List ℕ)) (ps : List Passed) (g : Configuration) (w : World)
    → last_or w (map (λ t. t.world) (turns_from s z g w ps)) ≡ world_after w ps
last_left s z [] g w = refl
last_left s z (p ∷ ps) g w = last_left s z ps (turn_of s z g w p).configuration p.world

-- the configuration after these events, from this one and this world on
abbrev pub reached : Setup → List (List ℕ) → Configuration → World → List Passed → Configuration
reached s z g w ps = last_or g (map (λ t. t.configuration) (turns_from s z g w ps))

pub reached_more : (s : Setup) (z : List (List ℕ)) (ps : List Passed) (p : Passed) (g : Configuration) (w : World)
    → reached s z g w (ps ++ p ∷ []) ≡ (turn_of s z (reached s z g w ps) (world_after w ps) p).configuration
reached_more s z [] p g w = refl
reached_more s z (q ∷ ps) p g w = reached_more s z ps p (turn_of s z g w q).configuration q.world

-- the turns of one more event
pub turns_more : (s : Setup) (z : List (List ℕ)) (ps : List Passed) (p : Passed) (g : Configuration) (w : World)
    → turns_from s z g w (ps ++ p ∷ []) ≡ turns_from s z g w ps ++ turn_of s z (reached s z g w ps) (world_after w ps) p ∷ []
turns_more s z [] p g w = refl
turns_more s z (q ∷ ps) p g w = λ i. turn_of s z g w q ∷ turns_more s z ps p (turn_of s z g w q).configuration q.world i

-- what an event comes to in a world
abbrev pub passing : Setup → World → Event → Passed
passing s w e = record { event = e; pending = pending s w e; world = applied w (pending s w e) }

abbrev with_one : List Passed → Passed → Progress
with_one ps p = record { passed = ps ++ p ∷ []; halt = None }

-- where all of these events went on, and so does one more
pub played_more : (s : Setup) (es : List Event) (e : Event) (w : World) (last : World)
    → (played_from s w es).halt ≡ None → world_after w (played_from s w es).passed ≡ last
    → collision s.hash last.hashed (pending s last e).hashes ≡ None
    → guess s last.posted (pending s last e).posts (pending s last e).allowed ≡ None
    → played_from s w (es ++ e ∷ []) ≡ with_one (played_from s w es).passed (passing s last e)
played_more s [] e w last on there calm unguessed =
    subst (λ x. goes_on e (event s x e) (λ next. played_from s next []) ≡ with_one [] (passing s last e)) (sym there)
    (rw (calm, unguessed) refl)
played_more s (x ∷ es) e w last on there calm unguessed =
    let d = pending s w x in
    by_answer (collision s.hash w.hashed d.hashes) (guess s w.posted d.posts d.allowed) on there
    (λ next f t. played_more s es e next last f t calm unguessed)
  where
    by_answer : (c : Option (List ℕ × List ℕ)) (u : Option HeldSecret)
        → (goes_on x (apply w (pending s w x) c u) (λ next. played_from s next es)).halt ≡ None
        → world_after w (goes_on x (apply w (pending s w x) c u) (λ next. played_from s next es)).passed ≡ last
        → ((next : World) → (played_from s next es).halt ≡ None → world_after next (played_from s next es).passed ≡ last
        → played_from s next (es ++ e ∷ []) ≡ with_one (played_from s next es).passed (passing s last e))
        → goes_on x (apply w (pending s w x) c u) (λ next. played_from s next (es ++ e ∷ []))
        ≡ with_one (goes_on x (apply w (pending s w x) c u) (λ next. played_from s next es)).passed (passing s last e)
    by_answer (Some pair) u f t ih = cc
    by_answer None (Some held) f t ih = cc
    by_answer None None f t ih = ap (onto_passed (passing s w x)) (ih (applied w (pending s w x)) f t)
