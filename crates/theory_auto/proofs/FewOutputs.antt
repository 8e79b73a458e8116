-- A run's world has fewer outputs than 4 bytes can number: no event makes more than a gift can.
use Rattle.std.proofs.Common.{◌≡◌, ℕ, suc, ◌+◌, ◌*◌, ◌≤◌, List, [], ◌∷◌, length, Option, Some, None}
use Rattle.std.proofs.Common.{sym, subst, arith}
use Rattle.std.specs.List.{AllByRecursion}
use Rattle.spec_data.specs.Messages.{collision}
use Rattle.spec_bitcoin.specs.Digests.{txid, opening_transaction}
use Rattle.spec_run.specs.declared.event.Event.{Event}
use Rattle.spec_run.specs.declared.header.HeldSecret.{HeldSecret}
use Rattle.spec_run.specs.Setup.{Setup}
use Rattle.spec_run.specs.World.{World}
use Rattle.spec_run.specs.Conditions.{IsSetup, IsEvent}
use Rattle.spec_run.specs.Pending.{Pending, Went, guess, applied, apply}
use Rattle.spec_run.specs.Ledger.{made_from}
use Rattle.spec_run.specs.Event.{opening_outputs, opening_world, pending, event, holds_nothing, goes_on, played_from}
use Rattle.spec_run.specs.Statements.{IsRun}
use Rattle.spec_run.specs.Translation.{world_after, last_world}
use Rattle.theory_world.proofs.Tests.{length_map}
use Rattle.theory_world.proofs.Ledger.Outputs.{length-made_from}
use Rattle.theory_run.proofs.Events.Births.{most_births, event_grows}
use Rattle.theory_auto.proofs.Longer.{world_of}

-- the world after an event that goes on has so many more at most
went_few : (s : Setup) (w next : World) (d d' : Pending) (c : Option (List ℕ × List ℕ)) (g : Option HeldSecret)
    → length d.world.outputs ≤ length w.outputs + most_births → apply w d c g ≡ Went d' next
    → length next.outputs ≤ length w.outputs + most_births
went_few s w next d d' (Some pair) g h e = cc
went_few s w next d d' None (Some held) h e = cc
went_few s w next d d' None None h e =
    let same : applied w d ≡ next = cc in subst (λ (x : World). length x.outputs ≤ length w.outputs + most_births) same h

pub next_few : (s : Setup) → IsSetup s → (w next : World) (e : Event) (d : Pending) → IsEvent s e → event s w e ≡ Went d next
    → length next.outputs ≤ length w.outputs + most_births
next_few s is w next e d fine h = went_few s w next (pending s w e) d _ _ (event_grows s is w e fine) h

after_few : (s : Setup) → IsSetup s → (es : List Event) (w : World) → AllByRecursion (IsEvent s) es
    → length (world_after w (played_from s w es).passed).outputs ≤ length w.outputs + most_births * length es
after_few s is [] w fine = omega arith
after_few s is (e ∷ es) w fine =
    let d = pending s w e in
    by_answer (collision s.hash w.hashed d.hashes) (guess s w.posted d.posts d.allowed) (event_grows s is w e fine.0)
    (λ next. after_few s is es next fine.1)
  where
    by_answer : (c : Option (List ℕ × List ℕ)) (g : Option HeldSecret)
        → length (pending s w e).world.outputs ≤ length w.outputs + most_births
        → ((next : World)
        → length (world_after next (played_from s next es).passed).outputs ≤ length next.outputs + most_births * length es)
        → length (world_after w (goes_on e (apply w (pending s w e) c g) (λ next. played_from s next es)).passed).outputs
        ≤ length w.outputs + most_births * suc (length es)
    by_answer (Some pair) g h ih = omega arith
    by_answer None (Some held) h ih = omega arith
    by_answer None None h ih = omega (arith, h, ih (applied w (pending s w e)))

opening_few : (s : Setup) → IsSetup s → length (opening_world s).outputs ≤ 1000
opening_few s is =
    let made = length-made_from holds_nothing (txid s.hash (opening_transaction (opening_outputs s))) 0 (opening_outputs s) in
    let count : length (opening_outputs s) ≡ length s.header.deposits = length_map _ s.header.deposits in
    omega (arith, made, count, is.header.few_deposits)

-- the last world of a run has few outputs for its events
pub last_few : (s : Setup) (es : List Event) → IsRun s es → length (last_world s es).outputs ≤ 1000 + most_births * length es
last_few s es run =
    let after = after_few s run.setup es (opening_world s) run.events in
    subst (λ (w : World). length w.outputs ≤ 1000 + most_births * length es) (sym (world_of s es))
    (omega (arith, after, opening_few s run.setup))
