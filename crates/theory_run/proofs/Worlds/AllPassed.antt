-- The events of a run that went on, one by one: what each came to, and the world that it left.
use Rattle.std.proofs.Common.{◌≡◌, ℕ, List, [], ◌∷◌, Option, Some, None, refl}
use Rattle.spec_run.specs.declared.event.Event.{Event}
use Rattle.spec_run.specs.declared.header.HeldSecret.{HeldSecret}
use Rattle.spec_run.specs.Setup.{Setup}
use Rattle.spec_run.specs.World.{World}
use Rattle.spec_data.specs.Messages.{collision}
use Rattle.spec_run.specs.Pending.{Pending, guess, applied, apply}
use Rattle.spec_run.specs.Event.{Passed, pending, goes_on, played_from}

-- the event came to its pending effect in this world, and left the world that is applied with it
pub record HasPassed (s : Setup) (w : World) (p : Passed) : Type 0 where
  pub pending : p.pending ≡ pending s w p.event
  pub world : p.world ≡ applied w p.pending

abbrev pub AllPassed : Setup → World → List Passed → Type 0
AllPassed s w [] = Unit {0}
AllPassed s w (p ∷ ps) = HasPassed s w p × AllPassed s p.world ps

pub all_passed : (s : Setup) (es : List Event) (w : World) → AllPassed s w (played_from s w es).passed
all_passed s [] w = tt
all_passed s (e ∷ es) w =
    let d = pending s w e in
    by_answer d refl (collision s.hash w.hashed d.hashes) (guess s w.posted d.posts d.allowed) (all_passed s es)
  where
    by_answer : (d : Pending) → d ≡ pending s w e → (c : Option (List ℕ × List ℕ)) (g : Option HeldSecret)
        → ((next : World) → AllPassed s next (played_from s next es).passed)
        → AllPassed s w (goes_on e (apply w d c g) (λ next. played_from s next es)).passed
    by_answer d is (Some pair) g ih = tt
    by_answer d is None (Some held) ih = tt
    by_answer d is None None ih = (record { pending = is; world = refl }, ih (applied w d))
