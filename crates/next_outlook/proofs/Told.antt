-- What is told of an event by what it would come to.
use Rattle.std.proofs.Common.{◌≡◌, ℕ, List, Option, None, refl, ap, ◌∙◌}
use Rattle.spec_data.specs.Messages.{collision}
use Rattle.spec_calculus.specs.Configuration.{Configuration}
use Rattle.spec_run.specs.declared.event.Event.{Event}
use Rattle.spec_run.specs.declared.outcome.Outcome.{Outcome}
use Rattle.spec_run.specs.Setup.{Setup}
use Rattle.spec_run.specs.World.{World}
use Rattle.spec_run.specs.Pending.{Answer, Went, Halted, guess, apply}
use Rattle.spec_run.specs.Event.{pending, event}
use Rattle.spec_next.specs.declared.outlook.Ruling.{Ruling}
use Rattle.spec_next.specs.Prospects.{ruling_of}
use Rattle.bm_world.specs.Foreseeing.{outcome_in, Foresees}
use Rattle.bm_world.specs.Playing.{Played, setup_in}
use Rattle.next_outlook.specs.Foretold.{ruling_in, calm_ruling, told, foretold}
use Rattle.bm_world_heard.proofs.Hearing.{foreseen_calm}
use Rattle.next_outlook.proofs.Hashless.{told_later}

ruling_seen : (a : Answer) → ruling_in (outcome_in a) ≡ ruling_of a
ruling_seen (Went d next) = refl
ruling_seen (Halted halt) = refl

-- its ruling is what it would come to
ruling_is : (s : Setup) (w : World) (e : Event) → collision s.hash w.hashed (pending s w e).hashes ≡ None
    → ruling_in (outcome_in (event s w e)) ≡ calm_ruling s w e
ruling_is s w e calm =
    ruling_seen (event s w e)
    ∙ ap (λ c. ruling_of (apply w (pending s w e) c (guess s w.posted (pending s w e).posts (pending s w e).allowed))) calm

pub told_there : {H : Type 0} (digest : H → List ℕ → List ℕ) (g : Configuration) (old new : Played H) (e : Event) (outcome : Option Outcome)
    (r : Ruling) → r ≡ ruling_in outcome → Foresees digest old new e outcome
    → told (setup_in digest new) g new.world e r ≡ foretold (setup_in digest old) g old.world e
told_there digest g old new e outcome r at f =
    told_later digest g old new _ (foreseen_calm digest old new e outcome f).hears e r
    ∙ ap (told (setup_in digest old) g old.world e)
    (at ∙ ap ruling_in f.comes ∙ ruling_is (setup_in digest old) old.world e f.calm)
