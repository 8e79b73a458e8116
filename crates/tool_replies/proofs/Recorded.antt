-- A run that isn't halted is recorded whole.
use Rattle.std.proofs.Common.{◌≡◌, List, [], ◌∷◌, map, None, refl, sym, ap}
use Rattle.std.proofs.lemmas.Option.{none-some}
use Rattle.spec_run.specs.declared.event.Event.{Event}
use Rattle.spec_run.specs.declared.outcome.Record.{Record}
use Rattle.spec_run.specs.Setup.{Setup}
use Rattle.spec_run.specs.World.{World}
use Rattle.spec_run.specs.Pending.{Answer, Went, Halted}
use Rattle.spec_run.specs.Event.{Progress, goes_on, played_from, event}
use Rattle.tool_replies.specs.Going.{record_passed}

abbrev pub recorded : List Record → List Event
recorded rs = map (λ r. r.event) rs

-- an event and those after it, where the later ones are recorded whole
one_recorded : (e : Event) (es : List Event) (a : Answer) (later : World → Progress) → (goes_on e a later).halt ≡ None
    → ((next : World) → (later next).halt ≡ None → recorded (map record_passed (later next).passed) ≡ es)
    → recorded (map record_passed (goes_on e a later).passed) ≡ e ∷ es
one_recorded e es (Halted halt) later none h = absurd (none-some (e, halt) (sym none))
one_recorded e es (Went d next) later none h = ap (λ (xs : List Event). e ∷ xs) (h next none)

pub recorded_whole : (s : Setup) (w : World) (es : List Event) → (played_from s w es).halt ≡ None
    → recorded (map record_passed (played_from s w es).passed) ≡ es
recorded_whole s w [] none = refl
recorded_whole s w (e ∷ es) none = one_recorded e es (event s w e) (λ next. played_from s next es) none (λ next h. recorded_whole s next es h)
