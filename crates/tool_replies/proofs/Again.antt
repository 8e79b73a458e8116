-- The events of a run that went on make the same run, without its halt.
use Rattle.std.proofs.Common.{◌≡◌, List, [], ◌∷◌, map, refl, ap, ◌∙◌}
use Rattle.spec_run.specs.declared.event.Event.{Event}
use Rattle.spec_run.specs.declared.outcome.Record.{Record}
use Rattle.spec_run.specs.Setup.{Setup}
use Rattle.spec_run.specs.World.{World}
use Rattle.spec_run.specs.Pending.{Answer, Went, Halted}
use Rattle.spec_run.specs.Event.{Passed, Progress, goes_on, played_from, played, opening_world, event}
use Rattle.spec_run.specs.Translation.{Turn, turns_from, world_after, opening_configuration, translated, last_or, last_configuration}
use Rattle.tool_replies.specs.Going.{record_passed}

-- the events that went on
abbrev pub events_passed : List Passed → List Event
events_passed ps = map (λ p. p.event) ps

-- an event and those after it, where the later ones make the same run again
again_on : (s : Setup) (w : World) (e : Event) (a : Answer) (later : World → Progress) → event s w e ≡ a
    → ((next : World) → (played_from s next (events_passed (later next).passed)).passed ≡ (later next).passed)
    → (played_from s w (events_passed (goes_on e a later).passed)).passed ≡ (goes_on e a later).passed
again_on s w e (Halted halt) later same h = refl
again_on s w e (Went d next) later same h =
    ap (λ (a : Answer). (goes_on e a (λ n. played_from s n (events_passed (later next).passed))).passed) same
    ∙ ap (λ (ps : List Passed). record { event = e; pending = d; world = next } ∷ ps) (h next)

pub passed_again : (s : Setup) (w : World) (es : List Event) → (played_from s w (events_passed (played_from s w es).passed)).passed
    ≡ (played_from s w es).passed
passed_again s w [] = refl
passed_again s w (e ∷ es) = again_on s w e (event s w e) (λ next. played_from s next es) refl (λ next. passed_again s next es)

-- the turns of a course, by the events that went on
abbrev turns_by : Setup → List Passed → List Turn
turns_by s ps = turns_from s (world_after (opening_world s) ps).posted (opening_configuration s) (opening_world s) ps

events_recorded : (ps : List Passed) → map (λ (r : Record). r.event) (map record_passed ps) ≡ events_passed ps
events_recorded [] = refl
events_recorded (p ∷ ps) = ap (λ (es : List Event). p.event ∷ es) (events_recorded ps)

module _ (s : Setup) (es : List Event) (rs : List Record) (e : rs ≡ map record_passed (played s es).passed) where
  abbrev pub events_in : List Event
  events_in = map (λ r. r.event) rs

  same_passed : (played s events_in).passed ≡ (played s es).passed
  same_passed =
      ap (λ (xs : List Event). (played s xs).passed) (ap (λ (x : List Record). map (λ (r : Record). r.event) x) e ∙ events_recorded (played s es).passed)
      ∙ passed_again s (opening_world s) es

  -- the steps of the recorded events are those of the run
  pub same_steps : translated s events_in ≡ translated s es
  same_steps = ap (λ (ps : List Passed). map (λ (t : Turn). t.steps) (turns_by s ps)) same_passed

  -- and so is the last configuration
  pub same_configuration : last_configuration s events_in ≡ last_configuration s es
  same_configuration = ap (λ (ps : List Passed). last_or (opening_configuration s) (map (λ (t : Turn). t.configuration) (turns_by s ps))) same_passed
