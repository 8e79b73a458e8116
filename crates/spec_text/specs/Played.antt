-- The text of a played run, by its setup and its events.
use Rattle.std.specs.Prelude.{ℕ, ◌+◌, List, [], ◌∷◌, map, Bool, true, false, Option, Some, None}
use Rattle.spec_calculus.specs.Configuration.{Configuration}
use Rattle.spec_run.specs.declared.event.Event.{Event}
use Rattle.spec_run.specs.Setup.{Setup}
use Rattle.spec_run.specs.World.{World, Output}
use Rattle.spec_run.specs.Pending.{Halt, Collided, Guessed}
use Rattle.spec_run.specs.Event.{opening_collision}
use Rattle.spec_run.specs.Translation.{Turn, Course, course, end_world, end_configuration}
use Rattle.spec_run.specs.Offers.{offers}
use Rattle.spec_text.specs.declared.entry.Entry.{Entry}
use Rattle.spec_text.specs.PlayText.{Ending, whole, guessed, collided, report_text}

-- ---- the entries

abbrev pub entry_of : Turn → Entry
entry_of t = record { event = t.event; outcome = t.outcome; steps = t.steps }

-- what is shown of each event up to the first halt
abbrev pub entries_in : Course → List Entry
entries_in c = map entry_of c.turns

abbrev pub entries : Setup → List Event → List Entry
entries s es = entries_in (course s es)

-- ---- how the run ends

abbrev pub onto_live : Bool → ℕ → ℕ → List (ℕ × ℕ) → List (ℕ × ℕ)
onto_live true number value later = (number, value) ∷ later
onto_live false number value later = later

-- the live outputs with their values, the numbers from n on
abbrev pub live_from : ℕ → List Output → List (ℕ × ℕ)
live_from n [] = []
live_from n (o ∷ os) = onto_live o.live n o.value (live_from (n + 1) os)

abbrev pub live_outputs : World → List (ℕ × ℕ)
live_outputs w = live_from 0 w.outputs

abbrev pub end_of : World → Configuration → Ending
end_of w g = whole w.tip (live_outputs w) g (map (λ o. o.event) (offers g))

abbrev pub halted : Event → Halt → Ending
halted event (Collided earlier later) = collided (Some event) earlier later
halted event (Guessed party secret) = guessed event party secret

abbrev pub ending_by : World → Configuration → Option (Event × Halt) → Ending
ending_by w g None = end_of w g
ending_by w g (Some h) = halted (h.0) (h.1)

abbrev pub ending_from : World → Configuration → Option (List ℕ × List ℕ) → Option (Event × Halt) → Ending
ending_from w g (Some p) halt = collided None (p.0) (p.1)
ending_from w g None halt = ending_by w g halt

-- how a course ends
abbrev pub ending_in : Setup → Course → Ending
ending_in s c = ending_from (end_world s c) (end_configuration s c) (opening_collision s) c.halt

abbrev pub ending : Setup → List Event → Ending
ending s es = ending_in s (course s es)

-- what `play` prints of a course
abbrev pub course_text : Setup → Course → List ℕ
course_text s c = report_text s.header.deposits (entries_in c) (ending_in s c)

-- what `play` prints of a run
unfoldable pub play_text : Setup → List Event → List ℕ
play_text s es = course_text s (course s es)
