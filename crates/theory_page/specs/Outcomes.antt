-- How the rows of a run look, by what their last events came to.
use Rattle.std.specs.Prelude.{◌≡◌, take, List, [], ◌∷◌, ◌++◌, ◌⊎◌}
use Rattle.std.specs.List.{AllByRecursion}
use Rattle.spec_run.specs.declared.event.Event.{Event}
use Rattle.spec_run.specs.declared.outcome.Outcome.{Outcome}
use Rattle.spec_run.specs.declared.outcome.Outcome.TheVariants as outcomes
use Rattle.spec_run.specs.Setup.{Setup}
use Rattle.spec_run.specs.Translation.{Turn, course}
use Rattle.spec_page.specs.declared.event_row.EventRow.{EventRow}
use Rattle.spec_page.specs.declared.event_row.Look.{Look}
use Rattle.spec_page.specs.declared.event_row.Look.TheVariants as looks
use Rattle.spec_page.specs.Stops.{stops}

-- what was refused looks so, and nothing else does; so does what a ledger accepted
abbrev pub LooksAs : Outcome → Look → Type 0
LooksAs (outcomes.Refused reason) look = look ≡ looks.Refused
LooksAs (outcomes.Accepted spent made lock) look = look ≡ looks.Accepted
LooksAs outcomes.Done look = (look ≡ looks.Blocks) ⊎ (look ≡ looks.Done)

-- the row is of events, and looks as the last of those up to its number came out
pub record IsOfEvents (ts : List Turn) (r : EventRow) : Type 0 where
  pub turn : Turn
  pub before : List Turn
  pub up_to : take r.last ts ≡ before ++ turn ∷ []
  pub look : LooksAs turn.outcome r.look

-- the deposits, a halt, or what is left out
abbrev pub IsOfNone : Look → Type 0
IsOfNone look = (look ≡ looks.Start) ⊎ ((look ≡ looks.Halt) ⊎ (look ≡ looks.More))

abbrev pub RowsLookSo : Type 0
RowsLookSo =
    (s : Setup) (es : List Event) → AllByRecursion (λ st. IsOfEvents ((course s es).turns) st.row ⊎ IsOfNone st.row.look) (stops s es)
