-- What the lines of a row tell: the event that they are of, and what it came to.
use Rattle.std.specs.Prelude.{◌≡◌, ℕ, List}
use Rattle.spec_run.specs.Translation.{Turn}
use Rattle.spec_page.specs.Folds.{turn_line}
use Rattle.theory_play_text.specs.Printable.{IsSpelledEvent, IsOutcome}

-- an event of a run file with these parties, and an outcome of numbers within eight bytes and of names as contract text may have them
pub record IsTold (parties : List (List ℕ)) (t : Turn) : Type 0 where
  pub event : IsSpelledEvent parties t.event
  pub outcome : IsOutcome t.outcome

-- equal lines are of equal events with equal outcomes
abbrev pub LinesTellTurns : Type 0
LinesTellTurns =
    (parties : List (List ℕ)) (t u : Turn) → IsTold parties t → IsTold parties u → turn_line t ≡ turn_line u
    → (t.event ≡ u.event) × (t.outcome ≡ u.outcome)
