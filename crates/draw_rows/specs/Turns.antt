-- The rows of a run by the entries of its events: each with what it came to and its steps.
use Rattle.std.specs.Prelude.{ℕ, ◌+◌, ◌-◌, List, [], ◌∷◌, ◌++◌, map, length, nat_le, Option, None, if◌then◌else◌}
use Rattle.spec_calculus.specs.Configuration.{Configuration}
use Rattle.spec_calculus.specs.Steps.{after_steps}
use Rattle.spec_run.specs.declared.event.Event.{Event}
use Rattle.spec_run.specs.Pending.{Halt}
use Rattle.spec_run.specs.Setup.{Setup}
use Rattle.spec_run.specs.Translation.{Turn}
use Rattle.spec_run.specs.World.{World}
use Rattle.spec_text.specs.declared.entry.Entry.{Entry}
use Rattle.spec_page.specs.declared.event_row.EventRow.{EventRow}
use Rattle.spec_page.specs.Moments.{Moment, first_moment, after_steps_to}
use Rattle.spec_page.specs.Folds.{Fold, may_share, fold_of, longer}
use Rattle.spec_page.specs.Stops.{most_rows, is_refusal, first_stop, fold_stop, more_stops, halt_stops}

-- ---- turns

-- what rows don't read of a turn
abbrev pub no_configuration : Configuration
no_configuration = record {
  time = 0;
  next = 0;
  deposits = [];
  active = [];
  advertised = [];
  committed = [];
  revealed = [];
  init_authorised = [];
  branch_authorised = [];
  move_authorised = [];
  parties = [];
  honest = [];
  contracts = [];
}

abbrev pub no_world : World
no_world = record { tip = 0; outputs = []; book = []; posted = []; advertised = []; promises = []; begun = []; hashed = [] }

-- the turn of an entry, as far as rows read it
abbrev pub turn_of : Entry → Turn
turn_of e = record {
  event = e.event;
  outcome = e.outcome;
  tx = None;
  steps = e.steps;
  configuration = no_configuration;
  world = no_world;
}

-- what an entry leaves
abbrev pub after_entry : Moment → Entry → Moment
after_entry m e = after_steps_to m e.steps (after_steps m.configuration e.steps)

abbrev pub after_entries : Moment → List Entry → Moment
after_entries m [] = m
after_entries m (e ∷ es) = after_entries (after_entry m e) es

-- ---- folds

-- the folds of these entries behind a fold so far
abbrev pub folds_from : Fold → List Entry → List Fold
folds_from f [] = f ∷ []
folds_from f (e ∷ es) =
    if may_share f.turn (turn_of e) then folds_from (longer f (turn_of e) (after_entry f.moment e)) es
    else f ∷ folds_from (fold_of (f.last + 1) (turn_of e) (after_entry f.moment e)) es

-- the fold behind one event more, and the row of what ends with it
unfoldable pub went : Fold → Entry → Fold
went f e =
    if may_share f.turn (turn_of e) then longer f (turn_of e) (after_entry f.moment e)
    else fold_of (f.last + 1) (turn_of e) (after_entry f.moment e)

abbrev pub folds_of : Moment → List Entry → List Fold
folds_of m [] = []
folds_of m (e ∷ es) = folds_from (fold_of 1 (turn_of e) (after_entry m e)) es

abbrev pub fold_row : Setup → Fold → EventRow
fold_row s f = (fold_stop s f).row

unfoldable pub pushed : Setup → Fold → Entry → List EventRow
pushed s f e = if may_share f.turn (turn_of e) then [] else (fold_row s f ∷ [])

-- ---- at most so many rows

abbrev pub count_refused : List EventRow → ℕ
count_refused [] = 0
count_refused (r ∷ rs) = (if is_refusal r.look then 1 else 0) + count_refused rs

-- a row with those behind it, if there is room
abbrev pub row_with_room : ℕ → EventRow → List EventRow → List EventRow
row_with_room n r rs = if nat_le 1 n then r ∷ rs else rs

-- the first so many that are refused, and the first so many others
abbrev pub thinned : ℕ → ℕ → List EventRow → List EventRow
thinned refused others [] = []
thinned refused others (r ∷ rs) =
    if is_refusal r.look then row_with_room refused r (thinned (refused - 1) others rs)
    else row_with_room others r (thinned refused (others - 1) rs)

abbrev pub shown_rows : List EventRow → List EventRow
shown_rows rs =
    if nat_le (length rs) most_rows then rs
    else thinned (most_rows - (length rs - count_refused rs)) most_rows rs

-- how many events these rows hold
abbrev pub held_in : List EventRow → ℕ
held_in [] = 0
held_in (r ∷ rs) = (r.last - r.first + 1) + held_in rs

-- ---- all rows

-- behind these rows of so many events the rest, at the moment of the end
abbrev pub ended : Setup → ℕ → Option (Event × Halt) → Moment → List EventRow → List EventRow
ended s count halt end rows =
    rows
    ++ (map (λ st. st.row) (more_stops s count (count - held_in rows) end)
    ++ map (λ st. st.row) (halt_stops s (count + 1) halt end))

abbrev pub rows_by : Setup → List Entry → Option (Event × Halt) → List EventRow
rows_by s es halt =
    (first_stop s).row
    ∷ ended s (length es) halt (after_entries (first_moment s) es) (shown_rows (map (fold_row s) (folds_of (first_moment s) es)))
