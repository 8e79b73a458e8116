-- The rows of a run, each with what its events left: the deposits, then the events, at most 400 rows of them, then how many events are left
-- out, and what halted the run.
use Rattle.std.specs.Prelude.{ℕ, ◌+◌, ◌-◌, zero, suc, nat_le, List, [], ◌∷◌, ◌++◌, map, length, Bool, true, false, ◌==◌, if◌then◌else◌}
use Rattle.std.specs.Prelude.{Option, Some, None, codes}
use Rattle.spec_terms.specs.Parties.{add_all}
use Rattle.spec_run.specs.declared.event.Event.{Event}
use Rattle.spec_run.specs.declared.event.Event.TheVariants as events
use Rattle.spec_run.specs.declared.outcome.Outcome.{Outcome}
use Rattle.spec_run.specs.declared.outcome.Outcome.TheVariants as outcomes
use Rattle.spec_run.specs.Setup.{Setup}
use Rattle.spec_run.specs.Pending.{Halt, Collided, Guessed}
use Rattle.spec_run.specs.Event.{opening_collision}
use Rattle.spec_run.specs.Translation.{Turn, Course, last_or, course}
use Rattle.spec_text.specs.Canonical.{joined}
use Rattle.spec_text.specs.RunText.{newline, event_text}
use Rattle.spec_page.specs.declared.event_row.EventRow.{EventRow}
use Rattle.spec_page.specs.declared.event_row.Look.{Look}
use Rattle.spec_page.specs.declared.event_row.Look.TheVariants as looks
use Rattle.spec_page.specs.Figures.{sum_text}
use Rattle.spec_page.specs.Moments.{Moment, first_moment, after_turn}
use Rattle.spec_page.specs.Statuses.{looks_from}
use Rattle.spec_page.specs.Balances.{money_at}
use Rattle.spec_page.specs.Outlooks.{stop_outlook}
use Rattle.spec_page.specs.ReasonWords.{refused_text}
use Rattle.spec_page.specs.EventWords.{are_several, contract_text, event_words, actor}
use Rattle.spec_page.specs.Folds.{Fold, is_plain, turn_line, folded}

-- a row, and what there was behind it
pub record Stop : Type 0 where
  pub row : EventRow
  pub moment : Moment

-- ---- words of a fold

-- a step of a contract's beginning
abbrev pub step_word : Event → List ℕ
step_word (events.Advertise k bs) = codes "advertise"
step_word (events.Commit k a ds) = codes "commit"
step_word (events.Endorse k a) = codes "endorse"
step_word (events.Init k a) = codes "init"
step_word (events.FireInit k) = codes "fire init"
step_word (events.Authorise a n i) = []
step_word (events.Reveal k a s) = []
step_word (events.Post bytes) = []
step_word (events.Sign b l d) = []
step_word (events.Give a inputs outputs) = []
step_word (events.Append bytes) = []
step_word (events.Fire n i) = []
step_word (events.Mine n) = []

-- the contract's number before it, where there are several
abbrev pub step_text : Bool → Event → List ℕ
step_text several (events.Advertise k bs) = contract_text several k
step_text several (events.Commit k a ds) = contract_text several k
step_text several (events.Endorse k a) = contract_text several k
step_text several (events.Init k a) = contract_text several k
step_text several (events.FireInit k) = contract_text several k
step_text several (events.Authorise a n i) = []
step_text several (events.Reveal k a s) = []
step_text several (events.Post bytes) = []
step_text several (events.Sign b l d) = []
step_text several (events.Give a inputs outputs) = []
step_text several (events.Append bytes) = []
step_text several (events.Fire n i) = []
step_text several (events.Mine n) = []

-- the steps of a beginning, each kind once
abbrev pub steps_words : Bool → List Turn → Event → List ℕ
steps_words several turns first =
    step_text several first ++ joined (codes ", ") (add_all [] (map (λ t. step_word t.event) turns))

abbrev pub turn_words : Bool → Moment → Turn → List ℕ
turn_words several m t = event_words several m.places t.steps t.event

abbrev pub words_by : Bool → Bool → Fold → List ℕ
words_by several true f = turn_words several f.moment f.turn
words_by several false f = steps_words several (f.turn ∷ f.others) f.turn.event

abbrev pub fold_words : Bool → Fold → List ℕ
fold_words several f = words_by several (is_plain f) f

-- the lines of its events, one where all are equal
abbrev pub lines_by : Bool → Fold → List ℕ
lines_by true f = turn_line f.turn
lines_by false f = joined newline (map turn_line (f.turn ∷ f.others))

abbrev pub fold_lines : Fold → List ℕ
fold_lines f = lines_by (is_plain f) f

abbrev pub actor_by : Bool → Turn → Option (List ℕ)
actor_by true t = actor t.steps t.event
actor_by false t = None

-- ---- looks

abbrev pub brings_blocks : Event → Bool
brings_blocks (events.Mine n) = true
brings_blocks (events.Advertise k bs) = false
brings_blocks (events.Commit k a ds) = false
brings_blocks (events.Endorse k a) = false
brings_blocks (events.Init k a) = false
brings_blocks (events.Authorise a n i) = false
brings_blocks (events.Reveal k a s) = false
brings_blocks (events.Post bytes) = false
brings_blocks (events.Sign b l d) = false
brings_blocks (events.Give a inputs outputs) = false
brings_blocks (events.Append bytes) = false
brings_blocks (events.FireInit k) = false
brings_blocks (events.Fire n i) = false

-- by whether blocks come, and the last outcome
abbrev pub look_by : Bool → Outcome → Look
look_by blocks (outcomes.Refused reason) = looks.Refused
look_by blocks (outcomes.Accepted spent made lock) = looks.Accepted
look_by true outcomes.Done = looks.Blocks
look_by false outcomes.Done = looks.Done

abbrev pub fold_look : Fold → Look
fold_look f = look_by (brings_blocks f.turn.event) (last_or f.turn f.others).outcome

abbrev pub height_text : ℕ → List ℕ
height_text height = codes "height " ++ sum_text height

abbrev pub note_by : Bool → ℕ → Outcome → List ℕ
note_by blocks height (outcomes.Refused reason) = refused_text reason
note_by blocks height (outcomes.Accepted spent made lock) = []
note_by true height outcomes.Done = height_text height
note_by false height outcomes.Done = []

-- ---- stops

-- a row of what these words say, after which the run stands at this moment
abbrev pub stop : Setup → ℕ → ℕ → Look → List ℕ → List ℕ → List ℕ → Option (List ℕ) → Moment → Stop
stop s first last look words note lines who m = record {
  row = record {
    first = first;
    last = last;
    look = look;
    words = words;
    note = note;
    lines = lines;
    actor = who;
    height = m.configuration.time;
    money = money_at s m.configuration;
    looks = looks_from m 0 s.contracts;
    outlook = stop_outlook s m look;
  };
  moment = m;
}

abbrev pub fold_stop : Setup → Fold → Stop
fold_stop s f =
    stop s f.first f.last (fold_look f) (fold_words (are_several s) f)
    (note_by (brings_blocks f.turn.event) f.moment.configuration.time f.turn.outcome)
    (fold_lines f) (actor_by (is_plain f) f.turn) f.moment

abbrev pub first_stop : Setup → Stop
first_stop s = stop s 0 0 looks.Start (codes "the deposits") [] [] None (first_moment s)

-- ---- at most so many

abbrev pub most_rows : ℕ
most_rows = 400

abbrev pub is_refusal : Look → Bool
is_refusal looks.Refused = true
is_refusal looks.Start = false
is_refusal looks.Blocks = false
is_refusal looks.Done = false
is_refusal looks.Accepted = false
is_refusal looks.More = false
is_refusal looks.Halt = false

-- the folds that aren't refused, and those that are
abbrev pub count_refused : List Fold → ℕ
count_refused [] = 0
count_refused (f ∷ fs) = (if is_refusal (fold_look f) then 1 else 0) + count_refused fs

-- a fold with those behind it, if there is room
abbrev pub with_room : ℕ → Fold → List Fold → List Fold
with_room zero f fs = fs
with_room (suc n) f fs = f ∷ fs

-- the first so many that are refused, and the first so many others
abbrev pub thinned : ℕ → ℕ → List Fold → List Fold
thinned refused others [] = []
thinned refused others (f ∷ fs) =
    if is_refusal (fold_look f) then with_room refused f (thinned (refused - 1) others fs)
    else with_room others f (thinned refused (others - 1) fs)

-- all where they are few enough; else the refused ones go first
abbrev pub shown_folds : List Fold → List Fold
shown_folds fs =
    if nat_le (length fs) most_rows then fs
    else thinned (most_rows - (length fs - count_refused fs)) most_rows fs

-- how many events these folds hold
abbrev pub held_in : List Fold → ℕ
held_in [] = 0
held_in (f ∷ fs) = (f.last - f.first + 1) + held_in fs

-- ---- the end

-- what the events left
abbrev pub last_moment : Moment → List Turn → Moment
last_moment m [] = m
last_moment m (t ∷ ts) = last_moment (after_turn m t) ts

abbrev pub more_text : ℕ → List ℕ
more_text n = codes "and " ++ (sum_text n ++ (if n == 1 then codes " event more" else codes " events more"))

abbrev pub more_stops : Setup → ℕ → ℕ → Moment → List Stop
more_stops s number zero m = []
more_stops s number (suc n) m = stop s number number looks.More (more_text (suc n)) [] [] None m ∷ []

abbrev pub halt_text : Halt → List ℕ
halt_text (Guessed party secret) = codes "guesses secret " ++ (secret ++ (codes " of " ++ party))
halt_text (Collided earlier later) = codes "two strings have one digest"

abbrev pub halt_stops : Setup → ℕ → Option (Event × Halt) → Moment → List Stop
halt_stops s number None m = []
halt_stops s number (Some h) m =
    stop s number number looks.Halt (event_words (are_several s) m.places [] (h.0)) (halt_text (h.1)) (event_text (h.0)) (actor [] (h.0)) m ∷ []

-- ---- all

-- the stops of these turns with this halt
abbrev pub stops_by : Setup → List Turn → Option (Event × Halt) → List Fold → Moment → List Stop
stops_by s turns halt fs end =
    first_stop s
    ∷ (map (fold_stop s) fs
    ++ (more_stops s (length turns) (length turns - held_in fs) end
    ++ halt_stops s (length turns + 1) halt end))

abbrev pub stops_in : Setup → Course → List Stop
stops_in s c =
    stops_by s c.turns c.halt (shown_folds (folded (first_moment s) c.turns)) (last_moment (first_moment s) c.turns)

-- an opening that collides has no events
abbrev pub stops_from : Setup → Option (List ℕ × List ℕ) → Course → List Stop
stops_from s (Some pair) c =
    first_stop s ∷ stop s 1 1 looks.Halt (codes "the opening") (codes "two strings have one digest") [] None (first_moment s) ∷ []
stops_from s None c = stops_in s c

-- the stops of a run
abbrev pub stops : Setup → List Event → List Stop
stops s es = stops_from s (opening_collision s) (course s es)

abbrev pub rows_of : List Stop → List EventRow
rows_of sts = map (λ st. st.row) sts
