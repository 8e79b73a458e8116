-- Which events of a run share a row: those of one contract's beginning that are not refused, and those whose lines are equal.
use Rattle.std.specs.Prelude.{ℕ, ◌+◌, List, [], ◌∷◌, ◌++◌, Bool, false, not, ◌&&◌, ◌||◌, ◌==◌, Option, Some, None, if◌then◌else◌}
use Rattle.std.specs.List.{list_all}
use Rattle.std.specs.Str.{bytes_eq}
use Rattle.spec_run.specs.declared.event.Event.{Event}
use Rattle.spec_run.specs.declared.event.Event.TheVariants as events
use Rattle.spec_run.specs.Values.{is_refused}
use Rattle.spec_run.specs.Translation.{Turn}
use Rattle.spec_text.specs.OutcomeText.{outcome_text}
use Rattle.spec_text.specs.RunText.{newline, event_text}
use Rattle.spec_page.specs.Moments.{Moment, after_turn}

-- ---- which may

-- the contract that an event is a part of the beginning of, if it is one of its beginning
abbrev pub ceremony_of : Event → Option ℕ
ceremony_of (events.Advertise k bs) = Some k
ceremony_of (events.Commit k a ds) = Some k
ceremony_of (events.Endorse k a) = Some k
ceremony_of (events.Init k a) = Some k
ceremony_of (events.FireInit k) = Some k
ceremony_of (events.Authorise a n i) = None
ceremony_of (events.Reveal k a s) = None
ceremony_of (events.Post bytes) = None
ceremony_of (events.Sign b l d) = None
ceremony_of (events.Give a inputs outputs) = None
ceremony_of (events.Append bytes) = None
ceremony_of (events.Fire n i) = None
ceremony_of (events.Mine n) = None

abbrev pub is_one_contract : Option ℕ → Option ℕ → Bool
is_one_contract (Some k) (Some l) = k == l
is_one_contract (Some k) None = false
is_one_contract None other = false

-- whether both are of one contract's beginning, and neither is refused
abbrev pub are_of_one_beginning : Turn → Turn → Bool
are_of_one_beginning t u =
    is_one_contract (ceremony_of t.event) (ceremony_of u.event) && not (is_refused t.outcome) && not (is_refused u.outcome)

-- an event's line, and its outcome's
abbrev pub turn_line : Turn → List ℕ
turn_line t = event_text t.event ++ (newline ++ outcome_text t.outcome)

abbrev pub are_equal : Turn → Turn → Bool
are_equal t u = bytes_eq (turn_line t) (turn_line u)

abbrev pub may_share : Turn → Turn → Bool
may_share t u = are_of_one_beginning t u || are_equal t u

-- ---- folds

-- events in a row: the number of the first and of the last, the first, those behind it, and what they left
pub record Fold : Type 0 where
  pub first : ℕ
  pub last : ℕ
  pub turn : Turn
  pub others : List Turn
  pub moment : Moment

abbrev pub fold_of : ℕ → Turn → Moment → Fold
fold_of n t m = record { first = n; last = n; turn = t; others = []; moment = m }

-- a fold with the next event, which left this
abbrev pub longer : Fold → Turn → Moment → Fold
longer f t m = record { first = f.first; last = f.last + 1; turn = f.turn; others = f.others ++ t ∷ []; moment = m }

-- whether all events of a fold are equal
abbrev pub is_plain : Fold → Bool
is_plain f = list_all (λ t. are_equal f.turn t) f.others

-- the folds of these events behind a fold so far, the moments by what came before
abbrev pub folded_from : Fold → List Turn → List Fold
folded_from f [] = f ∷ []
folded_from f (t ∷ ts) =
    if may_share f.turn t then folded_from (longer f t (after_turn f.moment t)) ts
    else f ∷ folded_from (fold_of (f.last + 1) t (after_turn f.moment t)) ts

-- the folds of the events of a run, from this moment on
abbrev pub folded : Moment → List Turn → List Fold
folded m [] = []
folded m (t ∷ ts) = folded_from (fold_of 1 t (after_turn m t)) ts
