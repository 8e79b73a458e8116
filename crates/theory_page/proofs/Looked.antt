-- Each row looks as its last event came out.
use Rattle.std.proofs.Common.{◌≡◌, ℕ, zero, suc, ◌+◌, ◌-◌, List, [], ◌∷◌, ◌++◌, take, length, map, Bool, true, false, Option, Some, None, refl, sym, ap, subst, ◌∙◌}
use Rattle.std.proofs.Common.{append_assoc, inl, inr}
use Rattle.std.specs.Prelude.{if◌then◌else◌, nat_le, ◌⊎◌}
use Rattle.std.specs.List.{AllByRecursion}
use Rattle.spec_run.specs.declared.event.Event.{Event}
use Rattle.spec_run.specs.declared.outcome.Outcome.{Outcome}
use Rattle.spec_run.specs.declared.outcome.Outcome.TheVariants as outcomes
use Rattle.spec_run.specs.Pending.{Halt}
use Rattle.spec_run.specs.Event.{opening_collision}
use Rattle.spec_run.specs.Setup.{Setup}
use Rattle.spec_run.specs.Translation.{Course, Turn, course, last_or}
use Rattle.spec_page.specs.Moments.{Moment, first_moment, after_turn}
use Rattle.spec_page.specs.Folds.{Fold, may_share, longer, fold_of, folded_from, folded}
use Rattle.spec_page.specs.Stops.{Stop, fold_stop, fold_look, look_by, brings_blocks, shown_folds, count_refused, held_in, is_refusal, last_moment, most_rows}
use Rattle.spec_page.specs.Stops.{more_stops, halt_stops, stops_in, stops_from, thinned, with_room}
use Rattle.theory_page.proofs.Left.{taken_all, next_length}
use Rattle.theory_page.specs.Outcomes.{LooksAs, IsOfEvents, IsOfNone, RowsLookSo}

-- ---- the last event of a fold

last_of_more : (t : Turn) (us : List Turn) (u : Turn) → last_or t (us ++ u ∷ []) ≡ u
last_of_more t [] u = refl
last_of_more t (x ∷ xs) u = last_of_more x xs u

-- the events up to the fold's number end with its last one
record EndsAt (ts : List Turn) (f : Fold) : Type 0 where
  before : List Turn
  up_to : take f.last ts ≡ before ++ last_or f.turn f.others ∷ []

abbrev AllEnd : List Turn → List Fold → Type 0
AllEnd ts fs = AllByRecursion (EndsAt ts) fs

ends_by : (done rest before : List Turn) (f : Fold) → length done ≡ f.last → done ≡ before ++ last_or f.turn f.others ∷ [] → EndsAt (done ++ rest) f
ends_by done rest before f e h = record {
  before = before;
  up_to = ap (λ (n : ℕ). take n (done ++ rest)) (sym e) ∙ (taken_all done rest ∙ h);
}

from_ends : (m : Moment) (done before : List Turn) (f : Fold) (ts : List Turn) → length done ≡ f.last
    → done ≡ before ++ last_or f.turn f.others ∷ [] → AllEnd (done ++ ts) (folded_from f ts)
from_ends m done before f [] e h = (ends_by done [] before f e h, tt)
from_ends m done before f (t ∷ ts) e h =
    by_share (may_share f.turn t)
    (along (longer f t (after_turn f.moment t))
    (from_ends m (done ++ t ∷ []) done (longer f t (after_turn f.moment t)) ts (next_length m done t f.last e)
    (ap (λ (x : Turn). done ++ x ∷ []) (sym (last_of_more f.turn f.others t)))))
    (along (fold_of (f.last + 1) t (after_turn f.moment t))
    (from_ends m (done ++ t ∷ []) done (fold_of (f.last + 1) t (after_turn f.moment t)) ts (next_length m done t f.last e) refl))
  where
    along : (g : Fold) → AllEnd ((done ++ t ∷ []) ++ ts) (folded_from g ts) → AllEnd (done ++ t ∷ ts) (folded_from g ts)
    along g k = subst (λ (all : List Turn). AllEnd all (folded_from g ts)) (append_assoc done (t ∷ []) ts) k

    by_share : (share : Bool) → AllEnd (done ++ t ∷ ts) (folded_from (longer f t (after_turn f.moment t)) ts)
        → AllEnd (done ++ t ∷ ts) (folded_from (fold_of (f.last + 1) t (after_turn f.moment t)) ts)
        → AllEnd (done ++ t ∷ ts)
        (if share then folded_from (longer f t (after_turn f.moment t)) ts
        else f ∷ folded_from (fold_of (f.last + 1) t (after_turn f.moment t)) ts)
    by_share true a b = a
    by_share false a b = (ends_by done (t ∷ ts) before f e h, b)

all_end : (m : Moment) (ts : List Turn) → AllEnd ts (folded m ts)
all_end m [] = tt
all_end m (t ∷ ts) = from_ends m (t ∷ []) [] (fold_of 1 t (after_turn m t)) ts refl refl

-- ---- those that are shown

module _ (all : List Turn) where
  room_ends : (n : ℕ) (f : Fold) (fs : List Fold) → EndsAt all f → AllEnd all fs → AllEnd all (with_room n f fs)
  room_ends zero f fs h k = k
  room_ends (suc n) f fs h k = (h, k)

  thinned_end : (r o : ℕ) (fs : List Fold) → AllEnd all fs → AllEnd all (thinned r o fs)
  thinned_end r o [] h = tt
  thinned_end r o (f ∷ fs) h =
      by_look (is_refusal (fold_look f)) (room_ends r f (thinned (r - 1) o fs) h.0 (thinned_end (r - 1) o fs h.1))
      (room_ends o f (thinned r (o - 1) fs) h.0 (thinned_end r (o - 1) fs h.1))
    where
      by_look : (refused : Bool) → AllEnd all (with_room r f (thinned (r - 1) o fs)) → AllEnd all (with_room o f (thinned r (o - 1) fs))
          → AllEnd all (if refused then with_room r f (thinned (r - 1) o fs) else with_room o f (thinned r (o - 1) fs))
      by_look true a b = a
      by_look false a b = b

  shown_end : (fs : List Fold) → AllEnd all fs → AllEnd all (shown_folds fs)
  shown_end fs h = by_size (nat_le (length fs) most_rows) (most_rows - (length fs - count_refused fs))
    where
      by_size : (small : Bool) (r : ℕ) → AllEnd all (if small then fs else thinned r most_rows fs)
      by_size true r = h
      by_size false r = thinned_end r most_rows fs h

-- ---- looks

looks_as : (blocks : Bool) (o : Outcome) → LooksAs o (look_by blocks o)
looks_as blocks (outcomes.Refused reason) = refl
looks_as blocks (outcomes.Accepted spent made lock) = refl
looks_as true outcomes.Done = inl refl
looks_as false outcomes.Done = inr refl

module _ (s : Setup) (all : List Turn) where
  abbrev IsSo : Stop → Type 0
  IsSo st = IsOfEvents all st.row ⊎ IsOfNone st.row.look

  abbrev AllSo : List Stop → Type 0
  AllSo sts = AllByRecursion IsSo sts

  both_so : (xs ys : List Stop) → AllSo xs → AllSo ys → AllSo (xs ++ ys)
  both_so [] ys h k = k
  both_so (x ∷ xs) ys h k = (h.0, both_so xs ys h.1 k)

  fold_so : (f : Fold) → EndsAt all f → IsOfEvents all (fold_stop s f).row
  fold_so f h = record {
    turn = last_or f.turn f.others;
    before = h.before;
    up_to = h.up_to;
    look = looks_as (brings_blocks f.turn.event) (last_or f.turn f.others).outcome;
  }

  folds_so : (fs : List Fold) → AllEnd all fs → AllSo (map (fold_stop s) fs)
  folds_so [] h = tt
  folds_so (f ∷ fs) h = (inl (fold_so f h.0), folds_so fs h.1)

  more_so : (number left : ℕ) (m : Moment) → AllSo (more_stops s number left m)
  more_so number zero m = tt
  more_so number (suc n) m = (inr (inr (inr refl)), tt)

  halt_so : (number : ℕ) (halt : Option (Event × Halt)) (m : Moment) → AllSo (halt_stops s number halt m)
  halt_so number None m = tt
  halt_so number (Some x) m = (inr (inr (inl refl)), tt)

module _ (s : Setup) where
  course_so : (c : Course) → AllSo s c.turns (stops_in s c)
  course_so c =
      let first = first_moment s in
      let fs = shown_folds (folded first c.turns) in
      let end = last_moment first c.turns in (
        inr (inl refl),
        both_so s c.turns (map (fold_stop s) fs) _ (folds_so s c.turns fs (shown_end c.turns (folded first c.turns) (all_end first c.turns)))
            (both_so s c.turns (more_stops s (length c.turns) (length c.turns - held_in fs) end) _
            (more_so s c.turns (length c.turns) (length c.turns - held_in fs) end) (halt_so s c.turns (length c.turns + 1) c.halt end)),
      )

  stops_so : (collided : Option (List ℕ × List ℕ)) (c : Course) → AllSo s c.turns (stops_from s collided c)
  stops_so (Some pair) c = (inr (inl refl), (inr (inr (inl refl)), tt))
  stops_so None c = course_so c

pub rows_look_so : RowsLookSo
rows_look_so s es = stops_so s (opening_collision s) (course s es)
