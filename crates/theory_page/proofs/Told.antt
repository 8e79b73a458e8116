-- Equal lines are of equal events with equal outcomes, since the printed text of a run can be read.
use Rattle.std.proofs.Common.{◌≡◌, ℕ, List, [], ◌∷◌, ◌++◌, map, Option, Some, None, refl, sym, ap, ◌∙◌, append_assoc, append-nil, lit<}
use Rattle.std.specs.Prelude.{codes}
use Rattle.std.specs.Fmt.{decimal}
use Rattle.spec_run.specs.declared.event.Event.{Event}
use Rattle.spec_run.specs.declared.outcome.Outcome.{Outcome}
use Rattle.spec_run.specs.Translation.{Turn}
use Rattle.spec_text.specs.RunText.{newline, event_text}
use Rattle.spec_text.specs.OutcomeText.{outcome_text}
use Rattle.spec_text.specs.Lines.{lines_of}
use Rattle.theory_text.proofs.Lines.LineBytes.{lined}
use Rattle.spec_text.specs.Words.{all_of}
use Rattle.theory_play_text.specs.Lines.{Said, said_by}
use Rattle.theory_play_text.specs.Lines as line
use Rattle.theory_play_text.proofs.Texts.{said_line}
use Rattle.theory_play_text.proofs.LinesRead.{text_back}
use Rattle.spec_page.specs.Folds.{turn_line}
use Rattle.theory_page.specs.Tells.{LinesTellTurns}

-- ---- the lines of a turn, as those of a report

abbrev said_of : Turn → List Said
said_of t = line.event 0 t.event ∷ line.outcome t.outcome ∷ []

in_one : (a b c e o n : List ℕ) → ((a ++ (b ++ (c ++ e))) ++ n) ++ ((o ++ n) ++ []) ≡ a ++ (b ++ (c ++ ((e ++ (n ++ o)) ++ n)))
in_one a b c e o n = simp (append_assoc, append-nil) refl

text_is : (t : Turn) → lined (map said_line (said_of t)) ≡ codes "event " ++ (decimal 0 ++ (codes " " ++ (turn_line t ++ newline)))
text_is t = in_one (codes "event ") (decimal 0) (codes " ") (event_text t.event) (outcome_text t.outcome) newline

same_text : (t u : Turn) → turn_line t ≡ turn_line u → lined (map said_line (said_of t)) ≡ lined (map said_line (said_of u))
same_text t u e =
    text_is t ∙ (ap (λ (xs : List ℕ). codes "event " ++ (decimal 0 ++ (codes " " ++ (xs ++ newline)))) e ∙ sym (text_is u))

-- ---- what they say

event_in : Event → Option (List Said) → Event
event_in e None = e
event_in e (Some []) = e
event_in e (Some (line.event i f ∷ ls)) = f
event_in e (Some (_ ∷ ls)) = e

outcome_in : Outcome → Option (List Said) → Outcome
outcome_in o None = o
outcome_in o (Some []) = o
outcome_in o (Some (_ ∷ [])) = o
outcome_in o (Some (_ ∷ line.outcome p ∷ ls)) = p
outcome_in o (Some (_ ∷ _ ∷ ls)) = o

pub lines_tell_turns : LinesTellTurns
unfolding event_in outcome_in
lines_tell_turns parties t u h k e =
    let here = text_back parties (said_of t) ((lit< tt, h.event), (h.outcome, tt)) in
    let there = text_back parties (said_of u) ((lit< tt, k.event), (k.outcome, tt)) in
    let same : Some (said_of t) ≡ Some (said_of u) =
    sym here ∙ (ap (λ (xs : List ℕ). all_of (said_by parties) (lines_of xs)) (same_text t u e) ∙ there) in
    (ap (event_in t.event) same, ap (outcome_in t.outcome) same)
