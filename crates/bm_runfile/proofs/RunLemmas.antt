-- The lines of the events, one by one.
use Rattle.std.proofs.Common.{◌≡◌, ℕ, ◌+◌, List, [], ◌∷◌, ◌++◌, length, Result, Ok, Err, refl, sym, ap, ◌∙◌, append_assoc, length-append}
use Rattle.spec_run.specs.declared.event.Event.{Event}
use Rattle.spec_text.specs.declared.run_fault.RunFault.{RunFault}
use Rattle.spec_text.specs.Lines.{lines_of}
use Rattle.spec_text.specs.RunFile.{Line, bad, over, empty, rule, says, with_event, counted, event_step, event_of_line, read_events}
use Rattle.bm_runfile.specs.Gives.{with_events, Added}

behind_event : (prefix : List Event) (event : Event) (later : Result (List Event) RunFault)
    → with_events prefix (with_event event later) ≡ with_events (prefix ++ event ∷ []) later
behind_event prefix event (Ok list) = ap Ok (sym (append_assoc prefix (event ∷ []) list))
behind_event prefix event (Err fault) = refl

added_count : (old new : List Event) (line : Line Event) → Added old new line → counted (length old) line ≡ length new
added_count old new empty h = ap length (sym h)
added_count old new (says event) h = sym (ap length h ∙ (length-append old (event ∷ [])))
added_count old new bad h = absurd h
added_count old new (over limit) h = absurd h
added_count old new rule h = absurd h

added_step : (old new : List Event) (n : ℕ) (line : Line Event) (later : Result (List Event) RunFault) → Added old new line
    → with_events old (event_step n line later) ≡ with_events new later
added_step old new n empty later h = ap (λ prefix. with_events prefix later) (sym h)
added_step old new n (says event) later h = behind_event old event later ∙ ap (λ prefix. with_events prefix later) (sym h)
added_step old new n bad later h = absurd h
added_step old new n (over limit) later h = absurd h
added_step old new n rule later h = absurd h

-- a line is taken, and those after it are read
pub events_more : (parties : List (List ℕ)) (old new : List Event) (n : ℕ) (text prefix more : List ℕ) (all : Result (List Event) RunFault)
    → lines_of text ≡ prefix ∷ lines_of more → Added old new (event_of_line parties (length old) prefix)
    → with_events old (read_events parties (length old) n (lines_of text)) ≡ all
    → with_events new (read_events parties (length new) (n + 1) (lines_of more)) ≡ all
events_more parties old new n text prefix more all cut h e =
    sym (ap (λ k. with_events new (read_events parties k (n + 1) (lines_of more))) (added_count old new (event_of_line parties (length old) prefix) h))
    ∙ sym (added_step old new n (event_of_line parties (length old) prefix)
    (read_events parties (counted (length old) (event_of_line parties (length old) prefix)) (n + 1) (lines_of more)) h)
    ∙ sym (ap (λ lines. with_events old (read_events parties (length old) n lines)) cut)
    ∙ e
