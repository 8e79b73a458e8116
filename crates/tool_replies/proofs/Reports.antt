-- What `play` answers, by the end of a run and its entries.
use Rattle.std.proofs.Common.{◌≡◌, ℕ, List, length, map, Some, Result, Ok, Err, refl, sym, ap, ◌∙◌}
use Rattle.std.specs.Prelude.{IfOk}
use Rattle.std.proofs.lemmas.Option.{none-some, same_Some}
use Rattle.std.proofs.lemmas.List.{length-map}
use Rattle.spec_calculus.specs.declared.step.Step.{Step}
use Rattle.spec_calculus.specs.Configuration.{Configuration}
use Rattle.spec_run.specs.declared.event.Event.{Event}
use Rattle.spec_run.specs.declared.outcome.Record.{Record}
use Rattle.spec_run.specs.Setup.{Setup}
use Rattle.spec_run.specs.World.{World}
use Rattle.spec_run.specs.Event.{opening_collision, played}
use Rattle.spec_run.specs.Offers.{Offer, offers}
use Rattle.spec_run.specs.Ledger.{chain_of}
use Rattle.spec_run.specs.Translation.{Turn, course, trace, translated, record_in, last_world, last_configuration}
use Rattle.spec_text.specs.declared.entry.Entry.{Entry}
use Rattle.spec_text.specs.PlayText.{Ending, whole, collided_line, report_text}
use Rattle.spec_text.specs.Played.{entries, ending, end_of, play_text}
use Rattle.spec_tool.specs.Commands.{prints, ending_status, run_answer}
use Rattle.spec_tool.specs.Replies.{printed}
use Rattle.spec_tool.specs.declared.reply.Reply.{Reply}
use Rattle.bm_world.specs.declared.halt.Halt.{Halt}
use Rattle.bm_world.specs.declared.halt.Halt.TheVariants.{Collided, Guessed, Memory}
use Rattle.bm_world.specs.Starting.{Unopened}
use Rattle.bm_world.specs.Playing as world
use Rattle.tool_replies.specs.Going.{record_passed}
use Rattle.tool_replies.proofs.Again.{same_steps, same_configuration}
use Rattle.tool_replies.proofs.Courses.{trace_is}
use Rattle.bm_report.specs.Entries.{entries_by}
use Rattle.tool_shows.specs.Live.{number_and_value}
use Rattle.tool_shows.proofs.Shown.{entries_of_turns, live_of_chain}
use Rattle.tool_replies.specs.Halting.{halt_printed}
use Rattle.tool_replies.proofs.Endings.{unopened_is}
use Rattle.tool_replies.proofs.Recorded.{recorded}

-- ---- the whole text

unopened_answer : (s : Setup) (es : List Event) (earlier later : List ℕ) → opening_collision s ≡ Some (earlier, later)
    → prints 8 (collided_line earlier later) ≡ run_answer play_text s es
unfolding play_text
unopened_answer s es earlier later e =
    sym (ap (λ (end : Ending). prints (ending_status end) (report_text s.header.deposits (entries s es) end)) (unopened_is s es earlier later e))

pub unopened_told : {E : Type 0} (r : Result Reply E) (s : Setup) (es : List Event) (halt : Halt) → Unopened s halt
    → IfOk r (λ reply. Some (printed reply) ≡ halt_printed halt) → IfOk r (λ reply. printed reply ≡ run_answer play_text s es)
unopened_told (Err e) s es halt u told = tt
unopened_told (Ok reply) s es (Collided earlier later) u told =
    same_Some (printed reply) (prints 8 (collided_line earlier later)) told
    ∙ unopened_answer s es earlier later (u.collided earlier later refl)
unopened_told (Ok reply) s es (Guessed party secret) u told = absurd (u.unguessed party secret refl)
unopened_told (Ok reply) s es Memory u told = absurd (none-some (printed reply) (sym told))

pub left_answer : (s : Setup) (es : List Event) (shown : List Entry) (end : Ending) → shown ≡ entries s es → end ≡ ending s es
    → prints (ending_status end) (report_text s.header.deposits shown end) ≡ run_answer play_text s es
unfolding play_text
left_answer s es shown end e f =
    ap (λ (xs : List Entry). prints (ending_status end) (report_text s.header.deposits xs end)) e
    ∙ ap (λ (x : Ending). prints (ending_status x) (report_text s.header.deposits (entries s es) x)) f

-- ---- its parts

module _ {H : Type 0} (digest : H → List ℕ → List ℕ) (s : Setup) (es : List Event) (left : world.Played H) (traced : left.trace ≡ trace s es) where
  pub passed : left.trace ≡ map record_passed (played s es).passed
  passed = traced ∙ trace_is s es

  -- the steps and the last configuration are those of all events
  pub steps_are : translated s (recorded left.trace) ≡ translated s es
  steps_are = same_steps s es left.trace passed

  pub configuration_is : last_configuration s (recorded left.trace) ≡ last_configuration s es
  configuration_is = same_configuration s es left.trace passed

  -- there is a list of steps for each record
  pub one_each : (steps : List (List Step)) → steps ≡ translated s (recorded left.trace) → length steps ≡ length left.trace
  one_each steps e =
      ap length (e ∙ steps_are) ∙ length-map (course s es).turns (λ (t : Turn). t.steps)
      ∙ sym (ap length traced ∙ length-map (course s es).turns record_in)

  -- the entries are those of the run
  pub entries_are : (steps : List (List Step)) → steps ≡ translated s (recorded left.trace) → entries_by left.trace steps ≡ entries s es
  entries_are steps e =
      ap (λ (rs : List Record). entries_by rs steps) traced ∙ ap (entries_by (trace s es)) (e ∙ steps_are) ∙ entries_of_turns (course s es).turns

-- the end of a run that wasn't halted
pub whole_end : (s : Setup) (es : List Event) (w : World) (g : Configuration) (end : Ending) → w ≡ last_world s es → g ≡ last_configuration s es
    → ending s es ≡ end_of (last_world s es) (last_configuration s es)
    → end ≡ whole (chain_of w).tip (map number_and_value (chain_of w).live) g (map (λ (o : Offer). o.event) (offers g)) → end ≡ ending s es
whole_end s es w g end e f h k =
    k
    ∙ ap (λ (live : List (ℕ × ℕ)). whole w.tip live g (map (λ (o : Offer). o.event) (offers g))) (live_of_chain w)
    ∙ ap (λ (v : World). end_of v g) e
    ∙ ap (end_of (last_world s es)) f
    ∙ sym h
