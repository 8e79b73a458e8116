-- What is read off the world that a run left.
use Rattle.std.proofs.Common.{◌≡◌, ℕ, ◌<◌, ◌^◌, List, length, map, Option, Some, None, refl, sym, ap, subst, ◌∙◌}
use Rattle.std.specs.Prelude.{slice_get, option_map}
use Rattle.std.proofs.lemmas.Option.{same_Some}
use Rattle.std.proofs.lemmas.List.{length-map}
use Rattle.spec_bitcoin.specs.Live.{Chain}
use Rattle.spec_calculus.specs.declared.step.Step.{Step}
use Rattle.spec_calculus.specs.Configuration.{Configuration}
use Rattle.spec_run.specs.declared.event.Event.{Event}
use Rattle.spec_run.specs.declared.outcome.Record.{Record}
use Rattle.spec_run.specs.Setup.{Setup}
use Rattle.spec_run.specs.Event.{opening_world}
use Rattle.spec_run.specs.Offers.{Offer, offers}
use Rattle.spec_run.specs.Ledger.{chain_of}
use Rattle.spec_run.specs.Translation.{translated, last_world, last_configuration}
use Rattle.spec_text.specs.declared.entry.Entry.{Entry}
use Rattle.spec_text.specs.PlanText.{counts_text, step_count}
use Rattle.spec_text.specs.PlayText.{Ending, whole, report_text}
use Rattle.spec_text.specs.Played.{entries, ending, halted, live_outputs, play_text}
use Rattle.spec_tool.specs.Commands.{prints, ending_status, run_answer}
use Rattle.bm_world.specs.Playing as world
use Rattle.bm_world.specs.Playing.{setup_in}
use Rattle.bm_world.specs.declared.halt.Halt.{Halt}
use Rattle.bm_world.specs.Halts.{halt_of}
use Rattle.tool_replies.specs.Whole.{IsLeft}
use Rattle.bm_report.specs.Entries.{entries_by}
use Rattle.tool_shows.specs.Live.{number_and_value}
use Rattle.tool_shows.proofs.Shown.{live_of_chain}
use Rattle.tool_replies.specs.Counted.{run_counts}
use Rattle.tool_replies.proofs.Contracts.{contracts_are_few}
use Rattle.tool_replies.proofs.Endings.{stopped_ending, whole_is}
use Rattle.tool_replies.proofs.Recorded.{recorded, recorded_whole}
use Rattle.tool_replies.proofs.Reports.{passed, configuration_is, one_each, entries_are, left_answer, whole_end}

module _ {H : Type 0} (digest : H → List ℕ → List ℕ) (s : Setup) (es : List Event) (left : world.Played H) (stop : Option (ℕ × Halt)) (l : IsLeft digest s es left stop) where
  -- it is left by these events of its own setup
  pub of_its_own : IsLeft digest (setup_in digest left) es left stop
  of_its_own = subst (λ (t : Setup). IsLeft digest t es left stop) (sym l.setup) l

  pub hash_is : digest left.hasher ≡ s.hash
  hash_is = ap (λ (t : Setup). t.hash) l.setup

  pub contracts_are : left.contracts ≡ s.contracts
  contracts_are = ap (λ (t : Setup). t.contracts) l.setup

  -- ---- its course

  pub last_is : (g : Configuration) → g ≡ last_configuration s (recorded left.trace) → g ≡ last_configuration s es
  last_is g e = e ∙ configuration_is digest s es left l.trace

  pub last_is_numbered : (g : Configuration) → g ≡ last_configuration s es → length g.contracts < 2 ^ 32
  last_is_numbered g e = subst (λ (x : Configuration). length x.contracts < 2 ^ 32) (sym e) (contracts_are_few s es l.run.setup)

  pub steps_for_each : (steps : List (List Step)) → steps ≡ translated s (recorded left.trace) → length steps ≡ length left.trace
  steps_for_each = one_each digest s es left l.trace

  pub shown_are : (steps : List (List Step)) (shown : List Entry) → steps ≡ translated s (recorded left.trace) → shown
      ≡ entries_by left.trace steps → shown ≡ entries s es
  shown_are steps shown e h = h ∙ entries_are digest s es left l.trace steps e

  -- what `play` answers, by the steps of its records and its end
  pub answered : (steps : List (List Step)) (end : Ending) → steps ≡ translated s (recorded left.trace) → end ≡ ending s es
      → prints (ending_status end) (report_text left.header.deposits (entries_by left.trace steps) end) ≡ run_answer play_text s es
  answered steps end e h =
      ap (λ (t : Setup). prints (ending_status end) (report_text t.header.deposits (entries_by left.trace steps) end)) l.setup
      ∙ left_answer s es (entries_by left.trace steps) end (entries_are digest s es left l.trace steps e) h

-- ---- of a run that was halted

module _ {H : Type 0} (digest : H → List ℕ → List ℕ) (s : Setup) (es : List Event) (left : world.Played H) (n : ℕ) (halt : Halt) (l : IsLeft digest s es left (Some (n, halt))) where
  -- the event that was halted is there
  pub event_is : (e : Event) (end : Ending) → slice_get es n ≡ Some e → Some end ≡ option_map (halted e) (halt_of halt) → end ≡ ending s es
  event_is e end at told =
      let k = l.stops in
      let same : k.0 ≡ e = same_Some (k.0) e (sym (k.2) ∙ at) in
      let is : end ≡ halted e (k.1) = same_Some end (halted e (k.1)) (told ∙ ap (option_map (halted e)) (k.3)) in
      is ∙ ap (λ x. halted x (k.1)) (sym same) ∙ sym (stopped_ending digest s es left n halt l (k.1) (k.3))

-- ---- of one that wasn't

module _ {H : Type 0} (digest : H → List ℕ → List ℕ) (s : Setup) (es : List Event) (left : world.Played H) (l : IsLeft digest s es left None) where
  pub whole_ends : (chain : Chain) (g : Configuration) (end : Ending) → chain ≡ chain_of left.world → g ≡ last_configuration s es
      → end ≡ whole chain.tip (map number_and_value chain.live) g (map (λ (o : Offer). o.event) (offers g)) → end ≡ ending s es
  whole_ends chain g end at e h =
      whole_end s es left.world g end (l.whole refl) e (whole_is s es l.run.opens l.stops)
      (h ∙ ap (λ (c : Chain). whole c.tip (map number_and_value c.live) g (map (λ (o : Offer). o.event) (offers g))) at)

  pub live_are : (chain : Chain) (live : List (ℕ × ℕ)) → chain ≡ chain_of left.world → live ≡ map number_and_value chain.live → live
      ≡ live_outputs (last_world s es)
  live_are chain live at e =
      e ∙ ap (λ (c : Chain). map number_and_value c.live) at ∙ live_of_chain left.world ∙ ap live_outputs (l.whole refl)

  -- its trace has all of its events
  pub all_recorded : recorded left.trace ≡ es
  all_recorded = ap recorded (passed digest s es left l.trace) ∙ recorded_whole s (opening_world s) es l.stops

  -- so it is left by the events of its trace
  pub by_its_trace : IsLeft digest (setup_in digest left) (recorded left.trace) left None
  by_its_trace =
      subst (λ (xs : List Event). IsLeft digest (setup_in digest left) xs left None) (sym all_recorded)
      (of_its_own digest s es left None l)

  pub counts_are : (events steps : ℕ) (g : Configuration) → events ≡ length left.trace → steps ≡ step_count (translated s (recorded left.trace))
      → g ≡ last_configuration s (recorded left.trace) → counts_text events steps g (last_world s es) ≡ run_counts s es
  counts_are events steps g many counted last =
      let events_are : events ≡ length es = many ∙ sym (length-map left.trace (λ (r : Record). r.event)) ∙ ap length all_recorded in
      let steps_are : steps ≡ step_count (translated s es) = counted ∙ ap (λ (xs : List Event). step_count (translated s xs)) all_recorded in
      let last_is : g ≡ last_configuration s es = last ∙ ap (last_configuration s) all_recorded in
      λ i. counts_text (events_are i) (steps_are i) (last_is i) (last_world s es)
