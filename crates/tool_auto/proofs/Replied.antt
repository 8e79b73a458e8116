-- What is replied of a run that goes on by the rules of a strategy.
use Rattle.std.proofs.Common.{◌≡◌, ℕ, ◌+◌, ◌≤◌, List, [], ◌∷◌, length, map, Option, Some, None, Result, Ok, refl, sym, ap, subst, ◌∙◌, arith}
use Rattle.std.specs.Prelude.{IfOk}
use Rattle.std.specs.List.{AllByRecursion}
use Rattle.std.proofs.lemmas.List.{length-map}
use Rattle.std.proofs.lemmas.Option.{none-some, same_Some}
use Rattle.std.proofs.lemmas.Result.{IfOk-weaker}
use Rattle.spec_run.specs.declared.event.Event.{Event}
use Rattle.spec_run.specs.declared.event.Run.{Run}
use Rattle.spec_run.specs.declared.header.Header.{Header}
use Rattle.spec_run.specs.Setup.{Setup}
use Rattle.spec_run.specs.World.{World}
use Rattle.spec_run.specs.Pending.{Answer, Went, Halted}
use Rattle.spec_run.specs.Pending as pending
use Rattle.spec_run.specs.Event.{played_from, played, goes_on, event, opening_world}
use Rattle.spec_run.specs.Translation.{trace, last_world}
use Rattle.spec_text.specs.Limits.{most_events}
use Rattle.spec_text.specs.PlayText.{collided_line, guessed_line}
use Rattle.spec_text.specs.Refusals.{run_of}
use Rattle.spec_text.specs.RunText.{run_text}
use Rattle.spec_tool.specs.declared.rule.Rule.{Rule}
use Rattle.spec_tool.specs.Answers.{if_whole}
use Rattle.spec_tool.specs.AutoText.{strategy_in, strategy_refused, longer_run, progressed_answer, auto_answer}
use Rattle.spec_tool.specs.Commands.{Printed, prints}
use Rattle.spec_tool.specs.Reads.{Text}
use Rattle.spec_tool.specs.Turns.{Progress, Progressed, extended}
use Rattle.theory_auto.specs.Continued.{StrategiesGoOn}
use Rattle.theory_auto.specs.OwnRules.{IsHonest, StrategiesKeepToRules}
use Rattle.theory_auto.specs.Spelled.{GoesWith, LongerRunsAreSpelled}
use Rattle.spec_tool.specs.Replies.{printed}
use Rattle.spec_tool.specs.declared.reply.Reply.{Reply}
use Rattle.bm_world.specs.declared.halt.Halt.{Halt}
use Rattle.bm_world.specs.declared.halt.Halt.TheVariants as halts
use Rattle.bm_world.specs.Playing as world
use Rattle.bm_world.specs.Playing.{setup_in, most_records}
use Rattle.tool_replies.specs.Going.{record_passed}
use Rattle.tool_replies.specs.Whole.{IsLeft}
use Rattle.tool_replies.proofs.Courses.{trace_is}
use Rattle.tool_replies.specs.Halting.{halt_printed}
use Rattle.tool_replies.specs.Last.{IsHalted, IsWhole}
use Rattle.tool_replies.proofs.Ended.{whole_if}
use Rattle.bm_auto.specs.Trying.{IsCause}
use Rattle.bm_auto.specs.Extending.{Extends, StopsExtending}
use Rattle.tool_auto.specs.Continued.{Continues, ContinuesIfWhole, GoesOnBeside}
use Rattle.tool_auto.proofs.Judging.{IsRead, read_is}

-- ---- there is room for more events

few_passed : (s : Setup) (es : List Event) (w : World) → length (played_from s w es).passed ≤ length es
few_passed s [] w = omega arith
few_passed s (e ∷ es) w = by_answer (event s w e) (few_passed s es)
  where
    by_answer : (a : Answer) → ((next : World) → length (played_from s next es).passed ≤ length es)
        → length (goes_on e a (λ next. played_from s next es)).passed ≤ length (e ∷ es)
    by_answer (Halted halt) later = omega arith
    by_answer (Went d next) later = let n = later next in omega (arith, n)

few_records : (s : Setup) (es : List Event) → length (trace s es) ≤ length es
few_records s es =
    let a : length (trace s es) ≡ length (map record_passed (played s es).passed) = ap length (trace_is s es) in
    let b = length-map (played s es).passed record_passed in
    let c = few_passed s es (opening_world s) in
    omega (arith, a, b, c)

-- ---- a halt

-- it is what the rounds come to
halted_by : (halt : Halt) (comes : Progressed) (h : Header) (es : List Event) (reply : Reply)
    → IsCause halt comes → Some (printed reply) ≡ halt_printed halt → printed reply ≡ progressed_answer h es comes
halted_by (halts.Collided earlier later) comes h es reply c told =
    same_Some (printed reply) (prints 8 (collided_line earlier later)) told
    ∙ ap (progressed_answer h es) (sym (c (pending.Collided earlier later) refl))
halted_by (halts.Guessed party secret) comes h es reply c told =
    same_Some (printed reply) (prints 7 (guessed_line party secret)) told
    ∙ ap (progressed_answer h es) (sym (c (pending.Guessed party secret) refl))
halted_by halts.Memory comes h es reply c told = absurd (none-some (printed reply) (sym told))

-- and has another status than 0
not_whole : (halt : Halt) (reply : Reply) → Some (printed reply) ≡ halt_printed halt → reply.status ≡ 0 → ⊥
not_whole (halts.Collided earlier later) reply told zero =
    let is : reply.status ≡ 8 = ap (λ (p : Printed). p.status) (same_Some (printed reply) (prints 8 (collided_line earlier later)) told) in
    absurd (omega (arith, is, zero))
not_whole (halts.Guessed party secret) reply told zero =
    let is : reply.status ≡ 7 = ap (λ (p : Printed). p.status) (same_Some (printed reply) (prints 7 (guessed_line party secret)) told) in
    absurd (omega (arith, is, zero))
not_whole halts.Memory reply told zero = absurd (none-some (printed reply) (sym told))

-- ---- a run that wasn't halted goes on

module _ {H : Type 0} (digest : H → List ℕ → List ℕ) (old : world.Played H) (run : Run) (rules : List Rule)
    (left : IsLeft digest (setup_in digest old) run.events old None) (header : old.header ≡ run.header) where
  abbrev s : Setup
  s = setup_in digest old

  pub room : length run.events + length rules ≤ most_events → length old.trace + length rules ≤ most_records
  room few =
      let a : length old.trace ≡ length (trace s run.events) = ap length left.trace in
      let b = few_records s run.events in
      omega (arith, a, b, few)

  pub honest : AllByRecursion (IsHonest run.header) rules → AllByRecursion (IsHonest old.header) rules
  honest h = subst (λ x. AllByRecursion (IsHonest x) rules) (sym header) h

  -- what the rounds come to is what is asked for
  asked : extended s old.world rules ≡ extended s (last_world s run.events) rules
  asked = ap (λ w. extended s w rules) (left.whole refl)

  answer_of : (x : Progressed) → extended s old.world rules ≡ x → progressed_answer run.header run.events x ≡ auto_answer rules s run.events
  unfolding auto_answer
  answer_of x h =
      ap (progressed_answer run.header run.events) (sym h ∙ asked)
      ∙ ap (λ y. progressed_answer y run.events (extended s (last_world s run.events) rules)) (sym header)

  module _ (new : world.Played H) (more : List Event) (e : Extends digest old new rules more) where
    abbrev progress : Progress
    progress = record { world = new.world; left = e.left; events = more }

    abbrev IsLonger : Reply → Type 0
    IsLonger reply = printed reply ≡ prints 0 (run_text (longer_run run.header run.events progress))

    pub goes_answer : {E : Type 0} (r : Result Reply E) → IfOk r IsLonger → IfOk r (λ reply. printed reply ≡ auto_answer rules s run.events)
    goes_answer r h = subst (λ (p : Printed). IfOk r (λ reply. printed reply ≡ p)) (answer_of (Ok progress) e.comes) h

    continues : StrategiesGoOn → StrategiesKeepToRules → AllByRecursion (IsHonest run.header) rules → (reply : Reply) → IsLonger reply
        → ContinuesIfWhole s run rules reply
    continues theorem keeps fair reply h = λ zero.
        let comes : extended s (last_world s run.events) rules ≡ Ok progress = sym asked ∙ e.comes in
        record {
          is_run = left.run;
          whole = left.stops;
          progress = progress;
          comes = comes;
          told = ap (λ (p : Printed). p.text) h;
          goes_on = theorem.goes_on s run.events rules progress left.run left.stops comes;
          keeps = keeps s run.events rules progress left.run left.stops (honest fair) comes;
        }

    pub goes_continue : {E : Type 0} (r : Result Reply E) → StrategiesGoOn → StrategiesKeepToRules → AllByRecursion (IsHonest run.header) rules
        → IfOk r IsLonger → IfOk r (ContinuesIfWhole s run rules)
    goes_continue r theorem keeps fair h = IfOk-weaker r IsLonger (ContinuesIfWhole s run rules) (continues theorem keeps fair) h

  module _ (new : world.Played H) (halt : Halt) (t : StopsExtending digest old new rules halt) where
    abbrev Tells : Reply → Type 0
    Tells reply = Some (printed reply) ≡ halt_printed halt

    pub halt_answer : {E : Type 0} (r : Result Reply E) → IfOk r Tells → IfOk r (λ reply. printed reply ≡ auto_answer rules s run.events)
    halt_answer r h =
        IfOk-weaker r Tells (λ reply. printed reply ≡ auto_answer rules s run.events)
        (λ reply told. halted_by halt (extended s old.world rules) run.header run.events reply (t.cause (left.going refl)) told
        ∙ answer_of (extended s old.world rules) refl) h

    pub halt_continues : {E : Type 0} (r : Result Reply E) → IfOk r Tells → IfOk r (ContinuesIfWhole s run rules)
    halt_continues r h =
        IfOk-weaker r Tells (ContinuesIfWhole s run rules) (λ reply told zero. absurd (not_whole halt reply told zero)) h

-- ---- a run that was played

module _ {H : Type 0} (digest : H → List ℕ → List ℕ) (s : Setup) (run : Run) (rules : List Rule) where
  pub halted_continues : (reply : Reply) → IsHalted s run.events reply → ContinuesIfWhole s run rules reply
  halted_continues reply h = λ zero. absurd (h.halted (sym (ap (λ (p : Printed). p.status) (h.replied [])) ∙ zero))

  module _ (left : world.Played H) (w : IsWhole digest s run.events left) where
    pub header_here : s.header ≡ run.header → left.header ≡ run.header
    header_here h = ap (λ (x : Setup). x.header) w.left_is.setup ∙ h

    pub whole_answer : {E : Type 0} (r : Result Reply E) → IfOk r (λ reply. printed reply ≡ auto_answer rules (setup_in digest left) run.events)
        → IfOk r (λ reply. printed reply ≡ if_whole (auto_answer rules) s run.events)
    whole_answer r h =
        subst (λ (p : Printed). IfOk r (λ reply. printed reply ≡ p))
        (ap (λ x. auto_answer rules x run.events) w.left_is.setup ∙ whole_if digest s run.events left w (auto_answer rules)) h

    pub whole_continues : {E : Type 0} (r : Result Reply E) → IfOk r (ContinuesIfWhole (setup_in digest left) run rules)
        → IfOk r (ContinuesIfWhole s run rules)
    whole_continues r h = subst (λ (x : Setup). IfOk r (ContinuesIfWhole x run rules)) w.left_is.setup h

-- ---- the files

refused_goes : (s : Setup) (run : Run) (n : ℕ) (strategy : Text) (why : List ℕ) (reply : Reply) → printed reply ≡ strategy_refused why
    → GoesOnBeside s run n strategy reply
refused_goes s run n strategy why reply told = λ zero.
    let is : reply.status ≡ 11 = ap (λ (p : Printed). p.status) told in
    absurd (omega (arith, is, zero))

pub refused_beside : {E : Type 0} (r : Result Reply E) (s : Setup) (run : Run) (n : ℕ) (strategy : Text) (why : List ℕ)
    → IfOk r (λ reply. printed reply ≡ strategy_refused why) → IfOk r (GoesOnBeside s run n strategy)
refused_beside r s run n strategy why h =
    IfOk-weaker r (λ reply. printed reply ≡ strategy_refused why) (GoesOnBeside s run n strategy) (refused_goes s run n strategy why) h

goes_beside : LongerRunsAreSpelled → (s : Setup) (run : Run) (n : ℕ) (strategy : Text) (rules : List Rule) → s.header ≡ run.header
    → strategy_in n run.header run.events strategy ≡ Ok rules → (reply : Reply) → ContinuesIfWhole s run rules reply
    → GoesOnBeside s run n strategy reply
goes_beside theorem s run n strategy rules header spelled reply h = λ zero.
    let c : Continues s run rules reply.text = h zero in
    let f : IsRead run.header run.events strategy rules = read_is n run.header run.events strategy rules spelled in
    record {
      rules = rules;
      spelled = spelled;
      continues = c;
      read = λ file spells size.
          let goes : GoesWith s file f.text run rules = record {
            spells = spells;
            header = header;
            is_run = c.is_run;
            whole = c.whole;
            strategy_spells = ap (λ m. strategy_in m run.header run.events (Some f.text)) size
                ∙ (ap (strategy_in n run.header run.events) (sym f.there) ∙ spelled);
          } in
          subst (λ text. run_of text ≡ Ok (longer_run run.header run.events c.progress)) (sym c.told)
          (theorem s file f.text run rules c.progress goes c.comes);
    }

pub rules_beside : {E : Type 0} (r : Result Reply E) → LongerRunsAreSpelled → (s : Setup) (run : Run) (n : ℕ) (strategy : Text)
    (rules : List Rule) → s.header ≡ run.header → strategy_in n run.header run.events strategy ≡ Ok rules
    → IfOk r (ContinuesIfWhole s run rules) → IfOk r (GoesOnBeside s run n strategy)
rules_beside r theorem s run n strategy rules header spelled h =
    IfOk-weaker r (ContinuesIfWhole s run rules) (GoesOnBeside s run n strategy) (goes_beside theorem s run n strategy rules header spelled) h
