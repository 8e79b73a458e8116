-- The text of every run is read as what the run shows.
use Rattle.std.proofs.Common.{◌≡◌, ℕ, suc, ◌+◌, ◌*◌, ◌≤◌, ◌^◌, List, [], ◌∷◌, ◌++◌, map, length, Option, Some}
use Rattle.std.proofs.Common.{None, refl, ap, subst}
use Rattle.std.proofs.Common.{arith, length-append}
use Rattle.std.specs.Prelude.{sum_by}
use Rattle.std.specs.List.{AllByRecursion}
use Rattle.std.proofs.lemmas.List.Sums.{sum_by-cons}
use Rattle.spec_data.specs.Ranges.{max_money}
use Rattle.spec_data.specs.Messages.{collision}
use Rattle.spec_bitcoin.specs.Digests.{txid, opening_transaction}
use Rattle.spec_calculus.specs.declared.step.Step.{Step}
use Rattle.spec_calculus.specs.Configuration.{Configuration}
use Rattle.spec_calculus.specs.Steps.{after_steps}
use Rattle.spec_run.specs.declared.event.Event.{Event}
use Rattle.spec_run.specs.declared.header.HeldSecret.{HeldSecret}
use Rattle.spec_run.specs.declared.outcome.Record.{Record}
use Rattle.spec_run.specs.Setup.{Setup}
use Rattle.spec_run.specs.World.{World}
use Rattle.spec_run.specs.Pending.{Answer, Went, Halted, Halt, Collided, Guessed, guess, is_guessed, apply, applied}
use Rattle.spec_run.specs.Event.{pending, event, goes_on, played_from, played, opening_world, opening_outputs, opening_collision}
use Rattle.spec_run.specs.Event.{holds_nothing}
use Rattle.spec_run.specs.Translation.{Turn, turn_of, turns_from, record_in, opening_configuration, course, translated, in_order}
use Rattle.spec_run.specs.Translation.{last_world, last_configuration}
use Rattle.spec_run.specs.Translation.{first_halt}
use Rattle.spec_run.specs.Statements.{Claim, HoldsFrom, IsRun}
use Rattle.spec_text.specs.StepText.{made_by}
use Rattle.spec_text.specs.Played.{entry_of, entries, ending_from, ending}
use Rattle.theory_calculus.proofs.Members.{found}
use Rattle.theory_world.proofs.Tests.{length_map}
use Rattle.theory_world.proofs.Ledger.Outputs.{length-made_from}
use Rattle.theory_run.proofs.Events.Births.{most_births, event_grows}
use Rattle.theory_run.proofs.Following.{Keeps, run_posts, holds_throughout}
use Rattle.theory_run.proofs.Simulated.{kept_run, opening_run, run_after, simulation}
use Rattle.theory_run.proofs.Soundness.{sound_runs}
use Rattle.theory_run.proofs.Worlds.WorldsOfRuns.{worlds_of_runs}
use Rattle.theory_auto.proofs.FewOutputs.{last_few}
use Rattle.theory_play_text.specs.Lines.{Said}
use Rattle.theory_play_text.specs.Report.{shown_step}
use Rattle.theory_play_text.specs.Printable.{starts, entry_lines, entries_lines, IsWide, IsNamed, IsOutcome, IsShownStep}
use Rattle.theory_play_text.specs.Printable.{IsSpelledEvent, IsSaid, IsPrintable}
use Rattle.theory_play_text.proofs.EventOutcomes.{pending_shown}
use Rattle.theory_play_text.proofs.LegalSteps.{IsFine, by_append, all_by_in}
use Rattle.theory_play_text.proofs.ReadEvents.{IsReadEvent}
use Rattle.theory_play_text.proofs.ReadRuns.{IsKnownEvent, IsKnownRun}
use Rattle.theory_play_text.proofs.RunPrinted.{AreSaid, starts_said, steps_said, made_wide, end_said, fine_opening, along}
use Rattle.theory_play_text.proofs.RunSteps.{turns_move, each_list}

-- ---- what holds of all events holds of those that were played

module _ (s : Setup) (P : Event → Type 0) (z : List (List ℕ)) where
  turn_events : (es : List Event) (g : Configuration) (w : World) → AllByRecursion P es
      → AllByRecursion (λ (t : Turn). P t.event) (turns_from s z g w (played_from s w es).passed)
  turn_events [] g w h = tt
  turn_events (e ∷ es) g w h = by_answer (event s w e) (λ g' w'. turn_events es g' w' h.1)
    where
      by_answer : (a : Answer)
          → ((g' : Configuration) (w' : World)
          → AllByRecursion (λ (t : Turn). P t.event) (turns_from s z g' w' (played_from s w' es).passed))
          → AllByRecursion (λ (t : Turn). P t.event) (turns_from s z g w (goes_on e a (λ next. played_from s next es)).passed)
      by_answer (Halted halt) ih = tt
      by_answer (Went d next) ih =
          let t = turn_of s z g w (record { event = e; pending = d; world = next }) in (h.0, ih t.configuration next)

  turn_count : (es : List Event) (g : Configuration) (w : World) → length (turns_from s z g w (played_from s w es).passed) ≤ length es
  turn_count [] g w = omega arith
  turn_count (e ∷ es) g w = by_answer (event s w e) (turn_count es)
    where
      by_answer : (a : Answer)
          → ((g' : Configuration) (w' : World) → length (turns_from s z g' w' (played_from s w' es).passed) ≤ length es)
          → length (turns_from s z g w (goes_on e a (λ next. played_from s next es)).passed) ≤ suc (length es)
      by_answer (Halted halt) ih = omega arith
      by_answer (Went d next) ih =
          let t = turn_of s z g w (record { event = e; pending = d; world = next }) in
          let r = ih t.configuration next in omega (arith, r)

-- ---- how a run halts

abbrev HaltFine : Halt → Type 0
HaltFine (Collided earlier later) = Unit {0}
HaltFine (Guessed party name) = IsNamed party × IsNamed name

abbrev HaltsFine : (Event → Type 0) → Option (Event × Halt) → Type 0
HaltsFine P None = Unit {0}
HaltsFine P (Some h) = P (h.0) × HaltFine (h.1)

module _ (s : Setup) (P : Event → Type 0)
    (named : AllByRecursion (λ (x : HeldSecret). IsNamed x.party × IsNamed x.name) s.header.secrets) where
  halts_fine : (es : List Event) (w : World) → AllByRecursion P es → HaltsFine P (played_from s w es).halt
  halts_fine [] w h = tt
  halts_fine (e ∷ es) w h =
      let d = pending s w e in
      by_answer (collision s.hash w.hashed d.hashes) (guess s w.posted d.posts d.allowed) refl (λ w'. halts_fine es w' h.1)
    where
      by_answer : (c : Option (List ℕ × List ℕ)) (u : Option HeldSecret) → guess s w.posted (pending s w e).posts (pending s w e).allowed ≡ u
          → ((w' : World) → HaltsFine P (played_from s w' es).halt)
          → HaltsFine P (goes_on e (apply w (pending s w e) c u) (λ next. played_from s next es)).halt
      by_answer (Some pair) u q ih = (h.0, tt)
      by_answer None (Some held) q ih =
          let f = found (is_guessed w.posted (pending s w e).posts (pending s w e).allowed) s.header.secrets held q in
          (h.0, all_by_in (λ (x : HeldSecret). IsNamed x.party × IsNamed x.name) s.header.secrets named held f.0)
      by_answer None None q ih = ih (applied w (pending s w e))

-- each value is no more than all
with_values : (ds : List (List ℕ × ℕ)) → AllByRecursion (λ (d : List ℕ × ℕ). IsNamed (d.0)) ds
    → sum_by (λ (d : List ℕ × ℕ). d.1) ds ≤ max_money
    → AllByRecursion (λ (d : List ℕ × ℕ). IsNamed (d.0) × IsWide (d.1)) ds
with_values [] h l = tt
with_values (d ∷ ds) h l =
    let e = sum_by-cons (λ (x : List ℕ × ℕ). x.1) d ds in
    ((h.0, omega (arith, e, l)), with_values ds h.1 (omega (arith, e, l)))

-- ---- the entries

abbrev Shows : Step → Type 0
Shows st = IsShownStep (shown_step st)

of_turns : (P : Step → Type 0) (ts : List Turn) → AllByRecursion (AllByRecursion P) (map (λ (t : Turn). t.steps) ts)
    → AllByRecursion (λ (t : Turn). AllByRecursion P t.steps) ts
of_turns P [] h = tt
of_turns P (t ∷ ts) h = (h.0, of_turns P ts h.1)

entries_said : (parties : List (List ℕ)) (i : ℕ) (ts : List Turn) → i + length ts ≤ 2 ^ 40
    → AllByRecursion (λ (t : Turn). IsSpelledEvent parties t.event) ts → AllByRecursion (λ (t : Turn). IsOutcome t.outcome) ts
    → AllByRecursion (λ (t : Turn). AllByRecursion Shows t.steps) ts → AreSaid parties (entries_lines i (map entry_of ts))
entries_said parties i [] few h k l = tt
entries_said parties i (t ∷ ts) few h k l =
    let number : IsWide i = omega (arith, few) in
    let steps = steps_said parties (made_by t.outcome) (made_wide parties t.outcome k.0) t.steps l.0 in
    by_append (IsSaid parties) (entry_lines i (entry_of t)) (entries_lines (i + 1) (map entry_of ts)) ((number, h.0), (k.0, steps))
    (entries_said parties (i + 1) ts (omega (arith, few)) h.1 k.1 l.1)

-- ---- what the events come to

module _ (s : Setup) (es : List Event) (run : IsRun s es) (known : IsKnownRun s.header es) where
  abbrev out_claim : Claim
  out_claim before g w t = length before ≤ 10000 → IsReadEvent t.event → IsOutcome t.outcome

  abbrev kept_few : List Record → Configuration → World → Type 0
  kept_few before g w = kept_run s (run_posts s es) before g w × (length w.outputs ≤ 1000 + most_births * length before)

  opening_few : length (opening_world s).outputs ≤ 1000
  opening_few =
      let made = length-made_from holds_nothing (txid s.hash (opening_transaction (opening_outputs s))) 0 (opening_outputs s) in
      let count : length (opening_outputs s) ≡ length s.header.deposits = length_map _ s.header.deposits in
      omega (arith, made, count, run.setup.header.few_deposits)

  keeps : Keeps s out_claim kept_few (run_posts s es)
  keeps = record {
    step = λ before g w e k is calm unguessed begins.
        let grows = event_grows s run.setup w e is in
        let next = run_after s run.setup (run_posts s es) g w k.0 e is calm unguessed begins in
        let few = k.1 in (
          λ l r. pending_shown s run.setup (run_posts s es) g w k.0 (omega (arith, few, l)) e is r,
          (
            next,
            omega (
              arith,
              grows,
              few,
              length-append before
                  (record_in (turn_of s (run_posts s es) g w
                  (record { event = e; pending = pending s w e; world = applied w (pending s w e) })) ∷ []),
            ),
          ),
        );
  }

  out_turns : (ts : List Turn) (before : List Record) (g : Configuration) (w : World) → HoldsFrom out_claim before g w ts
      → length before + length ts ≤ 10000 → AllByRecursion (λ (t : Turn). IsReadEvent t.event) ts
      → AllByRecursion (λ (t : Turn). IsOutcome t.outcome) ts
  out_turns [] before g w h few k = tt
  out_turns (t ∷ ts) before g w h few k =
      let a = length-append before (record_in t ∷ []) in (
        h.0 (omega (arith, few)) k.0,
        out_turns ts (before ++ record_in t ∷ []) t.configuration t.world h.1 (omega (arith, few, a)) k.1,
      )

  each_of : (P Q : Event → Type 0) → ((e : Event) → P e → Q e) → (xs : List Event) → AllByRecursion P xs → AllByRecursion Q xs
  each_of P Q f [] h = tt
  each_of P Q f (x ∷ xs) h = (f x h.0, each_of P Q f xs h.1)

  spelled : AllByRecursion (IsSpelledEvent s.header.parties) es
  spelled = each_of (IsKnownEvent s.header.parties) (IsSpelledEvent s.header.parties) (λ e h. h.0) es known.events.all

  read : AllByRecursion IsReadEvent es
  read = each_of (IsKnownEvent s.header.parties) IsReadEvent (λ e h. h.1) es known.events.all

  abbrev turns : List Turn
  turns = (course s es).turns

  few_turns : length (course s es).turns ≤ 10000
  few_turns =
      let n = turn_count s IsReadEvent (run_posts s es) es (opening_configuration s) (opening_world s) in
      let l = known.events.few in
      omega (arith, n, l)

  outcomes_shown : AllByRecursion (λ (t : Turn). IsOutcome t.outcome) (course s es).turns
  outcomes_shown =
      let few = opening_few in
      let start : kept_few [] (opening_configuration s) (opening_world s) = (opening_run s es run (run_posts s es), omega (arith, few)) in
      let all = holds_throughout s out_claim kept_few es keeps run.events start in
      let n = few_turns in
      out_turns (course s es).turns [] (opening_configuration s) (opening_world s) all (omega (arith, n))
      (turn_events s IsReadEvent (run_posts s es) es (opening_configuration s) (opening_world s) read)

  -- ---- its steps, and where they lead

  last_bound : (last_configuration s es).next ≤ 2 ^ 40
  last_bound =
      let n = (simulation s es run).agrees.next in
      let l = last_few s es run in
      let f = known.events.few in
      omega (arith, n, l, f)

  abbrev Led : Type 0
  Led = AllByRecursion Shows (in_order (translated s es)) × IsFine (last_configuration s es)

  led : Led
  led =
      let sim = simulation s es run in
      let moves = turns_move s known.parties (run_posts s es) (played s es).passed (opening_configuration s) (opening_world s) in
      let bound : (after_steps (opening_configuration s) (in_order (translated s es))).next ≤ 2 ^ 64 =
      (let b = last_bound in let e = ap (λ (c : Configuration). c.next) sim.leads in omega (arith, b, e)) in
      let r = along s run.setup known.deposits [] (opening_configuration s) tt refl (fine_opening s run.setup known.deposits)
      (in_order (translated s es)) sim.legal moves bound in
      (r.0, subst IsFine sim.leads r.1)

  steps_shown : AllByRecursion (λ (t : Turn). AllByRecursion Shows t.steps) (course s es).turns
  steps_shown = of_turns Shows (course s es).turns (each_list Shows (translated s es) led.0)

  -- ---- all lines

  run_said : (end : List Said) → AreSaid s.header.parties end
      → AreSaid s.header.parties (starts 0 s.header.deposits ++ (entries_lines 1 (entries s es) ++ end))
  run_said end h =
      let n = few_turns in
      let d = run.setup.header.few_deposits in
      by_append (IsSaid s.header.parties) (starts 0 s.header.deposits) _
      (starts_said s.header.parties 0 s.header.deposits (omega (arith, d)) opened)
      (by_append (IsSaid s.header.parties) (entries_lines 1 (entries s es)) end
      (entries_said s.header.parties 1 (course s es).turns (omega (arith, n))
      (turn_events s (IsSpelledEvent s.header.parties) (run_posts s es) es (opening_configuration s) (opening_world s) spelled)
      outcomes_shown steps_shown) h)
    where
      opened : AllByRecursion (λ (d : List ℕ × ℕ). IsNamed (d.0) × IsWide (d.1)) s.header.deposits
      opened = with_values s.header.deposits known.deposits (run.setup.header.money)

  halt_number : length (entries s es) + 1 ≤ 2 ^ 40
  halt_number =
      let n = few_turns in
      let m = length_map entry_of (course s es).turns in
      omega (arith, n, m)

  pub run_printable : IsPrintable s.header.parties s.header.deposits (entries s es) (ending s es)
  run_printable =
      by_ends (opening_collision s) (first_halt s es)
      (halts_fine s (IsSpelledEvent s.header.parties) known.secrets es (opening_world s) spelled)
    where
      by_ends : (o : Option (List ℕ × List ℕ)) (h : Option (Event × Halt)) → HaltsFine (IsSpelledEvent s.header.parties) h
          → IsPrintable s.header.parties s.header.deposits (entries s es) (ending_from (last_world s es) (last_configuration s es) o h)
      by_ends (Some p) h f = (tt, tt)
      by_ends None None f =
          let sound = (sound_runs s es run).end in
          let agrees = (simulation s es run).agrees in
          let n = agrees.next in
          let b = last_bound in
          run_said _ (end_said s.header.parties (last_configuration s es) led.1 sound.numbered sound.funded sound.within (omega (arith, b))
          (last_world s es) agrees.time (omega (arith, n, b)) (worlds_of_runs s es run).money)
      by_ends None (Some (e, Collided earlier later)) f = let n = halt_number in run_said _ ((omega (arith, n), f.0), (tt, tt))
      by_ends None (Some (e, Guessed party name)) f = let n = halt_number in run_said _ ((omega (arith, n), f.0), (f.1, tt))
