-- A run with the events of the rules behind its own: it goes on by them, and its trace grows by what they come to.
use Rattle.std.proofs.Common.{◌≡◌, ℕ, List, [], ◌∷◌, ◌++◌, map, false, Option, Some, None, refl, sym, ap, ◌∙◌}
use Rattle.std.specs.List.{AllByRecursion}
use Rattle.std.proofs.lemmas.List.{map-append}
use Rattle.spec_calculus.specs.Configuration.{Configuration}
use Rattle.spec_run.specs.declared.event.Event.{Event}
use Rattle.spec_run.specs.declared.header.HeldSecret.{HeldSecret}
use Rattle.spec_run.specs.declared.outcome.Record.{Record}
use Rattle.spec_data.specs.Messages.{collision}
use Rattle.spec_run.specs.Setup.{Setup}
use Rattle.spec_run.specs.World.{World}
use Rattle.spec_run.specs.Pending.{guess, applied, apply}
use Rattle.spec_run.specs.Event.{Passed, Progress as Played, pending, goes_on, onto_passed, record_of, opening_world, played_from, played}
use Rattle.spec_run.specs.Translation.{turn_of, turns_from, world_after, record_in, opening_configuration, trace, last_world, first_halt}
use Rattle.spec_run.specs.Values.{is_refused}
use Rattle.spec_run.proofs.Courses.{before, passing, played-went, last_left}
use Rattle.spec_tool.specs.declared.rule.Rule.{Rule}
use Rattle.theory_auto.specs.Continued.{AreTaken, IsNotRefused, GrewBy}

-- ---- the events of the rules

abbrev all_went : List Passed → Played
all_went ps = record { passed = ps; halt = None }

abbrev WasNotRefused : Passed → Type 0
WasNotRefused p = is_refused p.pending.outcome ≡ false

-- these events are played from this world on, and lead to the last
record Goes (s : Setup) (w : World) (es : List Event) (last : World) : Type 0 where
  passed : List Passed
  is : played_from s w es ≡ all_went passed
  left : world_after w passed ≡ last
  events : map (λ p. p.event) passed ≡ es
  not_refused : AllByRecursion WasNotRefused passed

goes : (s : Setup) (rs : List Rule) (es : List Event) (w last : World) → AreTaken s w rs es last → Goes s w es last
goes s [] [] w last t = record { passed = []; is = refl; left = t; events = refl; not_refused = tt }
goes s [] (e ∷ es) w last t = absurd t
goes s (r ∷ rs) [] w last t = absurd t
goes s (r ∷ rs) (e ∷ es) w last t =
    let later = goes s rs es t.next last t.goes_on in
    let p : Passed = record { event = e; pending = t.came_to; world = t.next } in
    record {
      passed = p ∷ later.passed;
      is = played-went s w e es t.came_to t.next t.went ∙ ap (onto_passed p) later.is;
      left = later.left;
      events = ap (λ xs. e ∷ xs) later.events;
      not_refused = (t.not_refused, later.not_refused);
    }

-- ---- behind those of the run

-- where all of these events went on, more are played from the world that they left
played_behind : (s : Setup) (es more : List Event) (w last : World) → (played_from s w es).halt ≡ None
    → world_after w (played_from s w es).passed ≡ last
    → played_from s w (es ++ more) ≡ before (played_from s w es).passed (played_from s last more)
played_behind s [] more w last on there = ap (λ x. played_from s x more) there
played_behind s (x ∷ es) more w last on there =
    let d = pending s w x in
    by_answer (collision s.hash w.hashed d.hashes) (guess s w.posted d.posts d.allowed) on there
    (λ next f t. played_behind s es more next last f t)
  where
    by_answer : (c : Option (List ℕ × List ℕ)) (u : Option HeldSecret)
        → (goes_on x (apply w (pending s w x) c u) (λ next. played_from s next es)).halt ≡ None
        → world_after w (goes_on x (apply w (pending s w x) c u) (λ next. played_from s next es)).passed ≡ last
        → ((next : World) → (played_from s next es).halt ≡ None → world_after next (played_from s next es).passed ≡ last
        → played_from s next (es ++ more) ≡ before (played_from s next es).passed (played_from s last more))
        → goes_on x (apply w (pending s w x) c u) (λ next. played_from s next (es ++ more))
        ≡ before (goes_on x (apply w (pending s w x) c u) (λ next. played_from s next es)).passed (played_from s last more)
    by_answer (Some pair) u f t ih = cc
    by_answer None (Some held) f t ih = cc
    by_answer None None f t ih = ap (onto_passed (passing s w x)) (ih (applied w (pending s w x)) f t)

left_behind : (ps qs : List Passed) (w last : World) → world_after w ps ≡ last → world_after w (ps ++ qs) ≡ world_after last qs
left_behind [] qs w last h = ap (λ x. world_after x qs) h
left_behind (p ∷ ps) qs w last h = left_behind ps qs p.world last h

-- ---- the trace

abbrev recorded : Passed → Record
recorded p = record_of p.event p.pending

-- the records don't hang on the strings that are posted later
records_of : (s : Setup) (z : List (List ℕ)) (ps : List Passed) (g : Configuration) (w : World)
    → map record_in (turns_from s z g w ps) ≡ map recorded ps
records_of s z [] g w = refl
records_of s z (p ∷ ps) g w = ap (λ xs. recorded p ∷ xs) (records_of s z ps (turn_of s z g w p).configuration p.world)

pub trace_of : (s : Setup) (es : List Event) → trace s es ≡ map recorded (played s es).passed
trace_of s es =
    let p = played s es in
    records_of s (world_after (opening_world s) p.passed).posted p.passed (opening_configuration s) (opening_world s)

pub world_of : (s : Setup) (es : List Event) → last_world s es ≡ world_after (opening_world s) (played s es).passed
world_of s es =
    let p = played s es in
    last_left s (world_after (opening_world s) p.passed).posted p.passed (opening_configuration s) (opening_world s)

events_in : (ps : List Passed) → map (λ (r : Record). r.event) (map recorded ps) ≡ map (λ (p : Passed). p.event) ps
events_in [] = refl
events_in (p ∷ ps) = ap (λ xs. p.event ∷ xs) (events_in ps)

none_refused : (ps : List Passed) → AllByRecursion WasNotRefused ps → AllByRecursion IsNotRefused (map recorded ps)
none_refused [] h = tt
none_refused (p ∷ ps) h = (h.0, none_refused ps h.1)

-- ---- the longer run

pub record IsLonger (s : Setup) (es more : List Event) (last : World) : Type 0 where
  pub whole : first_halt s (es ++ more) ≡ None
  pub world : last_world s (es ++ more) ≡ last
  pub grown : GrewBy (trace s es) (trace s (es ++ more)) more

pub longer : (s : Setup) (es more : List Event) (rs : List Rule) (last : World) → first_halt s es ≡ None
    → AreTaken s (last_world s es) rs more last → IsLonger s es more last
longer s es more rs last on taken =
    let first = opening_world s in
    let ps = (played s es).passed in
    let mid = last_world s es in
    let there : world_after first ps ≡ mid = sym (world_of s es) in
    let g = goes s rs more mid last taken in
    let all : played s (es ++ more) ≡ all_went (ps ++ g.passed) = played_behind s es more first mid on there ∙ ap (before ps) g.is in
    let left : world_after first (ps ++ g.passed) ≡ last = left_behind ps g.passed first mid there ∙ g.left in
    record {
      whole = ap (λ (p : Played). p.halt) all;
      world = world_of s (es ++ more) ∙ (ap (λ (p : Played). world_after first p.passed) all ∙ left);
      grown = record {
        records = map recorded g.passed;
        behind =
            trace_of s (es ++ more)
            ∙ (ap (λ (p : Played). map recorded p.passed) all
            ∙ (map-append recorded ps g.passed ∙ ap (λ rs'. rs' ++ map recorded g.passed) (sym (trace_of s es))));
        events = events_in g.passed ∙ g.events;
        not_refused = none_refused g.passed g.not_refused;
      };
    }
