-- The events of a run lead to its world: at the opening, and after one more.
use Rattle.std.proofs.Common.{◌≡◌, ℕ, List, [], ◌∷◌, ◌++◌, true, Option, Some, None, refl, sym, ap, ◌∙◌, subst}
use Rattle.std.specs.List.{AllByRecursion}
use Rattle.std.proofs.lemmas.List.{map-append}
use Rattle.spec_data.specs.Lists.{is_among}
use Rattle.spec_data.specs.Messages.{noted_all, collision}
use Rattle.spec_run.specs.declared.event.Event.{Event}
use Rattle.spec_run.specs.declared.header.HeldSecret.{HeldSecret}
use Rattle.spec_run.specs.declared.outcome.Record.{Record}
use Rattle.spec_run.specs.Setup.{Setup}
use Rattle.spec_run.specs.World.{World}
use Rattle.spec_run.specs.Conditions.{IsSetup, IsEvent}
use Rattle.spec_run.specs.Pending.{Pending, Went, guess, applied, apply}
use Rattle.spec_run.specs.Event.{Passed, Progress, pending, record_of, opening_world, opening_collision, played}
use Rattle.spec_run.specs.Translation.{world_after, opening_configuration, last_world}
use Rattle.spec_run.specs.Statements.{IsRun}
use Rattle.spec_run.proofs.Courses.{passing, left_more, last_left, played_more}
use Rattle.theory_run.proofs.Fewer.{Within, all_within, collision_within}
use Rattle.bm_world.specs.Reached.{events_of, IsLeft, IsReached}
use Rattle.theory_run.proofs.Events.Hashless.{carried, pending_same}

abbrev recorded : Passed → Record
recorded p = record_of p.event p.pending

pub reached_at_start : (s : Setup) → opening_collision s ≡ None → IsReached s (opening_world s) []
reached_at_start s opens = record {
  opens = opens;
  events = tt;
  passed = [];
  plays = refl;
  records = refl;
  left = record { same = refl; heard = λ message h. h };
}

-- ---- what an event that went on says

pub record IsCalm (s : Setup) (w next : World) (d : Pending) : Type 0 where
  pub calm : collision s.hash w.hashed d.hashes ≡ None
  pub unguessed : guess s w.posted d.posts d.allowed ≡ None
  pub left : applied w d ≡ next

calm_by : (s : Setup) (w next : World) (d : Pending) (c : Option (List ℕ × List ℕ)) (g : Option HeldSecret)
    → collision s.hash w.hashed d.hashes ≡ c → guess s w.posted d.posts d.allowed ≡ g
    → apply w d c g ≡ Went d next → IsCalm s w next d
calm_by s w next d (Some p) g a b h = cc
calm_by s w next d None (Some held) a b h = cc
calm_by s w next d None None a b h = record { calm = a; unguessed = b; left = cc }

pub calm_of : (s : Setup) (w next : World) (d : Pending)
    → apply w d (collision s.hash w.hashed d.hashes) (guess s w.posted d.posts d.allowed) ≡ Went d next → IsCalm s w next d
calm_of s w next d h = calm_by s w next d (collision s.hash w.hashed d.hashes) (guess s w.posted d.posts d.allowed) refl refl h

-- ---- one more event

all_and_one : {X : Type 0} (P : X → Type 0) (xs : List X) (x : X) → AllByRecursion P xs → P x → AllByRecursion P (xs ++ x ∷ [])
all_and_one P [] x h k = (k, tt)
all_and_one P (y ∷ xs) x h k = (h.0, all_and_one P xs x h.1 k)

module _ (s : Setup) (w next : World) (trace : List Record) (e : Event) (is : IsReached s w trace) (fine : IsEvent s e)
    (calm : IsCalm s w next (pending s w e)) where
  abbrev last : World
  last = world_after (opening_world s) is.passed

  -- the event comes to the same in the world that the run left
  same_pending : pending s last e ≡ carried last.hashed (pending s w e)
  same_pending = ap (λ x. pending s x e) (sym is.left.same) ∙ pending_same s w last.hashed e

  abbrev p : Passed
  p = passing s last e

  record_same : recorded (passing s last e) ≡ record_of e (pending s w e)
  record_same = ap (record_of e) same_pending

  calm_there : collision s.hash last.hashed (pending s last e).hashes ≡ None
  calm_there = ap (λ (d : Pending). collision s.hash last.hashed d.hashes) same_pending
      ∙ collision_within s.hash last.hashed w.hashed (pending s w e).hashes is.left.heard calm.calm

  unguessed_there : guess s last.posted (pending s last e).posts (pending s last e).allowed ≡ None
  unguessed_there =
      ap (λ (d : Pending). guess s last.posted d.posts d.allowed) same_pending
      ∙ ap (λ (x : World). guess s x.posted (pending s w e).posts (pending s w e).allowed) (sym is.left.same)
      ∙ calm.unguessed

  events_more : events_of (trace ++ record_of e (pending s w e) ∷ []) ≡ events_of trace ++ e ∷ []
  events_more = map-append (λ (r : Record). r.event) trace (record_of e (pending s w e) ∷ [])

  plays_more : played s (events_of (trace ++ record_of e (pending s w e) ∷ []))
      ≡ record { passed = is.passed ++ passing s last e ∷ []; halt = None }
  plays_more =
      ap (played s) events_more
      ∙ played_more s (events_of trace) e (opening_world s) last (ap (λ (x : Progress). x.halt) is.plays)
      (ap (λ (x : Progress). world_after (opening_world s) x.passed) is.plays) calm_there unguessed_there
      ∙ ap {B = Progress} (λ (x : Progress). record { passed = x.passed ++ passing s last e ∷ []; halt = None }) is.plays

  left_there : IsLeft (applied last (pending s last e)) next
  left_there =
      let posted : last.posted ≡ w.posted = ap (λ (x : World). x.posted) (sym is.left.same) in
      let there : applied last (pending s last e) ≡ record (applied w (pending s w e)) { hashed = noted_all last.hashed (pending s w e).hashes } =
      ap (applied last) same_pending ∙ (λ i. record (pending s w e).world
      { hashed = noted_all last.hashed (pending s w e).hashes; posted = posted i ++ (pending s w e).posts }) in
      record {
        same = (λ i. record (sym calm.left i) { hashed = (there i).hashed }) ∙ sym there;
        heard = λ message h. subst (λ (x : World). is_among message x.hashed ≡ true) calm.left
            (all_within last.hashed w.hashed (pending s w e).hashes is.left.heard message
            (subst (λ (x : World). is_among message x.hashed ≡ true) there h));
      }

  pub reached_more : IsReached s next (trace ++ record_of e (pending s w e) ∷ [])
  reached_more = record {
    opens = is.opens;
    events = subst (AllByRecursion (IsEvent s)) (sym events_more) (all_and_one (IsEvent s) (events_of trace) e is.events fine);
    passed = is.passed ++ passing s last e ∷ [];
    plays = plays_more;
    records = map-append recorded is.passed (passing s last e ∷ []) ∙ (λ i. is.records i ++ record_same i ∷ []);
    left = subst (λ x. IsLeft x next) (sym (left_more is.passed (passing s last e) (opening_world s))) left_there;
  }

-- ---- what else may have been hashed

-- where only more was hashed, the same events led there
pub reached_later : (s : Setup) (w : World) (hashed : List (List ℕ)) (trace : List Record) → Within w.hashed hashed → IsReached s w trace
    → IsReached s (record w { hashed = hashed }) trace
reached_later s w hashed trace more is = record {
  opens = is.opens;
  events = is.events;
  passed = is.passed;
  plays = is.plays;
  records = is.records;
  left = record { same = is.left.same; heard = λ message h. more message (is.left.heard message h) };
}

-- ---- the run

pub run_of : (s : Setup) (w : World) (trace : List Record) → IsSetup s → IsReached s w trace → IsRun s (events_of trace)
run_of s w trace setup is = record { setup = setup; opens = is.opens; events = is.events }

-- the last world of the run is this one, but for what was hashed
pub last_is : (s : Setup) (w : World) (trace : List Record) → IsReached s w trace → IsLeft (last_world s (events_of trace)) w
last_is s w trace is =
    let p = played s (events_of trace) in
    let there : last_world s (events_of trace) ≡ world_after (opening_world s) p.passed =
    last_left s (world_after (opening_world s) p.passed).posted p.passed (opening_configuration s) (opening_world s) in
    subst (λ x. IsLeft x w) (sym (there ∙ ap (λ (x : Progress). world_after (opening_world s) x.passed) is.plays)) is.left
