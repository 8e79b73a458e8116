-- A whole run is followed: what each event keeps and claims, the whole run does.
use Rattle.std.proofs.Common.{◌≡◌, ℕ, List, [], ◌∷◌, ◌++◌, map, Bool, true, false, Option, Some, None, refl, ap, ◌∙◌, subst, cond}
use Rattle.std.specs.Prelude.{◌||◌}
use Rattle.std.specs.List.{find, list_any, AllByRecursion}
use Rattle.std.proofs.lemmas.Bool.{or_left}
use Rattle.spec_calculus.specs.Configuration.{Configuration}
use Rattle.spec_run.specs.declared.event.Event.{Event}
use Rattle.spec_run.specs.declared.header.HeldSecret.{HeldSecret}
use Rattle.spec_run.specs.declared.outcome.Record.{Record}
use Rattle.spec_run.specs.Setup.{Setup}
use Rattle.spec_data.specs.Messages.{collision}
use Rattle.spec_run.specs.World.{World}
use Rattle.spec_run.specs.Pending.{Pending, guess, applied, apply}
use Rattle.spec_run.specs.Event.{pending, goes_on, opening_world, played_from, played}
use Rattle.spec_run.specs.Translation.{Turn, turn_of, turns_from, world_after, record_in, opening_configuration, course, last_or, last_configuration, last_world}
use Rattle.spec_run.specs.Conditions.{IsEvent}
use Rattle.spec_run.specs.Statements.{Claim, HoldsFrom, HoldsThroughout}
use Rattle.spec_run.proofs.Courses.{passing, last_left}
use Rattle.theory_world.proofs.Tests.{any-append}
use Rattle.theory_run.proofs.Facts.KeptSecrets.{Begins}

-- ---- what is posted stays

find_prefix : (p : List ℕ → Bool) (xs ys : List (List ℕ)) → list_any p xs ≡ true → find p (xs ++ ys) ≡ find p xs
find_prefix p [] ys h = cc
find_prefix p (x ∷ xs) ys h = by_test (p x) h (find_prefix p xs ys)
  where
    by_test : (b : Bool) → (b || list_any p xs) ≡ true → (list_any p xs ≡ true → find p (xs ++ ys) ≡ find p xs)
        → cond b (Some x) (find p (xs ++ ys)) ≡ cond b (Some x) (find p xs)
    by_test true e ih = refl
    by_test false e ih = ih e

begins_prefix : (z xs ys : List (List ℕ)) → Begins z (xs ++ ys) → Begins z xs
begins_prefix z xs ys b =
    record { first = λ p h. b.first p (any-append p xs ys ∙ or_left (list_any p xs) (list_any p ys) h) ∙ find_prefix p xs ys h }

-- the strings posted so far begin those of the run
pub posted_begins : (s : Setup) (es : List Event) (w : World) → Begins (world_after w (played_from s w es).passed).posted w.posted
posted_begins s [] w = record { first = λ p h. refl }
posted_begins s (e ∷ es) w =
    let d = pending s w e in
    by_answer d (collision s.hash w.hashed d.hashes) (guess s w.posted d.posts d.allowed) (posted_begins s es)
  where
    by_answer : (d : Pending) (c : Option (List ℕ × List ℕ)) (g : Option HeldSecret)
        → ((next : World) → Begins (world_after next (played_from s next es).passed).posted next.posted)
        → Begins (world_after w (goes_on e (apply w d c g) (λ next. played_from s next es)).passed).posted w.posted
    by_answer d (Some pair) g ih = record { first = λ p h. refl }
    by_answer d None (Some held) ih = record { first = λ p h. refl }
    by_answer d None None ih =
        begins_prefix (world_after (applied w d) (played_from s (applied w d) es).passed).posted w.posted d.posts (ih (applied w d))

-- ---- the run

-- the turn of an event that goes on, in a run that posts these strings
abbrev pub turn_at : Setup → List (List ℕ) → Configuration → World → Event → Turn
turn_at s z g w e = turn_of s z g w (passing s w e)

-- what is kept before the event is kept after it, and the claim holds of it; where nothing collides and nothing is guessed, in a run that
-- posts these strings
pub record Keeps (s : Setup) (claim : Claim) (kept : List Record → Configuration → World → Type 0) (z : List (List ℕ)) : Type 0 where
  pub step : (before : List Record) (g : Configuration) (w : World) (e : Event) → kept before g w → IsEvent s e
      → collision s.hash w.hashed (pending s w e).hashes ≡ None → guess s w.posted (pending s w e).posts (pending s w e).allowed ≡ None
      → Begins z (applied w (pending s w e)).posted
      → claim before g w (turn_at s z g w e)
      × kept (before ++ record_in (turn_at s z g w e) ∷ []) (turn_at s z g w e).configuration (turn_at s z g w e).world

-- something is kept of some records
pub record KeptAfter (kept : List Record → Configuration → World → Type 0) (g : Configuration) (w : World) : Type 0 where
  pub before : List Record
  pub holds : kept before g w

-- the claim holds of an event, and something is kept after it
abbrev pub claims_and_keeps : Claim → (List Record → Configuration → World → Type 0) → Claim
claims_and_keeps claim kept before g w t = claim before g w t × kept (before ++ record_in t ∷ []) t.configuration t.world

module _ (s : Setup) (claim : Claim) (kept : List Record → Configuration → World → Type 0) (z : List (List ℕ))
    (keeps : Keeps s claim kept z) where
  pub follows : (es : List Event) (before : List Record) (g : Configuration) (w : World) → AllByRecursion (IsEvent s) es → kept before g w
      → (world_after w (played_from s w es).passed).posted ≡ z
      → HoldsFrom (claims_and_keeps claim kept) before g w (turns_from s z g w (played_from s w es).passed)
  follows [] before g w is k end = tt
  follows (e ∷ es) before g w is k end =
      let d = pending s w e in
      by_answer (collision s.hash w.hashed d.hashes) (guess s w.posted d.posts d.allowed) refl refl end
      (λ b' g' w'. follows es b' g' w' is.1)
    where
      by_answer : (c : Option (List ℕ × List ℕ)) (u : Option HeldSecret) → collision s.hash w.hashed (pending s w e).hashes ≡ c
          → guess s w.posted (pending s w e).posts (pending s w e).allowed ≡ u
          → (world_after w (goes_on e (apply w (pending s w e) c u) (λ next. played_from s next es)).passed).posted ≡ z
          → ((b' : List Record) (g' : Configuration) (w' : World) → kept b' g' w' → (world_after w' (played_from s w' es).passed).posted ≡ z
          → HoldsFrom (claims_and_keeps claim kept) b' g' w' (turns_from s z g' w' (played_from s w' es).passed))
          → HoldsFrom (claims_and_keeps claim kept) before g w
          (turns_from s z g w (goes_on e (apply w (pending s w e) c u) (λ next. played_from s next es)).passed)
      by_answer (Some pair) u ec eu en go = tt
      by_answer None (Some held) ec eu en go = tt
      by_answer None None ec eu en go =
          let next = applied w (pending s w e) in
          let t = turn_at s z g w e in
          let within = subst (λ y. Begins y next.posted) en (posted_begins s es next) in
          let r = keeps.step before g w e k is.0 ec eu within in
          (r, go (before ++ record_in t ∷ []) t.configuration next r.1 en)

-- ---- what is read off the turns

-- what one claim says of a turn, another may
pub holds-map : (claim other : Claim)
    → ((before : List Record) (g : Configuration) (w : World) (t : Turn) → claim before g w t → other before g w t)
    → (ts : List Turn) (before : List Record) (g : Configuration) (w : World) → HoldsFrom claim before g w ts
    → HoldsFrom other before g w ts
holds-map claim other f [] before g w h = tt
holds-map claim other f (t ∷ ts) before g w h =
    (f before g w t h.0, holds-map claim other f ts (before ++ record_in t ∷ []) t.configuration t.world h.1)

-- what is kept is kept after the last turn
kept_last : (claim : Claim) (kept : List Record → Configuration → World → Type 0) (ts : List Turn)
    → (before : List Record) (g : Configuration) (w : World) → kept before g w
    → HoldsFrom (claims_and_keeps claim kept) before g w ts
    → KeptAfter kept (last_or g (map (λ t. t.configuration) ts)) (last_or w (map (λ t. t.world) ts))
kept_last claim kept [] before g w k h = record { before = before; holds = k }
kept_last claim kept (t ∷ ts) before g w k h = kept_last claim kept ts (before ++ record_in t ∷ []) t.configuration t.world h.0.1 h.1

-- the strings that are posted in a run
abbrev pub run_posts : Setup → List Event → List (List ℕ)
run_posts s es = (world_after (opening_world s) (played s es).passed).posted

pub run_posts_last : (s : Setup) (es : List Event) → (last_world s es).posted ≡ run_posts s es
run_posts_last s es =
    ap (λ (w : World). w.posted) (last_left s (run_posts s es) (played s es).passed (opening_configuration s) (opening_world s))

-- what is kept event by event is kept throughout a run, beside the claim
pub kept_throughout : (s : Setup) (claim : Claim) (kept : List Record → Configuration → World → Type 0) (es : List Event)
    → Keeps s claim kept (run_posts s es) → AllByRecursion (IsEvent s) es
    → kept [] (opening_configuration s) (opening_world s) → HoldsThroughout s (claims_and_keeps claim kept) es
kept_throughout s claim kept es keeps is k =
    follows s claim kept (run_posts s es) keeps es [] (opening_configuration s) (opening_world s) is k refl

-- the claim holds throughout a run where it is kept event by event
pub holds_throughout : (s : Setup) (claim : Claim) (kept : List Record → Configuration → World → Type 0) (es : List Event)
    → Keeps s claim kept (run_posts s es) → AllByRecursion (IsEvent s) es
    → kept [] (opening_configuration s) (opening_world s) → HoldsThroughout s claim es
holds_throughout s claim kept es keeps is k =
    holds-map (claims_and_keeps claim kept) claim (λ before g w t h. h.0) (course s es).turns [] (opening_configuration s)
    (opening_world s) (kept_throughout s claim kept es keeps is k)

-- and what is kept holds at its end
pub kept_at_end : (s : Setup) (claim : Claim) (kept : List Record → Configuration → World → Type 0) (es : List Event)
    → Keeps s claim kept (run_posts s es) → AllByRecursion (IsEvent s) es
    → kept [] (opening_configuration s) (opening_world s) → KeptAfter kept (last_configuration s es) (last_world s es)
kept_at_end s claim kept es keeps is k =
    kept_last claim kept (course s es).turns [] (opening_configuration s) (opening_world s) k (kept_throughout s claim kept es keeps is k)
