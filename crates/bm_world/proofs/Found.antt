-- The message of a digest, where no two messages have one, and where more is hashed.
use Rattle.std.proofs.Common.{◌≡◌, ℕ, List, [], ◌∷◌, ◌++◌, Bool, true, false, cond, Option, Some, None, refl, ap, subst}
use Rattle.std.specs.Prelude.{if◌then◌else◌, is_some}
use Rattle.std.specs.List.{find}
use Rattle.std.specs.Str.{bytes_eq}
use Rattle.std.proofs.lemmas.Bool.{both_ways}
use Rattle.spec_data.specs.Lists.{is_among}
use Rattle.spec_data.specs.Messages as run_messages
use Rattle.spec_run.specs.declared.outcome.Record.{Record}
use Rattle.spec_run.specs.Setup.{Setup}
use Rattle.spec_run.specs.World.{World}
use Rattle.spec_run.specs.Conditions.{IsSetup}
use Rattle.spec_run.specs.Translation.{last_world}
use Rattle.theory_calculus.proofs.Names.{bytes-true, bytes_refl, all_among}
use Rattle.theory_run.proofs.Worlds.WorldsOfRuns.{worlds_of_runs}
use Rattle.bm_hash.specs.Messages.{evidence_of, message_of, noted, noted_all}
use Rattle.bm_hash.proofs.Evidence.{find_among, none_at, apart, noted_among}
use Rattle.bm_world.specs.Reached.{events_of, IsReached, AreFound}
use Rattle.bm_world.proofs.Reaching.{run_of, last_is}

-- ---- where no two messages have one digest

pub found_clear : (hash : List ℕ → List ℕ) (ms strings : List (List ℕ)) → evidence_of hash ms ≡ None
    → ((t : List ℕ) → is_among t strings ≡ true → is_among t ms ≡ true) → AreFound hash ms strings
found_clear hash ms strings clear sub t h = by_found (message_of hash ms (hash t)) refl
  where
    by_found : (o : Option (List ℕ)) → message_of hash ms (hash t) ≡ o → o ≡ Some t
    by_found None e =
        absurd (both_ways _ (none_at (λ m. bytes_eq (hash m) (hash t)) ms t e (noted_among ms t (sub t h))) (bytes_refl (hash t)))
    by_found (Some m) e =
        let r = find_among (λ u. bytes_eq (hash u) (hash t)) ms m e in
        ap Some (apart hash [] ms m t clear r.0 (noted_among ms t (sub t h)) (bytes-true (hash m) (hash t) r.1))

-- ---- where more is hashed

prefix_found : (p : List ℕ → Bool) (xs ys : List (List ℕ)) (t : List ℕ) → find p xs ≡ Some t → find p (xs ++ ys) ≡ Some t
prefix_found p [] ys t h = cc
prefix_found p (x ∷ xs) ys t h = by_test (p x) h (prefix_found p xs ys t)
  where
    by_test : (b : Bool) → cond b (Some x) (find p xs) ≡ Some t → (find p xs ≡ Some t → find p (xs ++ ys) ≡ Some t)
        → cond b (Some x) (find p (xs ++ ys)) ≡ Some t
    by_test true k ih = k
    by_test false k ih = ih k

noted_found : (hash : List ℕ → List ℕ) (ms : List (List ℕ)) (m d t : List ℕ) → message_of hash ms d ≡ Some t
    → message_of hash (noted hash ms m) d ≡ Some t
noted_found hash ms m d t h = by_one_collision (is_some (evidence_of hash ms))
  where
    by_member : (b : Bool) → message_of hash (if b then ms else ms ++ m ∷ []) d ≡ Some t
    by_member true = h
    by_member false = prefix_found (λ u. bytes_eq (hash u) d) ms (m ∷ []) t h

    by_one_collision : (b : Bool) → message_of hash (if b then ms else run_messages.noted ms m) d ≡ Some t
    by_one_collision true = h
    by_one_collision false = by_member (is_among m ms)

all_found : (hash : List ℕ → List ℕ) (xs ms : List (List ℕ)) (d t : List ℕ) → message_of hash ms d ≡ Some t
    → message_of hash (noted_all hash ms xs) d ≡ Some t
all_found hash [] ms d t h = h
all_found hash (x ∷ xs) ms d t h = all_found hash xs (noted hash ms x) d t (noted_found hash ms x d t h)

pub found_more : (hash : List ℕ → List ℕ) (ms xs strings : List (List ℕ)) → AreFound hash ms strings
    → AreFound hash (noted_all hash ms xs) strings
found_more hash ms xs strings found t h = all_found hash xs ms (hash t) t (found t h)

-- ---- what a run posts

pub posted_heard : (s : Setup) (w : World) (trace : List Record) → IsSetup s → IsReached s w trace → (t : List ℕ)
    → is_among t w.posted ≡ true
    → is_among t w.hashed ≡ true
posted_heard s w trace setup is t h =
    let es = events_of trace in
    let last = last_world s es in
    let left = last_is s w trace is in
    let heard = (worlds_of_runs s es (run_of s w trace setup is)).messages.heard in
    let same : w.posted ≡ last.posted = ap (λ (x : World). x.posted) left.same in
    left.heard t (all_among (λ n. is_among n last.hashed) last.posted t heard (subst (λ ts. is_among t ts ≡ true) same h))

pub found_there : (s : Setup) (w : World) (trace : List Record) → IsSetup s → IsReached s w trace → evidence_of s.hash w.hashed ≡ None
    → AreFound s.hash w.hashed w.posted
found_there s w trace setup is clear = found_clear s.hash w.hashed w.posted clear (posted_heard s w trace setup is)
