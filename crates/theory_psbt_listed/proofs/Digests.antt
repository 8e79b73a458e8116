-- Every digest that is committed in a run is of bytes.
use Rattle.std.proofs.Common.{ℕ, List, [], ◌∷◌, ◌++◌, Bool, true, false, Option, Some, None, sym, subst}
use Rattle.std.specs.Prelude.{◌==◌, if◌then◌else◌}
use Rattle.std.specs.List.{AllByRecursion}
use Rattle.std.specs.Str.{bytes_eq}
use Rattle.spec_data.specs.Hashes.{IsBytes, HashesBytes}
use Rattle.spec_data.specs.Lists.{look_up, first_reason}
use Rattle.spec_compiler.specs.Scripts.{digest_of}
use Rattle.spec_run.specs.declared.event.Event.{Event}
use Rattle.spec_run.specs.declared.event.Event.TheVariants as events
use Rattle.spec_run.specs.declared.outcome.Reason.{Reason}
use Rattle.spec_run.specs.Setup.{Setup, is_honest, held_secret, bytes_or_none}
use Rattle.spec_run.specs.World.{Promise, World, digests_at}
use Rattle.spec_run.specs.Conditions.{IsDigest, IsEvent}
use Rattle.spec_run.specs.Pending.{Pending, unless}
use Rattle.spec_run.specs.Advertising.{or_else_this, arranged, advertise_row}
use Rattle.spec_run.specs.Committing.{secrets_at, own_digests, committed_digests, committed_strings, commit_row, digest_row}
use Rattle.spec_run.specs.Committing.{with_promise, committed_pending}
use Rattle.spec_run.specs.Event.{pending}
use Rattle.theory_bitcoin.proofs.Exact.{bytes_none}
use Rattle.theory_run.proofs.Facts.Undertakings.{IsQuiet, told_stays}
use Rattle.theory_run.proofs.Worlds.Committed.{all_push}

-- each digest of these is of bytes
abbrev pub BytesIn : List (List ℕ × List ℕ) → Type 0
BytesIn ds = AllByRecursion (λ (d : List ℕ × List ℕ). IsBytes (d.1)) ds

-- and each of these commitments
abbrev pub AreBytes : List Promise → Type 0
AreBytes ps = AllByRecursion (λ (p : Promise). BytesIn p.digests) ps

pub all_joined : {A : Type 0} (P : A → Type 0) (xs ys : List A) → AllByRecursion P xs → AllByRecursion P ys → AllByRecursion P (xs ++ ys)
all_joined P [] ys h k = k
all_joined P (x ∷ xs) ys h k = (h.0, all_joined P xs ys h.1 k)

-- ---- one commitment

looked : (entries : List (List ℕ × List ℕ)) (n : List ℕ) → BytesIn entries → IsBytes (or_else_this [] (look_up n entries))
looked [] n h = bytes_none
looked (x ∷ xs) n h = by_test (bytes_eq (x.0) n) (looked xs n h.1)
  where
    by_test : (b : Bool) → IsBytes (or_else_this [] (look_up n xs)) → IsBytes (or_else_this [] (if b then Some (x.1) else look_up n xs))
    by_test true ih = h.0
    by_test false ih = ih

arranged_bytes : (names : List (List ℕ)) (entries : List (List ℕ × List ℕ)) → BytesIn entries → BytesIn (arranged [] names entries)
arranged_bytes [] entries h = tt
arranged_bytes (n ∷ names) entries h = (looked entries n h, arranged_bytes names entries h)

own_bytes : (s : Setup) → HashesBytes s.hash → (a : List ℕ) (names : List (List ℕ)) → BytesIn (own_digests s a names)
own_bytes s size a [] = tt
own_bytes s size a (n ∷ names) = (size.bytes (bytes_or_none (held_secret s a n)), own_bytes s size a names)

written_bytes : (ds : List (List ℕ × List ℕ)) → AllByRecursion (λ (d : List ℕ × List ℕ). IsDigest (d.1)) ds → BytesIn ds
written_bytes [] h = tt
written_bytes (d ∷ ds) h = (h.0.bytes, written_bytes ds h.1)

committed_bytes : (s : Setup) → HashesBytes s.hash → (k : ℕ) (a : List ℕ) (ds : List (List ℕ × List ℕ))
    → AllByRecursion (λ (d : List ℕ × List ℕ). IsDigest (d.1)) ds → BytesIn (committed_digests s k a ds)
committed_bytes s size k a ds h = by_honest (is_honest s a)
  where
    by_honest : (b : Bool) → BytesIn (if b then own_digests s a (secrets_at s k a) else ds)
    by_honest true = own_bytes s size a (secrets_at s k a)
    by_honest false = written_bytes ds h

-- ---- every event

unless_bytes : (w : World) (r : Option Reason) (hashes : List (List ℕ)) (d : Pending) → AreBytes w.promises → AreBytes d.world.promises
    → AreBytes (unless r w hashes d).world.promises
unless_bytes w None hashes d kept h = h
unless_bytes w (Some r) hashes d kept h = kept

quiet_bytes : (s : Setup) (w : World) (e : Event) → IsQuiet e → AreBytes w.promises → AreBytes (pending s w e).world.promises
quiet_bytes s w e q kept = let t = told_stays s w e q in subst AreBytes (sym t.promises) kept

pub bytes_after : (s : Setup) → HashesBytes s.hash → (w : World) (e : Event) → IsEvent s e → AreBytes w.promises
    → AreBytes (pending s w e).world.promises
bytes_after s size w (events.Advertise k bs) is kept = unless_bytes w (first_reason (advertise_row s w k bs)) [] _ kept kept
bytes_after s size w (events.Commit k a ds) is kept =
    let strings = committed_strings s k a in
    let last = committed_pending s (with_promise s w k a ds) k a strings in
    let row = arranged_bytes (secrets_at s k a) (committed_digests s k a ds) (committed_bytes s size k a ds is.1) in
    let new : Promise = record { contract = k; party = a; digests = arranged [] (secrets_at s k a) (committed_digests s k a ds) } in
    unless_bytes w (first_reason (commit_row s w k a ds)) [] (unless (first_reason (digest_row s w k a ds)) w strings last) kept
    (unless_bytes w (first_reason (digest_row s w k a ds)) strings last kept
    (all_push (λ (p : Promise). BytesIn p.digests) w.promises new kept row))
bytes_after s size w (events.Endorse k a) is kept = quiet_bytes s w (events.Endorse k a) tt kept
bytes_after s size w (events.Init k a) is kept = quiet_bytes s w (events.Init k a) tt kept
bytes_after s size w (events.Authorise a n j) is kept = quiet_bytes s w (events.Authorise a n j) tt kept
bytes_after s size w (events.Reveal k a name) is kept = quiet_bytes s w (events.Reveal k a name) tt kept
bytes_after s size w (events.Post string) is kept = quiet_bytes s w (events.Post string) tt kept
bytes_after s size w (events.Sign a label digest) is kept = quiet_bytes s w (events.Sign a label digest) tt kept
bytes_after s size w (events.Give a inputs outputs) is kept = quiet_bytes s w (events.Give a inputs outputs) tt kept
bytes_after s size w (events.Append bytes) is kept = quiet_bytes s w (events.Append bytes) tt kept
bytes_after s size w (events.FireInit k) is kept = quiet_bytes s w (events.FireInit k) tt kept
bytes_after s size w (events.Fire n j) is kept = quiet_bytes s w (events.Fire n j) tt kept
bytes_after s size w (events.Mine blocks) is kept = quiet_bytes s w (events.Mine blocks) tt kept

-- ---- the digests of a contract

pub bytes_at : (ps : List Promise) (k : ℕ) → AreBytes ps → BytesIn (digests_at ps k)
bytes_at [] k h = tt
bytes_at (p ∷ ps) k h = by_test (p.contract == k) (bytes_at ps k h.1)
  where
    by_test : (b : Bool) → BytesIn (digests_at ps k) → BytesIn (if b then p.digests ++ digests_at ps k else digests_at ps k)
    by_test true ih = all_joined (λ (d : List ℕ × List ℕ). IsBytes (d.1)) p.digests (digests_at ps k) h.0 ih
    by_test false ih = ih

pub digest_bytes : (hashes : List (List ℕ × List ℕ)) (n : List ℕ) → BytesIn hashes → IsBytes (digest_of hashes n)
digest_bytes [] n h = bytes_none
digest_bytes (x ∷ xs) n h = by_test (bytes_eq (x.0) n) (digest_bytes xs n h.1)
  where
    by_test : (b : Bool) → IsBytes (digest_of xs n) → IsBytes (if b then x.1 else digest_of xs n)
    by_test true ih = h.0
    by_test false ih = ih
