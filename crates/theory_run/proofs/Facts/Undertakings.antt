-- Which contracts are advertised and what is committed changes only where a contract is advertised or a party commits; and what is kept
-- of commitments is kept after every event.
use Rattle.std.proofs.Common.{◌≡◌, ℕ, List, [], ◌∷◌, ◌++◌, length, Bool, true, false, Option, Some, None, Result, Ok, Err, refl, sym, ap, ◌∙◌, subst}
use Rattle.std.specs.Prelude.{◌==◌, if◌then◌else◌}
use Rattle.std.specs.List.{list_any, AllByRecursion}
use Rattle.std.specs.Str.{bytes_eq}
use Rattle.std.proofs.lemmas.Bool.{or_left, not-false}
use Rattle.spec_data.specs.Lists.{is_among, look_up, first_reason}
use Rattle.spec_data.proofs.ListLemmas.{no_reason-none_true}
use Rattle.spec_calculus.specs.declared.parts.Advertised.{Advertised}
use Rattle.spec_bitcoin.specs.declared.tx.Tx.{Tx}
use Rattle.spec_bitcoin.specs.Keys.{Pair}
use Rattle.spec_bitcoin.specs.declared.verdict.Verdict.{Verdict}
use Rattle.spec_bitcoin.specs.declared.verdict.Verdict.TheVariants as verdicts
use Rattle.spec_bitcoin.specs.Reading.{transaction_of}
use Rattle.spec_run.specs.declared.event.Event.{Event}
use Rattle.spec_run.specs.declared.event.Event.TheVariants as events
use Rattle.spec_run.specs.declared.outcome.Reason.{Reason}
use Rattle.spec_run.specs.Setup.{Setup, is_honest, held_secret, bytes_or_none}
use Rattle.spec_run.specs.World.{World}
use Rattle.spec_run.specs.Compiled.{compiled_instance}
use Rattle.spec_run.specs.Conditions.{HashesBytes, IsDigest, IsEvent}
use Rattle.spec_run.specs.Pending.{Pending, unless, applied}
use Rattle.spec_run.specs.Ledger.{judged, verdict_in}
use Rattle.spec_run.specs.Signing.{with_pairs, endorse_row, init_row, authorise_row, sign_row}
use Rattle.spec_run.specs.Revealing.{reveal_row}
use Rattle.spec_run.specs.Giving.{given_pairs, give_row, gift}
use Rattle.spec_run.specs.Firing.{fire_init_row, fire_row, reaches_if, initial_by, taking_of_position}
use Rattle.spec_run.specs.World.{live_position_at}
use Rattle.spec_run.specs.Advertising.{arranged, deposit_names, advertise_row}
use Rattle.spec_run.specs.Committing.{secrets_at, own_digests, committed_digests, committed_strings, commit_row, digest_row}
use Rattle.spec_run.specs.Event.{append_read, mine_row, pending}
use Rattle.theory_world.proofs.Tests.{any-append}
use Rattle.theory_run.proofs.Steps.CommitSteps.{digests_looked, own_looked}
use Rattle.theory_run.specs.KeptPromises.{KeptPromises}
use Rattle.theory_run.proofs.Facts.KeptCommitments.{promises_stay, one_more_promise}

-- ---- where nothing is advertised or committed

pub record SameTold (w next : World) : Type 0 where
  pub advertised : next.advertised ≡ w.advertised
  pub promises : next.promises ≡ w.promises

pub same_told : (w : World) → SameTold w w
same_told w = record { advertised = refl; promises = refl }

unless_told : (r : Option Reason) (w : World) (hashes : List (List ℕ)) (d : Pending) → SameTold w d.world → SameTold w (unless r w hashes d).world
unless_told None w hashes d h = h
unless_told (Some r) w hashes d h = same_told w

judged_told : (s : Setup) (w : World) (book : List Pair) (tx : Tx) (v : Verdict) → SameTold w (judged s w (record w { book = book }) tx v).world
judged_told s w book tx (verdicts.Accepted spent made) = record { advertised = refl; promises = refl }
judged_told s w book tx (verdicts.Refused r) = same_told w

if_told : (s : Setup) (w : World) (o : Option Tx) → SameTold w (reaches_if s w o).world
if_told s w None = same_told w
if_told s w (Some tx) = judged_told s w w.book tx (verdict_in s w tx)

read_told : (s : Setup) (w : World) (r : Result Tx ℕ) → SameTold w (append_read s w r).world
read_told s w (Ok tx) = judged_told s w w.book tx (verdict_in s w tx)
read_told s w (Err place) = same_told w

-- neither advertises nor commits
abbrev pub IsQuiet : Event → Type 0
IsQuiet (events.Advertise contract bindings) = ⊥
IsQuiet (events.Commit contract party digests) = ⊥
IsQuiet _ = Unit {0}

pub told_stays : (s : Setup) (w : World) (e : Event) → IsQuiet e → SameTold w (pending s w e).world
told_stays s w (events.Advertise contract bindings) q = absurd q
told_stays s w (events.Commit contract party digests) q = absurd q
told_stays s w (events.Endorse contract party) q =
    unless_told (first_reason (endorse_row s w contract party)) w [] _ (record { advertised = refl; promises = refl })
told_stays s w (events.Init contract party) q = unless_told (first_reason (init_row s w contract party)) w [] _ (record { advertised = refl; promises = refl })
told_stays s w (events.Authorise party output branch) q =
    unless_told (first_reason (authorise_row s w party output branch)) w [] _ (record { advertised = refl; promises = refl })
told_stays s w (events.Reveal contract party secret) q = unless_told (first_reason (reveal_row s w contract party secret)) w [] _ (same_told w)
told_stays s w (events.Post bytes) q = same_told w
told_stays s w (events.Sign party label digest) q = unless_told (first_reason (sign_row s party label)) w [] _ (record { advertised = refl; promises = refl })
told_stays s w (events.Give party inputs outputs) q =
    let signed = with_pairs w (given_pairs s w party inputs outputs) in
    unless_told (first_reason (give_row s w party inputs outputs)) w [] _
    (judged_told s w signed.book (gift s w party inputs outputs) (verdict_in s signed (gift s w party inputs outputs)))
told_stays s w (events.Append bytes) q = read_told s w (transaction_of bytes)
told_stays s w (events.FireInit contract) q =
    unless_told (first_reason (fire_init_row s w contract)) w [] _ (if_told s w (initial_by s (compiled_instance s w contract)))
told_stays s w (events.Fire output branch) q =
    unless_told (first_reason (fire_row s w output branch)) w [] _ (if_told s w (taking_of_position s w (live_position_at w output) branch))
told_stays s w (events.Mine blocks) q = unless_told (first_reason (mine_row w blocks)) w [] _ (record { advertised = refl; promises = refl })

-- ---- commitments

-- a digest of the line
written_sized : (ds : List (List ℕ × List ℕ)) (n d : List ℕ) → AllByRecursion (λ x. IsDigest (x.1)) ds → look_up n ds ≡ Some d → length d ≡ 32
written_sized [] n d h l = cc
written_sized (x ∷ ds) n d h l = by_test (bytes_eq (x.0) n) l (written_sized ds n d h.1)
  where
    by_test : (b : Bool) → (if b then Some (x.1) else look_up n ds) ≡ Some d → (look_up n ds ≡ Some d → length d ≡ 32) → length d ≡ 32
    by_test true q ih = let z : x.1 ≡ d = cc in subst (λ y. length y ≡ 32) z h.0.size
    by_test false q ih = ih q

-- what is committed has 32 bytes
pub committed_sized : (s : Setup) → HashesBytes s.hash → (k : ℕ) (a : List ℕ) (ds : List (List ℕ × List ℕ)) → AllByRecursion (λ x. IsDigest (x.1)) ds
    → (n d : List ℕ) → look_up n (committed_digests s k a ds) ≡ Some d → is_among n (secrets_at s k a) ≡ true → length d ≡ 32
committed_sized s size k a ds h n d l i = by_honest (is_honest s a) l
  where
    by_honest : (b : Bool) → look_up n (if b then own_digests s a (secrets_at s k a) else ds) ≡ Some d → length d ≡ 32
    by_honest true q =
        let t = bytes_or_none (held_secret s a n) in
        let o : (let y : Option (List ℕ) = Some (s.hash t) in y) ≡ Some d = sym (own_looked s a n (secrets_at s k a) i) ∙ q in
        let z : s.hash t ≡ d = cc in
        subst (λ y. length y ≡ 32) z (size.size t)
    by_honest false q = written_sized ds n d h q

-- ---- every event

module _ (s : Setup) (size : HashesBytes s.hash) (w : World) (kept : KeptPromises s w) where
  refused_promises : (hashes posts : List (List ℕ)) → KeptPromises s (record w { hashed = hashes; posted = posts })
  refused_promises hashes posts = promises_stay s w (record w { hashed = hashes; posted = posts }) kept refl (λ k h. h)

  unless_promises : (r : Option Reason) (hashes : List (List ℕ)) (d : Pending) → (r ≡ None → KeptPromises s (applied w d))
      → KeptPromises s (applied w (unless r w hashes d))
  unless_promises None hashes d h = h refl
  unless_promises (Some r) hashes d h = refused_promises _ _

  quiet_promises : (e : Event) → IsQuiet e → KeptPromises s (applied w (pending s w e))
  quiet_promises e q =
      let t = told_stays s w e q in
      promises_stay s w (applied w (pending s w e)) kept t.promises (λ k h. ap (list_any (λ (a : Advertised). a.contract == k)) t.advertised ∙ h)

  pub promises_after : (e : Event) → IsEvent s e → KeptPromises s (applied w (pending s w e))
  promises_after (events.Advertise contract bindings) is = unless_promises (first_reason (advertise_row s w contract bindings)) [] _ (λ r.
      promises_stay s w (record w {
        advertised = w.advertised
            ++ record { contract = contract; bindings = arranged 0 (deposit_names s contract) bindings } ∷ [];
        posted = w.posted ++ [];
      }) kept refl
      (λ k h. any-append (λ (a : Advertised). a.contract == k) w.advertised _ ∙ or_left _ _ h))
  promises_after (events.Commit contract party digests) is = unless_promises (first_reason (commit_row s w contract party digests)) [] _ (λ r.
      let row = no_reason-none_true (commit_row s w contract party digests) r in
      unless_promises (first_reason (digest_row s w contract party digests)) (committed_strings s contract party) _ (λ q.
      one_more_promise s w contract party (committed_digests s contract party digests) _ _ kept (not-false _ row.1.0)
      (digests_looked s contract party digests (not-false _ row.1.1.1.1.0)) (committed_sized s size contract party digests is.1)))
  promises_after (events.Endorse contract party) is = quiet_promises (events.Endorse contract party) tt
  promises_after (events.Init contract party) is = quiet_promises (events.Init contract party) tt
  promises_after (events.Authorise party output branch) is = quiet_promises (events.Authorise party output branch) tt
  promises_after (events.Reveal contract party secret) is = quiet_promises (events.Reveal contract party secret) tt
  promises_after (events.Post bytes) is = quiet_promises (events.Post bytes) tt
  promises_after (events.Sign party label digest) is = quiet_promises (events.Sign party label digest) tt
  promises_after (events.Give party inputs outputs) is = quiet_promises (events.Give party inputs outputs) tt
  promises_after (events.Append bytes) is = quiet_promises (events.Append bytes) tt
  promises_after (events.FireInit contract) is = quiet_promises (events.FireInit contract) tt
  promises_after (events.Fire output branch) is = quiet_promises (events.Fire output branch) tt
  promises_after (events.Mine blocks) is = quiet_promises (events.Mine blocks) tt
