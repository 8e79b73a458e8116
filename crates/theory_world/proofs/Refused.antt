-- A refused event leaves the world as it was, but for the messages that were hashed.
use Rattle.std.proofs.Common.{◌≡◌, ℕ, List, [], ◌++◌, true, Option, Some, None, Result, Ok, Err, refl, ◌∙◌, ap, append-nil}
use Rattle.spec_bitcoin.specs.declared.tx.Tx.{Tx}
use Rattle.spec_bitcoin.specs.declared.verdict.Verdict.{Verdict}
use Rattle.spec_bitcoin.specs.declared.verdict.Verdict.TheVariants as verdicts
use Rattle.spec_bitcoin.specs.Reading.{transaction_of}
use Rattle.spec_data.specs.Lists.{first_reason}
use Rattle.spec_run.specs.declared.event.Event.{Event}
use Rattle.spec_run.specs.declared.event.Event.TheVariants as events
use Rattle.spec_run.specs.declared.header.HeldSecret.{HeldSecret}
use Rattle.spec_run.specs.declared.outcome.Reason.{Reason}
use Rattle.spec_run.specs.Setup.{Setup}
use Rattle.spec_data.specs.Messages.{noted_all, collision}
use Rattle.spec_run.specs.World.{World, live_position_at}
use Rattle.spec_run.specs.Pending.{Pending, unless, applied, apply, guess}
use Rattle.spec_run.specs.Values.{is_refused, RefusedKept}
use Rattle.spec_run.specs.Compiled.{compiled_instance}
use Rattle.spec_run.specs.Advertising.{advertise_row}
use Rattle.spec_run.specs.Committing.{commit_row, digest_row, committed_strings}
use Rattle.spec_run.specs.Signing.{endorse_row, init_row, authorise_row, sign_row}
use Rattle.spec_run.specs.Revealing.{reveal_row}
use Rattle.spec_run.specs.Giving.{give_row, given_pairs, gift}
use Rattle.spec_run.specs.Signing.{with_pairs}
use Rattle.spec_run.specs.Firing.{fire_init_row, fire_row, reaches_if, initial_by, taking_of_position}
use Rattle.spec_run.specs.Ledger.{judged, verdict_in, reaches}
use Rattle.spec_run.specs.Event.{append_read, mine_row, pending, event}

-- the pending effect leaves this world, and posts nothing
pub record IsQuiet (w : World) (d : Pending) : Type 0 where
  pub world : d.world ≡ w
  pub posts : d.posts ≡ []

-- where the pending effect is refused, it is quiet
abbrev pub QuietIfRefused : World → Pending → Type 0
QuietIfRefused w d = is_refused d.outcome ≡ true → IsQuiet w d

unless_quiet : (w : World) (r : Option Reason) (hashes : List (List ℕ)) (d : Pending) → QuietIfRefused w d → QuietIfRefused w (unless r w hashes d)
unless_quiet w None hashes d h = h
unless_quiet w (Some r) hashes d h = λ e. record { world = refl; posts = refl }

judged_quiet : (s : Setup) (w signed : World) (tx : Tx) (v : Verdict) → QuietIfRefused w (judged s w signed tx v)
judged_quiet s w signed tx (verdicts.Accepted spent made) = λ e. cc
judged_quiet s w signed tx (verdicts.Refused r) = λ e. record { world = refl; posts = refl }

reaches_quiet : (s : Setup) (w signed : World) (tx : Tx) → QuietIfRefused w (reaches s w signed tx)
reaches_quiet s w signed tx = judged_quiet s w signed tx (verdict_in s signed tx)

reaches_if_quiet : (s : Setup) (w : World) (tx : Option Tx) → QuietIfRefused w (reaches_if s w tx)
reaches_if_quiet s w None = λ e. record { world = refl; posts = refl }
reaches_if_quiet s w (Some tx) = reaches_quiet s w w tx

append_quiet : (s : Setup) (w : World) (r : Result Tx ℕ) → QuietIfRefused w (append_read s w r)
append_quiet s w (Ok tx) = reaches_quiet s w w tx
append_quiet s w (Err place) = λ e. record { world = refl; posts = refl }

pending_quiet : (s : Setup) (w : World) (e : Event) → QuietIfRefused w (pending s w e)
pending_quiet s w (events.Advertise contract bindings) = unless_quiet w (first_reason (advertise_row s w contract bindings)) [] _ (λ e. cc)
pending_quiet s w (events.Commit contract party digests) =
    unless_quiet w (first_reason (commit_row s w contract party digests)) [] _
    (unless_quiet w (first_reason (digest_row s w contract party digests)) (committed_strings s contract party) _ (λ e. cc))
pending_quiet s w (events.Endorse contract party) = unless_quiet w (first_reason (endorse_row s w contract party)) [] _ (λ e. cc)
pending_quiet s w (events.Init contract party) = unless_quiet w (first_reason (init_row s w contract party)) [] _ (λ e. cc)
pending_quiet s w (events.Authorise party output branch) = unless_quiet w (first_reason (authorise_row s w party output branch)) [] _ (λ e. cc)
pending_quiet s w (events.Reveal contract party secret) = unless_quiet w (first_reason (reveal_row s w contract party secret)) [] _ (λ e. cc)
pending_quiet s w (events.Post bytes) = λ e. cc
pending_quiet s w (events.Sign party label digest) = unless_quiet w (first_reason (sign_row s party label)) [] _ (λ e. cc)
pending_quiet s w (events.Give party inputs outputs) =
    unless_quiet w (first_reason (give_row s w party inputs outputs)) [] _
    (reaches_quiet s w (with_pairs w (given_pairs s w party inputs outputs)) (gift s w party inputs outputs))
pending_quiet s w (events.Append bytes) = append_quiet s w (transaction_of bytes)
pending_quiet s w (events.FireInit contract) =
    unless_quiet w (first_reason (fire_init_row s w contract)) [] _ (reaches_if_quiet s w (initial_by s (compiled_instance s w contract)))
pending_quiet s w (events.Fire output branch) =
    unless_quiet w (first_reason (fire_row s w output branch)) [] _ (reaches_if_quiet s w (taking_of_position s w (live_position_at w output) branch))
pending_quiet s w (events.Mine blocks) = unless_quiet w (first_reason (mine_row w blocks)) [] _ (λ e. cc)

-- a quiet pending effect leaves all but the messages
quiet_applied : (w : World) (d : Pending) → IsQuiet w d → applied w d ≡ record w { hashed = noted_all w.hashed d.hashes }
quiet_applied w d q =
    let posted : w.posted ++ d.posts ≡ w.posted = ap (λ ps. w.posted ++ ps) q.posts ∙ append-nil w.posted in
    λ i. record (q.world i) { hashed = noted_all w.hashed d.hashes; posted = posted i }

applied_kept : (w : World) (d : Pending) → QuietIfRefused w d → (c : Option (List ℕ × List ℕ)) (g : Option HeldSecret) → RefusedKept w (apply w d c g)
applied_kept w d h (Some pair) g = tt
applied_kept w d h None (Some held) = tt
applied_kept w d h None None = λ e. quiet_applied w d (h e)

pub refusals_keep : (s : Setup) (w : World) (e : Event) → RefusedKept w (event s w e)
refusals_keep s w e =
    let d = pending s w e in
    applied_kept w d (pending_quiet s w e) (collision s.hash w.hashed d.hashes) (guess s w.posted d.posts d.allowed)
