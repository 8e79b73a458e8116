-- The live value never grows, and stays where no transaction is accepted.
use Rattle.std.proofs.Common.{◌≡◌, ℕ, ◌≤◌, List, [], map, true, false, Option, Some, None, Result, Ok, Err, refl, sym, ap, subst, arith}
use Rattle.std.specs.Prelude.{nat_lt, is_some}
use Rattle.std.proofs.lemmas.Bool.Decides.{nat_tests}
use Rattle.spec_data.specs.Lists.{first_reason, are_distinct}
use Rattle.spec_data.proofs.ListLemmas.{no_reason-none_true, or_else-none}
use Rattle.spec_bitcoin.specs.declared.tx.Tx.{Tx}
use Rattle.spec_bitcoin.specs.declared.verdict.Refusal.{Refusal}
use Rattle.spec_bitcoin.specs.declared.verdict.Verdict.{Verdict}
use Rattle.spec_bitcoin.specs.declared.verdict.Verdict.TheVariants as verdicts
use Rattle.spec_bitcoin.specs.Digests.{txid}
use Rattle.spec_bitcoin.specs.Reading.{transaction_of}
use Rattle.spec_bitcoin.specs.Verdict.{whole_row, inputs_refusal, refusal_of, verdict_for, spent_number, spent_total, total_of, first_missing}
use Rattle.spec_run.specs.declared.event.Event.{Event}
use Rattle.spec_run.specs.declared.event.Event.TheVariants as events
use Rattle.spec_run.specs.declared.header.HeldSecret.{HeldSecret}
use Rattle.spec_run.specs.declared.outcome.Outcome.{Outcome}
use Rattle.spec_run.specs.declared.outcome.Reason.{Reason}
use Rattle.spec_run.specs.Setup.{Setup}
use Rattle.spec_data.specs.Messages.{collision}
use Rattle.spec_run.specs.World.{World, live_position_at}
use Rattle.spec_run.specs.Pending.{Pending, unless, apply, guess}
use Rattle.spec_run.specs.Values.{total_live, live_value, KeepsValue, ValueKept}
use Rattle.spec_run.specs.Compiled.{compiled_instance}
use Rattle.spec_run.specs.Advertising.{advertise_row}
use Rattle.spec_run.specs.Committing.{commit_row, digest_row, committed_strings}
use Rattle.spec_run.specs.Signing.{endorse_row, init_row, authorise_row, sign_row, with_pairs}
use Rattle.spec_run.specs.Revealing.{reveal_row}
use Rattle.spec_run.specs.Giving.{give_row, given_pairs, gift}
use Rattle.spec_run.specs.Firing.{fire_init_row, fire_row, reaches_if, initial_by, taking_of_position}
use Rattle.spec_run.specs.Ledger.{chain_of, live_from, verdict_in, spend_from, made_from, new_position, kind_of, judged, reaches}
use Rattle.spec_run.specs.Event.{append_read, mine_row, pending, event}
use Rattle.theory_world.proofs.Ledger.Found.{StandFor, stand_for, stand_for-distinct, none_missing, spent_values, values_at}
use Rattle.theory_world.proofs.Ledger.Spend.{total-append, total-made, spend-all}

-- ---- an accepted transaction

-- what the verdict says of a transaction that it accepts
pub record IsAccepted (s : Setup) (w : World) (tx : Tx) (spent : List ℕ) : Type 0 where
  pub numbers : spent ≡ map (spent_number (live_from 0 w.outputs)) tx.inputs
  pub none : refusal_of s.hash w.book w.tip (live_from 0 w.outputs) tx ≡ None

verdict_accepted : (s : Setup) (w : World) (tx : Tx) (r : Option Refusal) (spent made : List ℕ) → refusal_of s.hash w.book w.tip (live_from 0 w.outputs) tx ≡ r
    → verdict_for (chain_of w) tx r ≡ verdicts.Accepted spent made → IsAccepted s w tx spent
verdict_accepted s w tx None spent made h e = record { numbers = let x = ap spent_in e in sym x; none = h }
  where
    spent_in : Verdict → List ℕ
    spent_in (verdicts.Accepted ns ms) = ns
    spent_in (verdicts.Refused x) = []
verdict_accepted s w tx (Some x) spent made h e = cc

pub accepted_by : (s : Setup) (w : World) (tx : Tx) (spent made : List ℕ) → verdict_in s w tx ≡ verdicts.Accepted spent made → IsAccepted s w tx spent
accepted_by s w tx spent made e = verdict_accepted s w tx (refusal_of s.hash w.book w.tip (live_from 0 w.outputs) tx) spent made refl e

-- what an accepted transaction's inputs and outputs meet
pub record IsBalanced (w : World) (tx : Tx) (spent : List ℕ) : Type 0 where
  pub stand : StandFor w.outputs spent tx.inputs
  pub distinct : are_distinct spent ≡ true
  pub enough : total_of tx.outputs ≤ values_at w.outputs spent

pub balanced : (s : Setup) (w : World) (tx : Tx) (spent : List ℕ) → IsAccepted s w tx spent → IsBalanced w tx spent
balanced s w tx spent a =
    let live = live_from 0 w.outputs in
    let two = or_else-none (first_reason (whole_row w.tip live tx)) (inputs_refusal s.hash w.book live tx 0 tx.inputs) a.none in
    let row = no_reason-none_true (whole_row w.tip live tx) two.0 in
    let there = none_missing w.outputs 0 tx.inputs (is_none (first_missing live tx.inputs) row.1.1.1.0) in
    let stand = stand_for w.outputs tx.inputs there in
    let values = spent_values w.outputs tx.inputs there in
    let few : nat_lt (spent_total live tx.inputs) (total_of tx.outputs) ≡ false = row.1.1.1.1.1.0 in
    let enough : total_of tx.outputs ≤ spent_total live tx.inputs = grind (arith, nat_tests, few) in
    rw a.numbers (record {
      stand = stand;
      distinct = stand_for-distinct w.outputs (map (spent_number live) tx.inputs) tx.inputs stand row.1.1.0;
      enough = subst (λ n. total_of tx.outputs ≤ n) values enough;
    })
  where
    is_none : (r : Option ℕ) → is_some r ≡ false → r ≡ None
    is_none None h = refl
    is_none (Some n) h = cc

-- ---- pending effects

abbrev pub PendingKeeps : World → Pending → Type 0
PendingKeeps w d = KeepsValue w d.outcome d.world

-- the outputs are as they were
same_value : (w : World) (outcome : Outcome) (next : World) → next.outputs ≡ w.outputs → KeepsValue w outcome next
same_value w outcome next o =
    let v : live_value next ≡ live_value w = ap total_live o in
    record { no_more = omega (arith, v); the_same = λ x. v }

unless_keeps : (w : World) (r : Option Reason) (hashes : List (List ℕ)) (d : Pending) → PendingKeeps w d → PendingKeeps w (unless r w hashes d)
unless_keeps w None hashes d h = h
unless_keeps w (Some r) hashes d h = same_value w _ w refl

judged_keeps : (s : Setup) (w signed : World) (tx : Tx) (v : Verdict) → signed.outputs ≡ w.outputs → verdict_in s signed tx ≡ v
    → PendingKeeps w (judged s w signed tx v)
judged_keeps s w signed tx (verdicts.Refused r) o e = same_value w _ w refl
judged_keeps s w signed tx (verdicts.Accepted spent made) o e =
    let b = balanced s signed tx spent (accepted_by s signed tx spent made e) in
    let kind = kind_of s signed tx spent in
    let a = total-append (spend_from 0 spent signed.outputs) (made_from (new_position s kind) (txid s.hash tx) 0 tx.outputs) in
    let m = total-made (new_position s kind) (txid s.hash tx) 0 tx.outputs in
    let t = spend-all signed.outputs spent tx.inputs b.stand b.distinct in
    let v : total_live signed.outputs ≡ total_live w.outputs = ap total_live o in
    let f = b.enough in
    record { no_more = omega (arith, a, m, t, v, f); the_same = λ x. cc }

reaches_keeps : (s : Setup) (w signed : World) (tx : Tx) → signed.outputs ≡ w.outputs → PendingKeeps w (reaches s w signed tx)
reaches_keeps s w signed tx o = judged_keeps s w signed tx (verdict_in s signed tx) o refl

reaches_if_keeps : (s : Setup) (w : World) (tx : Option Tx) → PendingKeeps w (reaches_if s w tx)
reaches_if_keeps s w None = same_value w _ w refl
reaches_if_keeps s w (Some tx) = reaches_keeps s w w tx refl

append_keeps : (s : Setup) (w : World) (r : Result Tx ℕ) → PendingKeeps w (append_read s w r)
append_keeps s w (Ok tx) = reaches_keeps s w w tx refl
append_keeps s w (Err place) = same_value w _ w refl

pub pending_keeps : (s : Setup) (w : World) (e : Event) → PendingKeeps w (pending s w e)
pending_keeps s w (events.Advertise contract bindings) = unless_keeps w (first_reason (advertise_row s w contract bindings)) [] _ (same_value w _ _ refl)
pending_keeps s w (events.Commit contract party digests) =
    unless_keeps w (first_reason (commit_row s w contract party digests)) [] _
    (unless_keeps w (first_reason (digest_row s w contract party digests)) (committed_strings s contract party) _ (same_value w _ _ refl))
pending_keeps s w (events.Endorse contract party) = unless_keeps w (first_reason (endorse_row s w contract party)) [] _ (same_value w _ _ refl)
pending_keeps s w (events.Init contract party) = unless_keeps w (first_reason (init_row s w contract party)) [] _ (same_value w _ _ refl)
pending_keeps s w (events.Authorise party output branch) = unless_keeps w (first_reason (authorise_row s w party output branch)) [] _ (same_value w _ _ refl)
pending_keeps s w (events.Reveal contract party secret) = unless_keeps w (first_reason (reveal_row s w contract party secret)) [] _ (same_value w _ _ refl)
pending_keeps s w (events.Post bytes) = same_value w _ w refl
pending_keeps s w (events.Sign party label digest) = unless_keeps w (first_reason (sign_row s party label)) [] _ (same_value w _ _ refl)
pending_keeps s w (events.Give party inputs outputs) =
    unless_keeps w (first_reason (give_row s w party inputs outputs)) [] _
    (reaches_keeps s w (with_pairs w (given_pairs s w party inputs outputs)) (gift s w party inputs outputs) refl)
pending_keeps s w (events.Append bytes) = append_keeps s w (transaction_of bytes)
pending_keeps s w (events.FireInit contract) =
    unless_keeps w (first_reason (fire_init_row s w contract)) [] _ (reaches_if_keeps s w (initial_by s (compiled_instance s w contract)))
pending_keeps s w (events.Fire output branch) =
    unless_keeps w (first_reason (fire_row s w output branch)) [] _ (reaches_if_keeps s w (taking_of_position s w (live_position_at w output) branch))
pending_keeps s w (events.Mine blocks) = unless_keeps w (first_reason (mine_row w blocks)) [] _ (same_value w _ _ refl)

-- ---- events

applied_keeps : (w : World) (d : Pending) → PendingKeeps w d → (c : Option (List ℕ × List ℕ)) (g : Option HeldSecret) → ValueKept w (apply w d c g)
applied_keeps w d h (Some pair) g = tt
applied_keeps w d h None (Some held) = tt
applied_keeps w d h None None = record { no_more = h.no_more; the_same = h.the_same }

pub values_keep : (s : Setup) (w : World) (e : Event) → ValueKept w (event s w e)
values_keep s w e =
    let d = pending s w e in
    applied_keeps w d (pending_keeps s w e) (collision s.hash w.hashed d.hashes) (guess s w.posted d.posts d.allowed)
