-- Each event hashes the strings of its row, or where it is refused a prefix of them.
use Rattle.std.proofs.Common.{◌≡◌, ℕ, List, [], ◌++◌, Option, Some, None, Ok, Err, Result, true, false, refl, ◌∙◌}
use Rattle.std.proofs.lemmas.List.{append-nil}
use Rattle.spec_data.specs.Lists.{first_reason}
use Rattle.spec_bitcoin.specs.declared.tx.Tx.{Tx}
use Rattle.spec_bitcoin.specs.declared.verdict.Verdict.{Verdict}
use Rattle.spec_bitcoin.specs.declared.verdict.Verdict.TheVariants as verdicts
use Rattle.spec_bitcoin.specs.Reading.{transaction_of}
use Rattle.spec_run.specs.declared.event.Event.{Event}
use Rattle.spec_run.specs.declared.event.Event.TheVariants as events
use Rattle.spec_run.specs.declared.outcome.Reason.{Reason}
use Rattle.spec_run.specs.Setup.{Setup}
use Rattle.spec_run.specs.World.{World, live_position_at}
use Rattle.spec_run.specs.Compiled.{compiled_instance}
use Rattle.spec_run.specs.Pending.{Pending, unless}
use Rattle.spec_run.specs.Advertising.{advertise_row}
use Rattle.spec_run.specs.Committing.{commit_row, digest_row, committed_strings, strings_compiled, with_promise}
use Rattle.spec_run.specs.Signing.{endorse_row, init_row, authorise_row, sign_row, with_pairs}
use Rattle.spec_run.specs.Revealing.{reveal_row}
use Rattle.spec_run.specs.Giving.{give_row, given_pairs, gift}
use Rattle.spec_run.specs.Firing.{fire_init_row, fire_row, initial_by, taking_of_position, reaches_if}
use Rattle.spec_run.specs.Ledger.{judged, reaches, verdict_in}
use Rattle.spec_run.specs.Event.{pending, append_read, mine_row}
use Rattle.spec_run.specs.Hashing.{event_strings, judged_strings, reaching_strings, reaching_if, reaching_read}
use Rattle.spec_run.specs.Values.{is_refused}
use Rattle.theory_world.specs.Hashing.{EventsHashRows}

-- the pending effect hashes these strings, or a prefix of them where it is refused
record HashesOf (d : Pending) (xs : List (List ℕ)) : Type 0 where
  row : is_refused d.outcome ≡ false → d.hashes ≡ xs
  rest : List (List ℕ)
  prefix : is_refused d.outcome ≡ true → d.hashes ++ rest ≡ xs

-- it hashes just these, refused or not
just : (d : Pending) (xs : List (List ℕ)) → d.hashes ≡ xs → HashesOf d xs
just d xs e = record { row = λ h. e; rest = []; prefix = λ h. append-nil d.hashes ∙ e }

-- a refusal by a row of the event's own, before which these were hashed
own : (o : Option Reason) (w : World) (before rest : List (List ℕ)) (d : Pending) (xs : List (List ℕ)) → before ++ rest ≡ xs → HashesOf d xs
    → HashesOf (unless o w before d) xs
own None w before rest d xs e h = h
own (Some reason) w before rest d xs e h = record { row = λ q. cc; rest = rest; prefix = λ q. e }

by_verdict : (s : Setup) (w signed : World) (tx : Tx) (v : Verdict) → HashesOf (judged s w signed tx v) (judged_strings s signed tx v)
by_verdict s w signed tx (verdicts.Accepted spent made) = just _ _ refl
by_verdict s w signed tx (verdicts.Refused refusal) = just _ _ refl

reached : (s : Setup) (w signed : World) (tx : Tx) → HashesOf (reaches s w signed tx) (reaching_strings s signed tx)
reached s w signed tx = by_verdict s w signed tx (verdict_in s signed tx)

reached_if : (s : Setup) (w : World) (o : Option Tx) → HashesOf (reaches_if s w o) (reaching_if s w o)
reached_if s w None = just _ _ refl
reached_if s w (Some tx) = reached s w w tx

reached_read : (s : Setup) (w : World) (r : Result Tx ℕ) → HashesOf (append_read s w r) (reaching_read s w r)
reached_read s w (Ok tx) = reached s w w tx
reached_read s w (Err place) = just _ _ refl

hashes : (s : Setup) (w : World) (e : Event) → HashesOf (pending s w e) (event_strings s w e)
hashes s w (events.Advertise contract bindings) = own (first_reason (advertise_row s w contract bindings)) w [] _ _ _ refl (just _ _ refl)
hashes s w (events.Commit contract party digests) =
    let more = strings_compiled s (compiled_instance s (with_promise s w contract party digests) contract) in
    own (first_reason (commit_row s w contract party digests)) w [] _ _ _ refl
    (own (first_reason (digest_row s w contract party digests)) w (committed_strings s contract party) more _ _ refl (just _ _ refl))
hashes s w (events.Endorse contract party) = own (first_reason (endorse_row s w contract party)) w [] _ _ _ refl (just _ _ refl)
hashes s w (events.Init contract party) = own (first_reason (init_row s w contract party)) w [] _ _ _ refl (just _ _ refl)
hashes s w (events.Authorise party output branch) = own (first_reason (authorise_row s w party output branch)) w [] _ _ _ refl (just _ _ refl)
hashes s w (events.Reveal contract party secret) = own (first_reason (reveal_row s w contract party secret)) w [] _ _ _ refl (just _ _ refl)
hashes s w (events.Post bytes) = just _ _ refl
hashes s w (events.Sign party label digest) = own (first_reason (sign_row s party label)) w [] _ _ _ refl (just _ _ refl)
hashes s w (events.Give party inputs outputs) =
    own (first_reason (give_row s w party inputs outputs)) w [] _ _ _ refl
    (reached s w (with_pairs w (given_pairs s w party inputs outputs)) (gift s w party inputs outputs))
hashes s w (events.Append bytes) = reached_read s w (transaction_of bytes)
hashes s w (events.FireInit contract) =
    own (first_reason (fire_init_row s w contract)) w [] _ _ _ refl (reached_if s w (initial_by s (compiled_instance s w contract)))
hashes s w (events.Fire output branch) =
    own (first_reason (fire_row s w output branch)) w [] _ _ _ refl (reached_if s w (taking_of_position s w (live_position_at w output) branch))
hashes s w (events.Mine blocks) = own (first_reason (mine_row w blocks)) w [] _ _ _ refl (just _ _ refl)

pub events_hash_rows : EventsHashRows
events_hash_rows s w e =
    let h = hashes s w e in
    record { row = h.row; rest = h.rest; prefix = h.prefix }
