-- What each event hashes, in order, as one table: the rows of docs/formats.md. That events do hash so is a theorem on worlds.
use Rattle.std.specs.Prelude.{List, [], ◌∷◌, ◌++◌, Option, Some, None, Result, Ok, Err, ℕ}
use Rattle.spec_bitcoin.specs.declared.tx.Tx.{Tx}
use Rattle.spec_bitcoin.specs.declared.verdict.Verdict.{Verdict}
use Rattle.spec_bitcoin.specs.declared.verdict.Verdict.TheVariants as verdicts
use Rattle.spec_bitcoin.specs.Keys.{label_text}
use Rattle.spec_bitcoin.specs.Reading.{transaction_of}
use Rattle.spec_run.specs.declared.event.Event.{Event}
use Rattle.spec_run.specs.declared.event.Event.TheVariants as events
use Rattle.spec_run.specs.Setup.{Setup}
use Rattle.spec_run.specs.World.{World, live_position_at}
use Rattle.spec_run.specs.Compiled.{compiled_instance}
use Rattle.spec_run.specs.Committing.{committed_strings, strings_compiled, with_promise}
use Rattle.spec_run.specs.Revealing.{own_secret}
use Rattle.spec_run.specs.Signing.{with_pairs}
use Rattle.spec_run.specs.Giving.{given_pairs, gift}
use Rattle.spec_run.specs.Firing.{initial_by, taking_of_position}
use Rattle.spec_run.specs.Ledger.{strings_of, items_of, verdict_in}

-- the strings of a transaction, and where it is accepted each item of its witnesses, input by input
abbrev pub judged_strings : Setup → World → Tx → Verdict → List (List ℕ)
judged_strings s w tx (verdicts.Accepted spent made) = strings_of s w tx ++ items_of tx
judged_strings s w tx (verdicts.Refused refusal) = strings_of s w tx

-- what a transaction that reaches the ledger of this world hashes
abbrev pub reaching_strings : Setup → World → Tx → List (List ℕ)
reaching_strings s w tx = judged_strings s w tx (verdict_in s w tx)

abbrev pub reaching_if : Setup → World → Option Tx → List (List ℕ)
reaching_if s w None = []
reaching_if s w (Some tx) = reaching_strings s w tx

abbrev pub reaching_read : Setup → World → Result Tx ℕ → List (List ℕ)
reaching_read s w (Ok tx) = reaching_strings s w tx
reaching_read s w (Err outpoint) = []

-- the strings of an event that no rule of its own refuses
abbrev pub event_strings : Setup → World → Event → List (List ℕ)
-- an honest party's secrets; and where all have committed then, what compiling hashes
event_strings s w (events.Commit contract party digests) =
    committed_strings s contract party ++ strings_compiled s (compiled_instance s (with_promise s w contract party digests) contract)
-- the label
event_strings s w (events.Sign party label digest) = label_text label ∷ []
-- the string
event_strings s w (events.Post bytes) = bytes ∷ []
event_strings s w (events.Reveal contract party secret) = own_secret s party secret ∷ []
-- the strings of the transaction that is handed to the ledger, and its witness items where it is accepted
event_strings s w (events.Give party inputs outputs) =
    reaching_strings s (with_pairs w (given_pairs s w party inputs outputs)) (gift s w party inputs outputs)
event_strings s w (events.Append bytes) = reaching_read s w (transaction_of bytes)
event_strings s w (events.FireInit contract) = reaching_if s w (initial_by s (compiled_instance s w contract))
event_strings s w (events.Fire output branch) = reaching_if s w (taking_of_position s w (live_position_at w output) branch)
-- nothing
event_strings s w (events.Advertise contract bindings) = []
event_strings s w (events.Endorse contract party) = []
event_strings s w (events.Init contract party) = []
event_strings s w (events.Authorise party output branch) = []
event_strings s w (events.Mine blocks) = []
