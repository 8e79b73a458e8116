-- One event of a run: what it comes to, what it hashes and posts, and what is left of it.
use Rattle.std.specs.Prelude.{ℕ, ◌+◌, List, [], ◌∷◌, ◌++◌, map, Bool, not, nat_le, Option, Some, None, Result, Ok, Err}
use Rattle.spec_data.specs.Lists.{first_reason}
use Rattle.spec_bitcoin.specs.declared.tx.TxOut.{TxOut}
use Rattle.spec_bitcoin.specs.declared.tx.Tx.{Tx}
use Rattle.spec_bitcoin.specs.declared.label.Label.TheVariants as labels
use Rattle.spec_bitcoin.specs.Digests.{txid, txid_strings, opening_transaction}
use Rattle.spec_bitcoin.specs.Keys.{label_text}
use Rattle.spec_bitcoin.specs.Reading.{transaction_of}
use Rattle.spec_data.specs.Ranges.{last_height}
use Rattle.spec_compiler.specs.Transactions.{party_script}
use Rattle.spec_run.specs.declared.event.Event.{Event}
use Rattle.spec_run.specs.declared.event.Event.TheVariants as events
use Rattle.spec_run.specs.declared.outcome.Reason.{Reason}
use Rattle.spec_run.specs.declared.outcome.Reason.TheVariants as reason
use Rattle.spec_run.specs.declared.outcome.Record.{Record}
use Rattle.spec_run.specs.Setup.{Setup}
use Rattle.spec_data.specs.Messages.{noted_all, collision}
use Rattle.spec_run.specs.World.{ContractPosition, World}
use Rattle.spec_run.specs.Pending.{Pending, Answer, Went, Halted, Halt, done, posting, refused, unless, answer}
use Rattle.spec_run.specs.Owners.{paid_to}
use Rattle.spec_run.specs.Advertising.{advertise_pending}
use Rattle.spec_run.specs.Committing.{commit_pending}
use Rattle.spec_run.specs.Signing.{endorse_pending, init_pending, authorise_pending, sign_pending}
use Rattle.spec_run.specs.Revealing.{reveal_pending}
use Rattle.spec_run.specs.Giving.{give_pending}
use Rattle.spec_run.specs.Firing.{fire_init_pending, fire_pending}
use Rattle.spec_run.specs.Ledger.{made_from, reaches}

-- ---- the opening

-- the outputs of the header's deposits
abbrev pub opening_outputs : Setup → List TxOut
opening_outputs s = map {B = TxOut} (λ d. record { value = d.1; script = paid_to s (d.0) }) s.header.deposits

-- what is hashed before any event: the deposit labels, the deposit scripts, and the opening transaction's bytes with their hash
abbrev pub opening_strings : Setup → List (List ℕ)
opening_strings s =
    map (λ party. label_text (labels.Deposit party)) s.header.parties
    ++ (map (party_script s.hash) s.header.parties
    ++ txid_strings s.hash (opening_transaction (opening_outputs s)))

-- no contract output is there at the opening
abbrev pub holds_nothing : ℕ → Option ContractPosition
holds_nothing k = None

abbrev pub opening_world : Setup → World
opening_world s = record {
  tip = 0;
  outputs = made_from holds_nothing (txid s.hash (opening_transaction (opening_outputs s))) 0 (opening_outputs s);
  book = [];
  posted = [];
  advertised = [];
  promises = [];
  begun = [];
  hashed = noted_all [] (opening_strings s);
}

-- the first two different opening strings with one digest
abbrev pub opening_collision : Setup → Option (List ℕ × List ℕ)
opening_collision s = collision s.hash [] (opening_strings s)

-- ---- raw transactions and blocks

-- a raw transaction that was read, or the place of its fault
abbrev pub append_read : Setup → World → Result Tx ℕ → Pending
append_read s w (Ok tx) = reaches s w w tx
append_read s w (Err place) = refused w [] (reason.BadTx place)

-- `mine n`: the height stays within its bound
abbrev pub mine_row : World → ℕ → List (Bool × Reason)
mine_row w blocks = (not (nat_le (w.tip + blocks) last_height), reason.TimeLimit) ∷ []

abbrev pub mine_pending : World → ℕ → Pending
mine_pending w blocks = unless (first_reason (mine_row w blocks)) w [] (done (record w { tip = w.tip + blocks }) [])

-- ---- all events

-- what an event comes to, where nothing collides and nothing is guessed
abbrev pub pending : Setup → World → Event → Pending
pending s w (events.Advertise contract bindings) = advertise_pending s w contract bindings
pending s w (events.Commit contract party digests) = commit_pending s w contract party digests
pending s w (events.Endorse contract party) = endorse_pending s w contract party
pending s w (events.Init contract party) = init_pending s w contract party
pending s w (events.Authorise party output branch) = authorise_pending s w party output branch
pending s w (events.Reveal contract party secret) = reveal_pending s w contract party secret
pending s w (events.Post bytes) = posting w bytes None
pending s w (events.Sign party label digest) = sign_pending s w party label digest
pending s w (events.Give party inputs outputs) = give_pending s w party inputs outputs
pending s w (events.Append bytes) = append_read s w (transaction_of bytes)
pending s w (events.FireInit contract) = fire_init_pending s w contract
pending s w (events.Fire output branch) = fire_pending s w output branch
pending s w (events.Mine blocks) = mine_pending w blocks

-- what is left of an event in this world
abbrev pub event : Setup → World → Event → Answer
event s w e = answer s w (pending s w e)

-- ---- a run

abbrev pub record_of : Event → Pending → Record
record_of e d = record { event = e; outcome = d.outcome; tx = d.tx }

-- an event that went on, with what it came to and the world that it left
pub record Passed : Type 0 where
  pub event : Event
  pub pending : Pending
  pub world : World

-- the events that went on, up to the first halt, and the halt with its event
pub record Progress : Type 0 where
  pub passed : List Passed
  pub halt : Option (Event × Halt)

abbrev pub onto_passed : Passed → Progress → Progress
onto_passed first later = record { passed = first ∷ later.passed; halt = later.halt }

-- an event and those after it: they are played from the world that it left, unless it halts
abbrev pub goes_on : Event → Answer → (World → Progress) → Progress
goes_on e (Halted halt) later = record { passed = []; halt = Some (e, halt) }
goes_on e (Went d next) later = onto_passed (record { event = e; pending = d; world = next }) (later next)

-- these events, from this world on. Nothing else plays events: all that is said and printed of a run is read off this list
abbrev pub played_from : Setup → World → List Event → Progress
played_from s w [] = record { passed = []; halt = None }
played_from s w (e ∷ es) = goes_on e (event s w e) (λ next. played_from s next es)

-- the events of a run
abbrev pub played : Setup → List Event → Progress
played s es = played_from s (opening_world s) es
