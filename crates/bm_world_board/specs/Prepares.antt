-- What an event is to come to, as code has it.
use Rattle.std.specs.Prelude.{◌≡◌, ℕ, ◌+◌, ◌<◌, ◌≤◌, ◌^◌, List, [], ◌∷◌, ◌++◌, length, map, take, Option, Some, None}
use Rattle.bm_hash.specs.Trails.{Hashed}
use Rattle.spec_data.specs.Ranges.{last_height}
use Rattle.spec_bitcoin.specs.Digests.{txid}
use Rattle.spec_bitcoin.specs.Live.{IsNewTxid}
use Rattle.spec_bitcoin.specs.Verdict.{refusal_of, spent_number}
use Rattle.spec_bitcoin.specs.Keys.{Pair}
use Rattle.spec_bitcoin.specs.declared.tx.Tx.{Tx}
use Rattle.spec_run.specs.Setup.{Setup}
use Rattle.spec_run.specs.World.{World}
use Rattle.spec_run.specs.Pending.{Pending}
use Rattle.spec_run.specs.Ledger.{live_from, spend_from, made_from}
use Rattle.bm_world_coins.specs.Coined.{position_by}
use Rattle.bm_world_board.specs.declared.board.Board.{Board}
use Rattle.bm_world_board.specs.declared.pending_change.Appending.{Appending}
use Rattle.bm_world_board.specs.declared.pending_change.Change.{Change}
use Rattle.bm_world_board.specs.declared.pending_change.Change.TheVariants.{Nothing, Blocks, Advertise, Commit, Append}
use Rattle.bm_world_board.specs.declared.pending_change.PendingChange.{PendingChange}

-- what never changes, with this hash
abbrev pub setup_of : (List ℕ → List ℕ) → Board → Setup
setup_of hash b = record { hash = hash; header = b.header; contracts = b.contracts }

-- the world of what lies on the board, where these messages are hashed
abbrev pub world_of : Board → List (List ℕ) → World
world_of b messages = record {
  tip = b.coins.tip;
  outputs = b.coins.outputs;
  book = b.book;
  posted = b.exchange.posted;
  advertised = b.exchange.advertised;
  promises = b.exchange.promises;
  begun = b.begun;
  hashed = messages;
}

-- the transaction of a change
abbrev pub tx_in : Change → Option Tx
tx_in Nothing = None
tx_in (Blocks blocks) = None
tx_in (Advertise told) = None
tx_in (Commit p) = None
tx_in (Append a) = Some a.tx

-- the contracts that have begun, with one more where there is one
abbrev pub with_begun : Option ℕ → List ℕ → List ℕ
with_begun None begun = begun
with_begun (Some contract) begun = begun ++ contract ∷ []

-- the world after a change
abbrev pub changed : World → Change → World
changed w Nothing = w
changed w (Blocks blocks) = record w { tip = w.tip + blocks }
changed w (Advertise told) = record w { advertised = w.advertised ++ told ∷ [] }
changed w (Commit p) = record w { promises = w.promises ++ record { contract = p.contract; party = p.party; digests = p.digests } ∷ [] }
changed w (Append a) = record w {
  outputs = spend_from 0 a.spent w.outputs ++ made_from (position_by a.purpose.positions) a.txid 0 a.tx.outputs;
  begun = with_begun a.purpose.begins w.begun;
}

-- what was prepared in this world, after these strings were hashed
abbrev pub as_pending : World → List (List ℕ) → PendingChange → Pending
as_pending w hashes d = record { outcome = d.outcome; tx = tx_in d.change; world = changed w d.change; hashes = hashes; posts = d.posts; allowed = d.allowed }

-- a transaction that can be appended to this world, by what the ledger asks
pub record IsAppendable (hash : List ℕ → List ℕ) (w : World) (a : Appending) : Type 0 where
  pub room : length w.outputs + length a.tx.outputs < 2 ^ 32
  pub passed : refusal_of hash w.book w.tip (live_from 0 w.outputs) a.tx ≡ None
  pub numbers : a.spent ≡ map (spent_number (live_from 0 w.outputs)) a.tx.inputs
  pub id : a.txid ≡ txid hash a.tx
  pub new : IsNewTxid (live_from 0 w.outputs) a.txid

-- whether the change can be made in this world
abbrev pub IsReady : (List ℕ → List ℕ) → World → Change → Type 0
IsReady hash w Nothing = Unit {0}
IsReady hash w (Blocks blocks) = w.tip + blocks ≤ last_height
IsReady hash w (Advertise told) = Unit {0}
IsReady hash w (Commit p) = Unit {0}
IsReady hash w (Append a) = IsAppendable hash w a

-- what a call that pending effects leaves: the strings of the pending effect are hashed, what was prepared in this world is the pending effect, and the change can be made
pub record Prepares (hash : List ℕ → List ℕ) (w : World) (old new : List (List ℕ)) (d : Pending) (x : PendingChange) : Type 0 where
  pub same : as_pending w d.hashes x ≡ d
  pub hashed : Hashed hash old new d.hashes
  pub ready : IsReady hash w x.change

-- the pairs of a book are the first ones of another
pub record IsPrefix (prefix pairs : List Pair) : Type 0 where
  pub few : length prefix ≤ length pairs
  pub same : take (length prefix) pairs ≡ prefix

-- nothing but the book has grown
pub record Signs (old new : Board) : Type 0 where
  pub rest : new ≡ record old { book = new.book }
  pub book : IsPrefix old.book new.book
