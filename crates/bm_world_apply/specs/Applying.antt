-- How what was prepared is made.
use Rattle.std.specs.Prelude.{◌≡◌, ℕ, ◌+◌, ◌<◌, ◌≤◌, ◌^◌, List, ◌++◌, length, map, take, None}
use Rattle.spec_data.specs.Lists.{first_reason}
use Rattle.spec_data.specs.Ranges.{last_height}
use Rattle.spec_bitcoin.specs.Live.{IsNewTxid}
use Rattle.spec_bitcoin.specs.Verdict.{whole_row, spent_number}
use Rattle.spec_run.specs.declared.event.Event.{Event}
use Rattle.spec_run.specs.declared.outcome.Record.{Record}
use Rattle.spec_run.specs.Ledger.{live_from}
use Rattle.bm_exchange.specs.Exchanged.{Exchanged}
use Rattle.bm_world_coins.specs.Coined.{Coined}
use Rattle.bm_world_board.specs.declared.board.Board.{Board}
use Rattle.bm_world_board.specs.declared.pending_change.Appending.{Appending}
use Rattle.bm_world_board.specs.declared.pending_change.Change.{Change}
use Rattle.bm_world_board.specs.declared.pending_change.Change.TheVariants.{Nothing, Blocks, Advertise, Commit, Append}
use Rattle.bm_world_board.specs.declared.pending_change.PendingChange.{PendingChange}
use Rattle.bm_world_board.specs.Prepares.{world_of, changed, tx_in}

-- what the ledger asks of a transaction that is accepted
pub record CanAppend (c : Coined) (a : Appending) : Type 0 where
  pub room : length c.outputs + length a.tx.outputs < 2 ^ 32
  pub passed : first_reason (whole_row c.tip (live_from 0 c.outputs) a.tx) ≡ None
  pub numbers : a.spent ≡ map (spent_number (live_from 0 c.outputs)) a.tx.inputs
  pub new : IsNewTxid (live_from 0 c.outputs) a.txid

-- whether the change can be made on this board
abbrev pub IsMakeable : Board → Change → Type 0
IsMakeable b Nothing = Unit {0}
IsMakeable b (Blocks blocks) = b.coins.tip + blocks ≤ last_height
IsMakeable b (Advertise told) = Unit {0}
IsMakeable b (Commit p) = Unit {0}
IsMakeable b (Append a) = CanAppend b.coins a

-- nothing but posted strings has come
pub record Grows (old new : Exchanged) : Type 0 where
  pub rest : new ≡ record old { posted = new.posted }
  pub few : length old.posted ≤ length new.posted
  pub same : take (length old.posted) new.posted ≡ old.posted

-- the board after what was prepared
pub record Makes (old new : Board) (x : PendingChange) : Type 0 where
  pub world : (messages : List (List ℕ)) → world_of new messages ≡ record (changed (world_of old messages) x.change) { posted = old.exchange.posted ++ x.posts }
  pub header : new.header ≡ old.header
  pub contracts : new.contracts ≡ old.contracts
  pub accounts : new.accounts ≡ old.accounts
  pub known : new.known ≡ old.known
  pub compiled : new.compiled ≡ old.compiled

-- the record of an event of which this was prepared, still without its transaction
abbrev pub bare : Event → PendingChange → Record
bare event x = record { event = event; outcome = x.outcome; tx = None }

-- the record of an event of which this was prepared
abbrev pub recorded : Event → PendingChange → Record
recorded event x = record { event = event; outcome = x.outcome; tx = tx_in x.change }
