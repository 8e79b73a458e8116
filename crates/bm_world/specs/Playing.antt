-- What an event leaves.
use Rattle.std.specs.Prelude.{◌≡◌, ℕ, ◌+◌, ◌*◌, ◌≤◌, List, [], ◌∷◌, ◌++◌, map, length, Bool, not, Option, Some, None}
use Rattle.spec_data.specs.Ranges.{most_header_deposits, most_gift_outputs}
use Rattle.spec_terms.specs.Advert.{Advert}
use Rattle.spec_run.specs.declared.event.Event.{Event}
use Rattle.spec_run.specs.declared.header.Header.{Header}
use Rattle.spec_run.specs.declared.outcome.Outcome.{Outcome}
use Rattle.spec_run.specs.declared.outcome.Record.{Record}
use Rattle.spec_run.specs.Setup.{Setup}
use Rattle.spec_run.specs.World.{World}
use Rattle.spec_run.specs.Conditions.{IsSetup}
use Rattle.spec_data.specs.Messages.{collision}
use Rattle.spec_data.specs.Messages.{noted_all as heard_all}
use Rattle.spec_bitcoin.specs.declared.tx.Tx.{Tx}
use Rattle.spec_bitcoin.specs.declared.verdict.Refusal.{Refusal}
use Rattle.spec_bitcoin.specs.Verdict.{refusal_of}
use Rattle.spec_run.specs.Ledger.{live_from, strings_of}
use Rattle.spec_run.specs.Values.{is_refused}
use Rattle.spec_run.specs.Pending.{Halted, applied}
use Rattle.spec_run.specs.Pending as run
use Rattle.spec_run.specs.Event.{pending, event, record_of}
use Rattle.bm_hash.specs.Messages.{evidence_of, noted_all}
use Rattle.bm_world.specs.declared.halt.Halt.{Halt}
use Rattle.bm_world.specs.declared.halt.Halt.TheVariants.{Collided, Guessed}
use Rattle.bm_world.specs.Halts.{halt_of, IsAgain}
use Rattle.bm_compile.specs.Numbered.{Numbered}
use Rattle.bm_match.specs.Matches.{all_compiled}
use Rattle.bm_world_board.specs.declared.board.Board.{Board}
use Rattle.bm_world_board.specs.Compiling.{placed}
use Rattle.bm_world_board.specs.declared.pending_change.PendingChange.{PendingChange}
use Rattle.bm_world_board.specs.Playable.{Kept}
use Rattle.bm_world_board.specs.Prepares.{world_of, Prepares}
use Rattle.bm_world.specs.Reached.{IsReached, AreFound}
use Rattle.bm_world_board.specs.Accounts.{account_of}
use Rattle.bm_world_board.specs.Secrets.{secret_strings}

-- what a world stands for
pub record Played (H : Type 0) : Type 0 where
  pub hasher : H
  pub header : Header
  pub contracts : List Advert
  pub world : World
  pub trace : List Record
  -- what it halted with
  pub halt : Option Halt

-- what never changes in it
abbrev pub setup_in : {H : Type 0} → (H → List ℕ → List ℕ) → Played H → Setup
setup_in digest p = record { hash = digest p.hasher; header = p.header; contracts = p.contracts }

-- ---- answers

-- the event went on: it came to its pending effect, which is recorded, and left this world
pub record Goes (s : Setup) (w next : World) (before later : List Record) (e : Event) (result : Outcome) : Type 0 where
  pub went : event s w e ≡ run.Went (pending s w e) next
  pub outcome : result ≡ (pending s w e).outcome
  pub trace : later ≡ before ++ record_of e (pending s w e) ∷ []

-- the first of these strings were hashed in turn, up to a collision at most
pub record HashedPrefix (hash : List ℕ → List ℕ) (old new all : List (List ℕ)) : Type 0 where
  pub prefix : List (List ℕ)
  pub back : List (List ℕ)
  pub strings : all ≡ prefix ++ back
  pub messages : new ≡ noted_all hash old prefix

-- the event halted: at a collision, which the messages then show, at a guess, or as memory ran out
pub record Halts (s : Setup) (w : World) (messages : List (List ℕ)) (e : Event) (halt : Halt) : Type 0 where
  pub hashed : HashedPrefix s.hash w.hashed messages (pending s w e).hashes
  pub cause : (h : run.Halt) → halt_of halt ≡ Some h → event s w e ≡ Halted h
  pub shown : (earlier later : List ℕ) → halt ≡ Collided earlier later → evidence_of s.hash messages ≡ Some (earlier, later)

-- ---- what a world keeps

-- an event comes after fewer records
abbrev pub most_records : ℕ
most_records = 16000

-- a board with these messages and records after some events, of which the last may have halted
pub record IsWorld (s : Setup) (b : Board) (messages : List (List ℕ)) (trace : List Record) (halt : Option Halt) : Type 0 where
  pub setup : IsSetup s
  pub accounts : b.accounts ≡ map (account_of s.hash) s.header.parties
  pub known : b.known ≡ secret_strings s.header.secrets
  pub compiled : b.compiled ≡ all_compiled s (world_of b messages)
  pub reached : IsReached s (world_of b messages) trace
  -- each string that was posted is the message of its digest, also after a collision
  pub found : AreFound s.hash messages b.exchange.posted
  pub few : length b.coins.outputs ≤ most_header_deposits + most_gift_outputs * length trace
  pub kept : halt ≡ None → Kept s (world_of b messages)
  pub clear : halt ≡ None → evidence_of s.hash messages ≡ None

-- ---- what an event leaves of a board

-- with this contract placed, the board has what the contracts are compiled to after an event
abbrev pub IsCompiledAfter : Setup → World → List (Option Numbered) → Event → Option (ℕ × Numbered) → Type 0
IsCompiledAfter s w compiled e entry = placed entry compiled ≡ all_compiled s (pending s w e).world

-- the event goes on, these are its messages, and this was prepared in the second world, with the contract that is compiled then
pub record Passes (s : Setup) (w v : World) (messages : List (List ℕ)) (compiled : List (Option Numbered)) (e : Event) (x : PendingChange)
    (entry : Option (ℕ × Numbered)) : Type 0 where
  pub went : event s w e ≡ run.Went (pending s w e) (applied w (pending s w e))
  pub prepares : Prepares s.hash v w.hashed messages (pending s w e) x
  pub placed : IsCompiledAfter s w compiled e entry

-- the event would go on, these are then the messages, and whether it wouldn't be refused
pub record Tests (s : Setup) (w : World) (messages : List (List ℕ)) (e : Event) (result : Bool) : Type 0 where
  pub went : event s w e ≡ run.Went (pending s w e) (applied w (pending s w e))
  pub hashed : messages ≡ heard_all w.hashed (pending s w e).hashes
  pub clear : evidence_of s.hash messages ≡ None
  pub passes : result ≡ not (is_refused (pending s w e).outcome)

-- what never changes is the same
pub record SameBoard (old new : Board) : Type 0 where
  pub header : new.header ≡ old.header
  pub contracts : new.contracts ≡ old.contracts
  pub accounts : new.accounts ≡ old.accounts
  pub known : new.known ≡ old.known

-- the event went on, and left this board with these messages
pub record GoesOn (s : Setup) (w : World) (b : Board) (messages : List (List ℕ)) (before later : List Record) (e : Event)
    (result : Outcome) : Type 0 where
  pub goes : Goes s w (world_of b messages) before later e result
  pub compiled : b.compiled ≡ all_compiled s (world_of b messages)
  pub clear : evidence_of s.hash messages ≡ None

-- ---- what a call leaves

-- the same setup
pub record SameSetup {H : Type 0} (old new : Played H) : Type 0 where
  pub hasher : new.hasher ≡ old.hasher
  pub header : new.header ≡ old.header
  pub contracts : new.contracts ≡ old.contracts

-- an event went on, in a run that hadn't halted
pub record Went {H : Type 0} (digest : H → List ℕ → List ℕ) (old new : Played H) (e : Event) (result : Outcome) : Type 0 where
  pub setup : SameSetup old new
  pub going : (old.halt ≡ None) × (new.halt ≡ None)
  pub goes : Goes (setup_in digest old) old.world new.world old.trace new.trace e result

-- a call halted the run by this cause, or came after a halt
pub record StoppedBy {H : Type 0} (old new : Played H) (halt : Halt) (why : Type 0) : Type 0 where
  pub setup : SameSetup old new
  pub kept : new.world ≡ record old.world { hashed = new.world.hashed }
  pub trace : new.trace ≡ old.trace
  pub halted : old.halt ≡ None → new.halt ≡ Some halt
  -- the same answer again, unless memory is short, and nothing changes any more
  pub again : (earlier : Halt) → old.halt ≡ Some earlier → IsAgain earlier halt × (new ≡ old)
  pub cause : old.halt ≡ None → why

-- an event halted, or came after a halt
abbrev pub Stopped : {H : Type 0} → (H → List ℕ → List ℕ) → Played H → Played H → Event → Halt → Type 0
Stopped digest old new e halt = StoppedBy old new halt (Halts (setup_in digest old) old.world new.world.hashed e halt)

-- ---- what a transaction or an event would come to

-- only more is hashed
pub record OnlyHears {H : Type 0} (old new : Played H) (hashed : List (List ℕ)) : Type 0 where
  pub setup : SameSetup old new
  pub going : (old.halt ≡ None) × (new.halt ≡ None)
  pub world : new.world ≡ record old.world { hashed = hashed }
  pub trace : new.trace ≡ old.trace

-- the ledger said this of a transaction, whose strings are hashed and collide with none
pub record Judged {H : Type 0} (digest : H → List ℕ → List ℕ) (old new : Played H) (tx : Tx) (result : Option Refusal) : Type 0 where
  pub hears : OnlyHears old new (heard_all old.world.hashed (strings_of (setup_in digest old) old.world tx))
  pub calm : collision (setup_in digest old).hash old.world.hashed (strings_of (setup_in digest old) old.world tx) ≡ None
  pub refusal : result ≡ refusal_of (setup_in digest old).hash old.world.book old.world.tip (live_from 0 old.world.outputs) tx

-- a transaction that was judged halted the run: its strings collided, as the messages then show, or memory was short
pub record JudgedHalts (hash : List ℕ → List ℕ) (old new strings : List (List ℕ)) (halt : Halt) : Type 0 where
  pub hashed : HashedPrefix hash old new strings
  pub collided : (earlier later : List ℕ) → halt ≡ Collided earlier later → collision hash old strings ≡ Some (earlier, later)
  pub shown : (earlier later : List ℕ) → halt ≡ Collided earlier later → evidence_of hash new ≡ Some (earlier, later)
  pub unguessed : (party secret : List ℕ) → halt ≡ Guessed party secret → ⊥

-- an event would go on, and come to this
pub record Tested {H : Type 0} (digest : H → List ℕ → List ℕ) (old new : Played H) (e : Event) (result : Bool) : Type 0 where
  pub hears : OnlyHears old new (heard_all old.world.hashed (pending (setup_in digest old) old.world e).hashes)
  pub goes : event (setup_in digest old) old.world e
      ≡ run.Went (pending (setup_in digest old) old.world e) (applied old.world (pending (setup_in digest old) old.world e))
  pub passes : result ≡ not (is_refused (pending (setup_in digest old) old.world e).outcome)

abbrev pub StoppedJudging : {H : Type 0} → (H → List ℕ → List ℕ) → Played H → Played H → Tx → Halt → Type 0
StoppedJudging digest old new tx halt = StoppedBy old new halt (
    JudgedHalts (setup_in digest old).hash old.world.hashed new.world.hashed (strings_of (setup_in digest old) old.world tx) halt)
