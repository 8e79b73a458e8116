-- What is known of a moment in a run: of the world before an event, by the board and the messages at the end of the run.
use Rattle.std.specs.Prelude.{◌≡◌, ℕ, ◌≤◌, List, ◌++◌, length, map, true, Some}
use Rattle.spec_data.specs.Lists.{is_among}
use Rattle.spec_calculus.specs.declared.parts.Advertised.{Advertised}
use Rattle.spec_compiler.specs.Instance.{Instance}
use Rattle.spec_run.specs.declared.outcome.Outcome.{Outcome}
use Rattle.spec_run.specs.declared.outcome.Outcome.TheVariants as outcomes
use Rattle.spec_run.specs.declared.outcome.Record.{Record}
use Rattle.spec_run.specs.Setup.{Setup}
use Rattle.spec_run.specs.World.{Promise, World}
use Rattle.spec_run.specs.Compiled.{compiled_instance}
use Rattle.spec_run.specs.Pending.{applied}
use Rattle.spec_run.specs.Event.{pending, record_of}
use Rattle.theory_run.specs.KeptRuns.{KeptRun}
use Rattle.bm_hash.specs.Messages.{message_of}
use Rattle.bm_match.specs.Matches.{all_compiled}
use Rattle.bm_world_board.specs.declared.board.Board.{Board}
use Rattle.bm_world_board.specs.Accounts.{account_of}
use Rattle.bm_translate.specs.declared.running.Running.{Running}
use Rattle.bm_translate.specs.Shown.{watched_all}

-- the second world is one of the same run, later on
pub record IsLater (s : Setup) (w f : World) : Type 0 where
  -- what is compiled stays so
  pub compiled : (contract : ℕ) (instance : Instance) → compiled_instance s w contract ≡ Some instance → compiled_instance s f contract ≡ Some instance
  -- there are no fewer outputs
  pub outputs : length w.outputs ≤ length f.outputs
  -- what was told is there, and more may be
  pub advertised : (more : List Advertised) × (f.advertised ≡ w.advertised ++ more)
  pub promises : (more : List Promise) × (f.promises ≡ w.promises ++ more)
  pub posted : (more : List (List ℕ)) × (f.posted ≡ w.posted ++ more)

-- each of these strings is the message that stands for its digest
abbrev pub AreHeard : (List ℕ → List ℕ) → List (List ℕ) → List (List ℕ) → Type 0
AreHeard hash messages strings = (t : List ℕ) → is_among t strings ≡ true → message_of hash messages (hash t) ≡ Some t

-- the board and the messages are those of a run that ends in this world
pub record IsEnd (s : Setup) (b : Board) (messages : List (List ℕ)) (f : World) : Type 0 where
  pub header : b.header ≡ s.header
  pub contracts : b.contracts ≡ s.contracts
  pub accounts : b.accounts ≡ map (account_of s.hash) s.header.parties
  pub compiled : b.compiled ≡ all_compiled s f
  pub posted : b.exchange.posted ≡ f.posted
  pub promises : b.exchange.promises ≡ f.promises
  pub advertised : b.exchange.advertised ≡ f.advertised
  pub heard : AreHeard s.hash messages f.posted

-- a moment of that run: the configuration has all that a run keeps of this world, and the rest is known as it is then
pub record IsMoment (s : Setup) (b : Board) (messages : List (List ℕ)) (f w : World) (r : Running) : Type 0 where
  pub end : IsEnd s b messages f
  pub kept : KeptRun s f.posted r.config w
  pub later : IsLater s w f
  pub inits : r.inits ≡ r.config.init_authorised
  pub asked : r.asked ≡ r.config.branch_authorised
  pub secrets : r.secrets ≡ watched_all s.hash messages b.exchange.promises w.posted s.contracts

-- an event of that run, with its record and the world that it left
pub record IsTurn (s : Setup) (b : Board) (messages : List (List ℕ)) (f w next : World) (r : Running) (x : Record) : Type 0 where
  pub before : IsMoment s b messages f w r
  pub passed : x ≡ record_of x.event (pending s w x.event)
  pub left : next ≡ applied w (pending s w x.event)
  pub later : IsLater s next f

-- it is the outcome of a transaction that the ledger accepted
abbrev pub IsAccepted : Outcome → Type 0
IsAccepted outcomes.Done = ⊥
IsAccepted (outcomes.Accepted spent made lock) = Unit {0}
IsAccepted (outcomes.Refused reason) = ⊥
