-- The ledger of a run, and what an accepted transaction does to the world, over Bitcoin's transactions (BIP 141, BIP 143, BIP 144).
use Rattle.std.specs.Prelude.{ℕ, ◌+◌, List, [], ◌∷◌, ◌++◌, length, Bool, true, false, ◌&&◌, ◌==◌, if◌then◌else◌, Option, Some, None}
use Rattle.std.specs.List.{flat_map}
use Rattle.std.specs.Cmp.Lexicographic.{pointwise}
use Rattle.std.specs.Str.{bytes_eq}
use Rattle.spec_data.specs.Lists.{has_number}
use Rattle.spec_terms.specs.Term as term
use Rattle.spec_terms.specs.Term.{put_reveal, withdraw, split, auth, after, Contract, branches}
use Rattle.spec_terms.specs.Core.{core}
use Rattle.spec_terms.specs.Paths.{at, contract_under}
use Rattle.spec_terms.specs.Advert.{Advert}
use Rattle.spec_terms.specs.declared.path.PathStep.{PathStep}
use Rattle.spec_terms.specs.declared.path.PathStep.TheVariants.{Branch as To, Part as Into}
use Rattle.spec_bitcoin.specs.declared.tx.TxIn.{TxIn}
use Rattle.spec_bitcoin.specs.declared.tx.TxOut.{TxOut}
use Rattle.spec_bitcoin.specs.declared.tx.Tx.{Tx}
use Rattle.spec_bitcoin.specs.declared.verdict.Verdict.{Verdict}
use Rattle.spec_bitcoin.specs.declared.verdict.Verdict.TheVariants as verdicts
use Rattle.spec_bitcoin.specs.Digests.{txid}
use Rattle.spec_bitcoin.specs.Live.{Entry, Chain, same_outpoint}
use Rattle.spec_bitcoin.specs.Verdict.{verdict, transaction_strings}
use Rattle.spec_compiler.specs.Instance.{Instance}
use Rattle.spec_compiler.specs.Transactions.{tx_of, initial_unsigned}
use Rattle.spec_compiler.specs.Witness.{chosen_by}
use Rattle.spec_run.specs.declared.outcome.Outcome.TheVariants as outcomes
use Rattle.spec_run.specs.declared.outcome.Reason.TheVariants as reason
use Rattle.spec_run.specs.Setup.{Setup, contract_at}
use Rattle.spec_run.specs.World.{ContractPosition, Output, World, live_position_at}
use Rattle.spec_run.specs.Compiled.{compiled_instance}
use Rattle.spec_run.specs.Pending.{Pending, refused}

-- ---- the ledger in the world

-- an output without what the world knows besides
abbrev pub tx_out : Output → TxOut
tx_out o = record { value = o.value; script = o.script }

-- the live ones of the outputs from number k on
abbrev pub live_from : ℕ → List Output → List Entry
live_from k [] = []
live_from k (o ∷ os) = if o.live then (o.outpoint, (k, tx_out o)) ∷ live_from (k + 1) os else live_from (k + 1) os

-- the world's ledger
abbrev pub chain_of : World → Chain
chain_of w = record { tip = w.tip; births = length w.outputs; live = live_from 0 w.outputs }

-- the ledger's verdict in this world
abbrev pub verdict_in : Setup → World → Tx → Verdict
verdict_in s w tx = verdict s.hash w.book (chain_of w) tx

-- the outputs from number k on, where those of these numbers are spent
abbrev pub spend_from : ℕ → List ℕ → List Output → List Output
spend_from k numbers [] = []
spend_from k numbers (o ∷ os) = (if has_number k numbers then record o { live = false } else o) ∷ spend_from (k + 1) numbers os

-- the outputs of a transaction of this id from output k on, which hold what the function says
abbrev pub made_from : (ℕ → Option ContractPosition) → List ℕ → ℕ → List TxOut → List Output
made_from held txid k [] = []
made_from held txid k (o ∷ os) =
    record { outpoint = record { txid = txid; vout = k }; value = o.value; script = o.script; live = true; holds = held k }
    ∷ made_from held txid (k + 1) os

-- ---- what a transaction is to the contracts

pub data Kind : Type 0 where
  -- the initial transaction of a contract
  Begins : (contract : ℕ) → Kind
  -- another one that spends a live contract output: what it holds, its number, and the branch that the witness chooses
  Takes : (held : ContractPosition) → (output branch : ℕ) → Kind
  -- every other one
  Moves : Kind

-- whether two inputs are the same but for their witnesses
abbrev pub same_input : TxIn → TxIn → Bool
same_input a b = same_outpoint a.prev b.prev && bytes_eq a.script_sig b.script_sig && (a.sequence == b.sequence)

abbrev pub same_output : TxOut → TxOut → Bool
same_output a b = (a.value == b.value) && bytes_eq a.script b.script

-- whether two transactions are the same but for their witnesses
abbrev pub same_bare : Tx → Tx → Bool
same_bare a b =
    (a.version == b.version) && pointwise same_input a.inputs b.inputs && pointwise same_output a.outputs b.outputs && (a.lock == b.lock)

-- whether it is the initial transaction of a contract that is compiled so
abbrev pub is_initial : Setup → Tx → Option Instance → Bool
is_initial s tx None = false
is_initial s tx (Some instance) = same_bare tx (tx_of (initial_unsigned s.hash instance))

-- the first contract from number k on whose initial transaction it is
abbrev pub initial_from : Setup → World → Tx → ℕ → List Advert → Option ℕ
initial_from s w tx k [] = None
initial_from s w tx k (advert ∷ adverts) = if is_initial s tx (compiled_instance s w k) then Some k else initial_from s w tx (k + 1) adverts

-- the contract whose initial transaction it is
abbrev pub initial_of : Setup → World → Tx → Option ℕ
initial_of s w tx = initial_from s w tx 0 s.contracts

abbrev pub first_number : List ℕ → ℕ
first_number [] = 0
first_number (n ∷ ns) = n

-- what the first of the outputs of these numbers holds
abbrev pub first_position : World → List ℕ → Option ContractPosition
first_position w [] = None
first_position w (n ∷ ns) = live_position_at w n

-- the first input's witness
abbrev pub first_witness : List TxIn → List (List ℕ)
first_witness [] = []
first_witness (i ∷ is) = i.witness

-- how many branches there are, none without a position
abbrev pub count_of : Option Contract → ℕ
count_of None = 0
count_of (Some choice) = length (branches choice)

-- the position's choice in a contract
abbrev pub contract_in : Option Advert → List PathStep → Option Contract
contract_in None position = None
contract_in (Some advert) position = contract_under advert.root position

-- how many branches the position has
abbrev pub branch_count : Setup → ContractPosition → ℕ
branch_count s held = count_of (contract_in (contract_at s held.contract) held.position)

abbrev pub kind_by : Setup → Tx → List ℕ → Option ℕ → Option ContractPosition → Kind
kind_by s tx spent (Some contract) held = Begins contract
kind_by s tx spent None (Some held) = Takes held (first_number spent) (chosen_by (branch_count s held) (first_witness tx.inputs))
kind_by s tx spent None None = Moves

-- what a transaction that spends the outputs of these numbers is
abbrev pub kind_of : Setup → World → Tx → List ℕ → Kind
kind_of s w tx spent = kind_by s tx spent (initial_of s w tx) (first_position w spent)

-- the path of a branch of the position that is held
abbrev pub position_path : ContractPosition → ℕ → List PathStep
position_path held branch = held.position ++ To branch ∷ []

-- the branch at a path of a contract
abbrev pub branch_in : Option Advert → List PathStep → Option term.Guarded
branch_in None path = None
branch_in (Some advert) path = at advert.root path

-- the branch of this number of the position that is held
abbrev pub position_branch : Setup → ContractPosition → ℕ → Option term.Guarded
position_branch s held branch = branch_in (contract_at s held.contract) (position_path held branch)

-- what output k of the transaction of this core holds, where the branch has this path
abbrev pub core_holds : ℕ → List PathStep → term.Guarded → ℕ → Option ContractPosition
core_holds contract path (put_reveal puts reveals test next) k = Some (record { contract = contract; position = path })
core_holds contract path (split parts) k = Some (record { contract = contract; position = path ++ Into k ∷ [] })
core_holds contract path (withdraw party) k = None
core_holds contract path (auth party body) k = None
core_holds contract path (after height body) k = None

abbrev pub branch_holds : ℕ → List PathStep → Option term.Guarded → ℕ → Option ContractPosition
branch_holds contract path None k = None
branch_holds contract path (Some b) k = core_holds contract path (core b) k

-- what output k of a transaction of this kind holds
abbrev pub new_position : Setup → Kind → ℕ → Option ContractPosition
new_position s (Begins contract) k = Some (record { contract = contract; position = [] })
new_position s (Takes held output branch) k = branch_holds held.contract (position_path held branch) (position_branch s held branch) k
new_position s Moves k = None

-- the contracts that have begun, after a transaction of this kind
abbrev pub begun_after : Kind → List ℕ → List ℕ
begun_after (Begins contract) begun = begun ++ contract ∷ []
begun_after (Takes held output branch) begun = begun
begun_after Moves begun = begun

-- ---- a transaction that reaches the ledger

-- every item of every witness, input by input
abbrev pub items_of : Tx → List (List ℕ)
items_of tx = flat_map (λ i. i.witness) tx.inputs

-- the new outputs' numbers from n on, each with its value
abbrev pub made_with_values : ℕ → List TxOut → List (ℕ × ℕ)
made_with_values n [] = []
made_with_values n (o ∷ os) = (n, o.value) ∷ made_with_values (n + 1) os

-- the world after a transaction of this kind, which spends the outputs of these numbers
abbrev pub appended : Setup → World → Tx → List ℕ → Kind → World
appended s w tx spent kind = record w {
  outputs = spend_from 0 spent w.outputs ++ made_from (new_position s kind) (txid s.hash tx) 0 tx.outputs;
  begun = begun_after kind w.begun;
}

-- the strings of a transaction
abbrev pub strings_of : Setup → World → Tx → List (List ℕ)
strings_of s w tx = transaction_strings s.hash (live_from 0 w.outputs) tx

-- an accepted transaction, in the world with what its event has signed
abbrev pub accepted : Setup → World → Tx → List ℕ → Pending
accepted s signed tx spent = record {
  outcome = outcomes.Accepted spent (made_with_values (length signed.outputs) tx.outputs) tx.lock;
  tx = Some tx;
  world = appended s signed tx spent (kind_of s signed tx spent);
  hashes = strings_of s signed tx ++ items_of tx;
  posts = items_of tx;
  allowed = None;
}

abbrev pub judged : Setup → World → World → Tx → Verdict → Pending
judged s w signed tx (verdicts.Accepted spent made) = accepted s signed tx spent
judged s w signed tx (verdicts.Refused r) = refused w (strings_of s signed tx) (reason.Ledger r)

-- whatever reaches the ledger: w is the world before the event, and the other one has what the event has signed
abbrev pub reaches : Setup → World → World → Tx → Pending
reaches s w signed tx = judged s w signed tx (verdict_in s signed tx)
