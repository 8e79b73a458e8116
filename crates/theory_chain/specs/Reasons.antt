-- What is claimed of why a transaction is bad where it stands: each reason in words of its own, and that the first that holds is given.
use Rattle.std.specs.Prelude.{◌≡◌, ℕ, ◌<◌, ◌≤◌, List, [], true, false, Option, None, Some, slice_get, length, ◌⊎◌, ◌↔◌}
use Rattle.std.specs.List.{Contains}
use Rattle.spec_data.specs.Ranges.{most_item_bytes}
use Rattle.spec_bitcoin.specs.declared.tx.OutPoint.{OutPoint}
use Rattle.spec_bitcoin.specs.declared.tx.Tx.{Tx}
use Rattle.spec_bitcoin.specs.declared.tx.TxIn.{TxIn}
use Rattle.spec_bitcoin.specs.Meaning.{script_meaning}
use Rattle.spec_bitcoin.specs.Spelling.{stripped}
use Rattle.spec_bitcoin.specs.Verdict.{script_of, items_of}
use Rattle.spec_compiler.specs.Keyed.Instance.{Instance}
use Rattle.spec_deal.specs.declared.transaction.Input.{Input}
use Rattle.spec_deal.specs.declared.transaction.Transaction.{Transaction}
use Rattle.spec_deal.specs.declared.transaction.Wallet.{Wallet}
use Rattle.spec_chain.specs.declared.fault.ChainReason.{ChainReason}
use Rattle.spec_chain.specs.declared.fault.ChainReason.TheVariants as reasons
use Rattle.spec_chain.specs.declared.output.Output.{Output}
use Rattle.spec_chain.specs.Following.{State, own_transaction, which_shown}
use Rattle.spec_chain.specs.Outputs.{has_place, deal_outputs, position_outputs, transaction_named}
use Rattle.spec_chain.specs.Refusals.{refusal, takes_all}

-- ---- each reason

-- input k spends this place
pub record SpendsAt (inputs : List TxIn) (k : ℕ) (place : OutPoint) : Type 0 where
  pub input : TxIn
  pub there : slice_get inputs k ≡ Some input
  pub spends : input.prev ≡ place

-- it spends an outpoint of the deal that isn't live, or that an earlier input spends
pub record IsInputBad (s : Instance) (ts : List Transaction) (live : List Output) (inputs : List TxIn) (k : ℕ) : Type 0 where
  pub place : OutPoint
  pub spends : SpendsAt inputs k place
  pub ours : has_place (deal_outputs s ts) place ≡ true
  pub gone : (has_place live place ≡ false) ⊎ ((j : ℕ) × (j < k) × SpendsAt inputs j place)

-- it spends a position
pub record IsInputForeign (s : Instance) (ts : List Transaction) (inputs : List TxIn) (k : ℕ) : Type 0 where
  pub place : OutPoint
  pub spends : SpendsAt inputs k place
  pub position : has_place (position_outputs s.advert ts) place ≡ true

-- a witness has no item, or another script, or an item that is too long, or the script is false on its items even if every signature is good
abbrev pub IsShut : (List ℕ → List ℕ) → List ℕ → List (List ℕ) → Type 0
IsShut hash script witness =
    (witness ≡ []) ⊎ ((script_of witness ≡ script → ⊥)
    ⊎ (((item : List ℕ) × Contains (items_of witness) item × (most_item_bytes < length item))
    ⊎ (script_meaning hash takes_all script (items_of witness) ≡ false)))

-- of what a wallet brings nothing but an item is asked
abbrev pub IsShutBy : (List ℕ → List ℕ) → Option Wallet → List ℕ → List (List ℕ) → Type 0
IsShutBy hash None script witness = IsShut hash script witness
IsShutBy hash (Some w) script witness = witness ≡ []

-- the witness of input k doesn't open what the input spends
pub record IsWitnessBad (hash : List ℕ → List ℕ) (those : List Input) (inputs : List TxIn) (k : ℕ) : Type 0 where
  pub planned : Input
  pub input : TxIn
  pub is_planned : slice_get those k ≡ Some planned
  pub is_input : slice_get inputs k ≡ Some input
  pub shut : IsShutBy hash planned.wallet planned.spent.script input.witness

-- the reason holds of a transaction of a block of this height, where the deal stands so; the transaction is the deal's by its bytes
abbrev pub IsReason : (List ℕ → List ℕ) → Instance → List Transaction → State → ℕ → Tx → ChainReason → Type 0
IsReason hash s ts state height tx reasons.Form = ⊥
IsReason hash s ts state height tx reasons.Height = ⊥
IsReason hash s ts state height tx reasons.Tx = ⊥
IsReason hash s ts state height tx (reasons.Input k) = IsInputBad s ts state.live tx.inputs k
IsReason hash s ts state height tx (reasons.Foreign k) = (own_transaction ts tx ≡ None) × IsInputForeign s ts tx.inputs k
IsReason hash s ts state height tx reasons.Lock = (t : Transaction) × (own_transaction ts tx ≡ Some t) × (height ≤ tx.lock)
IsReason hash s ts state height tx (reasons.Witness k) =
    (t : Transaction) × (own_transaction ts tx ≡ Some t) × IsWitnessBad hash t.inputs tx.inputs k
IsReason hash s ts state height tx reasons.Branch =
    (t : Transaction) × (own_transaction ts tx ≡ Some t)
    × ((u : Transaction) → transaction_named ts (which_shown s tx t.which) ≡ Some u → u.bytes ≡ stripped tx → ⊥)

-- ---- which comes first

-- what is spent, then the lock, then the witnesses, then the branch
abbrev pub phase : ChainReason → ℕ
phase reasons.Form = 0
phase reasons.Height = 0
phase reasons.Tx = 0
phase (reasons.Input k) = 1
phase (reasons.Foreign k) = 1
phase reasons.Lock = 2
phase (reasons.Witness k) = 3
phase reasons.Branch = 4

-- of which input
abbrev pub number : ChainReason → ℕ
number reasons.Form = 0
number reasons.Height = 0
number reasons.Tx = 0
number (reasons.Input k) = k
number (reasons.Foreign k) = k
number reasons.Lock = 0
number (reasons.Witness k) = k
number reasons.Branch = 0

-- of one input `input` comes before `foreign`
abbrev pub side : ChainReason → ℕ
side reasons.Form = 0
side reasons.Height = 0
side reasons.Tx = 0
side (reasons.Input k) = 0
side (reasons.Foreign k) = 1
side reasons.Lock = 0
side (reasons.Witness k) = 0
side reasons.Branch = 0

abbrev pub IsBefore : ChainReason → ChainReason → Type 0
IsBefore a b =
    (phase a < phase b)
    ⊎ (((phase a ≡ phase b) × (number a < number b)) ⊎ ((phase a ≡ phase b) × (number a ≡ number b) × (side a < side b)))

-- the reason holds, and none that comes before it
pub record IsFirstReason (hash : List ℕ → List ℕ) (s : Instance) (ts : List Transaction) (state : State) (height : ℕ) (tx : Tx)
    (reason : ChainReason) : Type 0 where
  pub holds : IsReason hash s ts state height tx reason
  pub first : (other : ChainReason) → IsReason hash s ts state height tx other → IsBefore other reason → ⊥

-- a transaction is bad by the first reason that holds, and isn't where none does
abbrev pub BadExactly : Type 0
BadExactly =
    (hash : List ℕ → List ℕ) (s : Instance) (ts : List Transaction) (state : State) (height : ℕ) (tx : Tx)
    → ((reason : ChainReason) → (refusal hash s ts state height tx ≡ Some reason) ↔ IsFirstReason hash s ts state height tx reason)
    × ((refusal hash s ts state height tx ≡ None) ↔ ((reason : ChainReason) → IsReason hash s ts state height tx reason → ⊥))
