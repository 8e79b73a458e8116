-- The outputs of a deal: its deposits, the positions of its contract, and what it pays; which transaction makes which, and where they lie.
use Rattle.std.specs.Prelude.{ℕ, ◌+◌, ◌-◌, List, [], ◌∷◌, ◌++◌, length, take, filter, Bool, true, false, not, Option, Some, None}
use Rattle.std.specs.List.{find, list_any, flat_map}
use Rattle.std.specs.Str.{bytes_eq}
use Rattle.spec_data.specs.Lists.{look_up}
use Rattle.spec_terms.specs.Term as term
use Rattle.spec_terms.specs.Term.{auth, after, put_reveal, withdraw, split, Parts, no_part, part}
use Rattle.spec_terms.specs.Advert.{Advert}
use Rattle.spec_terms.specs.Core.{core}
use Rattle.spec_terms.specs.Paths.{at}
use Rattle.spec_terms.specs.Precondition.{Holding, deposits}
use Rattle.spec_terms.specs.declared.path.PathStep.{PathStep}
use Rattle.spec_bitcoin.specs.declared.tx.OutPoint.{OutPoint}
use Rattle.spec_bitcoin.specs.declared.tx.TxOut.{TxOut}
use Rattle.spec_bitcoin.specs.Live.{same_outpoint}
use Rattle.spec_compiler.specs.Keyed.Instance.{Instance}
use Rattle.spec_compiler.specs.Keyed.Transactions.{outpoint_or_none, part_position}
use Rattle.spec_tool.specs.declared.which.Which.{Which}
use Rattle.spec_tool.specs.declared.which.Which.TheVariants as names
use Rattle.spec_tool.specs.Keyed.Listed.{same_which}
use Rattle.spec_deal.specs.declared.transaction.Transaction.{Transaction}
use Rattle.spec_chain.specs.declared.output.Held.{Held}
use Rattle.spec_chain.specs.declared.output.Held.TheVariants.{Deposit, Position, Payout}
use Rattle.spec_chain.specs.declared.output.Output.{Output}

-- ---- what outputs are

abbrev pub is_position : Output → Bool
is_position o = elim o.held [
  | Deposit name ↦ false
  | Position path ↦ true
  | Payout party ↦ false
]

-- whether it is the deposit of this name
abbrev pub is_deposit : List ℕ → Output → Bool
is_deposit x o = elim o.held [
  | Deposit name ↦ bytes_eq name x
  | Position path ↦ false
  | Payout party ↦ false
]

-- ---- where they lie

abbrev pub is_there : OutPoint → Output → Bool
is_there place o = same_outpoint o.place place

-- whether one of them lies there
abbrev pub has_place : List Output → OutPoint → Bool
has_place outputs place = list_any (is_there place) outputs

-- the one that lies there
abbrev pub output_there : List Output → OutPoint → Option Output
output_there outputs place = find (is_there place) outputs

-- those that don't lie there
abbrev pub without : List Output → OutPoint → List Output
without outputs place = filter (λ o. not (is_there place o)) outputs

abbrev pub without_all : List Output → List OutPoint → List Output
without_all outputs [] = outputs
without_all outputs (place ∷ places) = without_all (without outputs place) places

-- ---- deposits

-- the deposits, with numbers from n on
abbrev pub deposits_from : Instance → ℕ → List (List ℕ × Holding) → List Output
deposits_from s n [] = []
deposits_from s n (d ∷ ds) =
    record { number = n; held = Deposit (d.0); place = outpoint_or_none (look_up (d.0) s.bound); value = (d.1).value }
    ∷ deposits_from s (n + 1) ds

-- the deposits of the precondition in order, with their numbers
abbrev pub deposit_outputs : Instance → List Output
deposit_outputs s = deposits_from s 0 (deposits s.advert.pre)

-- ---- what transactions make

-- the parts of the split at a path, from number k on
abbrev pub parts_held : List PathStep → ℕ → Parts → List Held
parts_held path k no_part = []
parts_held path k (part v c ps) = Position (part_position path k) ∷ parts_held path (k + 1) ps

-- what the core of the branch at a path makes
abbrev pub core_held : List PathStep → term.Guarded → List Held
core_held path (put_reveal puts reveals test next) = Position path ∷ []
core_held path (withdraw party) = Payout party ∷ []
core_held path (split parts) = parts_held path 0 parts
core_held path (auth party body) = []
core_held path (after height body) = []

abbrev pub branch_held : List PathStep → Option term.Guarded → List Held
branch_held path None = []
branch_held path (Some b) = core_held path (core b)

-- what each output of a transaction of this name is
abbrev pub held_by : Advert → Which → List Held
held_by advert names.Init = Position [] ∷ []
held_by advert (names.At path) = branch_held path (at advert.root path)

-- the outputs of the transaction of this txid from output k on, with numbers from n on
abbrev pub made_from : List ℕ → ℕ → ℕ → List Held → List TxOut → List Output
made_from txid k n [] outputs = []
made_from txid k n (h ∷ hs) [] = []
made_from txid k n (h ∷ hs) (o ∷ os) =
    record { number = n; held = h; place = record { txid = txid; vout = k }; value = o.value } ∷ made_from txid (k + 1) (n + 1) hs os

-- what a transaction makes, with numbers from n on
abbrev pub made_by : Advert → ℕ → Transaction → List Output
made_by advert n t = made_from t.txid 0 n (held_by advert t.which) t.tx.outputs

-- the positions of all transactions
abbrev pub position_outputs : Advert → List Transaction → List Output
position_outputs advert ts = filter is_position (flat_map (made_by advert 0) ts)

-- the deposits and the positions of a deal, wherever it stands
abbrev pub deal_outputs : Instance → List Transaction → List Output
deal_outputs s ts = deposit_outputs s ++ position_outputs s.advert ts

-- ---- transactions by name

-- the transaction of this name
abbrev pub transaction_named : List Transaction → Which → Option Transaction
transaction_named ts which = find (λ (t : Transaction). same_which t.which which) ts

-- the position whose branch has this path
abbrev pub position_of : List PathStep → List PathStep
position_of path = take (length path - 1) path
