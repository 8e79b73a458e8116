-- The world of a run: the ledger with its contract outputs, what is signed, and what the parties have told each other.
use Rattle.std.specs.Prelude.{ℕ, List, [], ◌∷◌, ◌++◌, Bool, false, ◌&&◌, ◌==◌, if◌then◌else◌, Option, Some, None, slice_get}
use Rattle.std.specs.List.{list_any, list_all}
use Rattle.std.specs.Option.{is_none}
use Rattle.std.specs.Str.{bytes_eq}
use Rattle.spec_terms.specs.declared.path.PathStep.{PathStep}
use Rattle.spec_bitcoin.specs.declared.tx.OutPoint.{OutPoint}
use Rattle.spec_calculus.specs.declared.parts.Advertised.{Advertised}
pub use Rattle.spec_calculus.specs.Beginning.{bindings_of as bindings_at}

-- what a contract output stands for: a contract by its number, and a position of it
pub record ContractPosition : Type 0 where
  pub contract : ℕ
  pub position : List PathStep

-- an output that was made; its birth number is its place in the world's list
pub record Output : Type 0 where
  pub outpoint : OutPoint
  pub value : ℕ
  pub script : List ℕ
  pub live : Bool
  -- what a contract output stands for
  pub holds : Option ContractPosition

-- the digests that a party has committed, each beside the name of its secret, in the precondition's order
pub record Promise : Type 0 where
  pub contract : ℕ
  pub party : List ℕ
  pub digests : List (List ℕ × List ℕ)

pub record World : Type 0 where
  -- the height, in blocks
  pub tip : ℕ
  -- all outputs that were made, spent ones too, in the order of their birth
  pub outputs : List Output
  -- the different pairs of key and digest, in the order of signing
  pub book : List (List ℕ × List ℕ)
  -- the strings that were posted, in order
  pub posted : List (List ℕ)
  -- the contracts that are advertised, each with its bindings in the precondition's order
  pub advertised : List Advertised
  pub promises : List Promise
  -- the contracts whose initial transaction was accepted
  pub begun : List ℕ
  -- the different messages that were hashed, in order
  pub hashed : List (List ℕ)

-- ---- outputs by their number

abbrev pub output_at : World → ℕ → Option Output
output_at w number = slice_get w.outputs number

-- a live output that is no contract output
abbrev pub is_deposit : Option Output → Bool
is_deposit None = false
is_deposit (Some o) = o.live && is_none o.holds

-- what a live contract output stands for
abbrev pub live_position : Option Output → Option ContractPosition
live_position None = None
live_position (Some o) = if o.live then o.holds else None

abbrev pub live_position_at : World → ℕ → Option ContractPosition
live_position_at w number = live_position (output_at w number)

-- ---- advertised contracts

-- whether the contract is advertised
abbrev pub is_advertised : World → ℕ → Bool
is_advertised w contract = list_any (λ a. a.contract == contract) w.advertised

-- ---- commitments

abbrev pub is_promise_of : ℕ → List ℕ → Promise → Bool
is_promise_of contract party p = (p.contract == contract) && bytes_eq p.party party

-- whether the party has committed its secrets of the contract
abbrev pub has_promised : World → ℕ → List ℕ → Bool
has_promised w contract party = list_any (is_promise_of contract party) w.promises

-- whether all these parties have
abbrev pub have_promised : World → ℕ → List (List ℕ) → Bool
have_promised w contract parties = list_all (has_promised w contract) parties

-- the digests that were committed for the contract, by all parties
abbrev pub digests_at : List Promise → ℕ → List (List ℕ × List ℕ)
digests_at [] contract = []
digests_at (p ∷ rest) contract = if p.contract == contract then p.digests ++ digests_at rest contract else digests_at rest contract
