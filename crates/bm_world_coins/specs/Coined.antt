-- The outputs of a run with its height, as the ledger and as the world have them.
use Rattle.std.specs.Prelude.{ℕ, List, [], ◌∷◌, ◌++◌, length, Option, Some, None}
use Rattle.spec_terms.specs.declared.path.PathStep.TheVariants.{Part}
use Rattle.spec_bitcoin.specs.Live.{Chain}
use Rattle.spec_run.specs.World.{ContractPosition, Output}
use Rattle.spec_run.specs.Ledger.{live_from, spend_from}
use Rattle.bm_world_coins.specs.declared.positions.NewPositions.{NewPositions}
use Rattle.bm_world_coins.specs.declared.positions.NewPositions.TheVariants.{Deposits, Same, Parts}

-- what the ledger and the list of outputs stand for
pub record Coined : Type 0 where
  pub tip : ℕ
  -- all outputs that were made, spent ones too, in the order of their birth
  pub outputs : List Output

-- the ledger of these outputs
abbrev pub chain : Coined → Chain
chain c = record { tip = c.tip; births = length c.outputs; live = live_from 0 c.outputs }

-- the outputs where that of this number is spent
abbrev pub spend_one : ℕ → List Output → List Output
spend_one number os = spend_from 0 (number ∷ []) os

-- what output k of a transaction stands for
abbrev pub position_by : NewPositions → ℕ → Option ContractPosition
position_by Deposits k = None
position_by (Same contract position) k = Some (record { contract = contract; position = position })
position_by (Parts contract path) k = Some (record { contract = contract; position = path ++ Part k ∷ [] })
