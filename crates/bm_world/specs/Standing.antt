-- Where the live contract outputs of a world stand: each at a choice of its contract.
use Rattle.std.specs.Prelude.{ℕ, List, Option, Some, None, option_map}
use Rattle.spec_run.specs.Setup.{Setup, contract_at}
use Rattle.spec_run.specs.World.{ContractPosition}
use Rattle.bm_compile.specs.Numbered.{Numbered}
use Rattle.bm_match.specs.Matches.{choice_in}
use Rattle.bm_match.specs.declared.found.Active.{Active}
use Rattle.bm_world_spend.specs.Purposes.{active_in}

-- the contract of what is held, and the number of its position's choice among the contract's nodes
abbrev pub node_in : Setup → Option ContractPosition → Option (ℕ × ℕ)
node_in s None = None
node_in s (Some held) = option_map (λ node. (held.contract, node)) (choice_in (contract_at s held.contract) held.position)

-- the same of a live contract output
abbrev pub node_of : Active → ℕ × ℕ
node_of active = (active.contract, active.node)

-- the same of what the output of this number holds, by what the contracts are compiled to
abbrev pub node_by : List (Option Numbered) → ℕ → Option ContractPosition → Option (ℕ × ℕ)
node_by compiled number held = option_map node_of (active_in compiled number held)
