-- Where the live contract outputs of a world lie, and how large the transactions are that can be fired.
use Rattle.std.specs.Prelude.{◌≡◌, ℕ, ◌≤◌, length, Some}
use Rattle.spec_data.specs.Ranges.{most_piece_bytes}
use Rattle.spec_terms.specs.Term.{Contract}
use Rattle.spec_bitcoin.specs.declared.tx.Tx.{Tx}
use Rattle.spec_compiler.specs.Instance.{Instance}
use Rattle.spec_compiler.specs.Transactions.{Standing}
use Rattle.spec_compiler.specs.ByPath.{position_at}
use Rattle.spec_run.specs.Setup.{Setup}
use Rattle.spec_run.specs.World.{ContractPosition, World, live_position_at}
use Rattle.spec_run.specs.Compiled.{compiled_instance}
use Rattle.spec_run.specs.Firing.{initial_by, taking_of_position}
use Rattle.theory_world.specs.Transactions.{IsNumbered}

-- what is held is a position of a contract that is compiled
pub record IsStanding (s : Setup) (w : World) (held : ContractPosition) : Type 0 where
  pub instance : Instance
  pub compiled : compiled_instance s w held.contract ≡ Some instance
  pub here : Standing
  pub choice : Contract
  pub stands : position_at s.hash instance held.position ≡ Some (here, choice)

-- so is what every live contract output holds
pub record AreStanding (s : Setup) (w : World) : Type 0 where
  pub held : (n : ℕ) (held : ContractPosition) → live_position_at w n ≡ Some held → IsStanding s w held

-- a transaction with few inputs and outputs, and numbers within their widths
pub record IsSmall (tx : Tx) : Type 0 where
  pub inputs : length tx.inputs ≤ most_piece_bytes
  pub outputs : length tx.outputs ≤ most_piece_bytes
  pub numbered : IsNumbered tx

-- so are the initial transactions, and those of branches of what is held
pub record AreSmall (s : Setup) (w : World) : Type 0 where
  pub initial : (contract : ℕ) (tx : Tx) → initial_by s (compiled_instance s w contract) ≡ Some tx → IsSmall tx
  pub taking : (output branch : ℕ) (tx : Tx) → taking_of_position s w (live_position_at w output) branch ≡ Some tx → IsSmall tx
