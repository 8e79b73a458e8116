-- Where the live contract outputs of a world lie: at positions of contracts that are compiled.
use Rattle.std.specs.Prelude.{◌≡◌, ℕ, Some}
use Rattle.spec_terms.specs.Term.{Contract}
use Rattle.spec_terms.specs.Paths.{contract_under}
use Rattle.spec_compiler.specs.Instance.{Instance}
use Rattle.spec_run.specs.Setup.{Setup}
use Rattle.spec_run.specs.World.{ContractPosition, World, live_position_at}
use Rattle.spec_run.specs.Compiled.{compiled_instance}

-- a position of a contract that is compiled
pub record IsPosition (s : Setup) (w : World) (held : ContractPosition) : Type 0 where
  pub instance : Instance
  pub compiled : compiled_instance s w held.contract ≡ Some instance
  pub choice : Contract
  pub stands : contract_under instance.advert.root held.position ≡ Some choice

-- every live contract output stands for one
pub record IsPlaced (s : Setup) (w : World) : Type 0 where
  pub held : (n : ℕ) (held : ContractPosition) → live_position_at w n ≡ Some held → IsPosition s w held
