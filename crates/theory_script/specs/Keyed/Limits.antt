-- What is claimed of the limits that Bitcoin's consensus sets to scripts: that of a position meets none of them, whether it opens or
-- not, whatever the keys are.
use Rattle.std.specs.Prelude.{◌≡◌, ℕ, ◌≤◌, List, length, Bool, true, Some, reverse}
use Rattle.spec_data.specs.Ranges.{most_script_bytes}
use Rattle.spec_terms.specs.Term.{Contract}
use Rattle.spec_terms.specs.declared.path.PathStep.{PathStep}
use Rattle.spec_bitcoin.specs.declared.script.Op.{Op}
use Rattle.spec_bitcoin.specs.Scripts.{script_ops}
use Rattle.spec_bitcoin.specs.Meaning.{within_limits, meaning, script_meaning}
use Rattle.spec_compiler.specs.Keyed.Keys.{Keys}
use Rattle.spec_compiler.specs.Scripts.{output_ops}
use Rattle.spec_compiler.specs.Keyed.Instance.{Instance, position_demands, position_script}
use Rattle.spec_compiler.specs.Keyed.Statements.{AreKeys, IsCompiled}

-- the operations of a position's script
abbrev pub ops_at : (List ℕ → List ℕ) → Keys → Instance → List PathStep → Contract → List Op
ops_at hash keys s position contract = output_ops (position_demands hash keys s position contract)

-- few bytes, which are read as operations; no push is too long, few operations count, and there are few of them in all
pub record MeetsNoLimit (hash : List ℕ → List ℕ) (keys : Keys) (s : Instance) (position : List PathStep)
    (contract : Contract) : Type 0 where
  pub bytes : length (position_script hash keys s position contract) ≤ most_script_bytes
  pub reads : script_ops (position_script hash keys s position contract) ≡ Some (ops_at hash keys s position contract)
  pub limits : within_limits (ops_at hash keys s position contract) ≡ true
  pub few : length (ops_at hash keys s position contract) ≤ 402
  -- so what the script means is what its operations make of the stack
  pub means : (valid : List ℕ → List ℕ → Bool) (stack : List (List ℕ))
      → script_meaning hash valid (position_script hash keys s position contract) stack
      ≡ meaning hash valid (ops_at hash keys s position contract) (reverse stack)

-- of every position of a checked contract
abbrev pub NoLimitIsMet : Type 0
NoLimitIsMet = (hash : List ℕ → List ℕ) (keys : Keys) (s : Instance) (position : List PathStep) (contract : Contract)
    → AreKeys hash keys → IsCompiled s position contract → MeetsNoLimit hash keys s position contract
