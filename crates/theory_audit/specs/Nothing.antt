-- What is claimed of an audit in which nothing is absent, or nothing is missing.
use Rattle.std.specs.Prelude.{◌≡◌, ℕ, List, [], true, Some, slice_get}
use Rattle.spec_bitcoin.specs.declared.tx.Tx.{Tx}
use Rattle.spec_bitcoin.specs.Spelling.{Spells}
use Rattle.spec_compiler.specs.Instance.{Instance}
use Rattle.spec_compiler.specs.Endorsements.{is_endorsed}
use Rattle.spec_run.specs.Setup.{Setup}
use Rattle.spec_run.specs.World.{World}
use Rattle.spec_run.specs.Compiled.{compiled_instance}
use Rattle.spec_text.specs.Lines.{lines_of}
use Rattle.spec_tool.specs.declared.which.Which.{Which}
use Rattle.spec_tool.specs.Listed.{Listed}
use Rattle.spec_tool.specs.Audit.{audit_report}
use Rattle.theory_audit.specs.Audited.{IsCompiled, IsNamed, IsHexOf}

-- a line spells the compiled transaction of this name, but for its witnesses
pub record IsGiven (s : Setup) (w : World) (k : ℕ) (lines : List (List ℕ)) (which : Which) : Type 0 where
  pub number : ℕ
  pub line : List ℕ
  pub there : slice_get lines number ≡ Some line
  pub bytes : List ℕ
  pub hex : IsHexOf line bytes
  pub tx : Tx
  pub spelled : Spells bytes tx
  pub named : IsNamed s w k tx which

pub record NothingLacks : Type 0 where
  -- where the lines give all compiled transactions, with or without witnesses, nothing is absent
  pub none_absent : (s : Setup) (w : World) (k : ℕ) (text : List ℕ)
      → ((which : Which) (l : Listed) → IsCompiled s w k which l → IsGiven s w k (lines_of text) which)
      → (audit_report s w k text).absent ≡ []
  -- where nothing is missing, the contract is endorsed: no honest participant waits with its signature of the initial transaction
  pub none_missing : (s : Setup) (w : World) (k : ℕ) (text : List ℕ) (instance : Instance) → compiled_instance s w k ≡ Some instance
      → (audit_report s w k text).missing ≡ [] → is_endorsed s.hash instance w.book ≡ true
