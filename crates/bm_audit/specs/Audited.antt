-- What an audit finds, and what follows of it.
use Rattle.std.specs.Prelude.{◌≡◌, ℕ, List, [], Some, None, true}
use Rattle.spec_data.specs.Messages.{noted_all}
use Rattle.spec_run.specs.Setup.{Setup}
use Rattle.spec_run.specs.World.{World}
use Rattle.spec_run.specs.Compiled.{compiled_instance}
use Rattle.spec_compiler.specs.Instance.{Instance}
use Rattle.spec_compiler.specs.Endorsements.{is_endorsed}
use Rattle.spec_text.specs.Lines.{lines_of}
use Rattle.spec_tool.specs.declared.which.Which.{Which}
use Rattle.spec_tool.specs.declared.finding.AuditReport.{AuditReport}
use Rattle.spec_tool.specs.Listed.{Listed}
use Rattle.spec_tool.specs.Audit.{audit_report, audit_strings, audit_collision}
use Rattle.theory_audit.specs.Audited.{IsAudit, IsCompiled}
use Rattle.theory_audit.specs.Nothing.{IsGiven}
use Rattle.bm_world.specs.Playing.{Played, setup_in}
use Rattle.bm_world_heard.specs.Heard.{Hears}

-- in a run that goes on exactly this was found, the strings of the judged transactions were hashed and no others, and nothing collided
pub record Audited {H : Type 0} (digest : H → List ℕ → List ℕ) (old new : Played H) (k : ℕ) (text : List ℕ)
    (report : AuditReport) : Type 0 where
  pub going : old.halt ≡ None
  pub hears : Hears old new (noted_all old.world.hashed (audit_strings (setup_in digest old) old.world text))
  pub calm : audit_collision (setup_in digest old) old.world text ≡ None
  pub found : report ≡ audit_report (setup_in digest old) old.world k text

-- what follows of a report
pub record Follows (s : Setup) (w : World) (k : ℕ) (text : List ℕ) (report : AuditReport) : Type 0 where
  -- none is left out and none added
  pub all : IsAudit s w k text report
  -- where the lines give all compiled transactions, with or without witnesses, nothing is absent
  pub none_absent : ((which : Which) (l : Listed) → IsCompiled s w k which l → IsGiven s w k (lines_of text) which) → report.absent ≡ []
  -- where nothing is missing, the contract is endorsed
  pub none_missing : (instance : Instance) → compiled_instance s w k ≡ Some instance → report.missing ≡ []
      → is_endorsed s.hash instance w.book ≡ true
