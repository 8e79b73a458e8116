-- An audit finds all that it is said to find.
use Rattle.std.proofs.Common.{◌≡◌, ℕ, List, Option, Some, None, refl}
use Rattle.spec_run.specs.Setup.{Setup}
use Rattle.spec_run.specs.World.{World}
use Rattle.spec_run.specs.Translation.{last_world}
use Rattle.spec_text.specs.Lines.{lines_of}
use Rattle.spec_tool.specs.Audit.{listed_in, findings_from, audit_strings, audit_collision}
use Rattle.theory_world.specs.KeptApart.{NoCollision}
use Rattle.theory_run.proofs.Halting.Halts.{collides, calm_is}
use Rattle.theory_run.proofs.Worlds.WorldsOfRuns.{worlds_of_runs}
use Rattle.theory_audit.specs.Audited.{HaltsAs, AuditsFindAll}
use Rattle.theory_audit.proofs.Found.{all_found}
use Rattle.theory_audit.proofs.Lacking.{all_absent, all_missing}

halts_as : (s : Setup) (w : World) (text : List ℕ) → NoCollision s.hash w.hashed → (o : Option (List ℕ × List ℕ)) → audit_collision s w text ≡ o
    → HaltsAs s w text o
halts_as s w text clear None h = calm_is s.hash w.hashed (audit_strings s w text) clear h
halts_as s w text clear (Some pair) h = collides s.hash w.hashed (audit_strings s w text) (pair.0) (pair.1) clear h

pub audits_find : AuditsFindAll
audits_find = record {
  finds = λ s w k text. record {
    findings = all_found s w k (lines_of text);
    absent = all_absent s w k (findings_from s w (listed_in s w k) 1 (lines_of text));
    missing = all_missing s w k;
  };
  halts = λ s es text run.
      halts_as s (last_world s es) text (record { one = (worlds_of_runs s es run).messages.different })
      (audit_collision s (last_world s es) text) refl;
}
