-- What is claimed of the texts of plans and audits: each is read as what it shows, so it can't leave anything out.
use Rattle.std.specs.Prelude.{◌≡◌, ℕ, ◌≤◌, List, [], ◌∷◌, ◌++◌, length, Option, Some, None, Ok}
use Rattle.spec_terms.specs.Advert.{Advert}
use Rattle.spec_compiler.specs.Compilation.{Compilation}
use Rattle.spec_compiler.specs.Instance.{Instance}
use Rattle.spec_run.specs.declared.event.Run.{Run}
use Rattle.spec_run.specs.Conditions.{HashesBytes}
use Rattle.spec_text.specs.PlanText.{compiled_text}
use Rattle.spec_text.specs.Refusals.{run_of, contract_of}
use Rattle.spec_tool.specs.declared.finding.AuditReport.{AuditReport}
use Rattle.spec_tool.specs.Answers.{audited_file}
use Rattle.spec_tool.specs.AuditText.{report_text, uncompiled_text}
use Rattle.spec_tool.specs.Commands.{setup_of, plan_answer}
use Rattle.spec_tool.specs.Reads.{Text}
use Rattle.spec_tool.specs.Sizes.{most_audit_bytes}
use Rattle.theory_plan_text.specs.Audit.{report, shown_report, shown_audit, IsAuditable, audit_of}
use Rattle.theory_plan_text.specs.Plan.{compiled, IsPlannable, plan_of, shown_plan}

-- ---- plans

-- the lines of any scripts and transactions that can be shown are read as these
abbrev pub CompilationsReadBack : Type 0
CompilationsReadBack = (c : Compilation) → IsPlannable c → plan_of (compiled_text c) ≡ Some (compiled c)

-- What `plan` prints of a valid run file and a well-formed contract is read as what the run shows of the contract: all that it is
-- compiled to, that it isn't compiled, or what halts the run.
abbrev pub PlansAreRead : Type 0
PlansAreRead = (hash : List ℕ → List ℕ) → HashesBytes hash
    → (run_file contract_file : List ℕ) (run : Run) (contract : Advert)
    → run_of run_file ≡ Ok run → contract_of contract_file ≡ Ok contract
    → plan_of (plan_answer hash run_file contract_file).text ≡ Some (shown_plan (setup_of hash run (contract ∷ [])) run.events)

-- So two contracts of which the same is printed are compiled to the same.
abbrev pub SamePlansShowTheSame : Type 0
SamePlansShowTheSame = (hash : List ℕ → List ℕ) → HashesBytes hash
    → (run_file other_file contract_file other_contract : List ℕ) (run other : Run) (contract last : Advert)
    → run_of run_file ≡ Ok run → contract_of contract_file ≡ Ok contract
    → run_of other_file ≡ Ok other → contract_of other_contract ≡ Ok last
    → (plan_answer hash run_file contract_file).text ≡ (plan_answer hash other_file other_contract).text
    → shown_plan (setup_of hash run (contract ∷ [])) run.events ≡ shown_plan (setup_of hash other (last ∷ [])) other.events

-- ---- audits

-- the lines of any findings that can be shown, of what is absent and of what is missing are read as these
abbrev pub ReportsReadBack : Type 0
ReportsReadBack = (r : AuditReport) (instance : Option Instance) → IsAuditable r
    → audit_of (report_text r ++ uncompiled_text instance) ≡ Some (report (shown_report r instance))

-- the file of an audit is too long, or no larger than it may be
abbrev pub IsWithin : Text → Type 0
IsWithin None = Unit {0}
IsWithin (Some text) = length text ≤ most_audit_bytes

-- What `audit` prints of a file after a valid run file with a well-formed contract is read as what it finds there, what is absent and
-- what is missing, as what halts the run or the audit, or as that the file is refused.
abbrev pub AuditsAreRead : Type 0
AuditsAreRead = (hash : List ℕ → List ℕ) → HashesBytes hash
    → (run_file contract_file : List ℕ) (run : Run) (contract : Advert)
    → run_of run_file ≡ Ok run → contract_of contract_file ≡ Ok contract
    → (file : Text) → IsWithin file
    → audit_of (audited_file file (setup_of hash run (contract ∷ [])) run.events).text
    ≡ Some (shown_audit file (setup_of hash run (contract ∷ [])) run.events)

-- So two audits of which the same is printed find the same.
abbrev pub SameAuditsShowTheSame : Type 0
SameAuditsShowTheSame = (hash : List ℕ → List ℕ) → HashesBytes hash
    → (run_file other_file contract_file other_contract : List ℕ) (run other : Run) (contract last : Advert)
    → run_of run_file ≡ Ok run → contract_of contract_file ≡ Ok contract
    → run_of other_file ≡ Ok other → contract_of other_contract ≡ Ok last
    → (file same : Text) → IsWithin file → IsWithin same
    → (audited_file file (setup_of hash run (contract ∷ [])) run.events).text
    ≡ (audited_file same (setup_of hash other (last ∷ [])) other.events).text
    → shown_audit file (setup_of hash run (contract ∷ [])) run.events ≡ shown_audit same (setup_of hash other (last ∷ [])) other.events
