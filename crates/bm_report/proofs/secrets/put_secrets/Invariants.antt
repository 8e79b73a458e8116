use Rattle.std.proofs.Common.{◌≡◌, ◌++◌, drop}
use Rattle.std.specs.List.{flat_map}
use Rattle.spec_terms.specs.Precondition.{secrets}
use Rattle.spec_text.specs.PlayText.{secret_line_of}
use Rattle.bm_report.proofs.secrets.put_secrets.Given as goal

abbrev pub invariant-loop-entry : goal.invariant-loop-entry
invariant-loop-entry l =
    l.out.items ++ flat_map (secret_line_of l.config l.contract) (secrets (drop l.entry-index l.pre))
    ≡ l.initial.out.items ++ flat_map (secret_line_of l.config l.contract) (secrets l.pre)
