use Rattle.std.proofs.Common.{◌≡◌, ◌++◌, drop}
use Rattle.std.specs.List.{flat_map}
use Rattle.spec_terms.specs.Precondition.{secrets, names_of}
use Rattle.spec_deal.specs.WarnText.{secret_warnings}
use Rattle.deal_warn.proofs.warnings.put_secrets.Given as goal

abbrev pub invariant-loop-entry : goal.invariant-loop-entry
invariant-loop-entry l =
    l.lines.items ++ flat_map (secret_warnings l.strings) (names_of (secrets (drop l.entry-index l.pre)))
    ≡ l.initial.lines.items ++ flat_map (secret_warnings l.strings) (names_of (secrets l.pre))
