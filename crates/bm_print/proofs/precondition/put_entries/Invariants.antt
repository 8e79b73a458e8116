use Rattle.std.proofs.Common.{◌≡◌, ◌++◌, drop}
use Rattle.spec_text.specs.Canonical.{rest_entries_text}
use Rattle.bm_print.proofs.precondition.put_entries.Given as goal

abbrev pub invariant-loop-entry : goal.invariant-loop-entry
invariant-loop-entry l = l.out.items ++ rest_entries_text (drop l.entry-index l.others) ≡ l.initial.out.items ++ rest_entries_text l.others
