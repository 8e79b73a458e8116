use Rattle.std.proofs.Common.{◌≡◌, ◌++◌, drop}
use Rattle.std.specs.List.{flat_map}
use Rattle.spec_terms.specs.Precondition.{deposits}
use Rattle.spec_text.specs.RunText.{deposit_text}
use Rattle.spec_next.specs.FirstLines.{owned}
use Rattle.next_text.proofs.header.put_deposits.Given as goal

abbrev pub invariant-loop-entry : goal.invariant-loop-entry
invariant-loop-entry l =
    l.out.items ++ flat_map deposit_text (owned (deposits (drop l.entry-index l.pre)))
    ≡ l.initial.out.items ++ flat_map deposit_text (owned (deposits l.pre))
