use Rattle.std.proofs.Common.{◌≡◌, ◌++◌, drop}
use Rattle.spec_page.specs.Ways.{stakes}
use Rattle.draw_rows.proofs.payments.stakes.Given as goal

abbrev pub invariant-loop-entry : goal.invariant-loop-entry
invariant-loop-entry l =
    l.list ++ stakes (drop l.entry-index l.pre) ≡ stakes l.pre
