use Rattle.std.proofs.Common.{◌≡◌, ◌+◌, ◌++◌, drop}
use Rattle.spec_page.specs.SvgContract.{payment_items}
use Rattle.draw_svg.specs.Endings.{ending_of}
use Rattle.draw_svg.proofs.sums.put_payments.Given as goal

abbrev pub invariant-loop-index : goal.invariant-loop-index
invariant-loop-index l =
    l.items ++ payment_items (ending_of l.ending) l.party (l.part + l.index) (drop l.index l.payments)
    ≡ l.initial.items ++ payment_items (ending_of l.ending) l.party l.part l.payments
