use Rattle.std.proofs.Common.{◌≡◌, ◌++◌, drop}
use Rattle.bm_syntax.specs.View.{parts_view}
use Rattle.spec_page.specs.Ways.{parts_payments}
use Rattle.draw_rows.proofs.payments.put_parts_payments.Given as goal

abbrev pub invariant-loop-part : goal.invariant-loop-part
invariant-loop-part l =
    l.payments ++ parts_payments l.advert l.path l.number (parts_view (drop l.part-index l.parts))
    ≡ l.initial.payments ++ parts_payments l.advert l.path 0 (parts_view l.parts)
