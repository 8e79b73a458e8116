use Rattle.std.proofs.Common.{◌≡◌, ◌++◌, drop}
use Rattle.spec_page.specs.Statuses.{payment_statuses}
use Rattle.draw_rows.proofs.looks.put_payments.Given as goal

abbrev pub invariant-loop-payment : goal.invariant-loop-payment
invariant-loop-payment l =
    l.looks ++ payment_statuses l.moment l.contract (drop l.payment-index l.payments)
    ≡ l.initial.looks ++ payment_statuses l.moment l.contract l.payments
