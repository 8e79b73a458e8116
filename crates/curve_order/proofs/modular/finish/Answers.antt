use Rattle.std.proofs.Common.{◌≡◌, ◌+◌, ◌∙◌, ap, sym, arith, rules}
use Rattle.curve_field.specs.Value.{value, wide_value}
use Rattle.curve_field.proofs.Values.{WordsFit, value_below}
use Rattle.curve_order.proofs.Folds.{rest_is, borrowed_below}
use Rattle.curve_order.proofs.modular.finish.Goals as goal

pub returns-then-borrow-eq1-clause-below : goal.returns-then-borrow-eq1-clause-below
returns-then-borrow-eq1-clause-below c =
    let rest = c.difference-borrow.result.0 in
    let fit : WordsFit rest = record { f0 = search rules; f1 = search rules; f2 = search rules; f3 = search rules } in
    borrowed_below (value c.args.x.low) (value rest) c.difference-borrow.result.1 (value_below rest fit)
    (ap (λ z. value rest + z) (sym c.order.ensures) ∙ c.difference-borrow.ensures.value) c.if-borrow-eq1.true

pub returns-then-borrow-eq1-clause-same : goal.returns-then-borrow-eq1-clause-same
returns-then-borrow-eq1-clause-same c =
    let none : value c.args.x.high ≡ 0 = first_of (search rules, grind arith) in
    rest_is (wide_value c.args.x) (value c.args.x.low) 0 (omega (arith, none)) (returns-then-borrow-eq1-clause-below c)
