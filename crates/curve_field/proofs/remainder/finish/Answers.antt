use Rattle.std.proofs.Common.{◌≡◌, ◌+◌, ◌*◌, ◌^◌, ◌<◌, ◌∙◌, arith, rules, inl, inr}
use Rattle.curve_field.specs.Value.{value}
use Rattle.curve_field.proofs.Values.{WordsFit, value_below}
use Rattle.curve_field.proofs.Folds.{Finished, finish_more, finish_less}
use Rattle.curve_field.proofs.remainder.finish.Goals as goal

more : (c : goal.Then-more-gt0) → Finished (value c.args.low) c.args.top (value c.lower-less.result)
more c =
    let r = c.row_of-more in
    let e : value c.lower-less.result + 2 ^ 256 * r.result.high.w3 ≡ 4294968273 + value c.args.low = c.lower-less.ensures ∙ (r.ensures ∙ omega (arith, c.small.ensures)) in
    let f : WordsFit c.lower-less.result = record { f0 = search rules; f1 = search rules; f2 = search rules; f3 = search rules } in
    let g : WordsFit c.args.low = record { f0 = search rules; f1 = search rules; f2 = search rules; f3 = search rules } in
    let some : 0 < c.args.top + r.result.high.w3 = elim c.if-more-gt0.either [ inl h ↦ omega (arith, h) | inr h ↦ omega (arith, h.1) ] in
    finish_more (value c.args.low) c.args.top (value c.lower-less.result) r.result.high.w3
    (value_below c.args.low g) (value_below c.lower-less.result f) c.requires e some

less : (c : goal.Else-more-gt0) → Finished (value c.args.low) c.args.top (value c.args.low)
less c =
    let r = c.row_of-more in
    let e : value c.lower-less.result + 2 ^ 256 * r.result.high.w3 ≡ 4294968273 + value c.args.low = c.lower-less.ensures ∙ (r.ensures ∙ omega (arith, c.small.ensures)) in
    let f : WordsFit c.lower-less.result = record { f0 = search rules; f1 = search rules; f2 = search rules; f3 = search rules } in
    let g : WordsFit c.args.low = record { f0 = search rules; f1 = search rules; f2 = search rules; f3 = search rules } in
    let top : c.args.top ≡ 0 = omega (arith, c.if-more-gt0.false.0) in
    let none : r.result.high.w3 ≡ 0 = omega (arith, c.if-more-gt0.false.1) in
    finish_less (value c.args.low) c.args.top (value c.lower-less.result) r.result.high.w3
    (value_below c.args.low g) (value_below c.lower-less.result f) e top none

pub returns-then-more-gt0-clause-below : goal.returns-then-more-gt0-clause-below
returns-then-more-gt0-clause-below c = (more c).below

pub returns-then-more-gt0-clause-same : goal.returns-then-more-gt0-clause-same
returns-then-more-gt0-clause-same c = (more c).same

pub returns-else-more-gt0-clause-below : goal.returns-else-more-gt0-clause-below
returns-else-more-gt0-clause-below c = (less c).below

pub returns-else-more-gt0-clause-same : goal.returns-else-more-gt0-clause-same
returns-else-more-gt0-clause-same c = (less c).same
