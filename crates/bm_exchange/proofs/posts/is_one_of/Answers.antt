use Rattle.std.proofs.Common.{◌<◌, length, refl, sym, ◌∙◌, arith}
use Rattle.bm_exchange.proofs.Posting.{among_on, among_here, among_nowhere}
use Rattle.bm_exchange.proofs.posts.is_one_of.Goals as goal

pub loop-number-init : goal.loop-number-init
loop-number-init c = refl

pub returns-then-eq : goal.returns-then-eq
returns-then-eq c =
    let end = c.len-number-end.ensures in
    let test = c.loop-number-test.true in
    let lt : c.loop-number.number < length c.args.strings.now = omega (arith, end, test) in
    among_here c.args.string.now c.args.strings.now c.loop-number.number lt c.get.result.now c.get.ensures (sym c.eq.ensures ∙ c.if-eq.true)
    c.loop-number.invariant

pub loop-number-preserved : goal.loop-number-preserved
loop-number-preserved c =
    let end = c.len-number-end.ensures in
    let test = c.loop-number-test.true in
    let lt : c.loop-number.number < length c.args.strings.now = omega (arith, end, test) in
    among_on c.args.string.now c.args.strings.now c.loop-number.number lt c.get.result.now c.get.ensures (sym c.eq.ensures ∙ c.if-eq.false)
    c.loop-number.invariant

pub returns : goal.returns
returns c =
    let end = c.len-number-end.ensures in
    let test = c.loop-number-test.false in
    among_nowhere c.args.string.now c.args.strings.now c.loop-number.number (omega (arith, end, test)) c.loop-number.invariant
