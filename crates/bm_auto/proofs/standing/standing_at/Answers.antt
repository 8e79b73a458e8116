use Rattle.std.proofs.Common.{◌≡◌, ℕ, length, ap, ◌∙◌, arith}
use Rattle.spec_bitcoin.specs.Live.{Chain}
use Rattle.spec_tool.specs.Turns.{standing_from}
use Rattle.bm_auto.proofs.Numbers.{found_here, look_on, nothing_stands}
use Rattle.bm_auto.proofs.standing.standing_at.Goals as goal

pub returns-then-stands : goal.returns-then-stands
returns-then-stands c =
    let os = c.args.coins.now.outputs in
    let count : c.births-births.result ≡ length os = c.births-births.ensures ∙ ap (λ (x : Chain). x.births) c.ledger.ensures in
    let test = c.loop-number-test.true in
    found_here c.args.position.now c.loop-number.number os (standing_from 0 0 c.args.position.now os) c.stands.result (omega (arith, count, test))
    c.stands.ensures c.if-stands.true c.loop-number.invariant

pub loop-number-preserved : goal.loop-number-preserved
loop-number-preserved c =
    let os = c.args.coins.now.outputs in
    let count : c.births-births.result ≡ length os = c.births-births.ensures ∙ ap (λ (x : Chain). x.births) c.ledger.ensures in
    let test = c.loop-number-test.true in
    look_on c.args.position.now c.loop-number.number os (standing_from 0 0 c.args.position.now os) c.stands.result (omega (arith, count, test))
    c.stands.ensures c.if-stands.false c.loop-number.invariant

pub returns : goal.returns
returns c =
    let os = c.args.coins.now.outputs in
    let count : c.births-births.result ≡ length os = c.births-births.ensures ∙ ap (λ (x : Chain). x.births) c.ledger.ensures in
    let test = c.loop-number-test.false in
    nothing_stands c.args.position.now c.loop-number.number os (standing_from 0 0 c.args.position.now os) (omega (arith, count, test)) c.loop-number.invariant
