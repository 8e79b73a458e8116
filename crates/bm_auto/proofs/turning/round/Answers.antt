use Rattle.std.proofs.Common.{List, sym, subst}
use Rattle.std.specs.Borrow.{Bor}
use Rattle.spec_tool.specs.declared.rule.Rule.{Rule}
use Rattle.bm_auto.specs.Turning.{Midway}
use Rattle.std.proofs.lemmas.Result.{err_from_is_err_and}
use Rattle.bm_auto.proofs.Steps.{lent, begin_round, end_round, lent_none, honest_here, room_here, stops_here, goes_here, short_here}
use Rattle.bm_auto.proofs.turning.round.Goals as goal

pub loop-rule-init : goal.loop-rule-init
loop-rule-init g c =
    subst (λ (left : List (Bor Rule)). Midway g.H.Hash32.digest_of c.args.world.now c.args.world.now (lent c.args.rules.now) (lent left) (lent c.args.rules.now)
    c.args.events.now.items c.args.events.now.items) (sym c.new-left.ensures.items)
    (begin_round g.H.Hash32.digest_of c.args.world.now (lent c.args.rules.now) c.args.events.now.items c.requires.honest)

pub take_rule-requires-clause-honest : goal.take_rule-requires-clause-honest
take_rule-requires-clause-honest g c =
    honest_here g.H.Hash32.digest_of c.args.world.now c.loop-rule.world c.args.rules.now (lent c.loop-rule.left.items) c.loop-rule.rule-index c.rule-item.result
    c.loop-rule-test.true c.rule-item.is c.args.events.now.items c.loop-rule.events.items c.loop-rule.invariant

pub take_rule-requires-clause-few : goal.take_rule-requires-clause-few
take_rule-requires-clause-few g c =
    room_here g.H.Hash32.digest_of c.args.world.now c.loop-rule.world c.args.rules.now (lent c.loop-rule.left.items) c.loop-rule.rule-index c.rule-item.result
    c.loop-rule-test.true c.rule-item.is c.args.events.now.items c.loop-rule.events.items c.loop-rule.invariant c.requires.few

pub returns-in_err-taken-clause-stops : goal.returns-in_err-taken-clause-stops
returns-in_err-taken-clause-stops g c =
    let p = err_from_is_err_and c.from_residual.result c.from_residual.ensures.1 in
    rw (p.1, p.2) (stops_here g.H.Hash32.digest_of c.args.world.now c.loop-rule.world c.args.rules.now (lent c.loop-rule.left.items) c.loop-rule.rule-index
    c.rule-item.result c.loop-rule-test.true c.rule-item.is c.args.events.now.items c.loop-rule.events.items c.loop-rule.invariant c.take_rule.new.world
    c.in_err-taken.field-0.0 c.in_err-taken.ensures.stops)

pub returns-in_err-put-clause-stops : goal.returns-in_err-put-clause-stops
returns-in_err-put-clause-stops g c =
    let p = err_from_is_err_and c.from_residual-in_err-put.result c.from_residual-in_err-put.ensures.1 in
    rw (p.1, p.2) (short_here g.H.Hash32.digest_of c.args.world.now c.loop-rule.world c.args.rules.now (lent c.loop-rule.left.items) c.loop-rule.rule-index
    c.rule-item.result c.loop-rule-test.true c.rule-item.is c.args.events.now.items c.loop-rule.events.items c.loop-rule.invariant c.take_rule.new.world
    c.in_ok-taken.taken c.in_ok-taken.ensures.tries)

pub loop-rule-preserved : goal.loop-rule-preserved
loop-rule-preserved g c =
    goes_here g.H.Hash32.digest_of c.args.world.now c.loop-rule.world c.args.rules.now (lent c.loop-rule.left.items) c.loop-rule.rule-index c.rule-item.result
    c.loop-rule-test.true c.rule-item.is c.args.events.now.items c.loop-rule.events.items c.loop-rule.invariant c.take_rule.new.world c.in_ok-taken.taken
    (lent c.put.new.left.items) c.put.new.events.items c.in_ok-put.ensures.left c.in_ok-put.ensures.events c.in_ok-taken.ensures.tries

pub returns-clause-turns : goal.returns-clause-turns
returns-clause-turns g c =
    end_round g.H.Hash32.digest_of c.args.world.now c.loop-rule.world (lent c.args.rules.now) (lent c.loop-rule.left.items) _
    c.args.events.now.items c.loop-rule.events.items c.loop-rule.invariant (lent_none c.args.rules.now c.loop-rule.rule-index c.loop-rule-test.false)
