use Rattle.std.proofs.Common.{◌≡◌, ◌<◌, ℕ, List, length, Some, None, true, sym, ap, subst, ◌∙◌, arith}
use Rattle.std.proofs.lemmas.Result.{err_from_is_err_and}
use Rattle.spec_run.specs.Conditions.{IsEvent}
use Rattle.spec_run.specs.Setup.{Setup}
use Rattle.spec_run.specs.declared.outcome.Record.{Record}
use Rattle.bm_world.specs.Playing.{most_records, Tested}
use Rattle.bm_auto.proofs.Boards.{has_event, fine, clear}
use Rattle.bm_auto.proofs.Tried.{setup_same, unmoved, refused, done, test_stops, event_stops}
use Rattle.bm_auto.proofs.trying.take_rule.Goals as goal

pub returns-in_default-clause-tries : goal.returns-in_default-clause-tries
returns-in_default-clause-tries g c =
    unmoved g.H.Hash32.digest_of c.args.world.now c.args.rule.now
    (has_event g.H.Hash32.digest_of c.args.world.now c.board.result.now c.args.rule.now c.rule_event.result c.board.ensures.same c.board.ensures.header
    c.board.ensures.contracts c.board.ensures.is c.rule_event.ensures ∙ c.in_default.is)

pub test-requires-clause-is : goal.test-requires-clause-is
test-requires-clause-is g c =
    fine g.H.Hash32.digest_of c.args.world.now c.board.result.now c.args.rule.now c.rule_event.result c.board.ensures.same c.board.ensures.header
    c.board.ensures.contracts c.board.ensures.is c.rule_event.ensures c.in-Some.event c.in-Some.is c.requires.honest

pub returns-in_err-passes-clause-stops : goal.returns-in_err-passes-clause-stops
returns-in_err-passes-clause-stops g c =
    let has = has_event g.H.Hash32.digest_of c.args.world.now c.board.result.now c.args.rule.now c.rule_event.result c.board.ensures.same c.board.ensures.header
    c.board.ensures.contracts c.board.ensures.is c.rule_event.ensures ∙ c.in-Some.is in
    let p = err_from_is_err_and c.from_residual.result c.from_residual.ensures.1 in
    rw (p.1, p.2) (test_stops g.H.Hash32.digest_of c.args.world.now c.args.rule.now c.in-Some.event has c.test.new.self c.in_err-passes.field-0.0
    c.in_err-passes.ensures.stopped)

pub returns-then-not-passes-clause-tries : goal.returns-then-not-passes-clause-tries
returns-then-not-passes-clause-tries g c =
    let has = has_event g.H.Hash32.digest_of c.args.world.now c.board.result.now c.args.rule.now c.rule_event.result c.board.ensures.same c.board.ensures.header
    c.board.ensures.contracts c.board.ensures.is c.rule_event.ensures ∙ c.in-Some.is in
    refused g.H.Hash32.digest_of c.args.world.now c.args.rule.now c.in-Some.event has c.test.new.self c.in_ok-passes.passes
    (let t = c.if-not-passes.true in grind (arith, t)) c.in_ok-passes.ensures.tested

pub event-requires-clause-is : goal.event-requires-clause-is
event-requires-clause-is g c =
    subst (λ (s : Setup). IsEvent s c.in-Some.event) (sym (setup_same g.H.Hash32.digest_of c.args.world.now c.test.new.self c.in_ok-passes.ensures.tested.hears.setup))
    (fine g.H.Hash32.digest_of c.args.world.now c.board.result.now c.args.rule.now c.rule_event.result c.board.ensures.same c.board.ensures.header
    c.board.ensures.contracts c.board.ensures.is c.rule_event.ensures c.in-Some.event c.in-Some.is c.requires.honest)

pub event-requires-clause-few : goal.event-requires-clause-few
event-requires-clause-few g c =
    subst (λ (rs : List Record). length rs < most_records) (sym c.in_ok-passes.ensures.tested.hears.trace) c.requires.few

pub returns-in_err-_outcome-clause-stops : goal.returns-in_err-_outcome-clause-stops
returns-in_err-_outcome-clause-stops g c =
    let has = has_event g.H.Hash32.digest_of c.args.world.now c.board.result.now c.args.rule.now c.rule_event.result c.board.ensures.same c.board.ensures.header
    c.board.ensures.contracts c.board.ensures.is c.rule_event.ensures ∙ c.in-Some.is in
    let tested : Tested g.H.Hash32.digest_of c.args.world.now c.test.new.self c.in-Some.event true =
    subst (λ b. Tested g.H.Hash32.digest_of c.args.world.now c.test.new.self c.in-Some.event b)
    (let t = c.if-not-passes.false in grind (arith, t)) c.in_ok-passes.ensures.tested in
    let apart = clear g.H.Hash32.digest_of c.args.world.now c.board.result.now c.args.rule.now c.rule_event.result c.board.ensures.same c.board.ensures.header
    c.board.ensures.contracts c.board.ensures.is c.rule_event.ensures tested.hears.going.0 in
    let p = err_from_is_err_and c.from_residual-in_err-_outcome.result c.from_residual-in_err-_outcome.ensures.1 in
    rw (p.1, p.2) (event_stops g.H.Hash32.digest_of c.args.world.now c.args.rule.now c.in-Some.event has c.test.new.self apart tested c.event.new.self
    c.in_err-_outcome.field-0.0 c.in_err-_outcome.ensures.stopped)

pub returns-clause-tries : goal.returns-clause-tries
returns-clause-tries g c =
    let has = has_event g.H.Hash32.digest_of c.args.world.now c.board.result.now c.args.rule.now c.rule_event.result c.board.ensures.same c.board.ensures.header
    c.board.ensures.contracts c.board.ensures.is c.rule_event.ensures ∙ c.in-Some.is in
    let tested : Tested g.H.Hash32.digest_of c.args.world.now c.test.new.self c.in-Some.event true =
    subst (λ b. Tested g.H.Hash32.digest_of c.args.world.now c.test.new.self c.in-Some.event b)
    (let t = c.if-not-passes.false in grind (arith, t)) c.in_ok-passes.ensures.tested in
    let apart = clear g.H.Hash32.digest_of c.args.world.now c.board.result.now c.args.rule.now c.rule_event.result c.board.ensures.same c.board.ensures.header
    c.board.ensures.contracts c.board.ensures.is c.rule_event.ensures tested.hears.going.0 in
    done g.H.Hash32.digest_of c.args.world.now c.args.rule.now c.in-Some.event has c.test.new.self apart tested c.event.new.self c.in_ok-_outcome._outcome
    c.in_ok-_outcome.ensures.went
