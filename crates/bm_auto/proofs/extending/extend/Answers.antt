use Rattle.std.proofs.Common.{◌≡◌, ℕ, length, List, [], sym, ap, subst, ◌∙◌, arith}
use Rattle.std.proofs.lemmas.List.{length-map}
use Rattle.std.proofs.lemmas.Result.{err_from_is_err_and}
use Rattle.std.specs.Borrow.{Bor}
use Rattle.std.specs.List.{AllByRecursion}
use Rattle.spec_run.specs.declared.event.Event.{Event}
use Rattle.spec_tool.specs.declared.rule.Rule.{Rule}
use Rattle.theory_auto.specs.OwnRules.{IsHonest}
use Rattle.bm_auto.specs.Turning.{Turns, StopsTurning}
use Rattle.bm_auto.specs.Extending.{Between}
use Rattle.bm_auto.proofs.Steps.{lent}
use Rattle.bm_auto.proofs.Rounded.{begin_rounds, room_left, honest_left, out_of_rounds, last_round, next_round, round_stops}
use Rattle.bm_auto.proofs.extending.extend.Goals as goal

pub loop-init : goal.loop-init
loop-init g c =
    subst (λ (events : List Event). Between g.H.Hash32.digest_of c.args.world.now c.args.world.now c.args.rules.now (lent c.in_ok-left.left.items) events 0)
    (sym c.new-events.ensures.items)
    (subst (λ (left : List Rule). Between g.H.Hash32.digest_of c.args.world.now c.args.world.now c.args.rules.now left [] 0) (sym c.in_ok-left.ensures)
    (begin_rounds g.H.Hash32.digest_of c.args.world.now c.args.rules.now c.requires.honest))

pub round-requires-clause-honest : goal.round-requires-clause-honest
round-requires-clause-honest g c =
    subst (λ (rs : List (Bor Rule)). AllByRecursion (IsHonest c.loop.world.header) (lent rs)) (sym c.as_slice.ensures.value)
    (honest_left g.H.Hash32.digest_of c.args.world.now c.loop.world c.args.rules.now (lent c.loop.left.items) c.loop.events.items
    c.loop.counter c.loop.invariant)

pub round-requires-clause-few : goal.round-requires-clause-few
round-requires-clause-few g c =
    let some = room_left g.H.Hash32.digest_of c.args.world.now c.loop.world c.args.rules.now (lent c.loop.left.items) c.loop.events.items c.loop.counter
    c.loop.invariant c.requires.few in
    let lent_count = length-map c.loop.left.items (λ (r : Bor Rule). r.now) in
    let count : length c.as_slice.result.now ≡ length c.loop.left.items = ap length c.as_slice.ensures.value in
    omega (arith, some, lent_count, count)

pub returns-in_err-left-2-clause-stops : goal.returns-in_err-left-2-clause-stops
returns-in_err-left-2-clause-stops g c =
    let p = err_from_is_err_and c.from_residual-in_err-left-2.result c.from_residual-in_err-left-2.ensures.1 in
    rw (p.1, p.2) (round_stops g.H.Hash32.digest_of c.args.world.now c.loop.world c.args.rules.now (lent c.loop.left.items) c.loop.events.items c.loop.counter
    c.loop.invariant c.round.new.world c.loop-test.true c.in_err-left-2.field-0.0
    (subst (λ (rs : List (Bor Rule)). StopsTurning g.H.Hash32.digest_of c.loop.world c.round.new.world (lent rs) c.in_err-left-2.field-0.0)
    c.as_slice.ensures.value
    c.in_err-left-2.ensures.stops))

pub returns-then-len-before-clause-extends : goal.returns-then-len-before-clause-extends
returns-then-len-before-clause-extends g c =
    let turns : Turns g.H.Hash32.digest_of c.loop.world c.round.new.world (lent c.loop.left.items) (lent c.in_ok-left-2.left.items) c.loop.events.items
    c.round.new.events.items =
    subst (λ (rs : List (Bor Rule)). Turns g.H.Hash32.digest_of c.loop.world c.round.new.world (lent rs) (lent c.in_ok-left-2.left.items) c.loop.events.items
    c.round.new.events.items) c.as_slice.ensures.value c.in_ok-left-2.ensures.turns in
    let now : c.len.result ≡ length c.round.new.events.items = c.len.ensures ∙ c.round.new.events.ok.0 in
    let before : c.len-before.result ≡ length c.loop.events.items = c.len-before.ensures ∙ c.loop.events.ok.0 in
    last_round g.H.Hash32.digest_of c.args.world.now c.loop.world c.args.rules.now (lent c.loop.left.items) c.loop.events.items c.loop.counter
    c.loop.invariant c.round.new.world c.loop-test.true (lent c.in_ok-left-2.left.items) c.round.new.events.items turns
    (sym now ∙ c.if-len-before.true ∙ before)

pub loop-preserved : goal.loop-preserved
loop-preserved g c =
    let turns : Turns g.H.Hash32.digest_of c.loop.world c.round.new.world (lent c.loop.left.items) (lent c.in_ok-left-2.left.items) c.loop.events.items
    c.round.new.events.items =
    subst (λ (rs : List (Bor Rule)). Turns g.H.Hash32.digest_of c.loop.world c.round.new.world (lent rs) (lent c.in_ok-left-2.left.items) c.loop.events.items
    c.round.new.events.items) c.as_slice.ensures.value c.in_ok-left-2.ensures.turns in
    let now : c.len.result ≡ length c.round.new.events.items = c.len.ensures ∙ c.round.new.events.ok.0 in
    let before : c.len-before.result ≡ length c.loop.events.items = c.len-before.ensures ∙ c.loop.events.ok.0 in
    next_round g.H.Hash32.digest_of c.args.world.now c.loop.world c.args.rules.now (lent c.loop.left.items) c.loop.events.items c.loop.counter
    c.loop.invariant c.round.new.world c.loop-test.true (lent c.in_ok-left-2.left.items) c.round.new.events.items turns
    (λ same. c.if-len-before.false (now ∙ same ∙ sym before))

pub returns-clause-extends : goal.returns-clause-extends
returns-clause-extends g c =
    out_of_rounds g.H.Hash32.digest_of c.args.world.now c.loop.world c.args.rules.now (lent c.loop.left.items) c.loop.events.items
    c.loop.counter c.loop.invariant
    c.loop-test.false
