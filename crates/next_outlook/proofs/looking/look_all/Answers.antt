use Rattle.std.proofs.Common.{drop, ◌+◌, sym, subst}
use Rattle.std.proofs.Math.ListN.{drop_of_length-le}
use Rattle.std.proofs.lemmas.Result.{err_from_is_err_and}
use Rattle.next_outlook.specs.Seen.{Midway}
use Rattle.next_outlook.proofs.Composed.{first_left, begin_events, is_event, room, next_event, stops_event, end_events}
use Rattle.next_outlook.proofs.looking.look_all.Goals as goal

pub loop-event-init : goal.loop-event-init
loop-event-init g c =
    subst (Midway g.H.Hash32.digest_of c.args.world.now c.args.world.now c.args.config.now c.args.events.now c.args.events.now)
    (sym c.new-prospects.ensures) (begin_events g.H.Hash32.digest_of c.args.config.now c.args.world.now c.args.events.now c.requires.are)

pub look-requires-clause-is : goal.look-requires-clause-is
look-requires-clause-is g c =
    let n = c.loop-event.event-index in
    let e = c.event-item.result in
    is_event g.H.Hash32.digest_of c.args.config.now c.args.world.now c.loop-event.world e (drop (n + 1) c.args.events.now) c.args.events.now
    c.loop-event.prospects
    (subst (λ es. Midway g.H.Hash32.digest_of c.args.world.now c.loop-event.world c.args.config.now es c.args.events.now c.loop-event.prospects)
    (first_left c.args.events.now n e c.loop-event-test.true c.event-item.is) c.loop-event.invariant)

pub look-requires-clause-few : goal.look-requires-clause-few
look-requires-clause-few g c =
    let n = c.loop-event.event-index in
    let e = c.event-item.result in
    room g.H.Hash32.digest_of c.args.config.now c.args.world.now c.loop-event.world e (drop (n + 1) c.args.events.now) c.args.events.now
    c.loop-event.prospects
    (subst (λ es. Midway g.H.Hash32.digest_of c.args.world.now c.loop-event.world c.args.config.now es c.args.events.now c.loop-event.prospects)
    (first_left c.args.events.now n e c.loop-event-test.true c.event-item.is) c.loop-event.invariant) c.requires.few

pub loop-event-preserved : goal.loop-event-preserved
loop-event-preserved g c =
    let n = c.loop-event.event-index in
    let e = c.event-item.result in
    next_event g.H.Hash32.digest_of c.args.config.now c.args.world.now c.loop-event.world e (drop (n + 1) c.args.events.now) c.args.events.now
    c.loop-event.prospects
    (subst (λ es. Midway g.H.Hash32.digest_of c.args.world.now c.loop-event.world c.args.config.now es c.args.events.now c.loop-event.prospects)
    (first_left c.args.events.now n e c.loop-event-test.true c.event-item.is) c.loop-event.invariant)
    c.look.new.world c.look.new.prospects c.in_ok-look.ensures.sees

pub returns-in_err-look-clause-stopped : goal.returns-in_err-look-clause-stopped
returns-in_err-look-clause-stopped g c =
    let n = c.loop-event.event-index in
    let e = c.event-item.result in
    let p = err_from_is_err_and c.from_residual.result c.from_residual.ensures.1 in
    rw (p.1, p.2) (stops_event g.H.Hash32.digest_of c.args.config.now c.args.world.now c.loop-event.world e (drop (n + 1) c.args.events.now)
    c.args.events.now c.loop-event.prospects
    (subst (λ es. Midway g.H.Hash32.digest_of c.args.world.now c.loop-event.world c.args.config.now es c.args.events.now c.loop-event.prospects)
    (first_left c.args.events.now n e c.loop-event-test.true c.event-item.is) c.loop-event.invariant)
    c.look.new.world _ c.in_err-look.ensures.stopped)

pub returns-clause-sees : goal.returns-clause-sees
returns-clause-sees g c =
    end_events g.H.Hash32.digest_of c.args.config.now c.args.world.now c.loop-event.world c.args.events.now c.loop-event.prospects
    (subst (λ es. Midway g.H.Hash32.digest_of c.args.world.now c.loop-event.world c.args.config.now es c.args.events.now c.loop-event.prospects)
    (drop_of_length-le c.args.events.now c.loop-event-test.false) c.loop-event.invariant)
