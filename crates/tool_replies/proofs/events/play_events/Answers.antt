use Rattle.tool_replies.proofs.OneByOne.{goes_to_next, stops_here, ends_at}
use Rattle.tool_replies.proofs.events.play_events.Goals as goal

pub returns-in-Some : goal.returns-in-Some
returns-in-Some g c =
    stops_here g.H.Hash32.digest_of c.args.world.now c.loop-number.world c.play_event.new.world c.args.events.now c.loop-number.number
    c.index-events-number.result
    c.loop-number-test.true c.index-events-number.is c.loop-number.invariant c.in_ok-halt.field-0 c.in-Some.halt c.in-Some.is c.in_ok-halt.ensures

pub loop-number-preserved : goal.loop-number-preserved
loop-number-preserved g c =
    goes_to_next g.H.Hash32.digest_of c.args.world.now c.loop-number.world c.play_event.new.world c.args.events.now c.loop-number.number
    c.index-events-number.result
    c.loop-number-test.true c.index-events-number.is c.loop-number.invariant c.in_ok-halt.field-0 c.in_default.is c.in_ok-halt.ensures

pub returns : goal.returns
returns g c =
    ends_at g.H.Hash32.digest_of c.args.world.now c.loop-number.world c.args.events.now c.loop-number.number c.loop-number-test.false c.loop-number.invariant
