use Rattle.std.proofs.Common.{List, ap, sym, subst, refl}
use Rattle.std.specs.List.{AllByRecursion}
use Rattle.spec_run.specs.declared.event.Event.{Event}
use Rattle.spec_run.specs.Conditions.{IsEvent}
use Rattle.bm_world.specs.Playing as world
use Rattle.bm_world.specs.Playing.{setup_in}
use Rattle.bm_world_opening.specs.Opening.{setup_with}
use Rattle.tool_replies.specs.Going.{Plays}
use Rattle.tool_replies.proofs.Courses.{left_is}
use Rattle.tool_replies.proofs.played.play_opened.Goals as goal

pub play_events-requires-clause-events : goal.play_events-requires-clause-events
play_events-requires-clause-events g c =
    subst (λ (w : world.Played _). AllByRecursion (IsEvent (setup_in g.H.Hash32.digest_of w)) c.as_slice.result.now) (sym c.make_room.ensures)
    (subst (λ (es : List Event). AllByRecursion (IsEvent (setup_in g.H.Hash32.digest_of c.args.world)) es) (sym c.as_slice.ensures)
    (c.requires.run.events (setup_in g.H.Hash32.digest_of c.args.world) (ap (λ (w : world.Played _). w.header) c.requires.opens.is)))

pub returns : goal.returns
returns g c =
    left_is g.H.Hash32.digest_of c.args.world.hasher c.args.run.now.header c.args.world.contracts c.args.world c.play_events.new.world
    c.args.run.now.events c.in_ok-stop.stop
    c.requires.setup (c.requires.run.events (setup_with (g.H.Hash32.digest_of c.args.world.hasher) c.args.run.now.header
    c.args.world.contracts) refl) c.requires.opens
    (subst (λ (w : world.Played _). Plays g.H.Hash32.digest_of w c.play_events.new.world c.args.run.now.events c.in_ok-stop.stop) c.make_room.ensures
    (subst (λ (es : List Event). Plays g.H.Hash32.digest_of c.make_room.new.self c.play_events.new.world es c.in_ok-stop.stop)
    c.as_slice.ensures c.in_ok-stop.ensures))
