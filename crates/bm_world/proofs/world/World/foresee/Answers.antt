use Rattle.std.proofs.Common.{None, refl, ap, subst}
use Rattle.spec_run.specs.Event.{pending}
use Rattle.bm_world_board.specs.declared.board.Board.{Board}
use Rattle.bm_world_board.specs.Prepares.{setup_of, world_of}
use Rattle.bm_world.specs.Playing.{IsWorld}
use Rattle.bm_world.proofs.Played.{playable_of, world_halted, world_hears, judged_halts, judged_again, shown_by}
use Rattle.bm_world.proofs.Stopped.{stopped_again}
use Rattle.bm_world.proofs.world.World.foresee.Goals as goal

pub foretell-requires-clause-playable : goal.foretell-requires-clause-playable
foretell-requires-clause-playable g c =
    playable_of _ _ _ _ _ c.self.invariant c.in_default.is (rw (← c.self.view_is) at c.requires.few)

pub invariant_of-self : goal.invariant_of-self
invariant_of-self g c =
    let s = setup_of (g.H.Hash32.digest_of c.self.inside.trail.hasher) c.self.inside.board in
    let w = world_of c.self.inside.board c.self.inside.trail.messages in
    let d = pending s w c.args.event.now in
    let was : IsWorld (setup_of (g.H.Hash32.digest_of c.self.inside.trail.hasher) c.self.inside.board) c.self.inside.board
    c.self.inside.trail.messages c.self.inside.trace None =
    subst (IsWorld (setup_of (g.H.Hash32.digest_of c.self.inside.trail.hasher) c.self.inside.board) c.self.inside.board
    c.self.inside.trail.messages c.self.inside.trace) c.in_default.is c.self.invariant in
    rw c.foretell.ensures.board (world_hears s (setup_of (g.H.Hash32.digest_of c.foretell.new.trail.hasher) c.self.inside.board)
    c.self.inside.board c.self.inside.trail.messages c.foretell.new.trail.messages d.hashes c.self.inside.trace c.self.inside.halt was
    (λ i. record {
      hash = g.H.Hash32.digest_of (c.foretell.ensures.hasher i);
      header = c.self.inside.board.header;
      contracts = c.self.inside.board.contracts;
    }) c.in-Ok.ensures.foretells.hashed c.in-Ok.ensures.foretells.clear c.in-Ok.ensures.foretells.calm)

pub invariant_of-self-in-Err : goal.invariant_of-self-in-Err
invariant_of-self-in-Err g c =
    let s = setup_of (g.H.Hash32.digest_of c.self.inside.trail.hasher) c.self.inside.board in
    let w = world_of c.self.inside.board c.self.inside.trail.messages in
    let was : IsWorld (setup_of (g.H.Hash32.digest_of c.self.inside.trail.hasher) c.self.inside.board) c.self.inside.board
    c.self.inside.trail.messages c.self.inside.trace None =
    subst (IsWorld (setup_of (g.H.Hash32.digest_of c.self.inside.trail.hasher) c.self.inside.board) c.self.inside.board
    c.self.inside.trail.messages c.self.inside.trace) c.in_default.is c.self.invariant in
    let halts = judged_halts s.hash c.self.inside.trail.messages c.foretell.new.trail.messages (pending s w c.args.event.now).hashes
    c.in-Err.error c.trail_halt-halt.result (was.clear refl) c.in-Err.ensures.stops
    (shown_by g.H.Hash32.digest_of c.self.inside.trail.hasher c.foretell.new.trail.hasher c.foretell.new.trail.messages c.in-Err.error
    c.trail_halt-halt.result c.foretell.ensures.hasher c.trail_halt-halt.ensures.memory c.trail_halt-halt.ensures.collided c.trail_halt-halt.ensures.unguessed) in
    rw (c.keep.ensures.kept, c.foretell.ensures.board)
    (world_halted s (setup_of (g.H.Hash32.digest_of c.foretell.new.trail.hasher) c.self.inside.board) c.self.inside.board
    c.self.inside.trail.messages c.foretell.new.trail.messages (pending s w c.args.event.now).hashes c.self.inside.trace _ was halts.hashed
    (λ i. record {
      hash = g.H.Hash32.digest_of (c.foretell.ensures.hasher i);
      header = c.self.inside.board.header;
      contracts = c.self.inside.board.contracts;
    }))

pub returns-in-Ok-clause-foresees : goal.returns-in-Ok-clause-foresees
returns-in-Ok-clause-foresees g c =
    rw (← c.self.view_is) (record {
      hears = record {
        setup = record {
          hasher = c.foretell.ensures.hasher;
          header = ap (λ (b : Board). b.header) c.foretell.ensures.board;
          contracts = ap (λ (b : Board). b.contracts) c.foretell.ensures.board;
        };
        going = (c.in_default.is, c.in_default.is);
        world = λ i. world_of (c.foretell.ensures.board i) (c.in-Ok.ensures.foretells.hashed i);
        trace = refl;
      };
      calm = c.in-Ok.ensures.foretells.calm;
      comes = c.in-Ok.ensures.foretells.comes;
    })

pub returns-in-Err-clause-stopped : goal.returns-in-Err-clause-stopped
returns-in-Err-clause-stopped g c =
    let s = setup_of (g.H.Hash32.digest_of c.self.inside.trail.hasher) c.self.inside.board in
    let w = world_of c.self.inside.board c.self.inside.trail.messages in
    rw (← c.self.view_is) (record {
      setup = record {
        hasher = c.foretell.ensures.hasher;
        header = ap (λ (b : Board). b.header) c.foretell.ensures.board;
        contracts = ap (λ (b : Board). b.contracts) c.foretell.ensures.board;
      };
      kept = ap (λ (b : Board). world_of b c.foretell.new.trail.messages) c.foretell.ensures.board;
      trace = refl;
      halted = λ none. c.keep.ensures.kept;
      again = λ earlier h. let none = c.in_default.is in cc;
      cause = λ none. judged_again s.hash c.self.inside.trail.messages c.foretell.new.trail.messages (pending s w c.args.event.now).hashes
          c.trail_halt-halt.result c.keep.result c.keep.ensures.same
          (judged_halts s.hash c.self.inside.trail.messages c.foretell.new.trail.messages (pending s w c.args.event.now).hashes
          c.in-Err.error c.trail_halt-halt.result (c.self.invariant.clear c.in_default.is) c.in-Err.ensures.stops
          (shown_by g.H.Hash32.digest_of c.self.inside.trail.hasher c.foretell.new.trail.hasher c.foretell.new.trail.messages c.in-Err.error
          c.trail_halt-halt.result c.foretell.ensures.hasher c.trail_halt-halt.ensures.memory c.trail_halt-halt.ensures.collided
          c.trail_halt-halt.ensures.unguessed));
    })

pub returns-in-Some-clause-stopped : goal.returns-in-Some-clause-stopped
returns-in-Some-clause-stopped g c = rw (← c.self.view_is) (stopped_again _ _ _ _ c.in-Some.is c.again.ensures)
