use Rattle.std.proofs.Common.{None, refl, ap, subst}
use Rattle.spec_run.specs.Event.{pending}
use Rattle.spec_run.specs.Pending.{applied}
use Rattle.bm_world_board.specs.declared.board.Board.{Board}
use Rattle.bm_world_board.specs.Prepares.{setup_of, world_of}
use Rattle.bm_world.specs.Playing.{IsWorld}
use Rattle.bm_world.proofs.Played.{playable_of, world_halted, world_hears, halts_again}
use Rattle.bm_world.proofs.Reaching.{calm_of}
use Rattle.bm_world.proofs.Stopped.{stopped_again}
use Rattle.bm_world.proofs.world.World.test.Goals as goal

pub test-requires-clause-playable : goal.test-requires-clause-playable
test-requires-clause-playable g c = playable_of _ _ _ _ _ c.self.invariant c.in_default.is (rw (← c.self.view_is) at c.requires.few)

pub invariant_of-self : goal.invariant_of-self
invariant_of-self g c =
    let s = setup_of (g.H.Hash32.digest_of c.self.inside.trail.hasher) c.self.inside.board in
    let w = world_of c.self.inside.board c.self.inside.trail.messages in
    let d = pending s w c.args.event.now in
    let was : IsWorld (setup_of (g.H.Hash32.digest_of c.self.inside.trail.hasher) c.self.inside.board) c.self.inside.board
    c.self.inside.trail.messages c.self.inside.trace None =
    subst (IsWorld (setup_of (g.H.Hash32.digest_of c.self.inside.trail.hasher) c.self.inside.board) c.self.inside.board
    c.self.inside.trail.messages c.self.inside.trace) c.in_default.is c.self.invariant in
    let calm = calm_of s w (applied w d) d c.in-Ok.ensures.tests.went in
    rw c.test.ensures.board (world_hears s (setup_of (g.H.Hash32.digest_of c.test.new.trail.hasher) c.self.inside.board)
    c.self.inside.board c.self.inside.trail.messages c.test.new.trail.messages d.hashes c.self.inside.trace c.self.inside.halt was
    (λ i. record {
      hash = g.H.Hash32.digest_of (c.test.ensures.hasher i);
      header = c.self.inside.board.header;
      contracts = c.self.inside.board.contracts;
    }) c.in-Ok.ensures.tests.hashed c.in-Ok.ensures.tests.clear calm.calm)

pub invariant_of-self-in-Err : goal.invariant_of-self-in-Err
invariant_of-self-in-Err g c =
    let s = setup_of (g.H.Hash32.digest_of c.self.inside.trail.hasher) c.self.inside.board in
    let was : IsWorld (setup_of (g.H.Hash32.digest_of c.self.inside.trail.hasher) c.self.inside.board) c.self.inside.board
    c.self.inside.trail.messages c.self.inside.trace None =
    subst (IsWorld (setup_of (g.H.Hash32.digest_of c.self.inside.trail.hasher) c.self.inside.board) c.self.inside.board
    c.self.inside.trail.messages c.self.inside.trace) c.in_default.is c.self.invariant in
    rw (c.keep.ensures.kept, c.test.ensures.board)
    (world_halted s (setup_of (g.H.Hash32.digest_of c.test.new.trail.hasher) c.self.inside.board) c.self.inside.board
    c.self.inside.trail.messages c.test.new.trail.messages _ c.self.inside.trace c.keep.result was c.in-Err.ensures.halts.hashed
    (λ i. record {
      hash = g.H.Hash32.digest_of (c.test.ensures.hasher i);
      header = c.self.inside.board.header;
      contracts = c.self.inside.board.contracts;
    }))

pub returns-in-Some-clause-stopped : goal.returns-in-Some-clause-stopped
returns-in-Some-clause-stopped g c = rw (← c.self.view_is) (stopped_again _ _ _ _ c.in-Some.is c.again.ensures)

pub returns-in-Err-clause-stopped : goal.returns-in-Err-clause-stopped
returns-in-Err-clause-stopped g c =
    let s = setup_of (g.H.Hash32.digest_of c.self.inside.trail.hasher) c.self.inside.board in
    let w = world_of c.self.inside.board c.self.inside.trail.messages in
    rw (← c.self.view_is) (record {
      setup = record {
        hasher = c.test.ensures.hasher;
        header = ap (λ (b : Board). b.header) c.test.ensures.board;
        contracts = ap (λ (b : Board). b.contracts) c.test.ensures.board;
      };
      kept = ap (λ b. world_of b c.test.new.trail.messages) c.test.ensures.board;
      trace = refl;
      halted = λ none. c.keep.ensures.kept;
      again = λ earlier h. let none = c.in_default.is in cc;
      cause = λ none. halts_again s w c.test.new.trail.messages c.args.event.now c.in-Err.halt c.keep.result c.keep.ensures.same
          c.in-Err.ensures.halts;
    })
