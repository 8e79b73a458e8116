use Rattle.std.proofs.Common.{None, refl, ap, subst}
use Rattle.spec_run.specs.Ledger.{strings_of}
use Rattle.bm_hash.proofs.Collisions.{hashed_adds}
use Rattle.bm_world_board.specs.Prepares.{setup_of, world_of}
use Rattle.bm_world.specs.Playing.{IsWorld}
use Rattle.bm_world.proofs.Played.{world_halted, world_hears, judged_halts, judged_again, shown_by}
use Rattle.bm_world.proofs.Stopped.{stopped_again}
use Rattle.bm_world.proofs.world.World.judge.Goals as goal

pub invariant_of-self : goal.invariant_of-self
invariant_of-self g c =
    let s = setup_of (g.H.Hash32.digest_of c.self.inside.trail.hasher) c.self.inside.board in
    let w = world_of c.self.inside.board c.self.inside.trail.messages in
    let was : IsWorld (setup_of (g.H.Hash32.digest_of c.self.inside.trail.hasher) c.self.inside.board) c.self.inside.board
    c.self.inside.trail.messages c.self.inside.trace None =
    subst (IsWorld (setup_of (g.H.Hash32.digest_of c.self.inside.trail.hasher) c.self.inside.board) c.self.inside.board
    c.self.inside.trail.messages c.self.inside.trace) c.in_default.is c.self.invariant in
    let adds = hashed_adds s.hash c.self.inside.trail.messages c.examine.new.trail.messages (strings_of s w c.args.tx.now)
    (was.clear refl) c.in-Ok.ensures.trail.1 in
    world_hears s (setup_of (g.H.Hash32.digest_of c.examine.new.trail.hasher) c.self.inside.board) c.self.inside.board
    c.self.inside.trail.messages c.examine.new.trail.messages (strings_of s w c.args.tx.now) c.self.inside.trace c.self.inside.halt was
    (λ i. record {
      hash = g.H.Hash32.digest_of (c.in-Ok.ensures.trail.0 i);
      header = c.self.inside.board.header;
      contracts = c.self.inside.board.contracts;
    }) adds.0 c.in-Ok.ensures.trail.1.clear adds.1

pub invariant_of-self-in-Err : goal.invariant_of-self-in-Err
invariant_of-self-in-Err g c =
    let s = setup_of (g.H.Hash32.digest_of c.self.inside.trail.hasher) c.self.inside.board in
    let w = world_of c.self.inside.board c.self.inside.trail.messages in
    let was : IsWorld (setup_of (g.H.Hash32.digest_of c.self.inside.trail.hasher) c.self.inside.board) c.self.inside.board
    c.self.inside.trail.messages c.self.inside.trace None =
    subst (IsWorld (setup_of (g.H.Hash32.digest_of c.self.inside.trail.hasher) c.self.inside.board) c.self.inside.board
    c.self.inside.trail.messages c.self.inside.trace) c.in_default.is c.self.invariant in
    let halts = judged_halts s.hash c.self.inside.trail.messages c.examine.new.trail.messages (strings_of s w c.args.tx.now)
    c.in-Err.error c.trail_halt-halt.result (was.clear refl) c.in-Err.ensures.trail.2
    (shown_by g.H.Hash32.digest_of c.self.inside.trail.hasher c.examine.new.trail.hasher c.examine.new.trail.messages c.in-Err.error
    c.trail_halt-halt.result c.in-Err.ensures.trail.0 c.trail_halt-halt.ensures.memory c.trail_halt-halt.ensures.collided c.trail_halt-halt.ensures.unguessed) in
    rw c.keep.ensures.kept
    (world_halted s (setup_of (g.H.Hash32.digest_of c.examine.new.trail.hasher) c.self.inside.board) c.self.inside.board
    c.self.inside.trail.messages c.examine.new.trail.messages (strings_of s w c.args.tx.now) c.self.inside.trace _ was halts.hashed
    (λ i. record {
      hash = g.H.Hash32.digest_of (c.in-Err.ensures.trail.0 i);
      header = c.self.inside.board.header;
      contracts = c.self.inside.board.contracts;
    }))

pub returns-in-Ok-clause-judged : goal.returns-in-Ok-clause-judged
returns-in-Ok-clause-judged g c =
    let s = setup_of (g.H.Hash32.digest_of c.self.inside.trail.hasher) c.self.inside.board in
    let w = world_of c.self.inside.board c.self.inside.trail.messages in
    let adds = hashed_adds s.hash c.self.inside.trail.messages c.examine.new.trail.messages (strings_of s w c.args.tx.now)
    (c.self.invariant.clear c.in_default.is) c.in-Ok.ensures.trail.1 in
    rw (← c.self.view_is) (record {
      hears = record {
        setup = record { hasher = c.in-Ok.ensures.trail.0; header = refl; contracts = refl };
        going = (c.in_default.is, c.in_default.is);
        world = ap (world_of c.self.inside.board) adds.0;
        trace = refl;
      };
      calm = adds.1;
      refusal = c.in-Ok.ensures.refusal;
    })

pub returns-in-Err-clause-stopped : goal.returns-in-Err-clause-stopped
returns-in-Err-clause-stopped g c =
    let s = setup_of (g.H.Hash32.digest_of c.self.inside.trail.hasher) c.self.inside.board in
    let w = world_of c.self.inside.board c.self.inside.trail.messages in
    rw (← c.self.view_is) (record {
      setup = record { hasher = c.in-Err.ensures.trail.0; header = refl; contracts = refl };
      kept = refl;
      trace = refl;
      halted = λ none. c.keep.ensures.kept;
      again = λ earlier h. let none = c.in_default.is in cc;
      cause = λ none. judged_again s.hash c.self.inside.trail.messages c.examine.new.trail.messages (strings_of s w c.args.tx.now)
          c.trail_halt-halt.result c.keep.result c.keep.ensures.same
          (judged_halts s.hash c.self.inside.trail.messages c.examine.new.trail.messages (strings_of s w c.args.tx.now)
          c.in-Err.error c.trail_halt-halt.result (c.self.invariant.clear c.in_default.is) c.in-Err.ensures.trail.2
          (shown_by g.H.Hash32.digest_of c.self.inside.trail.hasher c.examine.new.trail.hasher c.examine.new.trail.messages c.in-Err.error
          c.trail_halt-halt.result c.in-Err.ensures.trail.0 c.trail_halt-halt.ensures.memory c.trail_halt-halt.ensures.collided
          c.trail_halt-halt.ensures.unguessed));
    })

pub returns-in-Some-clause-stopped : goal.returns-in-Some-clause-stopped
returns-in-Some-clause-stopped g c = rw (← c.self.view_is) (stopped_again _ _ _ _ c.in-Some.is c.again.ensures)
