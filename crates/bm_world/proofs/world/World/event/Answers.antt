use Rattle.std.proofs.Common.{◌≡◌, None, ap, subst}
use Rattle.spec_run.specs.Conditions.{IsEvent}
use Rattle.bm_world_board.specs.Prepares.{setup_of, world_of}
use Rattle.bm_world.specs.Playing.{IsWorld}
use Rattle.bm_world.proofs.Played.{playable_of, world_after, world_halted, halts_again}
use Rattle.bm_world.proofs.Stopped.{stopped_again}
use Rattle.bm_world.proofs.world.World.event.Goals as goal

pub play-requires-clause-playable : goal.play-requires-clause-playable
play-requires-clause-playable g c = playable_of _ _ _ _ _ c.self.invariant c.in_default.is (rw (← c.self.view_is) at c.requires.few)

pub invariant_of-self : goal.invariant_of-self
invariant_of-self g c =
    let hash = g.H.Hash32.digest_of c.self.inside.trail.hasher in
    let s = setup_of hash c.self.inside.board in
    let is : IsEvent (setup_of (g.H.Hash32.digest_of c.self.inside.trail.hasher) c.self.inside.board) c.args.event.now =
    rw (← c.self.view_is) at c.requires.is in
    let same : setup_of (g.H.Hash32.digest_of c.play.new.trail.hasher) c.play.new.board
    ≡ setup_of (g.H.Hash32.digest_of c.self.inside.trail.hasher) c.self.inside.board =
    λ i. record {
      hash = g.H.Hash32.digest_of (c.play.ensures.hasher i);
      header = c.play.ensures.same.header i;
      contracts = c.play.ensures.same.contracts i;
    } in
    let was : IsWorld (setup_of (g.H.Hash32.digest_of c.self.inside.trail.hasher) c.self.inside.board) c.self.inside.board
    c.self.inside.trail.messages c.self.inside.trace None =
    subst (IsWorld (setup_of (g.H.Hash32.digest_of c.self.inside.trail.hasher) c.self.inside.board) c.self.inside.board
    c.self.inside.trail.messages c.self.inside.trace) c.in_default.is c.self.invariant in
    world_after s _ c.self.inside.board c.play.new.board c.self.inside.trail.messages c.play.new.trail.messages _ _ c.args.event.now
    c.in-Ok.outcome c.self.inside.halt was is c.in-Ok.ensures.goes c.play.ensures.same same

pub invariant_of-self-in-Err : goal.invariant_of-self-in-Err
invariant_of-self-in-Err g c =
    let s = setup_of (g.H.Hash32.digest_of c.self.inside.trail.hasher) c.self.inside.board in
    let was : IsWorld (setup_of (g.H.Hash32.digest_of c.self.inside.trail.hasher) c.self.inside.board) c.self.inside.board
    c.self.inside.trail.messages c.self.inside.trace None =
    subst (IsWorld (setup_of (g.H.Hash32.digest_of c.self.inside.trail.hasher) c.self.inside.board) c.self.inside.board
    c.self.inside.trail.messages c.self.inside.trace) c.in_default.is c.self.invariant in
    rw (c.keep.ensures.kept, c.in-Err.ensures.board, c.in-Err.ensures.records)
    (world_halted s (setup_of (g.H.Hash32.digest_of c.play.new.trail.hasher) c.self.inside.board) c.self.inside.board
    c.self.inside.trail.messages c.play.new.trail.messages _ c.self.inside.trace c.keep.result was c.in-Err.ensures.halts.hashed
    (λ i. record {
      hash = g.H.Hash32.digest_of (c.play.ensures.hasher i);
      header = c.self.inside.board.header;
      contracts = c.self.inside.board.contracts;
    }))

pub returns-in-Some-clause-stopped : goal.returns-in-Some-clause-stopped
returns-in-Some-clause-stopped g c = rw (← c.self.view_is) (stopped_again _ _ _ _ c.in-Some.is c.again.ensures)

pub returns-in-Err-clause-stopped : goal.returns-in-Err-clause-stopped
returns-in-Err-clause-stopped g c =
    let s = setup_of (g.H.Hash32.digest_of c.self.inside.trail.hasher) c.self.inside.board in
    let w = world_of c.self.inside.board c.self.inside.trail.messages in
    rw (← c.self.view_is) (record {
      setup = record { hasher = c.play.ensures.hasher; header = c.play.ensures.same.header; contracts = c.play.ensures.same.contracts };
      kept = ap (λ b. world_of b c.play.new.trail.messages) c.in-Err.ensures.board;
      trace = c.in-Err.ensures.records;
      halted = λ none. c.keep.ensures.kept;
      again = λ earlier h. let none = c.in_default.is in cc;
      cause = λ none. halts_again s w c.play.new.trail.messages c.args.event.now c.in-Err.halt c.keep.result c.keep.ensures.same
          c.in-Err.ensures.halts;
    })
