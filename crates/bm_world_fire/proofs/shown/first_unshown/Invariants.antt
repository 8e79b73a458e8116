use Rattle.std.proofs.Common.{◌≡◌, drop}
use Rattle.bm_world_board.specs.Prepares.{setup_of}
use Rattle.bm_world_fire.specs.Shown.{first_unshown_by}
use Rattle.bm_world_fire.proofs.shown.first_unshown.Given as goal

abbrev pub invariant-loop-name : goal.invariant-loop-name
invariant-loop-name g l =
    let s = setup_of (g.H.Hash32.digest_of l.trail.hasher) l.board in
    first_unshown_by s l.board.exchange.posted l.hashes (drop l.name-index l.names) ≡ first_unshown_by s l.board.exchange.posted l.hashes l.names
