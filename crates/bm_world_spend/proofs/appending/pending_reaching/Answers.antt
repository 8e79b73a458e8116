use Rattle.std.proofs.Common.{length, ap, ◌∙◌, arith}
use Rattle.bm_world_board.specs.Prepares.{setup_of, world_of}
use Rattle.bm_world_spend.proofs.Standing.{length-all_compiled}
use Rattle.bm_world_spend.proofs.appending.pending_reaching.Goals as goal

pub purpose-requires : goal.purpose-requires
purpose-requires g c =
    let hash = g.H.Hash32.digest_of c.args.trail.now.hasher in
    let e = ap length c.requires.compiled ∙ length-all_compiled (setup_of hash c.args.board.now) (world_of c.args.board.now c.args.trail.now.messages) in
    let few = c.requires.contracts in
    omega (arith, e, few)
