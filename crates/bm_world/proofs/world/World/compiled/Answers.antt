use Rattle.std.proofs.Common.{◌∙◌}
use Rattle.bm_world_board.specs.Prepares.{setup_of, world_of}
use Rattle.bm_world_board.proofs.Compilations.{compiled_is}
use Rattle.bm_world.proofs.world.World.compiled.Goals as goal

pub returns : goal.returns
returns g c =
    let s = setup_of (g.H.Hash32.digest_of c.self.inside.trail.hasher) c.self.inside.board in
    let w = world_of c.self.inside.board c.self.inside.trail.messages in
    rw (← c.self.view_is) (c.compiled.ensures ∙ compiled_is s w c.args.contract c.self.inside.board.compiled c.self.invariant.compiled)
