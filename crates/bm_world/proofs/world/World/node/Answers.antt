use Rattle.std.proofs.Common.{◌∙◌, sym}
use Rattle.bm_world_board.specs.Prepares.{setup_of, world_of}
use Rattle.bm_world.proofs.Placed.{placed_reached, node_is}
use Rattle.bm_world.proofs.world.World.node.Goals as goal

pub returns-clause-node : goal.returns-clause-node
returns-clause-node g c =
    let s = setup_of (g.H.Hash32.digest_of c.self.inside.trail.hasher) c.self.inside.board in
    let w = world_of c.self.inside.board c.self.inside.trail.messages in
    let placed = placed_reached s w c.self.inside.trace c.self.invariant.setup c.self.invariant.reached in
    rw (← c.self.view_is) (c.node_at.ensures
    ∙ (node_is c.choices_are_found.ensures s w c.self.inside.board.compiled c.args.output c.self.invariant.compiled placed).is)

pub returns-clause-none : goal.returns-clause-none
returns-clause-none g c =
    let s = setup_of (g.H.Hash32.digest_of c.self.inside.trail.hasher) c.self.inside.board in
    let w = world_of c.self.inside.board c.self.inside.trail.messages in
    let placed = placed_reached s w c.self.inside.trace c.self.invariant.setup c.self.invariant.reached in
    rw (← c.self.view_is) (λ e. (node_is c.choices_are_found.ensures s w c.self.inside.board.compiled c.args.output
    c.self.invariant.compiled placed).none (sym c.node_at.ensures ∙ e))
