use Rattle.std.proofs.Common.{sym, ◌∙◌}
use Rattle.bm_world_board.specs.Prepares.{setup_of, world_of}
use Rattle.bm_world_sign.proofs.Refused.{init_early}
use Rattle.bm_world_sign.proofs.starting.init_refusal.Goals as goal

pub returns-in-Some : goal.returns-in-Some
returns-in-Some g c =
    let hash = g.H.Hash32.digest_of c.args.trail.now.hasher in
    let messages = c.args.trail.now.messages in
    init_early (setup_of hash c.args.board.now) (world_of c.args.board.now messages) c.args.contract c.args.party.now c.in-Some.reason
    (sym (c.refusal.ensures hash messages c.requires) ∙ c.in-Some.is)
