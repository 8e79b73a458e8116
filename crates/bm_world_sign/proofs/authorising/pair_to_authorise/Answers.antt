use Rattle.std.proofs.Common.{ap, ◌∙◌}
use Rattle.spec_run.specs.Signing.{authorising_pairs}
use Rattle.bm_world_board.specs.Prepares.{setup_of, world_of}
use Rattle.bm_world_sign.proofs.authorising.pair_to_authorise.Goals as goal

pub returns-in_default : goal.returns-in_default
returns-in_default g c =
    let hash = g.H.Hash32.digest_of c.args.trail.now.hasher in
    let w = world_of c.args.board.now c.args.trail.now.messages in
    ap (λ h. authorising_pairs (setup_of hash c.args.board.now) w c.args.party.now h c.args.branch) c.in_default.ensures

pub returns : goal.returns
returns g c =
    let hash = g.H.Hash32.digest_of c.args.trail.now.hasher in
    let w = world_of c.args.board.now c.args.trail.now.messages in
    (rw (c.contract.ensures, c.in_ok-path.ensures) at c.in_ok-pair.ensures)
    ∙ ap (λ h. authorising_pairs (setup_of hash c.args.board.now) w c.args.party.now h c.args.branch) c.in-Some.ensures
