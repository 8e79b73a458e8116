use Rattle.std.proofs.Common.{ap, ◌∙◌, [], ◌∷◌}
use Rattle.spec_run.specs.Signing.{branch_pair, first_digest}
use Rattle.bm_world_board.specs.Prepares.{setup_of}
use Rattle.bm_world_sign.specs.Instances.{instance_on}
use Rattle.bm_world_sign.proofs.Signed.{first_there}
use Rattle.bm_world_sign.proofs.authorising.pair_at.Goals as goal

pub returns-in_default : goal.returns-in_default
returns-in_default g c =
    let hash = g.H.Hash32.digest_of c.args.trail.now.hasher in
    let messages = c.args.trail.now.messages in
    ap (branch_pair (setup_of hash c.args.board.now) c.args.party.now c.args.contract c.args.path.now)
    (c.in_default.ensures hash messages c.requires)

pub returns : goal.returns
returns g c =
    let hash = g.H.Hash32.digest_of c.args.trail.now.hasher in
    let messages = c.args.trail.now.messages in
    let o = instance_on hash c.args.board.now messages c.args.contract in
    let s = setup_of hash c.args.board.now in
    let made = c.in-Some.ensures hash messages c.requires in
    (rw c.as_slice.ensures at c.first_pair.ensures)
    ∙ first_there s o c.args.path.now c.in-Some.made.now c.in_ok-key.key made
    ∙ ap (λ key. (key, first_digest c.in-Some.made.now) ∷ []) c.in_ok-key.ensures
    ∙ ap (branch_pair s c.args.party.now c.args.contract c.args.path.now) made
