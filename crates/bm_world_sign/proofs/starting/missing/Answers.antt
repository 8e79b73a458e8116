use Rattle.std.proofs.Common.{sym, ap, ◌∙◌}
use Rattle.spec_run.specs.Signing.{missing_need}
use Rattle.bm_world_board.specs.Prepares.{setup_of, world_of}
use Rattle.bm_world_sign.specs.Instances.{instance_on}
use Rattle.bm_world_sign.specs.Starting.{missed_reason}
use Rattle.bm_world_sign.proofs.Shown.{shown_nodes, not_shown}
use Rattle.bm_world_sign.proofs.Signed.{missed_shown}
use Rattle.bm_world_sign.proofs.starting.missing.Goals as goal

pub may-requires : goal.may-requires
may-requires g c =
    let hash = g.H.Hash32.digest_of c.args.trail.now.hasher in
    let messages = c.args.trail.now.messages in
    let o = instance_on hash c.args.board.now messages c.args.contract in
    shown_nodes hash c.args.contract o c.in-Some.checked.now c.in-Some.compiled.now (c.in-Some.ensures hash messages c.requires)

pub returns-in_default : goal.returns-in_default
returns-in_default g c =
    let hash = g.H.Hash32.digest_of c.args.trail.now.hasher in
    let messages = c.args.trail.now.messages in
    let o = instance_on hash c.args.board.now messages c.args.contract in
    let w = world_of c.args.board.now messages in
    sym (
    ap (λ x. missed_reason (missing_need (setup_of hash c.args.board.now) w x))
    (not_shown hash c.args.contract o (c.in_default.ensures hash messages c.requires))
    )

pub returns : goal.returns
returns g c =
    let hash = g.H.Hash32.digest_of c.args.trail.now.hasher in
    let messages = c.args.trail.now.messages in
    let s = setup_of hash c.args.board.now in
    let w = world_of c.args.board.now messages in
    let o = instance_on hash c.args.board.now messages c.args.contract in
    c.in_ok-first.ensures
    ∙ missed_shown s c.args.contract w o c.in-Some.checked.now c.in-Some.compiled.now c.in_ok-gate.gate
    (c.in-Some.ensures hash messages c.requires) (rw c.hasher.ensures at c.in_ok-gate.ensures.tells)
