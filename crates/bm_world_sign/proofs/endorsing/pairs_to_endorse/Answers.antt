use Rattle.std.proofs.Common.{◌≡◌, [], rules, ◌∙◌, sym, ap}
use Rattle.spec_run.specs.Signing.{endorsing_pairs}
use Rattle.bm_world_board.specs.Prepares.{setup_of}
use Rattle.bm_world_sign.specs.Instances.{instance_on}
use Rattle.bm_world_sign.proofs.Shown.{shown_nodes, not_shown}
use Rattle.bm_world_sign.proofs.Signed.{endorsed_shown}
use Rattle.bm_world_sign.proofs.endorsing.pairs_to_endorse.Goals as goal

pub endorsing_pairs-requires : goal.endorsing_pairs-requires
endorsing_pairs-requires g c =
    let hash = g.H.Hash32.digest_of c.args.trail.now.hasher in
    let messages = c.args.trail.now.messages in
    let o = instance_on hash c.args.board.now messages c.args.contract in
    shown_nodes hash c.args.contract o c.in-Some.checked.now c.in-Some.compiled.now (c.in-Some.ensures hash messages c.requires)

pub returns-in_default : goal.returns-in_default
returns-in_default g c =
    let hash = g.H.Hash32.digest_of c.args.trail.now.hasher in
    let messages = c.args.trail.now.messages in
    let o = instance_on hash c.args.board.now messages c.args.contract in
    let empty : c.new.result.items ≡ [] = search rules in
    let none = not_shown hash c.args.contract o (c.in_default.ensures hash messages c.requires) in
    empty ∙ sym (ap (endorsing_pairs (setup_of hash c.args.board.now) c.args.party.now) none)

pub returns : goal.returns
returns g c =
    let hash = g.H.Hash32.digest_of c.args.trail.now.hasher in
    let messages = c.args.trail.now.messages in
    let o = instance_on hash c.args.board.now messages c.args.contract in
    endorsed_shown (setup_of hash c.args.board.now) c.args.contract c.args.party.now o c.in-Some.checked.now c.in-Some.compiled.now _
    (c.in-Some.ensures hash messages c.requires) (rw c.hasher.ensures at c.in_ok-pairs.ensures.defined)
