use Rattle.std.proofs.Common.{ℕ, List, ap, ◌∙◌}
use Rattle.spec_tool.specs.Commands.{Printed, prints}
use Rattle.spec_deal.specs.FundText.{fund_strings, fund_text}
use Rattle.bitml_deal.proofs.FundLemmas.{shown_reply, collided_reply}
use Rattle.bitml_deal.proofs.fund.part_reply.Goals as goal

pub returns-in-Ok : goal.returns-in-Ok
returns-in-Ok g c =
    let digest = g.H.Hash32.digest_of in
    let hash = digest c.args.trail.now.hasher in
    shown_reply c.shown.result hash c.args.trail.now.messages c.hash_known.new.trail.messages (fund_strings c.args.contract.now c.args.part.now)
    c.requires (λ h. prints 0 (fund_text h c.args.contract.now c.args.part.now)) (digest c.hasher.result.now)
    (ap digest (c.hasher.ensures ∙ c.in-Ok.ensures.0)) c.in-Ok.ensures.1 c.shown.ensures

pub returns-in-Err-Collided : goal.returns-in-Err-Collided
returns-in-Err-Collided g c =
    let digest = g.H.Hash32.digest_of in
    let hash = digest c.args.trail.now.hasher in
    collided_reply c.collision_reply.result hash c.args.trail.now.messages c.hash_known.new.trail.messages
    (fund_strings c.args.contract.now c.args.part.now) c.requires (prints 0 (fund_text hash c.args.contract.now c.args.part.now))
    (digest c.hash_known.new.trail.hasher) c.in-Err-Collided.field-0 (ap digest c.in-Err-Collided.ensures.0) c.in-Err-Collided.field-0-is
    c.in-Err-Collided.ensures.2 c.collision_reply.ensures
