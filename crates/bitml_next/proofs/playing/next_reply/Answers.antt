use Rattle.std.proofs.Common.{◌≡◌, refl, subst}
use Rattle.std.specs.Prelude.{IfOk, option_map}
use Rattle.spec_run.specs.Setup.{Setup}
use Rattle.spec_tool.specs.Commands.{Printed, setup_of}
use Rattle.spec_next.specs.Foreseen.{next_printed}
use Rattle.spec_tool.specs.Replies.{printed}
use Rattle.tool_replies.specs.Last.{IsWhole}
use Rattle.tool_replies.proofs.Ended.{halted_if_whole}
use Rattle.tool_replies.proofs.Endings.{halted_told}
use Rattle.bitml_next.proofs.Replied.{whole_next}
use Rattle.bitml_next.proofs.playing.next_reply.Goals as goal

pub world_reply-reply-requires : goal.world_reply-reply-requires
world_reply-reply-requires g c =
    let digest = g.H.Hash32.digest_of in
    let s : Setup = setup_of (digest c.args.hash) c.args.run.now c.args.contracts.items in
    let left = c.in-Ok.world in
    let w : IsWhole digest s c.args.run.now.events left = c.in-Ok.ensures.whole in
    w.left_is.going refl

pub returns-in-Err : goal.returns-in-Err
returns-in-Err g c =
    let s : Setup = setup_of (g.H.Hash32.digest_of c.args.hash) c.args.run.now c.args.contracts.items in
    let es = c.args.run.now.events in
    halted_told c.halt_reply.result s es c.in-Err.halt _ c.in-Err.ensures.halted c.halt_reply.ensures
    (λ reply. halted_if_whole s es reply (next_printed c.args.form (option_map (λ p. p.now) c.args.party)))

pub returns-in-Ok : goal.returns-in-Ok
returns-in-Ok g c =
    let digest = g.H.Hash32.digest_of in
    let s : Setup = setup_of (digest c.args.hash) c.args.run.now c.args.contracts.items in
    let left = c.in-Ok.world in
    let w : IsWhole digest s c.args.run.now.events left = c.in-Ok.ensures.whole in
    subst (λ (p : Printed). IfOk c.world_reply-reply.result (λ reply. printed reply ≡ p))
    (whole_next c.args.form (option_map (λ p. p.now) c.args.party) digest s c.args.run.now.events left w)
    c.world_reply-reply.ensures
