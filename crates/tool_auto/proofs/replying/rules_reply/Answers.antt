use Rattle.std.proofs.Common.{None, refl, subst, arith}
use Rattle.spec_run.specs.Setup.{Setup}
use Rattle.spec_tool.specs.AutoText.{auto_answer}
use Rattle.spec_tool.specs.Commands.{setup_of}
use Rattle.tool_replies.specs.Last.{IsWhole}
use Rattle.tool_replies.proofs.Ended.{halted_if_whole}
use Rattle.tool_replies.proofs.Endings.{halted_told}
use Rattle.tool_replies.proofs.Left.{of_its_own}
use Rattle.tool_auto.proofs.Replied.{halted_continues, header_here, whole_answer, whole_continues}
use Rattle.tool_auto.proofs.replying.rules_reply.Goals as goal

pub play_to_end-requires-clause-events : goal.play_to_end-requires-clause-events
play_to_end-requires-clause-events g c = let room = c.requires.room in omega (arith, room)

pub continued_reply-reply-requires-clause-left : goal.continued_reply-reply-requires-clause-left
continued_reply-reply-requires-clause-left g c =
    let digest = g.H.Hash32.digest_of in
    let s : Setup = setup_of (digest c.args.hash) c.args.run.now c.args.contracts.items in
    let left = c.in-Ok.world in
    let w : IsWhole digest s c.args.run.now.events left = c.in-Ok.ensures.whole in
    of_its_own digest s c.args.run.now.events left None w.left_is

pub continued_reply-reply-requires-clause-header : goal.continued_reply-reply-requires-clause-header
continued_reply-reply-requires-clause-header g c =
    let digest = g.H.Hash32.digest_of in
    let s : Setup = setup_of (digest c.args.hash) c.args.run.now c.args.contracts.items in
    let left = c.in-Ok.world in
    let w : IsWhole digest s c.args.run.now.events left = c.in-Ok.ensures.whole in
    header_here digest s c.args.run.now c.args.rules.now left w refl

pub returns-in-Err-clause-reply : goal.returns-in-Err-clause-reply
returns-in-Err-clause-reply g c =
    let s : Setup = setup_of (g.H.Hash32.digest_of c.args.hash) c.args.run.now c.args.contracts.items in
    let es = c.args.run.now.events in
    halted_told c.halt_reply.result s es c.in-Err.halt _ c.in-Err.ensures.halted c.halt_reply.ensures
    (λ reply. halted_if_whole s es reply (auto_answer c.args.rules.now))

pub returns-in-Err-clause-continued : goal.returns-in-Err-clause-continued
returns-in-Err-clause-continued g c =
    let digest = g.H.Hash32.digest_of in
    let s : Setup = setup_of (digest c.args.hash) c.args.run.now c.args.contracts.items in
    halted_told c.halt_reply.result s c.args.run.now.events c.in-Err.halt _ c.in-Err.ensures.halted c.halt_reply.ensures
    (halted_continues digest s c.args.run.now c.args.rules.now)

pub returns-in-Ok-clause-reply : goal.returns-in-Ok-clause-reply
returns-in-Ok-clause-reply g c =
    let digest = g.H.Hash32.digest_of in
    let s : Setup = setup_of (digest c.args.hash) c.args.run.now c.args.contracts.items in
    let left = c.in-Ok.world in
    let w : IsWhole digest s c.args.run.now.events left = c.in-Ok.ensures.whole in
    whole_answer digest s c.args.run.now c.args.rules.now left w c.continued_reply-reply.result c.continued_reply-reply.ensures.reply

pub returns-in-Ok-clause-continued : goal.returns-in-Ok-clause-continued
returns-in-Ok-clause-continued g c =
    let digest = g.H.Hash32.digest_of in
    let s : Setup = setup_of (digest c.args.hash) c.args.run.now c.args.contracts.items in
    let left = c.in-Ok.world in
    let w : IsWhole digest s c.args.run.now.events left = c.in-Ok.ensures.whole in
    whole_continues digest s c.args.run.now c.args.rules.now left w c.continued_reply-reply.result c.continued_reply-reply.ensures.continued
