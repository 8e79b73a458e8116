use Rattle.std.proofs.Common.{◌≡◌, sym, ap, ◌∙◌}
use Rattle.std.specs.Prelude.{option_map}
use Rattle.spec_deal.specs.Setting.{deal_keys, deal_instance}
use Rattle.spec_chain.specs.Chain.{follow_reading}
use Rattle.deal_follow.specs.Seen.{course_in}
use Rattle.bitml_deal.proofs.StateLemmas.{shown_sized, stands_answer}
use Rattle.bitml_deal.proofs.state.state_reply.Goals as goal

pub course_reply-requires-clause-sized : goal.course_reply-requires-clause-sized
course_reply-requires-clause-sized g c =
    let hash = g.H.Hash32.digest_of c.args.trail.now.hasher in
    let keys = deal_keys c.args.compiled.now.deal in
    let s = deal_instance c.args.compiled.now.contract c.args.compiled.now.deal in
    shown_sized c.known_fit.ensures hash keys s c.args.chain.now (course_in c.follow.new.trail.messages c.in-Ok.course)
    c.in_ok-reading.reading.tip
    (sym (ap (follow_reading hash keys s) c.in_ok-reading.ensures)
    ∙ c.in-Ok.ensures.followed keys (c.as_slice-transactions.ensures ∙ c.requires.made.transactions) c.requires.hashed)

pub returns-in-Ok : goal.returns-in-Ok
returns-in-Ok g c =
    let digest = g.H.Hash32.digest_of in
    let hash = digest c.args.trail.now.hasher in
    let keys = deal_keys c.args.compiled.now.deal in
    let s = deal_instance c.args.compiled.now.contract c.args.compiled.now.deal in
    stands_answer c.course_reply.result hash keys s c.args.chain.now c.args.signatures.now
    (option_map (λ text. text.now) c.args.secrets) c.in_ok-reading.reading c.in_ok-reading.ensures (digest c.follow.new.trail.hasher)
    (course_in c.follow.new.trail.messages c.in-Ok.course) c.in_ok-reading.reading.tip (ap digest c.in-Ok.ensures.hasher)
    (c.in-Ok.ensures.followed keys (c.as_slice-transactions.ensures ∙ c.requires.made.transactions) c.requires.hashed) c.course_reply.ensures
