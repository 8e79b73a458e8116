use Rattle.std.proofs.Common.{ap, subst, ◌∙◌}
use Rattle.spec_terms.specs.Advert.{Advert}
use Rattle.spec_deal.specs.declared.deal.Deal.{Deal}
use Rattle.spec_deal.specs.Setting.{deal_instance}
use Rattle.spec_chain.specs.Chain.{Followed}
use Rattle.bm_hash.specs.Messages.{evidence_of}
use Rattle.deal_follow.specs.Boards.{setting}
use Rattle.deal_follow.specs.Follows.{IsFollowed}
use Rattle.deal_follow.specs.Seen.{course_in}
use Rattle.deal_follow.proofs.OpeningLemmas.{opening_is, reading_is}
use Rattle.deal_follow.proofs.following.follow.Goals as goal

pub returns-clause-followed : goal.returns-clause-followed
returns-clause-followed g c keys are hashed =
    let hash = g.H.Hash32.digest_of c.args.trail.now.hasher in
    let b = c.in_ok-board.board in
    let parts = c.in_ok-board.ensures.parts in
    let s = deal_instance c.args.checked.now c.args.deal.now in
    let course = course_in c.args.trail.now.messages c.in_ok-course.course in
    let messages = c.take_all.new.trail.messages in
    subst (λ (f : Followed). IsFollowed (evidence_of hash messages) messages c.args.reading.now.tip c.take_all.result f)
    (reading_is hash keys s (setting b) c.args.transactions.now b.transactions.now c.args.reading.now course
    (ap (λ (a : Advert). deal_instance a b.deal.now) parts.checked ∙ ap (λ (d : Deal). deal_instance c.args.checked.now d) parts.deal_is)
    parts.transactions are
    (opening_is hash keys s c.args.trail.now.messages c.in_ok-course.course hashed c.in_ok-course.ensures.state c.in_ok-course.ensures.history))
    c.take_all.ensures.followed
