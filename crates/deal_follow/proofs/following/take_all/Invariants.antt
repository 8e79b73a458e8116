use Rattle.std.proofs.Common.{◌≡◌, None, drop}
use Rattle.spec_chain.specs.Chain.{follow}
use Rattle.bm_hash.specs.Messages.{evidence_of}
use Rattle.deal_follow.specs.Boards.{setting}
use Rattle.deal_follow.specs.Seen.{course_in}
use Rattle.deal_follow.proofs.following.take_all.Given as goal

abbrev pub invariant-loop-confirmed : goal.invariant-loop-confirmed
invariant-loop-confirmed g l =
    let hash = g.H.Hash32.digest_of l.fn.trail.hasher in
    let s = setting l.board in
    let ts = l.board.transactions.now in
    let r = l.reading in
    record {
      told : follow hash s ts r.fault r.tip (course_in l.trail.messages l.course) (drop l.confirmed-index r.confirmed)
          ≡ follow hash s ts r.fault r.tip (course_in l.fn.trail.messages l.fn.course) r.confirmed;
      hasher : l.trail.hasher ≡ l.fn.trail.hasher;
      clear : evidence_of hash l.trail.messages ≡ None;
    }
