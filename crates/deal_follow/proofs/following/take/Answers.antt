use Rattle.std.proofs.lemmas.Result.{err_from_is_err_and}
use Rattle.std.proofs.Common.{◌∙◌}
use Rattle.deal_follow.specs.Boards.{setting}
use Rattle.deal_follow.specs.Seen.{course_in}
use Rattle.deal_follow.proofs.StepLemmas.{hashing_ends, goes_with}
use Rattle.deal_follow.proofs.following.take.Goals as goal

pub returns-in_err-txid-clause-goes : goal.returns-in_err-txid-clause-goes
returns-in_err-txid-clause-goes g c =
    let p = err_from_is_err_and c.from_residual.result c.from_residual.ensures.1 in
    let later = c.hash_strings.new.trail.messages in
    rw (p.1, p.2)
    (hashing_ends (Unit {0}) (g.H.Hash32.digest_of c.args.trail.now.hasher) (setting c.args.board.now) c.args.board.now.transactions.now
    c.args.confirmed.now (course_in c.args.trail.now.messages c.args.course.now) (course_in later c.args.course.now) later
    c.in_err-txid.field-0.0 c.requires.clear c.in_err-txid.ensures.trail.2)

pub returns-clause-goes : goal.returns-clause-goes
returns-clause-goes g c =
    goes_with g.H.Hash32.digest_of c.args.trail.now.hasher c.hasher-2.result.now (setting c.args.board.now) c.args.board.now.transactions.now
    c.args.confirmed.now c.args.trail.now.messages c.hash_strings.new.trail.messages c.args.course.now c.take_hashed.new.course
    c.take_hashed.result (c.hasher-2.ensures ∙ c.in_ok-txid.ensures.trail.0) c.requires.clear c.in_ok-txid.ensures.trail.1
    c.take_hashed.ensures
