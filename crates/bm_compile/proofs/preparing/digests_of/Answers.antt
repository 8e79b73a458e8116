use Rattle.std.proofs.Common.{◌∙◌, ◌+◌}
use Rattle.std.proofs.lemmas.Result.{err_from_is_err_and}
use Rattle.bm_hash.proofs.HashesLemmas.{stops_short_of}
use Rattle.spec_compiler.specs.Transactions.{digest_of_spent}
use Rattle.spec_compiler.specs.Hashed.{spent_strings}
use Rattle.bm_compile.proofs.Chains.{hashed_step, stops_step, mapped_step}
use Rattle.bm_compile.proofs.preparing.digests_of.Goals as goal

pub loop-spent-preserved : goal.loop-spent-preserved
loop-spent-preserved g c =
    let digest = g.H.Hash32.digest_of in
    let first = c.args.trail.now.hasher in
    let tx = c.args.tx.now in
    record {
      hasher = c.in_ok-digest.ensures.trail.0 ∙ c.loop-spent.invariant.hasher;
      digests = mapped_step (digest_of_spent (digest first) tx) _ _ _ _ _ _ _ c.loop-spent-test.true c.spent-item.is
          (rw c.loop-spent.invariant.hasher at c.in_ok-digest.ensures.digest) c.in_ok-push.ensures.ok c.loop-spent.invariant.digests;
      trail = hashed_step (λ hash. spent_strings hash tx) digest first _ _ _ _ _ _ _ c.loop-spent.invariant.hasher c.loop-spent-test.true
          c.spent-item.is c.loop-spent.invariant.trail c.in_ok-digest.ensures.trail.1;
    }

pub returns-in_err-digest-clause-trail : goal.returns-in_err-digest-clause-trail
returns-in_err-digest-clause-trail g c =
    let p = err_from_is_err_and c.from_residual.result c.from_residual.ensures.1 in
    rw (p.1, p.2) (
      c.in_err-digest.ensures.trail.0
          ∙ c.loop-spent.invariant.hasher,
      tt,
      stops_step (λ hash. spent_strings hash c.args.tx.now) g.H.Hash32.digest_of
          c.args.trail.now.hasher _ _ _ _ _ _ _ _ c.loop-spent.invariant.hasher c.loop-spent-test.true c.spent-item.is
          c.loop-spent.invariant.trail c.in_err-digest.ensures.trail.2,
    )

pub returns-in_err-push-clause-trail : goal.returns-in_err-push-clause-trail
returns-in_err-push-clause-trail g c =
    let p = err_from_is_err_and c.from_residual-in_err-push.result c.from_residual-in_err-push.ensures.1 in
    let strings = spent_strings (g.H.Hash32.digest_of c.args.trail.now.hasher) c.args.tx.now in
    rw (p.1, p.2) (
      c.in_ok-digest.ensures.trail.0 ∙ c.loop-spent.invariant.hasher,
      tt,
      stops_short_of strings _ _ _ _ (c.loop-spent.spent-index + 1)
          (hashed_step (λ hash. spent_strings hash c.args.tx.now) g.H.Hash32.digest_of c.args.trail.now.hasher _ _ _ _ _ _ _
          c.loop-spent.invariant.hasher c.loop-spent-test.true c.spent-item.is c.loop-spent.invariant.trail c.in_ok-digest.ensures.trail.1),
    )
