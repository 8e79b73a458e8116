use Rattle.std.proofs.Common.{◌∙◌, refl}
use Rattle.std.proofs.lemmas.Result.{err_from_is_err_and}
use Rattle.bm_world_commit.specs.Committed.{own_string, own_digest}
use Rattle.bm_hash.proofs.Chains.{hashed_each, stops_each, mapped_step}
use Rattle.bm_world_commit.proofs.secrets.own_digests.Goals as goal

pub loop-name-preserved : goal.loop-name-preserved
loop-name-preserved g c =
    let digest = g.H.Hash32.digest_of in
    let first = c.args.trail.now.hasher in
    let secrets = c.args.secrets.now in
    let party = c.args.party.now in
    record {
      hasher = c.in_ok-put_own.ensures.trail.0 ∙ c.loop-name.invariant.hasher;
      digests = mapped_step (own_digest (digest first) secrets party) _ _ _ _ _ _ _ c.loop-name-test.true c.name-item.is refl
          (rw c.loop-name.invariant.hasher at c.in_ok-put_own.ensures.digests) c.loop-name.invariant.digests;
      trail = hashed_each (own_string secrets party) digest first _ _ _ _ _ _ _ c.loop-name.invariant.hasher c.loop-name-test.true
          c.name-item.is c.loop-name.invariant.trail c.in_ok-put_own.ensures.trail.1;
    }

pub returns-in_err-put_own-clause-trail : goal.returns-in_err-put_own-clause-trail
returns-in_err-put_own-clause-trail g c =
    let p = err_from_is_err_and c.from_residual.result c.from_residual.ensures.1 in
    rw (p.1, p.2) (
      c.in_err-put_own.ensures.trail.0
          ∙ c.loop-name.invariant.hasher,
      tt,
      stops_each (own_string c.args.secrets.now c.args.party.now) g.H.Hash32.digest_of
          c.args.trail.now.hasher _ _ _ _ _ _ _ _ c.loop-name.invariant.hasher c.loop-name-test.true c.name-item.is
          c.loop-name.invariant.trail c.in_err-put_own.ensures.trail.2,
    )
