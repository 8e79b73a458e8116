use Rattle.std.proofs.Common.{◌∙◌, refl}
use Rattle.std.proofs.lemmas.Result.{err_from_is_err_and}
use Rattle.bm_world_board.specs.Accounts.{named_key, label_string}
use Rattle.bm_hash.proofs.Chains.{hashed_each, stops_each, mapped_step}
use Rattle.bm_world_board.proofs.accounts.keys_of.Goals as goal

pub loop-party-preserved : goal.loop-party-preserved
loop-party-preserved g c =
    let digest = g.H.Hash32.digest_of in
    let first = c.args.trail.now.hasher in
    record {
      hasher = c.in_ok-put_key.ensures.trail.0 ∙ c.loop-party.invariant.hasher;
      keys = mapped_step (named_key (digest first)) _ _ _ _ _ _ _ c.loop-party-test.true c.party-item.is refl
          (rw c.loop-party.invariant.hasher at c.in_ok-put_key.ensures.keys) c.loop-party.invariant.keys;
      trail = hashed_each label_string digest first _ _ _ _ _ _ _ c.loop-party.invariant.hasher c.loop-party-test.true c.party-item.is
          c.loop-party.invariant.trail c.in_ok-put_key.ensures.trail.1;
    }

pub returns-in_err-put_key-clause-trail : goal.returns-in_err-put_key-clause-trail
returns-in_err-put_key-clause-trail g c =
    let p = err_from_is_err_and c.from_residual.result c.from_residual.ensures.1 in
    rw (p.1, p.2) (
      c.in_err-put_key.ensures.trail.0
          ∙ c.loop-party.invariant.hasher,
      tt,
      stops_each label_string g.H.Hash32.digest_of c.args.trail.now.hasher _ _ _ _ _ _ _ _
          c.loop-party.invariant.hasher c.loop-party-test.true c.party-item.is c.loop-party.invariant.trail c.in_err-put_key.ensures.trail.2,
    )
