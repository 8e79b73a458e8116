use Rattle.std.proofs.Common.{◌∙◌, refl}
use Rattle.std.proofs.lemmas.Result.{err_from_is_err_and}
use Rattle.bm_world_board.specs.Accounts.{account_with, script_string}
use Rattle.bm_hash.proofs.Chains.{hashed_each, stops_each, mapped_step}
use Rattle.bm_world_board.proofs.accounts.accounts_with.Goals as goal

pub loop-one-preserved : goal.loop-one-preserved
loop-one-preserved g c =
    let digest = g.H.Hash32.digest_of in
    let first = c.args.trail.now.hasher in
    record {
      hasher = c.in_ok-put_account.ensures.trail.0 ∙ c.loop-one.invariant.hasher;
      accounts = mapped_step (account_with (digest first)) _ _ _ _ _ _ _ c.loop-one-test.true c.one-item.is refl
          (rw c.loop-one.invariant.hasher at c.in_ok-put_account.ensures.accounts) c.loop-one.invariant.accounts;
      trail = hashed_each script_string digest first _ _ _ _ _ _ _ c.loop-one.invariant.hasher c.loop-one-test.true c.one-item.is
          c.loop-one.invariant.trail c.in_ok-put_account.ensures.trail.1;
    }

pub returns-in_err-put_account-clause-trail : goal.returns-in_err-put_account-clause-trail
returns-in_err-put_account-clause-trail g c =
    let p = err_from_is_err_and c.from_residual.result c.from_residual.ensures.1 in
    rw (p.1, p.2) (
      c.in_err-put_account.ensures.trail.0
          ∙ c.loop-one.invariant.hasher,
      tt,
      stops_each script_string g.H.Hash32.digest_of c.args.trail.now.hasher _ _ _ _ _ _ _ _
          c.loop-one.invariant.hasher c.loop-one-test.true c.one-item.is c.loop-one.invariant.trail c.in_err-put_account.ensures.trail.2,
    )
