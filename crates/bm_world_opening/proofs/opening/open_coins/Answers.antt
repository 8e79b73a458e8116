use Rattle.std.proofs.Common.{◌∙◌}
use Rattle.std.proofs.lemmas.Result.{err_from_is_err_and}
use Rattle.bm_world_opening.proofs.Openings.{stops_accounts, stops_coins, hashed_coins}
use Rattle.bm_world_opening.proofs.opening.open_coins.Goals as goal

pub returns-in_err-accounts-clause-trail : goal.returns-in_err-accounts-clause-trail
returns-in_err-accounts-clause-trail g c =
    let p = err_from_is_err_and c.from_residual.result c.from_residual.ensures.1 in
    rw (p.1, p.2) (
      c.in_err-accounts.ensures.trail.0,
      tt,
      stops_accounts (g.H.Hash32.digest_of c.args.trail.now.hasher) c.args.header.now _
          _ _ (rw c.as_slice.ensures at c.in_err-accounts.ensures.trail.2),
    )

pub returns-in_err-coins-clause-trail : goal.returns-in_err-coins-clause-trail
returns-in_err-coins-clause-trail g c =
    let p = err_from_is_err_and c.from_residual-in_err-coins.result c.from_residual-in_err-coins.ensures.1 in
    rw (p.1, p.2) (
      c.in_err-coins.ensures.trail.0
          ∙ c.in_ok-accounts.ensures.trail.0,
      tt,
      stops_coins g.H.Hash32.digest_of c.args.trail.now.hasher _ c.args.header.now _ _ _ _
          c.in_ok-accounts.ensures.trail.0 (rw c.as_slice.ensures at c.in_ok-accounts.ensures.trail.1) c.in_err-coins.ensures.trail.2,
    )

pub returns-clause-trail : goal.returns-clause-trail
returns-clause-trail g c = (
  c.in_ok-coins.ensures.trail.0 ∙ c.in_ok-accounts.ensures.trail.0,
  hashed_coins g.H.Hash32.digest_of c.args.trail.now.hasher _
      c.args.header.now _ _ _ c.in_ok-accounts.ensures.trail.0 (rw c.as_slice.ensures at c.in_ok-accounts.ensures.trail.1) c.in_ok-coins.ensures.trail.1,
  tt,
)
