use Rattle.std.proofs.Common.{◌∙◌, ap, map}
use Rattle.std.proofs.lemmas.Result.{err_from_is_err_and}
use Rattle.bm_hash.proofs.HashesLemmas.{Stops-first}
use Rattle.bm_world_board.specs.Accounts.{account_with, opening_labels, opening_scripts}
use Rattle.bm_world_board.proofs.Naming.{accounts-named, hashed_scripts, stops_scripts}
use Rattle.bm_world_board.proofs.accounts.accounts_of.Goals as goal

pub returns-in_err-named-clause-trail : goal.returns-in_err-named-clause-trail
returns-in_err-named-clause-trail g c =
    let hash = g.H.Hash32.digest_of c.args.trail.now.hasher in
    let p = err_from_is_err_and c.from_residual.result c.from_residual.ensures.1 in
    rw (p.1, p.2) (
      c.in_err-named.ensures.trail.0,
      tt,
      Stops-first hash _ _ (opening_labels c.args.parties.now)
          (opening_scripts hash c.args.parties.now) _ c.in_err-named.ensures.trail.2,
    )

pub returns-in_err-accounts-clause-trail : goal.returns-in_err-accounts-clause-trail
returns-in_err-accounts-clause-trail g c =
    let p = err_from_is_err_and c.from_residual-in_err-accounts.result c.from_residual-in_err-accounts.ensures.1 in
    rw (p.1, p.2) (
      c.in_err-accounts.ensures.trail.0
          ∙ c.in_ok-named.ensures.trail.0,
      tt,
      stops_scripts g.H.Hash32.digest_of c.args.trail.now.hasher _ _ _ _ c.args.parties.now
          c.in_ok-named.named _ c.in_ok-named.ensures.trail.0 c.in_ok-named.ensures.keys c.in_ok-named.ensures.trail.1
          (rw c.as_slice.ensures at c.in_err-accounts.ensures.trail.2),
    )

pub returns-clause-accounts : goal.returns-clause-accounts
returns-clause-accounts g c =
    let hash = g.H.Hash32.digest_of c.args.trail.now.hasher in
    (rw (c.in_ok-named.ensures.trail.0, c.as_slice.ensures) at c.in_ok-accounts.ensures.accounts)
    ∙ ap (map (account_with hash)) c.in_ok-named.ensures.keys ∙ accounts-named hash c.args.parties.now

pub returns-clause-trail : goal.returns-clause-trail
returns-clause-trail g c = (
  c.in_ok-accounts.ensures.trail.0 ∙ c.in_ok-named.ensures.trail.0,
  hashed_scripts g.H.Hash32.digest_of c.args.trail.now.hasher _ _ _ _
      c.args.parties.now c.in_ok-named.named c.in_ok-named.ensures.trail.0 c.in_ok-named.ensures.keys c.in_ok-named.ensures.trail.1
      (rw c.as_slice.ensures at c.in_ok-accounts.ensures.trail.1),
  tt,
)
