use Rattle.std.proofs.Common.{◌∙◌}
use Rattle.std.proofs.lemmas.Result.{err_from_is_err_and}
use Rattle.spec_bitcoin.specs.Digests.{txid_strings}
use Rattle.spec_chain.specs.Following.{items_in}
use Rattle.bm_hash.proofs.HashesLemmas.{Stops-first}
use Rattle.bm_hash.proofs.Chains.{stops_then}
use Rattle.deal_follow.proofs.hashing.hash_strings.Goals as goal

pub returns-in_err-txid-clause-trail : goal.returns-in_err-txid-clause-trail
returns-in_err-txid-clause-trail g c =
    let p = err_from_is_err_and c.from_residual.result c.from_residual.ensures.1 in
    let hash = g.H.Hash32.digest_of c.args.trail.now.hasher in
    rw (p.1, p.2) (
      c.in_err-txid.ensures.trail.0,
      tt,
      Stops-first hash _ _ (txid_strings hash c.args.tx.now) (items_in c.args.tx.now) _ c.in_err-txid.ensures.trail.2,
    )

pub returns-in_err-hash_items-clause-trail : goal.returns-in_err-hash_items-clause-trail
returns-in_err-hash_items-clause-trail g c =
    let p = err_from_is_err_and c.from_residual-in_err-hash_items.result c.from_residual-in_err-hash_items.ensures.1 in
    let digest = g.H.Hash32.digest_of in
    let first = c.args.trail.now.hasher in
    let ids = txid_strings (digest first) c.args.tx.now in
    rw (p.1, p.2) (
      c.in_err-hash_items.ensures.0 ∙ c.in_ok-txid.ensures.trail.0,
      tt,
      stops_then digest first _ _ _ _ ids (λ h. items_in c.args.tx.now) _ c.in_ok-txid.ensures.trail.0 c.in_ok-txid.ensures.trail.1
          (rw c.as_slice.ensures at c.in_err-hash_items.ensures.2),
    )
