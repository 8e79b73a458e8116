use Rattle.std.proofs.Common.{◌++◌, ◌∙◌}
use Rattle.std.proofs.lemmas.Result.{err_from_is_err_and}
use Rattle.std.specs.List.{flat_map}
use Rattle.bm_hash.proofs.HashesLemmas.{Stops-first}
use Rattle.spec_bitcoin.specs.Digests.{txid_strings, shared_strings}
use Rattle.spec_compiler.specs.Transactions.{tx_of}
use Rattle.spec_compiler.specs.Hashed.{spent_strings}
use Rattle.bm_compile.proofs.Chains.{hashed_then, stops_then}
use Rattle.bm_compile.proofs.preparing.prepare.Goals as goal

pub returns-in_err-txid-clause-trail : goal.returns-in_err-txid-clause-trail
returns-in_err-txid-clause-trail g c =
    let p = err_from_is_err_and c.from_residual-in_err-txid.result c.from_residual-in_err-txid.ensures.1 in
    let hash = g.H.Hash32.digest_of c.args.trail.now.hasher in
    let tx = tx_of c.args.unsigned.now in
    rw (p.1, p.2) (
      c.in_err-txid.ensures.trail.0,
      tt,
      Stops-first hash _ _ (txid_strings hash tx)
          (shared_strings hash tx ++ flat_map (spent_strings hash tx) c.args.unsigned.now.spends) _ (rw c.in_ok-tx.ensures at c.in_err-txid.ensures.trail.2),
    )

pub returns-in_err-lists-clause-trail : goal.returns-in_err-lists-clause-trail
returns-in_err-lists-clause-trail g c =
    let p = err_from_is_err_and c.from_residual-in_err-lists.result c.from_residual-in_err-lists.ensures.1 in
    let digest = g.H.Hash32.digest_of in
    let tx = tx_of c.args.unsigned.now in
    let spends = c.args.unsigned.now.spends in
    let hash = digest c.txid.new.trail.hasher in
    rw (p.1, p.2) (
      c.in_err-lists.ensures.trail.0 ∙ c.in_ok-txid.ensures.trail.0,
      tt,
      stops_then digest c.args.trail.now.hasher _ _ _ _ (txid_strings (digest c.args.trail.now.hasher) tx)
          (λ h. shared_strings h tx ++ flat_map (spent_strings h tx) spends) _ c.in_ok-txid.ensures.trail.0
          (rw c.in_ok-tx.ensures at c.in_ok-txid.ensures.trail.1)
          (Stops-first hash _ _ (shared_strings hash tx) (flat_map (spent_strings hash tx) spends) _ (rw c.in_ok-tx.ensures at c.in_err-lists.ensures.trail.2)),
    )

pub returns-in_err-digests-clause-trail : goal.returns-in_err-digests-clause-trail
returns-in_err-digests-clause-trail g c =
    let p = err_from_is_err_and c.from_residual-in_err-digests.result c.from_residual-in_err-digests.ensures.1 in
    let digest = g.H.Hash32.digest_of in
    let tx = tx_of c.args.unsigned.now in
    let spends = c.args.unsigned.now.spends in
    let same = c.in_ok-lists.ensures.trail.0 ∙ c.in_ok-txid.ensures.trail.0 in
    rw (p.1, p.2) (
      c.in_err-digests.ensures.trail.0 ∙ same,
      tt,
      stops_then digest c.args.trail.now.hasher _ _ _ _ (txid_strings (digest c.args.trail.now.hasher) tx)
          (λ h. shared_strings h tx ++ flat_map (spent_strings h tx) spends) _ c.in_ok-txid.ensures.trail.0
          (rw c.in_ok-tx.ensures at c.in_ok-txid.ensures.trail.1)
          (stops_then digest c.txid.new.trail.hasher _ _ _ _ (shared_strings (digest c.txid.new.trail.hasher) tx)
          (λ h. flat_map (spent_strings h tx) spends) _ c.in_ok-lists.ensures.trail.0
          (rw c.in_ok-tx.ensures at c.in_ok-lists.ensures.trail.1)
          (rw (c.in_ok-tx.ensures, c.as_slice.ensures) at c.in_err-digests.ensures.trail.2)),
    )

pub returns-clause-trail : goal.returns-clause-trail
returns-clause-trail g c =
    let digest = g.H.Hash32.digest_of in
    let tx = tx_of c.args.unsigned.now in
    let spends = c.args.unsigned.now.spends in
    let same = c.in_ok-digests.ensures.trail.0 ∙ c.in_ok-lists.ensures.trail.0 ∙ c.in_ok-txid.ensures.trail.0 in (
      same,
      hashed_then digest c.args.trail.now.hasher _ _ _ _ (txid_strings (digest c.args.trail.now.hasher) tx)
          (λ h. shared_strings h tx ++ flat_map (spent_strings h tx) spends) c.in_ok-txid.ensures.trail.0
          (rw c.in_ok-tx.ensures at c.in_ok-txid.ensures.trail.1)
          (hashed_then digest c.txid.new.trail.hasher _ _ _ _ (shared_strings (digest c.txid.new.trail.hasher) tx)
          (λ h. flat_map (spent_strings h tx) spends) c.in_ok-lists.ensures.trail.0
          (rw c.in_ok-tx.ensures at c.in_ok-lists.ensures.trail.1)
          (rw (c.in_ok-tx.ensures, c.as_slice.ensures) at c.in_ok-digests.ensures.trail.1)),
      tt,
    )
