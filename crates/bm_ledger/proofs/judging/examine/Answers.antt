use Rattle.std.proofs.Common.{◌∙◌}
use Rattle.std.specs.List.{flat_map}
use Rattle.std.proofs.lemmas.Result.{err_from_is_err_and}
use Rattle.spec_bitcoin.specs.Digests.{txid_strings, shared_strings}
use Rattle.spec_bitcoin.specs.Verdict.{input_strings}
use Rattle.bm_ledger.proofs.Chained.{stops_in_first, stops_in_second, stops_in_third}
use Rattle.bm_ledger.proofs.judging.examine.Goals as goal

-- the lists of the inputs' strings are given, since what computes can't be found again
pub returns-in_err-id-clause-trail : goal.returns-in_err-id-clause-trail
returns-in_err-id-clause-trail g c =
    let hash = g.H.Hash32.digest_of c.args.trail.now.hasher in
    let p = err_from_is_err_and c.from_residual.result c.from_residual.ensures.1 in
    rw (p.1, p.2) (
      c.in_err-id.ensures.trail.0,
      tt,
      stops_in_first hash (txid_strings hash c.args.tx.now)
          (shared_strings hash c.args.tx.now) (flat_map (input_strings hash c.args.live.now c.args.tx.now) c.args.tx.now.inputs) _ _ _
          c.in_err-id.ensures.trail.2,
    )

pub returns-in_err-lists-clause-trail : goal.returns-in_err-lists-clause-trail
returns-in_err-lists-clause-trail g c =
    let hash = g.H.Hash32.digest_of c.args.trail.now.hasher in
    let p = err_from_is_err_and c.from_residual-in_err-lists.result c.from_residual-in_err-lists.ensures.1 in
    rw (p.1, p.2) (
      c.in_err-lists.ensures.trail.0
          ∙ c.in_ok-id.ensures.trail.0,
      tt,
      stops_in_second hash (txid_strings hash c.args.tx.now) (shared_strings hash c.args.tx.now)
          (flat_map (input_strings hash c.args.live.now c.args.tx.now) c.args.tx.now.inputs) _ _ _ _ c.in_ok-id.ensures.trail.1
          (rw c.in_ok-id.ensures.trail.0 at c.in_err-lists.ensures.trail.2),
    )

pub returns-in_err-refusal-clause-trail : goal.returns-in_err-refusal-clause-trail
returns-in_err-refusal-clause-trail g c =
    let hash = g.H.Hash32.digest_of c.args.trail.now.hasher in
    let p = err_from_is_err_and c.from_residual-in_err-refusal.result c.from_residual-in_err-refusal.ensures.1 in
    let second = rw c.in_ok-id.ensures.trail.0 at c.in_ok-lists.ensures.trail.1 in
    let same = c.in_ok-lists.ensures.trail.0 ∙ c.in_ok-id.ensures.trail.0 in
    rw (p.1, p.2) (
      c.in_err-refusal.ensures.trail.0
          ∙ same,
      tt,
      stops_in_third hash (txid_strings hash c.args.tx.now) (shared_strings hash c.args.tx.now)
          (flat_map (input_strings hash c.args.live.now c.args.tx.now) c.args.tx.now.inputs) _ _ _ _ _ c.in_ok-id.ensures.trail.1 second
          (rw same at c.in_err-refusal.ensures.trail.2),
    )
