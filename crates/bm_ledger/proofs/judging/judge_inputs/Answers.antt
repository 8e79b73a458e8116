use Rattle.std.proofs.Common.{◌≡◌, ◌+◌, ◌∷◌, ◌∙◌, ap, sym, drop}
use Rattle.std.proofs.lemmas.List.{drop_more}
use Rattle.std.proofs.lemmas.Result.{err_from_is_err_and}
use Rattle.bm_hash.proofs.HashesLemmas.{hashed_more_of}
use Rattle.spec_bitcoin.specs.Verdict.{input_strings}
use Rattle.bm_ledger.proofs.Chained.{stops_at_element, stops_between}
use Rattle.bm_ledger.proofs.Rows.{next_refusal, inputs_refusal-step}
use Rattle.bm_ledger.proofs.judging.judge_inputs.Goals as goal

pub loop-k-preserved : goal.loop-k-preserved
loop-k-preserved g c =
    let hash = g.H.Hash32.digest_of c.args.trail.now.hasher in
    let inputs = c.as_slice-inputs.result.now in
    let k = c.loop-k.k in
    let input = c.index-inputs-k.result in
    let hashes = rw c.loop-k.invariant.hasher at c.in_ok-hashes.ensures.hashes in
    let same = c.hasher.ensures ∙ c.in_ok-hashes.ensures.trail.0 ∙ c.loop-k.invariant.hasher in
    let next = next_refusal hash (g.H.Hash32.digest_of c.hasher.result.now) c.args.book.now c.args.live.now c.args.tx.now
    k input c.in_ok-hashes.hashes c.loop-k.first c.in_ok-first.first (ap g.H.Hash32.digest_of same) hashes c.in_ok-first.ensures in
    let cut : drop k inputs ≡ input ∷ drop (k + 1) inputs =
    drop_more inputs k input c.loop-k-test.true ∙ ap (λ z. z ∷ drop (k + 1) inputs) (sym c.index-inputs-k.is) in
    record {
      hasher = c.in_ok-hashes.ensures.trail.0 ∙ c.loop-k.invariant.hasher;
      first = inputs_refusal-step hash c.args.book.now c.args.live.now c.args.tx.now k input (drop (k + 1) inputs) (drop k inputs)
          c.loop-k.first c.in_ok-first.first _ cut c.loop-k.invariant.first next;
      trail = hashed_more_of (input_strings hash c.args.live.now c.args.tx.now) _ _ _ _ _ _ _ c.loop-k-test.true c.index-inputs-k.is
          c.loop-k.invariant.trail (rw c.loop-k.invariant.hasher at c.in_ok-hashes.ensures.trail.1);
    }

pub returns-in_err-hashes-clause-trail : goal.returns-in_err-hashes-clause-trail
returns-in_err-hashes-clause-trail g c =
    let p = err_from_is_err_and c.from_residual.result c.from_residual.ensures.1 in
    rw (p.1, p.2) (
      c.in_err-hashes.ensures.trail.0
          ∙ c.loop-k.invariant.hasher,
      tt,
      stops_at_element
          (input_strings (g.H.Hash32.digest_of c.args.trail.now.hasher) c.args.live.now c.args.tx.now) _ _ _ _ _ _ _ _ _
          c.as_slice-inputs.ensures c.loop-k-test.true c.index-inputs-k.is c.loop-k.invariant.trail
          (rw c.loop-k.invariant.hasher at c.in_err-hashes.ensures.trail.2),
    )

pub returns-in_err-first-clause-trail : goal.returns-in_err-first-clause-trail
returns-in_err-first-clause-trail g c =
    let p = err_from_is_err_and c.from_residual-in_err-first.result c.from_residual-in_err-first.ensures.1 in
    let strings = input_strings (g.H.Hash32.digest_of c.args.trail.now.hasher) c.args.live.now c.args.tx.now in
    rw (p.1, p.2) (
      c.in_ok-hashes.ensures.trail.0
          ∙ c.loop-k.invariant.hasher,
      tt,
      stops_between strings _ _ _ _ _ (c.loop-k.k + 1) c.as_slice-inputs.ensures
          (hashed_more_of strings _ _ _ _ _ _ _ c.loop-k-test.true c.index-inputs-k.is c.loop-k.invariant.trail
          (rw c.loop-k.invariant.hasher at c.in_ok-hashes.ensures.trail.1)),
    )
