use Rattle.std.proofs.Common.{◌∙◌}
use Rattle.std.proofs.lemmas.Result.{err_from_is_err_and}
use Rattle.bm_hash.proofs.Chains.{hashed_step, stops_step}
use Rattle.deal_follow.specs.Seen.{witness_in}
use Rattle.deal_follow.proofs.hashing.hash_items.Goals as goal

pub loop-input-preserved : goal.loop-input-preserved
loop-input-preserved g c = record {
  hasher = c.in_ok-hash_all.ensures.0 ∙ c.loop-input.invariant.hasher;
  trail = hashed_step (λ hash. witness_in) g.H.Hash32.digest_of c.args.trail.now.hasher _ _ _ _ _ _ _ c.loop-input.invariant.hasher
      c.loop-input-test.true c.input-item.is c.loop-input.invariant.trail (rw c.as_slice.ensures at c.in_ok-hash_all.ensures.1);
}

pub returns-in_err-hash_all : goal.returns-in_err-hash_all
returns-in_err-hash_all g c =
    let p = err_from_is_err_and c.from_residual.result c.from_residual.ensures.1 in
    rw (p.1, p.2) (
      c.in_err-hash_all.ensures.0 ∙ c.loop-input.invariant.hasher,
      tt,
      stops_step (λ hash. witness_in) g.H.Hash32.digest_of c.args.trail.now.hasher _ _ _ _ _ _ _ _ c.loop-input.invariant.hasher
          c.loop-input-test.true c.input-item.is c.loop-input.invariant.trail (rw c.as_slice.ensures at c.in_err-hash_all.ensures.2),
    )
