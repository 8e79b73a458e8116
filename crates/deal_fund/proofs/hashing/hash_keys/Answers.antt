use Rattle.std.proofs.Common.{◌∙◌}
use Rattle.std.proofs.lemmas.Result.{err_from_is_err_and}
use Rattle.bm_hash.proofs.Chains.{hashed_step, stops_step}
use Rattle.deal_fund.specs.Told.{key_strings}
use Rattle.deal_fund.proofs.hashing.hash_keys.Goals as goal

pub loop-party-preserved : goal.loop-party-preserved
loop-party-preserved g c = record {
  hasher = c.in_ok-hash_key.ensures.0 ∙ c.loop-party.invariant.hasher;
  trail = hashed_step (λ h. key_strings c.args.part.now) g.H.Hash32.digest_of c.args.trail.now.hasher _ _ _ _ _ _ _
      c.loop-party.invariant.hasher c.loop-party-test.true c.party-item.is c.loop-party.invariant.trail c.in_ok-hash_key.ensures.1;
}

pub returns-in_err-hash_key : goal.returns-in_err-hash_key
returns-in_err-hash_key g c =
    let p = err_from_is_err_and c.from_residual.result c.from_residual.ensures.1 in
    rw (p.1, p.2) (
      c.in_err-hash_key.ensures.0 ∙ c.loop-party.invariant.hasher,
      tt,
      stops_step (λ h. key_strings c.args.part.now) g.H.Hash32.digest_of c.args.trail.now.hasher _ _ _ _ _ _ _ _
          c.loop-party.invariant.hasher c.loop-party-test.true c.party-item.is c.loop-party.invariant.trail c.in_err-hash_key.ensures.2,
    )
