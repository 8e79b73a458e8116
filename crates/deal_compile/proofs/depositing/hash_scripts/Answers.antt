use Rattle.std.proofs.Common.{◌∙◌}
use Rattle.std.proofs.lemmas.Result.{err_from_is_err_and}
use Rattle.bm_hash.proofs.Chains.{hashed_each, stops_each}
use Rattle.spec_bitcoin.specs.declared.label.Label.TheVariants.{Deposit}
use Rattle.spec_bitcoin.specs.Keys.{deposit_script}
use Rattle.spec_deal.specs.Setting.{key_at}
use Rattle.deal_compile.proofs.depositing.hash_scripts.Goals as goal

pub loop-party-preserved : goal.loop-party-preserved
loop-party-preserved g c = record {
  hasher = c.in_ok-hash_script.ensures.0 ∙ c.loop-party.invariant.hasher;
  trail = hashed_each (λ party. deposit_script (key_at c.args.keys.now.keys (Deposit party))) g.H.Hash32.digest_of c.args.trail.now.hasher _ _ _ _ _ _ _
      c.loop-party.invariant.hasher c.loop-party-test.true c.party-item.is c.loop-party.invariant.trail c.in_ok-hash_script.ensures.1;
}

pub returns-in_err-hash_script : goal.returns-in_err-hash_script
returns-in_err-hash_script g c =
    let p = err_from_is_err_and c.from_residual.result c.from_residual.ensures.1 in
    rw (p.1, p.2) (
      c.in_err-hash_script.ensures.0 ∙ c.loop-party.invariant.hasher,
      tt,
      stops_each (λ party. deposit_script (key_at c.args.keys.now.keys (Deposit party))) g.H.Hash32.digest_of c.args.trail.now.hasher _ _ _ _ _ _ _ _
          c.loop-party.invariant.hasher c.loop-party-test.true c.party-item.is c.loop-party.invariant.trail c.in_err-hash_script.ensures.2,
    )
