use Rattle.std.proofs.Common.{◌∙◌, refl, ap}
use Rattle.std.proofs.lemmas.Result.{err_from_is_err_and}
use Rattle.spec_compiler.specs.Keyed.Keys.{key_in}
use Rattle.spec_compiler.specs.Keyed.Instance.{branch_label}
use Rattle.bm_compile.specs.Keyed.Sources.{label_strings, named_for}
use Rattle.bm_compile.proofs.Labels.{named_again}
use Rattle.bm_compile.proofs.Chains.{hashed_step, stops_step, mapped_step}
use Rattle.bm_compile.proofs.labelling.party_keys.Goals as goal

pub loop-party-preserved : goal.loop-party-preserved
loop-party-preserved g c =
    let digest = g.H.Hash32.digest_of in
    let first = c.args.trail.now.hasher in
    let keys = g.K.KeySource.keys c.args.source.now in
    let label = branch_label c.args.contract c.args.path.now in
    let named = c.loop-party.invariant.label c.party-item.result in
    record {
      label = λ q. ap (λ l. named_for l q) c.in_ok-put_key.ensures.label ∙ named_again _ _ q ∙ c.loop-party.invariant.label q;
      hasher = c.in_ok-put_key.ensures.trail.0 ∙ c.loop-party.invariant.hasher;
      keys = mapped_step (λ party. key_in (digest first) keys (label party)) _ _ _ _ _ _ _ c.loop-party-test.true c.party-item.is refl
          (rw (c.loop-party.invariant.hasher, named) at c.in_ok-put_key.ensures.keys) c.loop-party.invariant.keys;
      trail = hashed_step (λ hash party. label_strings keys (label party)) digest first _ _ _ _ _ _ _ c.loop-party.invariant.hasher
          c.loop-party-test.true c.party-item.is c.loop-party.invariant.trail (rw named at c.in_ok-put_key.ensures.trail.1);
    }

pub returns-in_err-put_key-clause-trail : goal.returns-in_err-put_key-clause-trail
returns-in_err-put_key-clause-trail g c =
    let p = err_from_is_err_and c.from_residual-in_err-put_key.result c.from_residual-in_err-put_key.ensures.1 in
    rw (p.1, p.2) (
      c.in_err-put_key.ensures.trail.0
          ∙ c.loop-party.invariant.hasher,
      tt,
      stops_step
          (λ hash party. label_strings (g.K.KeySource.keys c.args.source.now) (branch_label c.args.contract c.args.path.now party))
          g.H.Hash32.digest_of c.args.trail.now.hasher _ _ _ _ _ _ _ _ c.loop-party.invariant.hasher c.loop-party-test.true c.party-item.is
          c.loop-party.invariant.trail (rw (c.loop-party.invariant.label c.party-item.result) at c.in_err-put_key.ensures.trail.2),
    )
