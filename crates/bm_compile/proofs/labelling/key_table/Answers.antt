use Rattle.std.proofs.Common.{◌∙◌, refl}
use Rattle.std.proofs.lemmas.Result.{err_from_is_err_and}
use Rattle.bm_arena.specs.NodeView.{node_view}
use Rattle.bm_compile.specs.Passes.{keys_of_node, labels_of_node}
use Rattle.bm_compile.proofs.Chains.{hashed_step, stops_step, mapped_step}
use Rattle.bm_compile.proofs.labelling.key_table.Goals as goal

pub loop-node-preserved : goal.loop-node-preserved
loop-node-preserved g c =
    let digest = g.H.Hash32.digest_of in
    let first = c.args.trail.now.hasher in
    let s = c.args.setting.now in
    let keys = g.K.KeySource.keys c.args.source.now in
    record {
      hasher = c.in_ok-put_keys.ensures.trail.0 ∙ c.loop-node.invariant.hasher;
      keys = mapped_step (λ node. keys_of_node (digest first) keys s (node_view node)) _ _ _ _ _ _ _ c.loop-node-test.true c.node-item.is
          refl (rw c.loop-node.invariant.hasher at c.in_ok-put_keys.ensures.keys) c.loop-node.invariant.keys;
      trail = hashed_step (λ hash node. labels_of_node keys s (node_view node)) digest first _ _ _ _ _ _ _ c.loop-node.invariant.hasher
          c.loop-node-test.true c.node-item.is c.loop-node.invariant.trail c.in_ok-put_keys.ensures.trail.1;
    }

pub returns-in_err-put_keys-clause-trail : goal.returns-in_err-put_keys-clause-trail
returns-in_err-put_keys-clause-trail g c =
    let p = err_from_is_err_and c.from_residual.result c.from_residual.ensures.1 in
    rw (p.1, p.2) (
      c.in_err-put_keys.ensures.trail.0
          ∙ c.loop-node.invariant.hasher,
      tt,
      stops_step
          (λ hash node. labels_of_node (g.K.KeySource.keys c.args.source.now) c.args.setting.now (node_view node)) g.H.Hash32.digest_of
          c.args.trail.now.hasher _ _ _ _ _ _ _ _ c.loop-node.invariant.hasher c.loop-node-test.true c.node-item.is
          c.loop-node.invariant.trail c.in_err-put_keys.ensures.trail.2,
    )
