use Rattle.std.proofs.Common.{◌∙◌, refl, map}
use Rattle.std.proofs.lemmas.Result.{err_from_is_err_and}
use Rattle.bm_arena.specs.NodeView.{node_view}
use Rattle.bm_compile.specs.Passes.{script_of_node, scripts_of_node}
use Rattle.bm_compile.proofs.Chains.{hashed_step, stops_step, mapped_step}
use Rattle.bm_compile.proofs.scripting.script_table.Goals as goal

pub loop-node-preserved : goal.loop-node-preserved
loop-node-preserved g c =
    let digest = g.H.Hash32.digest_of in
    let first = c.args.trail.now.hasher in
    let s = c.args.setting.now in
    let keys = g.K.KeySource.keys c.args.source.now in
    let all = map node_view c.args.nodes.now in
    record {
      hasher = c.in_ok-put_script.ensures.trail.0 ∙ c.loop-node.invariant.hasher;
      scripts = mapped_step (λ node. script_of_node (digest first) keys s all (node_view node)) _ _ _ _ _ _ _ c.loop-node-test.true
          c.node-item.is refl (rw c.loop-node.invariant.hasher at c.in_ok-put_script.ensures.scripts) c.loop-node.invariant.scripts;
      trail = hashed_step (λ hash node. scripts_of_node hash keys s all (node_view node)) digest first _ _ _ _ _ _ _
          c.loop-node.invariant.hasher c.loop-node-test.true c.node-item.is c.loop-node.invariant.trail c.in_ok-put_script.ensures.trail.1;
    }

pub returns-in_err-put_script-clause-trail : goal.returns-in_err-put_script-clause-trail
returns-in_err-put_script-clause-trail g c =
    let p = err_from_is_err_and c.from_residual.result c.from_residual.ensures.1 in
    rw (p.1, p.2) (
      c.in_err-put_script.ensures.trail.0
          ∙ c.loop-node.invariant.hasher,
      tt,
      stops_step
          (λ hash node. scripts_of_node hash (g.K.KeySource.keys c.args.source.now) c.args.setting.now (map node_view c.args.nodes.now)
          (node_view node)) g.H.Hash32.digest_of c.args.trail.now.hasher _ _ _ _ _ _ _ _ c.loop-node.invariant.hasher c.loop-node-test.true
          c.node-item.is c.loop-node.invariant.trail c.in_err-put_script.ensures.trail.2,
    )
