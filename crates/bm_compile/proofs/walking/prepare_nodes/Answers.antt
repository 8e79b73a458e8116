use Rattle.std.proofs.Common.{◌∙◌}
use Rattle.std.specs.Prelude.{reverse}
use Rattle.std.proofs.lemmas.Result.{err_from_is_err_and}
use Rattle.bm_arena.specs.NodeView.{node_view}
use Rattle.bm_compile.specs.Keyed.Detailed.{kept_of}
use Rattle.bm_compile.specs.Passes.{listed_script, ready_strings}
use Rattle.bm_compile.specs.Seen.{has_bound_puts, has_few_parts}
use Rattle.bm_compile.proofs.Chains.{seen_item}
use Rattle.bm_compile.proofs.Turns.{turn_more, turn_payable, turn_stops, turn_end}
use Rattle.bm_compile.proofs.Walks.{walked_made, walked_hashed}
use Rattle.bm_compile.proofs.walking.prepare_nodes.Goals as goal

pub put_node-requires-clause-payable : goal.put_node-requires-clause-payable
put_node-requires-clause-payable g c =
    turn_payable (kept_of g.M.Kept.kept) node_view g.H.Hash32.digest_of (g.K.KeySource.keys c.args.source.now) c.args.setting.now
    (listed_script c.args.scripts.now) c.args.trail.now.hasher _ c.loop-node.invariant.hasher
    c.args.nodes.now c.loop-node.node-index c.node-item.result c.loop-node-test.true c.node-item.is (reverse c.loop-node.stack.items) _ _
    c.args.trail.now.messages _ _
    c.loop-node.invariant.walked c.requires.payable

pub put_node-requires-clause-bound : goal.put_node-requires-clause-bound
put_node-requires-clause-bound g c =
    seen_item node_view (has_bound_puts c.args.setting.now.bound) c.args.nodes.now c.loop-node.node-index c.node-item.result
    c.requires.bound c.loop-node-test.true c.node-item.is

pub put_node-requires-clause-parts : goal.put_node-requires-clause-parts
put_node-requires-clause-parts g c =
    seen_item node_view has_few_parts c.args.nodes.now c.loop-node.node-index c.node-item.result c.requires.parts c.loop-node-test.true c.node-item.is

pub loop-node-preserved : goal.loop-node-preserved
loop-node-preserved g c = record {
  hasher = c.in_ok-put_node.ensures.trail.0 ∙ c.loop-node.invariant.hasher;
  walked = turn_more (kept_of g.M.Kept.kept) node_view g.H.Hash32.digest_of (g.K.KeySource.keys c.args.source.now) c.args.setting.now
      (listed_script c.args.scripts.now) c.args.trail.now.hasher _ c.loop-node.invariant.hasher
      c.args.nodes.now c.loop-node.node-index c.node-item.result c.loop-node-test.true c.node-item.is (reverse c.loop-node.stack.items) _ _ _ _ _ _ _
      c.loop-node.invariant.walked c.in_ok-put_node.ensures.stack c.in_ok-put_node.ensures.made c.in_ok-put_node.ensures.trail.1;
}

pub returns-in_err-put_node-clause-trail : goal.returns-in_err-put_node-clause-trail
returns-in_err-put_node-clause-trail g c =
    let p = err_from_is_err_and c.from_residual-in_err-put_node.result c.from_residual-in_err-put_node.ensures.1 in
    rw (p.1, p.2) (
      c.in_err-put_node.ensures.trail.0 ∙ c.loop-node.invariant.hasher,
      tt,
      turn_stops (kept_of g.M.Kept.kept) node_view g.H.Hash32.digest_of (g.K.KeySource.keys c.args.source.now) c.args.setting.now
          (listed_script c.args.scripts.now) c.args.trail.now.hasher _ c.loop-node.invariant.hasher
          c.args.nodes.now c.loop-node.node-index c.node-item.result c.loop-node-test.true c.node-item.is (reverse c.loop-node.stack.items)
          _ _ _ _ c.loop-node.made _
          c.loop-node.invariant.walked c.in_err-put_node.ensures.trail.2,
    )

pub returns-clause-made : goal.returns-clause-made
returns-clause-made g c =
    let hash = g.H.Hash32.digest_of c.args.trail.now.hasher in
    walked_made (kept_of g.M.Kept.kept hash) (ready_strings hash) hash _ _ _ _
    (turn_end (kept_of g.M.Kept.kept) node_view hash (g.K.KeySource.keys c.args.source.now) c.args.setting.now
    (listed_script c.args.scripts.now) c.args.nodes.now c.loop-node.node-index (reverse c.loop-node.stack.items) _ _ _ _
    c.loop-node-test.false c.loop-node.invariant.walked)

pub returns-clause-trail : goal.returns-clause-trail
returns-clause-trail g c =
    let hash = g.H.Hash32.digest_of c.args.trail.now.hasher in (
      c.loop-node.invariant.hasher,
      walked_hashed (kept_of g.M.Kept.kept hash) (ready_strings hash) hash _ _ _ _
          (turn_end (kept_of g.M.Kept.kept) node_view hash (g.K.KeySource.keys c.args.source.now) c.args.setting.now
          (listed_script c.args.scripts.now) c.args.nodes.now c.loop-node.node-index (reverse c.loop-node.stack.items) _ _ _ _
          c.loop-node-test.false c.loop-node.invariant.walked),
      tt,
    )
