use Rattle.std.proofs.Common.{◌∙◌, map, sym, ap}
use Rattle.std.specs.List.{flat_map}
use Rattle.std.proofs.lemmas.Result.{err_from_is_err_and}
use Rattle.bm_hash.proofs.HashesLemmas.{Stops-first}
use Rattle.spec_compiler.specs.Keyed.Compilation.{scripts}
use Rattle.bm_arena.specs.NodeView.{node_view}
use Rattle.bm_compile.specs.Passes.{has_short_reveals, keys_of_node, scripts_of_node}
use Rattle.bm_compile.proofs.Chains.{hashed_then, stops_then, all_map, map-view}
use Rattle.bm_compile.proofs.Whole.{labels_whole, strings_whole, scripts_whole}
use Rattle.bm_compile.proofs.compiling.node_scripts.Goals as goal

pub script_table-requires-clause-few : goal.script_table-requires-clause-few
script_table-requires-clause-few g c = sym (all_map node_view has_short_reveals c.nodes-nodes.result.now) ∙ rw c.nodes-nodes.ensures c.requires.few

pub returns-in_err-keys-clause-trail : goal.returns-in_err-keys-clause-trail
returns-in_err-keys-clause-trail g c =
    let p = err_from_is_err_and c.from_residual.result c.from_residual.ensures.1 in
    let hash = g.H.Hash32.digest_of c.args.trail.now.hasher in
    let keys = g.K.KeySource.keys c.args.source.now in
    let s = c.args.setting.now in
    let labels = labels_whole hash keys s node_view c.nodes-nodes.result.now c.nodes_give_paths.ensures (c.nodes-nodes.ensures ∙ c.requires.root) in
    rw (p.1, p.2) (
      c.in_err-keys.ensures.trail.0,
      tt,
      Stops-first hash _ _ _ (map (λ p. p.1) (scripts hash keys s)) _
          (rw labels at c.in_err-keys.ensures.trail.2),
    )

pub returns-in_err-scripts-clause-trail : goal.returns-in_err-scripts-clause-trail
returns-in_err-scripts-clause-trail g c =
    let p = err_from_is_err_and c.from_residual-in_err-scripts.result c.from_residual-in_err-scripts.ensures.1 in
    let digest = g.H.Hash32.digest_of in
    let first = c.args.trail.now.hasher in
    let keys = g.K.KeySource.keys c.args.source.now in
    let s = c.args.setting.now in
    let nodes = c.nodes-nodes.result.now in
    let is = c.nodes-nodes.ensures ∙ c.requires.root in
    let labels = labels_whole (digest first) keys s node_view nodes c.nodes_give_paths.ensures is in
    let strings = strings_whole (digest first) keys s node_view nodes c.nodes_give_scripts.ensures is in
    rw (p.1, p.2) (
      c.in_err-scripts.ensures.trail.0 ∙ c.in_ok-keys.ensures.trail.0,
      tt,
      rw strings at (stops_then digest first _ _ _ _ _
          (λ h. flat_map (λ node. scripts_of_node h keys s (map node_view nodes) (node_view node)) nodes) _ c.in_ok-keys.ensures.trail.0
          (rw labels at c.in_ok-keys.ensures.trail.1) c.in_err-scripts.ensures.trail.2),
    )

pub returns-clause-keys : goal.returns-clause-keys
returns-clause-keys g c =
    let made = keys_of_node (g.H.Hash32.digest_of c.args.trail.now.hasher) (g.K.KeySource.keys c.args.source.now) c.args.setting.now in
    c.in_ok-keys.ensures.keys
    ∙ sym (map-view node_view made c.nodes-nodes.result.now)
    ∙ ap (map made) (c.nodes-nodes.ensures ∙ c.requires.root)

pub returns-clause-scripts : goal.returns-clause-scripts
returns-clause-scripts g c =
    scripts_whole (g.H.Hash32.digest_of c.args.trail.now.hasher) (g.K.KeySource.keys c.args.source.now) c.args.setting.now node_view
    c.nodes-nodes.result.now c.in_ok-scripts.scripts (c.nodes-nodes.ensures ∙ c.requires.root)
    (rw c.in_ok-keys.ensures.trail.0 at c.in_ok-scripts.ensures.scripts)

pub returns-clause-trail : goal.returns-clause-trail
returns-clause-trail g c =
    let digest = g.H.Hash32.digest_of in
    let first = c.args.trail.now.hasher in
    let keys = g.K.KeySource.keys c.args.source.now in
    let s = c.args.setting.now in
    let nodes = c.nodes-nodes.result.now in
    let is = c.nodes-nodes.ensures ∙ c.requires.root in
    let labels = labels_whole (digest first) keys s node_view nodes c.nodes_give_paths.ensures is in
    let strings = strings_whole (digest first) keys s node_view nodes c.nodes_give_scripts.ensures is in (
      c.in_ok-scripts.ensures.trail.0 ∙ c.in_ok-keys.ensures.trail.0,
      rw strings at (hashed_then digest first _ _ _ _ _
          (λ h. flat_map (λ node. scripts_of_node h keys s (map node_view nodes) (node_view node)) nodes) c.in_ok-keys.ensures.trail.0
          (rw labels at c.in_ok-keys.ensures.trail.1) c.in_ok-scripts.ensures.trail.1),
      tt,
    )
