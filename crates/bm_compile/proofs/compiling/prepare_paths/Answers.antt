use Rattle.std.proofs.Common.{◌≡◌, [], ◌∷◌, ◌∙◌, map, ap, subst}
use Rattle.std.specs.Prelude.{IfOk}
use Rattle.std.specs.List.{flat_map, list_all}
use Rattle.bm_hash.specs.Trails.{Hashes}
use Rattle.bm_arena.specs.NodeView.{node_view}
use Rattle.theory_nodes.specs.Keyed.Walk.{walk}
use Rattle.bm_compile.specs.Keyed.Detailed.{kept_of}
use Rattle.bm_compile.specs.Passes.{listed_script, ready_strings, root_with}
use Rattle.bm_compile.specs.Seen.{has_bound_puts, has_few_parts}
use Rattle.bm_compile.proofs.Bound.{bound_nodes, few_nodes_parts}
use Rattle.bm_compile.proofs.Payable.{walk_payable}
use Rattle.bm_compile.proofs.Whole.{walk_whole}
use Rattle.bm_compile.proofs.compiling.prepare_paths.Goals as goal

pub prepare_nodes-requires-clause-payable : goal.prepare_nodes-requires-clause-payable
prepare_nodes-requires-clause-payable g c =
    let s = c.args.setting.now in
    walk_payable (g.H.Hash32.digest_of c.args.trail.now.hasher) (g.K.KeySource.keys c.args.source.now) s c.is_seen_to.ensures.well_formed
    c.nodes_give_transactions.ensures
    (listed_script c.args.scripts.now) _ _ c.requires.scripts (c.nodes.ensures ∙ c.requires.root)
    (c.root_waiting-root.ensures ∙ ap (λ p. root_with s p.txid) c.requires.initial)

pub prepare_nodes-requires-clause-bound : goal.prepare_nodes-requires-clause-bound
prepare_nodes-requires-clause-bound g c =
    let s = c.args.setting.now in
    ap (list_all (has_bound_puts s.bound)) (c.nodes.ensures ∙ c.requires.root)
    ∙ bound_nodes s.bound s.advert c.is_seen_to.ensures.well_formed c.is_seen_to.ensures.bound

pub prepare_nodes-requires-clause-parts : goal.prepare_nodes-requires-clause-parts
prepare_nodes-requires-clause-parts g c =
    let s = c.args.setting.now in
    ap (list_all has_few_parts) (c.nodes.ensures ∙ c.requires.root)
    ∙ few_nodes_parts s.advert.root (c.few_nodes.ensures s.advert c.is_seen_to.ensures.well_formed)

pub returns-clause-made : goal.returns-clause-made
returns-clause-made g c =
    let hash = g.H.Hash32.digest_of c.args.trail.now.hasher in
    let keys = g.K.KeySource.keys c.args.source.now in
    let s = c.args.setting.now in
    let script = listed_script c.args.scripts.now in
    let nodes = map node_view c.nodes.result.now in
    let whole = ap (λ w. walk hash keys s script nodes (w ∷ [])) c.root_waiting-root.ensures
    ∙ walk_whole hash keys s script nodes c.args.init.now c.nodes_give_transactions.ensures
    (c.nodes.ensures ∙ c.requires.root) c.requires.scripts c.requires.initial in
    subst (λ l. IfOk c.prepare_nodes.result (λ made. made ≡ map (kept_of g.M.Kept.kept hash) l)) whole c.prepare_nodes.ensures.made

pub returns-clause-trail : goal.returns-clause-trail
returns-clause-trail g c =
    let hash = g.H.Hash32.digest_of c.args.trail.now.hasher in
    let keys = g.K.KeySource.keys c.args.source.now in
    let s = c.args.setting.now in
    let script = listed_script c.args.scripts.now in
    let nodes = map node_view c.nodes.result.now in
    let whole = ap (λ w. walk hash keys s script nodes (w ∷ [])) c.root_waiting-root.ensures
    ∙ walk_whole hash keys s script nodes c.args.init.now c.nodes_give_transactions.ensures
    (c.nodes.ensures ∙ c.requires.root) c.requires.scripts c.requires.initial in
    subst (λ l. Hashes g.H.Hash32.digest_of c.args.trail.now c.prepare_nodes.new.trail (flat_map (ready_strings hash) l)
    c.prepare_nodes.result) whole c.prepare_nodes.ensures.trail
