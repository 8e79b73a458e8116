use Rattle.std.proofs.Common.{◌≡◌, ◌∙◌, length, map, sym, ap, subst, true, false}
use Rattle.std.proofs.lemmas.List.{length-map}
use Rattle.std.specs.Prelude.{IfOk}
use Rattle.spec_compiler.specs.Keyed.Instance.{branch_keys}
use Rattle.spec_compiler.specs.Keyed.Compilation.{compilation}
use Rattle.theory_script.specs.Keyed.Listed.{are_once}
use Rattle.bm_compile.specs.Keyed.Numbered.{numbered}
use Rattle.bm_compile.specs.Numbered.{Numbered, named}
use Rattle.bm_compile.proofs.Whole.{keys_whole, paths_named, paths_once, scripts_named, scripts_once}
use Rattle.bm_compile.proofs.compiling.gather.Goals as goal

pub of-requires-clause-paths : goal.of-requires-clause-paths
of-requires-clause-paths g c =
    let hash = g.H.Hash32.digest_of c.args.trail.now.hasher in
    let keys = g.K.KeySource.keys c.args.source.now in
    ap (map (λ p. p.0)) c.requires.paths ∙ paths_named hash keys c.args.setting.now c.nodes_give_paths.ensures ∙ ap (named true) (sym c.requires.root)

pub of-requires-clause-paths_once : goal.of-requires-clause-paths_once
of-requires-clause-paths_once g c =
    let hash = g.H.Hash32.digest_of c.args.trail.now.hasher in
    let keys = g.K.KeySource.keys c.args.source.now in
    ap (λ l. are_once (map (λ p. p.0) l)) c.requires.paths ∙ paths_once hash keys c.args.setting.now c.paths_in_order.ensures

pub of-requires-clause-scripts : goal.of-requires-clause-scripts
of-requires-clause-scripts g c =
    let hash = g.H.Hash32.digest_of c.args.trail.now.hasher in
    let keys = g.K.KeySource.keys c.args.source.now in
    ap (map (λ p. p.0)) c.requires.scripts ∙ scripts_named hash keys c.args.setting.now c.nodes_give_scripts.ensures ∙ ap (named false) (sym c.requires.root)

pub of-requires-clause-scripts_once : goal.of-requires-clause-scripts_once
of-requires-clause-scripts_once g c =
    let hash = g.H.Hash32.digest_of c.args.trail.now.hasher in
    let keys = g.K.KeySource.keys c.args.source.now in
    ap (λ l. are_once (map (λ p. p.0) l)) c.requires.scripts ∙ scripts_once hash keys c.args.setting.now c.paths_in_order.ensures

pub of-requires-clause-keys : goal.of-requires-clause-keys
of-requires-clause-keys g c =
    let hash = g.H.Hash32.digest_of c.args.trail.now.hasher in
    let keys = g.K.KeySource.keys c.args.source.now in
    let s = c.args.setting.now in
    let listed_keys = c.in_ok-keys.ensures
    ∙ keys_whole hash keys s _ c.args.made.3 c.nodes_give_paths.ensures (c.nodes.ensures ∙ c.requires.root) c.requires.keys in
    ap length listed_keys ∙ length-map (compilation hash keys s).paths (λ p. branch_keys hash keys s p.0) ∙ sym (ap length c.requires.paths)

pub returns : goal.returns
returns g c =
    let hash = g.H.Hash32.digest_of c.args.trail.now.hasher in
    let keys = g.K.KeySource.keys c.args.source.now in
    let s = c.args.setting.now in
    let init = c.into_prepared.ensures ∙ ap (λ d. d.prepared) c.requires.init in
    let listed_keys = c.in_ok-keys.ensures
    ∙ keys_whole hash keys s _ c.args.made.3 c.nodes_give_paths.ensures (c.nodes.ensures ∙ c.requires.root) c.requires.keys in
    let parts : Numbered = record {
      nodes = c.args.arena;
      init = c.into_prepared.result;
      paths = c.args.made.1;
      scripts = c.args.made.2;
      keys = c.in_ok-keys.keys;
    } in
    let whole : parts ≡ numbered hash keys s = λ j. record {
      nodes = c.requires.root j;
      init = init j;
      paths = c.requires.paths j;
      scripts = c.requires.scripts j;
      keys = listed_keys j;
    } in
    subst (λ t. IfOk c.of.result (λ x. x ≡ t)) whole c.of.ensures
