use Rattle.std.proofs.Common.{◌++◌, ◌∙◌, map, ap}
use Rattle.std.specs.List.{flat_map}
use Rattle.std.proofs.lemmas.Result.{err_from_is_err_and}
use Rattle.bm_hash.proofs.HashesLemmas.{stops_late}
use Rattle.spec_compiler.specs.Keyed.Transactions.{initial_unsigned}
use Rattle.spec_compiler.specs.Keyed.Compilation.{path_transactions, scripts}
use Rattle.spec_compiler.specs.Keyed.Hashed.{key_strings, unsigned_strings}
use Rattle.bm_compile.proofs.Chains.{hashed_four, stops_behind, stops_before}
use Rattle.bm_arena.specs.NodeView.{node_view}
use Rattle.theory_nodes.specs.Keyed.Walk.{listed_scripts}
use Rattle.bm_compile.specs.Passes.{listed_script}
use Rattle.bm_compile.proofs.Whole.{listed_whole}
use Rattle.bm_compile.proofs.compiling.make_all.Goals as goal

pub returns-in_err-keyed-clause-trail : goal.returns-in_err-keyed-clause-trail
returns-in_err-keyed-clause-trail g c =
    let p = err_from_is_err_and c.from_residual.result c.from_residual.ensures.1 in
    let digest = g.H.Hash32.digest_of in
    let first = c.args.trail.now.hasher in
    let keys = g.K.KeySource.keys c.args.source.now in
    let s = c.args.setting.now in
    rw (p.1, p.2) (
      c.in_err-keyed.ensures.trail.0,
      tt,
      stops_before digest first
          (flat_map (λ p. key_strings keys s p.0) (path_transactions (digest first) keys s)) (map (λ p. p.1) (scripts (digest first) keys s))
          _ _ _ _ c.in_err-keyed.ensures.trail.2,
    )

pub returns-in_err-made-clause-trail : goal.returns-in_err-made-clause-trail
returns-in_err-made-clause-trail g c =
    let p = err_from_is_err_and c.from_residual-in_err-made.result c.from_residual-in_err-made.ensures.1 in
    let digest = g.H.Hash32.digest_of in
    let first = c.args.trail.now.hasher in
    let keys = g.K.KeySource.keys c.args.source.now in
    let s = c.args.setting.now in
    rw (p.1, p.2) (
      c.in_err-made.ensures.trail.0 ∙ c.in_ok-keyed.ensures.trail.0,
      tt,
      stops_behind digest first (flat_map (λ p. key_strings keys s p.0) (path_transactions (digest first) keys s))
          (map (λ p. p.1) (scripts (digest first) keys s)) _ _ _ _
          (λ h. unsigned_strings h (initial_unsigned h keys s) ++ flat_map (λ p. unsigned_strings h p.1) (path_transactions h keys s)) _
          c.in_ok-keyed.ensures.trail.0 c.in_ok-keyed.ensures.trail.1 c.in_err-made.ensures.trail.2,
    )

pub returns-in_err-listed-clause-trail : goal.returns-in_err-listed-clause-trail
returns-in_err-listed-clause-trail g c =
    let p = err_from_is_err_and c.from_residual-in_err-listed.result c.from_residual-in_err-listed.ensures.1 in
    let digest = g.H.Hash32.digest_of in
    let first = c.args.trail.now.hasher in
    let keys = g.K.KeySource.keys c.args.source.now in
    let s = c.args.setting.now in
    rw (p.1, p.2) (
      c.in_ok-made.ensures.trail.0 ∙ c.in_ok-keyed.ensures.trail.0,
      tt,
      stops_late _ _ _ _ (hashed_four digest first (flat_map (λ p. key_strings keys s p.0) (path_transactions (digest first) keys s))
          (map (λ p. p.1) (scripts (digest first) keys s)) _ _ _ _
          (λ h. unsigned_strings h (initial_unsigned h keys s) ++ flat_map (λ p. unsigned_strings h p.1) (path_transactions h keys s))
          c.in_ok-keyed.ensures.trail.0 c.in_ok-keyed.ensures.trail.1 c.in_ok-made.ensures.trail.1),
    )

pub returns-clause-trail : goal.returns-clause-trail
returns-clause-trail g c =
    let digest = g.H.Hash32.digest_of in
    let first = c.args.trail.now.hasher in
    let keys = g.K.KeySource.keys c.args.source.now in
    let s = c.args.setting.now in (
      c.in_ok-made.ensures.trail.0 ∙ c.in_ok-keyed.ensures.trail.0,
      hashed_four digest first (flat_map (λ p. key_strings keys s p.0) (path_transactions (digest first) keys s))
          (map (λ p. p.1) (scripts (digest first) keys s)) _ _ _ _
          (λ h. unsigned_strings h (initial_unsigned h keys s) ++ flat_map (λ p. unsigned_strings h p.1) (path_transactions h keys s))
          c.in_ok-keyed.ensures.trail.0 c.in_ok-keyed.ensures.trail.1 c.in_ok-made.ensures.trail.1,
      tt,
    )

pub returns-clause-scripts : goal.returns-clause-scripts
returns-clause-scripts g c =
    let hash = g.H.Hash32.digest_of c.args.trail.now.hasher in
    let keys = g.K.KeySource.keys c.args.source.now in
    let s = c.args.setting.now in
    let nodes = c.nodes.ensures ∙ c.requires.root in
    c.in_ok-listed.ensures ∙ ap (λ t. listed_scripts (listed_script t) 0 (map node_view c.nodes.result.now)) c.as_slice-2.ensures
    ∙ listed_whole hash keys s (listed_script c.in_ok-keyed.keyed.1) (map node_view c.nodes.result.now) c.nodes_give_scripts.ensures nodes
    c.in_ok-keyed.ensures.scripts
