use Rattle.std.proofs.Common.{◌∙◌}
use Rattle.std.specs.List.{flat_map}
use Rattle.std.proofs.lemmas.Result.{err_from_is_err_and}
use Rattle.bm_hash.proofs.HashesLemmas.{Stops-first}
use Rattle.spec_compiler.specs.Keyed.Transactions.{initial_unsigned}
use Rattle.spec_compiler.specs.Keyed.Compilation.{path_transactions}
use Rattle.spec_compiler.specs.Keyed.Hashed.{unsigned_strings}
use Rattle.bm_compile.proofs.Chains.{hashed_then, stops_then}
use Rattle.bm_compile.proofs.compiling.prepare_all.Goals as goal

pub returns-in_err-init-clause-trail : goal.returns-in_err-init-clause-trail
returns-in_err-init-clause-trail g c =
    let p = err_from_is_err_and c.from_residual.result c.from_residual.ensures.1 in
    let hash = g.H.Hash32.digest_of c.args.trail.now.hasher in
    let keys = g.K.KeySource.keys c.args.source.now in
    let s = c.args.setting.now in
    rw (p.1, p.2) (
      c.in_err-init.ensures.trail.0,
      tt,
      Stops-first hash _ _ (unsigned_strings hash (initial_unsigned hash keys s))
          (flat_map (λ p. unsigned_strings hash p.1) (path_transactions hash keys s)) _ c.in_err-init.ensures.trail.2,
    )

pub returns-in_err-paths-clause-trail : goal.returns-in_err-paths-clause-trail
returns-in_err-paths-clause-trail g c =
    let p = err_from_is_err_and c.from_residual-in_err-paths.result c.from_residual-in_err-paths.ensures.1 in
    let digest = g.H.Hash32.digest_of in
    let first = c.args.trail.now.hasher in
    let keys = g.K.KeySource.keys c.args.source.now in
    let s = c.args.setting.now in
    rw (p.1, p.2) (
      c.in_err-paths.ensures.trail.0 ∙ c.in_ok-init.ensures.trail.0,
      tt,
      stops_then digest first _ _ _ _ (unsigned_strings (digest first) (initial_unsigned (digest first) keys s))
          (λ h. flat_map (λ p. unsigned_strings h p.1) (path_transactions h keys s)) _
          c.in_ok-init.ensures.trail.0 c.in_ok-init.ensures.trail.1 c.in_err-paths.ensures.trail.2,
    )

pub returns-clause-trail : goal.returns-clause-trail
returns-clause-trail g c =
    let digest = g.H.Hash32.digest_of in
    let first = c.args.trail.now.hasher in
    let keys = g.K.KeySource.keys c.args.source.now in
    let s = c.args.setting.now in (
      c.in_ok-paths.ensures.trail.0 ∙ c.in_ok-init.ensures.trail.0,
      hashed_then digest first _ _ _ _ (unsigned_strings (digest first) (initial_unsigned (digest first) keys s))
          (λ h. flat_map (λ p. unsigned_strings h p.1) (path_transactions h keys s))
          c.in_ok-init.ensures.trail.0 c.in_ok-init.ensures.trail.1 c.in_ok-paths.ensures.trail.1,
      tt,
    )
