use Rattle.std.proofs.Common.{◌∙◌, subst}
use Rattle.std.proofs.lemmas.Result.{err_from_is_err_and}
use Rattle.bm_hash.specs.Trails.{Hashed, Stops}
use Rattle.bm_hash.proofs.HashesLemmas.{Stops-first}
use Rattle.bm_hash.proofs.Chains.{hashed_then, stops_then}
use Rattle.spec_compiler.specs.Keyed.Hashed.{compiled_strings}
use Rattle.spec_deal.specs.Setting.{key_at, own_scripts, deal_keys, deal_instance}
use Rattle.deal_compile.proofs.Strings.{used_scripts, strings_of_deal}
use Rattle.deal_compile.proofs.compiling.details.Goals as goal

pub returns-in_err-hash_deposits-clause-trail : goal.returns-in_err-hash_deposits-clause-trail
returns-in_err-hash_deposits-clause-trail g c =
    let p = err_from_is_err_and c.from_residual.result c.from_residual.ensures.1 in
    let hash = g.H.Hash32.digest_of c.args.trail.now.hasher in
    let keys = deal_keys c.args.deal.now in
    let s = deal_instance c.args.checked.now c.args.deal.now in
    let scripts = used_scripts hash keys s in
    rw (p.1, p.2) (
      c.in_err-hash_deposits.ensures.0,
      tt,
      subst (λ l. Stops hash c.args.trail.now.messages c.hash_deposits.new.trail.messages l c.in_err-hash_deposits.field-0.0)
          (strings_of_deal hash (key_at c.args.deal.now.keys) (own_scripts c.args.deal.now) s)
          (Stops-first hash _ _ scripts (compiled_strings hash keys s) _ c.in_err-hash_deposits.ensures.2),
    )

pub returns-in_err-details-clause-trail : goal.returns-in_err-details-clause-trail
returns-in_err-details-clause-trail g c =
    let p = err_from_is_err_and c.from_residual-in_err-details.result c.from_residual-in_err-details.ensures.1 in
    let digest = g.H.Hash32.digest_of in
    let first = c.args.trail.now.hasher in
    let keys = deal_keys c.args.deal.now in
    let s = deal_instance c.args.checked.now c.args.deal.now in
    let scripts = used_scripts (digest first) keys s in
    rw (p.1, p.2) (
      c.in_err-details.ensures.trail.0 ∙ c.in_ok-hash_deposits.ensures.0,
      tt,
      subst (λ l. Stops (digest first) c.args.trail.now.messages c.compile_checked.new.trail.messages l c.in_err-details.field-0.0)
          (strings_of_deal (digest first) (key_at c.args.deal.now.keys) (own_scripts c.args.deal.now) s)
          (stops_then digest first _ _ _ _ scripts (λ h. compiled_strings h keys s) _ c.in_ok-hash_deposits.ensures.0
          c.in_ok-hash_deposits.ensures.1 c.in_err-details.ensures.trail.2),
    )

pub returns-clause-details : goal.returns-clause-details
returns-clause-details g c = rw c.in_ok-hash_deposits.ensures.0 at c.in_ok-details.ensures.details

pub returns-clause-trail : goal.returns-clause-trail
returns-clause-trail g c =
    let digest = g.H.Hash32.digest_of in
    let first = c.args.trail.now.hasher in
    let keys = deal_keys c.args.deal.now in
    let s = deal_instance c.args.checked.now c.args.deal.now in
    let scripts = used_scripts (digest first) keys s in (
      c.in_ok-details.ensures.trail.0 ∙ c.in_ok-hash_deposits.ensures.0,
      subst (λ l. Hashed (digest first) c.args.trail.now.messages c.compile_checked.new.trail.messages l) (strings_of_deal (digest first) (key_at c.args.deal.now.keys) (own_scripts c.args.deal.now) s)
          (hashed_then digest first _ _ _ _ scripts (λ h. compiled_strings h keys s) c.in_ok-hash_deposits.ensures.0
          c.in_ok-hash_deposits.ensures.1 c.in_ok-details.ensures.trail.1),
      tt,
    )
