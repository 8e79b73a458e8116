use Rattle.std.proofs.Common.{◌≡◌, ◌∙◌, sym, ap, subst, true}
use Rattle.std.specs.List.{list_all}
use Rattle.spec_terms.specs.Precondition.{deposits}
use Rattle.spec_deal.specs.Setting.{deal_keys, deal_instance}
use Rattle.bm_compile.specs.Keyed.Detailed.{details}
use Rattle.deal_compile.specs.Signable.{is_signable}
use Rattle.deal_compile.proofs.Bound.{names_bound}
use Rattle.deal_compile.proofs.Signable.{all_signable}
use Rattle.deal_compile.proofs.compiling.compile_deal.Goals as goal

pub details-requires-clause-bound : goal.details-requires-clause-bound
details-requires-clause-bound g c = names_bound (deposits c.args.checked.now.pre) c.args.deal.now.deposits c.requires.places

pub returns-clause-signable : goal.returns-clause-signable
returns-clause-signable g c =
    let digest = g.H.Hash32.digest_of in
    let deal = c.args.deal.now in
    let s = deal_instance c.args.checked.now deal in
    let same = c.hasher.ensures ∙ c.in_ok-made.ensures.trail.0 in
    let is = c.in_ok-compiled.ensures.transactions deal c.in_ok-keys.ensures
    (c.in_ok-made.ensures.details ∙ ap (λ h. details (digest h) (deal_keys deal) s) (sym same)) in
    subst (λ ts. list_all is_signable ts ≡ true) (sym is) (all_signable (digest c.hasher.result.now) (deal_keys deal) s c.is_well_formed.ensures)
