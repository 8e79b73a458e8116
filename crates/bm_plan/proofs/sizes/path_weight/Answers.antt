use Rattle.std.proofs.Common.{◌∙◌}
use Rattle.bm_plan.proofs.Secrets.{with_least, with_most}
use Rattle.bm_plan.proofs.sizes.path_weight.Goals as goal

pub returns : goal.returns
returns c =
    let a = c.with_secrets.ensures ∙ with_least c.args.sizes.now in
    let b = c.with_secrets-2.ensures ∙ with_most c.args.sizes.now in
    λ i. record { least = a i; most = b i }
