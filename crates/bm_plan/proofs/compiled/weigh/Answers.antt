use Rattle.std.proofs.Common.{◌∙◌, ap}
use Rattle.bm_plan.proofs.compiled.weigh.Goals as goal

pub returns-clause-compiled : goal.returns-clause-compiled
returns-clause-compiled c hash s size advert is =
    c.weigh_listed.ensures.compiled hash s size advert (c.init.ensures ∙ ap (λ n. n.init) is)
    (c.paths.ensures ∙ ap (λ n. n.paths) is) (c.scripts.ensures ∙ ap (λ n. n.scripts) is)
