use Rattle.std.proofs.Common.{◌≡◌, ℕ, List, subst, ap, IfOk}
use Rattle.std.specs.List.{sum_by}
use Rattle.bm_plan.specs.Told.{numbers_told}
use Rattle.bm_plan.proofs.counts.counts_text.Goals as goal

pub returns-clause-counts : goal.returns-clause-counts
returns-clause-counts c w e =
    subst (λ t. IfOk c.told.result (λ text. text.items ≡ t))
    (ap (λ (live : List (ℕ × ℕ)). numbers_told c.args.events c.args.steps c.args.config.now (sum_by (λ o. o.1) live)) e) c.told.ensures
