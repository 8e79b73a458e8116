use Rattle.std.proofs.Common.{◌≡◌, subst, rules, IfOk}
use Rattle.bm_plan.proofs.AsCompiled.{weights_by_lists}
use Rattle.bm_plan.proofs.listed.weigh_listed.Goals as goal

pub returns-clause-by_lists : goal.returns-clause-by_lists
returns-clause-by_lists c = search rules

pub returns-clause-compiled : goal.returns-clause-compiled
returns-clause-compiled c hash s size advert init paths scripts =
    subst (λ all. IfOk c.all_weights.result (λ ws. ws.items ≡ all))
    (weights_by_lists hash s size c.args.checked.now c.args.init.now c.args.paths.now c.args.scripts.now advert init paths scripts)
    (returns-clause-by_lists c)
