use Rattle.std.proofs.Common.{rules, Some, ◌∙◌}
use Rattle.bm_world_apply.proofs.Last.{with_last}
use Rattle.bm_world_apply.proofs.applying.put_tx.Goals as goal

pub returns : goal.returns
returns c = λ prefix r split.
    c.of.ensures
    ∙ with_last prefix r c.index_mut.result.now c.into_vec-all.result.items c.len-last.result (Some c.args.tx)
    (c.into_vec-all.ensures ∙ c.replace.ensures.value ∙ split) (search rules) c.index_mut.ensures.value
