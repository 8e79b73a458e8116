use Rattle.std.proofs.Common.{◌<◌, ◌≤◌, length, sym, subst, ◌∙◌}
use Rattle.deal_address.proofs.Scripts.{few_groups, few_bytes}
use Rattle.deal_address.proofs.reading.script_of.Goals as goal

pub output-requires : goal.output-requires
output-requires c =
    let few = subst (λ groups. length groups ≤ 90) (sym c.groups_in.ensures) (few_groups c.args.values.now c.requires.most) in
    subst (λ program. length program < 256) (sym (c.as_slice.ensures.value ∙ c.in_ok-program.ensures)) (few_bytes c.groups_in.result.now few)
