use Rattle.std.proofs.Common.{◌++◌, ◌∷◌, [], sym, ◌∙◌, arith}
use Rattle.std.proofs.lemmas.List.FromFn.{map-range_with_len_more}
use Rattle.spec_address.specs.Groups.{group_at}
use Rattle.deal_address.proofs.groups.groups_of.Goals as goal

pub loop-i-preserved : goal.loop-i-preserved
loop-i-preserved c =
    c.in_ok-push.ensures.items ∙ (λ j. c.loop-i.invariant j ++ c.group_at.ensures j ∷ [])
    ∙ sym (map-range_with_len_more (group_at c.args.bytes.now) 0 c.loop-i.i c.loop-i.i (omega arith))
