use Rattle.std.proofs.Common.{ap, ◌∙◌}
use Rattle.std.specs.Prelude.{slice_get}
use Rattle.spec_terms.specs.Term.{branches}
use Rattle.bm_syntax.specs.View.{guarded, contract}
use Rattle.bm_syntax.proofs.Views.{seen_branch}
use Rattle.deal_finish.proofs.Choosing.{some_within}
use Rattle.deal_finish.proofs.witnesses.branch_in.Goals as goal

pub returns-clause-branch : goal.returns-clause-branch
returns-clause-branch c =
    seen_branch c.args.choice.now c.args.number c.item_at.result
    (c.item_at.ensures ∙ ap (λ bs. slice_get bs c.args.number) c.as_slice.ensures.value)

pub returns-clause-within : goal.returns-clause-within
returns-clause-within c =
    some_within (λ b. guarded b.now) (branches (contract c.args.choice.now)) c.args.number c.item_at.result
    (seen_branch c.args.choice.now c.args.number c.item_at.result
    (c.item_at.ensures ∙ ap (λ bs. slice_get bs c.args.number) c.as_slice.ensures.value))
