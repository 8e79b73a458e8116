use Rattle.deal_finish.proofs.FewChoices.{few_there}
use Rattle.deal_finish.proofs.witnesses.choice_under.Goals as goal

pub returns-clause-few : goal.returns-clause-few
returns-clause-few c =
    few_there (λ x. x.now) c.args.checked.now c.args.position.now c.choice_in.result c.choice_in.ensures.well_formed c.choice_in.ensures.choice
