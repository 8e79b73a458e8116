use Rattle.bm_calculus.proofs.Agreed.{all_agreed}
use Rattle.bm_calculus.proofs.moves.all_agree.Goals as goal

pub returns-in-Ok : goal.returns-in-Ok
returns-in-Ok c =
    rw (c.are_agreed.ensures, c.deref.ensures.value, c.in-Ok.ensures, c.as_slice.ensures)
    (all_agreed c.args.deposits.now c.args.authorised.now c.args.action.now c.args.action.now.inputs)
