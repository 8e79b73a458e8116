use Rattle.bm_calculus.proofs.Reached.{reached_opening}
use Rattle.bm_calculus.proofs.config.Config.opening.Goals as goal

pub invariant_of-result : goal.invariant_of-result
invariant_of-result c =
    reached_opening c.in_ok-state.state c.args.parties.now c.args.honest.now c.args.deposits.now c.args.contracts.now
    c.in_ok-state.ensures.checked c.requires.money c.in_ok-state.ensures.opens
