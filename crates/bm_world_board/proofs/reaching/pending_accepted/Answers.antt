use Rattle.std.proofs.Common.{rules}
use Rattle.bm_world_board.proofs.reaching.pending_accepted.Goals as goal

pub returns-clause-ready : goal.returns-clause-ready
returns-clause-ready c = λ hash messages. rw (c.in_ok-new-2.ensures, c.in_ok-new.ensures) (search rules)
