use Rattle.std.proofs.Common.{subst}
use Rattle.tool_replies.specs.Whole.{IsLeft}
use Rattle.tool_replies.proofs.Endings.{whole_left, stopped_halts}
use Rattle.tool_replies.proofs.last.last_of.Goals as goal

pub returns-in-None-clause-whole : goal.returns-in-None-clause-whole
returns-in-None-clause-whole g c s es left =
    whole_left g.H.Hash32.digest_of s es c.args.world (subst (IsLeft g.H.Hash32.digest_of s es c.args.world) c.in-None.is left)

pub returns-in-Some-clause-halted : goal.returns-in-Some-clause-halted
returns-in-Some-clause-halted g c s es left =
    stopped_halts g.H.Hash32.digest_of s es c.args.world _ _ (subst (IsLeft g.H.Hash32.digest_of s es c.args.world) c.in-Some.is left)
