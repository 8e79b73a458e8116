use Rattle.bm_calculus.proofs.Reached.{reached_numbered, reached_within}
use Rattle.bm_calculus.proofs.config.Config.apply.Goals as goal

pub take-requires-clause-numbered : goal.take-requires-clause-numbered
take-requires-clause-numbered c = reached_numbered c.self.inside.state c.self.invariant

pub take-requires-clause-within : goal.take-requires-clause-within
take-requires-clause-within c = reached_within c.self.inside.state c.self.invariant
