use Rattle.std.proofs.Common.{sym, ◌∙◌}
use Rattle.bm_hash.proofs.HashSteps.{recalled}
use Rattle.bm_hash.proofs.messages.Trail.recall_ahead.Goals as goal

pub returns-clause-digest : goal.returns-clause-digest
returns-clause-digest g c =
    rw (← c.self.view_is) ((recalled _ _ _ _ c.self.invariant (sym c.is_some.ensures ∙ c.if-is_some.false) _ _ c.digest_ahead.ensures).0)

pub returns-clause-trail : goal.returns-clause-trail
returns-clause-trail g c =
    rw (← c.self.view_is) ((recalled _ _ _ _ c.self.invariant (sym c.is_some.ensures ∙ c.if-is_some.false) _ _ c.digest_ahead.ensures).1)
