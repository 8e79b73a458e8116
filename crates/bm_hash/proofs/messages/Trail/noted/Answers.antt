use Rattle.std.proofs.Common.{sym, ◌∙◌}
use Rattle.bm_hash.proofs.HashSteps.{recalled}
use Rattle.bm_hash.proofs.messages.Trail.noted.Goals as goal

pub returns : goal.returns
returns g c =
    rw (← c.self.view_is) ((recalled _ _ _ _ c.self.invariant (sym c.is_some.ensures ∙ c.if-is_some.false) _ _ c.noted_digest.ensures).0)
