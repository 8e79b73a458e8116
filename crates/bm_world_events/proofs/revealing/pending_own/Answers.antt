use Rattle.std.proofs.Common.{Some, ◌∙◌, subst}
use Rattle.spec_run.specs.Pending.{posting}
use Rattle.bm_world_board.specs.Prepares.{Prepares}
use Rattle.bm_world_events.proofs.revealing.pending_own.Goals as goal

pub returns-clause-ok : goal.returns-clause-ok
returns-clause-ok g c = λ w.
    subst (λ b. Prepares (g.H.Hash32.digest_of c.args.trail.now.hasher) w c.args.trail.now.messages c.pending_posting.new.trail.messages
    (posting w b (Some (c.args.party.now, c.args.secret.now))) c.in_ok-pending_change.pending_change)
    (c.as_slice.ensures ∙ c.in_ok-bytes.ensures) (c.in_ok-pending_change.ensures.ok w)
