use Rattle.std.proofs.Common.{sym, ◌∙◌}
use Rattle.bm_world.proofs.Compiling.{no_commit, still_compiled}
use Rattle.bm_world.proofs.preparing.pending.Goals as goal

pub returns-in_ok-pending_change-in_default-clause-compiled : goal.returns-in_ok-pending_change-in_default-clause-compiled
returns-in_ok-pending_change-in_default-clause-compiled g c =
    c.requires.playable.compiled ∙ sym
    (still_compiled _ c.requires.playable.setup c.requires.playable.kept.config _ c.requires.playable.kept.books c.args.event.now
    (no_commit c.args.event.now c.in_default.not-Commit))

pub pending_other-requires-clause-kind : goal.pending_other-requires-clause-kind
pending_other-requires-clause-kind g c = no_commit c.args.event.now c.in_default.not-Commit
