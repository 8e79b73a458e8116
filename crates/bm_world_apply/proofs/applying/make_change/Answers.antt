use Rattle.std.proofs.Common.{sym, ap, ◌∙◌}
use Rattle.bm_world_board.specs.declared.pending_change.Change.TheVariants.{Append}
use Rattle.bm_world_board.specs.Prepares.{world_of, changed}
use Rattle.bm_world_apply.proofs.applying.make_change.Goals as goal

pub returns-in_ok-append-in-Append-clause-ok : goal.returns-in_ok-append-in-Append-clause-ok
returns-in_ok-append-in-Append-clause-ok c = λ messages.
    c.in_ok-append-in-Append.ensures.ok messages
    ∙ ap (λ a. changed (world_of c.args.board.now messages) (Append a)) c.value.ensures
    ∙ ap (changed (world_of c.args.board.now messages)) (sym c.in-Append.is)
