use Rattle.std.proofs.Common.{Err, ap, ◌∙◌, arith}
use Rattle.spec_bitcoin.specs.Reading.{transaction_of}
use Rattle.theory_run.proofs.Sizes.{piece_bounds}
use Rattle.theory_run.proofs.Events.Fired.{piece_numbered}
use Rattle.bm_world_board.specs.Prepares.{setup_of, world_of}
use Rattle.bm_world_board.proofs.Fresh.{fresh_tx}
use Rattle.bm_world_board.proofs.Reached.{bad_prepares}
use Rattle.bm_world_spend.proofs.Kept.{placed_kept}
use Rattle.bm_world_spend.proofs.appending.pending_append.Goals as goal

pub pending_reaching-requires-clause-inputs : goal.pending_reaching-requires-clause-inputs
pending_reaching-requires-clause-inputs g c =
    let b = piece_bounds c.args.bytes.now c.requires.piece c.in-Ok.tx (c.in-Ok.ensures.ok) in
    let few = b.0 in
    omega (arith, few)

pub pending_reaching-requires-clause-room : goal.pending_reaching-requires-clause-room
pending_reaching-requires-clause-room g c =
    let b = piece_bounds c.args.bytes.now c.requires.piece c.in-Ok.tx (c.in-Ok.ensures.ok) in
    let few = b.1 in
    let room = c.requires.playable.room in
    omega (arith, few, room)

pub pending_reaching-requires-clause-fresh : goal.pending_reaching-requires-clause-fresh
pending_reaching-requires-clause-fresh g c =
    let keeps = c.requires.playable.kept in
    fresh_tx _ c.requires.playable.setup keeps.config _ keeps.books c.in-Ok.tx
    (piece_numbered c.args.bytes.now c.requires.piece c.in-Ok.tx (c.in-Ok.ensures.ok))

pub pending_reaching-requires-clause-placed : goal.pending_reaching-requires-clause-placed
pending_reaching-requires-clause-placed g c = placed_kept _ c.requires.playable.kept.config _ c.requires.playable.kept.books

pub returns-in-Err-BadTx-clause-ok : goal.returns-in-Err-BadTx-clause-ok
returns-in-Err-BadTx-clause-ok g c =
    let hash = g.H.Hash32.digest_of c.args.trail.now.hasher in
    bad_prepares (setup_of hash c.args.board.now)
    (world_of c.args.board.now c.args.trail.now.messages) _ (transaction_of c.args.bytes.now) c.in-Err-BadTx.place c.refused.result
    (c.decode.ensures.bad _ (c.in-Err-BadTx.is ∙ ap Err c.in-Err-BadTx.field-0-is)) c.refused.ensures.same c.refused.ensures.change c.requires.playable.clear
