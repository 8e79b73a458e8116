use Rattle.bm_world_apply.proofs.Applied.{on_err, grows_same, makes}
use Rattle.bm_world_apply.proofs.applying.make.Goals as goal

pub returns-in_err-put_record-clause-exchange : goal.returns-in_err-put_record-clause-exchange
returns-in_err-put_record-clause-exchange c = on_err c.from_residual.result _ (grows_same c.args.board.now.exchange)

pub returns-clause-world : goal.returns-clause-world
returns-clause-world c = makes c.args.board.now c.make_change.new.board c.post_all.new.exchange c.args.pending_change.now
    (rw c.as_slice.ensures at c.in_ok-post_all.ensures.ok) c.in_ok-make_change.ensures.ok c.make_change.ensures.rest
