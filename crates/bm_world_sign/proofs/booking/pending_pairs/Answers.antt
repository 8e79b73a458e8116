use Rattle.std.proofs.Common.{[], subst, sym, ap, ◌∙◌}
use Rattle.bm_hash.proofs.HashesLemmas.{hashed_none}
use Rattle.spec_run.specs.Pending.{done}
use Rattle.bm_world_board.specs.Prepares.{world_of, IsReady}
use Rattle.bm_world_sign.proofs.booking.pending_pairs.Goals as goal

pub returns-clause-ok : goal.returns-clause-ok
returns-clause-ok c = λ hash messages clear.
    let w = world_of c.args.board.now messages in
    record {
      same = c.done.ensures.same _ _ ∙ ap (λ book. done (record w { book = book }) []) c.in_ok-sign_all.ensures.signed;
      hashed = hashed_none hash messages clear;
      ready = subst (IsReady hash _) (sym c.done.ensures.change) tt;
    }
