use Rattle.std.proofs.Common.{[], sym, subst, ◌∙◌}
use Rattle.bm_hash.proofs.HashesLemmas.{hashed_none}
use Rattle.bm_world_board.specs.Prepares.{world_of, IsReady, Prepares}
use Rattle.bm_world_board.proofs.Refusals.{prepares_refused, prepares_passed}
use Rattle.bm_world_events.proofs.mining.pending_mine.Goals as goal

pub returns-in-Some : goal.returns-in-Some
returns-in-Some c = λ hash messages clear.
    prepares_refused hash (world_of c.args.board.now messages) messages _ c.in-Some.reason _ _ (sym (c.mine_refusal.ensures.reason messages) ∙ c.in-Some.is) c.refused.ensures.same c.refused.ensures.change clear

pub returns : goal.returns
returns c = λ hash messages clear.
    let w = world_of c.args.board.now messages in
    prepares_passed hash w w messages messages _ [] _ c.done.result (sym (c.mine_refusal.ensures.reason messages) ∙ c.in_default.is) (record {
      same = c.done.ensures.same w [];
      hashed = hashed_none hash messages clear;
      ready = subst (IsReady hash w) (sym c.done.ensures.change) (c.mine_refusal.ensures.few c.in_default.is);
    })
