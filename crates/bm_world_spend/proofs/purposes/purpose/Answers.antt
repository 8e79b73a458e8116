use Rattle.std.proofs.Common.{sym, subst, ◌∙◌}
use Rattle.spec_run.specs.Ledger.{first_position, first_number}
use Rattle.bm_match.specs.Matches.{IsActive}
use Rattle.bm_world_board.specs.Prepares.{setup_of, world_of}
use Rattle.bm_world_board.specs.Reaching.{spent_in}
use Rattle.bm_world_spend.proofs.Kinded.{active_is, purpose_is}
use Rattle.bm_world_spend.proofs.purposes.purpose.Goals as goal

pub returns : goal.returns
returns c = λ hash messages all placed.
    let board = c.args.board.now in
    let tx = c.args.tx.now in
    let s = setup_of hash board in
    let w = world_of board messages in
    let spent = spent_in w tx in
    let branches = c.branches_are_found.ensures in
    let choices = c.choices_are_found.ensures in
    let active = active_is s w board.compiled all placed branches choices spent in
    let matched = c.find_among-matched.ensures s w spent (c.as_slice.ensures ∙ all)
    (subst (λ o. IsActive s w (first_position w spent) (first_number spent) o) (sym c.active_of.ensures) active) in
    purpose_is s w board.compiled all placed branches choices tx c.find_among-matched.result _ matched c.in_ok-positions.ensures c.begun_by.ensures
