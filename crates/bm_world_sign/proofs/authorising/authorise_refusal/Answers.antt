use Rattle.std.proofs.Common.{Some, None, true, false, refl, sym, ◌∙◌}
use Rattle.bm_syntax.specs.View.{guarded}
use Rattle.bm_world_board.specs.Prepares.{setup_of, world_of}
use Rattle.bm_world_sign.proofs.Refused.{authorise_is, authorise_found}
use Rattle.bm_world_sign.proofs.authorising.authorise_refusal.Goals as goal

pub returns-in_default : goal.returns-in_default
returns-in_default c = λ hash messages.
    sym (authorise_is (setup_of hash c.args.board.now) (world_of c.args.board.now messages) c.args.party.now c.args.output c.args.branch
    None None (sym c.in_default.ensures) refl)

pub returns-in_default-branch_held : goal.returns-in_default-branch_held
returns-in_default-branch_held c = λ hash messages.
    sym (authorise_is (setup_of hash c.args.board.now) (world_of c.args.board.now messages) c.args.party.now c.args.output c.args.branch
    (Some c.in-Some.held.now) None (sym c.in-Some.ensures) (sym (c.in_default-branch_held.ensures hash)))

pub returns-then-not-asks : goal.returns-then-not-asks
returns-then-not-asks c = λ hash messages.
    sym (authorise_found (setup_of hash c.args.board.now) (world_of c.args.board.now messages) c.args.party.now c.args.output c.args.branch
    c.in-Some.held.now (guarded c.in-Some-branch_held.taken.now) false (sym c.in-Some.ensures) (sym (c.in-Some-branch_held.ensures hash))
    (sym c.asks.ensures ∙ c.if-not-asks.true))

pub returns : goal.returns
returns c = λ hash messages.
    sym (authorise_found (setup_of hash c.args.board.now) (world_of c.args.board.now messages) c.args.party.now c.args.output c.args.branch
    c.in-Some.held.now (guarded c.in-Some-branch_held.taken.now) true (sym c.in-Some.ensures) (sym (c.in-Some-branch_held.ensures hash))
    (sym c.asks.ensures ∙ c.if-not-asks.false))
