use Rattle.std.proofs.Common.{sym, ap, ◌∙◌}
use Rattle.std.specs.Prelude.{option_map, slice_get}
use Rattle.bm_world.specs.Playing.{setup_in}
use Rattle.next_outlook.proofs.Endorsing.{initials_nowhere}
use Rattle.next_outlook.proofs.hands.is_start_signed_with.Goals as goal

pub is_start_signed-requires-clause-checked : goal.is_start_signed-requires-clause-checked
is_start_signed-requires-clause-checked g c =
    ap (option_map (λ x. x.now)) (sym c.in-Some.is) ∙ c.contract.ensures ∙ ap (λ cs. slice_get cs c.args.contract) c.board.ensures.contracts

pub returns-in-None : goal.returns-in-None
returns-in-None g c =
    let s = setup_in g.H.Hash32.digest_of c.args.world.now in
    initials_nowhere s c.args.world.now.world c.args.contract c.args.party.now
    (ap (option_map (λ x. x.now)) (sym c.in-None.is) ∙ c.contract.ensures ∙ ap (λ cs. slice_get cs c.args.contract) c.board.ensures.contracts)
