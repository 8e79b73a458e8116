use Rattle.std.proofs.Common.{◌≡◌, Some, None, sym, ap, ◌∙◌}
use Rattle.std.specs.Prelude.{slice_get}
use Rattle.std.specs.Option.{option_map}
use Rattle.spec_run.specs.Setup.{pre_of}
use Rattle.bm_world_board.specs.Prepares.{setup_of, world_of}
use Rattle.bm_world_events.proofs.Suiting.{unsuited_is}
use Rattle.bm_world_events.proofs.advertising.unsuited_in.Goals as goal

pub returns-in-Some : goal.returns-in-Some
returns-in-Some c = λ hash messages same.
    let there : slice_get c.args.board.now.contracts c.args.contract ≡ Some c.in-Some.checked.now = sym c.contract.ensures ∙ ap (option_map (λ r. r.now)) c.in-Some.is in
    c.unsuited.ensures
    ∙ unsuited_is (setup_of hash c.args.board.now) c.args.board.now.accounts same (world_of c.args.board.now messages) c.args.contract _ c.args.bindings.now
    (c.entries_of.ensures ∙ ap pre_of (sym there))

pub returns-in-None : goal.returns-in-None
returns-in-None c = λ hash messages same.
    let there : slice_get c.args.board.now.contracts c.args.contract ≡ None = sym c.contract.ensures ∙ ap (option_map (λ r. r.now)) c.in-None.is in
    c.unsuited-in-None.ensures
    ∙ unsuited_is (setup_of hash c.args.board.now) c.args.board.now.accounts same (world_of c.args.board.now messages) c.args.contract _ c.args.bindings.now
    (ap pre_of (sym there))
