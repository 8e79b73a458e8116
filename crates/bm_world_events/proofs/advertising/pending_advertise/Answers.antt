use Rattle.std.proofs.Common.{◌≡◌, [], ◌∷◌, ◌++◌, sym, ap, subst, ◌∙◌}
use Rattle.bm_hash.proofs.HashesLemmas.{hashed_none}
use Rattle.spec_run.specs.Pending.{done}
use Rattle.spec_run.specs.Advertising.{arranged, deposit_names}
use Rattle.bm_world_board.specs.Prepares.{setup_of, world_of, IsReady}
use Rattle.bm_world_board.proofs.Refusals.{prepares_refused, prepares_passed}
use Rattle.bm_world_events.proofs.advertising.pending_advertise.Goals as goal

pub returns-in-Some : goal.returns-in-Some
returns-in-Some c = λ hash messages same clear.
    prepares_refused hash (world_of c.args.board.now messages) messages _ c.in-Some.reason _ _ (sym (c.advertise_refusal.ensures hash messages same) ∙ c.in-Some.is) c.refused.ensures.same c.refused.ensures.change clear

pub returns : goal.returns
returns c = λ hash messages same clear.
    let w = world_of c.args.board.now messages in
    let s = setup_of hash c.args.board.now in
    let told : c.in_ok-bindings.bindings ≡ arranged 0 (deposit_names s c.args.contract) c.args.bindings.now =
    c.in_ok-bindings.ensures ∙ ap (λ names. arranged 0 names c.args.bindings.now) (c.as_slice-2.ensures ∙ c.in_ok-required.ensures) in
    prepares_passed hash w w messages messages _ [] _ c.done.result (sym (c.advertise_refusal.ensures hash messages same) ∙ c.in_default.is) (record {
      same = c.done.ensures.same w [] ∙ ap (λ bindings. done
          (record w { advertised = w.advertised ++ record { contract = c.args.contract; bindings = bindings } ∷ [] }) []) told;
      hashed = hashed_none hash messages clear;
      ready = subst (IsReady hash w) (sym c.done.ensures.change) tt;
    })
