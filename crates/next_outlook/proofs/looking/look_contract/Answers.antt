use Rattle.std.proofs.Common.{◌≡◌, List, refl, sym, ap, subst, ◌∙◌}
use Rattle.std.specs.List.{AllByRecursion}
use Rattle.std.proofs.lemmas.Result.{err_from_is_err_and}
use Rattle.spec_run.specs.declared.event.Event.{Event}
use Rattle.spec_run.specs.Conditions.{IsEvent, IsSetup}
use Rattle.spec_next.specs.Foreseen.{foreseen_strings}
use Rattle.spec_terms.specs.Parties.{participants}
use Rattle.spec_next.specs.Prospects.{outlook_by}
use Rattle.bm_world.specs.declared.halt.Halt.TheVariants.{Memory}
use Rattle.bm_world_board.specs.Prepares.{setup_of}
use Rattle.bm_world.specs.Playing.{setup_in}
use Rattle.bm_world_heard.specs.Heard.{Calm}
use Rattle.next_outlook.specs.Foretold.{all_foretold}
use Rattle.next_outlook.proofs.Events.{candidates_are}
use Rattle.bm_world_heard.proofs.Hearing.{hears_none, outstanding, stopped_same}
use Rattle.next_outlook.proofs.looking.look_contract.Goals as goal

pub returns-in_err-events-clause-stopped : goal.returns-in_err-events-clause-stopped
returns-in_err-events-clause-stopped g c =
    let p = err_from_is_err_and c.from_residual.result c.from_residual.ensures.1 in
    rw (p.1, p.2) (outstanding g.H.Hash32.digest_of c.args.world.now c.args.world.now _ _ Memory (hears_none g.H.Hash32.digest_of c.args.world.now) refl)

pub look_all-requires-clause-are : goal.look_all-requires-clause-are
look_all-requires-clause-are g c =
    let digest = g.H.Hash32.digest_of in
    let s = setup_in digest c.args.world.now in
    let b = c.board-board.result.now in
    let same : setup_of (digest c.args.world.now.hasher) b ≡ s =
    λ i. record { hash = digest c.args.world.now.hasher; header = c.board-board.ensures.header i; contracts = c.board-board.ensures.contracts i } in
    let setup : IsSetup s = subst IsSetup same c.board-board.ensures.is.setup in
    subst (λ (es : List Event). AllByRecursion (IsEvent s) es) (sym (c.as_slice.ensures ∙ c.in_ok-events.ensures))
    (candidates_are s setup.header c.args.config.now c.args.world.now.world c.args.contract c.args.checked.now)

pub returns-in_err-prospects-clause-stopped : goal.returns-in_err-prospects-clause-stopped
returns-in_err-prospects-clause-stopped g c =
    let s = setup_in g.H.Hash32.digest_of c.args.world.now in
    let p = err_from_is_err_and c.from_residual-in_err-prospects.result c.from_residual-in_err-prospects.ensures.1 in
    rw (p.1, p.2) (stopped_same g.H.Hash32.digest_of c.args.world.now c.look_all.new.world _ _ _
    (ap (foreseen_strings s c.args.world.now.world) (c.as_slice.ensures ∙ c.in_ok-events.ensures)) c.in_err-prospects.ensures.stopped)

pub returns-in-Ok-clause-sees : goal.returns-in-Ok-clause-sees
returns-in-Ok-clause-sees g c =
    let s = setup_in g.H.Hash32.digest_of c.args.world.now in
    let w = c.args.world.now.world in
    let es = c.as_slice.ensures ∙ c.in_ok-events.ensures in
    record {
      calm = subst (λ (xs : List Event). Calm g.H.Hash32.digest_of c.args.world.now c.look_all.new.world (foreseen_strings s w xs)) es
          c.in_ok-prospects.ensures.sees.calm;
      told =
          let here = c.in_ok-prospects.ensures.sees.told ∙ ap (all_foretold s c.args.config.now w) es in
          c.in-Ok.ensures
          ∙ (λ i. outlook_by c.args.config.now (c.is_over-over.ensures i) c.args.contract (participants c.args.checked.now) (here i));
    }

pub returns-clause-stopped : goal.returns-clause-stopped
returns-clause-stopped g c =
    outstanding g.H.Hash32.digest_of c.args.world.now c.look_all.new.world _ _ Memory c.in_ok-prospects.ensures.sees.calm.hears refl
