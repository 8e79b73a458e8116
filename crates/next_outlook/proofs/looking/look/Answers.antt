use Rattle.std.proofs.Common.{refl, ap, ◌∙◌, ◌++◌}
use Rattle.std.proofs.lemmas.Result.{err_from_is_err_and}
use Rattle.spec_next.specs.declared.outlook.Prospect.{Prospect}
use Rattle.std.proofs.Common.{List}
use Rattle.bm_world.specs.declared.halt.Halt.TheVariants.{Memory}
use Rattle.next_outlook.specs.Foretold.{ruling_in}
use Rattle.bm_world_heard.proofs.Hearing.{foreseen_calm, foreseeing_stopped, outstanding}
use Rattle.next_outlook.proofs.Told.{told_there}
use Rattle.next_outlook.proofs.looking.look.Goals as goal

pub returns-in_err-outcome-clause-stopped : goal.returns-in_err-outcome-clause-stopped
returns-in_err-outcome-clause-stopped g c =
    let p = err_from_is_err_and c.from_residual.result c.from_residual.ensures.1 in
    rw (p.1, p.2) (foreseeing_stopped g.H.Hash32.digest_of c.args.world.now c.foresee.new.self c.args.event.now _ c.in_err-outcome.ensures.stopped)

pub returns-in-Ok-clause-sees : goal.returns-in-Ok-clause-sees
returns-in-Ok-clause-sees g c = record {
  calm = foreseen_calm g.H.Hash32.digest_of c.args.world.now c.foresee.new.self c.args.event.now c.in_ok-outcome.outcome c.in_ok-outcome.ensures.foresees;
  told =
      c.in-Ok.ensures
      ∙ ap (λ (ps : List Prospect). c.args.prospects.now ++ ps)
      (told_there g.H.Hash32.digest_of c.args.config.now c.args.world.now c.foresee.new.self c.args.event.now c.in_ok-outcome.outcome
      (ruling_in c.in_ok-outcome.outcome) refl c.in_ok-outcome.ensures.foresees);
}

pub returns-clause-stopped : goal.returns-clause-stopped
returns-clause-stopped g c =
    outstanding g.H.Hash32.digest_of c.args.world.now c.foresee.new.self _ _ Memory
    (foreseen_calm g.H.Hash32.digest_of c.args.world.now c.foresee.new.self c.args.event.now c.in_ok-outcome.outcome c.in_ok-outcome.ensures.foresees).hears
    refl
