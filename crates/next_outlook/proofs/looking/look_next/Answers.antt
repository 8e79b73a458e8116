use Rattle.std.proofs.Common.{[], ◌∷◌, ◌++◌, refl, ap, ◌∙◌}
use Rattle.spec_next.specs.declared.outlook.Outlook.{Outlook}
use Rattle.bm_world.specs.declared.halt.Halt.TheVariants.{Memory}
use Rattle.bm_world_heard.proofs.Hearing.{outstanding}
use Rattle.next_outlook.proofs.looking.look_next.Goals as goal

pub returns-in-Ok-clause-sees : goal.returns-in-Ok-clause-sees
returns-in-Ok-clause-sees g c = record {
  calm = c.in_ok-outlook.ensures.sees.calm;
  told = c.in-Ok.ensures.added ∙ ap (λ (o : Outlook). c.args.list.now ++ o ∷ []) c.in_ok-outlook.ensures.sees.told;
}

pub returns-in-Err-clause-stopped : goal.returns-in-Err-clause-stopped
returns-in-Err-clause-stopped g c =
    outstanding g.H.Hash32.digest_of c.args.world.now c.look_contract.new.world _ _ Memory c.in_ok-outlook.ensures.sees.calm.hears refl
