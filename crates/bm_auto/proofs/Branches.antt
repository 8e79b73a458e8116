-- The events of rules on a branch are those of the definitions.
use Rattle.std.proofs.Common.{◌≡◌, ℕ, List, Option, Some, None, refl, ap, ◌∙◌}
use Rattle.spec_terms.specs.declared.path.PathStep.{PathStep}
use Rattle.spec_run.specs.declared.event.Event.{Event}
use Rattle.spec_run.specs.Setup.{Setup}
use Rattle.spec_run.specs.World.{World}
use Rattle.spec_tool.specs.declared.rule.Act.TheVariants as acts
use Rattle.spec_tool.specs.Turns.{taken_at, act_event}
use Rattle.bm_auto.specs.Ruled.{authorises, fires}

pub authorises_is : (s : Setup) (w : World) (party : List ℕ) (path : List PathStep) (taken : Option (ℕ × ℕ)) (e : Option Event)
    → taken ≡ taken_at s w path → e ≡ authorises party taken → e ≡ act_event s w party (acts.Authorise path)
authorises_is s w party path taken e h k = k ∙ ap (authorises party) h ∙ by_case (taken_at s w path) refl
  where
    by_case : (o : Option (ℕ × ℕ)) → taken_at s w path ≡ o → authorises party (taken_at s w path) ≡ act_event s w party (acts.Authorise path)
    by_case None e = rw e refl
    by_case (Some p) e = rw e refl

pub fires_is : (s : Setup) (w : World) (party : List ℕ) (path : List PathStep) (taken : Option (ℕ × ℕ)) (e : Option Event)
    → taken ≡ taken_at s w path → e ≡ fires taken → e ≡ act_event s w party (acts.Fire path)
fires_is s w party path taken e h k = k ∙ ap fires h ∙ by_case (taken_at s w path) refl
  where
    by_case : (o : Option (ℕ × ℕ)) → taken_at s w path ≡ o → fires (taken_at s w path) ≡ act_event s w party (acts.Fire path)
    by_case None e = rw e refl
    by_case (Some p) e = rw e refl
