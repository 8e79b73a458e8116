-- Steps that are taken leave the lists of the configuration that they lead to.
use Rattle.std.proofs.Common.{◌≡◌, ◌+◌, ◌<◌, ◌^◌, List, [], ◌∷◌, refl, sym, ap, ◌∙◌, arith}
use Rattle.spec_calculus.specs.declared.step.Step.{Step}
use Rattle.spec_calculus.specs.declared.step.Step.TheVariants as steps
use Rattle.spec_calculus.specs.Configuration.{Configuration}
use Rattle.spec_calculus.specs.Steps.{effect, fails, names_made, after_steps, Legal}
use Rattle.bm_translate.specs.declared.running.Running.{Running}
use Rattle.bm_translate_course.specs.Passing.{inits_after, asked_after, after_step, after_all}
use Rattle.bm_translate_course.proofs.Names.{next_after, next_rises}

inits_are : (g : Configuration) (step : Step) → (effect g step).init_authorised ≡ inits_after g.init_authorised step
inits_are g (steps.Delay blocks) = refl
inits_are g (steps.AuthMove party action) = refl
inits_are g (steps.Move action) = refl
inits_are g (steps.Advertise contract bindings) = refl
inits_are g (steps.Commit contract party lengths) = refl
inits_are g (steps.AuthInit contract party deposit) = refl
inits_are g (steps.Init contract) = refl
inits_are g (steps.Reveal contract party secret) = refl
inits_are g (steps.AuthBranch party output branch) = refl
inits_are g (steps.PutReveal output branch) = refl
inits_are g (steps.Withdraw output branch) = refl
inits_are g (steps.Split output branch) = refl

asked_are : (g : Configuration) (step : Step) → (effect g step).branch_authorised ≡ asked_after g.branch_authorised step
asked_are g (steps.Delay blocks) = refl
asked_are g (steps.AuthMove party action) = refl
asked_are g (steps.Move action) = refl
asked_are g (steps.Advertise contract bindings) = refl
asked_are g (steps.Commit contract party lengths) = refl
asked_are g (steps.AuthInit contract party deposit) = refl
asked_are g (steps.Init contract) = refl
asked_are g (steps.Reveal contract party secret) = refl
asked_are g (steps.AuthBranch party output branch) = refl
asked_are g (steps.PutReveal output branch) = refl
asked_are g (steps.Withdraw output branch) = refl
asked_are g (steps.Split output branch) = refl

-- ---- all of the steps

pub config_after : (ss : List Step) (r : Running) → (after_all r ss).config ≡ after_steps r.config ss
config_after [] r = refl
config_after (step ∷ ss) r = config_after ss (after_step r step)

pub secrets_after : (ss : List Step) (r : Running) → (after_all r ss).secrets ≡ r.secrets
secrets_after [] r = refl
secrets_after (step ∷ ss) r = secrets_after ss (after_step r step)

pub inits_after_all : (ss : List Step) (r : Running) → r.inits ≡ r.config.init_authorised
    → (after_all r ss).inits ≡ (after_steps r.config ss).init_authorised
inits_after_all [] r e = e
inits_after_all (step ∷ ss) r e =
    inits_after_all ss (after_step r step) (ap (λ xs. inits_after xs step) e ∙ sym (inits_are r.config step))

pub asked_after_all : (ss : List Step) (r : Running) → r.asked ≡ r.config.branch_authorised
    → (after_all r ss).asked ≡ (after_steps r.config ss).branch_authorised
asked_after_all [] r e = e
asked_after_all (step ∷ ss) r e =
    asked_after_all ss (after_step r step) (ap (λ xs. asked_after xs step) e ∙ sym (asked_are r.config step))

-- ---- one after another

-- the rest of the steps can be taken, and leaves what all leave
pub record CanTake (r : Running) (rest : List Step) (all : Running) : Type 0 where
  pub legal : Legal r.config rest
  pub room : (after_steps r.config rest).next < 2 ^ 32
  pub leaves : after_all r rest ≡ all

module _ (r : Running) (step : Step) (rest : List Step) (all : Running) (can : CanTake r (step ∷ rest) all) where
  pub can_enabled : fails r.config step ≡ 0
  can_enabled = can.legal.0

  pub can_room : r.config.next + names_made r.config step < 2 ^ 32
  can_room =
      let e = next_after r.config step in
      let h = next_rises rest (effect r.config step) in
      let k = can.room in
      omega (arith, e, h, k)

  pub can_go_on : CanTake (after_step r step) rest all
  can_go_on = record { legal = can.legal.1; room = can.room; leaves = can.leaves }
