-- The contracts of a run: its first, and that those of its configurations stay.
use Rattle.std.proofs.Common.{◌≡◌, ℕ, ◌<◌, ◌^◌, List, [], ◌∷◌, length, map, Some, get_or, refl, sym, ap, ◌∙◌, arith}
use Rattle.std.specs.Prelude.{slice_get}
use Rattle.std.proofs.lemmas.Option.{slice_get_read}
use Rattle.spec_terms.specs.Advert.{Advert}
use Rattle.spec_calculus.specs.declared.step.Step.{Step}
use Rattle.spec_calculus.specs.declared.step.Step.TheVariants as steps
use Rattle.spec_calculus.specs.Configuration.{Configuration}
use Rattle.spec_calculus.specs.Steps.{effect, after_steps}
use Rattle.spec_run.specs.declared.event.Event.{Event}
use Rattle.spec_run.specs.Setup.{Setup}
use Rattle.spec_run.specs.World.{World}
use Rattle.spec_run.specs.Event.{Passed, opening_world, played}
use Rattle.spec_run.specs.Steps.{steps_of}
use Rattle.spec_run.specs.Conditions.{IsSetup}
use Rattle.spec_run.specs.Translation.{Turn, turns_from, last_or, world_after, opening_configuration, last_configuration}

-- of one contract alone
pub the_first : (xs : List Advert) (x : Advert) → length xs ≡ 1 → x ≡ get_or xs 0 x → slice_get xs 0 ≡ Some x
the_first xs x one here = slice_get_read xs 1 0 x (sym one) (omega arith) here

after_one : (g : Configuration) (step : Step) → (effect g step).contracts ≡ g.contracts
after_one g (steps.Delay blocks) = refl
after_one g (steps.AuthMove party action) = refl
after_one g (steps.Move action) = refl
after_one g (steps.Advertise contract bindings) = refl
after_one g (steps.Commit contract party lengths) = refl
after_one g (steps.AuthInit contract party deposit) = refl
after_one g (steps.Init contract) = refl
after_one g (steps.Reveal contract party secret) = refl
after_one g (steps.AuthBranch party output branch) = refl
after_one g (steps.PutReveal output branch) = refl
after_one g (steps.Withdraw output branch) = refl
after_one g (steps.Split output branch) = refl

after_all : (g : Configuration) (ss : List Step) → (after_steps g ss).contracts ≡ g.contracts
after_all g [] = refl
after_all g (step ∷ ss) = after_all (effect g step) ss ∙ after_one g step

last_of : (s : Setup) (strings : List (List ℕ)) (g : Configuration) (w : World) (ps : List Passed)
    → (last_or g (map (λ (t : Turn). t.configuration) (turns_from s strings g w ps))).contracts ≡ g.contracts
last_of s strings g w [] = refl
last_of s strings g w (p ∷ ps) =
    let ss = steps_of s strings g w p.world p.event p.pending in
    last_of s strings (after_steps g ss) p.world ps ∙ after_all g ss

pub contracts_stay : (s : Setup) (es : List Event) → (last_configuration s es).contracts ≡ s.contracts
contracts_stay s es = last_of s (world_after (opening_world s) (played s es).passed).posted (opening_configuration s) (opening_world s) (played s es).passed

-- so they can be numbered
pub contracts_are_few : (s : Setup) (es : List Event) → IsSetup s → length (last_configuration s es).contracts < 2 ^ 32
contracts_are_few s es setup =
    let e : length (last_configuration s es).contracts ≡ length s.contracts = ap length (contracts_stay s es) in
    let few = setup.few_contracts in
    omega (arith, e, few)
