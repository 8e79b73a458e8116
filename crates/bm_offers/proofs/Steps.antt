-- What is offered of one step, and of several lists of steps.
use Rattle.std.proofs.Common.{◌≡◌, ℕ, ◌<◌, List, [], ◌∷◌, ◌++◌, Bool, true, false, refl, ap, ◌∙◌, arith, if◌then◌else◌}
use Rattle.std.specs.Prelude.{filter}
use Rattle.std.specs.List.{flat_map}
use Rattle.std.proofs.lemmas.List.Elements.{filter-append}
use Rattle.std.proofs.lemmas.Grind.{flat_map-append}
use Rattle.std.proofs.lemmas.List.Concat.{flat_map-cons}
use Rattle.std.proofs.lemmas.List.{append-nil}
use Rattle.spec_calculus.specs.declared.step.Step.{Step}
use Rattle.spec_calculus.specs.Configuration.{Configuration}
use Rattle.spec_calculus.specs.Offers.{is_enabled}
use Rattle.spec_calculus.specs.Steps.{fails}
use Rattle.spec_run.specs.Offers.{Offer, offers_of}
use Rattle.bm_offers.specs.Offered.{offered}

pub both_offered : (g : Configuration) (xs ys : List Step) → offered g (xs ++ ys) ≡ offered g xs ++ offered g ys
both_offered g xs ys =
    ap (flat_map offers_of) (filter-append (λ s. is_enabled g s) xs ys)
    ∙ flat_map-append offers_of (filter (λ s. is_enabled g s) xs) (filter (λ s. is_enabled g s) ys)

pub cons_offered : (g : Configuration) (x : Step) (ys : List Step) → offered g (x ∷ ys) ≡ offered g (x ∷ []) ++ offered g ys
cons_offered g x ys = both_offered g (x ∷ []) ys

-- what is offered of a step, by whether it may be taken
by_test : Step → Bool → List Offer
by_test step enabled = flat_map offers_of (if enabled then step ∷ [] else [])

-- a step that may be taken is offered with its event
pub is_one : (g : Configuration) (step : Step) (o : Offer) → offers_of step ≡ o ∷ [] → fails g step ≡ 0 → offered g (step ∷ []) ≡ o ∷ []
unfolding by_test
is_one g step o e h =
    let enabled : is_enabled g step ≡ true = rw h refl in
    let one : by_test step (is_enabled g step) ≡ by_test step true = ap (by_test step) enabled in
    one ∙ flat_map-cons offers_of step [] ∙ append-nil (offers_of step) ∙ e

-- no other is
pub is_none : (g : Configuration) (step : Step) (k : ℕ) → (0 < k) × (fails g step ≡ k) → offered g (step ∷ []) ≡ []
unfolding by_test
is_none g step k h =
    let other : is_enabled g step ≡ false = grind (arith, h.0, h.1) in
    let none : by_test step (is_enabled g step) ≡ by_test step false = ap (by_test step) other in
    none
