-- Blocks that come: their one step, and that they post nothing.
use Rattle.std.proofs.Common.{◌≡◌, ℕ, List, [], ◌∷◌, map, refl, sym, ap, ◌∙◌}
use Rattle.spec_calculus.specs.Configuration.{Configuration}
use Rattle.spec_calculus.specs.declared.step.Step.TheVariants as steps
use Rattle.spec_run.specs.declared.event.Event.TheVariants as events
use Rattle.spec_run.specs.declared.header.HeldSecret.{HeldSecret}
use Rattle.spec_run.specs.declared.outcome.Outcome.TheVariants as outcomes
use Rattle.spec_run.specs.declared.outcome.Record.{Record}
use Rattle.spec_run.specs.Setup.{Setup}
use Rattle.spec_run.specs.Steps.{outcome_steps}
use Rattle.spec_run.specs.World.{World}
use Rattle.bm_translate.specs.declared.running.Running.{Running}
use Rattle.bm_translate.specs.declared.watching.Watched.{Watched}
use Rattle.bm_translate.specs.Shown.{noted, posts_by, posts_of}
use Rattle.bm_translate.proofs.Known.{none_noted}
use Rattle.bm_translate_course.specs.Passing.{after_step}
use Rattle.bm_translate_course.specs.Courses.{passed_by}

module _ (x : Record) (blocks : ℕ) (event : x.event ≡ events.Mine blocks) (outcome : x.outcome ≡ outcomes.Done) where
  -- they are one step
  pub steps_are : (s : Setup) (strings : List (List ℕ)) (g : Configuration) (w next : World)
      → outcome_steps s strings g w next x.event x.tx x.outcome ≡ steps.Delay blocks ∷ []
  steps_are s strings g w next = λ i. outcome_steps s strings g w next (event i) x.tx (outcome i)

  -- they post nothing
  posts_are : (held : List HeldSecret) → posts_of held x ≡ []
  posts_are held = λ i. posts_by held (event i) x.tx (outcome i)

  -- so no secret that is watched gets known by them
  none_new : (held : List HeldSecret) (watched : List Watched) → watched ≡ map (noted (posts_of held x)) watched
  none_new held watched = none_noted [] watched refl ∙ sym (ap (λ posts. map (noted posts) watched) (posts_are held))

  -- what is known after them
  pub passed_are : (held : List HeldSecret) (r : Running) → after_step r (steps.Delay blocks) ≡ passed_by r (steps.Delay blocks ∷ []) (posts_of held x)
  passed_are held r = λ i. record (after_step r (steps.Delay blocks)) { secrets = none_new held r.secrets i }
