-- The events of the stages of a generated run, for any number of gifts in each.
use Rattle.std.specs.Prelude.{ℕ, zero, suc, ◌+◌, List, [], ◌∷◌, ◌++◌}
use Rattle.spec_run.specs.declared.event.Event.{Event}
use Rattle.spec_run.specs.declared.event.Event.TheVariants as events
use Rattle.spec_text.specs.Generator.{Going, party_a, secret_name, before, gifts, taken}

-- what stage j plays, with n gifts
abbrev pub stage_with : ℕ → ℕ → Going → List Event × Going
stage_with n j g = before (events.Reveal 0 party_a (secret_name j) ∷ events.Fire g.contract 0 ∷ []) (gifts n (taken g))

-- so many stages from number j on, each with n gifts, and the withdrawal
abbrev pub stages_with : ℕ → ℕ → ℕ → Going → List Event
stages_with n zero j g = events.Fire g.contract 0 ∷ []
stages_with n (suc k) j g = (stage_with n j g).0 ++ stages_with n k (j + 1) ((stage_with n j g).1)
