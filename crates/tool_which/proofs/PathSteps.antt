-- Whether bytes are steps, by the first of them.
use Rattle.std.proofs.Common.{◌≡◌, ℕ, Bool, false, ◌==◌, List, [], ◌∷◌, length, Option, Some, None, refl, sym, ap, ◌∙◌}
use Rattle.std.specs.Prelude.{is_some, option_map}
use Rattle.spec_terms.specs.declared.path.PathStep.{PathStep}
use Rattle.spec_data.specs.Digits.{onto}
use Rattle.spec_text.specs.Words.{◌>>=◌, steps}
use Rattle.bm_runfile.specs.Steps.{step_at}
use Rattle.bm_runfile.proofs.Chains.{joined}
use Rattle.bm_runfile.proofs.StepChains.{steps_chain}

-- whether what stands behind a step are steps
abbrev go_on : Option (List ℕ) → Bool
go_on None = false
go_on (Some more) = is_some (steps more)

is_some-onto : {A : Type 0} (x : A) (o : Option (List A)) → is_some (onto (Some x) o) ≡ is_some o
is_some-onto x None = refl
is_some-onto x (Some xs) = refl

by_first : (o : Option (PathStep × List ℕ)) → is_some (o >>= joined steps) ≡ go_on (option_map (λ p. p.1) o)
by_first None = refl
by_first (Some p) = is_some-onto (p.0) (steps (p.1))

steps_go_on : (bytes : List ℕ) → (length bytes == 0) ≡ false → is_some (steps bytes) ≡ go_on (option_map (λ (p : PathStep × List ℕ). p.1) (step_at bytes))
steps_go_on [] e = absurd (cc)
steps_go_on (b ∷ bytes) e = ap is_some (steps_chain.next b bytes) ∙ by_first (step_at (b ∷ bytes))

-- there is a step, and something behind it
pub goes : (bytes more : List ℕ) (all : Bool) → (length bytes == 0) ≡ false → Some more ≡ option_map (λ (p : PathStep × List ℕ). p.1) (step_at bytes)
    → is_some (steps bytes) ≡ all → is_some (steps more) ≡ all
goes bytes more all some e h = sym (steps_go_on bytes some ∙ ap go_on (sym e)) ∙ h

-- there is none
pub stops : (bytes : List ℕ) (all : Bool) → (length bytes == 0) ≡ false → None ≡ option_map (λ (p : PathStep × List ℕ). p.1) (step_at bytes)
    → is_some (steps bytes) ≡ all → false ≡ all
stops bytes all some e h = sym (steps_go_on bytes some ∙ ap go_on (sym e)) ∙ h
