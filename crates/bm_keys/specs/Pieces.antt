-- The pieces of a label's text at the front of a text: numbers, steps and paths.
use Rattle.std.specs.Prelude.{◌≡◌, ℕ, ◌<◌, ◌+◌, ◌^◌, List, [], ◌∷◌, ◌++◌, flat_map, false, ◌==◌, if◌then◌else◌, Option, Some, None}
use Rattle.std.specs.List.{AllByRecursion}
use Rattle.std.specs.Fmt.{decimal}
use Rattle.spec_data.specs.Digits.{is_digit}
use Rattle.spec_terms.specs.declared.path.PathStep.{PathStep}
use Rattle.spec_terms.specs.declared.path.PathStep.TheVariants.{Branch as BranchStep, Part}
use Rattle.spec_bitcoin.specs.Keys.{step_text, IsStep}

-- the text doesn't begin with this byte
abbrev pub NoStart : ℕ → List ℕ → Type 0
NoStart byte text = (rest : List ℕ) → text ≡ byte ∷ rest → ⊥

-- ---- numbers

-- how many digits the text begins with
abbrev pub digit_count : List ℕ → ℕ
digit_count [] = 0
digit_count (b ∷ bytes) = if is_digit b then digit_count bytes + 1 else 0

-- the text doesn't begin with a digit
abbrev pub Ends : List ℕ → Type 0
Ends [] = Unit {0}
Ends (b ∷ bytes) = is_digit b ≡ false

-- the text is a number of 4 bytes, and then something else
pub record IsNumberAt (text : List ℕ) (number : ℕ) (rest : List ℕ) : Type 0 where
  pub fits : number < 2 ^ 32
  pub same : text ≡ decimal number ++ rest
  pub ends : Ends rest

abbrev pub NoNumberAt : List ℕ → Type 0
NoNumberAt text = (number : ℕ) (rest : List ℕ) → IsNumberAt text number rest → ⊥

-- ---- steps

-- the step with this mark and number
abbrev pub step_of : ℕ → ℕ → Option PathStep
step_of mark number = if mark == 46 then Some (BranchStep number) else if mark == 47 then Some (Part number) else None

-- the text is a step, and then something else
pub record IsStepAt (text : List ℕ) (step : PathStep) (rest : List ℕ) : Type 0 where
  pub fits : IsStep step
  pub same : text ≡ step_text step ++ rest
  pub ends : Ends rest

abbrev pub NoStepAt : List ℕ → Type 0
NoStepAt text = (step : PathStep) (rest : List ℕ) → IsStepAt text step rest → ⊥

-- ---- paths

-- the steps of a path, and what stands behind them
abbrev pub steps_before : List PathStep → List ℕ → List ℕ
steps_before path rest = flat_map step_text path ++ rest

-- the text is the steps of a path, a colon, and then anything
pub record IsPathAt (text : List ℕ) (path : List PathStep) (rest : List ℕ) : Type 0 where
  pub fits : AllByRecursion IsStep path
  pub same : text ≡ steps_before path (58 ∷ rest)

abbrev pub NoPathAt : List ℕ → Type 0
NoPathAt text = (path : List PathStep) (rest : List ℕ) → IsPathAt text path rest → ⊥
