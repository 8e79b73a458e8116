-- What is printed of a compiled contract is what is printed of its instance.
use Rattle.std.proofs.Common.{◌≡◌, ℕ, List, Option, Some, None, refl, ap, ◌∙◌}
use Rattle.std.specs.Option.{option_map}
use Rattle.spec_compiler.specs.Instance.{Instance}
use Rattle.spec_text.specs.PlanText.{setting_text}
use Rattle.bm_compile.specs.Numbered.{Numbered, numbered}
use Rattle.bm_plan.specs.Told.{plan_told}

numbered_told : (hash : List ℕ → List ℕ) (s : Option Instance) → plan_told (option_map (numbered hash) s) ≡ setting_text hash s
numbered_told hash None = refl
numbered_told hash (Some instance) = refl

pub plan_told-setting : (hash : List ℕ → List ℕ) (s : Option Instance) (c : Option Numbered) → c ≡ option_map (numbered hash) s
    → plan_told c ≡ setting_text hash s
plan_told-setting hash s c e = ap plan_told e ∙ numbered_told hash s
