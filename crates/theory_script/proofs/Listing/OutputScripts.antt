-- The list of a contract's scripts has each position with the script of its output, by the key plan.
use Rattle.std.proofs.Common.{◌≡◌, ℕ, List}
use Rattle.std.specs.Option.{option_map}
use Rattle.spec_terms.specs.declared.path.PathStep.{PathStep}
use Rattle.spec_compiler.specs.Keyed.Keys.{by_plan}
use Rattle.spec_compiler.specs.Instance.{Instance}
use Rattle.spec_compiler.specs.Compilation.{scripts}
use Rattle.spec_compiler.specs.ByPath.{position_at}
use Rattle.theory_script.specs.Listed.{at_path}
use Rattle.theory_script.proofs.Keyed.OutputScripts as keyed

pub scripts_are_listed : (hash : List ℕ → List ℕ) (s : Instance) (position : List PathStep)
    → at_path position (scripts hash s) ≡ option_map (λ p. p.0.output.script) (position_at hash s position)
scripts_are_listed hash = keyed.scripts_are_listed hash by_plan
