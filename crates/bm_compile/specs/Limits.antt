-- That the scripts of a compiled contract meet no limit of scripts.
use Rattle.std.specs.Prelude.{ℕ, List}
use Rattle.spec_terms.specs.Term.{Contract}
use Rattle.spec_terms.specs.declared.path.PathStep.{PathStep}
use Rattle.spec_compiler.specs.Keyed.Keys.{Keys}
use Rattle.spec_compiler.specs.Keyed.Instance.{Instance}
use Rattle.spec_compiler.specs.Keyed.Statements.{IsCompiled}
use Rattle.theory_script.specs.Keyed.Limits.{MeetsNoLimit}

-- the script of no position meets one, where the committed digests have 32 bytes
abbrev pub MeetNoLimit : (List ℕ → List ℕ) → Keys → Instance → Type 0
MeetNoLimit hash keys s = (position : List PathStep) (choice : Contract) → IsCompiled s position choice
    → MeetsNoLimit hash keys s position choice
