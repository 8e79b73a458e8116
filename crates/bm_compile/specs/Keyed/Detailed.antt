-- The transactions of a contract with what each does and spends, by the key that each label has.
use Rattle.std.specs.Prelude.{ℕ, List, map}
use Rattle.spec_terms.specs.declared.path.PathStep.{PathStep}
use Rattle.spec_compiler.specs.Keyed.Keys.{Keys}
use Rattle.spec_compiler.specs.Keyed.Instance.{Instance}
use Rattle.spec_compiler.specs.Keyed.Transactions.{prepared, initial_unsigned}
use Rattle.spec_compiler.specs.Keyed.Compilation.{path_transactions, scripts}
use Rattle.spec_compiler.specs.declared.unsigned.Unsigned.{Unsigned}
use Rattle.bm_compile.specs.declared.detailed.Detailed.{Detailed}
use Rattle.bm_compile.specs.declared.detailed.Details.{Details}

abbrev pub detailed : (List ℕ → List ℕ) → Unsigned → Detailed
detailed hash d = record { pending = d; prepared = prepared hash d }

-- of a path
abbrev pub ready : (List ℕ → List ℕ) → List PathStep × Unsigned → List PathStep × Detailed
ready hash p = (p.0, detailed hash p.1)

-- of a path, what is kept of it
abbrev pub kept_of : {M : Type 0} → (Detailed → M) → (List ℕ → List ℕ) → List PathStep × Unsigned → List PathStep × M
kept_of kept hash p = (p.0, kept (detailed hash p.1))

-- of a contract
abbrev pub details : (List ℕ → List ℕ) → Keys → Instance → Details
details hash keys s = record {
  init = detailed hash (initial_unsigned hash keys s);
  paths = map (ready hash) (path_transactions hash keys s);
  scripts = scripts hash keys s;
}
