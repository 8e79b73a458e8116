-- Scripts that are kept with their hashes.
use Rattle.std.specs.Prelude.{ℕ, List, Bool}
use Rattle.std.specs.List.{list_all}
use Rattle.std.specs.Str.{bytes_eq}
use Rattle.deal_compile.specs.declared.programs.Program.{Program}

-- whether each has its own
abbrev pub are_hashed : (List ℕ → List ℕ) → List Program → Bool
are_hashed hash programs = list_all (λ (p : Program). bytes_eq p.hash (hash p.script)) programs
