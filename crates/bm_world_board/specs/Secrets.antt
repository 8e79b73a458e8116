-- The secrets of honest parties, which stand in the header.
use Rattle.std.specs.Prelude.{ℕ, List, map}
use Rattle.spec_run.specs.declared.header.HeldSecret.{HeldSecret}

-- their bytes, in order
abbrev pub secret_strings : List HeldSecret → List (List ℕ)
secret_strings secrets = map (λ (held : HeldSecret). held.bytes) secrets
