-- What is found in the output scripts of wallets.
use Rattle.std.specs.Prelude.{ℕ, List, Option, Some, None, if◌then◌else◌}
use Rattle.spec_bitcoin.specs.Verdict.{program_of}
use Rattle.spec_compiler.specs.Keyed.OwnScripts.{pays_to_key_hash}

-- the hash of a key that an output pays to, if it pays to one
abbrev pub key_hash_in : List ℕ → Option (List ℕ)
key_hash_in script = if pays_to_key_hash script then Some (program_of script) else None
