-- The secrets that items of witnesses show, by the digests of the items.
use Rattle.std.specs.Prelude.{ℕ, List, [], ◌∷◌, Bool, ◌&&◌, if◌then◌else◌, Option, Some, None, is_some}
use Rattle.std.specs.List.{find, flat_map}
use Rattle.std.specs.Option.{option_map}
use Rattle.std.specs.Str.{bytes_eq}
use Rattle.spec_data.specs.Lists.{look_up}
use Rattle.spec_compiler.specs.Scripts.{digest_of}
use Rattle.spec_deal.specs.SecretFile.{has_length}

-- whether an item is the string of a secret that has this digest
abbrev pub is_string_in : List ℕ → List ℕ × List ℕ → Bool
is_string_in digest item = has_length (item.0) && bytes_eq (item.1) digest

-- the first that is
abbrev pub string_in : List ℕ → List (List ℕ × List ℕ) → Option (List ℕ)
string_in digest items = option_map (λ item. item.0) (find (is_string_in digest) items)

-- the string of the secret of this name, unless it was shown
abbrev pub newly_string : List (List ℕ × List ℕ) → List (List ℕ × List ℕ) → List (List ℕ × List ℕ) → List ℕ → Option (List ℕ)
newly_string hashes shown items name = if is_some (look_up name shown) then None else string_in (digest_of hashes name) items

abbrev pub secret_if : List ℕ × List ℕ → Option (List ℕ) → List (List ℕ × List ℕ)
secret_if p None = []
secret_if p (Some bytes) = p ∷ []

abbrev pub string_if : List ℕ × List ℕ → Option (List ℕ) → List (List ℕ × List ℕ)
string_if p None = []
string_if p (Some bytes) = (p.0, bytes) ∷ []

-- those of these secrets that are newly shown, and their strings
abbrev pub secrets_by : List (List ℕ × List ℕ) → List (List ℕ × List ℕ) → List (List ℕ × List ℕ) → List (List ℕ × List ℕ)
    → List (List ℕ × List ℕ)
secrets_by hashes shown items secrets = flat_map (λ p. secret_if p (newly_string hashes shown items (p.0))) secrets

abbrev pub strings_by : List (List ℕ × List ℕ) → List (List ℕ × List ℕ) → List (List ℕ × List ℕ) → List (List ℕ × List ℕ)
    → List (List ℕ × List ℕ)
strings_by hashes shown items secrets = flat_map (λ p. string_if p (newly_string hashes shown items (p.0))) secrets
