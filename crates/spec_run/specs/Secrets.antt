-- The secrets of the contracts of a run: which are shown by posted strings, and their lengths.
use Rattle.std.specs.Prelude.{ℕ, ◌+◌, ◌-◌, List, [], ◌∷◌, ◌++◌, length, Bool, false, not, ◌&&◌, if◌then◌else◌, Option, Some, None}
use Rattle.std.specs.Prelude.{option_map, is_some}
use Rattle.std.specs.List.{filter}
use Rattle.spec_data.specs.Lists.{look_up}
use Rattle.spec_data.specs.Ranges.{least_secret_bytes}
use Rattle.spec_terms.specs.Advert.{Advert}
use Rattle.spec_terms.specs.Precondition.{secrets}
use Rattle.spec_calculus.specs.declared.parts.Revealed.{Revealed}
use Rattle.spec_run.specs.Setup.{Setup, is_honest, held_secret}
use Rattle.spec_run.specs.World.{Promise, World, is_promise_of}
use Rattle.spec_run.specs.Revealing.{fitting}

-- these secrets of a contract, given with their parties
abbrev pub secrets_of_contract : ℕ → List (List ℕ × List ℕ) → List Revealed
secrets_of_contract contract [] = []
secrets_of_contract contract (p ∷ ps) = record { contract = contract; party = p.1; secret = p.0 } ∷ secrets_of_contract contract ps

-- the secrets of the contracts from number k on
abbrev pub secrets_from : ℕ → List Advert → List Revealed
secrets_from k [] = []
secrets_from k (advert ∷ adverts) = secrets_of_contract k (secrets advert.pre) ++ secrets_from (k + 1) adverts

-- all secrets of a run, by contract and precondition
abbrev pub all_secrets : Setup → List Revealed
all_secrets s = secrets_from 0 s.contracts

-- ---- what is shown

-- the digest that is committed for a secret
abbrev pub digest_at : List Promise → Revealed → Option (List ℕ)
digest_at [] x = None
digest_at (p ∷ ps) x = if is_promise_of x.contract x.party p then look_up x.secret p.digests else digest_at ps x

-- whether a string that fits the digest is among these
abbrev pub is_shown : Setup → List (List ℕ) → Option (List ℕ) → Bool
is_shown s strings None = false
is_shown s strings (Some digest) = is_some (fitting s strings digest)

-- whether a secret is committed, and a string that fits it is posted
abbrev pub shown : Setup → World → Revealed → Bool
shown s w x = is_shown s w.posted (digest_at w.promises x)

-- the secrets that are shown in the second world and weren't in the first
abbrev pub newly_shown : Setup → World → World → List Revealed
newly_shown s w next = filter (λ x. shown s next x && not (shown s w x)) (all_secrets s)

-- ---- lengths

-- the length of a secret with these bytes
abbrev pub secret_size : List ℕ → ℕ
secret_size bytes = length bytes - least_secret_bytes

-- the length of a party's secret with this digest, in a run that posts these strings: an honest party's own, and another's by the
-- first string that fits
abbrev pub length_in_run : Setup → List (List ℕ) → List ℕ → List ℕ → List ℕ → Option ℕ
length_in_run s strings party name digest =
    if is_honest s party then option_map secret_size (held_secret s party name) else option_map secret_size (fitting s strings digest)

-- the lengths of the secrets of these digests
abbrev pub lengths_in_run : Setup → List (List ℕ) → List ℕ → List (List ℕ × List ℕ) → List (List ℕ × Option ℕ)
lengths_in_run s strings party [] = []
lengths_in_run s strings party (d ∷ ds) = (d.0, length_in_run s strings party (d.0) (d.1)) ∷ lengths_in_run s strings party ds
