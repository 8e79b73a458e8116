-- What is claimed of the run that begins a contract: it is a run, whatever its secrets are.
use Rattle.std.specs.Prelude.{◌≡◌, ℕ, ◌≤◌, List, [], ◌∷◌, length, sum_by, true, None}
use Rattle.spec_data.specs.Lists.{are_different}
use Rattle.spec_data.specs.Ranges.{max_money, most_parties, most_header_deposits, most_header_secrets}
use Rattle.spec_terms.specs.Advert.{Advert}
use Rattle.spec_terms.specs.Faults.{IsWellFormed}
use Rattle.spec_terms.specs.Parties.{participants}
use Rattle.spec_terms.specs.Precondition.{deposits, secrets}
use Rattle.spec_run.specs.Setup.{Setup}
use Rattle.spec_run.specs.Conditions.{HashesBytes}
use Rattle.spec_run.specs.Event.{opening_collision}
use Rattle.spec_run.specs.Statements.{IsRun}
use Rattle.spec_next.specs.FirstLines.{owned, first_header, first_events}

-- the run's setup, with these bytes for the secrets
abbrev pub first_setup : (List ℕ → List ℕ) → Advert → List (List ℕ) → Setup
first_setup hash advert strings = record { hash = hash; header = first_header advert strings; contracts = advert ∷ [] }

-- a run file has room for what the contract needs
pub record HasRoom (advert : Advert) : Type 0 where
  pub money : sum_by (λ d. d.1) (owned (deposits advert.pre)) ≤ max_money
  pub few_parties : length (participants advert) ≤ most_parties
  pub few_secrets : length (secrets advert.pre) ≤ most_header_secrets
  pub few_deposits : length (deposits advert.pre) ≤ most_header_deposits

-- there is a string for each secret, and they differ
pub record AreSecrets (advert : Advert) (strings : List (List ℕ)) : Type 0 where
  pub each : length strings ≡ length (secrets advert.pre)
  pub different : are_different strings ≡ true

-- a run of which the theorems on runs speak, unless its opening collides
abbrev pub FirstRunIsARun : Type 0
FirstRunIsARun =
    (hash : List ℕ → List ℕ) (advert : Advert) (strings : List (List ℕ)) → HashesBytes hash → IsWellFormed advert → HasRoom advert
    → AreSecrets advert strings → opening_collision (first_setup hash advert strings) ≡ None
    → IsRun (first_setup hash advert strings) (first_events advert)
