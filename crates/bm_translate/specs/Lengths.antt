-- The lengths of secrets, by the messages that were hashed and the strings that were posted.
use Rattle.std.specs.Prelude.{ℕ, List, map, if◌then◌else◌, Option, Some, None}
use Rattle.std.specs.Option.{option_and_then}
use Rattle.spec_data.specs.Lists.{is_among}
use Rattle.spec_run.specs.declared.header.Header.{Header}
use Rattle.spec_run.specs.declared.header.HeldSecret.{HeldSecret}
use Rattle.spec_run.specs.Setup.{held_among}
use Rattle.spec_run.specs.Committing.{is_secret_long}
use Rattle.spec_run.specs.Secrets.{secret_size}
use Rattle.bm_hash.specs.Messages.{message_of}

-- the length of a secret with these bytes, if they have the size of one
abbrev pub long_size : List ℕ → Option ℕ
long_size bytes = if is_secret_long bytes then Some (secret_size bytes) else None

-- the same, if they are posted
abbrev pub posted_size : List (List ℕ) → List ℕ → Option ℕ
posted_size posted bytes = if is_among bytes posted then long_size bytes else None

-- the length of the secret of this digest, if it is posted
abbrev pub told_length : (List ℕ → List ℕ) → List (List ℕ) → List (List ℕ) → List ℕ → Option ℕ
told_length hash messages posted digest = option_and_then (posted_size posted) (message_of hash messages digest)

-- the length of a party's secret among these
abbrev pub held_length : List ℕ → List ℕ → List HeldSecret → Option ℕ
held_length party name secrets = option_and_then long_size (held_among party name secrets)

-- an honest party's by its own secret, and another's by what is posted
abbrev pub length_by : (List ℕ → List ℕ) → Header → List (List ℕ) → List (List ℕ) → List ℕ → List ℕ → List ℕ → Option ℕ
length_by hash header messages posted party name digest =
    if is_among party header.honest then held_length party name header.secrets
    else told_length hash messages posted digest

abbrev pub lengths_by : (List ℕ → List ℕ) → Header → List (List ℕ) → List (List ℕ) → List ℕ → List (List ℕ × List ℕ) → List (List ℕ × Option ℕ)
lengths_by hash header messages posted party digests =
    map (λ d. (d.0, length_by hash header messages posted party d.0 d.1)) digests
