-- Committing the digests of secrets, after the last of which the contract is compiled.
use Rattle.std.specs.Prelude.{ℕ, List, [], ◌∷◌, ◌++◌, map, length, Bool, not, ◌&&◌, ◌==◌, nat_le, if◌then◌else◌, Option, Some, None}
use Rattle.std.specs.Prelude.{is_some}
use Rattle.spec_data.specs.Ranges.{least_secret_bytes, most_item_bytes}
use Rattle.spec_data.specs.Lists.{is_among, first_reason}
use Rattle.spec_terms.specs.Precondition.{names_of, secrets_of}
use Rattle.spec_compiler.specs.Instance.{Instance}
use Rattle.spec_compiler.specs.Hashed.{compiled_strings}
use Rattle.spec_run.specs.declared.outcome.Reason.{Reason}
use Rattle.spec_run.specs.declared.outcome.Reason.TheVariants as reason
use Rattle.spec_run.specs.Setup.{Setup, has_contract, pre_at, takes_part, is_honest, held_secret, bytes_or_none}
use Rattle.spec_run.specs.World.{Promise, World, is_advertised, has_promised}
use Rattle.spec_run.specs.Compiled.{compiled_instance}
use Rattle.spec_run.specs.Advertising.{are_rearranged, arranged}
use Rattle.spec_run.specs.Pending.{Pending, done, unless}

-- the names of a party's secrets in a contract, in the precondition's order
abbrev pub secrets_at : Setup → ℕ → List ℕ → List (List ℕ)
secrets_at s contract party = secrets_of party (pre_at s contract)

-- whether a byte string has the size of a secret
abbrev pub is_secret_long : List ℕ → Bool
is_secret_long bytes = nat_le least_secret_bytes (length bytes) && nat_le (length bytes) most_item_bytes

-- ---- an honest party's own secrets

-- the digests of a party's own secrets
abbrev pub own_digests : Setup → List ℕ → List (List ℕ) → List (List ℕ × List ℕ)
own_digests s party [] = []
own_digests s party (name ∷ names) = (name, s.hash (bytes_or_none (held_secret s party name))) ∷ own_digests s party names

-- their bytes
abbrev pub own_strings : Setup → List ℕ → List (List ℕ) → List (List ℕ)
own_strings s party [] = []
own_strings s party (name ∷ names) = bytes_or_none (held_secret s party name) ∷ own_strings s party names

-- the first of the names whose secret doesn't stand in the header
abbrev pub not_held : Setup → List ℕ → List (List ℕ) → Option (List ℕ)
not_held s party [] = None
not_held s party (name ∷ names) = if is_some (held_secret s party name) then not_held s party names else Some name

-- the first of the names whose secret hasn't the size of one
abbrev pub badly_long : Setup → List ℕ → List (List ℕ) → Option (List ℕ)
badly_long s party [] = None
badly_long s party (name ∷ names) =
    if is_secret_long (bytes_or_none (held_secret s party name)) then badly_long s party names else Some name

-- ---- digests

-- the digests of all commitments
abbrev pub used_digests : List Promise → List (List ℕ)
used_digests [] = []
used_digests (p ∷ rest) = map (λ d. d.1) p.digests ++ used_digests rest

-- the name of the first of the digests that is one of these or stands earlier
abbrev pub used_again : List (List ℕ) → List (List ℕ × List ℕ) → Option (List ℕ)
used_again seen [] = None
used_again seen (d ∷ ds) = if is_among (d.1) seen then Some (d.0) else used_again (seen ++ d.1 ∷ []) ds

-- ---- the event

-- the first of a party's secrets that isn't held, where it is honest
abbrev pub missing_secret : Setup → ℕ → List ℕ → Option (List ℕ)
missing_secret s contract party = if is_honest s party then not_held s party (secrets_at s contract party) else None

-- the first of a party's secrets that hasn't the size of one, where it is honest
abbrev pub bad_secret : Setup → ℕ → List ℕ → Option (List ℕ)
bad_secret s contract party = if is_honest s party then badly_long s party (secrets_at s contract party) else None

-- an honest party's line has no digests, another's one for each of its secrets
abbrev pub names_fit : Setup → ℕ → List ℕ → List (List ℕ × List ℕ) → Bool
names_fit s contract party digests =
    if is_honest s party then length digests == 0 else are_rearranged (names_of digests) (secrets_at s contract party)

-- the digests that the party commits: an honest one's own, another's those of the line
abbrev pub committed_digests : Setup → ℕ → List ℕ → List (List ℕ × List ℕ) → List (List ℕ × List ℕ)
committed_digests s contract party digests = if is_honest s party then own_digests s party (secrets_at s contract party) else digests

-- the strings that are hashed for them
abbrev pub committed_strings : Setup → ℕ → List ℕ → List (List ℕ)
committed_strings s contract party = if is_honest s party then own_strings s party (secrets_at s contract party) else []

-- `commit K A ..`, before any string is hashed: the contract is there and advertised, the party takes part and hasn't committed, the line
-- has the right names, and an honest party's secrets are held and of the size of one
abbrev pub commit_row : Setup → World → ℕ → List ℕ → List (List ℕ × List ℕ) → List (Bool × Reason)
commit_row s w contract party digests =
    (not (has_contract s contract), reason.NoContract)
    ∷ (not (is_advertised w contract), reason.NotAdvertised)
    ∷ (not (takes_part s contract party), reason.NotParticipant)
    ∷ (has_promised w contract party, reason.AlreadyCommitted)
    ∷ (not (names_fit s contract party digests), reason.WrongNames)
    ∷ (is_some (missing_secret s contract party), reason.NoSecret (bytes_or_none (missing_secret s contract party)))
    ∷ (is_some (bad_secret s contract party), reason.BadSecretLength (bytes_or_none (bad_secret s contract party)))
    ∷ []

-- the name of the first digest that was committed before in this run, or stands earlier among these
abbrev pub repeated_digest : Setup → World → ℕ → List ℕ → List (List ℕ × List ℕ) → Option (List ℕ)
repeated_digest s w contract party digests = used_again (used_digests w.promises) (committed_digests s contract party digests)

-- the refusal after an honest party's secrets are hashed
abbrev pub digest_row : Setup → World → ℕ → List ℕ → List (List ℕ × List ℕ) → List (Bool × Reason)
digest_row s w contract party digests =
    (is_some (repeated_digest s w contract party digests), reason.HashRepeated (bytes_or_none (repeated_digest s w contract party digests)))
    ∷ []

-- the world with the commitment, in the precondition's order
abbrev pub with_promise : Setup → World → ℕ → List ℕ → List (List ℕ × List ℕ) → World
with_promise s w contract party digests = record w {
  promises = w.promises ++ record {
    contract = contract;
    party = party;
    digests = arranged [] (secrets_at s contract party) (committed_digests s contract party digests);
  } ∷ [];
}

-- the strings of a compiled contract, none where it isn't compiled
abbrev pub strings_compiled : Setup → Option Instance → List (List ℕ)
strings_compiled s None = []
strings_compiled s (Some instance) = compiled_strings s.hash instance

abbrev pub committed_pending : Setup → World → ℕ → List ℕ → List (List ℕ) → Pending
committed_pending s next contract party strings = done next (strings ++ strings_compiled s (compiled_instance s next contract))

abbrev pub commit_pending : Setup → World → ℕ → List ℕ → List (List ℕ × List ℕ) → Pending
commit_pending s w contract party digests =
    unless (first_reason (commit_row s w contract party digests)) w []
    (unless (first_reason (digest_row s w contract party digests)) w (committed_strings s contract party)
    (committed_pending s (with_promise s w contract party digests) contract party (committed_strings s contract party)))
