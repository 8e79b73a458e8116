-- Posting secrets and other strings.
use Rattle.std.specs.Prelude.{ℕ, List, [], ◌∷◌, Bool, not, ◌&&◌, Option, Some}
use Rattle.std.specs.List.{find}
use Rattle.std.specs.Str.{bytes_eq}
use Rattle.spec_data.specs.Lists.{is_among, has_number, first_reason}
use Rattle.spec_run.specs.declared.outcome.Reason.{Reason}
use Rattle.spec_run.specs.declared.outcome.Reason.TheVariants as reason
use Rattle.spec_run.specs.Setup.{Setup, has_contract, is_honest, held_secret, bytes_or_none}
use Rattle.spec_run.specs.World.{World, has_promised}
use Rattle.spec_run.specs.Committing.{secrets_at, is_secret_long}
use Rattle.spec_run.specs.Pending.{Pending, posting, unless}

-- whether a string has the size of a secret and this digest
abbrev pub fits : Setup → List ℕ → List ℕ → Bool
fits s digest string = is_secret_long string && bytes_eq (s.hash string) digest

-- the first of these strings that fits
abbrev pub fitting : Setup → List (List ℕ) → List ℕ → Option (List ℕ)
fitting s strings digest = find (fits s digest) strings

-- the bytes of the party's secret
abbrev pub own_secret : Setup → List ℕ → List ℕ → List ℕ
own_secret s party name = bytes_or_none (held_secret s party name)

-- `reveal K A a`: the contract is there, the party is honest, has this secret there and has committed, the contract has begun, and the
-- string isn't posted yet
abbrev pub reveal_row : Setup → World → ℕ → List ℕ → List ℕ → List (Bool × Reason)
reveal_row s w contract party secret =
    (not (has_contract s contract), reason.NoContract)
    ∷ (not (is_honest s party), reason.NotHonest)
    ∷ (not (is_among secret (secrets_at s contract party)), reason.NoSecret secret)
    ∷ (not (has_promised w contract party), reason.NotCommitted)
    ∷ (not (has_number contract w.begun), reason.NotBegun)
    ∷ (is_among (own_secret s party secret) w.posted, reason.AlreadyRevealed)
    ∷ []

abbrev pub reveal_pending : Setup → World → ℕ → List ℕ → List ℕ → Pending
reveal_pending s w contract party secret =
    unless (first_reason (reveal_row s w contract party secret)) w [] (posting w (own_secret s party secret) (Some (party, secret)))
