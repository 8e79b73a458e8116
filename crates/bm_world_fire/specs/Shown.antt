-- Strings that were posted, by the messages that were hashed.
use Rattle.std.specs.Prelude.{ℕ, List, [], ◌∷◌, ◌&&◌, if◌then◌else◌, is_some, Option, Some, None}
use Rattle.spec_data.specs.Lists.{is_among}
use Rattle.spec_run.specs.Setup.{Setup}
use Rattle.spec_run.specs.Revealing.{fitting}
use Rattle.spec_run.specs.Committing.{is_secret_long}
use Rattle.spec_compiler.specs.Scripts.{digest_of}

-- the string, if it was posted and has the size of a secret
abbrev pub if_shown : List (List ℕ) → List ℕ → Option (List ℕ)
if_shown posted string = if is_secret_long string && is_among string posted then Some string else None

-- the posted string that fits a secret with one of these digests
abbrev pub shown_by : Setup → List (List ℕ) → List (List ℕ × List ℕ) → List ℕ → Option (List ℕ)
shown_by s posted hashes name = fitting s posted (digest_of hashes name)

-- the first of the names for which none is posted
abbrev pub first_unshown_by : Setup → List (List ℕ) → List (List ℕ × List ℕ) → List (List ℕ) → Option (List ℕ)
first_unshown_by s posted hashes [] = None
first_unshown_by s posted hashes (name ∷ names) =
    if is_some (shown_by s posted hashes name) then first_unshown_by s posted hashes names else Some name
