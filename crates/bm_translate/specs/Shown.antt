-- Secrets that are waited for: the one string that fits what was committed, and whether it is posted.
use Rattle.std.specs.Prelude.{ℕ, List, [], ◌∷◌, map, Bool, false, not, ◌&&◌, ◌||◌, ◌==◌, if◌then◌else◌, Option, Some, None, is_some, option_to_list}
use Rattle.std.specs.Option.{option_and_then}
use Rattle.std.specs.List.{filter, flat_map}
use Rattle.std.specs.Str.{bytes_eq}
use Rattle.spec_data.specs.Lists.{is_among}
use Rattle.spec_terms.specs.Advert.{Advert}
use Rattle.spec_bitcoin.specs.declared.tx.Tx.{Tx}
use Rattle.spec_calculus.specs.declared.parts.Committed.{Committed}
use Rattle.spec_calculus.specs.declared.parts.Revealed.{Revealed}
use Rattle.spec_calculus.specs.declared.step.Step.{Step}
use Rattle.spec_calculus.specs.Branches.{length_at}
use Rattle.spec_run.specs.declared.header.HeldSecret.{HeldSecret}
use Rattle.spec_run.specs.declared.event.Event.{Event}
use Rattle.spec_run.specs.declared.event.Event.TheVariants as events
use Rattle.spec_run.specs.declared.outcome.Outcome.{Outcome}
use Rattle.spec_run.specs.declared.outcome.Outcome.TheVariants as outcomes
use Rattle.spec_run.specs.declared.outcome.Record.{Record}
use Rattle.spec_run.specs.Setup.{held_among, bytes_or_none}
use Rattle.spec_run.specs.World.{Promise}
use Rattle.spec_run.specs.Committing.{is_secret_long}
use Rattle.spec_run.specs.Ledger.{items_of}
use Rattle.spec_run.specs.Secrets.{secrets_from, digest_at}
use Rattle.spec_run.specs.Steps.{reveal_step}
use Rattle.bm_hash.specs.Messages.{message_of}
use Rattle.bm_translate.specs.declared.watching.Watched.{Watched}

-- ---- the string of a secret

-- the string, if it has the size of a secret
abbrev pub if_long : List ℕ → Option (List ℕ)
if_long string = if is_secret_long string then Some string else None

-- the message of this digest, if it has the size of a secret
abbrev pub message_if_long : (List ℕ → List ℕ) → List (List ℕ) → List ℕ → Option (List ℕ)
message_if_long hash messages digest = option_and_then if_long (message_of hash messages digest)

-- the same, where there is a digest
abbrev pub string_of : (List ℕ → List ℕ) → List (List ℕ) → Option (List ℕ) → Option (List ℕ)
string_of hash messages None = None
string_of hash messages (Some digest) = message_if_long hash messages digest

-- whether the string is there, and is one of these
abbrev pub is_one_of : List (List ℕ) → Option (List ℕ) → Bool
is_one_of strings None = false
is_one_of strings (Some string) = is_among string strings

-- a secret of this string, where these are posted
abbrev pub watched_by : List (List ℕ) → Revealed → Option (List ℕ) → Watched
watched_by posted x string = record { secret = x; string = string; posted = is_one_of posted string }

-- a secret with the string that these messages have for its committed digest
abbrev pub watched_of : (List ℕ → List ℕ) → List (List ℕ) → List Promise → List (List ℕ) → Revealed → Watched
watched_of hash messages promises posted x = watched_by posted x (string_of hash messages (digest_at promises x))

-- all secrets of these contracts
abbrev pub watched_all : (List ℕ → List ℕ) → List (List ℕ) → List Promise → List (List ℕ) → List Advert → List Watched
watched_all hash messages promises posted contracts = map (watched_of hash messages promises posted) (secrets_from 0 contracts)

-- the strings of these secrets, where they are known
abbrev pub strings_of : List Watched → List (List ℕ)
strings_of watched = flat_map (λ x. option_to_list x.string) watched

-- of these strings, those of the secrets
abbrev pub told_of : List Watched → List (List ℕ) → List (List ℕ)
told_of watched posts = filter (λ s. is_among s (strings_of watched)) posts

-- the strings behind the first, where there are any
abbrev pub behind : Option (List (List ℕ)) → List (List ℕ)
behind None = []
behind (Some strings) = strings

-- ---- what an event posts

abbrev pub done_posts : List HeldSecret → Event → List (List ℕ)
done_posts held (events.Post bytes) = bytes ∷ []
done_posts held (events.Reveal contract party secret) = bytes_or_none (held_among party secret held) ∷ []
done_posts held _ = []

abbrev pub tx_posts : Option Tx → List (List ℕ)
tx_posts None = []
tx_posts (Some tx) = items_of tx

abbrev pub posts_by : List HeldSecret → Event → Option Tx → Outcome → List (List ℕ)
posts_by held e tx outcomes.Done = done_posts held e
posts_by held e tx (outcomes.Accepted spent made lock) = tx_posts tx
posts_by held e tx (outcomes.Refused reason) = []

-- what an event posted, by its record and the secrets of the header
abbrev pub posts_of : List HeldSecret → Record → List (List ℕ)
posts_of held r = posts_by held r.event r.tx r.outcome

-- the secret, after these strings were posted too
abbrev pub noted : List (List ℕ) → Watched → Watched
noted posts x = record x { posted = x.posted || is_one_of posts x.string }

-- ---- what comes to be shown

-- whether these strings are the first to show the secret, which is committed
abbrev pub comes_up : List Committed → List (List ℕ) → Watched → Bool
comes_up committed posts x =
    not x.posted && is_one_of posts x.string && is_some (length_at committed x.secret.contract x.secret.party x.secret.secret)

-- whether it is a secret of the party in the contract, and posted
abbrev pub is_out : ℕ → List ℕ → Watched → Bool
is_out contract party x = (contract == x.secret.contract) && bytes_eq party x.secret.party && x.posted

abbrev pub reveal_of : Watched → Step
reveal_of x = reveal_step x.secret

-- the secrets that these strings reveal
abbrev pub revealed_by : List Committed → List (List ℕ) → List Watched → List Step
revealed_by committed posts watched = map reveal_of (filter (comes_up committed posts) watched)

-- the secrets of the party in the contract that are posted already
abbrev pub revealed_of : ℕ → List ℕ → List Watched → List Step
revealed_of contract party watched = map reveal_of (filter (is_out contract party) watched)
