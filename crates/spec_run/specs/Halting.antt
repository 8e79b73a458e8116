-- What a halt of a run shows, and what an event that goes on doesn't: two strings with one digest, or a secret that is given away.
use Rattle.std.specs.Prelude.{◌≡◌, ℕ, List, [], ◌∷◌, ◌++◌, true, false, Option, Some, None}
use Rattle.std.specs.List.{AllByRecursion}
use Rattle.spec_data.specs.Lists.{is_among}
use Rattle.spec_run.specs.declared.header.HeldSecret.{HeldSecret}
use Rattle.spec_run.specs.declared.event.Event.{Event}
use Rattle.spec_run.specs.declared.event.Event.TheVariants as events
use Rattle.spec_run.specs.Setup.{Setup}
use Rattle.spec_run.specs.World.{World}
use Rattle.spec_run.specs.Pending.{Halt, Collided, Guessed}
use Rattle.spec_run.specs.Event.{opening_strings, pending}

-- ---- strings with one digest

-- no two different ones of these strings have one digest
pub record AreApart (hash : List ℕ → List ℕ) (strings : List (List ℕ)) : Type 0 where
  pub apart : (one other : List ℕ) → is_among one strings ≡ true → is_among other strings ≡ true → hash one ≡ hash other → one ≡ other

-- two of the strings that were hashed, those of the second list after those of the first, are different and have one digest
pub record Collides (hash : List ℕ → List ℕ) (before hashes : List (List ℕ)) (earlier later : List ℕ) : Type 0 where
  pub different : earlier ≡ later → ⊥
  pub same_digest : hash earlier ≡ hash later
  -- the later one is hashed after these and before those
  pub sooner : List (List ℕ)
  pub afterwards : List (List ℕ)
  pub in_order : hashes ≡ sooner ++ later ∷ afterwards
  -- the earlier one is hashed before it, and they are the first two
  pub earlier_first : is_among earlier (before ++ sooner) ≡ true
  pub none_sooner : AreApart hash (before ++ sooner)

-- ---- secrets that are given away

-- the event is the owner's reveal of the secret
abbrev pub IsOwnReveal : Event → HeldSecret → Type 0
IsOwnReveal (events.Reveal contract party name) secret = (party ≡ secret.party) × (name ≡ secret.name)
IsOwnReveal _ secret = ⊥

-- the event would post the secret's bytes, which weren't posted before, and isn't its owner's reveal of it
pub record GivesAway (s : Setup) (w : World) (e : Event) (secret : HeldSecret) : Type 0 where
  pub posted_now : is_among secret.bytes (pending s w e).posts ≡ true
  pub not_before : is_among secret.bytes w.posted ≡ false
  pub not_own : IsOwnReveal e secret → ⊥

-- none of these secrets is given away
abbrev pub GivesNoneAway : Setup → World → Event → List HeldSecret → Type 0
GivesNoneAway s w e secrets = AllByRecursion (λ secret. GivesAway s w e secret → ⊥) secrets

-- the party's secret of this name is given away, and is the first such of these
pub record Guesses (s : Setup) (w : World) (e : Event) (secrets : List HeldSecret) (party name : List ℕ) : Type 0 where
  pub secret : HeldSecret
  pub is_owner : secret.party ≡ party
  pub is_name : secret.name ≡ name
  pub given : GivesAway s w e secret
  pub sooner : List HeldSecret
  pub afterwards : List HeldSecret
  pub in_order : secrets ≡ sooner ++ secret ∷ afterwards
  pub none_sooner : GivesNoneAway s w e sooner

-- ---- events

-- the strings hashed before and those of the event don't collide
abbrev pub IsCalm : Setup → World → Event → Type 0
IsCalm s w e = AreApart s.hash (w.hashed ++ (pending s w e).hashes)

-- what the event halts with is there; a collision comes before a guess
abbrev pub HaltIsThere : Setup → World → Event → Halt → Type 0
HaltIsThere s w e (Collided earlier later) = Collides s.hash w.hashed (pending s w e).hashes earlier later
HaltIsThere s w e (Guessed party secret) = IsCalm s w e × Guesses s w e s.header.secrets party secret

-- an event that goes on has neither
pub record NothingHalts (s : Setup) (w : World) (e : Event) : Type 0 where
  pub calm : IsCalm s w e
  pub unguessed : GivesNoneAway s w e s.header.secrets

-- the same strings are among both lists
abbrev pub SameStrings : List (List ℕ) → List (List ℕ) → Type 0
SameStrings these those = (string : List ℕ) → is_among string these ≡ is_among string those

-- ---- the opening

-- the opening collides as it is said to, or doesn't
abbrev pub OpeningIs : Setup → Option (List ℕ × List ℕ) → Type 0
OpeningIs s None = AreApart s.hash (opening_strings s)
OpeningIs s (Some pair) = Collides s.hash [] (opening_strings s) (pair.0) (pair.1)
