-- What is claimed of the answer whether a contract is endorsed: none is missing, or the first that is.
use Rattle.std.specs.Prelude.{◌≡◌, ℕ, List, ◌∷◌, ◌++◌, true, false, Some}
use Rattle.std.specs.Option.{is_none}
use Rattle.spec_bitcoin.specs.Keys.{Pair}
use Rattle.spec_compiler.specs.Keyed.Keys.{Keys}
use Rattle.spec_compiler.specs.Keyed.Instance.{Instance}
use Rattle.spec_compiler.specs.Keyed.Endorsements.{Need, needed, is_met, all_met, is_endorsed, missing_endorsement}

-- the book misses this one of what is needed, and has all that stands before it
pub record IsFirstMissing (book : List Pair) (required : List Need) (need : Need) : Type 0 where
  pub earlier : List Need
  pub later : List Need
  pub stands : required ≡ earlier ++ need ∷ later
  pub missing : is_met book need ≡ false
  pub met : all_met book earlier ≡ true

-- no endorsement is missing exactly where the contract is endorsed, and the one that is answered is the first that is missing
pub record TellsMissing (hash : List ℕ → List ℕ) (keys : Keys) (s : Instance) (book : List Pair) : Type 0 where
  pub none : is_none (missing_endorsement hash keys s book) ≡ is_endorsed hash keys s book
  pub first : (need : Need) → missing_endorsement hash keys s book ≡ Some need → IsFirstMissing book (needed hash keys s) need

abbrev pub MissingIsFirst : Type 0
MissingIsFirst = (hash : List ℕ → List ℕ) (keys : Keys) (s : Instance) (book : List Pair) → TellsMissing hash keys s book
