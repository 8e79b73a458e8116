-- Who takes part in a contract.
use Rattle.std.specs.Prelude.{ℕ, List, [], ◌∷◌, ◌++◌, map, fold, if◌then◌else◌}
use Rattle.spec_data.specs.Lists.{is_among}
use Rattle.spec_terms.specs.Term.{Guarded, auth, after, put_reveal, withdraw, split, Contract, no_branch, branch, Parts, no_part, part}
use Rattle.spec_terms.specs.Advert.{Advert}
use Rattle.spec_terms.specs.Precondition.{party_of}

abbrev mutual
  -- the parties that a branch mentions, in the order of the text
  pub mentions : Guarded → List (List ℕ)
  mentions (auth party body) = party ∷ mentions body
  mentions (after height body) = mentions body
  mentions (put_reveal puts reveals test next) = choice_mentions next
  mentions (withdraw party) = party ∷ []
  mentions (split parts) = parts_mentions parts

  pub choice_mentions : Contract → List (List ℕ)
  choice_mentions no_branch = []
  choice_mentions (branch b bs) = mentions b ++ choice_mentions bs

  pub parts_mentions : Parts → List (List ℕ)
  parts_mentions no_part = []
  parts_mentions (part v c ps) = choice_mentions c ++ parts_mentions ps

-- the names so far, and this one if it is new
abbrev pub add_new : List (List ℕ) → List ℕ → List (List ℕ)
add_new names name = if is_among name names then names else (names ++ name ∷ [])

-- the names so far, and then each new one once, in the order of first appearance
abbrev pub add_all : List (List ℕ) → List (List ℕ) → List (List ℕ)
add_all names new = fold add_new names new

-- every party that the precondition or the contract names, each once, in the order of first appearance in the text
abbrev pub participants : Advert → List (List ℕ)
participants a = add_all [] (map party_of a.pre ++ choice_mentions a.root)
