-- The signatures that an honest party waits for before it signs the initial transaction of a BitML contract, by the key that each
-- label has.
use Rattle.std.specs.Prelude.{ℕ, List, [], ◌∷◌, ◌++◌, map, filter, not, Bool, Option}
use Rattle.std.specs.List.{flat_map, list_all, find}
use Rattle.std.specs.Option.{option_map_or}
use Rattle.spec_data.specs.Lists.{look_up}
use Rattle.spec_terms.specs.Term as term
use Rattle.spec_terms.specs.Advert.{Advert}
use Rattle.spec_terms.specs.Core.{core, is_asked, puts_of}
use Rattle.spec_terms.specs.Parties.{participants}
use Rattle.spec_terms.specs.Paths.{at}
use Rattle.spec_terms.specs.Precondition.{volatile}
use Rattle.spec_terms.specs.declared.path.PathStep.{PathStep}
use Rattle.spec_bitcoin.specs.Keys.{Pair, has_signed}
use Rattle.spec_compiler.specs.Keyed.Keys.{Keys, key_in}
use Rattle.spec_compiler.specs.declared.prepared.Prepared.{Prepared}
use Rattle.spec_compiler.specs.Keyed.Instance.{Instance, branch_label, deposit_key}
use Rattle.spec_compiler.specs.Keyed.Transactions.{holding_or_none}
use Rattle.spec_compiler.specs.Keyed.Compilation.{compilation}

-- a signature that is needed: of this digest by this key of the party, for the transaction of this path
pub record Need : Type 0 where
  pub path : List PathStep
  pub party : List ℕ
  pub key : List ℕ
  pub digest : List ℕ

-- what the participants whom the branch doesn't ask sign, each by its key of the branch
abbrev pub branch_needs : (List ℕ → List ℕ) → Keys → ℕ → Advert → List PathStep → term.Guarded → List ℕ → List Need
branch_needs hash keys contract advert path b digest =
    map (λ party. record { path = path; party = party; key = key_in hash keys (branch_label contract path party); digest = digest })
    (filter (λ party. not (is_asked b party)) (participants advert))

-- the owner of the put deposit of this name
abbrev pub put_owner : Advert → List ℕ → List ℕ
put_owner advert name = (holding_or_none (look_up name (volatile advert.pre))).owner

-- what the owners of the put deposits sign, each by its key of its deposits
abbrev pub put_needs : (List ℕ → List ℕ) → Keys → Advert → List PathStep → List (List ℕ) → List (List ℕ) → List Need
put_needs hash keys advert path [] digests = []
put_needs hash keys advert path (name ∷ names) [] = []
put_needs hash keys advert path (name ∷ names) (digest ∷ digests) =
    record { path = path; party = put_owner advert name; key = deposit_key hash keys (put_owner advert name); digest = digest }
    ∷ put_needs hash keys advert path names digests

-- what is needed for a branch, by the digests of its transaction's inputs: the position's output first, then the deposits that are put
abbrev pub needs_of : (List ℕ → List ℕ) → Keys → ℕ → Advert → List PathStep → term.Guarded → List (List ℕ) → List Need
needs_of hash keys contract advert path b [] = []
needs_of hash keys contract advert path b (digest ∷ digests) =
    branch_needs hash keys contract advert path b digest ++ put_needs hash keys advert path (puts_of (core b)) digests

-- what is needed for the path of a branch
abbrev pub path_needs : (List ℕ → List ℕ) → Keys → ℕ → Advert → List PathStep → Prepared → List Need
path_needs hash keys contract advert path made =
    option_map_or (λ b. needs_of hash keys contract advert path b made.digests) (at advert.root path) []

-- all that is needed, by path in the order of the text
abbrev pub needs : (List ℕ → List ℕ) → Keys → ℕ → Advert → List (List PathStep × Prepared) → List Need
needs hash keys contract advert paths = flat_map (λ p. path_needs hash keys contract advert p.0 p.1) paths

-- whether the book has it
abbrev pub is_met : List Pair → Need → Bool
is_met book need = has_signed book need.key need.digest

-- the first that is missing
abbrev pub first_unmet : List Pair → List Need → Option Need
first_unmet book required = find (λ need. not (is_met book need)) required

-- whether none is missing
abbrev pub all_met : List Pair → List Need → Bool
all_met book required = list_all (is_met book) required

-- ---- a contract

-- all that it needs: path by path in the order of the text, for each the participants whom the branch doesn't ask, then the owners
-- of its puts
abbrev pub needed : (List ℕ → List ℕ) → Keys → Instance → List Need
needed hash keys s = needs hash keys s.contract s.advert (compilation hash keys s).paths

-- whether it is endorsed
abbrev pub is_endorsed : (List ℕ → List ℕ) → Keys → Instance → List Pair → Bool
is_endorsed hash keys s book = all_met book (needed hash keys s)

-- the first endorsement that it misses
abbrev pub missing_endorsement : (List ℕ → List ℕ) → Keys → Instance → List Pair → Option Need
missing_endorsement hash keys s book = first_unmet book (needed hash keys s)
