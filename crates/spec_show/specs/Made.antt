-- What each output of a transaction is: the contract at a position, or a payout.
use Rattle.std.specs.Prelude.{ℕ, ◌+◌, List, [], ◌∷◌, Option, Some, None}
use Rattle.std.specs.Option.{option_map_or}
use Rattle.spec_terms.specs.Term as term
use Rattle.spec_terms.specs.Term.{auth, after, put_reveal, withdraw, split, Parts, no_part, part}
use Rattle.spec_terms.specs.Advert.{Advert}
use Rattle.spec_terms.specs.Core.{core, reveals_of}
use Rattle.spec_terms.specs.Paths.{at}
use Rattle.spec_terms.specs.declared.path.PathStep.{PathStep}
use Rattle.spec_compiler.specs.Keyed.Transactions.{part_position}
use Rattle.spec_tool.specs.declared.which.Which.{Which}
use Rattle.spec_tool.specs.declared.which.Which.TheVariants as names

-- what an output is of
pub data Made : Type 0 where
  -- the contract goes on at this position
  goes_on : (position : List PathStep) → Made
  -- this party is paid
  paid : (party : List ℕ) → Made

-- the parts of the split at a path, from number k on
abbrev pub parts_made : List PathStep → ℕ → Parts → List Made
parts_made path k no_part = []
parts_made path k (part value next parts) = goes_on (part_position path k) ∷ parts_made path (k + 1) parts

-- by a core at a path
abbrev pub core_made : List PathStep → term.Guarded → List Made
core_made path (put_reveal puts reveals test next) = goes_on path ∷ []
core_made path (withdraw party) = paid party ∷ []
core_made path (split parts) = parts_made path 0 parts
core_made path (auth party body) = []
core_made path (after height body) = []

-- by a transaction of this name
abbrev pub made_by : Advert → Which → List Made
made_by advert names.Init = goes_on [] ∷ []
made_by advert (names.At path) = option_map_or (λ b. core_made path (core b)) (at advert.root path) []

-- the secrets that it reveals
abbrev pub revealed_by : Advert → Which → List (List ℕ)
revealed_by advert names.Init = []
revealed_by advert (names.At path) = option_map_or (λ b. reveals_of (core b)) (at advert.root path) []
