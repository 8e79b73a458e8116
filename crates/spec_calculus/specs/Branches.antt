-- What taking a branch of an active contract and revealing a secret ask of a configuration, and what a branch makes.
use Rattle.std.specs.Prelude.{ℕ, ◌+◌, ◌==◌, Bool, true, false, ◌&&◌, not, List, [], ◌∷◌, ◌++◌, Option, Some, None, is_some, find, filter}
use Rattle.std.specs.Prelude.{map, sum_by, if◌then◌else◌}
use Rattle.std.specs.List.{list_any, list_all}
use Rattle.std.specs.Str.{bytes_eq}
use Rattle.spec_data.specs.Lists.{has_number, look_up}
use Rattle.spec_terms.specs.Advert.{Advert}
use Rattle.spec_terms.specs.Term.{Guarded, auth, after, put_reveal, withdraw, split, Parts, no_part, part, Pred, always}
use Rattle.spec_terms.specs.Core.{core, asks, lock, puts_of as core_puts, reveals_of as core_reveals, test_of as core_test}
pub use Rattle.spec_terms.specs.Core.{is_withdraw_core}
use Rattle.spec_terms.specs.Paths.{at}
use Rattle.spec_terms.specs.Precondition.{secrets}
use Rattle.spec_terms.specs.declared.pre.Pre.{Pre}
use Rattle.spec_terms.specs.declared.path.PathStep.{PathStep}
use Rattle.spec_terms.specs.declared.path.PathStep.TheVariants.{Branch as To, Part as Into}
use Rattle.spec_calculus.specs.declared.parts.Deposit.{Deposit}
use Rattle.spec_calculus.specs.declared.parts.ActiveContract.{ActiveContract}
use Rattle.spec_calculus.specs.declared.parts.Committed.{Committed}
use Rattle.spec_calculus.specs.declared.parts.Revealed.{Revealed}
use Rattle.spec_calculus.specs.declared.parts.BranchAuthorisation.{BranchAuthorisation}
use Rattle.spec_calculus.specs.Beginning.{contract_at}

-- ---- secrets

-- the length that a party has committed for a secret, if it has committed it; none within for one that isn't known
abbrev pub length_at : List Committed → ℕ → List ℕ → List ℕ → Option (Option ℕ)
length_at [] contract party secret = None
length_at (c ∷ cs) contract party secret =
    if (c.contract == contract) && bytes_eq c.party party then look_up secret c.lengths else length_at cs contract party secret

-- whether a length is committed and known
abbrev pub is_known : Option (Option ℕ) → Bool
is_known None = false
is_known (Some length) = is_some length

-- a committed length, 0 where none is known
abbrev pub known_length : Option (Option ℕ) → ℕ
known_length None = 0
known_length (Some None) = 0
known_length (Some (Some length)) = length

-- whether the party's secret is revealed
abbrev pub is_revealed : List Revealed → ℕ → List ℕ → List ℕ → Bool
is_revealed revealed contract party secret =
    list_any (λ r. (r.contract == contract) && bytes_eq r.party party && bytes_eq r.secret secret) revealed

-- whether the secret of this party is revealed, where there is one
abbrev pub is_revealed_by : List Revealed → ℕ → Option (List ℕ) → List ℕ → Bool
is_revealed_by revealed contract None secret = false
is_revealed_by revealed contract (Some party) secret = is_revealed revealed contract party secret

-- whether each of a contract's secrets of these names is revealed
abbrev pub are_revealed : List Revealed → ℕ → List Pre → List (List ℕ) → Bool
are_revealed revealed contract pre names = list_all (λ x. is_revealed_by revealed contract (look_up x (secrets pre)) x) names

-- the length of the secret of this party, 0 where none is known
abbrev pub length_by : List Committed → ℕ → Option (List ℕ) → List ℕ → ℕ
length_by committed contract None secret = 0
length_by committed contract (Some party) secret = known_length (length_at committed contract party secret)

-- the length of a contract's secret of this name, 0 where none is known
abbrev pub secret_length : List Committed → ℕ → List Pre → List ℕ → ℕ
secret_length committed contract pre secret = length_by committed contract (look_up secret (secrets pre)) secret

-- the lengths of a contract's secrets of these names, each beside its name
abbrev pub secret_lengths : List Committed → ℕ → List Pre → List (List ℕ) → List (List ℕ × ℕ)
secret_lengths committed contract pre names = map (λ x. (x, secret_length committed contract pre x)) names

-- ---- active contracts and their branches

-- the active contract of this number
abbrev pub active_at : List ActiveContract → ℕ → Option ActiveContract
active_at active number = find (λ a. a.number == number) active

-- the contract's place of an active contract, 0 without one
abbrev pub contract_number : Option ActiveContract → ℕ
contract_number None = 0
contract_number (Some a) = a.contract

-- the position of an active contract, the root without one
abbrev pub position_of : Option ActiveContract → List PathStep
position_of None = []
position_of (Some a) = a.position

-- the balance of an active contract, 0 without one
abbrev pub balance_of : Option ActiveContract → ℕ
balance_of None = 0
balance_of (Some a) = a.balance

-- the contract that an active contract is of
abbrev pub advert_of : List Advert → Option ActiveContract → Option Advert
advert_of contracts None = None
advert_of contracts (Some a) = contract_at contracts a.contract

-- the branch of this number at a position of a contract
abbrev pub branch_in : Option Advert → List PathStep → ℕ → Option Guarded
branch_in None position branch = None
branch_in (Some advert) position branch = at advert.root (position ++ To branch ∷ [])

-- the branch of this number of an active contract
abbrev pub branch_of : List Advert → Option ActiveContract → ℕ → Option Guarded
branch_of contracts active branch = branch_in (advert_of contracts active) (position_of active) branch

-- the parties whom a branch asks, nobody without one
abbrev pub asks_of : Option Guarded → List (List ℕ)
asks_of None = []
asks_of (Some b) = asks b

-- the height from which on a branch may be taken, 0 without one
abbrev pub lock_of : Option Guarded → ℕ
lock_of None = 0
lock_of (Some b) = lock b

-- whether this party has authorised this branch
abbrev pub has_branch_authorised : List BranchAuthorisation → ℕ → ℕ → List ℕ → Bool
has_branch_authorised authorised output branch party =
    list_any (λ a. bytes_eq a.party party && (a.output == output) && (a.branch == branch)) authorised

-- whether all of these parties have authorised this branch
abbrev pub have_branch_authorised : List BranchAuthorisation → ℕ → ℕ → List (List ℕ) → Bool
have_branch_authorised authorised output branch parties = list_all (λ p. has_branch_authorised authorised output branch p) parties

-- ---- what a branch does

-- whether a core puts deposits in or reveals secrets
abbrev pub is_put_core : Guarded → Bool
is_put_core (put_reveal puts reveals test next) = true
is_put_core (auth party body) = false
is_put_core (after height body) = false
is_put_core (withdraw party) = false
is_put_core (split parts) = false

-- whether a core divides the balance
abbrev pub is_split_core : Guarded → Bool
is_split_core (split parts) = true
is_split_core (auth party body) = false
is_split_core (after height body) = false
is_split_core (put_reveal puts reveals test next) = false
is_split_core (withdraw party) = false

-- the party that a core pays, nobody's name where it pays none
abbrev pub payee_in : Guarded → List ℕ
payee_in (withdraw party) = party
payee_in (auth party body) = []
payee_in (after height body) = []
payee_in (put_reveal puts reveals test next) = []
payee_in (split parts) = []

-- the values of these parts
abbrev pub part_values : Parts → List ℕ
part_values no_part = []
part_values (part value contract parts) = value ∷ part_values parts

-- the values of the parts that a core divides the balance into
abbrev pub values_in : Guarded → List ℕ
values_in (split parts) = part_values parts
values_in (auth party body) = []
values_in (after height body) = []
values_in (put_reveal puts reveals test next) = []
values_in (withdraw party) = []

-- whether there is a branch that puts deposits in or reveals secrets
abbrev pub is_put : Option Guarded → Bool
is_put None = false
is_put (Some b) = is_put_core (core b)

-- whether there is a branch that pays a party
abbrev pub is_withdraw : Option Guarded → Bool
is_withdraw None = false
is_withdraw (Some b) = is_withdraw_core (core b)

-- whether there is a branch that divides the balance
abbrev pub is_split : Option Guarded → Bool
is_split None = false
is_split (Some b) = is_split_core (core b)

-- the names of the deposits that a branch puts in
abbrev pub puts_of_taken : Option Guarded → List (List ℕ)
puts_of_taken None = []
puts_of_taken (Some b) = core_puts (core b)

-- the names of the secrets that a branch reveals
abbrev pub reveals_of_taken : Option Guarded → List (List ℕ)
reveals_of_taken None = []
reveals_of_taken (Some b) = core_reveals (core b)

-- the predicate of a branch, one that is true where there is none
abbrev pub test_of_taken : Option Guarded → Pred
test_of_taken None = always
test_of_taken (Some b) = core_test (core b)

-- the party that a branch pays, nobody's name where it pays none
abbrev pub payee_of : Option Guarded → List ℕ
payee_of None = []
payee_of (Some b) = payee_in (core b)

-- the values of the parts that a branch divides the balance into
abbrev pub values_of : Option Guarded → List ℕ
values_of None = []
values_of (Some b) = values_in (core b)

-- ---- what a branch makes

-- the deposits of these numbers
abbrev pub gone : List Deposit → List ℕ → List Deposit
gone deposits numbers = filter (λ d. has_number d.number numbers) deposits

-- the values of all deposits, added up
abbrev pub total_value : List Deposit → ℕ
total_value deposits = sum_by (λ d. d.value) deposits

-- the active contracts but the one of this number
abbrev pub others : List ActiveContract → ℕ → List ActiveContract
others active number = filter (λ a. not (a.number == number)) active

-- an active contract for each part of a split, named in order; k counts the parts
abbrev pub parts_made : ℕ → ℕ → List PathStep → ℕ → List ℕ → List ActiveContract
parts_made next contract path k [] = []
parts_made next contract path k (value ∷ values) =
    record { number = next; contract = contract; position = path ++ Into k ∷ []; balance = value }
    ∷ parts_made (next + 1) contract path (k + 1) values
