-- What advertising a contract, committing to its secrets and beginning it ask of a configuration.
use Rattle.std.specs.Prelude.{ℕ, ◌==◌, nat_le, Bool, true, false, ◌&&◌, ◌||◌, not, List, [], ◌∷◌, Option, Some, None, is_some}
use Rattle.std.specs.Prelude.{if◌then◌else◌, slice_get}
use Rattle.std.specs.List.{list_any, list_all}
use Rattle.std.specs.Str.{bytes_eq}
use Rattle.spec_data.specs.Lists.{is_among, look_up}
use Rattle.spec_data.specs.Ranges.{most_secret_length}
use Rattle.spec_terms.specs.Advert.{Advert}
use Rattle.spec_terms.specs.Parties.{participants}
use Rattle.spec_terms.specs.Precondition.{Holding, deposits as deposits_of, persistent, secrets_of, names_of}
use Rattle.spec_terms.specs.declared.pre.Pre.{Pre}
use Rattle.spec_calculus.specs.declared.step.Owner.TheVariants.{Party}
use Rattle.spec_calculus.specs.declared.parts.Deposit.{Deposit}
use Rattle.spec_calculus.specs.declared.parts.Advertised.{Advertised}
use Rattle.spec_calculus.specs.declared.parts.Committed.{Committed}
use Rattle.spec_calculus.specs.declared.parts.InitAuthorisation.{InitAuthorisation}
use Rattle.spec_calculus.specs.Same.{owner_eq}
use Rattle.spec_calculus.specs.Moves.{is_live, owner_at, value_at}

-- ---- contracts by their place

-- the contract of this place
abbrev pub contract_at : List Advert → ℕ → Option Advert
contract_at contracts number = slice_get contracts number

-- the precondition of a contract, nothing without one
abbrev pub pre_of : Option Advert → List Pre
pre_of None = []
pre_of (Some advert) = advert.pre

-- who takes part in a contract, nobody without one
abbrev pub participants_of : Option Advert → List (List ℕ)
participants_of None = []
participants_of (Some advert) = participants advert

-- what each transaction of a contract leaves to the miner, 0 without one
abbrev pub fee_of : Option Advert → ℕ
fee_of None = 0
fee_of (Some advert) = advert.fee

-- ---- advertising

-- whether the contract is advertised
abbrev pub is_advertised : List Advertised → ℕ → Bool
is_advertised advertised contract = list_any (λ a. a.contract == contract) advertised

-- whether there is a deposit of this number with this owner and value
abbrev pub fits_deposit : List Deposit → ℕ → List ℕ → ℕ → Bool
fits_deposit deposits number party value =
    is_live deposits number && owner_eq (owner_at deposits number) (Party party) && (value_at deposits number == value)

-- whether a binding is of this deposit of a precondition, to one that fits
abbrev pub binds_one : List Deposit → List ℕ × Holding → List ℕ × ℕ → Bool
binds_one deposits entry binding = bytes_eq (binding.0) (entry.0) && fits_deposit deposits (binding.1) entry.1.owner entry.1.value

-- whether each of these deposits of a precondition, in order, is bound to one that fits
abbrev pub binds_each : List Deposit → List (List ℕ × Holding) → List (List ℕ × ℕ) → Bool
binds_each deposits [] [] = true
binds_each deposits [] (b ∷ bs) = false
binds_each deposits (e ∷ es) [] = false
binds_each deposits (e ∷ es) (b ∷ bs) = binds_one deposits e b && binds_each deposits es bs

-- whether no two names are bound to the same number
abbrev pub are_bound_apart : List (List ℕ × ℕ) → Bool
are_bound_apart [] = true
are_bound_apart (b ∷ bs) = not (list_any (λ c. c.1 == b.1) bs) && are_bound_apart bs

-- whether each deposit of a precondition, in its order, is bound to one that fits, and all are different
abbrev pub binds : List Deposit → List Pre → List (List ℕ × ℕ) → Bool
binds deposits pre bindings = binds_each deposits (deposits_of pre) bindings && are_bound_apart bindings

-- whether one of the parties is honest
abbrev pub is_any_honest : List (List ℕ) → List (List ℕ) → Bool
is_any_honest parties honest = list_any (λ p. is_among p honest) parties

-- ---- committing

-- whether the party has committed to its secrets of the contract
abbrev pub has_committed : List Committed → ℕ → List ℕ → Bool
has_committed committed contract party = list_any (λ c. (c.contract == contract) && bytes_eq c.party party) committed

-- whether all of these have committed to their secrets of the contract
abbrev pub have_committed : List Committed → ℕ → List (List ℕ) → Bool
have_committed committed contract parties = list_all (λ p. has_committed committed contract p) parties

-- whether a secret may have this length; none stands for one that isn't known
abbrev pub is_fair : Option ℕ → Bool
is_fair None = true
is_fair (Some length) = nat_le length most_secret_length

-- whether the lengths are of these secrets, in order, each a fair one
abbrev pub lists_each : List (List ℕ) → List (List ℕ × Option ℕ) → Bool
lists_each [] [] = true
lists_each [] (l ∷ ls) = false
lists_each (x ∷ xs) [] = false
lists_each (x ∷ xs) (l ∷ ls) = bytes_eq (l.0) x && is_fair (l.1) && lists_each xs ls

-- whether the lengths are of the party's secrets in a precondition's order, each a fair one
abbrev pub lists_secrets : List ℕ → List Pre → List (List ℕ × Option ℕ) → Bool
lists_secrets party pre lengths = lists_each (secrets_of party pre) lengths

-- whether each length is known
abbrev pub are_known : List (List ℕ × Option ℕ) → Bool
are_known lengths = list_all (λ l. is_some (l.1)) lengths

-- whether an honest party tells each length
abbrev pub is_told : List (List ℕ) → List ℕ → List (List ℕ × Option ℕ) → Bool
is_told honest party lengths = not (is_among party honest) || are_known lengths

-- ---- what a contract is bound to

-- the bindings that the contract is advertised with, none where it isn't
abbrev pub bindings_of : List Advertised → ℕ → List (List ℕ × ℕ)
bindings_of [] contract = []
bindings_of (a ∷ rest) contract = if a.contract == contract then a.bindings else bindings_of rest contract

-- whether this number is there and names a deposit
abbrev pub is_there : List Deposit → Option ℕ → Bool
is_there deposits None = false
is_there deposits (Some number) = is_live deposits number

-- whether each of these names is bound to a live deposit
abbrev pub are_there : List Deposit → List (List ℕ × ℕ) → List (List ℕ) → Bool
are_there deposits bindings names = list_all (λ x. is_there deposits (look_up x bindings)) names

-- the number, if there is one, and then the others
abbrev pub and_then : Option ℕ → List ℕ → List ℕ
and_then None numbers = numbers
and_then (Some number) numbers = number ∷ numbers

-- the numbers that these names are bound to, in order
abbrev pub numbers_of : List (List ℕ × ℕ) → List (List ℕ) → List ℕ
numbers_of bindings [] = []
numbers_of bindings (x ∷ xs) = and_then (look_up x bindings) (numbers_of bindings xs)

-- ---- beginning

-- the names of a precondition's persistent deposits
abbrev pub persistent_names : List Pre → List (List ℕ)
persistent_names pre = names_of (persistent pre)

-- whether a deposit of a precondition is there and is this party's
abbrev pub is_own : Option Holding → List ℕ → Bool
is_own None party = false
is_own (Some h) party = bytes_eq h.owner party

-- whether a precondition has this persistent deposit of this party
abbrev pub has_persistent : List Pre → List ℕ → List ℕ → Bool
has_persistent pre party deposit = is_own (look_up deposit (persistent pre)) party

-- whether the contract may take this deposit
abbrev pub is_init_authorised : List InitAuthorisation → ℕ → List ℕ → Bool
is_init_authorised authorised contract deposit = list_any (λ a. (a.contract == contract) && bytes_eq a.deposit deposit) authorised

-- whether the contract may take each of these deposits
abbrev pub are_init_authorised : List InitAuthorisation → ℕ → List (List ℕ) → Bool
are_init_authorised authorised contract deposits = list_all (λ x. is_init_authorised authorised contract x) deposits
