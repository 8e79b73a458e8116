-- What a move of deposits asks of a configuration, and what it makes of the deposits.
use Rattle.std.specs.Prelude.{ℕ, ◌+◌, Bool, true, ◌&&◌, ◌==◌, not, cond, List, [], ◌∷◌, ◌++◌, Option, Some, None, is_some, sum_by, nat_le}
use Rattle.std.specs.Prelude.{length, find, filter}
use Rattle.std.specs.List.{list_all, list_any}
use Rattle.std.specs.Str.{bytes_eq}
use Rattle.spec_data.specs.Lists.{has_number, are_distinct}
use Rattle.spec_calculus.specs.declared.step.Owner.{Owner}
use Rattle.spec_calculus.specs.declared.step.Owner.TheVariants.{Party, Outside}
use Rattle.spec_calculus.specs.declared.step.Move.{Move}
use Rattle.spec_calculus.specs.declared.parts.Deposit.{Deposit}
use Rattle.spec_calculus.specs.declared.parts.MoveAuthorisation.{MoveAuthorisation}
use Rattle.spec_calculus.specs.Same.{owner_eq, move_eq}

-- ---- deposits by their number

-- the deposit of this number
abbrev pub deposit_at : List Deposit → ℕ → Option Deposit
deposit_at deposits number = find (λ d. d.number == number) deposits

-- whether there is a deposit of this number
abbrev pub is_live : List Deposit → ℕ → Bool
is_live deposits number = is_some (deposit_at deposits number)

-- the value of a deposit, 0 without one
abbrev pub value_or_zero : Option Deposit → ℕ
value_or_zero None = 0
value_or_zero (Some d) = d.value

-- the owner of a deposit, someone outside without one
abbrev pub owner_of : Option Deposit → Owner
owner_of None = Outside
owner_of (Some d) = d.owner

-- the value of the deposit of this number, 0 without one
abbrev pub value_at : List Deposit → ℕ → ℕ
value_at deposits number = value_or_zero (deposit_at deposits number)

-- the owner of the deposit of this number, someone outside without one
abbrev pub owner_at : List Deposit → ℕ → Owner
owner_at deposits number = owner_of (deposit_at deposits number)

-- ---- what a move asks

-- whether there is a deposit of each of these numbers
abbrev pub are_live : List Deposit → List ℕ → Bool
are_live deposits inputs = list_all (λ n. is_live deposits n) inputs

-- whether there is an input, and all are distinct live deposits
abbrev pub spends_live : List Deposit → List ℕ → Bool
spends_live deposits inputs = not (length inputs == 0) && are_distinct inputs && are_live deposits inputs

-- whether the party owns one of the inputs
abbrev pub owns_one : List Deposit → List ℕ → List ℕ → Bool
owns_one deposits inputs party = list_any (λ n. owner_eq (owner_at deposits n) (Party party)) inputs

-- the values of the deposits of these numbers, added up
abbrev pub value_in : List Deposit → List ℕ → ℕ
value_in deposits inputs = sum_by (λ n. value_at deposits n) inputs

-- the values of the outputs, added up
abbrev pub value_out : List (Owner × ℕ) → ℕ
value_out outputs = sum_by (λ o. o.1) outputs

-- whether there is an output, and the inputs pay for all of them
abbrev pub pays : List Deposit → Move → Bool
pays deposits action = not (length action.outputs == 0) && nat_le (value_out action.outputs) (value_in deposits action.inputs)

-- whether this party has authorised this move
abbrev pub has_authorised : List MoveAuthorisation → List ℕ → Move → Bool
has_authorised authorised party action = list_any (λ a. bytes_eq a.party party && move_eq a.action action) authorised

-- whether an owner has authorised the move; someone outside needn't
abbrev pub has_agreed : List MoveAuthorisation → Move → Owner → Bool
has_agreed authorised action (Party party) = has_authorised authorised party action
has_agreed authorised action Outside = true

-- whether each party that owns an input has authorised the move
abbrev pub all_agree : List Deposit → List MoveAuthorisation → Move → Bool
all_agree deposits authorised action = list_all (λ n. has_agreed authorised action (owner_at deposits n)) action.inputs

-- ---- what a move makes

-- the deposits whose numbers aren't among these
abbrev pub kept : List Deposit → List ℕ → List Deposit
kept deposits numbers = filter (λ d. not (has_number d.number numbers)) deposits

-- a deposit for each output, named in order
abbrev pub made : ℕ → List (Owner × ℕ) → List Deposit
made next [] = []
made next (o ∷ os) = record { number = next; owner = o.0; value = o.1 } ∷ made (next + 1) os

-- the authorisations, among which the party's of this move stands once
abbrev pub with_authorisation : List MoveAuthorisation → List ℕ → Move → List MoveAuthorisation
with_authorisation authorised party action =
    cond (has_authorised authorised party action) authorised (authorised ++ record { party = party; action = action } ∷ [])

-- the authorisations but those of this move
abbrev pub without_move : List MoveAuthorisation → Move → List MoveAuthorisation
without_move authorised action = filter (λ a. not (move_eq a.action action)) authorised
