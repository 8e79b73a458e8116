-- The faults of an advert and the limits that it exceeds, each with its place.
use Rattle.std.specs.Prelude.{ℕ, ℤ, pos, ◌+◌, ◌≡◌, int_lt, nat_le, Bool, true, false, ◌&&◌, not, if◌then◌else◌, List, [], ◌∷◌, ◌++◌, length}
use Rattle.std.specs.Prelude.{map, Option, Some, None, option_map}
use Rattle.std.specs.Ordering.{int_eq}
use Rattle.std.specs.List.{list_all}
use Rattle.spec_data.specs.Lists.{is_among, are_different, first_answer, or_else}
use Rattle.spec_terms.specs.Term.{Guarded, auth, after, put_reveal, withdraw, split, Contract, Parts, no_part, part}
use Rattle.spec_terms.specs.Advert.{Advert}
use Rattle.spec_terms.specs.Core.{core, puts_of, reveals_of, test_of}
pub use Rattle.spec_terms.specs.Core.{is_withdraw_core as is_withdraw}
use Rattle.spec_terms.specs.Paths.{Subterm, position, at_branch}
use Rattle.spec_terms.specs.Precondition.{persistent, volatile, secrets, names_of, name_in, owners_of}
use Rattle.spec_terms.specs.Parties.{participants}
use Rattle.spec_terms.specs.Bound.{is_bounded, lengths_of_test}
use Rattle.spec_terms.specs.Cost.{cost}
use Rattle.spec_terms.specs.Balance.{Funded, all_funded}
use Rattle.spec_data.specs.Ranges.{max_money, most_script_bytes, most_operations}
use Rattle.spec_terms.specs.Readable.{is_readable}
use Rattle.spec_terms.specs.declared.limit.Limit.{Limit}
use Rattle.spec_terms.specs.declared.limit.Limit.TheVariants as limits
use Rattle.spec_terms.specs.declared.place.Place.{Place}
use Rattle.spec_terms.specs.declared.place.Place.TheVariants as places
use Rattle.spec_terms.specs.declared.pre.Pre.{Pre}
use Rattle.spec_terms.specs.declared.script_size.ScriptSize.{ScriptSize}

-- ---- places

-- the place of a position or branch
abbrev pub place_of : Subterm → Funded → Place
place_of (position c) s = places.Position s.path
place_of (at_branch b) s = places.Branch s.path

-- the place of what passes the test
abbrev pub place_if : (Funded → Bool) → Funded → Option Place
place_if test s = if test s then Some (place_of s.subterm s) else None

-- the place of the first that does
abbrev pub first_place : (Funded → Bool) → List Funded → Option Place
first_place test ss = first_answer (place_if test) ss

-- the test of the core, where a branch stands
abbrev pub at_core : (Guarded → Bool) → Subterm → Bool
at_core test (position c) = false
at_core test (at_branch b) = test (core b)

-- the test of the choice, where a position stands
abbrev pub at_position : (Contract → Bool) → Subterm → Bool
at_position test (position c) = test c
at_position test (at_branch b) = false

-- ---- the faults

-- the number of the first name that stands among those before it, where the first has the number n
abbrev pub first_repeated : ℕ → List (List ℕ) → List (List ℕ) → Option ℕ
first_repeated n before [] = None
first_repeated n before (name ∷ names) =
    if is_among name before then Some n else first_repeated (n + 1) (before ++ name ∷ []) names

-- NameRepeated: two deposits or secrets of the precondition have one name; at the later entry
abbrev pub name_repeated : Advert → Option Place
name_repeated a = option_map places.Pre (first_repeated 0 [] (map name_in a.pre))

-- whether each of the first names is among the second
abbrev pub are_among : List (List ℕ) → List (List ℕ) → Bool
are_among names known = list_all (λ name. is_among name known) names

-- whether the core puts what is no volatile deposit of the precondition
abbrev pub puts_unknown : List Pre → Guarded → Bool
puts_unknown pre b = not (are_among (puts_of b) (names_of (volatile pre)))

-- UnknownDeposit: a put names what is no volatile deposit; at the branch
abbrev pub unknown_deposit : Advert → Option Place
unknown_deposit a = first_place (λ s. at_core (puts_unknown a.pre) s.subterm) (all_funded a)

-- whether the core reveals what is no secret of the precondition
abbrev pub reveals_unknown : List Pre → Guarded → Bool
reveals_unknown pre b = not (are_among (reveals_of b) (names_of (secrets pre)))

-- UnknownSecret: a reveal names what is no secret; at the branch
abbrev pub unknown_secret : Advert → Option Place
unknown_secret a = first_place (λ s. at_core (reveals_unknown a.pre) s.subterm) (all_funded a)

-- whether the core puts or reveals something twice
abbrev pub repeats : Guarded → Bool
repeats b = not (are_different (puts_of b) && are_different (reveals_of b))

-- PrefixRepeated: one put or one reveal names something twice; at the branch
abbrev pub prefix_repeated : Advert → Option Place
prefix_repeated a = first_place (λ s. at_core repeats s.subterm) (all_funded a)

-- whether the core tests the length of a name that it doesn't reveal
abbrev pub tests_hidden : Guarded → Bool
tests_hidden b = not (are_among (lengths_of_test (test_of b)) (reveals_of b))

-- PredicateSecret: a predicate has the length of a name that its branch doesn't reveal; at the branch
abbrev pub predicate_secret : Advert → Option Place
predicate_secret a = first_place (λ s. at_core tests_hidden s.subterm) (all_funded a)

-- the place of the first party that has no persistent deposit
abbrev pub first_without : List (List ℕ) → List (List ℕ) → Option Place
first_without owners parties = first_answer (λ party. if is_among party owners then None else Some (places.Party party)) parties

-- NoPersistent: a participant has no persistent deposit; at the party
abbrev pub no_persistent : Advert → Option Place
no_persistent a = first_without (owners_of (persistent a.pre)) (participants a)

-- the sum of the parts' values
abbrev pub sum_of_parts : Parts → ℕ
sum_of_parts no_part = 0
sum_of_parts (part v c ps) = v + sum_of_parts ps

-- whether the core is a split whose parts and the fee don't sum to the balance
abbrev pub is_uneven : ℕ → ℤ → Guarded → Bool
is_uneven fee balance (split parts) = not (int_eq (pos (sum_of_parts parts + fee)) balance)
is_uneven fee balance (auth party body) = false
is_uneven fee balance (after height body) = false
is_uneven fee balance (put_reveal puts reveals test next) = false
is_uneven fee balance (withdraw party) = false

-- SplitSum: a split's parts and the fee don't sum to the static balance of its position; at the branch
abbrev pub split_sum : Advert → Option Place
split_sum a = first_place (λ s. at_core (is_uneven a.fee s.balance) s.subterm) (all_funded a)

-- whether a position's balance is negative, or a withdraw's is below the fee
abbrev pub is_short : ℕ → ℤ → Subterm → Bool
is_short fee balance (position c) = int_lt balance (pos 0)
is_short fee balance (at_branch b) = is_withdraw (core b) && int_lt balance (pos fee)

-- FeeShort: a static balance is negative, or a position with a withdraw branch has one below the fee; at the position or the
-- withdraw branch
abbrev pub fee_short : Advert → Option Place
fee_short a = first_place (λ s. is_short a.fee s.balance s.subterm) (all_funded a)

-- ---- the limits

-- the most participants that a contract may have
abbrev pub most_participants : ℕ
most_participants = 16

-- Participants: there are more; at their number
abbrev pub too_many_participants : Advert → Option Place
too_many_participants a =
    if nat_le (length (participants a)) most_participants then None else Some (places.Count (length (participants a)))

-- whether a balance exceeds all money
abbrev pub is_too_much : ℤ → Bool
is_too_much balance = int_lt (pos max_money) balance

-- Balance: a static balance exceeds all money; at the position
abbrev pub balance_exceeded : Advert → Option Place
balance_exceeded a = first_place (λ s. at_position (λ c. is_too_much s.balance) s.subterm) (all_funded a)

-- whether an expression of the core's test has too great a bound
abbrev pub is_unbounded : Guarded → Bool
is_unbounded b = not (is_bounded (test_of b))

-- Expression: an expression's bound exceeds what an operand can hold; at the branch
abbrev pub expression_exceeded : Advert → Option Place
expression_exceeded a = first_place (λ s. at_core is_unbounded s.subterm) (all_funded a)

-- the bytes and operations that Bitcoin's consensus allows a script
abbrev pub fits_a_script : ScriptSize → Bool
fits_a_script x = nat_le x.bytes most_script_bytes && nat_le x.operations most_operations

-- whether the script of the position, among so many participants, is too large
abbrev pub is_too_large : ℕ → Contract → Bool
is_too_large parties c = not (fits_a_script (cost parties c))

-- Script: the script of a position is too large; at the position
abbrev pub script_exceeded : Advert → Option Place
script_exceeded a = first_place (λ s. at_position (is_too_large (length (participants a))) s.subterm) (all_funded a)

-- ---- the first

-- the first of several that has a place
abbrev pub first_found : {K : Type 0} → List (K × Option Place) → Option (K × Place)
first_found [] = None
first_found (f ∷ fs) = or_else (option_map (λ place. (f.0, place)) f.1) (first_found fs)

-- the faults by number
abbrev pub faults : Advert → List (ℕ × Option Place)
faults a =
    (1, name_repeated a)
    ∷ (2, unknown_deposit a)
    ∷ (3, unknown_secret a)
    ∷ (4, prefix_repeated a)
    ∷ (5, predicate_secret a)
    ∷ (6, no_persistent a)
    ∷ (7, split_sum a)
    ∷ (8, fee_short a)
    ∷ []

-- the limits in order
abbrev pub exceeded : Advert → List (Limit × Option Place)
exceeded a =
    (limits.Participants, too_many_participants a)
    ∷ (limits.Balance, balance_exceeded a)
    ∷ (limits.Expression, expression_exceeded a)
    ∷ (limits.Script, script_exceeded a)
    ∷ []

-- the first fault of an advert, by number, with its place
abbrev pub first_fault : Advert → Option (ℕ × Place)
first_fault a = first_found (faults a)

-- the first limit that it exceeds, with its place; judged where there is no fault
abbrev pub first_limit : Advert → Option (Limit × Place)
first_limit a = first_found (exceeded a)

-- an advert that may have come from the reader, without a fault, within the limits
pub record IsWellFormed (a : Advert) : Type 0 where
  pub readable : is_readable a ≡ true
  pub faultless : first_fault a ≡ None
  pub limited : first_limit a ≡ None
