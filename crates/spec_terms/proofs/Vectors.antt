-- Test vectors of the definitions, each by computation alone.
use Rattle.std.proofs.Common.{◌≡◌, ℕ, zero, suc, ◌+◌, List, [], ◌∷◌, refl, true, false}
use Rattle.std.specs.Prelude.{codes, negsuc, Some, None}
use Rattle.spec_terms.specs.Term.{constant, length_of, plus, minus, Pred, always, negation, equal, less, Guarded, auth, after, put_reveal, withdraw, split, Contract, no_branch, branch, no_part, part}
use Rattle.spec_terms.specs.Advert.{Advert}
use Rattle.spec_terms.specs.Core.{core, asks, lock}
use Rattle.spec_terms.specs.Paths.{at, contract_under}
use Rattle.spec_terms.specs.Order.{branch_paths, position_paths}
use Rattle.spec_terms.specs.Parties.{participants}
use Rattle.spec_terms.specs.Value.{value, holds}
use Rattle.spec_terms.specs.Cost.{size, cost}
use Rattle.spec_terms.specs.Readable.{is_name, is_readable}
use Rattle.spec_terms.specs.Faults.{first_fault, first_limit}
use Rattle.spec_terms.specs.declared.path.PathStep.TheVariants.{Branch as To, Part as Into}
use Rattle.spec_terms.specs.declared.pre.Pre.{Pre}
use Rattle.spec_terms.specs.declared.pre.Pre.TheVariants.{Persistent, Volatile, Secret}
use Rattle.spec_terms.specs.declared.limit.Limit.TheVariants as limits
use Rattle.spec_terms.specs.declared.place.Place.TheVariants as places

-- ---- contracts

abbrev A : List ℕ
A = codes "A"

abbrev B : List ℕ
B = codes "B"

abbrev C : List ℕ
C = codes "C"

abbrev a : List ℕ
a = codes "a"

abbrev b : List ℕ
b = codes "b"

abbrev x : List ℕ
x = codes "x"

abbrev y : List ℕ
y = codes "y"

abbrev z : List ℕ
z = codes "z"

abbrev one : Guarded → Contract
one d = branch d no_branch

abbrev two : Guarded → Guarded → Contract
two d e = branch d (branch e no_branch)

abbrev reveal : List (List ℕ) → Contract → Guarded
reveal names next = put_reveal [] names always next

abbrev reveal_if : List (List ℕ) → Pred → Contract → Guarded
reveal_if names test next = put_reveal [] names test next

abbrev put : List (List ℕ) → Contract → Guarded
put names next = put_reveal names [] always next

abbrev advert : List Pre → ℕ → Contract → Advert
advert pre fee root = record { pre = pre; fee = fee; root = root }

-- {A:! 100000000 @ x | B:! 0 @ y | A: secret a} (reveal a . withdraw A + after 1000 : withdraw B)
abbrev timed_commitment : Advert
timed_commitment =
    advert (Persistent A 100000000 x ∷ Persistent B 0 y ∷ Secret A a ∷ []) 0 (two (reveal (a ∷ []) (one (withdraw A))) (after 1000 (withdraw B)))

-- {A:! 3 @ x | B:! 3 @ y | A: secret a | B: secret b} split [2 -> (reveal b if |b| < 2 . withdraw B + after 1000 : withdraw A),
-- 2 -> (reveal a . withdraw A + after 1000 : withdraw B), 2 -> (reveal a, b if |a| = |b| . withdraw A + reveal a, b if not |a| = |b| . withdraw B)]
abbrev lottery : Advert
lottery =
    advert (Persistent A 3 x ∷ Persistent B 3 y ∷ Secret A a ∷ Secret B b ∷ []) 0
    (one (split
    (part 2 (two (reveal_if (b ∷ []) (less (length_of b) (constant 2)) (one (withdraw B))) (after 1000 (withdraw A)))
    (part 2 (two (reveal (a ∷ []) (one (withdraw A))) (after 1000 (withdraw B)))
    (part 2 (two (reveal_if (a ∷ b ∷ []) (equal (length_of a) (length_of b)) (one (withdraw A)))
    (reveal_if (a ∷ b ∷ []) (negation (equal (length_of a) (length_of b))) (one (withdraw B))))
    no_part)))))

-- {A:! V @ x} fee F split [v -> withdraw A, w -> withdraw A]
abbrev split_in_two : ℕ → ℕ → ℕ → ℕ → Advert
split_in_two value fee v w =
    advert (Persistent A value x ∷ []) fee (one (split (part v (one (withdraw A)) (part w (one (withdraw A)) no_part))))

-- {A:! 10 @ x} fee F withdraw A
abbrev withdrawn : ℕ → Advert
withdrawn fee = advert (Persistent A 10 x ∷ []) fee (one (withdraw A))

-- {A:! 1 @ x | A: secret a} reveal a if (N + |a|) = 0 . withdraw A
abbrev shifted : ℕ → Advert
shifted n =
    advert (Persistent A 1 x ∷ Secret A a ∷ []) 0
    (one (reveal_if (a ∷ []) (equal (plus (constant n) (length_of a)) (constant 0)) (one (withdraw A))))

-- eight more branches in front, each `withdraw A`
abbrev eight : Contract → Contract
eight c =
    branch (withdraw A) (branch (withdraw A) (branch (withdraw A) (branch (withdraw A)
    (branch (withdraw A) (branch (withdraw A) (branch (withdraw A) (branch (withdraw A) c)))))))

-- ---- core, asks and lock

abbrev wrapped : Guarded
wrapped = auth A (after 5 (auth B (after 3 (withdraw C))))

wrapped_core : core wrapped ≡ withdraw C
wrapped_core = refl

wrapped_asks : asks wrapped ≡ A ∷ B ∷ []
wrapped_asks = refl

-- the greater height stands outside
wrapped_lock : lock wrapped ≡ 5
wrapped_lock = refl

-- and here inside
wrapped_later : lock (auth A (after 3 (auth B (after 5 (withdraw C))))) ≡ 5
wrapped_later = refl

-- between two smaller ones
wrapped_between : lock (after 3 (after 5 (after 4 (withdraw C)))) ≡ 5
wrapped_between = refl

unlocked : lock (auth A (withdraw C)) ≡ 0
unlocked = refl

-- what stands under the core is another's lock
locked_below : lock (after 3 (put_reveal [] (a ∷ []) always (branch (after 9 (withdraw A)) no_branch))) ≡ 3
locked_below = refl

-- ---- paths and the order of the text

timed_positions : position_paths timed_commitment.root ≡ [] ∷ (To 0 ∷ []) ∷ []
timed_positions = refl

timed_branches : branch_paths timed_commitment.root ≡ (To 0 ∷ []) ∷ (To 0 ∷ To 0 ∷ []) ∷ (To 1 ∷ []) ∷ []
timed_branches = refl

timed_at : at timed_commitment.root (To 0 ∷ To 0 ∷ []) ≡ Some (withdraw A)
timed_at = refl

timed_not_at : at timed_commitment.root (To 2 ∷ []) ≡ None
timed_not_at = refl

timed_choice_at : contract_under timed_commitment.root (To 0 ∷ []) ≡ Some (one (withdraw A))
timed_choice_at = refl

lottery_positions : position_paths lottery.root ≡
    []
    ∷ (To 0 ∷ Into 0 ∷ []) ∷ (To 0 ∷ Into 0 ∷ To 0 ∷ [])
    ∷ (To 0 ∷ Into 1 ∷ []) ∷ (To 0 ∷ Into 1 ∷ To 0 ∷ [])
    ∷ (To 0 ∷ Into 2 ∷ []) ∷ (To 0 ∷ Into 2 ∷ To 0 ∷ []) ∷ (To 0 ∷ Into 2 ∷ To 1 ∷ [])
    ∷ []
lottery_positions = refl

lottery_branches : branch_paths lottery.root ≡
    (To 0 ∷ [])
    ∷ (To 0 ∷ Into 0 ∷ To 0 ∷ []) ∷ (To 0 ∷ Into 0 ∷ To 0 ∷ To 0 ∷ []) ∷ (To 0 ∷ Into 0 ∷ To 1 ∷ [])
    ∷ (To 0 ∷ Into 1 ∷ To 0 ∷ []) ∷ (To 0 ∷ Into 1 ∷ To 0 ∷ To 0 ∷ []) ∷ (To 0 ∷ Into 1 ∷ To 1 ∷ [])
    ∷ (To 0 ∷ Into 2 ∷ To 0 ∷ []) ∷ (To 0 ∷ Into 2 ∷ To 0 ∷ To 0 ∷ [])
    ∷ (To 0 ∷ Into 2 ∷ To 1 ∷ []) ∷ (To 0 ∷ Into 2 ∷ To 1 ∷ To 0 ∷ [])
    ∷ []
lottery_branches = refl

timed_participants : participants timed_commitment ≡ A ∷ B ∷ []
timed_participants = refl

mentioned_participants : participants (advert (Persistent B 1 x ∷ []) 0 (one (auth C (after 1 (auth B (withdraw A)))))) ≡ B ∷ C ∷ A ∷ []
mentioned_participants = refl

-- ---- values

value_below_zero : value ((a, 3) ∷ []) (minus (length_of a) (constant 5)) ≡ negsuc 1
value_below_zero = refl

holds_of_lengths : holds ((a, 3) ∷ (b, 4) ∷ []) (less (length_of a) (length_of b)) ≡ true
holds_of_lengths = refl

-- ---- the check

timed_readable : is_readable timed_commitment ≡ true
unfolding is_name
timed_readable = refl

timed_faultless : first_fault timed_commitment ≡ None
timed_faultless = refl

timed_limited : first_limit timed_commitment ≡ None
timed_limited = refl

lottery_readable : is_readable lottery ≡ true
unfolding is_name
lottery_readable = refl

lottery_faultless : first_fault lottery ≡ None
lottery_faultless = refl

lottery_limited : first_limit lottery ≡ None
lottery_limited = refl

-- ---- what no text spells

-- a keyword is no name
keyword_unreadable : is_readable (advert (Persistent (codes "put") 1 x ∷ []) 0 (one (withdraw A))) ≡ false
unfolding is_name
keyword_unreadable = refl

-- a reveal of nothing has no test
bare_test_unreadable :
    is_readable (advert (Persistent A 1 x ∷ []) 0 (one (reveal_if [] (less (constant 1) (constant 2)) (one (withdraw A))))) ≡ false
unfolding is_name
bare_test_unreadable = refl

-- a choice has a branch
empty_choice_unreadable : is_readable (advert (Persistent A 1 x ∷ []) 0 no_branch) ≡ false
unfolding is_name
empty_choice_unreadable = refl

-- a precondition has an entry
empty_precondition_unreadable : is_readable (advert [] 0 (one (withdraw A))) ≡ false
unfolding is_name
empty_precondition_unreadable = refl

-- an amount is at most all money
amount_unreadable : is_readable (advert (Persistent A 2100000000000001 x ∷ []) 0 (one (withdraw A))) ≡ false
unfolding is_name
amount_unreadable = refl

-- a lock is a height
lock_unreadable : is_readable (advert (Persistent A 1 x ∷ []) 0 (one (after 500000000 (withdraw A)))) ≡ false
unfolding is_name
lock_unreadable = refl

-- a choice has at most 32 branches
wide_choice_unreadable : is_readable (advert (Persistent A 1 x ∷ []) 0 (eight (eight (eight (eight (one (withdraw A))))))) ≡ false
unfolding is_name
wide_choice_unreadable = refl

-- ---- faults and limits

name_repeated_at : first_fault (advert (Persistent A 1 x ∷ Secret A x ∷ []) 0 (one (withdraw A))) ≡ Some (1, places.Pre 1)
name_repeated_at = refl

unknown_deposit_at : first_fault (advert (Persistent A 1 x ∷ Volatile A 1 z ∷ []) 0 (one (put (x ∷ []) (one (withdraw A)))))
    ≡ Some (2, places.Branch (To 0 ∷ []))
unknown_deposit_at = refl

unknown_secret_at : first_fault (advert (Persistent A 1 x ∷ []) 0 (one (reveal (a ∷ []) (one (withdraw A))))) ≡ Some (3, places.Branch (To 0 ∷ []))
unknown_secret_at = refl

prefix_repeated_at : first_fault (advert (Persistent A 1 x ∷ Secret A a ∷ []) 0 (one (auth A (reveal (a ∷ a ∷ []) (one (withdraw A))))))
    ≡ Some (4, places.Branch (To 0 ∷ []))
prefix_repeated_at = refl

predicate_secret_at :
    first_fault (advert (Persistent A 1 x ∷ Secret A a ∷ Secret A b ∷ []) 0
    (one (reveal_if (a ∷ []) (less (length_of b) (constant 2)) (one (withdraw A))))) ≡ Some (5, places.Branch (To 0 ∷ []))
predicate_secret_at = refl

no_persistent_at : first_fault (advert (Persistent A 1 x ∷ []) 0 (one (withdraw B))) ≡ Some (6, places.Party B)
no_persistent_at = refl

split_whole : first_fault (split_in_two 100 0 60 40) ≡ None
split_whole = refl

split_of_too_little : first_fault (split_in_two 100 0 60 39) ≡ Some (7, places.Branch (To 0 ∷ []))
split_of_too_little = refl

split_with_a_zero : first_fault (split_in_two 100 0 100 0) ≡ None
split_with_a_zero = refl

split_with_fees : first_fault (split_in_two 10 1 5 3) ≡ None
split_with_fees = refl

split_that_leaves_no_fee : first_fault (split_in_two 10 1 5 4) ≡ Some (7, places.Branch (To 0 ∷ []))
split_that_leaves_no_fee = refl

fee_above_the_deposits : first_fault (withdrawn 11) ≡ Some (8, places.Position [])
fee_above_the_deposits = refl

fee_above_the_rest : first_fault (withdrawn 6) ≡ Some (8, places.Branch (To 0 ∷ []))
fee_above_the_rest = refl

fee_twice : first_fault (withdrawn 5) ≡ None
fee_twice = refl

no_fee : first_fault (withdrawn 0) ≡ None
no_fee = refl

expression_within : first_limit (shifted 2147483127) ≡ None
expression_within = refl

expression_beyond : first_limit (shifted 2147483128) ≡ Some (limits.Expression, places.Branch (To 0 ∷ []))
expression_beyond = refl

-- so many parties of one deposit each, with names of one byte from this one on
abbrev parties_from : ℕ → ℕ → List Pre
parties_from byte zero = []
parties_from byte (suc n) = Persistent (byte ∷ []) 1 (97 ∷ byte ∷ []) ∷ parties_from (byte + 1) n

participants_within : first_limit (advert (parties_from 65 16) 0 (one (withdraw A))) ≡ None
participants_within = refl

participants_beyond : first_limit (advert (parties_from 65 17) 0 (one (withdraw A))) ≡ Some (limits.Participants, places.Count 17)
participants_beyond = refl

-- {A:! 2100000000000000 @ x | A:! N @ y} fee F withdraw A
abbrev all_money_and : ℕ → ℕ → Advert
all_money_and more fee = advert (Persistent A 2100000000000000 x ∷ Persistent A more y ∷ []) fee (one (withdraw A))

balance_within : first_limit (all_money_and 1 1) ≡ None
balance_within = refl

balance_beyond : first_limit (all_money_and 1 0) ≡ Some (limits.Balance, places.Position [])
balance_beyond = refl

-- {A:! 1 @ x | A:? 2100000000000000 @ z} put z . withdraw A
put_beyond :
    first_limit (advert (Persistent A 1 x ∷ Volatile A 2100000000000000 z ∷ []) 0 (one (put (z ∷ []) (one (withdraw A)))))
    ≡ Some (limits.Balance, places.Position (To 0 ∷ []))
put_beyond = refl

-- 32 branches `withdraw A`: 189 operations among three participants, and 221 among four
script_within :
    first_limit (advert (parties_from 65 3) 0 (eight (eight (eight (eight no_branch))))) ≡ None
script_within = refl

script_beyond :
    first_limit (advert (parties_from 65 4) 0 (eight (eight (eight (eight no_branch))))) ≡ Some (limits.Script, places.Position [])
script_beyond = refl

-- ---- cost

cost_of_32_withdraws : cost 3 (eight (eight (eight (eight no_branch)))) ≡ size 3453 189
cost_of_32_withdraws = refl

cost_of_one_reveal : cost 1 (one (reveal (a ∷ []) (one (withdraw A)))) ≡ size 83 11
cost_of_one_reveal = refl

cost_of_timed_commitment : cost 2 timed_commitment.root ≡ size 191 17
cost_of_timed_commitment = refl
