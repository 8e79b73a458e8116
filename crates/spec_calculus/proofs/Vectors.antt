-- Test vectors of the steps: a timed commitment, a deposit that a contract waits for, a contract with a fee, a contract that asks.
use Rattle.std.specs.Prelude.{◌≡◌, ℕ, List, [], ◌∷◌, take, Some, None, refl}
use Rattle.spec_terms.specs.Advert.{Advert}
use Rattle.spec_terms.specs.Term.{always, less, length_of, constant, auth, after, put_reveal, withdraw, split, no_branch, branch, no_part, part}
use Rattle.spec_terms.specs.declared.pre.Pre.TheVariants.{Persistent, Volatile, Secret}
use Rattle.spec_terms.specs.declared.path.PathStep.TheVariants.{Branch as To}
use Rattle.spec_calculus.specs.declared.step.Owner.TheVariants.{Party, Outside}
use Rattle.spec_calculus.specs.declared.step.Move.{Move}
use Rattle.spec_calculus.specs.declared.step.Step.{Step}
use Rattle.spec_calculus.specs.declared.step.Step.TheVariants as steps
use Rattle.spec_calculus.specs.declared.parts.Deposit.{Deposit}
use Rattle.spec_calculus.specs.Configuration.{Configuration}
use Rattle.spec_calculus.specs.Steps.{fails, after_steps as after_all, Legal, opening}
use Rattle.spec_calculus.specs.Offers.{offers}

-- ---- names

abbrev A : List ℕ
A = 65 ∷ []

abbrev B : List ℕ
B = 66 ∷ []

abbrev a : List ℕ
a = 97 ∷ []

abbrev x : List ℕ
x = 120 ∷ []

abbrev y : List ℕ
y = 121 ∷ []

abbrev z : List ℕ
z = 122 ∷ []

abbrev deposit : ℕ → List ℕ → ℕ → Deposit
deposit number party value = record { number = number; owner = Party party; value = value }

-- ---- deposits and time alone

abbrev alone : Configuration
alone = opening (A ∷ B ∷ []) (A ∷ []) ((A, 100) ∷ (B, 7) ∷ []) []

abbrev both_to_B : Move
both_to_B = record { inputs = 0 ∷ 1 ∷ []; outputs = (Party B, 60) ∷ (Outside, 40) ∷ [] }

abbrev twice : Move
twice = record { inputs = 0 ∷ 0 ∷ []; outputs = (Party B, 60) ∷ [] }

abbrev too_much : Move
too_much = record { inputs = 0 ∷ 1 ∷ []; outputs = (Party B, 108) ∷ [] }

abbrev nothing : Move
nothing = record { inputs = 0 ∷ []; outputs = [] }

abbrev agreed : Configuration
agreed = after_all alone (steps.AuthMove A both_to_B ∷ steps.AuthMove B both_to_B ∷ steps.AuthMove A both_to_B ∷ [])

no_block : fails alone (steps.Delay 0) ≡ 1
no_block = refl

last_block : fails alone (steps.Delay 499999999) ≡ 0
last_block = refl

past_the_end : fails alone (steps.Delay 500000000) ≡ 2
past_the_end = refl

past_the_end_later : fails (after_all alone (steps.Delay 499999999 ∷ [])) (steps.Delay 1) ≡ 2
past_the_end_later = refl

input_repeated : fails alone (steps.AuthMove A twice) ≡ 1
input_repeated = refl

owns_none : fails alone (steps.AuthMove B nothing) ≡ 2
owns_none = refl

pays_too_much : fails alone (steps.Move too_much) ≡ 2
pays_too_much = refl

makes_nothing : fails alone (steps.Move nothing) ≡ 2
makes_nothing = refl

not_agreed : fails (after_all alone (steps.AuthMove A both_to_B ∷ [])) (steps.Move both_to_B) ≡ 3
not_agreed = refl

agreed_once : agreed.move_authorised ≡ record { party = A; action = both_to_B } ∷ record { party = B; action = both_to_B } ∷ []
agreed_once = refl

move_allowed : fails agreed (steps.Move both_to_B) ≡ 0
move_allowed = refl

moved : after_all agreed (steps.Move both_to_B ∷ []) ≡ record alone {
  next = 4;
  deposits = deposit 2 B 60 ∷ record { number = 3; owner = Outside; value = 40 } ∷ [];
}
moved = refl

no_contract : fails alone (steps.Advertise 0 []) ≡ 1
no_contract = refl

-- ---- a timed commitment: A reveals a secret and gets its deposit back, or B takes it after 1000 blocks

abbrev timed : Advert
timed = record {
  pre = Persistent A 100000000 x ∷ Persistent B 0 y ∷ Secret A a ∷ [];
  fee = 0;
  root = branch (put_reveal [] (a ∷ []) always (branch (withdraw A) no_branch)) (branch (after 1000 (withdraw B)) no_branch);
}

abbrev start : Configuration
start = opening (A ∷ B ∷ []) (A ∷ []) ((A, 100000000) ∷ (B, 0) ∷ []) (timed ∷ [])

abbrev run : List Step
run =
    steps.Advertise 0 ((x, 0) ∷ (y, 1) ∷ [])
    ∷ steps.Commit 0 A ((a, Some 0) ∷ [])
    ∷ steps.Commit 0 B []
    ∷ steps.AuthInit 0 A x
    ∷ steps.AuthInit 0 B y
    ∷ steps.Init 0
    ∷ steps.Reveal 0 A a
    ∷ steps.PutReveal 2 0
    ∷ steps.Withdraw 3 0
    ∷ []

-- the configuration after so many of the steps
abbrev past : ℕ → Configuration
past n = after_all start (take n run)

legal : Legal start run
legal = (refl, (refl, (refl, (refl, (refl, (refl, (refl, (refl, (refl, tt)))))))))

not_yet_advertised : fails start (steps.Commit 0 A ((a, Some 0) ∷ [])) ≡ 1
not_yet_advertised = refl

not_yet_committed : fails start (steps.Init 0) ≡ 1
not_yet_committed = refl

no_such_contract : fails start (steps.Advertise 1 ((x, 0) ∷ [])) ≡ 1
no_such_contract = refl

name_missing : fails start (steps.Advertise 0 ((x, 0) ∷ [])) ≡ 2
name_missing = refl

bound_twice : fails start (steps.Advertise 0 ((x, 0) ∷ (y, 0) ∷ [])) ≡ 2
bound_twice = refl

not_live : fails start (steps.Advertise 0 ((x, 0) ∷ (y, 9) ∷ [])) ≡ 2
not_live = refl

wrong_deposits : fails start (steps.Advertise 0 ((x, 1) ∷ (y, 0) ∷ [])) ≡ 2
wrong_deposits = refl

names_in_another_order : fails start (steps.Advertise 0 ((y, 1) ∷ (x, 0) ∷ [])) ≡ 2
names_in_another_order = refl

nobody_honest : fails (record start { honest = [] }) (steps.Advertise 0 ((x, 0) ∷ (y, 1) ∷ [])) ≡ 3
nobody_honest = refl

advertised_already : fails (past 1) (steps.Advertise 0 ((x, 0) ∷ (y, 1) ∷ [])) ≡ 1
advertised_already = refl

others_secret : fails (past 1) (steps.Commit 0 B ((a, Some 0) ∷ [])) ≡ 3
others_secret = refl

secret_missing : fails (past 1) (steps.Commit 0 A []) ≡ 3
secret_missing = refl

longest_secret : fails (past 1) (steps.Commit 0 A ((a, Some 504) ∷ [])) ≡ 0
longest_secret = refl

too_long_a_secret : fails (past 1) (steps.Commit 0 A ((a, Some 505) ∷ [])) ≡ 3
too_long_a_secret = refl

not_told : fails (past 1) (steps.Commit 0 A ((a, None) ∷ [])) ≡ 4
not_told = refl

not_told_by_another : fails (record (past 1) { honest = B ∷ [] }) (steps.Commit 0 A ((a, None) ∷ [])) ≡ 0
not_told_by_another = refl

committed_already : fails (past 2) (steps.Commit 0 A ((a, Some 0) ∷ [])) ≡ 2
committed_already = refl

not_all_committed : fails (past 2) (steps.AuthInit 0 A x) ≡ 1
not_all_committed = refl

others_deposit : fails (past 3) (steps.AuthInit 0 B x) ≡ 2
others_deposit = refl

not_authorised : fails (past 4) (steps.Init 0) ≡ 3
not_authorised = refl

no_contract_to_begin : fails (past 3) (steps.AuthInit 1 A x) ≡ 1
no_contract_to_begin = refl

abbrev x_away : List Step
x_away =
    steps.AuthMove A (record { inputs = 0 ∷ []; outputs = (Party A, 100000000) ∷ [] })
    ∷ steps.Move (record { inputs = 0 ∷ []; outputs = (Party A, 100000000) ∷ [] })
    ∷ []

own_deposit_gone : fails (after_all (past 3) x_away) (steps.AuthInit 0 A x) ≡ 3
own_deposit_gone = refl

deposit_gone : fails (after_all (past 5) x_away) (steps.Init 0) ≡ 2
deposit_gone = refl

unknown_length : fails (after_all (record (past 1) { honest = B ∷ [] }) (steps.Commit 0 A ((a, None) ∷ []) ∷ [])) (steps.Reveal 0 A a) ≡ 2
unknown_length = refl

others_reveal : fails (past 3) (steps.Reveal 0 B a) ≡ 1
others_reveal = refl

revealed_already : fails (past 7) (steps.Reveal 0 A a) ≡ 3
revealed_already = refl

not_active : fails (past 3) (steps.AuthBranch A 0 0) ≡ 1
not_active = refl

not_asked : fails (past 6) (steps.AuthBranch A 2 0) ≡ 3
not_asked = refl

no_such_branch : fails (past 6) (steps.AuthBranch A 2 2) ≡ 2
no_such_branch = refl

not_revealed : fails (past 6) (steps.PutReveal 2 0) ≡ 6
not_revealed = refl

another_core : fails (past 6) (steps.PutReveal 2 1) ≡ 2
another_core = refl

too_early : fails (after_all (past 6) (steps.Delay 999 ∷ [])) (steps.Withdraw 2 1) ≡ 3
too_early = refl

in_time : fails (after_all (past 6) (steps.Delay 1000 ∷ [])) (steps.Withdraw 2 1) ≡ 0
in_time = refl

begun : (past 6).active ≡ record { number = 2; contract = 0; position = []; balance = 100000000 } ∷ []
begun = refl

begun_from : (past 6).deposits ≡ []
begun_from = refl

paid_at_last : (past 9).deposits ≡ deposit 4 A 100000000 ∷ []
paid_at_last = refl

offered_at_first : offers start ≡ []
offered_at_first = refl

offered_to_begin : offers (past 5) ≡ steps.Init 0 ∷ []
offered_to_begin = refl

offered_late : offers (after_all (past 7) (steps.Delay 1000 ∷ [])) ≡ steps.PutReveal 2 0 ∷ steps.Withdraw 2 1 ∷ []
offered_late = refl

-- ---- a contract that waits for a deposit

abbrev waiting : Advert
waiting = record {
  pre = Persistent A 10 x ∷ Volatile A 5 z ∷ Persistent B 0 y ∷ [];
  fee = 0;
  root = branch (put_reveal (z ∷ []) [] always (branch (withdraw B) no_branch)) no_branch;
}

abbrev waits : Configuration
waits = after_all (opening (A ∷ B ∷ []) (A ∷ []) ((A, 10) ∷ (A, 5) ∷ (B, 0) ∷ []) (waiting ∷ [])) (
    steps.Advertise 0 ((x, 0) ∷ (z, 1) ∷ (y, 2) ∷ [])
    ∷ steps.Commit 0 A []
    ∷ steps.Commit 0 B []
    ∷ steps.AuthInit 0 A x
    ∷ steps.AuthInit 0 B y
    ∷ steps.Init 0
    ∷ []
    )

abbrev away : Move
away = record { inputs = 1 ∷ []; outputs = (Party A, 5) ∷ [] }

volatile_deposit : fails waits (steps.AuthInit 0 A z) ≡ 2
volatile_deposit = refl

put_allowed : fails waits (steps.PutReveal 3 0) ≡ 0
put_allowed = refl

put_in : (after_all waits (steps.PutReveal 3 0 ∷ [])).active ≡ record { number = 4; contract = 0; position = To 0 ∷ []; balance = 15 } ∷ []
put_in = refl

gone_with_the_put : (after_all waits (steps.PutReveal 3 0 ∷ [])).deposits ≡ []
gone_with_the_put = refl

gone_before : fails (after_all waits (steps.AuthMove A away ∷ steps.Move away ∷ [])) (steps.PutReveal 3 0) ≡ 5
gone_before = refl

-- ---- a contract with a fee

abbrev costly : Advert
costly = record {
  pre = Persistent A 10 x ∷ [];
  fee = 1;
  root = branch (split (part 5 (branch (withdraw A) no_branch) (part 3 (branch (withdraw A) no_branch) no_part))) no_branch;
}

abbrev costs : ℕ → Configuration
costs n = after_all (opening (A ∷ []) (A ∷ []) ((A, 10) ∷ []) (costly ∷ [])) (take n (
    steps.Advertise 0 ((x, 0) ∷ [])
    ∷ steps.Commit 0 A []
    ∷ steps.AuthInit 0 A x
    ∷ steps.Init 0
    ∷ steps.Split 1 0
    ∷ steps.Withdraw 2 0
    ∷ steps.Withdraw 3 0
    ∷ []
    ))

fee_of_the_beginning : (costs 4).active ≡ record { number = 1; contract = 0; position = []; balance = 9 } ∷ []
fee_of_the_beginning = refl

split_allowed : fails (costs 4) (steps.Split 1 0) ≡ 0
split_allowed = refl

divided : offers (costs 5) ≡ steps.Withdraw 2 0 ∷ steps.Withdraw 3 0 ∷ []
divided = refl

fee_of_each_withdrawal : (costs 7).deposits ≡ deposit 4 A 4 ∷ deposit 5 A 2 ∷ []
fee_of_each_withdrawal = refl

-- ---- a contract that asks, with a lock, a predicate and a fee

abbrev asking : Advert
asking = record {
  pre = Persistent A 10 x ∷ Volatile A 5 z ∷ Secret A a ∷ [];
  fee = 1;
  root = branch (auth A (after 5 (put_reveal (z ∷ []) (a ∷ []) (less (length_of a) (constant 3)) (branch (withdraw A) no_branch))))
      (branch (auth A (after 5 (split (part 4 (branch (withdraw A) no_branch)
      (part 4 (branch (withdraw A) no_branch) no_part))))) no_branch);
}

-- begun, where the secret has this length
abbrev asks : ℕ → Configuration
asks secret_length = after_all (opening (A ∷ []) (A ∷ []) ((A, 10) ∷ (A, 5) ∷ []) (asking ∷ [])) (
    steps.Advertise 0 ((x, 0) ∷ (z, 1) ∷ [])
    ∷ steps.Commit 0 A ((a, Some secret_length) ∷ [])
    ∷ steps.AuthInit 0 A x
    ∷ steps.Init 0
    ∷ []
    )

-- when both branches may be taken
abbrev asked : ℕ → Configuration
asked secret_length = after_all (asks secret_length) (
    steps.AuthBranch A 2 0
    ∷ steps.AuthBranch A 2 1
    ∷ steps.AuthBranch A 2 1
    ∷ steps.Delay 5
    ∷ steps.Reveal 0 A a
    ∷ []
    )

authorised_once : (asked 2).branch_authorised ≡ record { party = A; output = 2; branch = 0 } ∷ record {
  party = A;
  output = 2;
  branch = 1;
} ∷ []
authorised_once = refl

put_not_active : fails (asked 2) (steps.PutReveal 3 0) ≡ 1
put_not_active = refl

put_too_early : fails (after_all (asks 2) (steps.Delay 4 ∷ [])) (steps.PutReveal 2 0) ≡ 3
put_too_early = refl

put_not_agreed : fails (after_all (asks 2) (steps.Delay 5 ∷ [])) (steps.PutReveal 2 0) ≡ 4
put_not_agreed = refl

predicate_false : fails (asked 3) (steps.PutReveal 2 0) ≡ 7
predicate_false = refl

predicate_true : fails (asked 2) (steps.PutReveal 2 0) ≡ 0
predicate_true = refl

fee_of_the_put : (after_all (asked 2) (steps.PutReveal 2 0 ∷ [])).active
    ≡ record { number = 3; contract = 0; position = To 0 ∷ []; balance = 13 } ∷ []
fee_of_the_put = refl

split_not_active : fails (asked 2) (steps.Split 3 1) ≡ 1
split_not_active = refl

split_of_a_put : fails (asked 2) (steps.Split 2 0) ≡ 2
split_of_a_put = refl

split_too_early : fails (after_all (asks 2) (steps.Delay 4 ∷ [])) (steps.Split 2 1) ≡ 3
split_too_early = refl

split_not_agreed : fails (after_all (asks 2) (steps.Delay 5 ∷ [])) (steps.Split 2 1) ≡ 4
split_not_agreed = refl

withdraw_not_active : fails (asked 2) (steps.Withdraw 3 0) ≡ 1
withdraw_not_active = refl

withdraw_of_a_split : fails (asked 2) (steps.Withdraw 2 1) ≡ 2
withdraw_of_a_split = refl

both_offered : offers (asked 2) ≡ steps.PutReveal 2 0 ∷ steps.Split 2 1 ∷ []
both_offered = refl
