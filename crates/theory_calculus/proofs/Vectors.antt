-- Test vectors of what is claimed: money of a contract with a fee, and the order of two contracts' offers.
use Rattle.std.specs.Prelude.{◌≡◌, ℕ, List, [], ◌∷◌, true, false, refl}
use Rattle.spec_terms.specs.Advert.{Advert}
use Rattle.spec_terms.specs.Term.{always, put_reveal, withdraw, split, no_branch, branch, no_part, part}
use Rattle.spec_terms.specs.declared.pre.Pre.TheVariants.{Persistent, Volatile}
use Rattle.spec_calculus.specs.declared.step.Step.TheVariants as steps
use Rattle.spec_calculus.specs.Configuration.{Configuration}
use Rattle.spec_calculus.specs.Steps.{after_steps, opening}
use Rattle.spec_calculus.specs.Offers.{offers}
use Rattle.theory_calculus.specs.Money.{total_money, IsMoneyKept}
use Rattle.spec_calculus.specs.InOrder.{stands_in_order}
use Rattle.spec_calculus.specs.Offered.{is_offered_before}

abbrev A : List ℕ
A = 65 ∷ []

abbrev x : List ℕ
x = 120 ∷ []

abbrev z : List ℕ
z = 122 ∷ []

-- each transaction leaves 2 to the miner
abbrev costly : Advert
costly = record {
  pre = Persistent A 20 x ∷ Volatile A 5 z ∷ [];
  fee = 2;
  root = branch (put_reveal (z ∷ []) [] always (branch (withdraw A) no_branch))
      (branch (split (part 9 (branch (withdraw A) no_branch) (part 7 (branch (withdraw A) no_branch) no_part))) (branch (withdraw A) no_branch));
}

abbrev ready : Configuration
ready = after_steps (opening (A ∷ []) (A ∷ []) ((A, 20) ∷ (A, 5) ∷ []) (costly ∷ [])) (
    steps.Advertise 0 ((x, 0) ∷ (z, 1) ∷ [])
    ∷ steps.Commit 0 A []
    ∷ steps.AuthInit 0 A x
    ∷ []
    )

abbrev active : Configuration
active = after_steps ready (steps.Init 0 ∷ [])

-- a fee that is left out at one of these makes its line false
fee_of_the_beginning : IsMoneyKept ready (steps.Init 0)
fee_of_the_beginning = refl

fee_of_the_put : IsMoneyKept active (steps.PutReveal 2 0)
fee_of_the_put = refl

fee_of_the_split : IsMoneyKept active (steps.Split 2 1)
fee_of_the_split = refl

fee_of_the_withdrawal : IsMoneyKept active (steps.Withdraw 2 2)
fee_of_the_withdrawal = refl

first_money : total_money ready ≡ 25
first_money = refl

money_after_the_split : total_money (after_steps active (steps.Split 2 1 ∷ [])) ≡ 21
money_after_the_split = refl

in_order : stands_in_order is_offered_before (offers active) ≡ true
in_order = refl

three_offered : offers active ≡ steps.PutReveal 2 0 ∷ steps.Split 2 1 ∷ steps.Withdraw 2 2 ∷ []
three_offered = refl

beginning_first : is_offered_before (steps.Init 3) (steps.Split 2 1) ≡ true
beginning_first = refl

same_branch_twice : stands_in_order is_offered_before (steps.Split 2 1 ∷ steps.Split 2 1 ∷ []) ≡ false
same_branch_twice = refl
