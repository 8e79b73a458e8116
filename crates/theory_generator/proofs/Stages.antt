-- What holds of each position and branch of the generated contract.
use Rattle.std.proofs.Common.{◌≡◌, ℕ, suc, ◌+◌, ◌*◌, ◌≤◌, Bool, false, List, [], ◌∷◌, ◌++◌, length, None, refl, sym, subst, arith}
use Rattle.std.specs.Prelude.{ℤ, pos}
use Rattle.std.specs.List.{AllByRecursion}
use Rattle.spec_terms.specs.Term.{Pred, Contract, after, put_reveal, withdraw, equal, constant, length_of}
use Rattle.spec_terms.specs.Paths.{position, at_branch}
use Rattle.spec_terms.specs.Precondition.{persistent, volatile}
use Rattle.spec_terms.specs.Balance.{Funded, as_funded, branches_funded, root_balance, all_funded}
use Rattle.spec_terms.specs.Faults.{first_place}
use Rattle.spec_terms.specs.declared.path.PathStep.{PathStep}
use Rattle.spec_terms.specs.declared.path.PathStep.TheVariants.{Branch as To}
use Rattle.spec_text.specs.Generator.{Generated, party_a, party_b, secret_name, stages, secret_entries, generated_advert}
use Rattle.theory_generator.proofs.Secrets.{AreGenerated}

-- ---- lists of positions and branches

-- the test is true of none of them
abbrev pub Clear : (Funded → Bool) → List Funded → Type 0
Clear test ss = AllByRecursion (λ s. test s ≡ false) ss

clear_append : (test : Funded → Bool) (ss ts : List Funded) → Clear test ss → Clear test ts → Clear test (ss ++ ts)
clear_append test [] ts h k = k
clear_append test (s ∷ ss) ts h k = (h.0, clear_append test ss ts h.1 k)

pub none_placed : (test : Funded → Bool) (ss : List Funded) → Clear test ss → first_place test ss ≡ None
none_placed test [] h = refl
none_placed test (s ∷ ss) h = rw (h.0, none_placed test ss h.1) refl

-- ---- the generated contract

-- all that is there
abbrev pub held_balance : ℤ
held_balance = pos 1000000

abbrev pub here : List PathStep → Contract → Funded
here path c = as_funded path held_balance (position c)

abbrev pub asked : ℕ → ℕ → Pred
asked j n = equal (length_of (secret_name j)) (constant n)

abbrev pub revealing : List PathStep → ℕ → ℕ → Contract → Funded
revealing path j n next = as_funded path held_balance (at_branch (put_reveal [] (secret_name j ∷ []) (asked j n) next))

abbrev pub late : List PathStep → ℕ → Funded
late path j = as_funded path held_balance (at_branch (after (10 * j) (withdraw party_b)))

abbrev pub last : List PathStep → Funded
last path = as_funded path held_balance (at_branch (withdraw party_a))

-- the test is true of no position and no branch of stages up to this number
pub record ClearsStages (most : ℕ) (test : Funded → Bool) : Type 0 where
  pub positions : (path : List PathStep) (j : ℕ) (ms : List Generated) → AreGenerated j ms → test (here path (stages j ms)) ≡ false
  pub reveals : (path : List PathStep) (j n : ℕ) (next : Contract) → 1 ≤ j → j ≤ most → n ≤ 16
      → test (revealing path j n next) ≡ false
  pub lates : (path : List PathStep) (j : ℕ) → test (late path j) ≡ false
  pub lasts : (path : List PathStep) → test (last path) ≡ false

stages_clear : (most : ℕ) (test : Funded → Bool) → ClearsStages most test → (path : List PathStep) (j : ℕ) (ms : List Generated)
    → AreGenerated j ms → 1 ≤ j → j + length ms ≤ suc most → Clear test (branches_funded [] 0 path held_balance 0 (stages j ms))
stages_clear most test c path j [] made some h = (c.lasts (path ++ To 0 ∷ []), tt)
stages_clear most test c path j (m ∷ ms) made some h =
    let p : List PathStep = path ++ To 0 ∷ [] in
    let q : List PathStep = path ++ To 1 ∷ [] in
    let next = stages (j + 1) ms in
    let below = stages_clear most test c p (j + 1) ms made.1 (omega arith) (omega arith) in
    let under : List Funded = here p next ∷ branches_funded [] 0 p held_balance 0 next in
    let first = c.reveals p j m.0 next some (omega arith) made.0.short in
    (first, clear_append test under (late q j ∷ []) (c.positions p (j + 1) ms made.1, below) (c.lates q j, tt))

-- ---- all of it

pub no_persistent_more : (j : ℕ) (ms : List Generated) → persistent (secret_entries j ms) ≡ []
no_persistent_more j [] = refl
no_persistent_more j (m ∷ ms) = no_persistent_more (j + 1) ms

pub no_volatile : (j : ℕ) (ms : List Generated) → volatile (secret_entries j ms) ≡ []
no_volatile j [] = refl
no_volatile j (m ∷ ms) = no_volatile (j + 1) ms

all_clear : (ms : List Generated) (test : Funded → Bool) → AreGenerated 1 ms → ClearsStages (length ms) test
    → Clear test (all_funded (generated_advert ms))
all_clear ms test made c =
    let balance : root_balance (generated_advert ms) ≡ held_balance = rw (no_persistent_more 1 ms) refl in
    let volatile' = no_volatile 1 ms in
    let root = stages 1 ms in
    let all : all_funded (generated_advert ms) ≡ here [] root ∷ branches_funded [] 0 [] held_balance 0 root =
    λ i. as_funded [] (balance i) (position root) ∷ branches_funded (volatile' i) 0 [] (balance i) 0 root in
    subst (Clear test) (sym all) (c.positions [] 1 ms made, stages_clear (length ms) test c [] 1 ms made (omega arith) (omega arith))

pub no_place : (ms : List Generated) (test : Funded → Bool) → AreGenerated 1 ms → ClearsStages (length ms) test
    → first_place test (all_funded (generated_advert ms)) ≡ None
no_place ms test made c = none_placed test (all_funded (generated_advert ms)) (all_clear ms test made c)
