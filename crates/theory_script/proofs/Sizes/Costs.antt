-- The cost of a position is that of what its branches ask for.
use Rattle.std.proofs.Common.{◌≡◌, ℕ, ◌+◌, List, [], ◌∷◌, length, map, refl, arith}
use Rattle.std.proofs.lemmas.List.{length-map}
use Rattle.spec_terms.specs.Term as term
use Rattle.spec_terms.specs.Term.{Expr, constant, length_of, plus, minus, Pred, always, both, negation, equal, less, Contract, no_branch, branch, branches}
use Rattle.spec_terms.specs.Core.{core, reveals_of, test_of}
use Rattle.spec_terms.specs.Cost.{formula_size, test_size, reveals_size, branch_size, later_size, cost}
use Rattle.spec_compiler.specs.Scripts.{digest_of, demands_of, demands_from}
use Rattle.theory_script.proofs.Sizes.Cost.{formula_bytes, test_bytes, formula_operations, test_operations, secrets_bytes, secrets_operations, branch_bytes, branch_operations, cost_bytes, cost_operations}

formula_bytes_are : (names : List (List ℕ)) (d : ℕ) (e : Expr) → formula_bytes names d e ≡ (formula_size names d e).bytes
formula_bytes_are names d (constant n) = refl
formula_bytes_are names d (length_of a) = refl
formula_bytes_are names d (plus e f) = omega (arith, formula_bytes_are names d e, formula_bytes_are names (d + 1) f)
formula_bytes_are names d (minus e f) = omega (arith, formula_bytes_are names d e, formula_bytes_are names (d + 1) f)

formula_operations_are : (names : List (List ℕ)) (d : ℕ) (e : Expr) → formula_operations e ≡ (formula_size names d e).operations
formula_operations_are names d (constant n) = refl
formula_operations_are names d (length_of a) = refl
formula_operations_are names d (plus e f) = omega (arith, formula_operations_are names d e, formula_operations_are names (d + 1) f)
formula_operations_are names d (minus e f) = omega (arith, formula_operations_are names d e, formula_operations_are names (d + 1) f)

test_bytes_are : (names : List (List ℕ)) (d : ℕ) (p : Pred) → test_bytes names d p ≡ (test_size names d p).bytes
test_bytes_are names d always = refl
test_bytes_are names d (negation p) = omega (arith, test_bytes_are names d p)
test_bytes_are names d (both p q) = omega (arith, test_bytes_are names d p, test_bytes_are names (d + 1) q)
test_bytes_are names d (equal e f) = omega (arith, formula_bytes_are names d e, formula_bytes_are names (d + 1) f)
test_bytes_are names d (less e f) = omega (arith, formula_bytes_are names d e, formula_bytes_are names (d + 1) f)

test_operations_are : (names : List (List ℕ)) (d : ℕ) (p : Pred) → test_operations p ≡ (test_size names d p).operations
test_operations_are names d always = refl
test_operations_are names d (negation p) = omega (arith, test_operations_are names d p)
test_operations_are names d (both p q) = omega (arith, test_operations_are names d p, test_operations_are names (d + 1) q)
test_operations_are names d (equal e f) = omega (arith, formula_operations_are names d e, formula_operations_are names (d + 1) f)
test_operations_are names d (less e f) = omega (arith, formula_operations_are names d e, formula_operations_are names (d + 1) f)

secrets_bytes_are : (hashes : List (List ℕ × List ℕ)) (names : List (List ℕ)) (test : Pred)
    → secrets_bytes names (map (digest_of hashes) names) test ≡ (reveals_size names test).bytes
secrets_bytes_are hashes [] test = refl
secrets_bytes_are hashes (a ∷ names) test = omega (arith, length-map names (digest_of hashes), test_bytes_are (a ∷ names) 0 test)

secrets_operations_are : (hashes : List (List ℕ × List ℕ)) (names : List (List ℕ)) (test : Pred)
    → secrets_operations (map (digest_of hashes) names) test ≡ (reveals_size names test).operations
secrets_operations_are hashes [] test = refl
secrets_operations_are hashes (a ∷ names) test = omega (arith, length-map names (digest_of hashes), test_operations_are (a ∷ names) 0 test)

module _ (people : ℕ) (keys : ℕ → List (List ℕ)) (hashes : List (List ℕ × List ℕ)) (one_each : (i : ℕ) → length (keys i) ≡ people) where
  branch_bytes_are : (i : ℕ) (b : term.Guarded) → branch_bytes (demands_of (core b) (keys i) hashes) ≡ (branch_size people b).bytes
  branch_bytes_are i b = omega (arith, one_each i, secrets_bytes_are hashes (reveals_of (core b)) (test_of (core b)))

  branch_operations_are : (i : ℕ) (b : term.Guarded) → branch_operations (demands_of (core b) (keys i) hashes) ≡ (branch_size people b).operations
  branch_operations_are i b = omega (arith, one_each i, secrets_operations_are hashes (reveals_of (core b)) (test_of (core b)))

  some_bytes_are : (i : ℕ) (b : term.Guarded) (bs : Contract) → cost_bytes (demands_from keys hashes i (b ∷ branches bs))
      ≡ (branch_size people b).bytes + (later_size people bs).bytes
  some_bytes_are i b no_branch = omega (arith, branch_bytes_are i b)
  some_bytes_are i b (branch c cs) = omega (arith, branch_bytes_are i b, some_bytes_are (i + 1) c cs)

  some_operations_are : (i : ℕ) (b : term.Guarded) (bs : Contract) → cost_operations (demands_from keys hashes i (b ∷ branches bs))
      ≡ (branch_size people b).operations + (later_size people bs).operations
  some_operations_are i b no_branch = omega (arith, branch_operations_are i b)
  some_operations_are i b (branch c cs) = omega (arith, branch_operations_are i b, some_operations_are (i + 1) c cs)

  pub bytes_are : (choice : Contract) → cost_bytes (demands_from keys hashes 0 (branches choice)) ≡ (cost people choice).bytes
  bytes_are no_branch = refl
  bytes_are (branch b bs) = some_bytes_are 0 b bs

  pub operations_are : (choice : Contract) → cost_operations (demands_from keys hashes 0 (branches choice)) ≡ (cost people choice).operations
  operations_are no_branch = refl
  operations_are (branch b bs) = some_operations_are 0 b bs
