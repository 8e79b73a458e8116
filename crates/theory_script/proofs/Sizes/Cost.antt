-- The size of scripts.
use Rattle.std.specs.Prelude.{ℕ, ◌+◌, ◌*◌, List, [], ◌∷◌, length}
use Rattle.spec_terms.specs.Term.{Expr, constant, length_of, plus, minus, Pred, always, negation, both, equal, less}
use Rattle.spec_terms.specs.Cost.{place_in, push_len}
use Rattle.spec_compiler.specs.Scripts.{Demands}
use Rattle.spec_bitcoin.specs.Effects.{Item}

abbrev pub formula_bytes : List (List ℕ) → ℕ → Expr → ℕ
formula_bytes names d (constant n) = push_len n
formula_bytes names d (length_of a) = 3 + push_len (d + place_in names a)
formula_bytes names d (plus e f) = formula_bytes names d e + formula_bytes names (d + 1) f + 1
formula_bytes names d (minus e f) = formula_bytes names d e + formula_bytes names (d + 1) f + 1

abbrev pub test_bytes : List (List ℕ) → ℕ → Pred → ℕ
test_bytes names d always = 1
test_bytes names d (negation p) = test_bytes names d p + 1
test_bytes names d (both p q) = test_bytes names d p + test_bytes names (d + 1) q + 1
test_bytes names d (equal e f) = formula_bytes names d e + formula_bytes names (d + 1) f + 1
test_bytes names d (less e f) = formula_bytes names d e + formula_bytes names (d + 1) f + 1

abbrev pub formula_operations : Expr → ℕ
formula_operations (constant n) = 0
formula_operations (length_of name) = 2
formula_operations (plus e f) = formula_operations e + formula_operations f + 1
formula_operations (minus e f) = formula_operations e + formula_operations f + 1

abbrev pub test_operations : Pred → ℕ
test_operations always = 0
test_operations (negation p) = test_operations p + 1
test_operations (both p q) = test_operations p + test_operations q + 1
test_operations (equal e f) = formula_operations e + formula_operations f + 1
test_operations (less e f) = formula_operations e + formula_operations f + 1

abbrev pub secrets_bytes : List (List ℕ) → List Item → Pred → ℕ
secrets_bytes names [] test = 0
secrets_bytes names (digest ∷ digests) test = 46 * length (digest ∷ digests) + test_bytes names 0 test + 1

abbrev pub secrets_operations : List Item → Pred → ℕ
secrets_operations [] test = 0
secrets_operations (digest ∷ digests) test = 9 * length (digest ∷ digests) + test_operations test + 1

abbrev pub branch_bytes : Demands → ℕ
branch_bytes b = secrets_bytes b.names b.digests b.test + 35 * length b.keys

abbrev pub branch_operations : Demands → ℕ
branch_operations b = secrets_operations b.digests b.test + length b.keys

abbrev pub cost_bytes : List Demands → ℕ
cost_bytes [] = 0
cost_bytes (b ∷ []) = branch_bytes b
cost_bytes (b ∷ (next ∷ branches)) = branch_bytes b + cost_bytes (next ∷ branches) + 3

abbrev pub cost_operations : List Demands → ℕ
cost_operations [] = 0
cost_operations (b ∷ []) = branch_operations b
cost_operations (b ∷ (next ∷ branches)) = branch_operations b + cost_operations (next ∷ branches) + 3
