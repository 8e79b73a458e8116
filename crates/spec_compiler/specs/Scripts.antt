-- The scripts of a contract's branches and positions: BitML's branches, in the operations of Bitcoin's script.
use Rattle.std.specs.Prelude.{ℕ, ◌+◌, List, [], ◌∷◌, ◌++◌, length, map, pos, replicate, if◌then◌else◌}
use Rattle.std.specs.Str.{bytes_eq}
use Rattle.spec_terms.specs.Term as term
use Rattle.spec_terms.specs.Term.{Expr, constant, length_of, plus, minus, Pred, always, both, negation, equal, less}
use Rattle.spec_terms.specs.Core.{core, reveals_of, test_of}
use Rattle.spec_terms.specs.Cost.{place_in}
use Rattle.spec_bitcoin.specs.declared.script.Op.{Op}
use Rattle.spec_bitcoin.specs.declared.script.Op.TheVariants.{Push}
use Rattle.spec_bitcoin.specs.Opcodes.{op_if, op_else, op_endif, op_verify, op_toaltstack, op_fromaltstack, op_drop, op_dup, op_pick}
use Rattle.spec_bitcoin.specs.Opcodes.{op_size}
use Rattle.spec_bitcoin.specs.Opcodes.{op_1, op_16, op_not, op_add, op_sub, op_booland, op_numequal, op_lessthan, op_within}
use Rattle.spec_bitcoin.specs.Opcodes.{op_equalverify, op_sha256, op_checksig, op_checksigverify}
use Rattle.spec_bitcoin.specs.Scripts.{push_number}

-- ---- predicates

-- the operations that push the value of an expression. The byte count of the secret of the first of the names lies d places under the top,
-- that of the second one place further down, and so on; a length is 16 less
abbrev pub formula_ops : List (List ℕ) → ℕ → Expr → List Op
formula_ops names d (constant n) = push_number (pos n) ∷ []
formula_ops names d (length_of a) = push_number (pos (d + place_in names a)) ∷ op_pick ∷ op_16 ∷ op_sub ∷ []
formula_ops names d (plus e f) = formula_ops names d e ++ (formula_ops names (d + 1) f ++ op_add ∷ [])
formula_ops names d (minus e f) = formula_ops names d e ++ (formula_ops names (d + 1) f ++ op_sub ∷ [])

-- the operations that push whether a predicate holds
abbrev pub test_ops : List (List ℕ) → ℕ → Pred → List Op
test_ops names d always = op_1 ∷ []
test_ops names d (negation p) = test_ops names d p ++ op_not ∷ []
test_ops names d (both p q) = test_ops names d p ++ (test_ops names (d + 1) q ++ op_booland ∷ [])
test_ops names d (equal e f) = formula_ops names d e ++ (formula_ops names (d + 1) f ++ op_numequal ∷ [])
test_ops names d (less e f) = formula_ops names d e ++ (formula_ops names (d + 1) f ++ op_lessthan ∷ [])

-- ---- branches

-- what a branch's script asks for: the secrets of these names with their digests, a predicate of their lengths,
-- and a signature by each key
pub record Demands : Type 0 where
  pub names : List (List ℕ)
  pub digests : List (List ℕ)
  pub test : Pred
  pub keys : List (List ℕ)

-- the number 521, in two bytes
abbrev pub push_521 : Op
push_521 = Push (9 ∷ 2 ∷ [])

-- the secret on top has 16 to 520 bytes and this digest; its byte count goes to the other stack
abbrev pub reveal_ops : List ℕ → List Op
reveal_ops digest =
    op_size ∷ op_dup ∷ op_16 ∷ push_521 ∷ op_within ∷ op_verify ∷ op_toaltstack ∷ op_sha256 ∷ Push digest ∷ op_equalverify ∷ []

abbrev pub reveals_ops : List (List ℕ) → List Op
reveals_ops [] = []
reveals_ops (digest ∷ digests) = reveal_ops digest ++ reveals_ops digests

-- the secrets, whose byte counts come back from the other stack, and the predicate of them
abbrev pub asks_secrets : List (List ℕ) → List (List ℕ) → Pred → List Op
asks_secrets names digests test =
    reveals_ops digests ++ (replicate (length digests) op_fromaltstack ++ (test_ops names 0 test
    ++ op_verify ∷ replicate (length digests) op_drop))

-- nothing is asked where there is no secret to reveal
abbrev pub secrets_ops : List (List ℕ) → List (List ℕ) → Pred → List Op
secrets_ops names [] test = []
secrets_ops names (digest ∷ digests) test = asks_secrets names (digest ∷ digests) test

-- for each key in order, a signature by it
abbrev pub signed_ops : List (List ℕ) → List Op
signed_ops [] = []
signed_ops (key ∷ []) = Push key ∷ op_checksig ∷ []
signed_ops (key ∷ (next ∷ keys)) = Push key ∷ op_checksigverify ∷ signed_ops (next ∷ keys)

-- the operations of a branch
abbrev pub branch_ops : Demands → List Op
branch_ops d = secrets_ops d.names d.digests d.test ++ signed_ops d.keys

-- the committed digest of a secret
abbrev pub digest_of : List (List ℕ × List ℕ) → List ℕ → List ℕ
digest_of [] a = []
digest_of (h ∷ hashes) a = if bytes_eq h.0 a then h.1 else digest_of hashes a

-- the demands of a core that reveals these secrets
abbrev pub demands : List (List ℕ) → Pred → List (List ℕ) → List (List ℕ × List ℕ) → Demands
demands names test keys hashes = record { names = names; digests = map (digest_of hashes) names; test = test; keys = keys }

-- the demands of a core, by the keys of its branch and the committed digests
abbrev pub demands_of : term.Guarded → List (List ℕ) → List (List ℕ × List ℕ) → Demands
demands_of b keys hashes = demands (reveals_of b) (test_of b) keys hashes

-- ---- positions

-- one of several lists of operations, chosen by the items on top
abbrev pub choice_ops : List (List Op) → List Op
choice_ops [] = []
choice_ops (ops ∷ []) = ops
choice_ops (ops ∷ (next ∷ others)) = op_if ∷ (ops ++ op_else ∷ (choice_ops (next ∷ others) ++ op_endif ∷ []))

-- the operations of a position, by the demands of its branches
abbrev pub output_ops : List Demands → List Op
output_ops ds = choice_ops (map branch_ops ds)

-- the demands of branches from number i on, where branch i has these keys
abbrev pub demands_from : (ℕ → List (List ℕ)) → List (List ℕ × List ℕ) → ℕ → List term.Guarded → List Demands
demands_from keys hashes i [] = []
demands_from keys hashes i (b ∷ bs) = demands_of (core b) (keys i) hashes ∷ demands_from keys hashes (i + 1) bs
