-- The bytes and the counted operations of the script of a position, by the shortest pushes of Bitcoin script.
use Rattle.std.specs.Prelude.{ℕ, ◌+◌, ◌*◌, nat_le, List, [], ◌∷◌, length, if◌then◌else◌}
use Rattle.std.specs.Str.{bytes_eq}
use Rattle.spec_terms.specs.Term.{Expr, constant, length_of, plus, minus, Pred, always, both, negation, equal, less, Guarded, Contract}
use Rattle.spec_terms.specs.Term.{no_branch, branch}
use Rattle.spec_terms.specs.Core.{core, reveals_of, test_of}
use Rattle.spec_terms.specs.Bound.{held}
use Rattle.spec_terms.specs.declared.script_size.ScriptSize.{ScriptSize}

abbrev pub size : ℕ → ℕ → ScriptSize
size bytes operations = record { bytes = bytes; operations = operations }

-- two pieces of a script, one after the other
abbrev pub and : ScriptSize → ScriptSize → ScriptSize
and x y = size (x.bytes + y.bytes) (x.operations + y.operations)

-- a size as the code counts it
abbrev pub held_size : ScriptSize → ScriptSize
held_size x = size (held x.bytes) (held x.operations)

-- the bytes of the shortest push of a number
abbrev pub push_len : ℕ → ℕ
push_len n =
    if nat_le n 16 then 1 else (if nat_le n 127 then 2 else (if nat_le n 32767 then 3 else (if nat_le n 8388607 then 4 else 5)))

-- how many names stand before this one
abbrev pub place_in : List (List ℕ) → List ℕ → ℕ
place_in [] name = 0
place_in (n ∷ ns) name = if bytes_eq n name then 0 else (place_in ns name + 1)

-- an expression where d items lie on the stack above the lengths of the revealed secrets
abbrev pub formula_size : List (List ℕ) → ℕ → Expr → ScriptSize
formula_size reveals d (constant n) = size (push_len n) 0
formula_size reveals d (length_of name) = size (3 + push_len (d + place_in reveals name)) 2
formula_size reveals d (plus e f) = and (and (formula_size reveals d e) (formula_size reveals (d + 1) f)) (size 1 1)
formula_size reveals d (minus e f) = and (and (formula_size reveals d e) (formula_size reveals (d + 1) f)) (size 1 1)

-- two expressions that are compared
abbrev pub two_formulas : List (List ℕ) → ℕ → Expr → Expr → ScriptSize
two_formulas reveals d e f = and (and (formula_size reveals d e) (formula_size reveals (d + 1) f)) (size 1 1)

-- a predicate at that depth
abbrev pub test_size : List (List ℕ) → ℕ → Pred → ScriptSize
test_size reveals d always = size 1 0
test_size reveals d (both p q) = and (and (test_size reveals d p) (test_size reveals (d + 1) q)) (size 1 1)
test_size reveals d (negation p) = and (test_size reveals d p) (size 1 1)
test_size reveals d (equal e f) = two_formulas reveals d e f
test_size reveals d (less e f) = two_formulas reveals d e f

-- what revealing these secrets adds: each is checked, then comes the predicate with its VERIFY
abbrev pub reveals_size : List (List ℕ) → Pred → ScriptSize
reveals_size [] test = size 0 0
reveals_size (a ∷ rest) test =
    and (and (size (46 * length (a ∷ rest)) (9 * length (a ∷ rest))) (test_size (a ∷ rest) 0 test)) (size 1 1)

-- a branch among so many participants, each of whom signs
abbrev pub branch_size : ℕ → Guarded → ScriptSize
branch_size parties b = and (size (35 * parties) parties) (reveals_size (reveals_of (core b)) (test_of (core b)))

-- the branches after the first, each with its IF, ELSE and ENDIF
abbrev pub later_size : ℕ → Contract → ScriptSize
later_size parties no_branch = size 0 0
later_size parties (branch b bs) = and (and (size 3 3) (branch_size parties b)) (later_size parties bs)

-- the script of the position where the choice stands, among so many participants
abbrev pub cost : ℕ → Contract → ScriptSize
cost parties no_branch = size 0 0
cost parties (branch b bs) = and (branch_size parties b) (later_size parties bs)
