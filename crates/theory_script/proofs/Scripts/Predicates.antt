-- A predicate's operations push its truth.
use Rattle.std.proofs.Common.{◌≡◌, ℕ, suc, ◌+◌, ◌≤◌, List, [], ◌∷◌, ◌++◌, length, Bool, true, false, not, Some, refl, ◌∙◌, arith}
use Rattle.std.specs.Prelude.{nat_le, ◌&&◌, pos, ◌-ℤ◌, slice_get}
use Rattle.std.proofs.lemmas.Bool.{and_parts}
use Rattle.std.proofs.lemmas.Int.{ints}
use Rattle.spec_bitcoin.specs.declared.script.Op.TheVariants.{Code}
use Rattle.spec_bitcoin.specs.declared.opcode.Opcode.TheVariants.{Binary}
use Rattle.spec_bitcoin.specs.declared.opcode.Binary.TheVariants.{Add, Sub, BoolAnd, NumEqual, LessThan}
use Rattle.spec_bitcoin.specs.Opcodes.{opcode_of}
use Rattle.spec_bitcoin.specs.Numbers.{item_of_number}
use Rattle.spec_bitcoin.specs.Effects.{Item, number_of_bool, result_of, is_zero}
use Rattle.spec_terms.specs.Term.{Expr, constant, length_of, plus, minus, Pred, always, negation, both, equal, less}
use Rattle.spec_terms.specs.Value.{value, holds, length_in}
use Rattle.spec_terms.specs.Bound.{bound, is_bounded}
use Rattle.spec_terms.specs.Cost.{place_in}
use Rattle.spec_data.specs.Lists.{is_among}
use Rattle.theory_script.proofs.Scripts.Demanded.{covers, covers_test}
use Rattle.spec_compiler.specs.Scripts.{formula_ops, test_ops}
use Rattle.theory_script.proofs.Sizes.Cost.{formula_operations, test_operations}
use Rattle.theory_script.specs.Items.{size_of_number}
use Rattle.theory_script.proofs.NumberLemmas.{number_again, size_of_sum, size_of_difference}
use Rattle.theory_script.proofs.Scripts.Runs.{stacks, free_run, goes_on, push_runs, both_run}
use Rattle.spec_bitcoin.specs.declared.opcode.Binary as binaries

pub value_bounded : (lens : List (List ℕ × ℕ)) → ((a : List ℕ) → length_in lens a ≤ 504) → (e : Expr) → size_of_number (value lens e) ≤ bound e
value_bounded lens short (constant n) = omega arith
value_bounded lens short (length_of a) = omega (arith, short a)
value_bounded lens short (plus e f) = omega (arith, size_of_sum (value lens e) (value lens f), value_bounded lens short e, value_bounded lens short f)
value_bounded lens short (minus e f) = omega (arith, size_of_difference (value lens e) (value lens f), value_bounded lens short e, value_bounded lens short f)

pub place_within : (names : List (List ℕ)) (a : List ℕ) → place_in names a ≤ length names
place_within [] a = omega arith
place_within (b ∷ names) a = let ih = place_within names a in grind arith

pub within_of_test : (n m : ℕ) → nat_le n m ≡ true → n ≤ m
within_of_test n m h = grind arith

-- the lengths of the secrets lie on the stack, from so many places under the top on, 16 more than the predicate says
pub record Sees (names : List (List ℕ)) (lens : List (List ℕ × ℕ)) (d : ℕ) (m : List Item) : Type 0 where
  pub at : (a : List ℕ) → is_among a names ≡ true → slice_get m (d + place_in names a) ≡ Some (item_of_number (pos (length_in lens a + 16)))

-- one item more on top
pub deeper : (names : List (List ℕ)) (lens : List (List ℕ × ℕ)) (d : ℕ) (m : List Item) (x : Item) → Sees names lens d m → Sees names lens (d + 1) (x ∷ m)
deeper names lens d m x sees = record { at = λ a h. let e : d + 1 + place_in names a ≡ suc (d + place_in names a) = omega arith in rw e (sees.at a h) }

module _ (hash : Item → Item) (valid : Item → Item → Bool)
    (names : List (List ℕ)) (lens : List (List ℕ × ℕ)) (short : (a : List ℕ) → length_in lens a ≤ 504) where
  length_runs : (a : List ℕ) (d : ℕ) (m alt : List Item) → is_among a names ≡ true → d + 2 + length names ≤ 2147483647 → Sees names lens d m
      → free_run hash valid (formula_ops names d (length_of a)) (stacks m alt) ≡ Some (stacks (item_of_number (value lens (length_of a)) ∷ m) alt)
  length_runs a d m alt known fits sees =
      let place = number_again (pos (d + place_in names a)) (omega (arith, place_within names a)) in
      let long = number_again (pos (length_in lens a + 16)) (omega (arith, short a)) in
      let less : pos (length_in lens a + 16) -ℤ pos 16 ≡ pos (length_in lens a) = omega (arith, ints) in
      rw (push_runs hash valid (d + place_in names a) m alt, place, sees.at a known, long, number_again (pos 16) (omega arith), less)

  pub formula_runs : (e : Expr) (d : ℕ) (m alt : List Item) → covers names e ≡ true → bound e ≤ 2147483647
      → d + formula_operations e + length names ≤ 2147483647 → Sees names lens d m
      → free_run hash valid (formula_ops names d e) (stacks m alt) ≡ Some (stacks (item_of_number (value lens e) ∷ m) alt)
  formula_runs (constant n) d m alt known small fits sees = rw (push_runs hash valid n m alt)
  formula_runs (length_of a) d m alt known small fits sees = length_runs a d m alt known (omega arith) sees
  formula_runs (plus e f) d m alt known small fits sees =
      let k = and_parts (covers names e) (covers names f) known in
      both_run hash valid 0x93 Add (formula_ops names d e) (formula_ops names (d + 1) f) (value lens e) (value lens f) m alt refl
      (omega (arith, value_bounded lens short e)) (omega (arith, value_bounded lens short f))
      (formula_runs e d m alt k.0 (omega arith) (omega arith) sees)
      (formula_runs f (d + 1) _ alt k.1 (omega arith) (omega arith) (deeper names lens d m _ sees))
  formula_runs (minus e f) d m alt known small fits sees =
      let k = and_parts (covers names e) (covers names f) known in
      both_run hash valid 0x94 Sub (formula_ops names d e) (formula_ops names (d + 1) f) (value lens e) (value lens f) m alt refl
      (omega (arith, value_bounded lens short e)) (omega (arith, value_bounded lens short f))
      (formula_runs e d m alt k.0 (omega arith) (omega arith) sees)
      (formula_runs f (d + 1) _ alt k.1 (omega arith) (omega arith) (deeper names lens d m _ sees))

  -- a comparison of two formulas
  compared : (c : ℕ) (b : binaries.Binary) (e f : Expr) (d : ℕ) (m alt : List Item) → opcode_of c ≡ Some (Binary b)
      → (covers names e && covers names f) ≡ true → (nat_le (bound e) 2147483647 && nat_le (bound f) 2147483647) ≡ true
      → d + (formula_operations e + formula_operations f + 1) + length names ≤ 2147483647 → Sees names lens d m
      → free_run hash valid (formula_ops names d e ++ (formula_ops names (d + 1) f ++ Code c ∷ [])) (stacks m alt)
      ≡ Some (stacks (item_of_number (result_of b (value lens e) (value lens f)) ∷ m) alt)
  compared c b e f d m alt is known small fits sees =
      let k = and_parts (covers names e) (covers names f) known in
      let s = and_parts (nat_le (bound e) 2147483647) (nat_le (bound f) 2147483647) small in
      let s0 = within_of_test (bound e) 2147483647 s.0 in
      let s1 = within_of_test (bound f) 2147483647 s.1 in
      both_run hash valid c b (formula_ops names d e) (formula_ops names (d + 1) f) (value lens e) (value lens f) m alt is
      (omega (arith, s0, value_bounded lens short e)) (omega (arith, s1, value_bounded lens short f))
      (formula_runs e d m alt k.0 s0 (omega arith) sees)
      (formula_runs f (d + 1) _ alt k.1 s1 (omega arith) (deeper names lens d m _ sees))

  bool_small : (b : Bool) → size_of_number (number_of_bool b) ≤ 2147483647
  bool_small true = omega arith
  bool_small false = omega arith

  and_of : (a b : Bool) → result_of BoolAnd (number_of_bool a) (number_of_bool b) ≡ number_of_bool (a && b)
  and_of true true = refl
  and_of true false = refl
  and_of false true = refl
  and_of false false = refl

  not_of_bool : (b : Bool) → number_of_bool (is_zero (number_of_bool b)) ≡ number_of_bool (not b)
  not_of_bool true = refl
  not_of_bool false = refl

  pub test_runs : (p : Pred) (d : ℕ) (m alt : List Item) → covers_test names p ≡ true → is_bounded p ≡ true
      → d + test_operations p + length names ≤ 2147483647 → Sees names lens d m → free_run hash valid (test_ops names d p) (stacks m alt)
      ≡ Some (stacks (item_of_number (number_of_bool (holds lens p)) ∷ m) alt)
  test_runs always d m alt known small fits sees = refl
  test_runs (negation p) d m alt known small fits sees =
      goes_on hash valid (test_ops names d p) _ _ _ (test_runs p d m alt known small (omega arith) sees)
      ∙ rw (number_again (number_of_bool (holds lens p)) (bool_small (holds lens p)), not_of_bool (holds lens p))
  test_runs (both p q) d m alt known small fits sees =
      let k = and_parts (covers_test names p) (covers_test names q) known in
      let s = and_parts (is_bounded p) (is_bounded q) small in
      rw (← and_of (holds lens p) (holds lens q))
      (both_run hash valid 0x9a BoolAnd (test_ops names d p) (test_ops names (d + 1) q) (number_of_bool (holds lens p))
      (number_of_bool (holds lens q)) m alt refl (bool_small _) (bool_small _)
      (test_runs p d m alt k.0 s.0 (omega arith) sees)
      (test_runs q (d + 1) _ alt k.1 s.1 (omega arith) (deeper names lens d m _ sees)))
  test_runs (equal e f) d m alt known small fits sees = compared 0x9c NumEqual e f d m alt refl known small fits sees
  test_runs (less e f) d m alt known small fits sees = compared 0x9f LessThan e f d m alt refl known small fits sees
