-- The bytes at the front that pass a test.
use Rattle.std.proofs.Common.{◌≡◌, ℕ, suc, ◌+◌, ◌≤◌, Bool, true, false, cond, List, [], ◌∷◌, ◌++◌, length, take, refl, ap, ◌∙◌, arith}
use Rattle.std.specs.List.{list_all, prefix_len}
use Rattle.std.specs.Prelude.{take_while}
use Rattle.std.proofs.lemmas.List.{length-take, take_at}
use Rattle.theory_text.proofs.ListFacts.{and_is, and_left, and_right}

one_more : (p : ℕ → Bool) (x : ℕ) (xs : List ℕ) (t : Bool) → p x ≡ t → list_all p (take (prefix_len p xs) xs) ≡ true
    → list_all p (take (cond t (1 + prefix_len p xs) 0) (x ∷ xs)) ≡ true
one_more p x xs true h e = let n : 1 + prefix_len p xs ≡ suc (prefix_len p xs) = omega arith in rw n (and_is _ _ h e)
one_more p x xs false h e = refl

-- each byte of a run passes
pub run_all : (p : ℕ → Bool) (xs : List ℕ) → list_all p (take_while p xs) ≡ true
run_all p [] = refl
run_all p (x ∷ xs) = one_more p x xs (p x) refl (run_all p xs)

run_within_at : (b : Bool) (n m : ℕ) → n ≤ m → cond b (1 + n) 0 ≤ suc m
run_within_at true n m le = omega arith
run_within_at false n m le = omega arith

run_within : (p : ℕ → Bool) (xs : List ℕ) → prefix_len p xs ≤ length xs
run_within p [] = omega arith
run_within p (x ∷ xs) = run_within_at (p x) (prefix_len p xs) (length xs) (run_within p xs)

run_length : (p : ℕ → Bool) (xs : List ℕ) → length (take_while p xs) ≡ prefix_len p xs
run_length p xs = omega (arith, length-take (prefix_len p xs) xs, run_within p xs)

-- a byte and the run behind it
pub run_behind : (p : ℕ → Bool) (x : ℕ) (xs : List ℕ) → take (length (take_while p xs) + 1) (x ∷ xs) ≡ x ∷ take_while p xs
run_behind p x xs =
    let e : length (take_while p xs) + 1 ≡ suc (prefix_len p xs) = omega (arith, run_length p xs) in
    rw e refl

-- a run ends here
abbrev pub Stops : (ℕ → Bool) → List ℕ → Type 0
Stops p [] = Unit {0}
Stops p (x ∷ xs) = p x ≡ false

run_to : (p : ℕ → Bool) (xs rest : List ℕ) → list_all p xs ≡ true → Stops p rest → prefix_len p (xs ++ rest) ≡ length xs
run_to p [] [] h ends = refl
run_to p [] (x ∷ rest) h ends = rw ends refl
run_to p (x ∷ xs) rest h ends = rw (and_left (p x) (list_all p xs) h, run_to p xs rest (and_right (p x) (list_all p xs) h) ends) (omega arith)

-- the run at the front of bytes that pass and of what ends the run
pub run_append : (p : ℕ → Bool) (xs rest : List ℕ) → list_all p xs ≡ true → Stops p rest → take_while p (xs ++ rest) ≡ xs
run_append p xs rest h ends = ap (λ (n : ℕ). take n (xs ++ rest)) (run_to p xs rest h ends) ∙ take_at xs rest (length xs) refl
