-- The bytes at the front that pass a test.
use Rattle.std.proofs.Common.{◌≡◌, ℕ, suc, ◌+◌, ◌<◌, ◌≤◌, Bool, true, false, cond, List, [], ◌∷◌, length, take, drop, refl, ap, ◌∙◌, arith}
use Rattle.std.specs.List.{prefix_len}
use Rattle.std.specs.Prelude.{take_while}
use Rattle.std.proofs.lemmas.List.{length-take}
use Rattle.spec_terms.specs.Readable.{is_name_byte}
use Rattle.spec_text.specs.declared.token.Kind.{Kind}
use Rattle.spec_data.specs.Digits.{is_digit}
use Rattle.spec_text.specs.Lexis.{Prefix, word_kind, number_kind, word_prefix, number_prefix}
use Rattle.bm_lex.specs.Prefixes.{word_at, number_at}

run_within_at : (b : Bool) (n m : ℕ) → n ≤ m → cond b (1 + n) 0 ≤ suc m
run_within_at true n m le = omega arith
run_within_at false n m le = omega arith

pub run_within : (p : ℕ → Bool) (xs : List ℕ) → prefix_len p xs ≤ length xs
run_within p [] = omega arith
run_within p (x ∷ xs) = run_within_at (p x) (prefix_len p xs) (length xs) (run_within p xs)

-- a run isn't longer than what it is the prefix of
pub run_length : (p : ℕ → Bool) (xs : List ℕ) → length (take_while p xs) ≡ prefix_len p xs
run_length p xs = omega (arith, length-take (prefix_len p xs) xs, run_within p xs)

pub run_fits : (p : ℕ → Bool) (xs : List ℕ) → length (take_while p xs) ≤ length xs
run_fits p xs = omega (arith, run_length p xs, run_within p xs)

-- a byte and the run behind it
pub run_behind : (p : ℕ → Bool) (x : ℕ) (xs : List ℕ) → take (length (take_while p xs) + 1) (x ∷ xs) ≡ x ∷ take_while p xs
run_behind p x xs =
    let e : length (take_while p xs) + 1 ≡ suc (prefix_len p xs) = omega (arith, run_length p xs) in
    rw e refl

-- a word of so many bytes after its first, and its kind
pub word_at-is : (bytes : List ℕ) (kind : Kind) (more : ℕ) → 0 < length bytes → more ≡ length (take_while is_name_byte (drop 1 bytes)) → kind ≡ word_kind (take (more + 1) bytes) → let f : Prefix = (kind, more) in f ≡ word_at bytes
unfolding word_at word_prefix
word_at-is [] kind more some m k = absurd (omega arith)
word_at-is (b ∷ bytes) kind more some m k =
    let run : take (more + 1) (b ∷ bytes) ≡ b ∷ take_while is_name_byte bytes = ap (λ (n : ℕ). take (n + 1) (b ∷ bytes)) m ∙ run_behind is_name_byte b bytes in
    let is : kind ≡ word_kind (b ∷ take_while is_name_byte bytes) = k ∙ ap word_kind run in
    λ i. (is i, m i)

-- a number of so many bytes after its first, and its kind
pub number_at-is : (bytes : List ℕ) (kind : Kind) (more : ℕ) → 0 < length bytes → more ≡ length (take_while is_digit (drop 1 bytes)) → kind ≡ number_kind (take (more + 1) bytes) → let f : Prefix = (kind, more) in f ≡ number_at bytes
unfolding number_at number_prefix
number_at-is [] kind more some m k = absurd (omega arith)
number_at-is (b ∷ bytes) kind more some m k =
    let run : take (more + 1) (b ∷ bytes) ≡ b ∷ take_while is_digit bytes = ap (λ (n : ℕ). take (n + 1) (b ∷ bytes)) m ∙ run_behind is_digit b bytes in
    let is : kind ≡ number_kind (b ∷ take_while is_digit bytes) = k ∙ ap number_kind run in
    λ i. (is i, m i)
