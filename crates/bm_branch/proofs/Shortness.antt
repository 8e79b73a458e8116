-- The operations of a branch push items of at most 520 bytes.
use Rattle.std.proofs.Common.{◌≡◌, ℕ, zero, suc, ◌+◌, ◌≤◌, List, [], ◌∷◌, ◌++◌, length, map, Bool, true, false, refl, ◌∙◌, arith}
use Rattle.std.specs.Prelude.{nat_le, nat_lt, ◌==◌, if◌then◌else◌, replicate, ◌%◌, ◌/◌, pos}
use Rattle.std.specs.List.{list_all}
use Rattle.std.proofs.lemmas.Bool.{and_parts, and_from}
use Rattle.std.proofs.lemmas.List.Folds.{list_all-append}
use Rattle.spec_terms.specs.Term.{Expr, constant, length_of, plus, minus, Pred, always, both, negation, equal, less}
use Rattle.spec_terms.specs.Cost.{place_in}
use Rattle.spec_bitcoin.specs.declared.script.Op.{Op}
use Rattle.spec_bitcoin.specs.declared.script.Op.TheVariants.{Push, Code}
use Rattle.spec_bitcoin.specs.Numbers.{signed_bytes, item_of_number}
use Rattle.spec_bitcoin.specs.Meaning.{is_short_push}
use Rattle.spec_bitcoin.specs.Scripts.{push_number}
use Rattle.spec_compiler.specs.Scripts.{formula_ops, test_ops, reveal_ops, reveals_ops, secrets_ops, signed_ops, branch_ops}
use Rattle.spec_compiler.specs.Scripts.{demands, digest_of}
use Rattle.bm_branch.specs.Short.{is_short_item}

-- all these push short items; a record, so that a lemma's lists are found from its hypotheses
record AreShort (ops : List Op) : Type 0 where
  all : list_all is_short_push ops ≡ true

one : (x : Op) (xs : List Op) → is_short_push x ≡ true → AreShort xs → AreShort (x ∷ xs)
one x xs h s = record { all = and_from (is_short_push x) (list_all is_short_push xs) h s.all }

none : AreShort []
none = record { all = refl }

code : (c : ℕ) (xs : List Op) → AreShort xs → AreShort (Code c ∷ xs)
code c xs s = record { all = s.all }

joined : (xs ys : List Op) → AreShort xs → AreShort ys → AreShort (xs ++ ys)
joined xs ys e f = record {
  all = list_all-append is_short_push xs ys ∙ and_from (list_all is_short_push xs) (list_all is_short_push ys) e.all f.all;
}

copies : (n c : ℕ) → AreShort (replicate n (Code c))
copies zero c = none
copies (suc n) c = code c (replicate n (Code c)) (copies n c)

-- ---- numbers

by_size : (k n : ℕ) (negative b : Bool) (rest : List ℕ) → length rest ≤ k
    → length (if b then (n + (if negative then 128 else 0)) ∷ [] else (n % 256) ∷ rest) ≤ suc k
by_size k n negative true rest h = omega arith
by_size k n negative false rest h = omega (arith, h)

few_bytes : (k n : ℕ) (negative : Bool) → length (signed_bytes k n negative) ≤ k
unfolding signed_bytes
few_bytes zero n negative = omega arith
few_bytes (suc k) n negative =
    by_size k n negative (nat_lt n 128) (signed_bytes k (n / 256) negative) (few_bytes k (n / 256) negative)

short_number : (n : ℕ) → is_short_push (push_number (pos n)) ≡ true
unfolding item_of_number
short_number n = by_zero (n == 0)
  where
    item : List ℕ
    item = signed_bytes 9 n false

    bytes : nat_le (length item) 520 ≡ true
    bytes = let e = few_bytes 9 n false in grind (arith, e)

    by_small : (b : Bool) → is_short_push (if b then Code (80 + n) else Push item) ≡ true
    by_small true = refl
    by_small false = bytes

    by_zero : (b : Bool)
        → is_short_push (if b then Push [] else (if nat_le n 16 then Code (80 + n) else Push (if b then [] else item))) ≡ true
    by_zero true = refl
    by_zero false = by_small (nat_le n 16)

-- ---- predicates

short_formula : (names : List (List ℕ)) (d : ℕ) (e : Expr) → AreShort (formula_ops names d e)
short_formula names d (constant n) = one _ _ (short_number n) none
short_formula names d (length_of a) = one _ _ (short_number (d + place_in names a)) (record { all = refl })
short_formula names d (plus e f) = joined _ _ (short_formula names d e) (joined _ _ (short_formula names (d + 1) f) (code _ _ none))
short_formula names d (minus e f) = joined _ _ (short_formula names d e) (joined _ _ (short_formula names (d + 1) f) (code _ _ none))

short_test : (names : List (List ℕ)) (d : ℕ) (p : Pred) → AreShort (test_ops names d p)
short_test names d always = code _ _ none
short_test names d (negation p) = joined _ _ (short_test names d p) (code _ _ none)
short_test names d (both p q) = joined _ _ (short_test names d p) (joined _ _ (short_test names (d + 1) q) (code _ _ none))
short_test names d (equal e f) = joined _ _ (short_formula names d e) (joined _ _ (short_formula names (d + 1) f) (code _ _ none))
short_test names d (less e f) = joined _ _ (short_formula names d e) (joined _ _ (short_formula names (d + 1) f) (code _ _ none))

-- ---- branches

short_reveals : (digests : List (List ℕ)) → list_all is_short_item digests ≡ true → AreShort (reveals_ops digests)
short_reveals [] h = none
short_reveals (d ∷ ds) h =
    let p = and_parts (is_short_item d) (list_all is_short_item ds) h in
    joined (reveal_ops d) (reveals_ops ds) (record { all = and_from (is_short_item d) true p.0 refl }) (short_reveals ds p.1)

short_secrets : (names digests : List (List ℕ)) (p : Pred) → list_all is_short_item digests ≡ true
    → AreShort (secrets_ops names digests p)
short_secrets names [] p h = none
short_secrets names (d ∷ ds) p h =
    let n = length (d ∷ ds) in
    joined _ _ (short_reveals (d ∷ ds) h)
    (joined _ _ (copies n 0x6c) (joined _ _ (short_test names 0 p) (code _ _ (copies n 0x75))))

short_signed : (keys : List (List ℕ)) → list_all is_short_item keys ≡ true → AreShort (signed_ops keys)
short_signed [] h = none
short_signed (k ∷ []) h = record { all = h }
short_signed (k ∷ (l ∷ ks)) h =
    let p = and_parts (is_short_item k) (list_all is_short_item (l ∷ ks)) h in
    one (Push k) _ p.0 (code _ _ (short_signed (l ∷ ks) p.1))

short_branch : (names : List (List ℕ)) (p : Pred) (keys : List (List ℕ)) (hashes : List (List ℕ × List ℕ))
    → list_all is_short_item (map (digest_of hashes) names) ≡ true → list_all is_short_item keys ≡ true
    → AreShort (branch_ops (demands names p keys hashes))
short_branch names p keys hashes h k = joined _ _ (short_secrets names (map (digest_of hashes) names) p h) (short_signed keys k)

-- operations that are those of a branch
pub short_made : (ops : List Op) (names : List (List ℕ)) (p : Pred) (keys : List (List ℕ)) (hashes : List (List ℕ × List ℕ))
    → ops ≡ branch_ops (demands names p keys hashes)
    → list_all is_short_item (map (digest_of hashes) names) ≡ true → list_all is_short_item keys ≡ true
    → list_all is_short_push ops ≡ true
short_made ops names p keys hashes e h k = rw e (short_branch names p keys hashes h k).all
