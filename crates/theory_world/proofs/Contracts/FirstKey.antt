-- The first key in a script tells whose it is.
use Rattle.std.proofs.Common.{◌≡◌, ℕ, zero, suc, ◌+◌, ◌≤◌, List, [], ◌∷◌, ◌++◌, length, map, replicate, Bool, true, false, Option, Some, None, refl, ap, ◌∙◌, arith}
use Rattle.std.specs.Prelude.{◌==◌, if◌then◌else◌, ℤ, pos, negsuc, nat_lt, nat_le, ◌/◌, ◌%◌}
use Rattle.std.specs.List.{list_all}
use Rattle.std.proofs.lemmas.Bool.{and_parts, eqb-true}
use Rattle.spec_bitcoin.specs.Numbers.{signed_bytes, item_of_number}
use Rattle.spec_compiler.specs.Statements.{has_size}
use Rattle.std.proofs.lemmas.Bool.{eq-eqb, ne_eqb}
use Rattle.spec_terms.specs.Term.{Expr, constant, length_of, plus, minus, Pred, always, both, negation, equal, less}
use Rattle.spec_bitcoin.specs.declared.script.Op.{Op}
use Rattle.spec_bitcoin.specs.declared.script.Op.TheVariants.{Push, Code}
use Rattle.spec_bitcoin.specs.Scripts.{push_number}
use Rattle.spec_terms.specs.Cost.{place_in}
use Rattle.spec_compiler.specs.Scripts.{Demands, formula_ops, test_ops, reveal_ops, reveals_ops, secrets_ops, signed_ops, branch_ops, choice_ops, output_ops}

-- the first bytes of 33 that are pushed
abbrev pub first_key : List Op → Option (List ℕ)
first_key [] = None
first_key (Code c ∷ ops) = first_key ops
first_key (Push bytes ∷ ops) = if length bytes == 33 then Some bytes else first_key ops

-- no push has 33 bytes
abbrev pub NoKey : List Op → Type 0
NoKey [] = Unit {0}
NoKey (Code c ∷ ops) = NoKey ops
NoKey (Push bytes ∷ ops) = ((length bytes == 33) ≡ false) × NoKey ops

pub no_key_append : (xs ys : List Op) → NoKey xs → NoKey ys → NoKey (xs ++ ys)
no_key_append [] ys h k = k
no_key_append (Code c ∷ xs) ys h k = no_key_append xs ys h k
no_key_append (Push b ∷ xs) ys h k = (h.0, no_key_append xs ys h.1 k)

pub key_behind : (xs ys : List Op) → NoKey xs → first_key (xs ++ ys) ≡ first_key ys
key_behind [] ys h = refl
key_behind (Code c ∷ xs) ys h = key_behind xs ys h
key_behind (Push b ∷ xs) ys h = rw h.0 (key_behind xs ys h.1)

-- where the first list has a key it is the first
pub key_before : (xs ys : List Op) (k : List ℕ) → first_key xs ≡ Some k → first_key (xs ++ ys) ≡ Some k
key_before [] ys k h = cc
key_before (Code c ∷ xs) ys k h = key_before xs ys k h
key_before (Push b ∷ xs) ys k h = by_test (length b == 33) h (key_before xs ys k)
  where
    by_test : (t : Bool) → (if t then Some b else first_key xs) ≡ Some k → (first_key xs ≡ Some k → first_key (xs ++ ys) ≡ Some k)
        → (if t then Some b else first_key (xs ++ ys)) ≡ Some k
    by_test true e ih = e
    by_test false e ih = ih e

no_key_codes : (n c : ℕ) → NoKey (replicate n (Code c))
no_key_codes zero c = tt
no_key_codes (suc n) c = no_key_codes n c

-- a number is written in at most so many bytes
bytes_few : (k n : ℕ) (negative : Bool) → length (signed_bytes k n negative) ≤ k
unfolding signed_bytes
bytes_few zero n negative = omega arith
bytes_few (suc k) n negative = by_test (nat_lt n 128) (bytes_few k (n / 256) negative)
  where
    by_test : (b : Bool) → length (signed_bytes k (n / 256) negative) ≤ k
        → length (if b then (n + (if negative then 128 else 0)) ∷ [] else (n % 256) ∷ signed_bytes k (n / 256) negative) ≤ suc k
    by_test true h = omega arith
    by_test false h = omega (arith, h)

not_33 : (xs : List ℕ) → length xs ≤ 9 → (length xs == 33) ≡ false
not_33 xs h = ne_eqb (length xs) 33 (λ e. omega (arith, h, e))

item_short : (z : ℤ) → (length (item_of_number z) == 33) ≡ false
unfolding item_of_number
item_short (pos n) = by_test (n == 0)
  where
    by_test : (b : Bool) → (length (if b then [] else signed_bytes 9 n false) == 33) ≡ false
    by_test true = refl
    by_test false = not_33 (signed_bytes 9 n false) (bytes_few 9 n false)
item_short (negsuc n) = not_33 (signed_bytes 9 (n + 1) true) (bytes_few 9 (n + 1) true)

short : (z : ℤ) → NoKey (push_number z ∷ [])
short (pos n) = by_test (n == 0) (nat_le n 16)
  where
    by_test : (a b : Bool) → NoKey ((if a then Push [] else (if b then Code (80 + n) else Push (item_of_number (pos n)))) ∷ [])
    by_test true b = (refl, tt)
    by_test false true = tt
    by_test false false = (item_short (pos n), tt)
short (negsuc n) = by_test (n == 0)
  where
    by_test : (a : Bool) → NoKey ((if a then Code 0x4f else Push (item_of_number (negsuc n))) ∷ [])
    by_test true = tt
    by_test false = (item_short (negsuc n), tt)

formula_none : (names : List (List ℕ)) (d : ℕ) (e : Expr) → NoKey (formula_ops names d e)
formula_none names d (constant n) = short (pos n)
formula_none names d (length_of a) =
    no_key_append (push_number (pos (d + place_in names a)) ∷ []) (Code 0x79 ∷ (Code 0x60 ∷ (Code 0x94 ∷ []))) (short (pos (d + place_in names a))) tt
formula_none names d (plus e f) =
    no_key_append (formula_ops names d e) (formula_ops names (d + 1) f ++ Code 0x93 ∷ []) (formula_none names d e)
    (no_key_append (formula_ops names (d + 1) f) (Code 0x93 ∷ []) (formula_none names (d + 1) f) tt)
formula_none names d (minus e f) =
    no_key_append (formula_ops names d e) (formula_ops names (d + 1) f ++ Code 0x94 ∷ []) (formula_none names d e)
    (no_key_append (formula_ops names (d + 1) f) (Code 0x94 ∷ []) (formula_none names (d + 1) f) tt)

test_none : (names : List (List ℕ)) (d : ℕ) (p : Pred) → NoKey (test_ops names d p)
test_none names d always = tt
test_none names d (negation p) = no_key_append (test_ops names d p) (Code 0x91 ∷ []) (test_none names d p) tt
test_none names d (both p q) =
    no_key_append (test_ops names d p) (test_ops names (d + 1) q ++ Code 0x9a ∷ []) (test_none names d p)
    (no_key_append (test_ops names (d + 1) q) (Code 0x9a ∷ []) (test_none names (d + 1) q) tt)
test_none names d (equal e f) =
    no_key_append (formula_ops names d e) (formula_ops names (d + 1) f ++ Code 0x9c ∷ []) (formula_none names d e)
    (no_key_append (formula_ops names (d + 1) f) (Code 0x9c ∷ []) (formula_none names (d + 1) f) tt)
test_none names d (less e f) =
    no_key_append (formula_ops names d e) (formula_ops names (d + 1) f ++ Code 0x9f ∷ []) (formula_none names d e)
    (no_key_append (formula_ops names (d + 1) f) (Code 0x9f ∷ []) (formula_none names (d + 1) f) tt)

-- digests have 32 bytes
abbrev AllDigests : List (List ℕ) → Type 0
AllDigests ds = list_all (has_size 32) ds ≡ true

reveals_none : (ds : List (List ℕ)) → AllDigests ds → NoKey (reveals_ops ds)
reveals_none [] h = tt
reveals_none (d ∷ ds) h =
    let p = and_parts (has_size 32 d) (list_all (has_size 32) ds) h in
    let l = eqb-true (length d) 32 p.0 in
    no_key_append (reveal_ops d) (reveals_ops ds) (refl, (ne_eqb (length d) 33 (λ e. omega (arith, l, e)), tt)) (reveals_none ds p.1)

secrets_none : (names digests : List (List ℕ)) (t : Pred) → AllDigests digests → NoKey (secrets_ops names digests t)
secrets_none names [] t h = tt
secrets_none names (d ∷ ds) t h =
    let n = length (d ∷ ds) in
    no_key_append (reveals_ops (d ∷ ds)) (replicate n (Code 0x6c) ++ (test_ops names 0 t ++ Code 0x69 ∷ replicate n (Code 0x75))) (reveals_none (d ∷ ds) h)
    (no_key_append (replicate n (Code 0x6c)) (test_ops names 0 t ++ Code 0x69 ∷ replicate n (Code 0x75)) (no_key_codes n 0x6c)
    (no_key_append (test_ops names 0 t) (Code 0x69 ∷ replicate n (Code 0x75)) (test_none names 0 t) (no_key_codes n 0x75)))

signed_first : (key : List ℕ) (keys : List (List ℕ)) → length key ≡ 33 → first_key (signed_ops (key ∷ keys)) ≡ Some key
signed_first key [] h = rw (eq-eqb (length key) 33 h) refl
signed_first key (next ∷ keys) h = rw (eq-eqb (length key) 33 h) refl

branch_first : (d : Demands) (key : List ℕ) (keys : List (List ℕ)) → d.keys ≡ key ∷ keys → length key ≡ 33 → AllDigests d.digests
    → first_key (branch_ops d) ≡ Some key
branch_first d key keys e l h =
    key_behind (secrets_ops d.names d.digests d.test) (signed_ops d.keys) (secrets_none d.names d.digests d.test h)
    ∙ ap (λ ks. first_key (signed_ops ks)) e ∙ signed_first key keys l

pub output_first : (d : Demands) (ds : List Demands) (key : List ℕ) (keys : List (List ℕ)) → d.keys ≡ key ∷ keys → length key ≡ 33
    → AllDigests d.digests → first_key (output_ops (d ∷ ds)) ≡ Some key
output_first d [] key keys e l h = branch_first d key keys e l h
output_first d (f ∷ ds) key keys e l h =
    key_before (branch_ops d) (Code 0x67 ∷ (choice_ops (map branch_ops (f ∷ ds)) ++ Code 0x68 ∷ [])) key (branch_first d key keys e l h)
