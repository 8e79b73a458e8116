-- The size of scripts is their cost.
use Rattle.std.proofs.Common.{◌≡◌, ℕ, zero, suc, ◌+◌, ◌*◌, ◌/◌, ◌<◌, ◌≤◌, List, [], ◌∷◌, ◌++◌, length, Bool, true, false, refl, ap, ◌∙◌, arith, length-append}
use Rattle.std.specs.Prelude.{if◌then◌else◌, nat_lt, nat_le, ◌==◌, ◌&&◌, is_some, pos, replicate}
use Rattle.std.specs.List.{list_all}
use Rattle.std.proofs.Math.Nat.{div-add-mod}
use Rattle.std.proofs.lemmas.Bool.{and_parts, and_from}
use Rattle.spec_bitcoin.specs.declared.script.Op.{Op}
use Rattle.spec_bitcoin.specs.declared.script.Op.TheVariants.{Push, Code}
use Rattle.spec_bitcoin.specs.Opcodes.{opcode_of}
use Rattle.spec_bitcoin.specs.Numbers.{signed_bytes, item_of_number}
use Rattle.spec_bitcoin.specs.Effects.{Item}
use Rattle.spec_bitcoin.specs.Scripts.{encode_op, encode, is_written, counted_op, counted, push_number}
use Rattle.spec_terms.specs.Term.{Expr, constant, length_of, plus, minus, Pred, always, negation, both, equal, less}
use Rattle.spec_terms.specs.Bound.{bound, is_bounded}
use Rattle.spec_terms.specs.Cost.{place_in, push_len}
use Rattle.spec_compiler.specs.Scripts.{formula_ops, test_ops, reveal_ops, reveals_ops, signed_ops, asks_secrets, secrets_ops, Demands, branch_ops, output_ops}
use Rattle.theory_script.proofs.Sizes.Cost.{formula_bytes, test_bytes, formula_operations, test_operations, secrets_bytes, secrets_operations, branch_bytes, branch_operations, cost_bytes, cost_operations}
use Rattle.spec_compiler.specs.Statements.{has_size}
use Rattle.theory_script.proofs.Scripts.Runs.{small_code}
use Rattle.theory_script.proofs.Scripts.Predicates.{place_within, within_of_test}

-- operations with so many bytes, so many of them counted, at most so many in all, that can be written
pub record Sized (ops : List Op) (bytes operations most : ℕ) : Type 0 where
  pub bytes_are : length (encode ops) ≡ bytes
  pub operations_are : counted ops ≡ operations
  pub few : length ops ≤ most
  pub written : list_all is_written ops ≡ true

-- the same, by other names
sized_as : (ops : List Op) (a b c d e f : ℕ) → Sized ops a b c → a ≡ d → b ≡ e → c ≤ f → Sized ops d e f
sized_as ops a b c d e f s p q r =
    record { bytes_are = s.bytes_are ∙ p; operations_are = s.operations_are ∙ q; few = omega (arith, s.few); written = s.written }

sized_none : Sized [] 0 0 0
sized_none = record { bytes_are = refl; operations_are = refl; few = omega arith; written = refl }

sized_more : (op : Op) (ops : List Op) (a b c d e : ℕ) → length (encode_op op) ≡ a → counted_op op ≡ b → is_written op ≡ true
    → Sized ops c d e → Sized (op ∷ ops) (a + c) (b + d) (e + 1)
sized_more op ops a b c d e p q w s = record {
  bytes_are = length-append (encode_op op) (encode ops) ∙ omega (arith, p, s.bytes_are);
  operations_are = omega (arith, q, s.operations_are);
  few = omega (arith, s.few);
  written = and_from (is_written op) (list_all is_written ops) w s.written;
}

over_78 : (c : ℕ) → nat_lt 0x60 c ≡ true → nat_lt 78 c ≡ true
over_78 c h = grind arith

sized_code : (c : ℕ) (ops : List Op) (a b m : ℕ) → nat_lt 0x60 c ≡ true → is_some (opcode_of c) ≡ true → Sized ops a b m
    → Sized (Code c ∷ ops) (1 + a) (1 + b) (m + 1)
sized_code c ops a b m h k s =
    sized_more (Code c) ops 1 1 a b m refl (rw h) (and_from (nat_lt 78 c) (is_some (opcode_of c)) (over_78 c h) k) s

sized_append : (xs ys : List Op) (a b c d e f : ℕ) → Sized xs a b c → Sized ys d e f → Sized (xs ++ ys) (a + d) (b + e) (c + f)
sized_append [] ys a b c d e f s t = sized_as ys d e f (a + d) (b + e) (c + f) t (omega (arith, s.bytes_are)) (omega (arith, s.operations_are)) (omega arith)
sized_append (op ∷ xs) ys a b c d e f s t =
    let p = and_parts (is_written op) (list_all is_written xs) s.written in
    let rest = sized_append xs ys _ _ (length xs) d e f (record { bytes_are = refl; operations_are = refl; few = omega arith; written = p.1 }) t in
    sized_as (op ∷ (xs ++ ys)) _ _ _ (a + d) (b + e) (c + f)
    (sized_more op (xs ++ ys) _ _ _ _ _ refl refl p.0 rest)
    (omega (arith, s.bytes_are, length-append (encode_op op) (encode xs)))
    (omega (arith, s.operations_are))
    (omega (arith, s.few))

-- ---- pushes

last_length : (k n : ℕ) (negative : Bool) → n < 128 → length (signed_bytes (suc k) n negative) ≡ 1
unfolding signed_bytes
last_length k n negative h = let t : nat_lt n 128 ≡ true = grind arith in rw t

more_length : (k n : ℕ) (negative : Bool) → 128 ≤ n → length (signed_bytes (suc k) n negative) ≡ suc (length (signed_bytes k (n / 256) negative))
unfolding signed_bytes
more_length k n negative h = let t : nat_lt n 128 ≡ false = grind arith in rw t

item_length : (n : ℕ) (a b c : Bool) → 16 < n → n ≤ 2147483647 → nat_le n 127 ≡ a → nat_le n 32767 ≡ b → nat_le n 8388607 ≡ c
    → 1 + length (signed_bytes 9 n false) ≡ (if a then 2 else (if b then 3 else (if c then 4 else 5)))
item_length n true b c h m p q r = ap (λ k. 1 + k) (last_length 8 n false (grind arith))
item_length n false true c h m p q r =
    let k : 127 < n = grind arith in
    let l : n ≤ 32767 = grind arith in
    ap (λ k. 1 + k) (more_length 8 n false k ∙ ap suc (last_length 7 (n / 256) false (omega (arith, div-add-mod n 256))))
item_length n false false true h m p q r =
    let k : 32767 < n = grind arith in
    let l : n ≤ 8388607 = grind arith in
    let d = div-add-mod n 256 in
    let e = div-add-mod (n / 256) 256 in
    ap (λ k. 1 + k) (more_length 8 n false (omega arith)
    ∙ ap suc (more_length 7 (n / 256) false (omega (arith, d)) ∙ ap suc (last_length 6 (n / 256 / 256) false (omega (arith, d, e)))))
item_length n false false false h m p q r =
    let k : 8388607 < n = grind arith in
    let d = div-add-mod n 256 in
    let e = div-add-mod (n / 256) 256 in
    let f = div-add-mod (n / 256 / 256) 256 in
    ap (λ k. 1 + k) (more_length 8 n false (omega arith)
    ∙ ap suc (more_length 7 (n / 256) false (omega (arith, d))
    ∙ ap suc (more_length 6 (n / 256 / 256) false (omega (arith, d, e)) ∙ ap suc (last_length 5 (n / 256 / 256 / 256) false (omega (arith, d, e, f))))))

pub short_push : (item : List ℕ) → length item ≤ 75 → encode_op (Push item) ≡ length item ∷ item
short_push item h = let t : nat_le (length item) 75 ≡ true = grind arith in rw t

item_size : (n : ℕ) (b : Bool) → (n == 0) ≡ b → b ≡ false → item_of_number (pos n) ≡ signed_bytes 9 n false
unfolding item_of_number
item_size n b h k = rw (h ∙ k)

long_number : (n : ℕ) → nat_le n 16 ≡ false → n ≤ 2147483647 → 1 + length (item_of_number (pos n))
    ≡ (if nat_le n 127 then 2 else (if nat_le n 32767 then 3 else (if nat_le n 8388607 then 4 else 5)))
long_number n h m =
    let z : (n == 0) ≡ false = grind arith in
    rw (item_size n (n == 0) refl z) (item_length n (nat_le n 127) (nat_le n 32767) (nat_le n 8388607) (grind arith) m refl refl refl)

five_at_most : (a b c : Bool) → (if a then 2 else (if b then 3 else (if c then 4 else 5))) ≤ 5
five_at_most true b c = omega arith
five_at_most false true c = omega arith
five_at_most false false true = omega arith
five_at_most false false false = omega arith

-- what is to be known of a push of a number
record IsPush (op : Op) (bytes : ℕ) : Type 0 where
  size : length (encode_op op) ≡ bytes
  free : counted_op op ≡ 0
  written : is_written op ≡ true

is_push : (n : ℕ) → n ≤ 2147483647 → IsPush (push_number (pos n)) (push_len n)
is_push n m = by_zero (n == 0) refl
  where
    by_small : (b : Bool) → (n == 0) ≡ false → nat_le n 16 ≡ b
        → IsPush (if b then Code (80 + n) else Push (item_of_number (pos n)))
        (if b then 1 else (if nat_le n 127 then 2 else (if nat_le n 32767 then 3 else (if nat_le n 8388607 then 4 else 5))))
    by_small true h k =
        let free : nat_lt 0x60 (80 + n) ≡ false = grind arith in
        let over : nat_lt 78 (80 + n) ≡ true = grind arith in
        record { size = refl; free = rw free; written = rw (over, small_code n h k) }
    by_small false h k =
        let long = long_number n k m in
        let five = five_at_most (nat_le n 127) (nat_le n 32767) (nat_le n 8388607) in
        let short : length (item_of_number (pos n)) ≤ 75 = omega (arith, long, five) in
        record { size = ap length (short_push (item_of_number (pos n)) short) ∙ omega (arith, long); free = refl; written = grind (arith, short) }

    by_zero : (b : Bool) → (n == 0) ≡ b → IsPush (if b then Push [] else (if nat_le n 16 then Code (80 + n) else Push (item_of_number (pos n)))) (push_len n)
    by_zero true h = let e : n ≡ 0 = grind arith in rw e (record { size = refl; free = refl; written = refl })
    by_zero false h = by_small (nat_le n 16) h refl

sized_push : (n : ℕ) (ops : List Op) (a b m : ℕ) → n ≤ 2147483647 → Sized ops a b m → Sized (push_number (pos n) ∷ ops) (push_len n + a) b (m + 1)
sized_push n ops a b m h s =
    let p = is_push n h in
    sized_as (push_number (pos n) ∷ ops) _ _ _ (push_len n + a) b (m + 1)
    (sized_more (push_number (pos n)) ops _ _ _ _ _ p.size p.free p.written s) refl (omega arith) (omega arith)

-- ---- predicates

sized_two : (c : ℕ) (xs ys : List Op) (a b m d e n : ℕ) → nat_lt 0x60 c ≡ true → is_some (opcode_of c) ≡ true → Sized xs a b (2 * b + 1)
    → Sized ys d e (2 * e + 1) → Sized (xs ++ (ys ++ Code c ∷ [])) (a + d + 1) (b + e + 1) (2 * (b + e + 1) + 1)
sized_two c xs ys a b m d e n h k s t =
    sized_as _ _ _ _ _ _ _ (sized_append xs (ys ++ Code c ∷ []) a b (2 * b + 1) _ _ _ s
    (sized_append ys (Code c ∷ []) d e (2 * e + 1) _ _ _ t (sized_code c [] 0 0 0 h k sized_none))) (omega arith) (omega arith) (omega arith)

module _ (names : List (List ℕ)) where
  sized_formula : (e : Expr) (d : ℕ) → bound e ≤ 2147483647 → d + formula_operations e + length names ≤ 2147483647
      → Sized (formula_ops names d e) (formula_bytes names d e) (formula_operations e) (2 * formula_operations e + 1)
  sized_formula (constant n) d small low = sized_as _ _ _ _ _ _ _ (sized_push n [] 0 0 0 small sized_none) (omega arith) refl (omega arith)
  sized_formula (length_of a) d small low =
      sized_as _ _ _ _ _ _ _
      (sized_push (d + place_in names a) _ _ _ _ (omega (arith, place_within names a))
      (sized_code 0x79 _ _ _ _ refl refl (sized_push 16 _ _ _ _ (omega arith) (sized_code 0x94 [] 0 0 0 refl refl sized_none))))
      (omega arith) refl (omega arith)
  sized_formula (plus e f) d small low =
      sized_two 0x93 (formula_ops names d e) (formula_ops names (d + 1) f) _ _ 0 _ _ 0 refl refl
      (sized_formula e d (omega arith) (omega arith)) (sized_formula f (d + 1) (omega arith) (omega arith))
  sized_formula (minus e f) d small low =
      sized_two 0x94 (formula_ops names d e) (formula_ops names (d + 1) f) _ _ 0 _ _ 0 refl refl
      (sized_formula e d (omega arith) (omega arith)) (sized_formula f (d + 1) (omega arith) (omega arith))

  sized_compared : (c : ℕ) (e f : Expr) (d : ℕ) → nat_lt 0x60 c ≡ true → is_some (opcode_of c) ≡ true
      → (nat_le (bound e) 2147483647 && nat_le (bound f) 2147483647) ≡ true
      → d + (formula_operations e + formula_operations f + 1) + length names ≤ 2147483647
      → Sized (formula_ops names d e ++ (formula_ops names (d + 1) f ++ Code c ∷ []))
      (formula_bytes names d e + formula_bytes names (d + 1) f + 1) (formula_operations e + formula_operations f + 1)
      (2 * (formula_operations e + formula_operations f + 1) + 1)
  sized_compared c e f d h k small low =
      let s = and_parts (nat_le (bound e) 2147483647) (nat_le (bound f) 2147483647) small in
      sized_two c (formula_ops names d e) (formula_ops names (d + 1) f) _ _ 0 _ _ 0 h k
      (sized_formula e d (within_of_test _ _ s.0) (omega arith)) (sized_formula f (d + 1) (within_of_test _ _ s.1) (omega arith))

  sized_test : (p : Pred) (d : ℕ) → is_bounded p ≡ true → d + test_operations p + length names ≤ 2147483647
      → Sized (test_ops names d p) (test_bytes names d p) (test_operations p) (2 * test_operations p + 1)
  sized_test always d small low = record { bytes_are = refl; operations_are = refl; few = omega arith; written = refl }
  sized_test (negation p) d small low =
      sized_as _ _ _ _ _ _ _ (sized_append (test_ops names d p) (Code 0x91 ∷ []) _ _ _ _ _ _ (sized_test p d small (omega arith))
      (sized_code 0x91 [] 0 0 0 refl refl sized_none)) (omega arith) (omega arith) (omega arith)
  sized_test (both p q) d small low =
      let s = and_parts (is_bounded p) (is_bounded q) small in
      sized_two 0x9a (test_ops names d p) (test_ops names (d + 1) q) _ _ 0 _ _ 0 refl refl (sized_test p d s.0 (omega arith))
      (sized_test q (d + 1) s.1 (omega arith))
  sized_test (equal e f) d small low = sized_compared 0x9c e f d refl refl small low
  sized_test (less e f) d small low = sized_compared 0x9f e f d refl refl small low

-- ---- branches

copies_sized : (n c : ℕ) → nat_lt 0x60 c ≡ true → is_some (opcode_of c) ≡ true → Sized (replicate n (Code c)) n n n
copies_sized zero c h k = sized_none
copies_sized (suc n) c h k =
    sized_as _ _ _ _ _ _ _ (sized_code c (replicate n (Code c)) n n n h k (copies_sized n c h k)) (omega arith) (omega arith) (omega arith)

push_of : (k n : ℕ) (item : Item) (ops : List Op) (a b m : ℕ) → has_size n item ≡ true → n ≤ 75 → k ≡ 1 + n → Sized ops a b m
    → Sized (Push item ∷ ops) (k + a) b (m + 1)
push_of k n item ops a b m h le e s =
    let is : length item ≡ n = grind arith in
    let short : length item ≤ 75 = omega arith in
    sized_as _ _ _ _ (k + a) b (m + 1) (sized_more (Push item) ops k 0 a b m (ap length (short_push item short) ∙ omega (arith, is, e)) refl
    (grind (arith, short)) s) refl (omega arith) (omega arith)

reveal_sized : (digest : Item) → has_size 32 digest ≡ true → Sized (reveal_ops digest) 44 7 10
reveal_sized digest h =
    sized_as _ _ _ _ _ _ _
    (sized_code 0x82 _ _ _ _ refl refl (sized_code 0x76 _ _ _ _ refl refl
    (sized_push 16 _ _ _ _ (omega arith) (push_of 3 2 (9 ∷ (2 ∷ [])) _ _ _ _ refl (omega arith) refl
    (sized_code 0xa5 _ _ _ _ refl refl (sized_code 0x69 _ _ _ _ refl refl (sized_code 0x6b _ _ _ _ refl refl (sized_code 0xa8 _ _ _ _ refl refl
    (push_of 33 32 digest _ _ _ _ h (omega arith) refl (sized_code 0x88 [] 0 0 0 refl refl sized_none))))))))))
    refl refl (omega arith)

reveals_sized : (digests : List Item) → list_all (has_size 32) digests ≡ true
    → Sized (reveals_ops digests) (44 * length digests) (7 * length digests) (10 * length digests)
reveals_sized [] h = sized_none
reveals_sized (digest ∷ digests) h =
    let p = and_parts (has_size 32 digest) (list_all (has_size 32) digests) h in
    sized_as _ _ _ _ _ _ _ (sized_append (reveal_ops digest) (reveals_ops digests) 44 7 10 _ _ _ (reveal_sized digest p.0)
    (reveals_sized digests p.1)) (omega arith) (omega arith) (omega arith)

signed_sized : (keys : List Item) → list_all (has_size 33) keys ≡ true → Sized (signed_ops keys) (35 * length keys) (length keys) (2 * length keys)
signed_sized [] h = sized_none
signed_sized (key ∷ []) h =
    let p = and_parts (has_size 33 key) true h in
    sized_as _ _ _ _ _ _ _ (push_of 34 33 key _ _ _ _ p.0 (omega arith) refl (sized_code 0xac [] 0 0 0 refl refl sized_none)) (omega arith)
    (omega arith) (omega arith)
signed_sized (key ∷ (next ∷ keys)) h =
    let p = and_parts (has_size 33 key) (list_all (has_size 33) (next ∷ keys)) h in
    sized_as _ _ _ _ _ _ _ (push_of 34 33 key _ _ _ _ p.0 (omega arith) refl
    (sized_code 0xad _ _ _ _ refl refl (signed_sized (next ∷ keys) p.1))) (omega arith) (omega arith) (omega arith)

asks_sized : (names : List (List ℕ)) (digests : List Item) (test : Pred) → list_all (has_size 32) digests ≡ true → is_bounded test ≡ true
    → test_operations test + length names ≤ 2147483647
    → Sized (asks_secrets names digests test) (46 * length digests + test_bytes names 0 test + 1)
    (9 * length digests + test_operations test + 1) (2 * (9 * length digests + test_operations test + 1))
asks_sized names digests test h small low =
    sized_as _ _ _ _ _ _ _
    (sized_append (reveals_ops digests) _ _ _ _ _ _ _ (reveals_sized digests h)
    (sized_append (replicate (length digests) (Code 0x6c)) _ _ _ _ _ _ _ (copies_sized (length digests) 0x6c refl refl)
    (sized_append (test_ops names 0 test) (Code 0x69 ∷ replicate (length digests) (Code 0x75)) _ _ _ _ _ _ (sized_test names test 0 small (omega arith))
    (sized_code 0x69 _ _ _ _ refl refl (copies_sized (length digests) 0x75 refl refl)))))
    (omega arith) (omega arith) (omega arith)

secrets_sized : (names : List (List ℕ)) (digests : List Item) (test : Pred) → list_all (has_size 32) digests ≡ true → is_bounded test ≡ true
    → test_operations test + length names ≤ 2147483647
    → Sized (secrets_ops names digests test) (secrets_bytes names digests test) (secrets_operations digests test) (2 * secrets_operations digests test)
secrets_sized names [] test h small low = sized_none
secrets_sized names (digest ∷ digests) test h small low = asks_sized names (digest ∷ digests) test h small low

-- the parts of a branch have their sizes
pub record HasSizes (b : Demands) : Type 0 where
  pub digest_sizes : list_all (has_size 32) b.digests ≡ true
  pub key_sizes : list_all (has_size 33) b.keys ≡ true
  pub bounded : is_bounded b.test ≡ true
  pub low : test_operations b.test + length b.names ≤ 2147483647

abbrev pub AllHaveSizes : List Demands → Type 0
AllHaveSizes [] = Unit {0}
AllHaveSizes (b ∷ branches) = HasSizes b × AllHaveSizes branches

pub branch_sized : (b : Demands) → HasSizes b → Sized (branch_ops b) (branch_bytes b) (branch_operations b) (2 * branch_operations b)
branch_sized b h =
    sized_as _ _ _ _ _ _ _ (sized_append (secrets_ops b.names b.digests b.test) (signed_ops b.keys) _ _ _ _ _ _
    (secrets_sized b.names b.digests b.test h.digest_sizes h.bounded h.low) (signed_sized b.keys h.key_sizes)) refl refl (omega arith)

pub output_sized : (branches : List Demands) → AllHaveSizes branches
    → Sized (output_ops branches) (cost_bytes branches) (cost_operations branches) (2 * cost_operations branches)
output_sized [] h = sized_none
output_sized (b ∷ []) h = branch_sized b h.0
output_sized (b ∷ (next ∷ branches)) h =
    sized_as _ _ _ _ _ _ _
    (sized_code 0x63 _ _ _ _ refl refl (sized_append (branch_ops b) (Code 0x67 ∷ (output_ops (next ∷ branches) ++ Code 0x68 ∷ [])) _ _ _ _ _
    _ (branch_sized b h.0)
    (sized_code 0x67 _ _ _ _ refl refl (sized_append (output_ops (next ∷ branches)) (Code 0x68 ∷ []) _ _ _ _ _ _
    (output_sized (next ∷ branches) h.1) (sized_code 0x68 [] 0 0 0 refl refl sized_none)))))
    (omega arith) (omega arith) (omega arith)
