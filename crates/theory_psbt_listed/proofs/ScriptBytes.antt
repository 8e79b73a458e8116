-- The scripts of positions are of bytes, where the committed digests are: first by what a branch asks for, whatever its keys are.
use Rattle.std.proofs.Common.{◌≡◌, ℕ, zero, suc, ◌+◌, ◌/◌, ◌%◌, ◌<◌, ◌≤◌, List, [], ◌∷◌, length, map, Bool, true, false, refl, arith, lit<}
use Rattle.std.specs.Prelude.{pos, replicate, nat_le, nat_lt, ◌==◌, if◌then◌else◌}
use Rattle.std.specs.List.{list_all, AllByRecursion}
use Rattle.std.proofs.lemmas.Bool.{and_parts, leb-true}
use Rattle.std.proofs.lemmas.Bool.Decides.{nat_tests}
use Rattle.spec_data.specs.Hashes.{IsBytes, HashesBytes}
use Rattle.spec_data.proofs.ByteLemmas.{IsBytes-append}
use Rattle.spec_terms.specs.Term as term
use Rattle.spec_terms.specs.Term.{Contract, branches, Expr, constant, length_of, plus, minus, Pred, always, both, negation, equal, less}
use Rattle.spec_terms.specs.Core.{core, reveals_of}
use Rattle.spec_terms.specs.Cost.{place_in}
use Rattle.spec_terms.specs.declared.path.PathStep.{PathStep}
use Rattle.spec_bitcoin.specs.declared.script.Op.{Op}
use Rattle.spec_bitcoin.specs.declared.script.Op.TheVariants.{Push, Code}
use Rattle.spec_bitcoin.specs.Keys.{key_of, label_text}
use Rattle.spec_bitcoin.specs.Meaning.{is_short_push}
use Rattle.spec_bitcoin.specs.Numbers.{signed_bytes, item_of_number}
use Rattle.spec_bitcoin.specs.Scripts.{encode_op, encode, push_number}
use Rattle.spec_bitcoin.specs.Opcodes.{op_drop, op_fromaltstack}
use Rattle.spec_compiler.specs.Keyed.Instance as keyed
use Rattle.spec_compiler.specs.Instance.{Instance, people, branch_path, branch_label, branch_keys, position_demands, position_script}
use Rattle.spec_compiler.specs.Scripts.{formula_ops, test_ops, reveal_ops, reveals_ops, secrets_ops, signed_ops}
use Rattle.spec_compiler.specs.Scripts.{Demands, branch_ops, digest_of, output_ops, demands_from}
use Rattle.spec_compiler.specs.Statements.{IsCompiled}
use Rattle.theory_bitcoin.proofs.Exact.{bytes_none, bytes_cons}
use Rattle.theory_script.proofs.Scripts.Opened.{no_limit_met}
use Rattle.theory_psbt_listed.proofs.Digests.{BytesIn, all_joined, digest_bytes}

-- what the operation pushes is of bytes, or its code is a byte
abbrev pub PushesBytes : Op → Type 0
PushesBytes (Push item) = IsBytes item
PushesBytes (Code c) = c < 256

abbrev pub AllPush : List Op → Type 0
AllPush ops = AllByRecursion PushesBytes ops

-- ---- they are written as bytes

pushed : (item : List ℕ) → IsBytes item → length item ≤ 520 → IsBytes (encode_op (Push item))
pushed item h l = by_short (nat_le (length item) 75) refl
  where
    by_middle : (b : Bool) → nat_le (length item) 255 ≡ b
        → IsBytes (if b then 76 ∷ (length item ∷ item) else 77 ∷ ((length item % 256) ∷ ((length item / 256) ∷ item)))
    by_middle true e =
        let n = leb-true (length item) 255 e in
        bytes_cons 76 (length item ∷ item) (lit< tt) (bytes_cons (length item) item (omega (arith, n)) h)
    by_middle false e =
        let a = bytes_cons (length item / 256) item (omega (arith, l)) h in
        let b = bytes_cons (length item % 256) ((length item / 256) ∷ item) (omega arith) a in
        bytes_cons 77 ((length item % 256) ∷ ((length item / 256) ∷ item)) (lit< tt) b

    by_short : (b : Bool) → nat_le (length item) 75 ≡ b
        → IsBytes (if b then length item ∷ item else (
        if nat_le (length item) 255 then 76 ∷ (length item ∷ item) else 77 ∷ ((length item % 256) ∷ ((length item / 256) ∷ item))))
    by_short true e = let n = leb-true (length item) 75 e in bytes_cons (length item) item (omega (arith, n)) h
    by_short false e = by_middle (nat_le (length item) 255) refl

op_encoded : (op : Op) → PushesBytes op → is_short_push op ≡ true → IsBytes (encode_op op)
op_encoded (Code c) h s = bytes_cons c [] h bytes_none
op_encoded (Push item) h s = pushed item h (leb-true (length item) 520 s)

pub encoded : (ops : List Op) → AllPush ops → list_all is_short_push ops ≡ true → IsBytes (encode ops)
encoded [] h s = bytes_none
encoded (op ∷ ops) h s =
    let p = and_parts (is_short_push op) (list_all is_short_push ops) s in
    IsBytes-append (encode_op op) (encode ops) (op_encoded op h.0 p.0) (encoded ops h.1 p.1)

-- ---- numbers

signed_small : (k n : ℕ) → IsBytes (signed_bytes k n false)
unfolding signed_bytes
signed_small zero n = bytes_none
signed_small (suc k) n = by_test (nat_lt n 128) refl (signed_small k (n / 256))
  where
    by_test : (b : Bool) → nat_lt n 128 ≡ b → IsBytes (signed_bytes k (n / 256) false)
        → IsBytes (if b then (n + 0) ∷ [] else (n % 256) ∷ signed_bytes k (n / 256) false)
    by_test true e ih = let l : n < 128 = grind (arith, nat_tests, e) in bytes_cons (n + 0) [] (omega (arith, l)) bytes_none
    by_test false e ih = bytes_cons (n % 256) (signed_bytes k (n / 256) false) (omega arith) ih

item_small : (n : ℕ) → IsBytes (item_of_number (pos n))
unfolding item_of_number
item_small n = by_test (n == 0)
  where
    by_test : (b : Bool) → IsBytes (if b then [] else signed_bytes 9 n false)
    by_test true = bytes_none
    by_test false = signed_small 9 n

number_pushed : (n : ℕ) → PushesBytes (push_number (pos n))
number_pushed n = by_zero (n == 0)
  where
    by_small : (b : Bool) → nat_le n 16 ≡ b → PushesBytes (if b then Code (80 + n) else Push (item_of_number (pos n)))
    by_small true e = let l = leb-true n 16 e in omega (arith, l)
    by_small false e = item_small n

    by_zero : (b : Bool) → PushesBytes (if b then Push [] else (if nat_le n 16 then Code (80 + n) else Push (item_of_number (pos n))))
    by_zero true = bytes_none
    by_zero false = by_small (nat_le n 16) refl

-- ---- predicates

formula_pushes : (names : List (List ℕ)) (d : ℕ) (e : Expr) → AllPush (formula_ops names d e)
formula_pushes names d (constant n) = (number_pushed n, tt)
formula_pushes names d (length_of a) = (number_pushed (d + place_in names a), (lit< tt, (lit< tt, (lit< tt, tt))))
formula_pushes names d (plus e f) =
    all_joined PushesBytes (formula_ops names d e) _ (formula_pushes names d e)
    (all_joined PushesBytes (formula_ops names (d + 1) f) _ (formula_pushes names (d + 1) f) (lit< tt, tt))
formula_pushes names d (minus e f) =
    all_joined PushesBytes (formula_ops names d e) _ (formula_pushes names d e)
    (all_joined PushesBytes (formula_ops names (d + 1) f) _ (formula_pushes names (d + 1) f) (lit< tt, tt))

test_pushes : (names : List (List ℕ)) (d : ℕ) (p : Pred) → AllPush (test_ops names d p)
test_pushes names d always = (lit< tt, tt)
test_pushes names d (negation p) = all_joined PushesBytes (test_ops names d p) _ (test_pushes names d p) (lit< tt, tt)
test_pushes names d (both p q) =
    all_joined PushesBytes (test_ops names d p) _ (test_pushes names d p)
    (all_joined PushesBytes (test_ops names (d + 1) q) _ (test_pushes names (d + 1) q) (lit< tt, tt))
test_pushes names d (equal e f) =
    all_joined PushesBytes (formula_ops names d e) _ (formula_pushes names d e)
    (all_joined PushesBytes (formula_ops names (d + 1) f) _ (formula_pushes names (d + 1) f) (lit< tt, tt))
test_pushes names d (less e f) =
    all_joined PushesBytes (formula_ops names d e) _ (formula_pushes names d e)
    (all_joined PushesBytes (formula_ops names (d + 1) f) _ (formula_pushes names (d + 1) f) (lit< tt, tt))

-- ---- branches

abbrev pub AllBytes : List (List ℕ) → Type 0
AllBytes xs = AllByRecursion IsBytes xs

push_521_bytes : IsBytes (9 ∷ 2 ∷ [])
push_521_bytes = bytes_cons 9 (2 ∷ []) (lit< tt) (bytes_cons 2 [] (lit< tt) bytes_none)

reveals_push : (digests : List (List ℕ)) → AllBytes digests → AllPush (reveals_ops digests)
reveals_push [] h = tt
reveals_push (d ∷ ds) h =
    all_joined PushesBytes (reveal_ops d) (reveals_ops ds)
    (lit< tt, (lit< tt, (lit< tt, (push_521_bytes, (lit< tt, (lit< tt, (lit< tt, (lit< tt, (h.0, (lit< tt, tt))))))))))
    (reveals_push ds h.1)

copies_push : (n : ℕ) (op : Op) → PushesBytes op → AllPush (replicate n op)
copies_push zero op h = tt
copies_push (suc n) op h = (h, copies_push n op h)

secrets_push : (names digests : List (List ℕ)) (test : Pred) → AllBytes digests → AllPush (secrets_ops names digests test)
secrets_push names [] test h = tt
secrets_push names (d ∷ ds) test h =
    let n = length (d ∷ ds) in
    all_joined PushesBytes (reveals_ops (d ∷ ds)) _ (reveals_push (d ∷ ds) h)
    (all_joined PushesBytes (replicate n op_fromaltstack) _ (copies_push n op_fromaltstack (lit< tt))
    (all_joined PushesBytes (test_ops names 0 test) _ (test_pushes names 0 test)
    (lit< tt, copies_push n op_drop (lit< tt))))

signed_push : (keys : List (List ℕ)) → AllBytes keys → AllPush (signed_ops keys)
signed_push [] h = tt
signed_push (key ∷ []) h = (h.0, (lit< tt, tt))
signed_push (key ∷ (next ∷ keys)) h = (h.0, (lit< tt, signed_push (next ∷ keys) h.1))

-- what a branch asks for is of bytes
pub record IsOfBytes (d : Demands) : Type 0 where
  pub digests : AllBytes d.digests
  pub keys : AllBytes d.keys

branch_push : (d : Demands) → IsOfBytes d → AllPush (branch_ops d)
branch_push d h =
    all_joined PushesBytes (secrets_ops d.names d.digests d.test) (signed_ops d.keys) (secrets_push d.names d.digests d.test h.digests)
    (signed_push d.keys h.keys)

pub output_push : (ds : List Demands) → AllByRecursion IsOfBytes ds → AllPush (output_ops ds)
output_push [] h = tt
output_push (d ∷ []) h = branch_push d h.0
output_push (d ∷ (next ∷ ds)) h =
    let later = all_joined PushesBytes (output_ops (next ∷ ds)) _ (output_push (next ∷ ds) h.1) (lit< tt, tt) in
    (lit< tt, all_joined PushesBytes (branch_ops d) _ (branch_push d h.0) (lit< tt, later))

-- ---- positions

digests_bytes : (hashes : List (List ℕ × List ℕ)) (names : List (List ℕ)) → BytesIn hashes → AllBytes (map (digest_of hashes) names)
digests_bytes hashes [] h = tt
digests_bytes hashes (n ∷ names) h = (digest_bytes hashes n h, digests_bytes hashes names h)

pub demands_bytes : (keys : ℕ → List (List ℕ)) (hashes : List (List ℕ × List ℕ)) (i : ℕ) (bs : List term.Guarded)
    → ((j : ℕ) → AllBytes (keys j)) → BytesIn hashes → AllByRecursion IsOfBytes (demands_from keys hashes i bs)
demands_bytes keys hashes i [] k h = tt
demands_bytes keys hashes i (b ∷ bs) k h = (
  record { digests = digests_bytes hashes (reveals_of (core b)) h; keys = k i },
  demands_bytes keys hashes (i + 1) bs k h,
)

module _ (hash : List ℕ → List ℕ) (size : HashesBytes hash) (st : Instance) where
  keys_bytes : (path : List PathStep) (parties : List (List ℕ))
      → AllBytes (map (λ party. key_of hash (branch_label st.contract path party)) parties)
  keys_bytes path [] = tt
  keys_bytes path (a ∷ parties) =
      let text = label_text (branch_label st.contract path a) in
      (bytes_cons 2 (hash text) (lit< tt) (size.bytes text), keys_bytes path parties)

  -- the script of a checked contract's position is of at most 10,000 bytes
  pub script_bytes : BytesIn st.hashes → (q : List PathStep) (choice : Contract) → IsCompiled st q choice
      → IsBytes (position_script hash st q choice)
  unfolding keyed.position_script
  script_bytes h q choice is =
      let ops = output_ops (position_demands hash st q choice) in
      let keys = λ (i : ℕ). keys_bytes (branch_path q i) (people st) in
      let all = demands_bytes (λ i. branch_keys hash st (branch_path q i)) st.hashes 0 (branches choice) keys h in
      encoded ops (output_push (position_demands hash st q choice) all)
      (and_parts (list_all is_short_push ops) _ (no_limit_met hash st q choice size.size is).limits).0

  pub script_few : (q : List PathStep) (choice : Contract) → IsCompiled st q choice → length (position_script hash st q choice) ≤ 10000
  script_few q choice is = (no_limit_met hash st q choice size.size is).bytes
