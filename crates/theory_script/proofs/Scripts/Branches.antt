-- A branch's operations succeed exactly on the stacks that meet it.
use Rattle.std.proofs.Common.{◌≡◌, ℕ, zero, suc, ◌+◌, ◌-◌, ◌≤◌, List, [], ◌∷◌, ◌++◌, length, map, Bool, true, false, Option, Some, None, refl, sym, ap, ◌∙◌, arith}
use Rattle.std.specs.Prelude.{if◌then◌else◌, nat_le, ◌&&◌, ◌||◌, pos, slice_get, int_lt, int_le, replicate}
use Rattle.std.specs.Option.{option_and_then, option_map}
use Rattle.std.specs.List.{list_all}
use Rattle.std.specs.Str.{bytes_eq}
use Rattle.std.proofs.lemmas.Bool.{and_parts, and_from}
use Rattle.std.proofs.lemmas.Int.{ints}
use Rattle.spec_bitcoin.specs.declared.script.Op.{Op}
use Rattle.spec_bitcoin.specs.declared.script.Op.TheVariants.{Push, Code}
use Rattle.spec_bitcoin.specs.Numbers.{number_of_item, item_of_number, signed_bytes}
use Rattle.spec_bitcoin.specs.Effects.{Item, Stacks, item_of_bool, number_of_bool, truth}
use Rattle.spec_bitcoin.specs.Meaning.{succeeds}
use Rattle.spec_terms.specs.Term.{Pred}
use Rattle.spec_terms.specs.Value.{holds, length_in, length_or_zero}
use Rattle.spec_terms.specs.Bound.{is_bounded}
use Rattle.spec_terms.specs.Cost.{place_in}
use Rattle.spec_data.specs.Lists.{is_among, look_up}
use Rattle.spec_compiler.specs.Statements.{lengths_of}
use Rattle.theory_script.proofs.Scripts.Demanded.{covers_test}
use Rattle.spec_compiler.specs.Scripts.{test_ops, reveal_ops, reveals_ops, signed_ops, asks_secrets, secrets_ops}
use Rattle.theory_script.proofs.Sizes.Cost.{test_operations}
use Rattle.theory_script.proofs.NumberLemmas.{number_again}
use Rattle.theory_script.proofs.Scripts.Runs.{stacks, free_run, free_run-append, goes_on}
use Rattle.theory_script.proofs.Scripts.Predicates.{Sees, test_runs, within_of_test}

-- ---- what a branch asks of a stack, from its top

-- a secret of 16 to 520 bytes with this digest
abbrev pub is_fitting : (Item → Item) → Item → Item → Bool
is_fitting hash digest x = (nat_le 16 (length x) && nat_le (length x) 520) && bytes_eq (hash x) digest

-- the secrets on top fit the digests: their byte counts, and what is under them
abbrev pub taken : (Item → Item) → List Item → List Item → Option (List ℕ × List Item)
taken hash [] m = Some ([], m)
taken hash (digest ∷ digests) [] = None
taken hash (digest ∷ digests) (x ∷ m) =
    if is_fitting hash digest x then option_map (λ (p : List ℕ × List Item). (length x ∷ p.0, p.1)) (taken hash digests m) else None

-- the stack is one valid signature for each key
abbrev pub all_signed : (Item → Item → Bool) → List Item → List Item → Bool
all_signed valid [] [] = true
all_signed valid [] (x ∷ m) = false
all_signed valid (key ∷ keys) [] = false
all_signed valid (key ∷ keys) (x ∷ m) = valid x key && all_signed valid keys m

abbrev pub opens : (Item → Item → Bool) → List (List ℕ) → Pred → List Item → Option (List ℕ × List Item) → Bool
opens valid names test keys None = false
opens valid names test keys (Some p) = holds (lengths_of names p.0) test && all_signed valid keys p.1

abbrev pub meets : (Item → Item) → (Item → Item → Bool) → List (List ℕ) → List Item → Pred → List Item → List Item → Bool
meets hash valid names [] test keys m = all_signed valid keys m
meets hash valid names (digest ∷ digests) test keys m = opens valid names test keys (taken hash (digest ∷ digests) m)

-- ---- truth

pub truth_of_number : (b : Bool) → truth (item_of_number (number_of_bool b)) ≡ b
unfolding item_of_number signed_bytes
truth_of_number true = refl
truth_of_number false = refl

pub truth_of_bool : (b : Bool) → truth (item_of_bool b) ≡ b
truth_of_bool true = refl
truth_of_bool false = refl

number_521 : number_of_item (9 ∷ (2 ∷ [])) ≡ Some (pos 521)
unfolding number_of_item
number_521 = refl

within_is : (n : ℕ) → (int_le (pos 16) (pos n) && int_lt (pos n) (pos 521)) ≡ (nat_le 16 n && nat_le n 520)
within_is n = grind (arith, ints)

verified : (b : Bool) (m alt : List Item)
    → option_and_then (λ (s : Stacks). Some s) (option_map (λ (n : List Item). stacks n alt) (if b then Some m else None))
    ≡ (if b then Some (stacks m alt) else None)
verified true m alt = refl
verified false m alt = refl

replicate-more : {X : Type 0} (n : ℕ) (x : X) → replicate (suc n) x ≡ replicate n x ++ x ∷ []
replicate-more zero x = refl
replicate-more (suc n) x = ap (λ xs. x ∷ xs) (replicate-more n x)

-- the byte counts on the other stack, the last on top
abbrev moved : List ℕ → List Item → List Item
moved [] alt = alt
moved (n ∷ ns) alt = moved ns (item_of_number (pos n) ∷ alt)

abbrev items : List ℕ → List Item
items ns = map (λ (n : ℕ). item_of_number (pos n)) ns

two_tests : {X : Type 0} (a b : Bool) (x : X) → (if a then (if b then Some x else None) else None) ≡ (if a && b then Some x else None)
two_tests true b x = refl
two_tests false b x = refl

option_test : (b : Bool) (n : ℕ) (alt : List Item) (o : Option (List ℕ × List Item))
    → (if b then option_map (λ (p : List ℕ × List Item). stacks p.1 (moved p.0 (item_of_number (pos n) ∷ alt))) o else None)
    ≡ option_map (λ (p : List ℕ × List Item). stacks p.1 (moved p.0 alt)) (if b then option_map (λ (p : List ℕ × List Item). (n ∷ p.0, p.1)) o else None)
option_test true n alt None = refl
option_test true n alt (Some p) = refl
option_test false n alt o = refl

signed_test : (b : Bool) (f : Stacks → Option Stacks) (m alt : List Item) (c : Bool) → succeeds (f (stacks m alt)) ≡ c
    → succeeds (option_and_then f (option_map (λ (n : List Item). stacks n alt) (if b then Some m else None))) ≡ (b && c)
signed_test true f m alt c h = h
signed_test false f m alt c h = refl

-- the two halves of what is asked of a secret
abbrev size_half : List Op
size_half = Code 0x82 ∷ (Code 0x76 ∷ (Code 0x60 ∷ (Push (9 ∷ (2 ∷ [])) ∷ (Code 0xa5 ∷ (Code 0x69 ∷ [])))))

abbrev digest_half : Item → List Op
digest_half digest = Code 0x6b ∷ (Code 0xa8 ∷ (Push digest ∷ (Code 0x88 ∷ [])))

module _ (hash : Item → Item) (valid : Item → Item → Bool) where
  -- operations that lead somewhere where a test holds, and others after them
  goes_if : (xs ys : List Op) (s t : Stacks) (b : Bool) → free_run hash valid xs s ≡ (if b then Some t else None)
      → free_run hash valid (xs ++ ys) s ≡ (if b then free_run hash valid ys t else None)
  goes_if xs ys s t true h = goes_on hash valid xs ys s t h
  goes_if xs ys s t false h = rw (free_run-append hash valid xs ys s, h)

  -- ---- the secrets
  size_runs : (x : Item) (m alt : List Item) → length x ≤ 520 → free_run hash valid size_half (stacks (x ∷ m) alt)
      ≡ (if nat_le 16 (length x) && nat_le (length x) 520 then Some (stacks (item_of_number (pos (length x)) ∷ (x ∷ m)) alt) else None)
  size_runs x m alt short =
      rw (
        number_again (pos (length x)) (omega arith),
        number_again (pos 16) (omega arith),
        number_521,
        within_is
            (length x),
        truth_of_number (nat_le 16 (length x) && nat_le (length x) 520),
      )
      (verified (nat_le 16 (length x) && nat_le (length x) 520) _ _)

  digest_runs : (digest x n : Item) (m alt : List Item) → free_run hash valid (digest_half digest) (stacks (n ∷ (x ∷ m)) alt)
      ≡ (if bytes_eq (hash x) digest then Some (stacks m (n ∷ alt)) else None)
  digest_runs digest x n m alt = rw (truth_of_bool (bytes_eq (hash x) digest)) (verified (bytes_eq (hash x) digest) _ _)

  reveal_runs : (digest x : Item) (m alt : List Item) → length x ≤ 520 → free_run hash valid (reveal_ops digest) (stacks (x ∷ m) alt)
      ≡ (if is_fitting hash digest x then Some (stacks m (item_of_number (pos (length x)) ∷ alt)) else None)
  reveal_runs digest x m alt short =
      goes_if size_half (digest_half digest) (stacks (x ∷ m) alt) _ (nat_le 16 (length x) && nat_le (length x) 520) (size_runs x m alt short)
      ∙ rw (digest_runs digest x (item_of_number (pos (length x))) m alt)
      (two_tests (nat_le 16 (length x) && nat_le (length x) 520) (bytes_eq (hash x) digest) _)

  pub reveals_run : (digests m alt : List Item) → list_all (λ (x : Item). nat_le (length x) 520) m ≡ true
      → free_run hash valid (reveals_ops digests) (stacks m alt) ≡ option_map (λ (p : List ℕ × List Item). stacks p.1 (moved p.0 alt)) (taken hash digests m)
  reveals_run [] m alt short = refl
  reveals_run (digest ∷ digests) [] alt short = refl
  reveals_run (digest ∷ digests) (x ∷ m) alt short =
      let s = and_parts (nat_le (length x) 520) (list_all (λ (x : Item). nat_le (length x) 520) m) short in
      let first = reveal_runs digest x m alt (within_of_test (length x) 520 s.0) in
      let ih = reveals_run digests m (item_of_number (pos (length x)) ∷ alt) s.1 in
      goes_if (reveal_ops digest) (reveals_ops digests) (stacks (x ∷ m) alt) _ (is_fitting hash digest x) first
      ∙ rw ih (option_test (is_fitting hash digest x) (length x) alt (taken hash digests m))

  -- ---- the lengths come back, and go
  pub come_back : (ns : List ℕ) (m alt : List Item) → free_run hash valid (replicate (length ns) (Code 0x6c)) (stacks m (moved ns alt))
      ≡ Some (stacks (items ns ++ m) alt)
  come_back [] m alt = refl
  come_back (n ∷ ns) m alt =
      ap (λ (ops : List Op). free_run hash valid ops (stacks m (moved (n ∷ ns) alt))) (replicate-more (length ns) (Code 0x6c))
      ∙ (goes_on hash valid (replicate (length ns) (Code 0x6c)) (Code 0x6c ∷ []) _ _ (come_back ns m (item_of_number (pos n) ∷ alt)))

  pub go : (ns : List ℕ) (m alt : List Item) → free_run hash valid (replicate (length ns) (Code 0x75)) (stacks (items ns ++ m) alt) ≡ Some (stacks m alt)
  go [] m alt = refl
  go (n ∷ ns) m alt = go ns m alt

  -- ---- the signatures
  pub signed_run : (key : Item) (keys m alt : List Item) → succeeds (free_run hash valid (signed_ops (key ∷ keys)) (stacks m alt))
      ≡ all_signed valid (key ∷ keys) m
  signed_run key [] [] alt = refl
  signed_run key [] (x ∷ []) alt = grind (arith, truth_of_bool (valid x key))
  signed_run key [] (x ∷ (y ∷ m)) alt = grind arith
  signed_run key (next ∷ keys) [] alt = refl
  signed_run key (next ∷ keys) (x ∷ m) alt =
      let ih = signed_run next keys m alt in
      rw (truth_of_bool (valid x key)) (signed_test (valid x key) _ m alt _ ih)

-- ---- what is taken

abbrev pub is_count : ℕ → Bool
is_count n = nat_le 16 n && nat_le n 520

-- as many byte counts as digests, each from 16 to 520
abbrev pub AreTaken : List Item → Option (List ℕ × List Item) → Type 0
AreTaken digests None = Unit {0}
AreTaken digests (Some p) = (length p.0 ≡ length digests) × (list_all is_count p.0 ≡ true)

taken_one : (hash : Item → Item) (digest x : Item) (digests : List Item) (b : Bool) (o : Option (List ℕ × List Item))
    → is_fitting hash digest x ≡ b → AreTaken digests o
    → AreTaken (digest ∷ digests) (if b then option_map (λ (p : List ℕ × List Item). (length x ∷ p.0, p.1)) o else None)
taken_one hash digest x digests true None h t = tt
taken_one hash digest x digests true (Some p) h t =
    let f = and_parts (is_count (length x)) (bytes_eq (hash x) digest) h in
    (ap suc t.0, and_from (is_count (length x)) (list_all is_count p.0) f.0 t.1)
taken_one hash digest x digests false o h t = tt

pub are_taken : (hash : Item → Item) (digests m : List Item) → AreTaken digests (taken hash digests m)
are_taken hash [] m = (refl, refl)
are_taken hash (digest ∷ digests) [] = tt
are_taken hash (digest ∷ digests) (x ∷ m) = taken_one hash digest x digests (is_fitting hash digest x) (taken hash digests m) refl (are_taken hash digests m)

count_within : (n : ℕ) → is_count n ≡ true → (16 ≤ n) × (n ≤ 520)
count_within n h = let p = and_parts (nat_le 16 n) (nat_le n 520) h in (within_of_test 16 n p.0, within_of_test n 520 p.1)

count_test : (t : Bool) (n : ℕ) (o : Option ℕ) → n ≤ 520 → length_or_zero o ≤ 504 → length_or_zero (if t then Some (n - 16) else o) ≤ 504
count_test true n o u v = omega arith
count_test false n o u v = v

pub lengths_short : (names : List (List ℕ)) (ns : List ℕ) → list_all is_count ns ≡ true → (a : List ℕ) → length_in (lengths_of names ns) a ≤ 504
lengths_short [] ns h a = omega arith
lengths_short (b ∷ names) [] h a = omega arith
lengths_short (b ∷ names) (n ∷ ns) h a =
    let p = and_parts (is_count n) (list_all is_count ns) h in
    count_test (bytes_eq b a) n (look_up a (lengths_of names ns)) (count_within n p.0).1 (lengths_short names ns p.1 a)

seen_test : (t : Bool) (n k : ℕ) (o : Option ℕ) (xs : List Item) → 16 ≤ n
    → (t ≡ false → slice_get xs k ≡ Some (item_of_number (pos (length_or_zero o + 16))))
    → slice_get (item_of_number (pos n) ∷ xs) (if t then 0 else (k + 1)) ≡ Some (item_of_number (pos (length_or_zero (if t then Some (n - 16) else o) + 16)))
seen_test true n k o xs h ih = ap (λ j. Some (item_of_number (pos j))) (omega arith)
seen_test false n k o xs h ih = let e : k + 1 ≡ suc k = omega arith in rw e (ih refl)

other_name : (t u : Bool) → (t || u) ≡ true → t ≡ false → u ≡ true
other_name true u h e = cc
other_name false u h e = h

seen_at : (names : List (List ℕ)) (ns : List ℕ) (m : List Item) (a : List ℕ) → length names ≡ length ns → list_all is_count ns ≡ true
    → is_among a names ≡ true → slice_get (items ns ++ m) (place_in names a) ≡ Some (item_of_number (pos (length_in (lengths_of names ns) a + 16)))
seen_at [] ns m a e h known = cc
seen_at (b ∷ names) [] m a e h known = cc
seen_at (b ∷ names) (n ∷ ns) m a e h known =
    let p = and_parts (is_count n) (list_all is_count ns) h in
    seen_test (bytes_eq b a) n (place_in names a) (look_up a (lengths_of names ns)) (items ns ++ m) (count_within n p.0).0
    (λ f. seen_at names ns m a (omega (arith, e)) p.1 (other_name (bytes_eq b a) (is_among a names) known f))

seen : (names : List (List ℕ)) (ns : List ℕ) (m : List Item) → length names ≡ length ns → list_all is_count ns ≡ true
    → Sees names (lengths_of names ns) 0 (items ns ++ m)
seen names ns m e h = record { at = λ a known. let z : 0 + place_in names a ≡ place_in names a = omega arith in rw z (seen_at names ns m a e h known) }

-- ---- a branch

-- what the operations of a branch ask of it
pub record IsWritable (names : List (List ℕ)) (digests : List Item) (test : Pred) : Type 0 where
  pub same_length : length names ≡ length digests
  pub known : covers_test names test ≡ true
  pub bounded : is_bounded test ≡ true
  pub low : test_operations test + length names ≤ 2147483647

abbrev asked : List (List ℕ) → Pred → List Item → Option (List ℕ × List Item) → Option Stacks
asked names test alt None = None
asked names test alt (Some p) = if holds (lengths_of names p.0) test then Some (stacks p.1 alt) else None

module _ (hash : Item → Item) (valid : Item → Item → Bool)
    (names : List (List ℕ)) (digests : List Item) (test : Pred) (writable : IsWritable names digests test) where
  verify_runs : (b : Bool) (m alt : List Item) → free_run hash valid (Code 0x69 ∷ []) (stacks (item_of_number (number_of_bool b) ∷ m) alt)
      ≡ (if b then Some (stacks m alt) else None)
  verify_runs b m alt = rw (truth_of_number b) (verified b m alt)

  after_reveals : (ns : List ℕ) (m alt : List Item) → length ns ≡ length digests → list_all is_count ns ≡ true
      → free_run hash valid (replicate (length digests) (Code 0x6c)
      ++ (test_ops names 0 test ++ Code 0x69 ∷ replicate (length digests) (Code 0x75))) (stacks m (moved ns alt))
      ≡ (if holds (lengths_of names ns) test then Some (stacks m alt) else None)
  after_reveals ns m alt e h =
      rw (← e)
      (goes_on hash valid (replicate (length ns) (Code 0x6c)) (test_ops names 0 test ++ Code 0x69 ∷ replicate (length ns) (Code 0x75)) _ _
      (come_back hash valid ns m alt)
      ∙ goes_on hash valid (test_ops names 0 test) (Code 0x69 ∷ replicate (length ns) (Code 0x75)) _ _
      (test_runs hash valid names (lengths_of names ns) (lengths_short names ns h) test 0 (items ns ++ m) alt writable.known
      writable.bounded (omega (arith, writable.low)) (seen names ns m (writable.same_length ∙ sym e) h))
      ∙ goes_if hash valid (Code 0x69 ∷ []) (replicate (length ns) (Code 0x75))
      (stacks (item_of_number (number_of_bool (holds (lengths_of names ns) test)) ∷ (items ns ++ m)) alt) _
      (holds (lengths_of names ns) test) (verify_runs (holds (lengths_of names ns) test) (items ns ++ m) alt)
      ∙ ap (λ (o : Option Stacks). if holds (lengths_of names ns) test then o else None) (go hash valid ns m alt))

  secrets_on : (o : Option (List ℕ × List Item)) (alt : List Item) → AreTaken digests o
      → option_and_then (free_run hash valid (replicate (length digests) (Code 0x6c)
      ++ (test_ops names 0 test ++ Code 0x69 ∷ replicate (length digests) (Code 0x75))))
      (option_map (λ (p : List ℕ × List Item). stacks p.1 (moved p.0 alt)) o) ≡ asked names test alt o
  secrets_on None alt t = refl
  secrets_on (Some p) alt t = after_reveals p.0 p.1 alt t.0 t.1

  pub secrets_run : (m alt : List Item) → list_all (λ (x : Item). nat_le (length x) 520) m ≡ true
      → free_run hash valid (asks_secrets names digests test) (stacks m alt) ≡ asked names test alt (taken hash digests m)
  secrets_run m alt short =
      free_run-append hash valid (reveals_ops digests) _ (stacks m alt)
      ∙ rw (reveals_run hash valid digests m alt short) (secrets_on (taken hash digests m) alt (are_taken hash digests m))

  opens_run : (key : Item) (keys alt : List Item) (o : Option (List ℕ × List Item))
      → succeeds (option_and_then (free_run hash valid (signed_ops (key ∷ keys))) (asked names test alt o)) ≡ opens valid names test (key ∷ keys) o
  opens_run key keys alt None = refl
  opens_run key keys alt (Some p) = by_test (holds (lengths_of names p.0) test)
    where
      by_test : (b : Bool) → succeeds (option_and_then (free_run hash valid (signed_ops (key ∷ keys)))
          (if b then Some (stacks p.1 alt) else None)) ≡ (b && all_signed valid (key ∷ keys) p.1)
      by_test true = signed_run hash valid key keys p.1 alt
      by_test false = refl

pub branch_runs : (hash : Item → Item) (valid : Item → Item → Bool) (names : List (List ℕ)) (digests : List Item) (test : Pred) (key : Item)
    (keys m alt : List Item) → IsWritable names digests test → list_all (λ (x : Item). nat_le (length x) 520) m ≡ true
    → succeeds (free_run hash valid (secrets_ops names digests test ++ signed_ops (key ∷ keys)) (stacks m alt))
    ≡ meets hash valid names digests test (key ∷ keys) m
branch_runs hash valid names [] test key keys m alt w short = signed_run hash valid key keys m alt
branch_runs hash valid names (digest ∷ digests) test key keys m alt w short =
    ap succeeds (free_run-append hash valid (asks_secrets names (digest ∷ digests) test) (signed_ops (key ∷ keys)) (stacks m alt))
    ∙ rw (secrets_run hash valid names (digest ∷ digests) test w m alt short)
    (opens_run hash valid names (digest ∷ digests) test w key keys alt (taken hash (digest ∷ digests) m))
