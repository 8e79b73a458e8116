-- The records of an input: they ascend, and what each key finds among them.
use Rattle.std.proofs.Common.{◌≡◌, ℕ, List, [], ◌∷◌, ◌++◌, map, Bool, true, false, eqb, Option, Some, None, refl, sym, ap, ◌∙◌}
use Rattle.std.specs.Prelude.{if◌then◌else◌}
use Rattle.std.specs.Option.{option_map, option_or}
use Rattle.std.specs.Str.{bytes_eq}
use Rattle.std.proofs.lemmas.Bool.{eqb-true}
use Rattle.spec_data.specs.Lists.{look_up, is_among, are_different}
use Rattle.spec_terms.specs.Precondition.{names_of}
use Rattle.spec_bitcoin.specs.Spelling.{output_bytes, witness_bytes}
use Rattle.spec_tool.specs.declared.psbt.PsbtInput.{PsbtInput}
use Rattle.spec_tool.specs.Psbt.{Pairing, is_before, are_ascending, all_type, type_of, key_behind_type, insert_signature, signatures_of}
use Rattle.spec_tool.specs.PsbtBytes.{part, as_it_is, all_part, input_records}
use Rattle.theory_text.proofs.ListFacts.{and_left, and_right, not_yes}
use Rattle.theory_psbt.proofs.Order.{Before, same_bytes, ascend_with, first_before, others_ascend, ascending_different}
use Rattle.theory_psbt.proofs.Signatures.{look_none, none_among, put_ascends, put_found}

-- ---- signatures among records

-- the signatures of these records ascend, and each key finds what its record says
pub record Signed (records : List Pairing) : Type 0 where
  pub ascend : are_ascending (names_of (signatures_of records)) ≡ true
  pub found : (key : List ℕ) → look_up key (signatures_of records) ≡ look_up (2 ∷ key) records

-- a key of another type isn't that of a signature
pub other_type : (key text : List ℕ) (value : List ℕ) → eqb (type_of (text, value)) 2 ≡ false → bytes_eq text (2 ∷ key) ≡ false
other_type key [] value h = refl
other_type key (t ∷ text) value h = rw h refl

pub signature_type : (key text : List ℕ) (value : List ℕ) → eqb (type_of (text, value)) 2 ≡ true → bytes_eq text (2 ∷ key) ≡ bytes_eq (key_behind_type text) key
signature_type key [] value h = absurd cc
signature_type key (t ∷ text) value h = rw h refl

pub whole_key : (text : List ℕ) (value : List ℕ) → eqb (type_of (text, value)) 2 ≡ true → 2 ∷ key_behind_type text ≡ text
whole_key [] value h = absurd cc
whole_key (t ∷ text) value h = ap (λ (x : ℕ). x ∷ text) (sym (eqb-true t 2 h))

signed_more : (r : Pairing) (rs : List Pairing) → is_among (r.0) (names_of rs) ≡ false → Signed rs → (t : Bool) → eqb (type_of r) 2 ≡ t → Signed (r ∷ rs)
signed_more r rs new later true e =
    let key = key_behind_type (r.0) in
    let absent : look_up key (signatures_of rs) ≡ None =
    later.found key ∙ ap (λ (k : List ℕ). look_up k rs) (whole_key (r.0) (r.1) e) ∙ look_none (r.0) rs new in
    let apart = none_among key (signatures_of rs) absent in
    let is : signatures_of (r ∷ rs) ≡ insert_signature (key, r.1) (signatures_of rs) = rw e refl in
    record {
      ascend = rw is (put_ascends (key, r.1) (signatures_of rs) later.ascend apart);
      found = λ k. ap (look_up k) is ∙ put_found k (key, r.1) (signatures_of rs) apart ∙ rw (later.found k, signature_type k (r.0) (r.1) e) refl;
    }
signed_more r rs new later false e =
    let is : signatures_of (r ∷ rs) ≡ signatures_of rs = rw e refl in
    record { ascend = rw is later.ascend; found = λ k. ap (look_up k) is ∙ later.found k ∙ rw (other_type k (r.0) (r.1) e) refl }

pub signed : (records : List Pairing) → are_different (names_of records) ≡ true → Signed records
signed [] h = record { ascend = refl; found = λ key. refl }
signed (r ∷ rs) h = signed_more r rs (not_yes _ (and_left _ _ h)) (signed rs (and_right _ _ h)) (eqb (type_of r) 2) refl

-- ---- what is found among records of two lists

pub look_joined : (key : List ℕ) (xs ys : List Pairing) → look_up key (xs ++ ys) ≡ option_or (look_up key xs) (look_up key ys)
look_joined key [] ys = refl
look_joined key (x ∷ xs) ys = by_key (bytes_eq (x.0) key) (look_joined key xs ys)
  where
    by_key : (t : Bool) → look_up key (xs ++ ys) ≡ option_or (look_up key xs) (look_up key ys)
        → (if t then Some (x.1) else look_up key (xs ++ ys)) ≡ option_or (if t then Some (x.1) else look_up key xs) (look_up key ys)
    by_key true later = refl
    by_key false later = later

look_part : {A : Type 0} (t : ℕ) (spell : A → List ℕ) (o : Option A) → bytes_eq (t ∷ []) (t ∷ []) ≡ true → look_up (t ∷ []) (part t spell o)
    ≡ option_map spell o
look_part t spell (Some a) h = rw h refl
look_part t spell None h = refl

look_other_part : {A : Type 0} (key : List ℕ) (t : ℕ) (spell : A → List ℕ) (o : Option A) → bytes_eq (t ∷ []) key ≡ false → look_up key (part t spell o) ≡ None
look_other_part key t spell (Some a) h = rw h refl
look_other_part key t spell None h = refl

look_all : (all : Bool) → look_up (3 ∷ []) (all_part all) ≡ (if all then Some all_type else None)
look_all true = refl
look_all false = refl

look_other_all : (key : List ℕ) (all : Bool) → bytes_eq (3 ∷ []) key ≡ false → look_up key (all_part all) ≡ None
look_other_all key true h = rw h refl
look_other_all key false h = refl

abbrev pub as_record : Pairing → Pairing
as_record p = (2 ∷ p.0, p.1)

look_signature : (key : List ℕ) (ps : List Pairing) → look_up (2 ∷ key) (map {B = Pairing} (λ p. (2 ∷ p.0, p.1)) ps) ≡ look_up key ps
look_signature key [] = refl
look_signature key (p ∷ ps) = ap (λ (o : Option (List ℕ)). if bytes_eq (p.0) key then Some (p.1) else o) (look_signature key ps)

no_signature : (key : List ℕ) (ps : List Pairing) → ((k : List ℕ) → bytes_eq (2 ∷ k) key ≡ false)
    → look_up key (map {B = Pairing} (λ p. (2 ∷ p.0, p.1)) ps) ≡ None
no_signature key [] h = refl
no_signature key (p ∷ ps) h = rw (h (p.0)) (no_signature key ps h)

-- what a key finds in each part
found_parts : (key : List ℕ) (i : PsbtInput) → look_up key (input_records i) ≡ option_or (look_up key (part 1 output_bytes i.spent)) (
    option_or (look_up key (map {B = Pairing} (λ p. (2 ∷ p.0, p.1)) i.partial)) (
    option_or (look_up key (all_part i.all)) (option_or (look_up key (part 5 as_it_is i.script)) (look_up key (part 8 witness_bytes i.witness)))))
found_parts key i =
    look_joined key (part 1 output_bytes i.spent) _
    ∙ ap (λ (o : Option (List ℕ)). option_or (look_up key (part 1 output_bytes i.spent)) o) (
    look_joined key (map {B = Pairing} (λ p. (2 ∷ p.0, p.1)) i.partial) _
    ∙ ap (λ (o : Option (List ℕ)). option_or (look_up key (map {B = Pairing} (λ p. (2 ∷ p.0, p.1)) i.partial)) o) (
    look_joined key (all_part i.all) _
    ∙ ap (λ (o : Option (List ℕ)). option_or (look_up key (all_part i.all)) o) (look_joined key (part 5 as_it_is i.script) (part 8 witness_bytes i.witness))))

or_none : (o : Option (List ℕ)) → option_or o None ≡ o
or_none (Some x) = refl
or_none None = refl

as_is : (o : Option (List ℕ)) → option_map as_it_is o ≡ o
as_is (Some x) = refl
as_is None = refl

pub found_spent : (i : PsbtInput) → look_up (1 ∷ []) (input_records i) ≡ option_map output_bytes i.spent
found_spent i =
    found_parts (1 ∷ []) i
    ∙ rw (
      look_part 1 output_bytes i.spent refl,
      no_signature (1 ∷ []) i.partial (λ k. refl),
      look_other_all (1 ∷ []) i.all
          refl,
      look_other_part (1 ∷ []) 5 as_it_is i.script refl,
      look_other_part (1 ∷ []) 8 witness_bytes i.witness refl,
    ) (or_none _)

pub found_signature : (key : List ℕ) (i : PsbtInput) → look_up (2 ∷ key) (input_records i) ≡ look_up key i.partial
found_signature key i =
    found_parts (2 ∷ key) i
    ∙ rw (
      look_other_part (2 ∷ key) 1 output_bytes i.spent refl,
      look_signature key i.partial,
      look_other_all (2 ∷ key) i.all
          refl,
      look_other_part (2 ∷ key) 5 as_it_is i.script refl,
      look_other_part (2 ∷ key) 8 witness_bytes i.witness refl,
    ) (or_none _)

pub found_all : (i : PsbtInput) → look_up (3 ∷ []) (input_records i) ≡ (if i.all then Some all_type else None)
found_all i =
    found_parts (3 ∷ []) i
    ∙ rw (
      look_other_part (3 ∷ []) 1 output_bytes i.spent refl,
      no_signature (3 ∷ []) i.partial (λ k. refl),
      look_all i.all,
      look_other_part
          (3 ∷ []) 5 as_it_is i.script refl,
      look_other_part (3 ∷ []) 8 witness_bytes i.witness refl,
    ) (or_none _)

pub found_script : (i : PsbtInput) → look_up (5 ∷ []) (input_records i) ≡ i.script
found_script i =
    found_parts (5 ∷ []) i
    ∙ rw (
      look_other_part (5 ∷ []) 1 output_bytes i.spent refl,
      no_signature (5 ∷ []) i.partial (λ k. refl),
      look_other_all (5 ∷ []) i.all
          refl,
      look_part 5 as_it_is i.script refl,
      look_other_part (5 ∷ []) 8 witness_bytes i.witness refl,
    ) (or_none _ ∙ as_is i.script)

pub found_witness : (i : PsbtInput) → look_up (8 ∷ []) (input_records i) ≡ option_map witness_bytes i.witness
found_witness i =
    found_parts (8 ∷ []) i
    ∙ rw (
      look_other_part (8 ∷ []) 1 output_bytes i.spent refl,
      no_signature (8 ∷ []) i.partial (λ k. refl),
      look_other_all (8 ∷ []) i.all
          refl,
      look_other_part (8 ∷ []) 5 as_it_is i.script refl,
      look_part 8 witness_bytes i.witness refl,
    ) refl

-- a key that is that of no part
pub record IsForeign (key : List ℕ) : Type 0 where
  pub spent : bytes_eq (1 ∷ []) key ≡ false
  pub signature : (k : List ℕ) → bytes_eq (2 ∷ k) key ≡ false
  pub all : bytes_eq (3 ∷ []) key ≡ false
  pub script : bytes_eq (5 ∷ []) key ≡ false
  pub witness : bytes_eq (8 ∷ []) key ≡ false

pub found_none : (key : List ℕ) (i : PsbtInput) → IsForeign key → look_up key (input_records i) ≡ None
found_none key i h =
    found_parts key i
    ∙ rw (
      look_other_part key 1 output_bytes i.spent h.spent,
      no_signature key i.partial h.signature,
      look_other_all key i.all
          h.all,
      look_other_part key 5 as_it_is i.script h.script,
      look_other_part key 8 witness_bytes i.witness h.witness,
    ) refl

-- which part a key is that of
pub data Part_of (key : List ℕ) : Type 0 where
  spent : 1 ∷ [] ≡ key → Part_of key
  signature : (k : List ℕ) → 2 ∷ k ≡ key → Part_of key
  all : 3 ∷ [] ≡ key → Part_of key
  script : 5 ∷ [] ≡ key → Part_of key
  witness : 8 ∷ [] ≡ key → Part_of key
  foreign : IsForeign key → Part_of key

of_signature : (x : ℕ) (xs : List ℕ) → eqb 2 x ≡ false → (k : List ℕ) → bytes_eq (2 ∷ k) (x ∷ xs) ≡ false
of_signature x xs h k = rw h refl

pub part_of : (key : List ℕ) → Part_of key
part_of [] = foreign (record { spent = refl; signature = λ k. refl; all = refl; script = refl; witness = refl })
part_of (x ∷ xs) = by_tests (bytes_eq (1 ∷ []) (x ∷ xs)) refl (eqb 2 x) refl (bytes_eq (3 ∷ []) (x ∷ xs)) refl (bytes_eq (5 ∷ []) (x ∷ xs))
    refl (bytes_eq (8 ∷ []) (x ∷ xs)) refl
  where
    by_tests : (a : Bool) → bytes_eq (1 ∷ []) (x ∷ xs) ≡ a → (b : Bool) → eqb 2 x ≡ b → (c : Bool) → bytes_eq (3 ∷ []) (x ∷ xs) ≡ c
        → (d : Bool) → bytes_eq (5 ∷ []) (x ∷ xs) ≡ d → (e : Bool) → bytes_eq (8 ∷ []) (x ∷ xs) ≡ e → Part_of (x ∷ xs)
    by_tests true a b p c q d r e s = spent (same_bytes (1 ∷ []) (x ∷ xs) a)
    by_tests false a true p c q d r e s = signature xs (ap (λ (y : ℕ). y ∷ xs) (eqb-true 2 x p))
    by_tests false a false p true q d r e s = all (same_bytes (3 ∷ []) (x ∷ xs) q)
    by_tests false a false p false q true r e s = script (same_bytes (5 ∷ []) (x ∷ xs) r)
    by_tests false a false p false q false r true s = witness (same_bytes (8 ∷ []) (x ∷ xs) s)
    by_tests false a false p false q false r false s = foreign (record { spent = a; signature = of_signature x xs p; all = q; script = r; witness = s })

-- ---- they ascend

part_before : {A : Type 0} (key : List ℕ) (t : ℕ) (spell : A → List ℕ) (o : Option A) (rest : List Pairing) → is_before key (t ∷ []) ≡ true
    → Before key (names_of rest) → Before key (names_of (part t spell o ++ rest))
part_before key t spell (Some a) rest h k = (h, k)
part_before key t spell None rest h k = k

all_before : (key : List ℕ) (all : Bool) (rest : List Pairing) → is_before key (3 ∷ []) ≡ true → Before key (names_of rest)
    → Before key (names_of (all_part all ++ rest))
all_before key true rest h k = (h, k)
all_before key false rest h k = k

signatures_before : (key : List ℕ) (ps rest : List Pairing) → ((k : List ℕ) → is_before key (2 ∷ k) ≡ true) → Before key (names_of rest)
    → Before key (names_of (map {B = Pairing} (λ p. (2 ∷ p.0, p.1)) ps ++ rest))
signatures_before key [] rest h k = k
signatures_before key (p ∷ ps) rest h k = (h (p.0), signatures_before key ps rest h k)

part_ascends : {A : Type 0} (t : ℕ) (spell : A → List ℕ) (o : Option A) (rest : List Pairing) → Before (t ∷ []) (names_of rest)
    → are_ascending (names_of rest) ≡ true → are_ascending (names_of (part t spell o ++ rest)) ≡ true
part_ascends t spell (Some a) rest h k = ascend_with (t ∷ []) (names_of rest) h k
part_ascends t spell None rest h k = k

all_ascends : (all : Bool) (rest : List Pairing) → Before (3 ∷ []) (names_of rest) → are_ascending (names_of rest) ≡ true
    → are_ascending (names_of (all_part all ++ rest)) ≡ true
all_ascends true rest h k = ascend_with (3 ∷ []) (names_of rest) h k
all_ascends false rest h k = k

before_each : (key : List ℕ) (ps rest : List Pairing) → Before key (names_of ps) → Before (2 ∷ key) (names_of rest)
    → Before (2 ∷ key) (names_of (map {B = Pairing} (λ p. (2 ∷ p.0, p.1)) ps ++ rest))
before_each key [] rest h k = k
before_each key (p ∷ ps) rest h k = (h.0, before_each key ps rest h.1 k)

signatures_ascend : (ps rest : List Pairing) → are_ascending (names_of ps) ≡ true → ((k : List ℕ) → Before (2 ∷ k) (names_of rest))
    → are_ascending (names_of rest) ≡ true → are_ascending (names_of (map {B = Pairing} (λ p. (2 ∷ p.0, p.1)) ps ++ rest)) ≡ true
signatures_ascend [] rest h k asc = asc
signatures_ascend (p ∷ ps) rest h k asc =
    ascend_with (2 ∷ p.0) (names_of (map {B = Pairing} (λ q. (2 ∷ q.0, q.1)) ps ++ rest))
    (before_each (p.0) ps rest (first_before (p.0) (names_of ps) h) (k (p.0)))
    (signatures_ascend ps rest (others_ascend (p.0) (names_of ps) h) k asc)

abbrev from_witness : PsbtInput → List Pairing
from_witness i = part 8 witness_bytes i.witness

abbrev from_script : PsbtInput → List Pairing
from_script i = part 5 as_it_is i.script ++ from_witness i

abbrev from_all : PsbtInput → List Pairing
from_all i = all_part i.all ++ from_script i

witness_before : (key : List ℕ) (o : Option (List (List ℕ))) → is_before key (8 ∷ []) ≡ true → Before key (names_of (part 8 witness_bytes o))
witness_before key (Some items) h = (h, tt)
witness_before key None h = tt

witness_ascends : (o : Option (List (List ℕ))) → are_ascending (names_of (part 8 witness_bytes o)) ≡ true
witness_ascends (Some items) = refl
witness_ascends None = refl

script_before : (key : List ℕ) (i : PsbtInput) → is_before key (5 ∷ []) ≡ true → is_before key (8 ∷ []) ≡ true → Before key (names_of (from_script i))
script_before key i h k = part_before key 5 as_it_is i.script (from_witness i) h (witness_before key i.witness k)

before_all_part : (key : List ℕ) (i : PsbtInput) → is_before key (3 ∷ []) ≡ true → is_before key (5 ∷ []) ≡ true → is_before key (8 ∷ [])
    ≡ true → Before key (names_of (from_all i))
before_all_part key i g h k = all_before key i.all (from_script i) g (script_before key i h k)

pub records_ascend : (i : PsbtInput) → are_ascending (names_of i.partial) ≡ true → are_ascending (names_of (input_records i)) ≡ true
records_ascend i h =
    let last = part_ascends 5 as_it_is i.script (from_witness i) (witness_before (5 ∷ []) i.witness refl) (witness_ascends i.witness) in
    let later = all_ascends i.all (from_script i) (script_before (3 ∷ []) i refl refl) last in
    let signatures = signatures_ascend i.partial (from_all i) h (λ k. before_all_part (2 ∷ k) i refl refl refl) later in
    part_ascends 1 output_bytes i.spent (map {B = Pairing} (λ p. (2 ∷ p.0, p.1)) i.partial ++ from_all i)
    (signatures_before (1 ∷ []) i.partial (from_all i) (λ k. refl) (before_all_part (1 ∷ []) i refl refl refl)) signatures

pub records_apart : (i : PsbtInput) → are_ascending (names_of i.partial) ≡ true → are_different (names_of (input_records i)) ≡ true
records_apart i h = ascending_different (names_of (input_records i)) (records_ascend i h)
