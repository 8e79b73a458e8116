-- The tree of an output script.
use Rattle.std.proofs.Common.{◌≡◌, ℕ, zero, suc, ◌+◌, List, [], ◌∷◌, ◌++◌, length, Bool, true, false, Some, refl, sym, ap, ◌∙◌, append_assoc, append-nil}
use Rattle.std.specs.Prelude.{if◌then◌else◌, nat_le, ◌==◌, ◌&&◌, pos, replicate}
use Rattle.std.proofs.lemmas.Bool.{and_parts, and_from}
use Rattle.spec_bitcoin.specs.declared.script.Op.{Op}
use Rattle.spec_bitcoin.specs.declared.script.Op.TheVariants.{Push, Code}
use Rattle.spec_bitcoin.specs.declared.opcode.Kind.{Kind}
use Rattle.spec_bitcoin.specs.declared.opcode.Kind.TheVariants.{Begins, Cuts, Ends, Runs}
use Rattle.spec_bitcoin.specs.Numbers.{item_of_number}
use Rattle.spec_bitcoin.specs.Effects.{Item}
use Rattle.spec_bitcoin.specs.Trees.{Items, End, Plain, Block, NoMore, Section, Open, Outside, Inside, Unmatched, put_at_head, put_kind, put_if, put_else, put_endif, read, tree_of, kind_of}
use Rattle.spec_terms.specs.Term.{Expr, constant, length_of, plus, minus, Pred, always, negation, both, equal, less}
use Rattle.spec_terms.specs.Cost.{place_in}
use Rattle.spec_bitcoin.specs.Scripts.{push_number}
use Rattle.spec_compiler.specs.Scripts.{formula_ops, test_ops, reveals_ops, signed_ops, asks_secrets, secrets_ops, Demands, branch_ops, output_ops}
use Rattle.theory_script.proofs.Scripts.Runs.{small_code}

-- operations that begin, cut and end no block
abbrev pub is_run : Kind → Bool
is_run (Begins negated) = false
is_run Cuts = false
is_run Ends = false
is_run Runs = true

abbrev pub all_run : List Op → Bool
all_run [] = true
all_run (op ∷ ops) = is_run (kind_of op) && all_run ops

all_run-append : (xs ys : List Op) → all_run xs ≡ true → all_run ys ≡ true → all_run (xs ++ ys) ≡ true
all_run-append [] ys h k = k
all_run-append (op ∷ xs) ys h k =
    let p = and_parts (is_run (kind_of op)) (all_run xs) h in
    and_from (is_run (kind_of op)) (all_run (xs ++ ys)) p.0 (all_run-append xs ys p.1 k)

push_run : (n : ℕ) → is_run (kind_of (push_number (pos n))) ≡ true
push_run n = by_zero (n == 0) refl
  where
    by_small : (b : Bool) → (n == 0) ≡ false → nat_le n 16 ≡ b → is_run (kind_of (if b then Code (80 + n) else Push (item_of_number (pos n)))) ≡ true
    by_small true h k = rw (small_code n h k)
    by_small false h k = refl

    by_zero : (b : Bool) → (n == 0) ≡ b → is_run
        (kind_of (if b then Push [] else (if nat_le n 16 then Code (80 + n) else Push (item_of_number (pos n))))) ≡ true
    by_zero true h = refl
    by_zero false h = by_small (nat_le n 16) h refl

two_run : (xs ys : List Op) (op : Op) → all_run xs ≡ true → all_run ys ≡ true → is_run (kind_of op) ≡ true → all_run (xs ++ (ys ++ op ∷ [])) ≡ true
two_run xs ys op h k l = all_run-append xs (ys ++ op ∷ []) h (all_run-append ys (op ∷ []) k (and_from (is_run (kind_of op)) true l refl))

formula_run : (names : List (List ℕ)) (d : ℕ) (e : Expr) → all_run (formula_ops names d e) ≡ true
formula_run names d (constant n) = and_from (is_run (kind_of (push_number (pos n)))) true (push_run n) refl
formula_run names d (length_of a) = and_from (is_run (kind_of (push_number (pos (d + place_in names a))))) true (push_run (d + place_in names a)) refl
formula_run names d (plus e f) =
    two_run (formula_ops names d e) (formula_ops names (d + 1) f) (Code 0x93) (formula_run names d e) (formula_run names (d + 1) f) refl
formula_run names d (minus e f) =
    two_run (formula_ops names d e) (formula_ops names (d + 1) f) (Code 0x94) (formula_run names d e) (formula_run names (d + 1) f) refl

test_run : (names : List (List ℕ)) (d : ℕ) (p : Pred) → all_run (test_ops names d p) ≡ true
test_run names d always = refl
test_run names d (negation p) = all_run-append (test_ops names d p) (Code 0x91 ∷ []) (test_run names d p) refl
test_run names d (both p q) = two_run (test_ops names d p) (test_ops names (d + 1) q) (Code 0x9a) (test_run names d p) (test_run names (d + 1) q) refl
test_run names d (equal e f) =
    two_run (formula_ops names d e) (formula_ops names (d + 1) f) (Code 0x9c) (formula_run names d e) (formula_run names (d + 1) f) refl
test_run names d (less e f) =
    two_run (formula_ops names d e) (formula_ops names (d + 1) f) (Code 0x9f) (formula_run names d e) (formula_run names (d + 1) f) refl

reveals_run : (digests : List Item) → all_run (reveals_ops digests) ≡ true
reveals_run [] = refl
reveals_run (digest ∷ digests) = reveals_run digests

copies_run : (n : ℕ) (op : Op) → is_run (kind_of op) ≡ true → all_run (replicate n op) ≡ true
copies_run zero op h = refl
copies_run (suc n) op h = and_from (is_run (kind_of op)) (all_run (replicate n op)) h (copies_run n op h)

signed_run : (keys : List Item) → all_run (signed_ops keys) ≡ true
signed_run [] = refl
signed_run (key ∷ []) = refl
signed_run (key ∷ (next ∷ keys)) = signed_run (next ∷ keys)

asks_run : (names : List (List ℕ)) (digests : List Item) (test : Pred) → all_run (asks_secrets names digests test) ≡ true
asks_run names digests test =
    all_run-append (reveals_ops digests) _ (reveals_run digests)
    (all_run-append (replicate (length digests) (Code 0x6c)) _ (copies_run (length digests) (Code 0x6c) refl)
    (all_run-append (test_ops names 0 test) (Code 0x69 ∷ replicate (length digests) (Code 0x75)) (test_run names 0 test)
    (copies_run (length digests) (Code 0x75) refl)))

secrets_run : (names : List (List ℕ)) (digests : List Item) (test : Pred) → all_run (secrets_ops names digests test) ≡ true
secrets_run names [] test = refl
secrets_run names (digest ∷ digests) test = asks_run names (digest ∷ digests) test

pub branch_run : (b : Demands) → all_run (branch_ops b) ≡ true
branch_run b = all_run-append (secrets_ops b.names b.digests b.test) (signed_ops b.keys) (secrets_run b.names b.digests b.test) (signed_run b.keys)

-- ---- the tree

abbrev pub plains : List Op → Items → Items
plains [] rest = rest
plains (op ∷ ops) rest = Plain op (plains ops rest)

prefixes : (f g : Items → Items) (o : Open) → put_at_head f (put_at_head g o) ≡ put_at_head (λ r. f (g r)) o
prefixes f g (Outside items) = refl
prefixes f g (Inside items others outer) = refl
prefixes f g Unmatched = refl

no_prefix : (o : Open) → put_at_head (λ r. r) o ≡ o
no_prefix (Outside items) = refl
no_prefix (Inside items others outer) = refl
no_prefix Unmatched = refl

put_run : (k : Kind) (op : Op) (o : Open) → is_run k ≡ true → put_kind k op o ≡ put_at_head (Plain op) o
put_run (Begins negated) op o h = cc
put_run Cuts op o h = cc
put_run Ends op o h = cc
put_run Runs op o h = refl

read_plains : (ops rest : List Op) → all_run ops ≡ true → read (ops ++ rest) ≡ put_at_head (plains ops) (read rest)
read_plains [] rest h = sym (no_prefix (read rest))
read_plains (op ∷ ops) rest h =
    let p = and_parts (is_run (kind_of op)) (all_run ops) h in
    put_run (kind_of op) op (read (ops ++ rest)) p.0
    ∙ ap (put_at_head (Plain op)) (read_plains ops rest p.1)
    ∙ prefixes (Plain op) (plains ops) (read rest)

-- the tree of a position
abbrev pub position : List Demands → Items → Items
position [] rest = rest
position (b ∷ []) rest = plains (branch_ops b) rest
position (b ∷ (next ∷ branches)) rest = Block false (Section (plains (branch_ops b) End) (Section (position (next ∷ branches) End) NoMore)) rest

one_block : (b : Demands) (branches : List Demands) (o : Open)
    → put_if false (put_at_head (plains (branch_ops b)) (put_else (put_at_head (position branches) (put_endif o))))
    ≡ put_at_head (Block false (Section (plains (branch_ops b) End) (Section (position branches End) NoMore))) o
one_block b branches o = refl

block_ops : (xs ys rest : List Op) → (xs ++ Code 0x67 ∷ (ys ++ Code 0x68 ∷ [])) ++ rest ≡ xs ++ (Code 0x67 ∷ (ys ++ Code 0x68 ∷ rest))
block_ops xs ys rest = simp append_assoc

read_output : (branches : List Demands) (rest : List Op) → read (output_ops branches ++ rest) ≡ put_at_head (position branches) (read rest)
read_output [] rest = sym (no_prefix (read rest))
read_output (b ∷ []) rest = read_plains (branch_ops b) rest (branch_run b)
read_output (b ∷ (next ∷ branches)) rest =
    let ih = read_output (next ∷ branches) (Code 0x68 ∷ rest) in
    ap (λ (ops : List Op). put_if false (read ops)) (block_ops (branch_ops b) (output_ops (next ∷ branches)) rest)
    ∙ ap (put_if false) (read_plains (branch_ops b) (Code 0x67 ∷ (output_ops (next ∷ branches) ++ Code 0x68 ∷ rest)) (branch_run b))
    ∙ ap (λ (o : Open). put_if false (put_at_head (plains (branch_ops b)) (put_else o))) ih

pub tree_of_output : (branches : List Demands) → tree_of (output_ops branches) ≡ Some (position branches End)
tree_of_output branches =
    let e : read (output_ops branches) ≡ Outside (position branches End) = ap read (sym (append-nil (output_ops branches))) ∙ read_output branches [] in
    rw e
