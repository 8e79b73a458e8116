-- The script theorem.
use Rattle.std.proofs.Common.{◌≡◌, ℕ, zero, suc, ◌+◌, ◌≤◌, List, [], ◌∷◌, ◌++◌, length, Bool, true, false, Some, refl, sym, ap, ◌∙◌, arith}
use Rattle.std.specs.Prelude.{if◌then◌else◌, nat_lt, nat_le, slice_get, replicate, map, reverse, cond}
use Rattle.std.specs.List.{list_all, count_by}
use Rattle.std.proofs.lemmas.Bool.{and_parts, and_from}
use Rattle.spec_bitcoin.specs.declared.script.Op.{Op}
use Rattle.spec_bitcoin.specs.declared.script.Op.TheVariants.{Push, Code}
use Rattle.spec_bitcoin.specs.Effects.{Item, truth}
use Rattle.spec_bitcoin.specs.Scripts.{encode, is_written, counted}
use Rattle.spec_bitcoin.specs.Meaning.{is_short_push, is_counted, within_limits, script_meaning}
use Rattle.std.proofs.lemmas.List.Recursion.{is_count_by}
use Rattle.std.proofs.lemmas.List.{reverse-append}
use Rattle.spec_terms.specs.Term.{Pred, always}
use Rattle.spec_terms.specs.Value.{holds}
use Rattle.spec_compiler.specs.Scripts.{Demands, output_ops}
use Rattle.theory_script.proofs.Sizes.Cost.{test_operations, secrets_operations, branch_operations, cost_operations}
use Rattle.spec_compiler.specs.Statements.{is_short, are_secrets, are_valid, secret_lengths}
use Rattle.theory_script.proofs.Scripts.Demanded.{IsWell, AllWell, IsChecked, Unlocks, SaysUnlocks}
use Rattle.theory_script.proofs.Scripts.Demanded.{HasSize}
use Rattle.spec_compiler.specs.Witness.{selection, selectors}
use Rattle.theory_calculus.proofs.Members.{all_append}
use Rattle.theory_script.proofs.Scripts.Positions.{IsFine, AllFine, position_meets, output_meaning}
use Rattle.theory_script.proofs.Scripts.Readable.{AllPlain, met_unlocks, unlocks_met}
use Rattle.theory_script.proofs.Sizes.ScriptSizes.{HasSizes, AllHaveSizes, branch_sized, output_sized}
use Rattle.theory_script.proofs.Encoding.{encode_read}

low_test : (names : List (List ℕ)) (digests : List Item) (test : Pred) → length names ≡ length digests
    → (length digests ≡ 0 → test ≡ always) → secrets_operations digests test ≤ 201 → test_operations test + length names ≤ 2147483647
low_test names [] test e none h = let t = none refl in rw t (omega (arith, e))
low_test names (digest ∷ digests) test e none h = omega (arith, e, h)

sizes_of : (b : Demands) → IsWell b → branch_operations b ≤ 201 → HasSizes b
sizes_of b w h = record {
  digest_sizes = w.digest_sizes;
  key_sizes = w.key_sizes;
  bounded = w.bounded;
  low = low_test b.names b.digests
      b.test w.same_length w.no_test (omega (arith, h));
}

few_digests : (digests : List Item) (test : Pred) → length digests ≤ secrets_operations digests test
few_digests [] test = omega arith
few_digests (digest ∷ digests) test = omega arith

fine_of : (b : Demands) → IsWell b → branch_operations b ≤ 201 → IsFine 201 b
fine_of b w h =
    let s = sizes_of b w h in
    record {
      writable = record { same_length = w.same_length; known = w.known; bounded = w.bounded; low = s.low };
      some_key = w.some_key;
      few_items = omega (arith, few_digests b.digests b.test, h);
      few_ops = omega (arith, (branch_sized b s).few, h);
    }

-- a branch costs no more than its position
record AllKept (branches : List Demands) : Type 0 where
  fine : AllFine 201 branches
  sizes : AllHaveSizes branches
  plain : AllPlain branches
  few : length branches ≤ 1 + cost_operations branches

all_kept : (branches : List Demands) → AllWell branches → cost_operations branches ≤ 201 → AllKept branches
all_kept [] w h = record { fine = tt; sizes = tt; plain = tt; few = omega arith }
all_kept (b ∷ []) w h = record { fine = (fine_of b w.0 h, tt); sizes = (sizes_of b w.0 h, tt); plain = (w.0.no_test, tt); few = omega arith }
all_kept (b ∷ (next ∷ branches)) w h =
    let r = all_kept (next ∷ branches) w.1 (omega arith) in
    record {
      fine = (fine_of b w.0 (omega arith), r.fine);
      sizes = (
        sizes_of b w.0
            (omega arith),
        r.sizes,
      );
      plain = (w.0.no_test, r.plain);
      few = omega (arith, r.few);
    }

op_pushable : (op : Op) → is_written op ≡ true → is_short_push op ≡ true
op_pushable (Push item) h = h
op_pushable (Code c) h = refl

all_pushable : (ops : List Op) → list_all is_written ops ≡ true → list_all is_short_push ops ≡ true
all_pushable [] h = refl
all_pushable (op ∷ ops) h =
    let p = and_parts (is_written op) (list_all is_written ops) h in
    and_from (is_short_push op) (list_all is_short_push ops) (op_pushable op p.0) (all_pushable ops p.1)

pub has_cost : (branches : List Demands) → IsChecked branches → HasSize branches
has_cost branches c =
    let k = all_kept branches c.well c.operations in
    let s = output_sized branches k.sizes in
    record { bytes = s.bytes_are; operations = s.operations_are; spells = encode_read (output_ops branches) s.written }

count_one : (b : Bool) (n : ℕ) → (if b then 1 else 0) + n ≡ cond b (1 + n) n
count_one true n = refl
count_one false n = omega arith

count_step : (op : Op) (ops : List Op) → counted (op ∷ ops) ≡ cond (is_counted op) (1 + counted ops) (counted ops)
count_step (Push item) ops = omega arith
count_step (Code c) ops = count_one (nat_lt 0x60 c) (counted ops)

counted_is : (ops : List Op) → counted ops ≡ count_by is_counted ops
counted_is ops = is_count_by counted is_counted refl count_step ops

-- what a checked position keeps of the limits
pub record KeepsLimits (branches : List Demands) : Type 0 where
  pub limits : within_limits (output_ops branches) ≡ true
  pub few : length (output_ops branches) ≤ 402

pub keeps_limits : (branches : List Demands) → IsChecked branches → KeepsLimits branches
keeps_limits branches c =
    let s = output_sized branches (all_kept branches c.well c.operations).sizes in
    let ops : nat_le (count_by is_counted (output_ops branches)) 201 ≡ true =
    rw (← counted_is (output_ops branches), s.operations_are) (grind (arith, c.operations)) in
    record {
      limits = and_from _ _ (all_pushable (output_ops branches) s.written) ops;
      few = omega (arith, s.few, c.operations);
    }

pub all_reverse : {X : Type 0} (f : X → Bool) (xs : List X) → list_all f xs ≡ true → list_all f (reverse xs) ≡ true
all_reverse f [] h = refl
all_reverse f (x ∷ xs) h =
    let p = and_parts (f x) (list_all f xs) h in
    rw (reverse-append (x ∷ []) xs) (all_append f (reverse xs) (x ∷ []) (all_reverse f xs p.1) (and_from (f x) true p.0 refl))

module _ (hash : Item → Item) (valid : Item → Item → Bool) where
  pub meaning_is : (branches : List Demands) (stack : List Item) → IsChecked branches → list_all is_short stack ≡ true
      → script_meaning hash valid (encode (output_ops branches)) stack ≡ position_meets hash valid branches (reverse stack)
  unfolding script_meaning
  meaning_is branches stack c short =
      let k = all_kept branches c.well c.operations in
      let s = output_sized branches k.sizes in
      let bytes : nat_le (length (encode (output_ops branches))) 10000 ≡ true = rw (s.bytes_are) (grind (arith, c.bytes)) in
      let ops : nat_le (count_by is_counted (output_ops branches)) 201 ≡ true =
      rw (← counted_is (output_ops branches), s.operations_are) (grind (arith, c.operations)) in
      rw (bytes, encode_read (output_ops branches) s.written, all_pushable (output_ops branches) s.written, ops)
      (output_meaning hash valid 201 branches (reverse stack) c.some_branch k.fine (omega (arith, k.few, c.operations)) (all_reverse is_short stack short))

pub says : (hash : Item → Item) (valid : Item → Item → Bool) (branches : List Demands) (stack : List Item) → IsChecked branches
    → list_all is_short stack ≡ true → SaysUnlocks hash valid branches stack
says hash valid branches stack c short =
    let e = meaning_is hash valid branches stack c short in
    record {
      true_unlocks = λ h. met_unlocks hash valid branches (reverse stack) (all_kept branches c.well c.operations).plain (sym e ∙ h);
      unlocks_true = λ u. e ∙ unlocks_met hash valid branches (reverse stack) u;
    }

-- ---- the witness

truth_of_selectors : (i : ℕ) → map truth (replicate i []) ≡ replicate i false
truth_of_selectors zero = refl
truth_of_selectors (suc i) = ap (λ bs. false ∷ bs) (truth_of_selectors i)

truth_of_chosen : (i : ℕ) → map truth (replicate i [] ++ (1 ∷ []) ∷ []) ≡ replicate i false ++ true ∷ []
truth_of_chosen zero = refl
truth_of_chosen (suc i) = ap (λ bs. false ∷ bs) (truth_of_chosen i)

pub selectors_select : (i n : ℕ) → map truth (selectors i n) ≡ selection i n
selectors_select i n = by_last (nat_lt (i + 1) n)
  where
    by_last : (b : Bool) → map truth (if b then replicate i [] ++ (1 ∷ []) ∷ [] else replicate i [])
        ≡ (if b then replicate i false ++ true ∷ [] else replicate i false)
    by_last true = truth_of_chosen i
    by_last false = truth_of_selectors i

pub witness_unlocks : (hash : Item → Item) (valid : Item → Item → Bool) (branches : List Demands) (i : ℕ) (b : Demands)
    (secrets signatures : List Item) → slice_get branches i ≡ Some b → are_secrets hash secrets b.digests ≡ true
    → holds (secret_lengths b.names secrets) b.test ≡ true → are_valid valid signatures b.keys ≡ true
    → Unlocks hash valid branches (selectors i (length branches) ++ (secrets ++ signatures))
witness_unlocks hash valid branches i b secrets signatures at fits holds signed =
    record {
      i = i;
      b = b;
      selectors = selectors i
          (length branches);
      secrets = secrets;
      signatures = signatures;
      is_branch = at;
      is_stack = refl;
      selects = selectors_select i
          (length branches);
      fits = fits;
      predicate = holds;
      signed = signed;
    }
