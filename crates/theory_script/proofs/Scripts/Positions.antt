-- An output script succeeds exactly on the stacks that meet it.
use Rattle.std.proofs.Common.{◌≡◌, ℕ, suc, ◌+◌, ◌<◌, ◌≤◌, List, [], ◌∷◌, ◌++◌, length, Bool, true, false, Option, Some, None, refl, sym, ap, ◌∙◌, arith}
use Rattle.std.specs.Prelude.{if◌then◌else◌, nat_le}
use Rattle.std.specs.Option.{option_and_then, option_map}
use Rattle.std.specs.List.{list_all}
use Rattle.std.proofs.lemmas.Bool.{and_parts}
use Rattle.spec_bitcoin.specs.Effects.{Item, Stacks, truth}
use Rattle.spec_bitcoin.specs.Meaning.{succeeds, run, run_sections, meaning}
use Rattle.spec_bitcoin.specs.Trees.{Items, End, Block, NoMore, Section}
use Rattle.spec_terms.specs.Term.{Pred}
use Rattle.spec_compiler.specs.Statements.{lengths_of}
use Rattle.spec_terms.specs.Value.{holds}
use Rattle.spec_compiler.specs.Scripts.{signed_ops, secrets_ops, Demands, branch_ops, output_ops}
use Rattle.spec_compiler.specs.Statements.{is_short}
use Rattle.theory_script.proofs.Scripts.Runs.{stacks, free_run}
use Rattle.theory_script.proofs.Scripts.Branches.{is_fitting, taken, all_signed, opens, meets, IsWritable, branch_runs}
use Rattle.theory_script.proofs.Scripts.Blocks.{plains, position, tree_of_output}
use Rattle.theory_script.proofs.Scripts.Limits.{flat_run, limit_fails, limit_unmet, run_plains}

-- ---- what meets a branch is short

signed_length : (valid : Item → Item → Bool) (keys m : List Item) → all_signed valid keys m ≡ true → length m ≡ length keys
signed_length valid [] [] h = refl
signed_length valid [] (x ∷ m) h = cc
signed_length valid (key ∷ keys) [] h = cc
signed_length valid (key ∷ keys) (x ∷ m) h = ap suc (signed_length valid keys m (and_parts (valid x key) (all_signed valid keys m) h).1)

-- what is taken and what is left are all
abbrev LeavesRest : ℕ → List Item → Option (List ℕ × List Item) → Type 0
LeavesRest n digests None = Unit {0}
LeavesRest n digests (Some p) = n ≡ length digests + length p.1

leaves_one : (digest x : Item) (n : ℕ) (digests : List Item) (b : Bool) (o : Option (List ℕ × List Item)) → LeavesRest n digests o
    → LeavesRest (suc n) (digest ∷ digests) (if b then option_map (λ (p : List ℕ × List Item). (length x ∷ p.0, p.1)) o else None)
leaves_one digest x n digests true None h = tt
leaves_one digest x n digests true (Some p) h = omega (arith, h)
leaves_one digest x n digests false o h = tt

leaves_rest : (hash : Item → Item) (digests m : List Item) → LeavesRest (length m) digests (taken hash digests m)
leaves_rest hash [] m = omega arith
leaves_rest hash (digest ∷ digests) [] = tt
leaves_rest hash (digest ∷ digests) (x ∷ m) =
    leaves_one digest x (length m) digests (is_fitting hash digest x) (taken hash digests m) (leaves_rest hash digests m)

opens_short : (valid : Item → Item → Bool) (names : List (List ℕ)) (digests : List Item) (test : Pred) (keys : List Item) (n : ℕ)
    (o : Option (List ℕ × List Item)) → LeavesRest n digests o → opens valid names test keys o ≡ true → n ≡ length digests + length keys
opens_short valid names digests test keys n None l h = cc
opens_short valid names digests test keys n (Some p) l h =
    omega (arith, l, signed_length valid keys p.1 (and_parts (holds (lengths_of names p.0) test) (all_signed valid keys p.1) h).1)

meets_short : (hash : Item → Item) (valid : Item → Item → Bool) (names : List (List ℕ)) (digests : List Item) (test : Pred)
    (keys m : List Item) → meets hash valid names digests test keys m ≡ true → length m ≡ length digests + length keys
meets_short hash valid names [] test keys m h = omega (arith, signed_length valid keys m h)
meets_short hash valid names (digest ∷ digests) test keys m h =
    opens_short valid names (digest ∷ digests) test keys (length m) (taken hash (digest ∷ digests) m) (leaves_rest hash (digest ∷ digests) m) h

both_ways : (a b : Bool) → (a ≡ true → b ≡ true) → (b ≡ true → a ≡ true) → a ≡ b
both_ways true true f g = refl
both_ways true false f g = sym (f refl)
both_ways false true f g = g refl
both_ways false false f g = refl

-- ---- positions

abbrev pub branch_meets : (Item → Item) → (Item → Item → Bool) → Demands → List Item → Bool
branch_meets hash valid b m = meets hash valid b.names b.digests b.test b.keys m

abbrev pub position_meets : (Item → Item) → (Item → Item → Bool) → List Demands → List Item → Bool
position_meets hash valid [] m = false
position_meets hash valid (b ∷ []) m = branch_meets hash valid b m
position_meets hash valid (b ∷ (next ∷ branches)) [] = false
position_meets hash valid (b ∷ (next ∷ branches)) (x ∷ m) = if truth x then branch_meets hash valid b m else position_meets hash valid (next ∷ branches) m

-- a branch that can be written, and whose operations on what meets it keep the limit on items
pub record IsFine (k : ℕ) (b : Demands) : Type 0 where
  pub writable : IsWritable b.names b.digests b.test
  pub some_key : 0 < length b.keys
  pub few_items : length b.digests + length b.keys ≤ k
  pub few_ops : k + length (branch_ops b) ≤ 1000

abbrev pub AllFine : ℕ → List Demands → Type 0
AllFine k [] = Unit {0}
AllFine k (b ∷ branches) = IsFine k b × AllFine k branches

end_of : (o : Option Stacks) → option_and_then (λ (s : Stacks). Some s) o ≡ o
end_of None = refl
end_of (Some s) = refl

module _ (hash : Item → Item) (valid : Item → Item → Bool) where
  free_branch : (names : List (List ℕ)) (digests : List Item) (test : Pred) (keys m : List Item) → 0 < length keys
      → IsWritable names digests test → list_all is_short m ≡ true
      → succeeds (free_run hash valid (secrets_ops names digests test ++ signed_ops keys) (stacks m [])) ≡ meets hash valid names digests test keys m
  free_branch names digests test [] m some w short = absurd (omega (arith, some))
  free_branch names digests test (key ∷ keys) m some w short = branch_runs hash valid names digests test key keys m [] w short

  flat_branch : (k : ℕ) (b : Demands) (m : List Item) → IsFine k b → list_all is_short m ≡ true
      → succeeds (flat_run hash valid (branch_ops b) (stacks m [])) ≡ branch_meets hash valid b m
  flat_branch k b m fine short =
      let free = free_branch b.names b.digests b.test b.keys m fine.some_key fine.writable short in
      both_ways (succeeds (flat_run hash valid (branch_ops b) (stacks m []))) (branch_meets hash valid b m)
      (λ h. sym free ∙ limit_fails hash valid (branch_ops b) (stacks m []) h)
      (λ h.
      let few = meets_short hash valid b.names b.digests b.test b.keys m h in
      ap succeeds (limit_unmet hash valid (branch_ops b) (stacks m []) (omega (arith, few, fine.few_items, fine.few_ops))) ∙ free ∙ h)

  branch_items : (k : ℕ) (b : Demands) (m : List Item) → IsFine k b → list_all is_short m ≡ true
      → succeeds (run hash valid (plains (branch_ops b) End) (stacks m [])) ≡ branch_meets hash valid b m
  branch_items k b m fine short =
      ap succeeds (run_plains hash valid (branch_ops b) End (stacks m []) ∙ end_of (flat_run hash valid (branch_ops b) (stacks m [])))
      ∙ flat_branch k b m fine short

  position_short : (k : ℕ) (branches : List Demands) (m : List Item) → AllFine k branches → position_meets hash valid branches m ≡ true
      → length m ≤ length branches + k
  position_short k [] m fine h = cc
  position_short k (b ∷ []) m fine h = omega (arith, fine.0.few_items, meets_short hash valid b.names b.digests b.test b.keys m h)
  position_short k (b ∷ (next ∷ branches)) [] fine h = omega arith
  position_short k (b ∷ (next ∷ branches)) (x ∷ m) fine h =
      by_truth (truth x) (λ t. omega (arith, fine.0.few_items, meets_short hash valid b.names b.digests b.test b.keys m t))
      (λ f. omega (arith, position_short k (next ∷ branches) m fine.1 f)) h
    where
      by_truth : (t : Bool) → (branch_meets hash valid b m ≡ true → length m ≤ length branches + 1 + k)
          → (position_meets hash valid (next ∷ branches) m ≡ true → length m ≤ length branches + 1 + k)
          → (if t then branch_meets hash valid b m else position_meets hash valid (next ∷ branches) m) ≡ true
          → length (x ∷ m) ≤ length (b ∷ (next ∷ branches)) + k
      by_truth true f g h = omega (arith, f h)
      by_truth false f g h = omega (arith, g h)

  -- a block of two sections
  two_sections : (p q : Items) (t : Bool) (s : Stacks)
      → option_and_then (λ (r : Stacks). Some r) (run_sections hash valid (Section p (Section q NoMore)) t s)
      ≡ (if t then run hash valid p s else run hash valid q s)
  two_sections p q true s = by_end (run hash valid p s)
    where
      by_end : (o : Option Stacks) → option_and_then (λ (r : Stacks). Some r) (option_and_then (run_sections hash valid (Section q NoMore) false) o) ≡ o
      by_end None = refl
      by_end (Some r) = refl
  two_sections p q false s = by_end (run hash valid q s)
    where
      by_end : (o : Option Stacks) → option_and_then (λ (r : Stacks). Some r) (option_and_then (run_sections hash valid NoMore true) o) ≡ o
      by_end None = refl
      by_end (Some r) = refl

  chosen : (p q : Items) (x : Item) (m : List Item) → run hash valid (Block false (Section p (Section q NoMore)) End) (stacks (x ∷ m) [])
      ≡ (if nat_le (length m + 0) 1000 then (if truth x then run hash valid p (stacks m []) else run hash valid q (stacks m [])) else None)
  chosen p q x m = by_limit (nat_le (length m + 0) 1000)
    where
      by_limit : (b : Bool) → option_and_then (λ (r : Stacks). Some r)
          (option_and_then (λ (c : Bool × Stacks). run_sections hash valid (Section p (Section q NoMore)) c.0 c.1)
          (option_and_then (λ (t : Stacks). Some (truth x, t)) (if b then Some (stacks m []) else None)))
          ≡ (if b then (if truth x then run hash valid p (stacks m []) else run hash valid q (stacks m [])) else None)
      by_limit true = two_sections p q (truth x) (stacks m [])
      by_limit false = refl

  pub position_run : (k : ℕ) (branches : List Demands) (m : List Item) → 0 < length branches → AllFine k branches
      → length branches + k ≤ 1000 → list_all is_short m ≡ true → succeeds (run hash valid (position branches End) (stacks m []))
      ≡ position_meets hash valid branches m
  position_run k [] m some fine low short = absurd (omega (arith, some))
  position_run k (b ∷ []) m some fine low short = branch_items k b m fine.0 short
  position_run k (b ∷ (next ∷ branches)) [] some fine low short = refl
  position_run k (b ∷ (next ∷ branches)) (x ∷ m) some fine low short =
      let s = and_parts (is_short x) (list_all is_short m) short in
      let here = branch_items k b m fine.0 s.1 in
      let there = position_run k (next ∷ branches) m (omega arith) fine.1 (omega (arith, low)) s.1 in
      ap succeeds (chosen (plains (branch_ops b) End) (position (next ∷ branches) End) x m)
      ∙ by_limit (nat_le (length m + 0) 1000) (truth x) refl here there
    where
      by_limit : (l t : Bool) → nat_le (length m + 0) 1000 ≡ l → succeeds (run hash valid (plains (branch_ops b) End) (stacks m []))
          ≡ branch_meets hash valid b m → succeeds (run hash valid (position (next ∷ branches) End) (stacks m []))
          ≡ position_meets hash valid (next ∷ branches) m
          → succeeds (if l then (if t then run hash valid (plains (branch_ops b) End) (stacks m []) else run hash valid
          (position (next ∷ branches) End) (stacks m [])) else None)
          ≡ (if t then branch_meets hash valid b m else position_meets hash valid (next ∷ branches) m)
      by_limit true true l e f = e
      by_limit true false l e f = f
      by_limit false true l e f = both_ways false (branch_meets hash valid b m) (λ h. cc) (λ h.
          let few = meets_short hash valid b.names b.digests b.test b.keys m h in
          let yes : nat_le (length m + 0) 1000 ≡ true = grind (arith, few, fine.0.few_items, low) in
          sym l ∙ yes)
      by_limit false false l e f = both_ways false (position_meets hash valid (next ∷ branches) m) (λ h. cc) (λ h.
          let few = position_short k (next ∷ branches) m fine.1 h in
          let yes : nat_le (length m + 0) 1000 ≡ true = grind (arith, few, low) in
          sym l ∙ yes)

  pub output_meaning : (k : ℕ) (branches : List Demands) (m : List Item) → 0 < length branches → AllFine k branches
      → length branches + k ≤ 1000 → list_all is_short m ≡ true → meaning hash valid (output_ops branches) m ≡ position_meets hash valid branches m
  output_meaning k branches m some fine low short = rw (tree_of_output branches) (position_run k branches m some fine low short)
