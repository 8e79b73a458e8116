-- The limit on items is not met by short operations.
use Rattle.std.proofs.Common.{◌≡◌, ℕ, ◌+◌, ◌≤◌, List, [], ◌∷◌, length, Bool, true, false, Option, Some, None, refl, sym, ap, ◌∙◌, arith}
use Rattle.std.specs.Prelude.{if◌then◌else◌, nat_le, ℤ, reverse}
use Rattle.std.specs.Option.{option_and_then, option_map}
use Rattle.std.specs.Str.{bytes_eq}
use Rattle.spec_bitcoin.specs.declared.script.Op.{Op}
use Rattle.spec_bitcoin.specs.declared.script.Op.TheVariants.{Push, Code}
use Rattle.spec_bitcoin.specs.declared.opcode.Opcode.{Opcode}
use Rattle.spec_bitcoin.specs.declared.opcode.Opcode.TheVariants.{Constant, Binary, If, NotIf, Else, EndIf, Nop, Verify, Return, ToAltStack, FromAltStack, Drop, Dup, Pick, Swap, Size, Equal, EqualVerify, Not, Within, Sha256, Hash256, CheckSig, CheckSigVerify}
use Rattle.spec_bitcoin.specs.Opcodes.{opcode_of}
use Rattle.spec_bitcoin.specs.Numbers.{number_of_item}
use Rattle.spec_bitcoin.specs.Effects.{Item, Stacks, effect, item_of_bool, binary_of, pick_of, copied_of, not_of, on_main, truth, with_number, verify_of}
use Rattle.spec_bitcoin.specs.Meaning.{act, within_limit, within_limits, run, succeeds, meaning, script_meaning}
use Rattle.spec_bitcoin.specs.Scripts.{script_ops}
use Rattle.spec_bitcoin.specs.Trees.{Items}
use Rattle.theory_script.proofs.Scripts.Runs.{free_act, free_run, and_then_assoc}
use Rattle.theory_script.proofs.Scripts.Blocks.{plains}

-- at most so many items are on both stacks
abbrev pub Holds : ℕ → Option Stacks → Type 0
Holds n None = Unit {0}
Holds n (Some s) = length s.main + length s.alt ≤ n

-- at most so many items are on the stack
abbrev Has : ℕ → Option (List Item) → Type 0
Has n None = Unit {0}
Has n (Some m) = length m ≤ n

on_main_holds : (k n : ℕ) (o : Option (List Item)) (alt : List Item) → k + length alt ≤ n → Has k o → Holds n (on_main o alt)
on_main_holds k n None alt le h = tt
on_main_holds k n (Some m) alt le h = omega (arith, h)

number_has : (k : ℕ) (o : Option ℤ) (f : ℤ → Option (List Item)) → ((z : ℤ) → Has k (f z)) → Has k (with_number o f)
number_has k None f h = tt
number_has k (Some z) f h = h z

map_has : {X : Type 0} (k : ℕ) (o : Option X) (f : X → List Item) → ((x : X) → length (f x) ≤ k) → Has k (option_map f o)
map_has k None f h = tt
map_has k (Some x) f h = h x

if_has : (k : ℕ) (b : Bool) (m : List Item) → length m ≤ k → Has k (if b then Some m else None)
if_has k true m h = h
if_has k false m h = tt

verify_has : (m : List Item) → Has (length m) (verify_of m)
verify_has [] = tt
verify_has (x ∷ m) = if_has (length (x ∷ m)) (truth x) m (omega arith)

module _ (hash : Item → Item) (valid : Item → Item → Bool) where
  effect_holds : (o : Option Opcode) (m alt : List Item) → Holds (length m + length alt + 1) (effect hash valid o m alt)
  effect_holds None m alt = tt
  effect_holds (Some (Constant z)) m alt = omega arith
  effect_holds (Some (Binary b)) [] alt = tt
  effect_holds (Some (Binary b)) (y ∷ []) alt = tt
  effect_holds (Some (Binary b)) (y ∷ (x ∷ m)) alt =
      on_main_holds (length m + 1) _ (binary_of b (y ∷ (x ∷ m))) alt (omega arith)
      (number_has _ (number_of_item x) _ (λ k. number_has _ (number_of_item y) _ (λ l. omega arith)))
  effect_holds (Some If) m alt = tt
  effect_holds (Some NotIf) m alt = tt
  effect_holds (Some Else) m alt = tt
  effect_holds (Some EndIf) m alt = tt
  effect_holds (Some Nop) m alt = omega arith
  effect_holds (Some Verify) m alt = on_main_holds (length m) _ (verify_of m) alt (omega arith) (verify_has m)
  effect_holds (Some Return) m alt = tt
  effect_holds (Some ToAltStack) [] alt = tt
  effect_holds (Some ToAltStack) (x ∷ m) alt = omega arith
  effect_holds (Some FromAltStack) m [] = tt
  effect_holds (Some FromAltStack) m (x ∷ alt) = omega arith
  effect_holds (Some Drop) [] alt = tt
  effect_holds (Some Drop) (x ∷ m) alt = omega arith
  effect_holds (Some Dup) [] alt = tt
  effect_holds (Some Dup) (x ∷ m) alt = omega arith
  effect_holds (Some Pick) [] alt = tt
  effect_holds (Some Pick) (x ∷ m) alt =
      on_main_holds (length m + 1) _ (pick_of (x ∷ m)) alt (omega arith)
      (map_has (length m + 1) (copied_of (number_of_item x) m) (λ (y : Item). y ∷ m) (λ y. omega arith))
  effect_holds (Some Swap) [] alt = tt
  effect_holds (Some Swap) (y ∷ []) alt = tt
  effect_holds (Some Swap) (y ∷ (x ∷ m)) alt = omega arith
  effect_holds (Some Size) [] alt = tt
  effect_holds (Some Size) (x ∷ m) alt = omega arith
  effect_holds (Some Equal) [] alt = tt
  effect_holds (Some Equal) (y ∷ []) alt = tt
  effect_holds (Some Equal) (y ∷ (x ∷ m)) alt = omega arith
  effect_holds (Some EqualVerify) [] alt = tt
  effect_holds (Some EqualVerify) (y ∷ []) alt = tt
  effect_holds (Some EqualVerify) (y ∷ (x ∷ m)) alt =
      on_main_holds (length m + 1) _ (verify_of (item_of_bool (bytes_eq x y) ∷ m)) alt (omega arith)
      (if_has (length m + 1) (truth (item_of_bool (bytes_eq x y))) m (omega arith))
  effect_holds (Some Not) [] alt = tt
  effect_holds (Some Not) (x ∷ m) alt = on_main_holds (length m + 1) _ (not_of (x ∷ m)) alt (omega arith) (number_has _ (number_of_item x) _ (λ k. omega arith))
  effect_holds (Some Within) [] alt = tt
  effect_holds (Some Within) (z ∷ []) alt = tt
  effect_holds (Some Within) (z ∷ (y ∷ [])) alt = tt
  effect_holds (Some Within) (z ∷ (y ∷ (x ∷ m))) alt =
      on_main_holds (length m + 1) _ _ alt (omega arith)
      (number_has _ (number_of_item x) _ (λ k. number_has _ (number_of_item y) _ (λ l. number_has _ (number_of_item z) _ (λ j. omega arith))))
  effect_holds (Some Sha256) [] alt = tt
  effect_holds (Some Sha256) (x ∷ m) alt = omega arith
  effect_holds (Some Hash256) [] alt = tt
  effect_holds (Some Hash256) (x ∷ m) alt = omega arith
  effect_holds (Some CheckSig) [] alt = tt
  effect_holds (Some CheckSig) (y ∷ []) alt = tt
  effect_holds (Some CheckSig) (y ∷ (x ∷ m)) alt = omega arith
  effect_holds (Some CheckSigVerify) [] alt = tt
  effect_holds (Some CheckSigVerify) (y ∷ []) alt = tt
  effect_holds (Some CheckSigVerify) (y ∷ (x ∷ m)) alt =
      on_main_holds (length m + 1) _ (verify_of (item_of_bool (valid x y) ∷ m)) alt (omega arith)
      (if_has (length m + 1) (truth (item_of_bool (valid x y))) m (omega arith))

  pub act_holds : (op : Op) (s : Stacks) → Holds (length s.main + length s.alt + 1) (free_act hash valid op s)
  act_holds (Push item) s = omega arith
  act_holds (Code c) s = effect_holds (opcode_of c) s.main s.alt

  -- an operation and then the limit
  pub act_is : (op : Op) (s : Stacks) → act hash valid op s ≡ option_and_then within_limit (free_act hash valid op s)
  act_is (Push item) s = refl
  act_is (Code c) s = refl

  -- operations with the limit
  abbrev pub flat_run : List Op → Stacks → Option Stacks
  flat_run [] s = Some s
  flat_run (op ∷ ops) s = option_and_then (flat_run ops) (act hash valid op s)

within_out : (t : Stacks) (f g : Stacks → Option Stacks) (b : Bool) → (succeeds (f t) ≡ true → succeeds (g t) ≡ true)
    → succeeds (option_and_then f (if b then Some t else None)) ≡ true → succeeds (g t) ≡ true
within_out t f g true k h = k h
within_out t f g false k h = cc

step_out : (o : Option Stacks) (f g : Stacks → Option Stacks) → ((t : Stacks) → succeeds (f t) ≡ true → succeeds (g t) ≡ true)
    → succeeds (option_and_then f (option_and_then within_limit o)) ≡ true → succeeds (option_and_then g o) ≡ true
step_out None f g k h = h
step_out (Some t) f g k h = within_out t f g (nat_le (length t.main + length t.alt) 1000) (k t) h

pub step_in : (o : Option Stacks) (f g : Stacks → Option Stacks) (n : ℕ) → n ≤ 1000 → Holds n o
    → ((t : Stacks) → length t.main + length t.alt ≤ n → f t ≡ g t) → option_and_then f (option_and_then within_limit o) ≡ option_and_then g o
step_in None f g n le h k = refl
step_in (Some t) f g n le h k = let e : nat_le (length t.main + length t.alt) 1000 ≡ true = grind (arith, h) in rw e (k t h)

module _ (hash : Item → Item) (valid : Item → Item → Bool) where
  -- the limit only fails
  pub limit_fails : (ops : List Op) (s : Stacks) → succeeds (flat_run hash valid ops s) ≡ true → succeeds (free_run hash valid ops s) ≡ true
  limit_fails [] s h = h
  limit_fails (op ∷ ops) s h =
      step_out (free_act hash valid op s) (flat_run hash valid ops) (free_run hash valid ops) (λ t. limit_fails ops t)
      (rw (act_is hash valid op s) at h)

  -- and isn't met by few operations on few items
  pub limit_unmet : (ops : List Op) (s : Stacks) → length s.main + length s.alt + length ops ≤ 1000 → flat_run hash valid ops s ≡ free_run hash valid ops s
  limit_unmet [] s le = refl
  limit_unmet (op ∷ ops) s le =
      rw (act_is hash valid op s)
      (step_in (free_act hash valid op s) (flat_run hash valid ops) (free_run hash valid ops) (length s.main + length s.alt + 1)
      (omega arith) (act_holds hash valid op s) (λ t k. limit_unmet ops t (omega arith)))

  pub run_plains : (ops : List Op) (rest : Items) (s : Stacks) → run hash valid (plains ops rest) s
      ≡ option_and_then (run hash valid rest) (flat_run hash valid ops s)
  run_plains [] rest s = refl
  run_plains (op ∷ ops) rest s =
      ap (λ (f : Stacks → Option Stacks). option_and_then f (act hash valid op s)) (λ i t. run_plains ops rest t i)
      ∙ sym (and_then_assoc (run hash valid rest) (flat_run hash valid ops) (act hash valid op s))

-- ---- a script that keeps the other limits means what its operations make of the stack

pub script_means : (hash : Item → Item) (valid : Item → Item → Bool) (script : List ℕ) (ops : List Op) (stack : List Item)
    → length script ≤ 10000 → script_ops script ≡ Some ops → within_limits ops ≡ true
    → script_meaning hash valid script stack ≡ meaning hash valid ops (reverse stack)
unfolding script_meaning
script_means hash valid script ops stack few reads kept =
    let bytes : nat_le (length script) 10000 ≡ true = grind (arith, few) in
    rw (bytes, reads, kept) refl
