-- Operations without blocks, on stacks without a limit.
use Rattle.std.proofs.Common.{◌≡◌, ℕ, ◌+◌, ◌≤◌, List, [], ◌∷◌, ◌++◌, Bool, true, false, Option, Some, None, refl, sym, ap, ◌∙◌, arith}
use Rattle.std.specs.Prelude.{if◌then◌else◌, nat_le, ◌==◌, ℤ, pos}
use Rattle.std.specs.Option.{option_and_then}
use Rattle.spec_bitcoin.specs.declared.script.Op.{Op}
use Rattle.spec_bitcoin.specs.declared.script.Op.TheVariants.{Push, Code}
use Rattle.spec_bitcoin.specs.declared.opcode.Opcode.TheVariants.{Constant, Binary}
use Rattle.spec_bitcoin.specs.Opcodes.{opcode_of}
use Rattle.spec_bitcoin.specs.Numbers.{item_of_number}
use Rattle.spec_bitcoin.specs.Effects.{Item, Stacks, result_of}
use Rattle.spec_bitcoin.specs.Scripts.{push_number}
use Rattle.theory_script.specs.Items.{size_of_number}
pub use Rattle.theory_script.specs.Limits.{free_act}
use Rattle.theory_script.proofs.NumberLemmas.{number_again}
use Rattle.spec_bitcoin.specs.declared.opcode.Binary as binaries

abbrev pub stacks : List Item → List Item → Stacks
stacks main alt = record { main = main; alt = alt }

abbrev pub free_run : (Item → Item) → (Item → Item → Bool) → List Op → Stacks → Option Stacks
free_run hash valid [] s = Some s
free_run hash valid (op ∷ ops) s = option_and_then (free_run hash valid ops) (free_act hash valid op s)

pub and_then_assoc : {X Y Z : Type 0} (f : Y → Option Z) (g : X → Option Y) (o : Option X) → option_and_then f (option_and_then g o)
    ≡ option_and_then (λ x. option_and_then f (g x)) o
and_then_assoc f g None = refl
and_then_assoc f g (Some x) = refl

-- a push of a number
pub small_code : (n : ℕ) → (n == 0) ≡ false → nat_le n 16 ≡ true → opcode_of (80 + n) ≡ Some (Constant (pos n))
small_code n h k =
    let a : (80 + n == 0x4f) ≡ false = grind arith in
    let b : nat_le 0x51 (80 + n) ≡ true = grind arith in
    let c : nat_le (80 + n) 0x60 ≡ true = grind arith in
    rw (a, b, c) (ap (λ k. Some (Constant (pos k))) (omega arith))

zero_item : item_of_number (pos 0) ≡ []
unfolding item_of_number
zero_item = refl

module _ (hash : Item → Item) (valid : Item → Item → Bool) where
  pub free_run-append : (xs ys : List Op) (s : Stacks) → free_run hash valid (xs ++ ys) s ≡ option_and_then (free_run hash valid ys) (free_run hash valid xs s)
  free_run-append [] ys s = refl
  free_run-append (op ∷ xs) ys s =
      let ih = λ (t : Stacks). free_run-append xs ys t in
      ap (λ (f : Stacks → Option Stacks). option_and_then f (free_act hash valid op s)) (λ i t. ih t i)
      ∙ sym (and_then_assoc (free_run hash valid ys) (free_run hash valid xs) (free_act hash valid op s))

  -- operations that are known to lead somewhere, and others after them
  pub goes_on : (xs ys : List Op) (s t : Stacks) → free_run hash valid xs s ≡ Some t → free_run hash valid (xs ++ ys) s ≡ free_run hash valid ys t
  goes_on xs ys s t h = rw (free_run-append xs ys s, h)

  pub push_runs : (n : ℕ) (m alt : List Item) → free_act hash valid (push_number (pos n)) (stacks m alt) ≡ Some (stacks (item_of_number (pos n) ∷ m) alt)
  push_runs n m alt = by_zero (n == 0) refl
    where
      by_small : (b : Bool) → (n == 0) ≡ false → nat_le n 16 ≡ b
          → free_act hash valid (if b then Code (80 + n) else Push (item_of_number (pos n))) (stacks m alt) ≡ Some (stacks (item_of_number (pos n) ∷ m) alt)
      by_small true h k = rw (small_code n h k)
      by_small false h k = refl

      by_zero : (b : Bool) → (n == 0) ≡ b → free_act hash valid
          (if b then Push [] else (if nat_le n 16 then Code (80 + n) else Push (item_of_number (pos n)))) (stacks m alt)
          ≡ Some (stacks (item_of_number (pos n) ∷ m) alt)
      by_zero true h = let e : n ≡ 0 = grind arith in rw (e, zero_item)
      by_zero false h = by_small (nat_le n 16) h refl

  -- two numbers and an operation on them
  pub both_run : (c : ℕ) (b : binaries.Binary) (xs ys : List Op) (x y : ℤ) (m alt : List Item) → opcode_of c ≡ Some (Binary b)
      → size_of_number x ≤ 2147483647 → size_of_number y ≤ 2147483647 → free_run hash valid xs (stacks m alt)
      ≡ Some (stacks (item_of_number x ∷ m) alt) → free_run hash valid ys (stacks (item_of_number x ∷ m) alt)
      ≡ Some (stacks (item_of_number y ∷ (item_of_number x ∷ m)) alt) → free_run hash valid (xs ++ (ys ++ Code c ∷ [])) (stacks m alt)
      ≡ Some (stacks (item_of_number (result_of b x y) ∷ m) alt)
  both_run c b xs ys x y m alt is sx sy hx hy =
      goes_on xs (ys ++ Code c ∷ []) _ _ hx ∙ goes_on ys (Code c ∷ []) _ _ hy ∙ rw (is, number_again x sx, number_again y sy)
