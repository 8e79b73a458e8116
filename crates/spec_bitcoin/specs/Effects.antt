-- What each operation makes of the two stacks, as Bitcoin's script has it, for the opcodes of contracts.
use Rattle.std.specs.Prelude.{ℕ, List, [], ◌∷◌, length, Bool, true, false, not, ◌&&◌, if◌then◌else◌, ◌||◌, slice_get, Option, Some, None}
use Rattle.std.specs.Prelude.{◌==◌, ℤ, pos, negsuc, ◌+ℤ◌, ◌-ℤ◌, int_lt, int_le}
use Rattle.std.specs.Ordering.{int_eq}
use Rattle.std.specs.Option.{option_and_then, option_map}
use Rattle.std.specs.Str.{bytes_eq}
use Rattle.spec_bitcoin.specs.declared.opcode.Opcode.{Opcode}
use Rattle.spec_bitcoin.specs.declared.opcode.Opcode.TheVariants.{Constant, Binary, If, NotIf, Else, EndIf, Nop, Verify, Return, ToAltStack}
use Rattle.spec_bitcoin.specs.declared.opcode.Opcode.TheVariants.{FromAltStack, Drop, Dup, Pick, Swap, Size, Equal, EqualVerify, Not}
use Rattle.spec_bitcoin.specs.declared.opcode.Opcode.TheVariants.{Within, Sha256, Hash256, CheckSig, CheckSigVerify}
use Rattle.spec_bitcoin.specs.declared.opcode.Binary.TheVariants.{Add, Sub, BoolAnd, BoolOr, NumEqual, LessThan, Min, Max}
use Rattle.spec_bitcoin.specs.declared.opcode.Binary as binaries
use Rattle.spec_bitcoin.specs.Numbers.{number_of_item, item_of_number}

-- an item of a stack
abbrev pub Item : Type 0
Item = List ℕ

-- the items of both stacks, each from its top
pub record Stacks : Type 0 where
  pub main : List Item
  pub alt : List Item

-- ---- truth

-- whether an item counts as true
abbrev pub truth : Item → Bool
truth [] = false
truth (b ∷ rest) = if b == 0 then truth rest else not (b == 128 && length rest == 0)

-- the item of a truth value
abbrev pub item_of_bool : Bool → Item
item_of_bool true = 1 ∷ []
item_of_bool false = []

-- ---- what an operation makes of the main stack, given from its top; none where it fails

-- VERIFY
abbrev pub verify_of : List Item → Option (List Item)
verify_of [] = None
verify_of (x ∷ rest) = if truth x then Some rest else None

-- DROP
abbrev pub drop_of : List Item → Option (List Item)
drop_of [] = None
drop_of (x ∷ rest) = Some rest

-- DUP
abbrev pub dup_of : List Item → Option (List Item)
dup_of [] = None
dup_of (x ∷ rest) = Some (x ∷ x ∷ rest)

-- EQUAL
abbrev pub equal_of : List Item → Option (List Item)
equal_of [] = None
equal_of (y ∷ []) = None
equal_of (y ∷ x ∷ rest) = Some (item_of_bool (bytes_eq x y) ∷ rest)

-- SHA256, and HASH256 with the hash of the hash
abbrev pub hash_of : (Item → Item) → List Item → Option (List Item)
hash_of hash [] = None
hash_of hash (x ∷ rest) = Some (hash x ∷ rest)

-- CHECKSIG
abbrev pub check_sig_of : (Item → Item → Bool) → List Item → Option (List Item)
check_sig_of valid [] = None
check_sig_of valid (key ∷ []) = None
check_sig_of valid (key ∷ signature ∷ rest) = Some (item_of_bool (valid signature key) ∷ rest)

-- SWAP
abbrev pub swap_of : List Item → Option (List Item)
swap_of [] = None
swap_of (y ∷ []) = None
swap_of (y ∷ x ∷ rest) = Some (x ∷ y ∷ rest)

-- SIZE
abbrev pub size_of : List Item → Option (List Item)
size_of [] = None
size_of (x ∷ rest) = Some (item_of_number (pos (length x)) ∷ x ∷ rest)

-- what is copied from this many places under the top
abbrev pub copied_of : Option ℤ → List Item → Option Item
copied_of None rest = None
copied_of (Some (pos n)) rest = slice_get rest n
copied_of (Some (negsuc n)) rest = None

-- PICK
abbrev pub pick_of : List Item → Option (List Item)
pick_of [] = None
pick_of (x ∷ rest) = option_map (λ y. y ∷ rest) (copied_of (number_of_item x) rest)

-- a truth value as a number
abbrev pub number_of_bool : Bool → ℤ
number_of_bool true = pos 1
number_of_bool false = pos 0

-- whether the number is 0
abbrev pub is_zero : ℤ → Bool
is_zero z = int_eq z (pos 0)

-- what two numbers are made into, the second from the top first
abbrev pub result_of : binaries.Binary → ℤ → ℤ → ℤ
result_of Add x y = x +ℤ y
result_of Sub x y = x -ℤ y
result_of BoolAnd x y = number_of_bool (not (is_zero x) && not (is_zero y))
result_of BoolOr x y = number_of_bool (not (is_zero x) || not (is_zero y))
result_of NumEqual x y = number_of_bool (int_eq x y)
result_of LessThan x y = number_of_bool (int_lt x y)
result_of Min x y = if int_lt x y then x else y
result_of Max x y = if int_lt x y then y else x

-- what a function makes of an operand, none where the item is no number
abbrev pub with_number : Option ℤ → (ℤ → Option (List Item)) → Option (List Item)
with_number None f = None
with_number (Some z) f = f z

-- an operation on two numbers
abbrev pub binary_of : binaries.Binary → List Item → Option (List Item)
binary_of b [] = None
binary_of b (y ∷ []) = None
binary_of b (y ∷ x ∷ rest) =
    with_number (number_of_item x) (λ m. with_number (number_of_item y) (λ n. Some (item_of_number (result_of b m n) ∷ rest)))

-- NOT
abbrev pub not_of : List Item → Option (List Item)
not_of [] = None
not_of (x ∷ rest) = with_number (number_of_item x) (λ n. Some (item_of_number (number_of_bool (is_zero n)) ∷ rest))

-- WITHIN
abbrev pub within_of : List Item → Option (List Item)
within_of [] = None
within_of (top ∷ []) = None
within_of (top ∷ low ∷ []) = None
within_of (top ∷ low ∷ x ∷ rest) =
    with_number (number_of_item x) (λ n. with_number (number_of_item low)
    (λ a. with_number (number_of_item top) (λ b. Some (item_of_number (number_of_bool (int_le a n && int_lt n b)) ∷ rest))))

-- ---- both stacks

-- an operation on the main stack alone
abbrev pub on_main : Option (List Item) → List Item → Option Stacks
on_main m alt = option_map (λ (m : List Item). record { main = m; alt = alt }) m

-- TOALTSTACK
abbrev pub moved_to_alt : List Item → List Item → Option Stacks
moved_to_alt [] alt = None
moved_to_alt (x ∷ rest) alt = Some (record { main = rest; alt = x ∷ alt })

-- FROMALTSTACK
abbrev pub moved_from_alt : List Item → List Item → Option Stacks
moved_from_alt main [] = None
moved_from_alt main (x ∷ rest) = Some (record { main = x ∷ main; alt = rest })

-- what an opcode makes of the main stack and the other one; a block's own opcodes don't stand among the operations of a tree
abbrev pub effect : (Item → Item) → (Item → Item → Bool) → Option Opcode → List Item → List Item → Option Stacks
effect hash valid None m alt = None
effect hash valid (Some (Constant z)) m alt = Some (record { main = item_of_number z ∷ m; alt = alt })
effect hash valid (Some (Binary b)) m alt = on_main (binary_of b m) alt
effect hash valid (Some If) m alt = None
effect hash valid (Some NotIf) m alt = None
effect hash valid (Some Else) m alt = None
effect hash valid (Some EndIf) m alt = None
effect hash valid (Some Nop) m alt = Some (record { main = m; alt = alt })
effect hash valid (Some Verify) m alt = on_main (verify_of m) alt
effect hash valid (Some Return) m alt = None
effect hash valid (Some ToAltStack) m alt = moved_to_alt m alt
effect hash valid (Some FromAltStack) m alt = moved_from_alt m alt
effect hash valid (Some Drop) m alt = on_main (drop_of m) alt
effect hash valid (Some Dup) m alt = on_main (dup_of m) alt
effect hash valid (Some Pick) m alt = on_main (pick_of m) alt
effect hash valid (Some Swap) m alt = on_main (swap_of m) alt
effect hash valid (Some Size) m alt = on_main (size_of m) alt
effect hash valid (Some Equal) m alt = on_main (equal_of m) alt
effect hash valid (Some EqualVerify) m alt = on_main (option_and_then verify_of (equal_of m)) alt
effect hash valid (Some Not) m alt = on_main (not_of m) alt
effect hash valid (Some Within) m alt = on_main (within_of m) alt
effect hash valid (Some Sha256) m alt = on_main (hash_of hash m) alt
effect hash valid (Some Hash256) m alt = on_main (hash_of (λ x. hash (hash x)) m) alt
effect hash valid (Some CheckSig) m alt = on_main (check_sig_of valid m) alt
effect hash valid (Some CheckSigVerify) m alt = on_main (option_and_then verify_of (check_sig_of valid m)) alt
