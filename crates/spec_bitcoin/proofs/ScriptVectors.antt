-- Values of the meaning of scripts at the ends of their limits, worked out.
use Rattle.std.proofs.Common.{◌≡◌, ℕ, List, [], ◌∷◌, ◌++◌, Bool, true, false, Option, Some, None, replicate, refl, pos, negsuc}
use Rattle.std.specs.Prelude.{length, is_some, option_map}
use Rattle.std.specs.List.{flat_map}
use Rattle.spec_bitcoin.specs.declared.script.Op.{Op}
use Rattle.spec_bitcoin.specs.declared.script.Op.TheVariants.{Push}
use Rattle.spec_bitcoin.specs.Opcodes.{op_1negate, op_1, op_if, op_notif, op_else, op_endif, op_toaltstack, op_fromaltstack, op_drop}
use Rattle.spec_bitcoin.specs.Opcodes.{op_pick, op_swap, op_size, op_equal, op_not, op_add, op_sub, op_booland, op_boolor, op_min, op_max}
use Rattle.spec_bitcoin.specs.Numbers.{number_of_item, item_of_number, signed_bytes}
use Rattle.spec_bitcoin.specs.Scripts.{ops_of, encode, push_number}
use Rattle.spec_bitcoin.specs.Meaning.{script_meaning, outcome}

-- ---- bytes and operations on an empty stack, with no signature valid

abbrev is_true : List ℕ → Bool
is_true script = script_meaning (λ x. x) (λ s k. false) script []

-- the main stack that the operations leave, from its top
abbrev left : List Op → Option (List (List ℕ))
left ops = option_map (λ s. s.main) (outcome (λ x. x) (λ s k. false) ops [])

-- the shortest push of a number
abbrev n : ℕ → Op
n k = push_number (pos k)

-- ---- limits

-- a push of so many bytes, each of them 1
abbrev long_push : ℕ → ℕ → ℕ → List ℕ
long_push count low high = 77 ∷ low ∷ high ∷ replicate count 1

-- an item may have 520 bytes
longest_push : is_true (long_push 520 8 2) ≡ true
unfolding script_meaning ops_of
longest_push = refl

too_long_push : is_true (long_push 521 9 2) ≡ false
unfolding script_meaning ops_of
too_long_push = refl

-- 19 of these pushes, one of so many bytes, and 19 times DROP: 9,957 bytes and those of the one push
abbrev full : ℕ → List ℕ
full rest = flat_map {X = ℕ} (λ x. long_push 520 8 2) (replicate 19 0) ++ (rest ∷ replicate rest 1 ++ replicate 19 0x75)

full_bytes : length (full 43) ≡ 10000
full_bytes = refl

-- a script may have 10,000 bytes
longest_script : is_true (full 43) ≡ true
unfolding script_meaning ops_of
longest_script = refl

too_long_script : is_true (full 44) ≡ false
unfolding script_meaning ops_of
too_long_script = refl

-- both stacks together may hold 1,000 items
most_items : is_some (left (replicate 1000 op_1)) ≡ true
unfolding item_of_number signed_bytes
most_items = refl

too_many_items : left (replicate 1001 op_1) ≡ None
unfolding item_of_number signed_bytes
too_many_items = refl

-- those of the other stack count, too
too_many_items_aside : left (op_1 ∷ op_toaltstack ∷ replicate 1000 op_1) ≡ None
unfolding item_of_number signed_bytes
too_many_items_aside = refl

-- ---- operations

copied_top : left (n 7 ∷ n 8 ∷ n 0 ∷ op_pick ∷ []) ≡ Some ((8 ∷ []) ∷ (8 ∷ []) ∷ (7 ∷ []) ∷ [])
unfolding item_of_number signed_bytes number_of_item
copied_top = refl

copied_second : left (n 7 ∷ n 8 ∷ n 1 ∷ op_pick ∷ []) ≡ Some ((7 ∷ []) ∷ (8 ∷ []) ∷ (7 ∷ []) ∷ [])
unfolding item_of_number signed_bytes number_of_item
copied_second = refl

-- nothing lies so deep, or above the top
copied_too_deep : left (n 7 ∷ n 8 ∷ n 2 ∷ op_pick ∷ []) ≡ None
unfolding item_of_number signed_bytes number_of_item
copied_too_deep = refl

copied_above : left (n 7 ∷ op_1negate ∷ op_pick ∷ []) ≡ None
unfolding item_of_number signed_bytes number_of_item
copied_above = refl

-- SIZE leaves the item
size_of_none : left (n 0 ∷ op_size ∷ []) ≡ Some ([] ∷ [] ∷ [])
unfolding item_of_number signed_bytes
size_of_none = refl

size_of_300 : left (Push (replicate 300 5) ∷ op_size ∷ []) ≡ Some ((44 ∷ 1 ∷ []) ∷ replicate 300 5 ∷ [])
unfolding item_of_number signed_bytes
size_of_300 = refl

-- what was put aside last comes back first, and nothing comes back that wasn't put aside
back_in_turn :
    left (n 7 ∷ n 8 ∷ op_toaltstack ∷ op_toaltstack ∷ n 9 ∷ op_fromaltstack ∷ op_fromaltstack ∷ [])
    ≡ Some ((8 ∷ []) ∷ (7 ∷ []) ∷ (9 ∷ []) ∷ [])
unfolding item_of_number signed_bytes
back_in_turn = refl

nothing_aside : left (n 7 ∷ op_fromaltstack ∷ []) ≡ None
unfolding item_of_number signed_bytes
nothing_aside = refl

-- what is left aside at the end does no harm
left_aside : is_true (0x51 ∷ 0x51 ∷ 0x6b ∷ []) ≡ true
unfolding script_meaning ops_of item_of_number signed_bytes
left_aside = refl

-- NOTIF takes its first section on a false item, and IF on a true one
first_if_not : left (n 0 ∷ op_notif ∷ n 7 ∷ op_else ∷ n 8 ∷ op_endif ∷ []) ≡ Some ((7 ∷ []) ∷ [])
unfolding item_of_number signed_bytes
first_if_not = refl

second_if_not : left (n 1 ∷ op_notif ∷ n 7 ∷ op_else ∷ n 8 ∷ op_endif ∷ []) ≡ Some ((8 ∷ []) ∷ [])
unfolding item_of_number signed_bytes
second_if_not = refl

second_if : left (n 0 ∷ op_if ∷ n 7 ∷ op_else ∷ n 8 ∷ op_endif ∷ []) ≡ Some ((8 ∷ []) ∷ [])
unfolding item_of_number signed_bytes
second_if = refl

-- -1 is the byte 81
minus_one : left (op_1negate ∷ []) ≡ Some ((0x81 ∷ []) ∷ [])
unfolding item_of_number signed_bytes
minus_one = refl

minimum : left (n 1 ∷ op_1negate ∷ op_min ∷ []) ≡ Some ((0x81 ∷ []) ∷ [])
unfolding item_of_number signed_bytes number_of_item
minimum = refl

maximum : left (n 1 ∷ op_1negate ∷ op_max ∷ []) ≡ Some ((1 ∷ []) ∷ [])
unfolding item_of_number signed_bytes number_of_item
maximum = refl

-- truth values of numbers, and of the empty item
either_one : left (n 0 ∷ op_1negate ∷ op_boolor ∷ []) ≡ Some ((1 ∷ []) ∷ [])
unfolding item_of_number signed_bytes number_of_item
either_one = refl

not_both : left (n 0 ∷ op_1negate ∷ op_booland ∷ []) ≡ Some ([] ∷ [])
unfolding item_of_number signed_bytes number_of_item
not_both = refl

not_of_two : left (n 2 ∷ op_not ∷ []) ≡ Some ([] ∷ [])
unfolding item_of_number signed_bytes number_of_item
not_of_two = refl

-- the same number, spelled by another item, is equal as a number alone
other_item : left (Push (0x80 ∷ []) ∷ n 0 ∷ op_equal ∷ []) ≡ Some ([] ∷ [])
unfolding item_of_number signed_bytes
other_item = refl

swapped : left (n 1 ∷ n 2 ∷ op_swap ∷ op_sub ∷ []) ≡ Some ((1 ∷ []) ∷ [])
unfolding item_of_number signed_bytes number_of_item
swapped = refl

-- ---- results of five bytes

-- the greatest operand is 2 ^ 31 - 1
abbrev greatest : Op
greatest = Push (0xff ∷ 0xff ∷ 0xff ∷ 0x7f ∷ [])

abbrev least : Op
least = Push (0xff ∷ 0xff ∷ 0xff ∷ 0xff ∷ [])

five_bytes : left (greatest ∷ greatest ∷ op_add ∷ []) ≡ Some ((0xfe ∷ 0xff ∷ 0xff ∷ 0xff ∷ 0 ∷ []) ∷ [])
unfolding item_of_number signed_bytes number_of_item
five_bytes = refl

five_bytes_below : left (least ∷ greatest ∷ op_sub ∷ []) ≡ Some ((0xfe ∷ 0xff ∷ 0xff ∷ 0xff ∷ 0x80 ∷ []) ∷ [])
unfolding item_of_number signed_bytes number_of_item
five_bytes_below = refl

-- such a result is no operand
no_operand : left (greatest ∷ greatest ∷ op_add ∷ n 1 ∷ op_sub ∷ []) ≡ None
unfolding item_of_number signed_bytes number_of_item
no_operand = refl
