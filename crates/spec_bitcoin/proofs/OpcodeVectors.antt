-- What each opcode makes of the stacks, worked out: rows of results for every opcode of the table, also those that contracts don't emit.
use Rattle.std.proofs.Common.{◌≡◌, ℕ, zero, suc, ◌+◌, List, [], ◌∷◌, ◌++◌, Bool, true, false, Option, Some, None, replicate, refl}
use Rattle.std.proofs.Common.{ℤ, pos, negsuc}
use Rattle.std.specs.Prelude.{length, is_some, option_map, map, if◌then◌else◌, ◌==◌}
use Rattle.std.specs.List.{filter}
use Rattle.std.specs.Option.{option_and_then}
use Rattle.std.specs.Str.{bytes_eq}
use Rattle.spec_bitcoin.specs.declared.script.Op.{Op}
use Rattle.spec_bitcoin.specs.declared.script.Op.TheVariants.{Push, Code}
use Rattle.spec_bitcoin.specs.Opcodes.{opcode_of}
use Rattle.spec_bitcoin.specs.Numbers.{number_of_item, item_of_number, signed_bytes}
use Rattle.spec_bitcoin.specs.Effects.{Item, Stacks}
use Rattle.spec_bitcoin.specs.Scripts.{encode_op, first_op}
use Rattle.spec_bitcoin.specs.Meaning.{run, outcome, is_counted}
use Rattle.spec_bitcoin.specs.Trees.{tree_of}

-- ---- which bytes have an opcode

-- the numbers below this one, in order
abbrev below : ℕ → List ℕ
below zero = []
below (suc n) = below n ++ n ∷ []

bytes_with_an_opcode :
    filter (λ c. is_some (opcode_of c)) (below 256)
    ≡ 0x4f ∷ 0x51 ∷ 0x52 ∷ 0x53 ∷ 0x54 ∷ 0x55 ∷ 0x56 ∷ 0x57 ∷ 0x58 ∷ 0x59 ∷ 0x5a ∷ 0x5b ∷ 0x5c ∷ 0x5d ∷ 0x5e ∷ 0x5f ∷ 0x60 ∷ 0x61 ∷ 0x63
    ∷ 0x64 ∷ 0x67 ∷ 0x68 ∷ 0x69 ∷ 0x6a ∷ 0x6b ∷ 0x6c ∷ 0x75 ∷ 0x76 ∷ 0x79 ∷ 0x7c ∷ 0x82 ∷ 0x87 ∷ 0x88 ∷ 0x91 ∷ 0x93 ∷ 0x94 ∷ 0x9a ∷ 0x9b
    ∷ 0x9c ∷ 0x9f ∷ 0xa3 ∷ 0xa4 ∷ 0xa5 ∷ 0xa8 ∷ 0xaa ∷ 0xac ∷ 0xad ∷ []
bytes_with_an_opcode = refl

-- the opcodes above 0x60 count against the limit
counted_bytes : map (λ c. is_counted (Code c)) (0x4f ∷ 0x51 ∷ 0x60 ∷ 0x61 ∷ 0x63 ∷ 0xad ∷ [])
    ≡ false ∷ false ∷ false ∷ true ∷ true ∷ true ∷ []
counted_bytes = refl

-- ---- operations on stacks

-- a hash and a oracle of signatures for test vectors: neither is the same the other way round
abbrev marked : Item → Item
marked x = 9 ∷ x

abbrev judged : Item → Item → Bool
judged signature key = bytes_eq signature (7 ∷ key)

-- both stacks after these operations
abbrev both_after : List Op → List Item → List Item → Option Stacks
both_after ops stack alt =
    option_and_then (λ items. run marked judged items (record { main = stack; alt = alt })) (tree_of ops)

-- the main stack after the operation of this byte, on a stack from its top
abbrev made : ℕ → List Item → Option (List Item)
made c stack = option_map (λ s. s.main) (outcome marked judged (Code c ∷ []) stack)

-- on each of these stacks
abbrev rows : ℕ → List (List Item) → List (Option (List Item))
rows c stacks = map (made c) stacks

abbrev one : Item
one = 1 ∷ []

abbrev two : Item
two = 2 ∷ []

abbrev three : Item
three = 3 ∷ []

-- five bytes are no number
abbrev long : Item
long = replicate 5 1

-- ---- numbers that are pushed

constants : map (λ k. made (80 + k) []) (below 17) ≡ None ∷ map (λ k. Some ((suc k ∷ []) ∷ [])) (below 16)
unfolding item_of_number signed_bytes number_of_item
constants = refl

minus_one : made 0x4f (one ∷ []) ≡ Some ((0x81 ∷ []) ∷ one ∷ [])
unfolding item_of_number signed_bytes number_of_item
minus_one = refl

-- ---- one or two items

nop : rows 0x61 ([] ∷ (one ∷ []) ∷ []) ≡ Some [] ∷ Some (one ∷ []) ∷ []
nop = refl

verify : rows 0x69 ([] ∷ (one ∷ two ∷ []) ∷ ([] ∷ two ∷ []) ∷ ((0x80 ∷ []) ∷ []) ∷ []) ≡ None ∷ Some (two ∷ []) ∷ None ∷ None ∷ []
verify = refl

return : rows 0x6a ([] ∷ (one ∷ []) ∷ []) ≡ None ∷ None ∷ []
return = refl

to_alt_stack :
    map (λ stack. both_after (Code 0x6b ∷ []) stack (three ∷ [])) ([] ∷ (one ∷ two ∷ []) ∷ [])
    ≡ None ∷ Some (record { main = two ∷ []; alt = one ∷ three ∷ [] }) ∷ []
to_alt_stack = refl

from_alt_stack :
    map (λ alt. both_after (Code 0x6c ∷ []) (three ∷ []) alt) ([] ∷ (one ∷ two ∷ []) ∷ [])
    ≡ None ∷ Some (record { main = one ∷ three ∷ []; alt = two ∷ [] }) ∷ []
from_alt_stack = refl

drop : rows 0x75 ([] ∷ (one ∷ two ∷ []) ∷ []) ≡ None ∷ Some (two ∷ []) ∷ []
drop = refl

dup : rows 0x76 ([] ∷ (one ∷ two ∷ []) ∷ []) ≡ None ∷ Some (one ∷ one ∷ two ∷ []) ∷ []
dup = refl

pick :
    rows 0x79 ([] ∷ ([] ∷ []) ∷ ([] ∷ one ∷ two ∷ []) ∷ (one ∷ one ∷ two ∷ []) ∷ (two ∷ one ∷ two ∷ []) ∷ ((0x81 ∷ []) ∷ one ∷ [])
    ∷ (long ∷ one ∷ []) ∷ [])
    ≡ None ∷ None ∷ Some (one ∷ one ∷ two ∷ []) ∷ Some (two ∷ one ∷ two ∷ []) ∷ None ∷ None ∷ None ∷ []
unfolding item_of_number signed_bytes number_of_item
pick = refl

swap : rows 0x7c ([] ∷ (one ∷ []) ∷ (one ∷ two ∷ three ∷ []) ∷ []) ≡ None ∷ None ∷ Some (two ∷ one ∷ three ∷ []) ∷ []
swap = refl

size :
    rows 0x82 ([] ∷ ([] ∷ []) ∷ (three ∷ []) ∷ (replicate 127 0 ∷ []) ∷ (replicate 128 0 ∷ []) ∷ [])
    ≡ None ∷ Some ([] ∷ [] ∷ []) ∷ Some (one ∷ three ∷ []) ∷ Some ((127 ∷ []) ∷ replicate 127 0 ∷ [])
    ∷ Some ((128 ∷ 0 ∷ []) ∷ replicate 128 0 ∷ []) ∷ []
unfolding item_of_number signed_bytes number_of_item
size = refl

equal :
    rows 0x87 ([] ∷ (one ∷ []) ∷ (one ∷ one ∷ two ∷ []) ∷ (one ∷ two ∷ two ∷ []) ∷ ((1 ∷ 0 ∷ []) ∷ one ∷ []) ∷ [])
    ≡ None ∷ None ∷ Some (one ∷ two ∷ []) ∷ Some ([] ∷ two ∷ []) ∷ Some ([] ∷ []) ∷ []
equal = refl

equal_verify :
    rows 0x88 ([] ∷ (one ∷ []) ∷ (one ∷ one ∷ two ∷ []) ∷ (one ∷ two ∷ two ∷ []) ∷ []) ≡ None ∷ None ∷ Some (two ∷ []) ∷ None ∷ []
equal_verify = refl

not_a_number :
    rows 0x91 ([] ∷ ([] ∷ two ∷ []) ∷ (one ∷ two ∷ []) ∷ (two ∷ []) ∷ ((0x81 ∷ []) ∷ []) ∷ ((0x80 ∷ []) ∷ []) ∷ (long ∷ []) ∷ [])
    ≡ None ∷ Some (one ∷ two ∷ []) ∷ Some ([] ∷ two ∷ []) ∷ Some ([] ∷ []) ∷ Some ([] ∷ []) ∷ Some (one ∷ []) ∷ None ∷ []
unfolding item_of_number signed_bytes number_of_item
not_a_number = refl

-- ---- hashes and signatures

sha256 : rows 0xa8 ([] ∷ (one ∷ two ∷ []) ∷ []) ≡ None ∷ Some ((9 ∷ one) ∷ two ∷ []) ∷ []
sha256 = refl

hash256 : rows 0xaa ([] ∷ (one ∷ two ∷ []) ∷ []) ≡ None ∷ Some ((9 ∷ 9 ∷ one) ∷ two ∷ []) ∷ []
hash256 = refl

-- the key is the top, the signature under it
check_sig :
    rows 0xac ([] ∷ (one ∷ []) ∷ (one ∷ (7 ∷ one) ∷ two ∷ []) ∷ ((7 ∷ one) ∷ one ∷ two ∷ []) ∷ [])
    ≡ None ∷ None ∷ Some (one ∷ two ∷ []) ∷ Some ([] ∷ two ∷ []) ∷ []
check_sig = refl

check_sig_verify :
    rows 0xad ([] ∷ (one ∷ []) ∷ (one ∷ (7 ∷ one) ∷ two ∷ []) ∷ ((7 ∷ one) ∷ one ∷ two ∷ []) ∷ [])
    ≡ None ∷ None ∷ Some (two ∷ []) ∷ None ∷ []
check_sig_verify = refl

-- ---- two numbers

-- the second from the top, and the top
abbrev pairs : List (ℤ × ℤ)
pairs =
    (negsuc 0, negsuc 0) ∷ (negsuc 0, pos 0) ∷ (negsuc 0, pos 1) ∷ (pos 0, negsuc 0) ∷ (pos 0, pos 0)
    ∷ (pos 0, pos 1) ∷ (pos 1, negsuc 0) ∷ (pos 1, pos 0) ∷ (pos 1, pos 1) ∷ (pos 2, pos 3)
    ∷ (pos 3, pos 2) ∷ []

-- the number that an operation leaves alone on the stack of these two
abbrev of_pair : ℕ → ℤ × ℤ → Option ℤ
of_pair c p =
    option_and_then (λ stack. elim stack as (λ _. Option ℤ) [ [] ↦ None | x ∷ rest ↦ if length rest == 0 then number_of_item x else None ])
    (made c (item_of_number p.1 ∷ item_of_number p.0 ∷ []))

abbrev table : ℕ → List (Option ℤ)
table c = map (of_pair c) pairs

abbrev numbers : List ℤ → List (Option ℤ)
numbers zs = map Some zs

-- on no item, on one, and with an item of five bytes at either place
abbrev stuck : ℕ → List (Option (List Item))
stuck c = rows c ([] ∷ (one ∷ []) ∷ (long ∷ one ∷ []) ∷ (one ∷ long ∷ []) ∷ [])

add : table 0x93 ≡ numbers (negsuc 1 ∷ negsuc 0 ∷ pos 0 ∷ negsuc 0 ∷ pos 0 ∷ pos 1 ∷ pos 0 ∷ pos 1 ∷ pos 2 ∷ pos 5 ∷ pos 5 ∷ [])
unfolding item_of_number signed_bytes number_of_item
add = refl

sub : table 0x94 ≡ numbers (pos 0 ∷ negsuc 0 ∷ negsuc 1 ∷ pos 1 ∷ pos 0 ∷ negsuc 0 ∷ pos 2 ∷ pos 1 ∷ pos 0 ∷ negsuc 0 ∷ pos 1 ∷ [])
unfolding item_of_number signed_bytes number_of_item
sub = refl

bool_and : table 0x9a ≡ numbers (pos 1 ∷ pos 0 ∷ pos 1 ∷ pos 0 ∷ pos 0 ∷ pos 0 ∷ pos 1 ∷ pos 0 ∷ pos 1 ∷ pos 1 ∷ pos 1 ∷ [])
unfolding item_of_number signed_bytes number_of_item
bool_and = refl

bool_or : table 0x9b ≡ numbers (pos 1 ∷ pos 1 ∷ pos 1 ∷ pos 1 ∷ pos 0 ∷ pos 1 ∷ pos 1 ∷ pos 1 ∷ pos 1 ∷ pos 1 ∷ pos 1 ∷ [])
unfolding item_of_number signed_bytes number_of_item
bool_or = refl

num_equal : table 0x9c ≡ numbers (pos 1 ∷ pos 0 ∷ pos 0 ∷ pos 0 ∷ pos 1 ∷ pos 0 ∷ pos 0 ∷ pos 0 ∷ pos 1 ∷ pos 0 ∷ pos 0 ∷ [])
unfolding item_of_number signed_bytes number_of_item
num_equal = refl

less_than : table 0x9f ≡ numbers (pos 0 ∷ pos 1 ∷ pos 1 ∷ pos 0 ∷ pos 0 ∷ pos 1 ∷ pos 0 ∷ pos 0 ∷ pos 0 ∷ pos 1 ∷ pos 0 ∷ [])
unfolding item_of_number signed_bytes number_of_item
less_than = refl

min : table 0xa3 ≡ numbers (negsuc 0 ∷ negsuc 0 ∷ negsuc 0 ∷ negsuc 0 ∷ pos 0 ∷ pos 0 ∷ negsuc 0 ∷ pos 0 ∷ pos 1 ∷ pos 2 ∷ pos 2 ∷ [])
unfolding item_of_number signed_bytes number_of_item
min = refl

max : table 0xa4 ≡ numbers (negsuc 0 ∷ pos 0 ∷ pos 1 ∷ pos 0 ∷ pos 0 ∷ pos 1 ∷ pos 1 ∷ pos 1 ∷ pos 1 ∷ pos 3 ∷ pos 3 ∷ [])
unfolding item_of_number signed_bytes number_of_item
max = refl

stuck_on_numbers :
    map stuck (0x93 ∷ 0x94 ∷ 0x9a ∷ 0x9b ∷ 0x9c ∷ 0x9f ∷ 0xa3 ∷ 0xa4 ∷ []) ≡ replicate 8 (replicate 4 None)
unfolding item_of_number signed_bytes number_of_item
stuck_on_numbers = refl

-- what lies below stays
below_stays : made 0x94 (one ∷ three ∷ two ∷ []) ≡ Some (two ∷ two ∷ [])
unfolding item_of_number signed_bytes number_of_item
below_stays = refl

-- a number from the second on and below the third, which is the top
within :
    rows 0xa5 ((two ∷ one ∷ one ∷ three ∷ []) ∷ (two ∷ one ∷ two ∷ []) ∷ (two ∷ one ∷ [] ∷ []) ∷ (one ∷ (0x81 ∷ []) ∷ [] ∷ [])
    ∷ (one ∷ two ∷ one ∷ []) ∷ [])
    ≡ Some (one ∷ three ∷ []) ∷ Some ([] ∷ []) ∷ Some ([] ∷ []) ∷ Some (one ∷ []) ∷ Some ([] ∷ []) ∷ []
unfolding item_of_number signed_bytes number_of_item
within = refl

stuck_within :
    rows 0xa5 ([] ∷ (one ∷ []) ∷ (one ∷ one ∷ []) ∷ (long ∷ one ∷ one ∷ []) ∷ (one ∷ long ∷ one ∷ []) ∷ (one ∷ one ∷ long ∷ []) ∷ [])
    ≡ replicate 6 None
unfolding item_of_number signed_bytes number_of_item
stuck_within = refl

-- ---- blocks

-- the sections of a block push 1, 2 and 3, if any item is left to choose by
abbrev chosen : ℕ → List Item → Option (List Item)
chosen c stack =
    option_map (λ s. s.main) (outcome marked judged
    (Code c ∷ Code 0x51 ∷ Code 0x67 ∷ Code 0x52 ∷ Code 0x67 ∷ Code 0x53 ∷ Code 0x68 ∷ []) stack)

abbrev chosen_by : ℕ → List (Option (List Item))
chosen_by c = map (chosen c) ([] ∷ (one ∷ []) ∷ ([] ∷ []) ∷ ((0x80 ∷ []) ∷ []) ∷ (two ∷ one ∷ []) ∷ [])

if_ : chosen_by 0x63 ≡ None ∷ Some (three ∷ one ∷ []) ∷ Some (two ∷ []) ∷ Some (two ∷ []) ∷ Some (three ∷ one ∷ one ∷ []) ∷ []
unfolding item_of_number signed_bytes number_of_item
if_ = refl

not_if : chosen_by 0x64 ≡ None ∷ Some (two ∷ []) ∷ Some (three ∷ one ∷ []) ∷ Some (three ∷ one ∷ []) ∷ Some (two ∷ one ∷ []) ∷ []
unfolding item_of_number signed_bytes number_of_item
not_if = refl

-- a block within a section, whose ELSE is its own
inner_block :
    map (λ (stack : List Item). option_map (λ s. s.main) (outcome marked judged
    (Code 0x63 ∷ Code 0x64 ∷ Code 0x51 ∷ Code 0x67 ∷ Code 0x52 ∷ Code 0x68 ∷ Code 0x67 ∷ Code 0x53 ∷ Code 0x68 ∷ []) stack))
    ((one ∷ [] ∷ []) ∷ (one ∷ one ∷ []) ∷ ([] ∷ one ∷ []) ∷ [])
    ≡ Some (one ∷ []) ∷ Some (two ∷ []) ∷ Some (three ∷ one ∷ []) ∷ []
unfolding item_of_number signed_bytes number_of_item
inner_block = refl

-- ELSE and ENDIF without a block, and a block without its end
unmatched :
    map (λ ops. is_some (tree_of ops))
    ((Code 0x67 ∷ []) ∷ (Code 0x68 ∷ []) ∷ (Code 0x63 ∷ []) ∷ (Code 0x64 ∷ Code 0x67 ∷ []) ∷ (Code 0x63 ∷ Code 0x68 ∷ Code 0x68 ∷ [])
    ∷ (Code 0x63 ∷ Code 0x68 ∷ []) ∷ [])
    ≡ false ∷ false ∷ false ∷ false ∷ false ∷ true ∷ []
unmatched = refl

-- ---- pushes

-- a push is written by the shortest of three heads
heads_of_pushes :
    map (λ k. encode_op (Push (replicate k 5))) (0 ∷ 1 ∷ 75 ∷ 76 ∷ 255 ∷ 256 ∷ 520 ∷ [])
    ≡ (0 ∷ []) ∷ (1 ∷ 5 ∷ []) ∷ (75 ∷ replicate 75 5) ∷ (76 ∷ 76 ∷ replicate 76 5) ∷ (76 ∷ 255 ∷ replicate 255 5)
    ∷ (77 ∷ 0 ∷ 1 ∷ replicate 256 5) ∷ (77 ∷ 8 ∷ 2 ∷ replicate 520 5) ∷ []
heads_of_pushes = refl

-- and read by each of four
pushes_read :
    map first_op ((1 ∷ 5 ∷ 6 ∷ []) ∷ (76 ∷ 1 ∷ 5 ∷ 6 ∷ []) ∷ (77 ∷ 1 ∷ 0 ∷ 5 ∷ 6 ∷ []) ∷ (78 ∷ 1 ∷ 0 ∷ 0 ∷ 0 ∷ 5 ∷ 6 ∷ []) ∷ [])
    ≡ replicate 4 (Some (Push (5 ∷ []), 6 ∷ []))
pushes_read = refl

cut_off_pushes :
    map first_op ((2 ∷ 5 ∷ []) ∷ (76 ∷ []) ∷ (76 ∷ 2 ∷ 5 ∷ []) ∷ (77 ∷ 1 ∷ []) ∷ (78 ∷ 1 ∷ 0 ∷ 0 ∷ []) ∷ (79 ∷ 5 ∷ []) ∷ (80 ∷ 5 ∷ []) ∷ [])
    ≡ None ∷ None ∷ None ∷ None ∷ None ∷ Some (Code 79, 5 ∷ []) ∷ None ∷ []
cut_off_pushes = refl
