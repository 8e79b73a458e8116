-- Values of the definitions, worked out.
use Rattle.std.proofs.Common.{◌≡◌, ℕ, List, [], ◌∷◌, ◌++◌, Bool, true, false, Some, None, Ok, Err, replicate, refl, pos, negsuc, codes}
use Rattle.std.specs.Fmt.{digits}
use Rattle.spec_bitcoin.specs.declared.tx.Tx.{Tx}
use Rattle.spec_bitcoin.specs.declared.script.Op.TheVariants.{Push, Code}
use Rattle.spec_bitcoin.specs.declared.label.Label.TheVariants.{Deposit, Branch}
use Rattle.spec_terms.specs.declared.path.PathStep.TheVariants.{Branch as BranchStep, Part}
use Rattle.spec_bitcoin.specs.Spelling.{compact, stripped, marked, spelling}
use Rattle.spec_bitcoin.specs.Reading.{many, wide_at, compact_at, string_at, input_at, inputs_at, output_at, outputs_at, witness_at, witnesses_at, plain_at, marked_at, transaction_at, all_at, transaction_of}
use Rattle.spec_bitcoin.specs.Numbers.{number_of_item, item_of_number, signed_bytes}
use Rattle.spec_bitcoin.specs.Scripts.{ops_of, encode, push_number}
use Rattle.spec_bitcoin.specs.Meaning.{script_meaning}
use Rattle.spec_bitcoin.specs.Keys.{label_text}

-- ---- scripts on an empty stack, with no signature valid

abbrev is_true : List ℕ → Bool
is_true script = script_meaning (λ x. x) (λ s k. false) script []

-- 201 operations count, and one more is too many
most_operations : is_true (0x51 ∷ replicate 201 0x61) ≡ true
unfolding script_meaning ops_of item_of_number signed_bytes
most_operations = refl

too_many_operations : is_true (0x51 ∷ replicate 202 0x61) ≡ false
unfolding script_meaning ops_of item_of_number signed_bytes
too_many_operations = refl

-- operations that don't run count, too
most_that_do_not_run : is_true (0 ∷ 0x63 ∷ (replicate 199 0x61 ++ 0x68 ∷ 0x51 ∷ [])) ≡ true
unfolding script_meaning ops_of item_of_number signed_bytes
most_that_do_not_run = refl

too_many_that_do_not_run : is_true (0 ∷ 0x63 ∷ (replicate 200 0x61 ++ 0x68 ∷ 0x51 ∷ [])) ≡ false
unfolding script_meaning ops_of item_of_number signed_bytes
too_many_that_do_not_run = refl

-- the second ELSE of a block runs again
second_else : is_true (0x51 ∷ 0x63 ∷ 0 ∷ 0x67 ∷ 0x51 ∷ 0x67 ∷ 0x75 ∷ 0x51 ∷ 0x68 ∷ []) ≡ true
unfolding script_meaning ops_of item_of_number signed_bytes
second_else = refl

-- negative zero, zeros, two items, none; an unlisted byte that doesn't run; RETURN
negative_zero : is_true (1 ∷ 0x80 ∷ []) ≡ false
unfolding script_meaning ops_of
negative_zero = refl

zeros : is_true (2 ∷ 0 ∷ 0x80 ∷ []) ≡ false
unfolding script_meaning ops_of
zeros = refl

two_items : is_true (0x51 ∷ 0x51 ∷ []) ≡ false
unfolding script_meaning ops_of item_of_number signed_bytes
two_items = refl

no_item : is_true [] ≡ false
unfolding script_meaning ops_of
no_item = refl

unlisted : is_true (0x51 ∷ 0x63 ∷ 0x7e ∷ 0x68 ∷ []) ≡ false
unfolding script_meaning ops_of
unlisted = refl

returns : is_true (0x6a ∷ []) ≡ false
unfolding script_meaning ops_of
returns = refl

-- NUMEQUAL, LESSTHAN, WITHIN; an unlisted opcode; an IF that finds no item
equal_numbers : is_true (0x51 ∷ 0x51 ∷ 0x9c ∷ []) ≡ true
unfolding script_meaning ops_of item_of_number signed_bytes number_of_item
equal_numbers = refl

less : is_true (0x51 ∷ 0x52 ∷ 0x9f ∷ []) ≡ true
unfolding script_meaning ops_of item_of_number signed_bytes number_of_item
less = refl

not_less : is_true (0x52 ∷ 0x51 ∷ 0x9f ∷ []) ≡ false
unfolding script_meaning ops_of item_of_number signed_bytes number_of_item
not_less = refl

within : is_true (0x51 ∷ 0 ∷ 0x52 ∷ 0xa5 ∷ []) ≡ true
unfolding script_meaning ops_of item_of_number signed_bytes number_of_item
within = refl

not_within : is_true (0x52 ∷ 0 ∷ 0x52 ∷ 0xa5 ∷ []) ≡ false
unfolding script_meaning ops_of item_of_number signed_bytes number_of_item
not_within = refl

unlisted_greater : is_true (0x51 ∷ 0x52 ∷ 0xa0 ∷ []) ≡ false
unfolding script_meaning ops_of
unlisted_greater = refl

nothing_to_choose_by : is_true (0x63 ∷ 0x6a ∷ 0x67 ∷ 0x51 ∷ []) ≡ false
unfolding script_meaning ops_of
nothing_to_choose_by = refl

-- ---- numbers

number_of_nothing : number_of_item [] ≡ Some (pos 0)
unfolding number_of_item
number_of_nothing = refl

number_of_negative_zero : number_of_item (0x80 ∷ []) ≡ Some (pos 0)
unfolding number_of_item
number_of_negative_zero = refl

number_of_two_bytes : number_of_item (0xff ∷ 0x7f ∷ []) ≡ Some (pos 32767)
unfolding number_of_item
number_of_two_bytes = refl

number_below_zero : number_of_item (0xff ∷ 0xff ∷ []) ≡ Some (negsuc 32766)
unfolding number_of_item
number_below_zero = refl

number_of_five_bytes : number_of_item (0 ∷ 0 ∷ 0 ∷ 0 ∷ 0 ∷ []) ≡ None
unfolding number_of_item
number_of_five_bytes = refl

push_521 : encode (push_number (pos 521) ∷ []) ≡ 2 ∷ 9 ∷ 2 ∷ []
unfolding item_of_number signed_bytes
push_521 = refl

push_minus_one : push_number (negsuc 0) ≡ Code 0x4f
push_minus_one = refl

push_16 : push_number (pos 16) ≡ Code 0x60
push_16 = refl

push_17 : push_number (pos 17) ≡ Push (17 ∷ [])
unfolding item_of_number signed_bytes
push_17 = refl

-- ---- counts at the ends of their forms

count_252 : compact 252 ≡ 252 ∷ []
unfolding compact
count_252 = refl

count_253 : compact 253 ≡ 253 ∷ 253 ∷ 0 ∷ []
unfolding compact
count_253 = refl

count_65535 : compact 65535 ≡ 253 ∷ 255 ∷ 255 ∷ []
unfolding compact
count_65535 = refl

count_65536 : compact 65536 ≡ 254 ∷ 0 ∷ 0 ∷ 1 ∷ 0 ∷ []
unfolding compact
count_65536 = refl

count_4294967295 : compact 4294967295 ≡ 254 ∷ 255 ∷ 255 ∷ 255 ∷ 255 ∷ []
unfolding compact
count_4294967295 = refl

count_4294967296 : compact 4294967296 ≡ 255 ∷ 0 ∷ 0 ∷ 0 ∷ 0 ∷ 1 ∷ 0 ∷ 0 ∷ 0 ∷ []
unfolding compact
count_4294967296 = refl

-- ---- transactions

-- cut off after the version
cut_off : transaction_of (2 ∷ 0 ∷ 0 ∷ 0 ∷ []) ≡ Err 4
unfolding all_at transaction_at plain_at inputs_at compact_at
cut_off = refl

-- a count that is longer than it needs
long_count : transaction_of (2 ∷ 0 ∷ 0 ∷ 0 ∷ 0xfd ∷ 5 ∷ 0 ∷ []) ≡ Err 6
unfolding all_at transaction_at plain_at inputs_at compact_at wide_at
long_count = refl

-- a zero byte after the version is the marker
no_flag : transaction_of (2 ∷ 0 ∷ 0 ∷ 0 ∷ 0 ∷ 0 ∷ []) ≡ Err 5
unfolding all_at transaction_at marked_at
no_flag = refl

-- no input
no_input : transaction_of (2 ∷ 0 ∷ 0 ∷ 0 ∷ 0 ∷ 1 ∷ 0 ∷ []) ≡ Err 6
unfolding all_at transaction_at marked_at plain_at inputs_at compact_at
no_input = refl

abbrev one_input : List ℕ
one_input = 1 ∷ (replicate 32 0 ++ (0 ∷ 0 ∷ 0 ∷ 0 ∷ 0 ∷ 0xff ∷ 0xff ∷ 0xff ∷ 0xff ∷ []))

abbrev one_output : List ℕ
one_output = 1 ∷ (replicate 8 0 ++ 0 ∷ [])

-- a marker, and no witness with an item
empty_witness : transaction_of ((2 ∷ 0 ∷ 0 ∷ 0 ∷ 0 ∷ 1 ∷ []) ++ one_input ++ one_output ++ (0 ∷ 0 ∷ 0 ∷ 0 ∷ 0 ∷ [])) ≡ Err 58
unfolding many all_at transaction_at marked_at plain_at inputs_at outputs_at input_at output_at string_at compact_at witnesses_at witness_at
empty_witness = refl

abbrev plain : Tx
plain = record {
  version = 2;
  inputs = record { prev = record { txid = replicate 32 0; vout = 0 }; script_sig = []; sequence = 4294967295; witness = [] } ∷ [];
  outputs = record { value = 0; script = [] } ∷ [];
  lock = 0;
}

-- the same without marker and witness
without_marker : transaction_of ((2 ∷ 0 ∷ 0 ∷ 0 ∷ []) ++ one_input ++ one_output ++ (0 ∷ 0 ∷ 0 ∷ 0 ∷ [])) ≡ Ok plain
unfolding many all_at transaction_at plain_at inputs_at outputs_at input_at output_at string_at compact_at
without_marker = refl

spelled_plain : spelling plain ≡ (2 ∷ 0 ∷ 0 ∷ 0 ∷ []) ++ one_input ++ one_output ++ (0 ∷ 0 ∷ 0 ∷ 0 ∷ [])
unfolding stripped compact
spelled_plain = refl

-- the same with one witness of one empty item
abbrev with_witness : Tx
with_witness = record {
  version = 2;
  inputs = record { prev = record { txid = replicate 32 0; vout = 0 }; script_sig = []; sequence = 4294967295; witness = [] ∷ [] } ∷ [];
  outputs = record { value = 0; script = [] } ∷ [];
  lock = 0;
}

spelled_with_witness : spelling with_witness ≡ (2 ∷ 0 ∷ 0 ∷ 0 ∷ 0 ∷ 1 ∷ []) ++ one_input ++ one_output ++ (1 ∷ 0 ∷ 0 ∷ 0 ∷ 0 ∷ 0 ∷ [])
unfolding marked compact
spelled_with_witness = refl

read_with_witness : transaction_of ((2 ∷ 0 ∷ 0 ∷ 0 ∷ 0 ∷ 1 ∷ []) ++ one_input ++ one_output ++ (1 ∷ 0 ∷ 0 ∷ 0 ∷ 0 ∷ 0 ∷ [])) ≡ Ok with_witness
unfolding many all_at transaction_at marked_at plain_at inputs_at outputs_at input_at output_at string_at compact_at witnesses_at witness_at
read_with_witness = refl

-- ---- labels

deposit_label : label_text (Deposit (codes "A")) ≡ codes "D:A"
unfolding label_text
deposit_label = refl

branch_label : label_text (Branch 12 (BranchStep 0 ∷ Part 1 ∷ BranchStep 2 ∷ []) (codes "B")) ≡ codes "B:12:r.0/1.2:B"
unfolding label_text digits
branch_label = refl
