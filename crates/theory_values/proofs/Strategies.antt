-- Runs that strategies go on with.
use Rattle.std.proofs.Common.{◌≡◌, ℕ, List, [], ◌∷◌, refl}
use Rattle.std.specs.Prelude.{codes}
use Rattle.std.specs.Fmt.{digits}
use Rattle.spec_terms.specs.Readable.{is_name}
use Rattle.spec_bitcoin.specs.Keys.{label_text}
use Rattle.spec_bitcoin.specs.Digests.{places_list, sequences_list, outputs_list, preimage}
use Rattle.spec_bitcoin.specs.Spelling.{stripped, marked, compact}
use Rattle.spec_bitcoin.specs.Reading.{many, wide_at, compact_at, string_at, input_at, inputs_at, output_at, outputs_at, witness_at}
use Rattle.spec_bitcoin.specs.Reading.{witnesses_at, plain_at, marked_at, transaction_at, all_at}
use Rattle.spec_bitcoin.specs.Meaning.{script_meaning}
use Rattle.spec_bitcoin.specs.Numbers.{number_of_item, signed_bytes, item_of_number}
use Rattle.spec_bitcoin.specs.Scripts.{ops_of}
use Rattle.spec_compiler.specs.Keyed.Instance.{position_script}
use Rattle.spec_text.specs.Lexis.{word_prefix, number_prefix, symbol_prefix}
use Rattle.spec_text.specs.ReadAdvert.{read_answer, advert_of_all, advert_at, entries_at, entry_at, head_at, deposit_at, secret_at, fee_at}
use Rattle.spec_text.specs.ReadContract.{withdraw_at, condition_at, reveals_at, puts_at, put_reveals_at, headed_at, one_branch_at}
use Rattle.spec_text.specs.ReadContract.{branches_at, choice_with, parts_at, auth_at, after_at, put_at, reveal_at, split_at, branch_at}
use Rattle.spec_text.specs.ReadTest.{constant_at, length_at, formula_at, comparison_at, test_at}
use Rattle.spec_text.specs.Reading.{names_from}
use Rattle.spec_tool.specs.Commands.{prints}
use Rattle.spec_tool.specs.Turns.{rounds}
use Rattle.spec_tool.specs.AutoText.{auto_answer}
use Rattle.theory_values.specs.Replies.{lines, replies, small_hash}

abbrev secret_is_guessed_run : List ℕ
secret_is_guessed_run =
    lines (
    codes "party A" ∷
    codes "party B" ∷
    codes "honest A" ∷
    codes "secret A a 54686520717569636b2062726f776e20666f78206a756d7073206f76657220746865206c617a7920646f67" ∷
    codes "deposit A 1" ∷
    codes "deposit B 1" ∷
    codes "--" ∷
    codes "post 54686520717569636b2062726f776e20666f78206a756d7073206f76657220746865206c617a7920646f67" ∷
    [])

abbrev timed_commitment_bitml : List ℕ
timed_commitment_bitml =
    codes "{A:! 100000000 @ x | B:! 0 @ y | A: secret a} (reveal a . withdraw A + after 1000 : withdraw B)"

abbrev empty_strategy : List ℕ
empty_strategy =
    []

strategy_after_a_guess :
    replies small_hash (codes "auto" ∷ codes "secret_is_guessed.run" ∷ codes "timed_commitment.bitml" ∷ codes "empty.strategy" ∷ [])
    ((codes "secret_is_guessed.run", secret_is_guessed_run) ∷ (codes "timed_commitment.bitml", timed_commitment_bitml)
    ∷ (codes "empty.strategy", empty_strategy) ∷ [])
    ≡ prints 7 (lines (codes "guessed A a" ∷ []))
unfolding is_name word_prefix number_prefix symbol_prefix read_answer advert_of_all advert_at entries_at entry_at head_at deposit_at
    secret_at fee_at choice_with branches_at branch_at parts_at auth_at after_at put_at reveal_at split_at reveals_at puts_at
    put_reveals_at headed_at one_branch_at condition_at names_from test_at comparison_at formula_at constant_at length_at withdraw_at
    digits label_text stripped marked compact places_list sequences_list outputs_list preimage position_script many wide_at compact_at
    string_at input_at inputs_at output_at outputs_at witness_at witnesses_at plain_at marked_at transaction_at all_at script_meaning
    ops_of number_of_item signed_bytes item_of_number rounds auto_answer
strategy_after_a_guess = refl

abbrev advertised_run : List ℕ
advertised_run =
    lines (
    codes "party A" ∷
    codes "party B" ∷
    codes "honest A" ∷
    codes "honest B" ∷
    codes "secret A a 00112233445566778899aabbccddeeff" ∷
    codes "deposit A 100000000" ∷
    codes "deposit B 0" ∷
    codes "--" ∷
    codes "advertise 0 x=#0 y=#1" ∷
    [])

abbrev backwards_strategy : List ℕ
backwards_strategy =
    lines (
    codes "A init 0" ∷
    codes "A endorse 0" ∷
    codes "B endorse 0" ∷
    codes "A commit 0" ∷
    codes "B commit 0" ∷
    [])

abbrev strategy_against_the_order_text : List ℕ
strategy_against_the_order_text =
    lines (
    codes "party A" ∷
    codes "party B" ∷
    codes "honest A" ∷
    codes "honest B" ∷
    codes "secret A a 00112233445566778899aabbccddeeff" ∷
    codes "deposit A 100000000" ∷
    codes "deposit B 0" ∷
    codes "--" ∷
    codes "advertise 0 x=#0 y=#1" ∷
    codes "commit 0 A" ∷
    codes "commit 0 B" ∷
    codes "endorse 0 A" ∷
    codes "endorse 0 B" ∷
    codes "init 0 A" ∷
    [])

strategy_against_the_order :
    replies small_hash (codes "auto" ∷ codes "advertised.run" ∷ codes "timed_commitment.bitml" ∷ codes "backwards.strategy" ∷ [])
    ((codes "advertised.run", advertised_run) ∷ (codes "timed_commitment.bitml", timed_commitment_bitml)
    ∷ (codes "backwards.strategy", backwards_strategy) ∷ [])
    ≡ prints 0 strategy_against_the_order_text
unfolding is_name word_prefix number_prefix symbol_prefix read_answer advert_of_all advert_at entries_at entry_at head_at deposit_at
    secret_at fee_at choice_with branches_at branch_at parts_at auth_at after_at put_at reveal_at split_at reveals_at puts_at
    put_reveals_at headed_at one_branch_at condition_at names_from test_at comparison_at formula_at constant_at length_at withdraw_at
    digits label_text stripped marked compact places_list sequences_list outputs_list preimage position_script many wide_at compact_at
    string_at input_at inputs_at output_at outputs_at witness_at witnesses_at plain_at marked_at transaction_at all_at script_meaning
    ops_of number_of_item signed_bytes item_of_number rounds auto_answer
strategy_against_the_order = refl

abbrev undeclared_strategy : List ℕ
undeclared_strategy =
    lines (
    codes "C init 0" ∷
    [])

strategy_of_undeclared_party :
    replies small_hash (codes "auto" ∷ codes "advertised.run" ∷ codes "timed_commitment.bitml" ∷ codes "undeclared.strategy" ∷ [])
    ((codes "advertised.run", advertised_run) ∷ (codes "timed_commitment.bitml", timed_commitment_bitml)
    ∷ (codes "undeclared.strategy", undeclared_strategy) ∷ [])
    ≡ prints 11 (lines (codes "strategy refused line 1" ∷ []))
unfolding is_name word_prefix number_prefix symbol_prefix read_answer advert_of_all advert_at entries_at entry_at head_at deposit_at
    secret_at fee_at choice_with branches_at branch_at parts_at auth_at after_at put_at reveal_at split_at reveals_at puts_at
    put_reveals_at headed_at one_branch_at condition_at names_from test_at comparison_at formula_at constant_at length_at withdraw_at
    digits label_text stripped marked compact places_list sequences_list outputs_list preimage position_script many wide_at compact_at
    string_at input_at inputs_at output_at outputs_at witness_at witnesses_at plain_at marked_at transaction_at all_at script_meaning
    ops_of number_of_item signed_bytes item_of_number rounds auto_answer
strategy_of_undeclared_party = refl

abbrev in_order_strategy : List ℕ
in_order_strategy =
    lines (
    codes "A commit 0" ∷
    codes "B commit 0" ∷
    codes "A endorse 0" ∷
    codes "B endorse 0" ∷
    codes "A init 0" ∷
    codes "B init 0" ∷
    codes "A fire 0 init" ∷
    codes "A reveal 0 a" ∷
    codes "A fire 0 r.0" ∷
    codes "A fire 0 r.0.0" ∷
    [])

abbrev strategy_plays_all_text : List ℕ
strategy_plays_all_text =
    lines (
    codes "party A" ∷
    codes "party B" ∷
    codes "honest A" ∷
    codes "honest B" ∷
    codes "secret A a 00112233445566778899aabbccddeeff" ∷
    codes "deposit A 100000000" ∷
    codes "deposit B 0" ∷
    codes "--" ∷
    codes "advertise 0 x=#0 y=#1" ∷
    codes "commit 0 A" ∷
    codes "commit 0 B" ∷
    codes "endorse 0 A" ∷
    codes "endorse 0 B" ∷
    codes "init 0 A" ∷
    codes "init 0 B" ∷
    codes "fire init 0" ∷
    codes "reveal 0 A a" ∷
    codes "fire #2 0" ∷
    codes "fire #3 0" ∷
    [])

strategy_plays_all :
    replies small_hash (codes "auto" ∷ codes "advertised.run" ∷ codes "timed_commitment.bitml" ∷ codes "in_order.strategy" ∷ [])
    ((codes "advertised.run", advertised_run) ∷ (codes "timed_commitment.bitml", timed_commitment_bitml)
    ∷ (codes "in_order.strategy", in_order_strategy) ∷ [])
    ≡ prints 0 strategy_plays_all_text
unfolding is_name word_prefix number_prefix symbol_prefix read_answer advert_of_all advert_at entries_at entry_at head_at deposit_at
    secret_at fee_at choice_with branches_at branch_at parts_at auth_at after_at put_at reveal_at split_at reveals_at puts_at
    put_reveals_at headed_at one_branch_at condition_at names_from test_at comparison_at formula_at constant_at length_at withdraw_at
    digits label_text stripped marked compact places_list sequences_list outputs_list preimage position_script many wide_at compact_at
    string_at input_at inputs_at output_at outputs_at witness_at witnesses_at plain_at marked_at transaction_at all_at script_meaning
    ops_of number_of_item signed_bytes item_of_number rounds auto_answer
strategy_plays_all = refl

abbrev too_many_strategy : List ℕ
too_many_strategy =
    lines (
    codes "A commit 0" ∷
    codes "A commit 0" ∷
    codes "A commit 0" ∷
    codes "A commit 0" ∷
    codes "A commit 0" ∷
    codes "A commit 0" ∷
    codes "A commit 0" ∷
    codes "A commit 0" ∷
    codes "A commit 0" ∷
    codes "A commit 0" ∷
    codes "A commit 0" ∷
    codes "A commit 0" ∷
    codes "A commit 0" ∷
    codes "A commit 0" ∷
    codes "A commit 0" ∷
    codes "A commit 0" ∷
    codes "A commit 0" ∷
    codes "A commit 0" ∷
    codes "A commit 0" ∷
    codes "A commit 0" ∷
    codes "A commit 0" ∷
    codes "A commit 0" ∷
    codes "A commit 0" ∷
    codes "A commit 0" ∷
    codes "A commit 0" ∷
    codes "A commit 0" ∷
    codes "A commit 0" ∷
    codes "A commit 0" ∷
    codes "A commit 0" ∷
    codes "A commit 0" ∷
    codes "A commit 0" ∷
    codes "A commit 0" ∷
    codes "A commit 0" ∷
    codes "A commit 0" ∷
    codes "A commit 0" ∷
    codes "A commit 0" ∷
    codes "A commit 0" ∷
    codes "A commit 0" ∷
    codes "A commit 0" ∷
    codes "A commit 0" ∷
    codes "A commit 0" ∷
    codes "A commit 0" ∷
    codes "A commit 0" ∷
    codes "A commit 0" ∷
    codes "A commit 0" ∷
    codes "A commit 0" ∷
    codes "A commit 0" ∷
    codes "A commit 0" ∷
    codes "A commit 0" ∷
    codes "A commit 0" ∷
    codes "A commit 0" ∷
    codes "A commit 0" ∷
    codes "A commit 0" ∷
    codes "A commit 0" ∷
    codes "A commit 0" ∷
    codes "A commit 0" ∷
    codes "A commit 0" ∷
    codes "A commit 0" ∷
    codes "A commit 0" ∷
    codes "A commit 0" ∷
    codes "A commit 0" ∷
    codes "A commit 0" ∷
    codes "A commit 0" ∷
    codes "A commit 0" ∷
    codes "A commit 0" ∷
    codes "A commit 0" ∷
    codes "A commit 0" ∷
    codes "A commit 0" ∷
    codes "A commit 0" ∷
    codes "A commit 0" ∷
    codes "A commit 0" ∷
    codes "A commit 0" ∷
    codes "A commit 0" ∷
    codes "A commit 0" ∷
    codes "A commit 0" ∷
    codes "A commit 0" ∷
    codes "A commit 0" ∷
    codes "A commit 0" ∷
    codes "A commit 0" ∷
    codes "A commit 0" ∷
    codes "A commit 0" ∷
    codes "A commit 0" ∷
    codes "A commit 0" ∷
    codes "A commit 0" ∷
    codes "A commit 0" ∷
    codes "A commit 0" ∷
    codes "A commit 0" ∷
    codes "A commit 0" ∷
    codes "A commit 0" ∷
    codes "A commit 0" ∷
    codes "A commit 0" ∷
    codes "A commit 0" ∷
    codes "A commit 0" ∷
    codes "A commit 0" ∷
    codes "A commit 0" ∷
    codes "A commit 0" ∷
    codes "A commit 0" ∷
    codes "A commit 0" ∷
    codes "A commit 0" ∷
    codes "A commit 0" ∷
    codes "A commit 0" ∷
    codes "A commit 0" ∷
    codes "A commit 0" ∷
    codes "A commit 0" ∷
    codes "A commit 0" ∷
    codes "A commit 0" ∷
    codes "A commit 0" ∷
    codes "A commit 0" ∷
    codes "A commit 0" ∷
    codes "A commit 0" ∷
    codes "A commit 0" ∷
    codes "A commit 0" ∷
    codes "A commit 0" ∷
    codes "A commit 0" ∷
    codes "A commit 0" ∷
    codes "A commit 0" ∷
    codes "A commit 0" ∷
    codes "A commit 0" ∷
    codes "A commit 0" ∷
    codes "A commit 0" ∷
    codes "A commit 0" ∷
    codes "A commit 0" ∷
    codes "A commit 0" ∷
    codes "A commit 0" ∷
    codes "A commit 0" ∷
    codes "A commit 0" ∷
    codes "A commit 0" ∷
    codes "A commit 0" ∷
    codes "A commit 0" ∷
    codes "A commit 0" ∷
    codes "A commit 0" ∷
    codes "A commit 0" ∷
    codes "A commit 0" ∷
    codes "A commit 0" ∷
    codes "A commit 0" ∷
    codes "A commit 0" ∷
    codes "A commit 0" ∷
    codes "A commit 0" ∷
    codes "A commit 0" ∷
    codes "A commit 0" ∷
    codes "A commit 0" ∷
    codes "A commit 0" ∷
    codes "A commit 0" ∷
    codes "A commit 0" ∷
    codes "A commit 0" ∷
    codes "A commit 0" ∷
    codes "A commit 0" ∷
    codes "A commit 0" ∷
    codes "A commit 0" ∷
    codes "A commit 0" ∷
    codes "A commit 0" ∷
    codes "A commit 0" ∷
    codes "A commit 0" ∷
    codes "A commit 0" ∷
    codes "A commit 0" ∷
    codes "A commit 0" ∷
    codes "A commit 0" ∷
    codes "A commit 0" ∷
    codes "A commit 0" ∷
    codes "A commit 0" ∷
    codes "A commit 0" ∷
    codes "A commit 0" ∷
    codes "A commit 0" ∷
    codes "A commit 0" ∷
    codes "A commit 0" ∷
    codes "A commit 0" ∷
    codes "A commit 0" ∷
    codes "A commit 0" ∷
    codes "A commit 0" ∷
    codes "A commit 0" ∷
    codes "A commit 0" ∷
    codes "A commit 0" ∷
    codes "A commit 0" ∷
    codes "A commit 0" ∷
    codes "A commit 0" ∷
    codes "A commit 0" ∷
    codes "A commit 0" ∷
    codes "A commit 0" ∷
    codes "A commit 0" ∷
    codes "A commit 0" ∷
    codes "A commit 0" ∷
    codes "A commit 0" ∷
    codes "A commit 0" ∷
    codes "A commit 0" ∷
    codes "A commit 0" ∷
    codes "A commit 0" ∷
    codes "A commit 0" ∷
    codes "A commit 0" ∷
    codes "A commit 0" ∷
    codes "A commit 0" ∷
    codes "A commit 0" ∷
    codes "A commit 0" ∷
    codes "A commit 0" ∷
    codes "A commit 0" ∷
    codes "A commit 0" ∷
    codes "A commit 0" ∷
    codes "A commit 0" ∷
    codes "A commit 0" ∷
    codes "A commit 0" ∷
    codes "A commit 0" ∷
    codes "A commit 0" ∷
    codes "A commit 0" ∷
    codes "A commit 0" ∷
    codes "A commit 0" ∷
    codes "A commit 0" ∷
    codes "A commit 0" ∷
    codes "A commit 0" ∷
    codes "A commit 0" ∷
    codes "A commit 0" ∷
    codes "A commit 0" ∷
    codes "A commit 0" ∷
    codes "A commit 0" ∷
    codes "A commit 0" ∷
    codes "A commit 0" ∷
    codes "A commit 0" ∷
    codes "A commit 0" ∷
    codes "A commit 0" ∷
    codes "A commit 0" ∷
    codes "A commit 0" ∷
    codes "A commit 0" ∷
    codes "A commit 0" ∷
    codes "A commit 0" ∷
    codes "A commit 0" ∷
    codes "A commit 0" ∷
    codes "A commit 0" ∷
    codes "A commit 0" ∷
    codes "A commit 0" ∷
    codes "A commit 0" ∷
    codes "A commit 0" ∷
    codes "A commit 0" ∷
    codes "A commit 0" ∷
    codes "A commit 0" ∷
    codes "A commit 0" ∷
    codes "A commit 0" ∷
    codes "A commit 0" ∷
    codes "A commit 0" ∷
    codes "A commit 0" ∷
    codes "A commit 0" ∷
    codes "A commit 0" ∷
    codes "A commit 0" ∷
    codes "A commit 0" ∷
    codes "A commit 0" ∷
    codes "A commit 0" ∷
    codes "A commit 0" ∷
    codes "A commit 0" ∷
    codes "A commit 0" ∷
    codes "A commit 0" ∷
    codes "A commit 0" ∷
    codes "A commit 0" ∷
    codes "A commit 0" ∷
    codes "A commit 0" ∷
    codes "A commit 0" ∷
    codes "A commit 0" ∷
    codes "A commit 0" ∷
    codes "A commit 0" ∷
    codes "A commit 0" ∷
    codes "A commit 0" ∷
    [])

strategy_with_too_many_rules :
    replies small_hash (codes "auto" ∷ codes "advertised.run" ∷ codes "timed_commitment.bitml" ∷ codes "too_many.strategy" ∷ [])
    ((codes "advertised.run", advertised_run) ∷ (codes "timed_commitment.bitml", timed_commitment_bitml)
    ∷ (codes "too_many.strategy", too_many_strategy) ∷ [])
    ≡ prints 11 (lines (codes "strategy refused limit Events" ∷ []))
unfolding is_name word_prefix number_prefix symbol_prefix read_answer advert_of_all advert_at entries_at entry_at head_at deposit_at
    secret_at fee_at choice_with branches_at branch_at parts_at auth_at after_at put_at reveal_at split_at reveals_at puts_at
    put_reveals_at headed_at one_branch_at condition_at names_from test_at comparison_at formula_at constant_at length_at withdraw_at
    digits label_text stripped marked compact places_list sequences_list outputs_list preimage position_script many wide_at compact_at
    string_at input_at inputs_at output_at outputs_at witness_at witnesses_at plain_at marked_at transaction_at all_at script_meaning
    ops_of number_of_item signed_bytes item_of_number rounds auto_answer
strategy_with_too_many_rules = refl

abbrev no_events_run : List ℕ
no_events_run =
    lines (
    codes "party A" ∷
    codes "honest A" ∷
    codes "deposit A 100" ∷
    codes "--" ∷
    [])

abbrev strategy_without_rules_text : List ℕ
strategy_without_rules_text =
    lines (
    codes "party A" ∷
    codes "honest A" ∷
    codes "deposit A 100" ∷
    codes "--" ∷
    [])

strategy_without_rules :
    replies small_hash (codes "auto" ∷ codes "no_events.run" ∷ codes "timed_commitment.bitml" ∷ codes "empty.strategy" ∷ [])
    ((codes "no_events.run", no_events_run) ∷ (codes "timed_commitment.bitml", timed_commitment_bitml)
    ∷ (codes "empty.strategy", empty_strategy) ∷ [])
    ≡ prints 0 strategy_without_rules_text
unfolding is_name word_prefix number_prefix symbol_prefix read_answer advert_of_all advert_at entries_at entry_at head_at deposit_at
    secret_at fee_at choice_with branches_at branch_at parts_at auth_at after_at put_at reveal_at split_at reveals_at puts_at
    put_reveals_at headed_at one_branch_at condition_at names_from test_at comparison_at formula_at constant_at length_at withdraw_at
    digits label_text stripped marked compact places_list sequences_list outputs_list preimage position_script many wide_at compact_at
    string_at input_at inputs_at output_at outputs_at witness_at witnesses_at plain_at marked_at transaction_at all_at script_meaning
    ops_of number_of_item signed_bytes item_of_number rounds auto_answer
strategy_without_rules = refl
