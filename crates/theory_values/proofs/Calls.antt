-- Calls whose words are no command, or whose files are missing.
use Rattle.std.proofs.Common.{◌≡◌, ℕ, List, [], ◌∷◌, ◌++◌, refl}
use Rattle.std.specs.Prelude.{codes}
use Rattle.std.specs.Fmt.{digits}
use Rattle.spec_terms.specs.Readable.{is_name}
use Rattle.spec_bitcoin.specs.Keys.{label_text}
use Rattle.spec_bitcoin.specs.Digests.{places_list, sequences_list, outputs_list, preimage}
use Rattle.spec_bitcoin.specs.Spelling.{stripped, marked, compact}
use Rattle.spec_bitcoin.specs.Reading.{many, wide_at, compact_at, string_at, input_at, inputs_at, output_at, outputs_at, witness_at}
use Rattle.spec_bitcoin.specs.Reading.{witnesses_at, plain_at, marked_at, transaction_at, all_at}
use Rattle.spec_bitcoin.specs.Meaning.{script_meaning}
use Rattle.spec_bitcoin.specs.Numbers.{number_of_item, signed_bytes, item_of_number}
use Rattle.spec_bitcoin.specs.Scripts.{ops_of}
use Rattle.spec_compiler.specs.Keyed.Instance.{position_script}
use Rattle.spec_text.specs.Lexis.{word_prefix, number_prefix, symbol_prefix}
use Rattle.spec_text.specs.ReadAdvert.{read_answer, advert_of_all, advert_at, entries_at, entry_at, head_at, deposit_at, secret_at, fee_at}
use Rattle.spec_text.specs.ReadContract.{withdraw_at, condition_at, reveals_at, puts_at, put_reveals_at, headed_at, one_branch_at}
use Rattle.spec_text.specs.ReadContract.{branches_at, choice_with, parts_at, auth_at, after_at, put_at, reveal_at, split_at, branch_at}
use Rattle.spec_text.specs.ReadTest.{constant_at, length_at, formula_at, comparison_at, test_at}
use Rattle.spec_text.specs.Reading.{names_from}
use Rattle.spec_text.specs.Played.{play_text}
use Rattle.spec_tool.specs.Commands.{prints}
use Rattle.spec_tool.specs.Base64.{base64_text, base64_bytes}
use Rattle.spec_tool.specs.PsbtBytes.{psbt_of, psbt_bytes, records_at, maps_at}
use Rattle.spec_tool.specs.PsbtText.{psbt_text}
use Rattle.spec_text.specs.PlanText.{make_text}
use Rattle.theory_values.specs.Replies.{lines, replies, small_hash}

no_words :
    replies small_hash ([])
    ([])
    ≡ prints 2 (lines (codes "usage" ∷ []))
no_words = refl

abbrev contract_bitml : List ℕ
contract_bitml =
    lines (
    codes "{ Buyer:! 100 @ price | Seller:! 0 @ s | Mediator:! 0 @ m }" ∷
    codes "(" ∷
    codes "    Buyer : withdraw Seller" ∷
    codes "  + Seller : withdraw Buyer" ∷
    codes "  + after 1000 : Mediator : split [" ∷
    codes "        3 -> withdraw Mediator," ∷
    codes "        97 -> ( Mediator : withdraw Seller + Mediator : withdraw Buyer )" ∷
    codes "    ]" ∷
    codes ")" ∷
    [])

unknown_command :
    replies small_hash (codes "chek" ∷ codes "examples/escrow/contract.bitml" ∷ [])
    ((codes "contract.bitml", contract_bitml) ∷ [])
    ≡ prints 2 (lines (codes "usage" ∷ []))
unknown_command = refl

no_run :
    replies small_hash (codes "play" ∷ [])
    ([])
    ≡ prints 2 (lines (codes "usage" ∷ []))
no_run = refl

abbrev seventeen_contracts_run : List ℕ
seventeen_contracts_run =
    lines (
    codes "party A" ∷
    codes "honest A" ∷
    codes "deposit A 10" ∷
    codes "--" ∷
    [])

abbrev withdrawal_bitml : List ℕ
withdrawal_bitml =
    codes "{A:! 10 @ x} withdraw A"

seventeen_contracts :
    replies small_hash (codes "play" ∷ codes "seventeen_contracts.run" ∷ codes "withdrawal.bitml" ∷ codes "withdrawal.bitml"
    ∷ codes "withdrawal.bitml" ∷ codes "withdrawal.bitml" ∷ codes "withdrawal.bitml" ∷ codes "withdrawal.bitml"
    ∷ codes "withdrawal.bitml" ∷ codes "withdrawal.bitml" ∷ codes "withdrawal.bitml" ∷ codes "withdrawal.bitml"
    ∷ codes "withdrawal.bitml" ∷ codes "withdrawal.bitml" ∷ codes "withdrawal.bitml" ∷ codes "withdrawal.bitml"
    ∷ codes "withdrawal.bitml" ∷ codes "withdrawal.bitml" ∷ codes "withdrawal.bitml" ∷ [])
    ((codes "seventeen_contracts.run", seventeen_contracts_run) ∷ (codes "withdrawal.bitml", withdrawal_bitml) ∷ [])
    ≡ prints 2 (lines (codes "usage" ∷ []))
unfolding is_name word_prefix number_prefix symbol_prefix read_answer advert_of_all advert_at entries_at entry_at head_at deposit_at
    secret_at fee_at choice_with branches_at branch_at parts_at auth_at after_at put_at reveal_at split_at reveals_at puts_at
    put_reveals_at headed_at one_branch_at condition_at names_from test_at comparison_at formula_at constant_at length_at withdraw_at
    digits label_text stripped marked compact places_list sequences_list outputs_list preimage position_script many wide_at compact_at
    string_at input_at inputs_at output_at outputs_at witness_at witnesses_at plain_at marked_at transaction_at all_at script_meaning
    ops_of number_of_item signed_bytes item_of_number play_text
seventeen_contracts = refl

generated_run_is_too_large :
    replies small_hash (codes "make" ∷ codes "7" ∷ codes "31" ∷ [])
    ([])
    ≡ prints 2 (lines (codes "usage" ∷ []))
unfolding is_name word_prefix number_prefix symbol_prefix read_answer advert_of_all advert_at entries_at entry_at head_at deposit_at
    secret_at fee_at choice_with branches_at branch_at parts_at auth_at after_at put_at reveal_at split_at reveals_at puts_at
    put_reveals_at headed_at one_branch_at condition_at names_from test_at comparison_at formula_at constant_at length_at withdraw_at
    digits label_text stripped marked compact places_list sequences_list outputs_list preimage position_script many wide_at compact_at
    string_at input_at inputs_at output_at outputs_at witness_at witnesses_at plain_at marked_at transaction_at all_at script_meaning
    ops_of number_of_item signed_bytes item_of_number make_text
generated_run_is_too_large = refl

abbrev no_events_run : List ℕ
no_events_run =
    lines (
    codes "party A" ∷
    codes "honest A" ∷
    codes "deposit A 10" ∷
    codes "--" ∷
    [])

abbrev withdraw_bitml : List ℕ
withdraw_bitml =
    lines (
    codes "{A:! 10 @ x} withdraw A" ∷
    [])

psbt_of_bad_name :
    replies small_hash (codes "psbt" ∷ codes "no_events.run" ∷ codes "withdraw.bitml" ∷ codes "r.00" ∷ [])
    ((codes "no_events.run", no_events_run) ∷ (codes "withdraw.bitml", withdraw_bitml) ∷ [])
    ≡ prints 2 (lines (codes "usage" ∷ []))
unfolding is_name word_prefix number_prefix symbol_prefix read_answer advert_of_all advert_at entries_at entry_at head_at deposit_at
    secret_at fee_at choice_with branches_at branch_at parts_at auth_at after_at put_at reveal_at split_at reveals_at puts_at
    put_reveals_at headed_at one_branch_at condition_at names_from test_at comparison_at formula_at constant_at length_at withdraw_at
    digits label_text stripped marked compact places_list sequences_list outputs_list preimage position_script many wide_at compact_at
    string_at input_at inputs_at output_at outputs_at witness_at witnesses_at plain_at marked_at transaction_at all_at script_meaning
    ops_of number_of_item signed_bytes item_of_number base64_text base64_bytes psbt_bytes psbt_text psbt_of records_at maps_at
psbt_of_bad_name = refl

missing_contract :
    replies small_hash (codes "check" ∷ codes "nothere" ∷ [])
    ([])
    ≡ prints 3 ([])
missing_contract = refl

missing_run :
    replies small_hash (codes "play" ∷ codes "nothere" ∷ [])
    ([])
    ≡ prints 3 ([])
missing_run = refl

abbrev most_money_run : List ℕ
most_money_run =
    lines (
    codes "party A" ∷
    codes "honest A" ∷
    codes "deposit A 2100000000000000" ∷
    codes "--" ∷
    codes "give A #0 -> A 0 A 2100000000000000" ∷
    codes "give A #2 -> A 2100000000000001" ∷
    codes "give A #1 -> A 1" ∷
    codes "give A #2 #2 -> A 1" ∷
    [])

missing_contract_of_a_run :
    replies small_hash (codes "play" ∷ codes "most_money.run" ∷ codes "nothere" ∷ [])
    ((codes "most_money.run", most_money_run) ∷ [])
    ≡ prints 3 ([])
unfolding is_name word_prefix number_prefix symbol_prefix read_answer advert_of_all advert_at entries_at entry_at head_at deposit_at
    secret_at fee_at choice_with branches_at branch_at parts_at auth_at after_at put_at reveal_at split_at reveals_at puts_at
    put_reveals_at headed_at one_branch_at condition_at names_from test_at comparison_at formula_at constant_at length_at withdraw_at
    digits label_text stripped marked compact places_list sequences_list outputs_list preimage position_script many wide_at compact_at
    string_at input_at inputs_at output_at outputs_at witness_at witnesses_at plain_at marked_at transaction_at all_at script_meaning
    ops_of number_of_item signed_bytes item_of_number play_text
missing_contract_of_a_run = refl

abbrev bad_line_among_blanks_run : List ℕ
bad_line_among_blanks_run =
    lines (
    (codes "party A" ++
    (13 ∷ [])) ∷
    (codes "honest A" ++
    (13 ∷ [])) ∷
    (codes "deposit" ++
    (9 ∷ []) ++
    codes "A  100 " ++
    (13 ∷ [])) ∷
    (13 ∷ []) ∷
    (codes "--" ++
    (13 ∷ [])) ∷
    (codes "mine 0" ++
    (13 ∷ [])) ∷
    [])

bad_line_before_a_missing_contract :
    replies small_hash (codes "play" ∷ codes "bad_line_among_blanks.run" ∷ codes "nothere" ∷ [])
    ((codes "bad_line_among_blanks.run", bad_line_among_blanks_run) ∷ [])
    ≡ prints 3 ([])
unfolding is_name word_prefix number_prefix symbol_prefix read_answer advert_of_all advert_at entries_at entry_at head_at deposit_at
    secret_at fee_at choice_with branches_at branch_at parts_at auth_at after_at put_at reveal_at split_at reveals_at puts_at
    put_reveals_at headed_at one_branch_at condition_at names_from test_at comparison_at formula_at constant_at length_at withdraw_at
    digits label_text stripped marked compact places_list sequences_list outputs_list preimage position_script many wide_at compact_at
    string_at input_at inputs_at output_at outputs_at witness_at witnesses_at plain_at marked_at transaction_at all_at script_meaning
    ops_of number_of_item signed_bytes item_of_number play_text
bad_line_before_a_missing_contract = refl
