-- Runs with two contracts, played.
use Rattle.std.proofs.Common.{◌≡◌, ℕ, List, [], ◌∷◌, refl}
use Rattle.std.specs.Prelude.{codes}
use Rattle.std.specs.Fmt.{digits}
use Rattle.spec_terms.specs.Readable.{is_name}
use Rattle.spec_bitcoin.specs.Keys.{label_text}
use Rattle.spec_bitcoin.specs.Digests.{places_list, sequences_list, outputs_list, preimage}
use Rattle.spec_bitcoin.specs.Spelling.{stripped, marked, compact}
use Rattle.spec_bitcoin.specs.Reading.{many, wide_at, compact_at, string_at, input_at, inputs_at, output_at, outputs_at, witness_at}
use Rattle.spec_bitcoin.specs.Reading.{witnesses_at, plain_at, marked_at, transaction_at, all_at}
use Rattle.spec_bitcoin.specs.Meaning.{script_meaning}
use Rattle.spec_bitcoin.specs.Numbers.{number_of_item, signed_bytes, item_of_number}
use Rattle.spec_bitcoin.specs.Scripts.{ops_of}
use Rattle.spec_compiler.specs.Keyed.Instance.{position_script}
use Rattle.spec_text.specs.Lexis.{word_prefix, number_prefix, symbol_prefix}
use Rattle.spec_text.specs.ReadAdvert.{read_answer, advert_of_all, advert_at, entries_at, entry_at, head_at, deposit_at, secret_at, fee_at}
use Rattle.spec_text.specs.ReadContract.{withdraw_at, condition_at, reveals_at, puts_at, put_reveals_at, headed_at, one_branch_at}
use Rattle.spec_text.specs.ReadContract.{branches_at, choice_with, parts_at, auth_at, after_at, put_at, reveal_at, split_at, branch_at}
use Rattle.spec_text.specs.ReadTest.{constant_at, length_at, formula_at, comparison_at, test_at}
use Rattle.spec_text.specs.Reading.{names_from}
use Rattle.spec_text.specs.Played.{play_text}
use Rattle.spec_tool.specs.Commands.{prints}
use Rattle.theory_values.specs.Replies.{lines, replies, small_hash}

abbrev one_contract_twice_run : List ℕ
one_contract_twice_run =
    lines (
    codes "party A" ∷
    codes "honest A" ∷
    codes "deposit A 10" ∷
    codes "--" ∷
    codes "advertise 0 x=#0" ∷
    codes "advertise 1 x=#0" ∷
    codes "advertise 1 x=#0" ∷
    [])

abbrev withdrawal_bitml : List ℕ
withdrawal_bitml =
    codes "{A:! 10 @ x} withdraw A"

abbrev one_contract_twice_text : List ℕ
one_contract_twice_text =
    lines (
    codes "start #0 A 10" ∷
    codes "event 1 advertise 0 x=#0" ∷
    codes "done" ∷
    codes "step advertise 0 x=#0" ∷
    codes "event 2 advertise 1 x=#0" ∷
    codes "done" ∷
    codes "step advertise 1 x=#0" ∷
    codes "event 3 advertise 1 x=#0" ∷
    codes "refused AdvertFull" ∷
    codes "end" ∷
    codes "tip 0" ∷
    codes "live #0 10" ∷
    codes "time 0" ∷
    codes "deposit #0 A 10" ∷
    [])

one_contract_twice :
    replies small_hash (codes "play" ∷ codes "one_contract_twice.run" ∷ codes "withdrawal.bitml" ∷ codes "withdrawal.bitml" ∷ [])
    ((codes "one_contract_twice.run", one_contract_twice_run) ∷ (codes "withdrawal.bitml", withdrawal_bitml) ∷ [])
    ≡ prints 0 one_contract_twice_text
unfolding is_name word_prefix number_prefix symbol_prefix read_answer advert_of_all advert_at entries_at entry_at head_at deposit_at
    secret_at fee_at choice_with branches_at branch_at parts_at auth_at after_at put_at reveal_at split_at reveals_at puts_at
    put_reveals_at headed_at one_branch_at condition_at names_from test_at comparison_at formula_at constant_at length_at withdraw_at
    digits label_text stripped marked compact places_list sequences_list outputs_list preimage position_script many wide_at compact_at
    string_at input_at inputs_at output_at outputs_at witness_at witnesses_at plain_at marked_at transaction_at all_at script_meaning
    ops_of number_of_item signed_bytes item_of_number play_text
one_contract_twice = refl

abbrev one_secret_in_two_contracts_run : List ℕ
one_secret_in_two_contracts_run =
    lines (
    codes "party A" ∷
    codes "honest A" ∷
    codes "secret A a 00112233445566778899aabbccddeeff" ∷
    codes "deposit A 10" ∷
    codes "--" ∷
    codes "advertise 0 x=#0" ∷
    codes "advertise 1 x=#0" ∷
    codes "commit 0 A" ∷
    codes "commit 1 A" ∷
    [])

abbrev withdrawal_and_secret_bitml : List ℕ
withdrawal_and_secret_bitml =
    codes "{A:! 10 @ x | A: secret a} withdraw A"

abbrev locked_and_secret_bitml : List ℕ
locked_and_secret_bitml =
    codes "{A:! 10 @ x | A: secret a} after 5 : withdraw A"

abbrev one_secret_in_two_contracts_text : List ℕ
one_secret_in_two_contracts_text =
    lines (
    codes "start #0 A 10" ∷
    codes "event 1 advertise 0 x=#0" ∷
    codes "done" ∷
    codes "step advertise 0 x=#0" ∷
    codes "event 2 advertise 1 x=#0" ∷
    codes "done" ∷
    codes "step advertise 1 x=#0" ∷
    codes "event 3 commit 0 A" ∷
    codes "done" ∷
    codes "step commit 0 A a=0" ∷
    codes "event 4 commit 1 A" ∷
    codes "refused HashRepeated a" ∷
    codes "end" ∷
    codes "tip 0" ∷
    codes "live #0 10" ∷
    codes "time 0" ∷
    codes "deposit #0 A 10" ∷
    codes "secret 0 A a 0 hidden" ∷
    [])

one_secret_in_two_contracts :
    replies small_hash (codes "play" ∷ codes "one_secret_in_two_contracts.run" ∷ codes "withdrawal_and_secret.bitml"
    ∷ codes "locked_and_secret.bitml" ∷ [])
    ((codes "one_secret_in_two_contracts.run", one_secret_in_two_contracts_run)
    ∷ (codes "withdrawal_and_secret.bitml", withdrawal_and_secret_bitml) ∷ (codes "locked_and_secret.bitml", locked_and_secret_bitml)
    ∷ [])
    ≡ prints 0 one_secret_in_two_contracts_text
unfolding is_name word_prefix number_prefix symbol_prefix read_answer advert_of_all advert_at entries_at entry_at head_at deposit_at
    secret_at fee_at choice_with branches_at branch_at parts_at auth_at after_at put_at reveal_at split_at reveals_at puts_at
    put_reveals_at headed_at one_branch_at condition_at names_from test_at comparison_at formula_at constant_at length_at withdraw_at
    digits label_text stripped marked compact places_list sequences_list outputs_list preimage position_script many wide_at compact_at
    string_at input_at inputs_at output_at outputs_at witness_at witnesses_at plain_at marked_at transaction_at all_at script_meaning
    ops_of number_of_item signed_bytes item_of_number play_text
one_secret_in_two_contracts = refl

abbrev second_contract_goes_on_run : List ℕ
second_contract_goes_on_run =
    lines (
    codes "party A" ∷
    codes "honest A" ∷
    codes "deposit A 10" ∷
    codes "--" ∷
    codes "advertise 0 x=#0" ∷
    codes "commit 0 A" ∷
    codes "endorse 0 A" ∷
    codes "init 0 A" ∷
    codes "advertise 1 x=#0" ∷
    codes "commit 1 A" ∷
    codes "endorse 1 A" ∷
    codes "init 1 A" ∷
    codes "fire init 1" ∷
    codes "fire init 0" ∷
    codes "mine 5" ∷
    [])

abbrev locked_bitml : List ℕ
locked_bitml =
    codes "{A:! 10 @ x} after 5 : withdraw A"

abbrev second_contract_goes_on_text : List ℕ
second_contract_goes_on_text =
    lines (
    codes "start #0 A 10" ∷
    codes "event 1 advertise 0 x=#0" ∷
    codes "done" ∷
    codes "step advertise 0 x=#0" ∷
    codes "event 2 commit 0 A" ∷
    codes "done" ∷
    codes "step commit 0 A" ∷
    codes "event 3 endorse 0 A" ∷
    codes "done" ∷
    codes "event 4 init 0 A" ∷
    codes "done" ∷
    codes "step authinit 0 A x" ∷
    codes "event 5 advertise 1 x=#0" ∷
    codes "done" ∷
    codes "step advertise 1 x=#0" ∷
    codes "event 6 commit 1 A" ∷
    codes "done" ∷
    codes "step commit 1 A" ∷
    codes "event 7 endorse 1 A" ∷
    codes "done" ∷
    codes "event 8 init 1 A" ∷
    codes "done" ∷
    codes "step authinit 1 A x" ∷
    codes "event 9 fire init 1" ∷
    codes "accepted spends #0 makes #1 10 lock 0" ∷
    codes "step init 1 -> #1" ∷
    codes "event 10 fire init 0" ∷
    codes "refused MissingInput 0" ∷
    codes "event 11 mine 5" ∷
    codes "done" ∷
    codes "step delay 5" ∷
    codes "end" ∷
    codes "tip 5" ∷
    codes "live #1 10" ∷
    codes "time 5" ∷
    codes "contract #1 1 r 10" ∷
    codes "offer fire #1 0" ∷
    [])

second_contract_goes_on :
    replies small_hash (codes "play" ∷ codes "second_contract_goes_on.run" ∷ codes "withdrawal.bitml" ∷ codes "locked.bitml" ∷ [])
    ((codes "second_contract_goes_on.run", second_contract_goes_on_run) ∷ (codes "withdrawal.bitml", withdrawal_bitml)
    ∷ (codes "locked.bitml", locked_bitml) ∷ [])
    ≡ prints 0 second_contract_goes_on_text
unfolding is_name word_prefix number_prefix symbol_prefix read_answer advert_of_all advert_at entries_at entry_at head_at deposit_at
    secret_at fee_at choice_with branches_at branch_at parts_at auth_at after_at put_at reveal_at split_at reveals_at puts_at
    put_reveals_at headed_at one_branch_at condition_at names_from test_at comparison_at formula_at constant_at length_at withdraw_at
    digits label_text stripped marked compact places_list sequences_list outputs_list preimage position_script many wide_at compact_at
    string_at input_at inputs_at output_at outputs_at witness_at witnesses_at plain_at marked_at transaction_at all_at script_meaning
    ops_of number_of_item signed_bytes item_of_number play_text
second_contract_goes_on = refl

abbrev two_contracts_are_offered_run : List ℕ
two_contracts_are_offered_run =
    lines (
    codes "party A" ∷
    codes "honest A" ∷
    codes "deposit A 10" ∷
    codes "--" ∷
    codes "advertise 0 x=#0" ∷
    codes "commit 0 A" ∷
    codes "endorse 0 A" ∷
    codes "init 0 A" ∷
    codes "advertise 1 x=#0" ∷
    codes "commit 1 A" ∷
    codes "endorse 1 A" ∷
    codes "init 1 A" ∷
    [])

abbrev two_contracts_are_offered_text : List ℕ
two_contracts_are_offered_text =
    lines (
    codes "start #0 A 10" ∷
    codes "event 1 advertise 0 x=#0" ∷
    codes "done" ∷
    codes "step advertise 0 x=#0" ∷
    codes "event 2 commit 0 A" ∷
    codes "done" ∷
    codes "step commit 0 A" ∷
    codes "event 3 endorse 0 A" ∷
    codes "done" ∷
    codes "event 4 init 0 A" ∷
    codes "done" ∷
    codes "step authinit 0 A x" ∷
    codes "event 5 advertise 1 x=#0" ∷
    codes "done" ∷
    codes "step advertise 1 x=#0" ∷
    codes "event 6 commit 1 A" ∷
    codes "done" ∷
    codes "step commit 1 A" ∷
    codes "event 7 endorse 1 A" ∷
    codes "done" ∷
    codes "event 8 init 1 A" ∷
    codes "done" ∷
    codes "step authinit 1 A x" ∷
    codes "end" ∷
    codes "tip 0" ∷
    codes "live #0 10" ∷
    codes "time 0" ∷
    codes "deposit #0 A 10" ∷
    codes "offer fire init 0" ∷
    codes "offer fire init 1" ∷
    [])

two_contracts_are_offered :
    replies small_hash (codes "play" ∷ codes "two_contracts_are_offered.run" ∷ codes "withdrawal.bitml" ∷ codes "locked.bitml" ∷ [])
    ((codes "two_contracts_are_offered.run", two_contracts_are_offered_run) ∷ (codes "withdrawal.bitml", withdrawal_bitml)
    ∷ (codes "locked.bitml", locked_bitml) ∷ [])
    ≡ prints 0 two_contracts_are_offered_text
unfolding is_name word_prefix number_prefix symbol_prefix read_answer advert_of_all advert_at entries_at entry_at head_at deposit_at
    secret_at fee_at choice_with branches_at branch_at parts_at auth_at after_at put_at reveal_at split_at reveals_at puts_at
    put_reveals_at headed_at one_branch_at condition_at names_from test_at comparison_at formula_at constant_at length_at withdraw_at
    digits label_text stripped marked compact places_list sequences_list outputs_list preimage position_script many wide_at compact_at
    string_at input_at inputs_at output_at outputs_at witness_at witnesses_at plain_at marked_at transaction_at all_at script_meaning
    ops_of number_of_item signed_bytes item_of_number play_text
two_contracts_are_offered = refl

abbrev two_contracts_one_deposit_run : List ℕ
two_contracts_one_deposit_run =
    lines (
    codes "party A" ∷
    codes "honest A" ∷
    codes "deposit A 10" ∷
    codes "--" ∷
    codes "advertise 0 x=#0" ∷
    codes "commit 0 A" ∷
    codes "endorse 0 A" ∷
    codes "init 0 A" ∷
    codes "advertise 1 x=#0" ∷
    codes "commit 1 A" ∷
    codes "endorse 1 A" ∷
    codes "init 1 A" ∷
    codes "fire init 1" ∷
    codes "fire init 0" ∷
    [])

abbrev two_contracts_one_deposit_text : List ℕ
two_contracts_one_deposit_text =
    lines (
    codes "start #0 A 10" ∷
    codes "event 1 advertise 0 x=#0" ∷
    codes "done" ∷
    codes "step advertise 0 x=#0" ∷
    codes "event 2 commit 0 A" ∷
    codes "done" ∷
    codes "step commit 0 A" ∷
    codes "event 3 endorse 0 A" ∷
    codes "done" ∷
    codes "event 4 init 0 A" ∷
    codes "done" ∷
    codes "step authinit 0 A x" ∷
    codes "event 5 advertise 1 x=#0" ∷
    codes "done" ∷
    codes "step advertise 1 x=#0" ∷
    codes "event 6 commit 1 A" ∷
    codes "done" ∷
    codes "step commit 1 A" ∷
    codes "event 7 endorse 1 A" ∷
    codes "done" ∷
    codes "event 8 init 1 A" ∷
    codes "done" ∷
    codes "step authinit 1 A x" ∷
    codes "event 9 fire init 1" ∷
    codes "accepted spends #0 makes #1 10 lock 0" ∷
    codes "step init 1 -> #1" ∷
    codes "event 10 fire init 0" ∷
    codes "refused MissingInput 0" ∷
    codes "end" ∷
    codes "tip 0" ∷
    codes "live #1 10" ∷
    codes "time 0" ∷
    codes "contract #1 1 r 10" ∷
    [])

two_contracts_one_deposit :
    replies small_hash (codes "play" ∷ codes "two_contracts_one_deposit.run" ∷ codes "withdrawal.bitml" ∷ codes "locked.bitml" ∷ [])
    ((codes "two_contracts_one_deposit.run", two_contracts_one_deposit_run) ∷ (codes "withdrawal.bitml", withdrawal_bitml)
    ∷ (codes "locked.bitml", locked_bitml) ∷ [])
    ≡ prints 0 two_contracts_one_deposit_text
unfolding is_name word_prefix number_prefix symbol_prefix read_answer advert_of_all advert_at entries_at entry_at head_at deposit_at
    secret_at fee_at choice_with branches_at branch_at parts_at auth_at after_at put_at reveal_at split_at reveals_at puts_at
    put_reveals_at headed_at one_branch_at condition_at names_from test_at comparison_at formula_at constant_at length_at withdraw_at
    digits label_text stripped marked compact places_list sequences_list outputs_list preimage position_script many wide_at compact_at
    string_at input_at inputs_at output_at outputs_at witness_at witnesses_at plain_at marked_at transaction_at all_at script_meaning
    ops_of number_of_item signed_bytes item_of_number play_text
two_contracts_one_deposit = refl
