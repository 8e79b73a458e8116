-- How contracts begin: endorsements, signatures and refusals, played.
use Rattle.std.proofs.Common.{◌≡◌, ℕ, List, [], ◌∷◌, ◌++◌, refl}
use Rattle.std.specs.Prelude.{codes}
use Rattle.std.specs.Fmt.{digits}
use Rattle.spec_terms.specs.Readable.{is_name}
use Rattle.spec_bitcoin.specs.Keys.{label_text}
use Rattle.spec_bitcoin.specs.Digests.{places_list, sequences_list, outputs_list, preimage}
use Rattle.spec_bitcoin.specs.Spelling.{stripped, marked, compact}
use Rattle.spec_bitcoin.specs.Reading.{many, wide_at, compact_at, string_at, input_at, inputs_at, output_at, outputs_at, witness_at}
use Rattle.spec_bitcoin.specs.Reading.{witnesses_at, plain_at, marked_at, transaction_at, all_at}
use Rattle.spec_bitcoin.specs.Meaning.{script_meaning}
use Rattle.spec_bitcoin.specs.Numbers.{number_of_item, signed_bytes, item_of_number}
use Rattle.spec_bitcoin.specs.Scripts.{ops_of}
use Rattle.spec_compiler.specs.Keyed.Instance.{position_script}
use Rattle.spec_text.specs.Lexis.{word_prefix, number_prefix, symbol_prefix}
use Rattle.spec_text.specs.ReadAdvert.{read_answer, advert_of_all, advert_at, entries_at, entry_at, head_at, deposit_at, secret_at, fee_at}
use Rattle.spec_text.specs.ReadContract.{withdraw_at, condition_at, reveals_at, puts_at, put_reveals_at, headed_at, one_branch_at}
use Rattle.spec_text.specs.ReadContract.{branches_at, choice_with, parts_at, auth_at, after_at, put_at, reveal_at, split_at, branch_at}
use Rattle.spec_text.specs.ReadTest.{constant_at, length_at, formula_at, comparison_at, test_at}
use Rattle.spec_text.specs.Reading.{names_from}
use Rattle.spec_text.specs.Played.{play_text}
use Rattle.spec_tool.specs.Commands.{prints}
use Rattle.theory_values.specs.Replies.{lines, replies, small_hash}

abbrev endorsed_after_a_refusal_run : List ℕ
endorsed_after_a_refusal_run =
    lines (
    codes "party A" ∷
    codes "party B" ∷
    codes "honest A" ∷
    codes "secret A a 00112233445566778899aabbccddeeff" ∷
    codes "deposit A 100000000" ∷
    codes "deposit B 0" ∷
    codes "--" ∷
    codes "advertise 0 x=#0 y=#1" ∷
    codes "commit 0 A" ∷
    codes "commit 0 B" ∷
    codes "init 0 A" ∷
    codes "endorse 0 A" ∷
    codes "endorse 0 B" ∷
    codes "init 0 A" ∷
    [])

abbrev timed_commitment_bitml : List ℕ
timed_commitment_bitml =
    codes "{A:! 100000000 @ x | B:! 0 @ y | A: secret a} (reveal a . withdraw A + after 1000 : withdraw B)"

abbrev endorsed_after_a_refusal_text : List ℕ
endorsed_after_a_refusal_text =
    lines (
    codes "start #0 A 100000000" ∷
    codes "start #1 B 0" ∷
    codes "event 1 advertise 0 x=#0 y=#1" ∷
    codes "done" ∷
    codes "step advertise 0 x=#0 y=#1" ∷
    codes "event 2 commit 0 A" ∷
    codes "done" ∷
    codes "step commit 0 A a=0" ∷
    codes "event 3 commit 0 B" ∷
    codes "done" ∷
    codes "step commit 0 B" ∷
    codes "event 4 init 0 A" ∷
    codes "refused NotEndorsed r.0 A" ∷
    codes "event 5 endorse 0 A" ∷
    codes "done" ∷
    codes "event 6 endorse 0 B" ∷
    codes "done" ∷
    codes "event 7 init 0 A" ∷
    codes "done" ∷
    codes "step authinit 0 A x" ∷
    codes "end" ∷
    codes "tip 0" ∷
    codes "live #0 100000000" ∷
    codes "live #1 0" ∷
    codes "time 0" ∷
    codes "deposit #0 A 100000000" ∷
    codes "deposit #1 B 0" ∷
    codes "secret 0 A a 0 hidden" ∷
    [])

endorsed_after_a_refusal :
    replies small_hash (codes "play" ∷ codes "endorsed_after_a_refusal.run" ∷ codes "timed_commitment.bitml" ∷ [])
    ((codes "endorsed_after_a_refusal.run", endorsed_after_a_refusal_run) ∷ (codes "timed_commitment.bitml", timed_commitment_bitml)
    ∷ [])
    ≡ prints 0 endorsed_after_a_refusal_text
unfolding is_name word_prefix number_prefix symbol_prefix read_answer advert_of_all advert_at entries_at entry_at head_at deposit_at
    secret_at fee_at choice_with branches_at branch_at parts_at auth_at after_at put_at reveal_at split_at reveals_at puts_at
    put_reveals_at headed_at one_branch_at condition_at names_from test_at comparison_at formula_at constant_at length_at withdraw_at
    digits label_text stripped marked compact places_list sequences_list outputs_list preimage position_script many wide_at compact_at
    string_at input_at inputs_at output_at outputs_at witness_at witnesses_at plain_at marked_at transaction_at all_at script_meaning
    ops_of number_of_item signed_bytes item_of_number play_text
endorsed_after_a_refusal = refl

abbrev endorsement_of_the_other_run : List ℕ
endorsement_of_the_other_run =
    lines (
    codes "party A" ∷
    codes "party B" ∷
    codes "honest A" ∷
    codes "deposit A 10" ∷
    codes "deposit B 0" ∷
    codes "--" ∷
    codes "advertise 0 x=#0 y=#1" ∷
    codes "commit 0 A" ∷
    codes "commit 0 B" ∷
    codes "endorse 0 A" ∷
    codes "init 0 A" ∷
    [])

abbrev two_deposits_bitml : List ℕ
two_deposits_bitml =
    codes "{A:! 10 @ x | B:! 0 @ y} withdraw A"

abbrev endorsement_of_the_other_text : List ℕ
endorsement_of_the_other_text =
    lines (
    codes "start #0 A 10" ∷
    codes "start #1 B 0" ∷
    codes "event 1 advertise 0 x=#0 y=#1" ∷
    codes "done" ∷
    codes "step advertise 0 x=#0 y=#1" ∷
    codes "event 2 commit 0 A" ∷
    codes "done" ∷
    codes "step commit 0 A" ∷
    codes "event 3 commit 0 B" ∷
    codes "done" ∷
    codes "step commit 0 B" ∷
    codes "event 4 endorse 0 A" ∷
    codes "done" ∷
    codes "event 5 init 0 A" ∷
    codes "refused NotEndorsed r.0 B" ∷
    codes "end" ∷
    codes "tip 0" ∷
    codes "live #0 10" ∷
    codes "live #1 0" ∷
    codes "time 0" ∷
    codes "deposit #0 A 10" ∷
    codes "deposit #1 B 0" ∷
    [])

endorsement_of_the_other :
    replies small_hash (codes "play" ∷ codes "endorsement_of_the_other.run" ∷ codes "two_deposits.bitml" ∷ [])
    ((codes "endorsement_of_the_other.run", endorsement_of_the_other_run) ∷ (codes "two_deposits.bitml", two_deposits_bitml) ∷ [])
    ≡ prints 0 endorsement_of_the_other_text
unfolding is_name word_prefix number_prefix symbol_prefix read_answer advert_of_all advert_at entries_at entry_at head_at deposit_at
    secret_at fee_at choice_with branches_at branch_at parts_at auth_at after_at put_at reveal_at split_at reveals_at puts_at
    put_reveals_at headed_at one_branch_at condition_at names_from test_at comparison_at formula_at constant_at length_at withdraw_at
    digits label_text stripped marked compact places_list sequences_list outputs_list preimage position_script many wide_at compact_at
    string_at input_at inputs_at output_at outputs_at witness_at witnesses_at plain_at marked_at transaction_at all_at script_meaning
    ops_of number_of_item signed_bytes item_of_number play_text
endorsement_of_the_other = refl

abbrev second_endorsement_is_missing_run : List ℕ
second_endorsement_is_missing_run =
    lines (
    codes "party A" ∷
    codes "party B" ∷
    codes "honest A" ∷
    codes "secret A a 00112233445566778899aabbccddeeff" ∷
    codes "deposit A 100000000" ∷
    codes "deposit B 0" ∷
    codes "--" ∷
    codes "advertise 0 x=#0 y=#1" ∷
    codes "commit 0 A" ∷
    codes "commit 0 B" ∷
    codes "endorse 0 A" ∷
    codes "init 0 A" ∷
    [])

abbrev second_endorsement_is_missing_text : List ℕ
second_endorsement_is_missing_text =
    lines (
    codes "start #0 A 100000000" ∷
    codes "start #1 B 0" ∷
    codes "event 1 advertise 0 x=#0 y=#1" ∷
    codes "done" ∷
    codes "step advertise 0 x=#0 y=#1" ∷
    codes "event 2 commit 0 A" ∷
    codes "done" ∷
    codes "step commit 0 A a=0" ∷
    codes "event 3 commit 0 B" ∷
    codes "done" ∷
    codes "step commit 0 B" ∷
    codes "event 4 endorse 0 A" ∷
    codes "done" ∷
    codes "event 5 init 0 A" ∷
    codes "refused NotEndorsed r.0 B" ∷
    codes "end" ∷
    codes "tip 0" ∷
    codes "live #0 100000000" ∷
    codes "live #1 0" ∷
    codes "time 0" ∷
    codes "deposit #0 A 100000000" ∷
    codes "deposit #1 B 0" ∷
    codes "secret 0 A a 0 hidden" ∷
    [])

second_endorsement_is_missing :
    replies small_hash (codes "play" ∷ codes "second_endorsement_is_missing.run" ∷ codes "timed_commitment.bitml" ∷ [])
    ((codes "second_endorsement_is_missing.run", second_endorsement_is_missing_run)
    ∷ (codes "timed_commitment.bitml", timed_commitment_bitml) ∷ [])
    ≡ prints 0 second_endorsement_is_missing_text
unfolding is_name word_prefix number_prefix symbol_prefix read_answer advert_of_all advert_at entries_at entry_at head_at deposit_at
    secret_at fee_at choice_with branches_at branch_at parts_at auth_at after_at put_at reveal_at split_at reveals_at puts_at
    put_reveals_at headed_at one_branch_at condition_at names_from test_at comparison_at formula_at constant_at length_at withdraw_at
    digits label_text stripped marked compact places_list sequences_list outputs_list preimage position_script many wide_at compact_at
    string_at input_at inputs_at output_at outputs_at witness_at witnesses_at plain_at marked_at transaction_at all_at script_meaning
    ops_of number_of_item signed_bytes item_of_number play_text
second_endorsement_is_missing = refl

abbrev refusals_in_order_run : List ℕ
refusals_in_order_run =
    lines (
    codes "party A" ∷
    codes "party B" ∷
    codes "honest A" ∷
    codes "secret A a 00112233445566778899aabbccddeeff" ∷
    codes "deposit A 100000000" ∷
    codes "deposit B 0" ∷
    codes "--" ∷
    codes "fire init 0" ∷
    codes "commit 0 A" ∷
    codes "advertise 1 x=#0" ∷
    codes "advertise 0 x=#0" ∷
    codes "advertise 0 x=#0 y=#0" ∷
    codes "advertise 0 x=#0 y=#9" ∷
    codes "advertise 0 x=#1 y=#0" ∷
    codes "advertise 0 y=#1 x=#0" ∷
    codes "advertise 0 x=#0 y=#1" ∷
    codes "endorse 0 A" ∷
    codes "reveal 0 B a" ∷
    codes "reveal 0 A a" ∷
    codes "commit 0 A" ∷
    codes "commit 0 A" ∷
    codes "reveal 0 A a" ∷
    codes "authorise A #0 0" ∷
    codes "sign A D:A 0000000000000000000000000000000000000000000000000000000000000000" ∷
    codes "sign B D:A 0000000000000000000000000000000000000000000000000000000000000000" ∷
    codes "mine 499999999" ∷
    codes "mine 1" ∷
    [])

abbrev refusals_in_order_text : List ℕ
refusals_in_order_text =
    lines (
    codes "start #0 A 100000000" ∷
    codes "start #1 B 0" ∷
    codes "event 1 fire init 0" ∷
    codes "refused NotCompiled" ∷
    codes "event 2 commit 0 A" ∷
    codes "refused NotAdvertised" ∷
    codes "event 3 advertise 1 x=#0" ∷
    codes "refused NoContract" ∷
    codes "event 4 advertise 0 x=#0" ∷
    codes "refused WrongNames" ∷
    codes "event 5 advertise 0 x=#0 y=#0" ∷
    codes "refused DepositRepeated y" ∷
    codes "event 6 advertise 0 x=#0 y=#9" ∷
    codes "refused NotLive y" ∷
    codes "event 7 advertise 0 x=#1 y=#0" ∷
    codes "refused WrongDeposit x" ∷
    codes "event 8 advertise 0 y=#1 x=#0" ∷
    codes "done" ∷
    codes "step advertise 0 x=#0 y=#1" ∷
    codes "event 9 advertise 0 x=#0 y=#1" ∷
    codes "refused AdvertFull" ∷
    codes "event 10 endorse 0 A" ∷
    codes "refused NotAllCommitted" ∷
    codes "event 11 reveal 0 B a" ∷
    codes "refused NotHonest" ∷
    codes "event 12 reveal 0 A a" ∷
    codes "refused NotCommitted" ∷
    codes "event 13 commit 0 A" ∷
    codes "done" ∷
    codes "step commit 0 A a=0" ∷
    codes "event 14 commit 0 A" ∷
    codes "refused AlreadyCommitted" ∷
    codes "event 15 reveal 0 A a" ∷
    codes "refused NotBegun" ∷
    codes "event 16 authorise A #0 0" ∷
    codes "refused NotActive" ∷
    codes "event 17 sign A D:A 0000000000000000000000000000000000000000000000000000000000000000" ∷
    codes "refused Honest" ∷
    codes "event 18 sign B D:A 0000000000000000000000000000000000000000000000000000000000000000" ∷
    codes "refused NotOwner" ∷
    codes "event 19 mine 499999999" ∷
    codes "done" ∷
    codes "step delay 499999999" ∷
    codes "event 20 mine 1" ∷
    codes "refused TimeLimit" ∷
    codes "end" ∷
    codes "tip 499999999" ∷
    codes "live #0 100000000" ∷
    codes "live #1 0" ∷
    codes "time 499999999" ∷
    codes "deposit #0 A 100000000" ∷
    codes "deposit #1 B 0" ∷
    codes "secret 0 A a 0 hidden" ∷
    [])

refusals_in_order :
    replies small_hash (codes "play" ∷ codes "refusals_in_order.run" ∷ codes "timed_commitment.bitml" ∷ [])
    ((codes "refusals_in_order.run", refusals_in_order_run) ∷ (codes "timed_commitment.bitml", timed_commitment_bitml) ∷ [])
    ≡ prints 0 refusals_in_order_text
unfolding is_name word_prefix number_prefix symbol_prefix read_answer advert_of_all advert_at entries_at entry_at head_at deposit_at
    secret_at fee_at choice_with branches_at branch_at parts_at auth_at after_at put_at reveal_at split_at reveals_at puts_at
    put_reveals_at headed_at one_branch_at condition_at names_from test_at comparison_at formula_at constant_at length_at withdraw_at
    digits label_text stripped marked compact places_list sequences_list outputs_list preimage position_script many wide_at compact_at
    string_at input_at inputs_at output_at outputs_at witness_at witnesses_at plain_at marked_at transaction_at all_at script_meaning
    ops_of number_of_item signed_bytes item_of_number play_text
refusals_in_order = refl

abbrev not_signed_in_advance_run : List ℕ
not_signed_in_advance_run =
    lines (
    codes "party A" ∷
    codes "party B" ∷
    codes "honest A" ∷
    codes "deposit A 10" ∷
    codes "deposit B 0" ∷
    codes "--" ∷
    codes "advertise 0 x=#0 y=#1" ∷
    codes "commit 0 A" ∷
    codes "commit 0 B" ∷
    codes "endorse 0 A" ∷
    codes "endorse 0 B" ∷
    codes "init 0 A" ∷
    codes "init 0 B" ∷
    codes "fire init 0" ∷
    codes "fire #2 0" ∷
    [])

abbrev withdrawal_with_consent_bitml : List ℕ
withdrawal_with_consent_bitml =
    codes "{A:! 10 @ x | B:! 0 @ y} B : withdraw A"

abbrev not_signed_in_advance_text : List ℕ
not_signed_in_advance_text =
    lines (
    codes "start #0 A 10" ∷
    codes "start #1 B 0" ∷
    codes "event 1 advertise 0 x=#0 y=#1" ∷
    codes "done" ∷
    codes "step advertise 0 x=#0 y=#1" ∷
    codes "event 2 commit 0 A" ∷
    codes "done" ∷
    codes "step commit 0 A" ∷
    codes "event 3 commit 0 B" ∷
    codes "done" ∷
    codes "step commit 0 B" ∷
    codes "event 4 endorse 0 A" ∷
    codes "done" ∷
    codes "event 5 endorse 0 B" ∷
    codes "done" ∷
    codes "event 6 init 0 A" ∷
    codes "done" ∷
    codes "step authinit 0 A x" ∷
    codes "event 7 init 0 B" ∷
    codes "done" ∷
    codes "step authinit 0 B y" ∷
    codes "event 8 fire init 0" ∷
    codes "accepted spends #0 #1 makes #2 10 lock 0" ∷
    codes "step init 0 -> #2" ∷
    codes "event 9 fire #2 0" ∷
    codes "refused ScriptFalse 0" ∷
    codes "end" ∷
    codes "tip 0" ∷
    codes "live #2 10" ∷
    codes "time 0" ∷
    codes "contract #2 0 r 10" ∷
    [])

not_signed_in_advance :
    replies small_hash (codes "play" ∷ codes "not_signed_in_advance.run" ∷ codes "withdrawal_with_consent.bitml" ∷ [])
    ((codes "not_signed_in_advance.run", not_signed_in_advance_run)
    ∷ (codes "withdrawal_with_consent.bitml", withdrawal_with_consent_bitml) ∷ [])
    ≡ prints 0 not_signed_in_advance_text
unfolding is_name word_prefix number_prefix symbol_prefix read_answer advert_of_all advert_at entries_at entry_at head_at deposit_at
    secret_at fee_at choice_with branches_at branch_at parts_at auth_at after_at put_at reveal_at split_at reveals_at puts_at
    put_reveals_at headed_at one_branch_at condition_at names_from test_at comparison_at formula_at constant_at length_at withdraw_at
    digits label_text stripped marked compact places_list sequences_list outputs_list preimage position_script many wide_at compact_at
    string_at input_at inputs_at output_at outputs_at witness_at witnesses_at plain_at marked_at transaction_at all_at script_meaning
    ops_of number_of_item signed_bytes item_of_number play_text
not_signed_in_advance = refl

abbrev siblings_have_keys_of_their_own_run : List ℕ
siblings_have_keys_of_their_own_run =
    lines (
    codes "party A" ∷
    codes "party B" ∷
    codes "honest A" ∷
    codes "deposit A 10" ∷
    codes "deposit B 0" ∷
    codes "--" ∷
    codes "advertise 0 x=#0 y=#1" ∷
    codes "commit 0 A" ∷
    codes "commit 0 B" ∷
    codes "endorse 0 A" ∷
    codes "endorse 0 B" ∷
    codes "init 0 A" ∷
    codes "init 0 B" ∷
    codes "fire init 0" ∷
    codes "authorise A #2 1" ∷
    codes "authorise B #2 1" ∷
    codes "fire #2 0" ∷
    codes "fire #2 1" ∷
    [])

abbrev either_consents_bitml : List ℕ
either_consents_bitml =
    codes "{A:! 10 @ x | B:! 0 @ y} (A : withdraw B + B : withdraw B)"

abbrev siblings_have_keys_of_their_own_text : List ℕ
siblings_have_keys_of_their_own_text =
    lines (
    codes "start #0 A 10" ∷
    codes "start #1 B 0" ∷
    codes "event 1 advertise 0 x=#0 y=#1" ∷
    codes "done" ∷
    codes "step advertise 0 x=#0 y=#1" ∷
    codes "event 2 commit 0 A" ∷
    codes "done" ∷
    codes "step commit 0 A" ∷
    codes "event 3 commit 0 B" ∷
    codes "done" ∷
    codes "step commit 0 B" ∷
    codes "event 4 endorse 0 A" ∷
    codes "done" ∷
    codes "event 5 endorse 0 B" ∷
    codes "done" ∷
    codes "event 6 init 0 A" ∷
    codes "done" ∷
    codes "step authinit 0 A x" ∷
    codes "event 7 init 0 B" ∷
    codes "done" ∷
    codes "step authinit 0 B y" ∷
    codes "event 8 fire init 0" ∷
    codes "accepted spends #0 #1 makes #2 10 lock 0" ∷
    codes "step init 0 -> #2" ∷
    codes "event 9 authorise A #2 1" ∷
    codes "refused NotAsked" ∷
    codes "event 10 authorise B #2 1" ∷
    codes "done" ∷
    codes "step authbranch B #2 1" ∷
    codes "event 11 fire #2 0" ∷
    codes "refused ScriptFalse 0" ∷
    codes "event 12 fire #2 1" ∷
    codes "accepted spends #2 makes #3 10 lock 0" ∷
    codes "step withdraw #2 1 -> #3" ∷
    codes "end" ∷
    codes "tip 0" ∷
    codes "live #3 10" ∷
    codes "time 0" ∷
    codes "deposit #3 B 10" ∷
    [])

siblings_have_keys_of_their_own :
    replies small_hash (codes "play" ∷ codes "siblings_have_keys_of_their_own.run" ∷ codes "either_consents.bitml" ∷ [])
    ((codes "siblings_have_keys_of_their_own.run", siblings_have_keys_of_their_own_run)
    ∷ (codes "either_consents.bitml", either_consents_bitml) ∷ [])
    ≡ prints 0 siblings_have_keys_of_their_own_text
unfolding is_name word_prefix number_prefix symbol_prefix read_answer advert_of_all advert_at entries_at entry_at head_at deposit_at
    secret_at fee_at choice_with branches_at branch_at parts_at auth_at after_at put_at reveal_at split_at reveals_at puts_at
    put_reveals_at headed_at one_branch_at condition_at names_from test_at comparison_at formula_at constant_at length_at withdraw_at
    digits label_text stripped marked compact places_list sequences_list outputs_list preimage position_script many wide_at compact_at
    string_at input_at inputs_at output_at outputs_at witness_at witnesses_at plain_at marked_at transaction_at all_at script_meaning
    ops_of number_of_item signed_bytes item_of_number play_text
siblings_have_keys_of_their_own = refl

abbrev transaction_again_run : List ℕ
transaction_again_run =
    lines (
    codes "party A" ∷
    codes "party B" ∷
    codes "honest A" ∷
    codes "secret A a 00112233445566778899aabbccddeeff" ∷
    codes "deposit A 100000000" ∷
    codes "deposit B 0" ∷
    codes "--" ∷
    codes "advertise 0 x=#0 y=#1" ∷
    codes "commit 0 A" ∷
    codes "commit 0 B" ∷
    codes "endorse 0 A" ∷
    codes "endorse 0 B" ∷
    codes "init 0 A" ∷
    codes "init 0 B" ∷
    codes "fire init 0" ∷
    codes "reveal 0 A a" ∷
    codes "fire #2 0" ∷
    codes "fire #3 0" ∷
    (codes "append 020000000001011d627ea6cd3c90bd7fa3e6078f39e62dadd7192490a43a5ea3ba06cc897578790000000000feffffff0100e" ++
    codes "1f50500000000220020076da2f9f647fbcb9903a88f8af5241446df8d2046fafa1ed165dd92c637ac2705420235fc277c05597b9d5b6" ++
    codes "67c63c706ba589607a00daa433e8e5192b5da5be35aed70cda67cd71dd20a123d991f93607be650fd94b275c88e6dd358d04171834e0" ++
    codes "3014202c3048eb8a63ed41ea7b9fd55fb07a87736e61f4190c6603e48bd46951789fdb870cda67cd71dd20a123d991f93607be650fd9" ++
    codes "4b275c88e6dd358d04171834e03011000112233445566778899aabbccddeeff0101bf63827660020902a5696ba820a8faed6abbf35c1" ++
    codes "2a4b26e40f6feb19d736d90045c83b9f9a31f638d323e6811886c5169752102c3048eb8a63ed41ea7b9fd55fb07a87736e61f4190c66" ++
    codes "03e48bd46951789fdb8ad210235fc277c05597b9d5b667c63c706ba589607a00daa433e8e5192b5da5be35aedac672102f7e80ccb7d5" ++
    codes "4c4bdea466097bdf5ae0514a4d484095f28f5fdcf21607365e6c0ad21026cb28c3fb4019e0b14b7f21fbddabd99301bf8e04955429d9" ++
    codes "0eadc7b113aae30ac6800000000") ∷
    [])

abbrev transaction_again_text : List ℕ
transaction_again_text =
    lines (
    codes "start #0 A 100000000" ∷
    codes "start #1 B 0" ∷
    codes "event 1 advertise 0 x=#0 y=#1" ∷
    codes "done" ∷
    codes "step advertise 0 x=#0 y=#1" ∷
    codes "event 2 commit 0 A" ∷
    codes "done" ∷
    codes "step commit 0 A a=0" ∷
    codes "event 3 commit 0 B" ∷
    codes "done" ∷
    codes "step commit 0 B" ∷
    codes "event 4 endorse 0 A" ∷
    codes "done" ∷
    codes "event 5 endorse 0 B" ∷
    codes "done" ∷
    codes "event 6 init 0 A" ∷
    codes "done" ∷
    codes "step authinit 0 A x" ∷
    codes "event 7 init 0 B" ∷
    codes "done" ∷
    codes "step authinit 0 B y" ∷
    codes "event 8 fire init 0" ∷
    codes "accepted spends #0 #1 makes #2 100000000 lock 0" ∷
    codes "step init 0 -> #2" ∷
    codes "event 9 reveal 0 A a" ∷
    codes "done" ∷
    codes "step reveal 0 A a" ∷
    codes "event 10 fire #2 0" ∷
    codes "accepted spends #2 makes #3 100000000 lock 0" ∷
    codes "step putreveal #2 0 -> #3" ∷
    codes "event 11 fire #3 0" ∷
    codes "accepted spends #3 makes #4 100000000 lock 0" ∷
    codes "step withdraw #3 0 -> #4" ∷
    (codes "event 12 append 020000000001011d627ea6cd3c90bd7fa3e6078f39e62dadd7192490a43a5ea3ba06cc897578790000000000feff" ++
    codes "ffff0100e1f50500000000220020076da2f9f647fbcb9903a88f8af5241446df8d2046fafa1ed165dd92c637ac2705420235fc277c05" ++
    codes "597b9d5b667c63c706ba589607a00daa433e8e5192b5da5be35aed70cda67cd71dd20a123d991f93607be650fd94b275c88e6dd358d0" ++
    codes "4171834e03014202c3048eb8a63ed41ea7b9fd55fb07a87736e61f4190c6603e48bd46951789fdb870cda67cd71dd20a123d991f9360" ++
    codes "7be650fd94b275c88e6dd358d04171834e03011000112233445566778899aabbccddeeff0101bf63827660020902a5696ba820a8faed" ++
    codes "6abbf35c12a4b26e40f6feb19d736d90045c83b9f9a31f638d323e6811886c5169752102c3048eb8a63ed41ea7b9fd55fb07a87736e6" ++
    codes "1f4190c6603e48bd46951789fdb8ad210235fc277c05597b9d5b667c63c706ba589607a00daa433e8e5192b5da5be35aedac672102f7" ++
    codes "e80ccb7d54c4bdea466097bdf5ae0514a4d484095f28f5fdcf21607365e6c0ad21026cb28c3fb4019e0b14b7f21fbddabd99301bf8e0" ++
    codes "4955429d90eadc7b113aae30ac6800000000") ∷
    codes "refused MissingInput 0" ∷
    codes "end" ∷
    codes "tip 0" ∷
    codes "live #4 100000000" ∷
    codes "time 0" ∷
    codes "deposit #4 A 100000000" ∷
    codes "secret 0 A a 0 revealed" ∷
    [])

transaction_again :
    replies small_hash (codes "play" ∷ codes "transaction_again.run" ∷ codes "timed_commitment.bitml" ∷ [])
    ((codes "transaction_again.run", transaction_again_run) ∷ (codes "timed_commitment.bitml", timed_commitment_bitml) ∷ [])
    ≡ prints 0 transaction_again_text
unfolding is_name word_prefix number_prefix symbol_prefix read_answer advert_of_all advert_at entries_at entry_at head_at deposit_at
    secret_at fee_at choice_with branches_at branch_at parts_at auth_at after_at put_at reveal_at split_at reveals_at puts_at
    put_reveals_at headed_at one_branch_at condition_at names_from test_at comparison_at formula_at constant_at length_at withdraw_at
    digits label_text stripped marked compact places_list sequences_list outputs_list preimage position_script many wide_at compact_at
    string_at input_at inputs_at output_at outputs_at witness_at witnesses_at plain_at marked_at transaction_at all_at script_meaning
    ops_of number_of_item signed_bytes item_of_number play_text
transaction_again = refl
