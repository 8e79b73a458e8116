-- Branches before and after their locks, played.
use Rattle.std.proofs.Common.{◌≡◌, ℕ, List, [], ◌∷◌, refl}
use Rattle.std.specs.Prelude.{codes}
use Rattle.std.specs.Fmt.{digits}
use Rattle.spec_terms.specs.Readable.{is_name}
use Rattle.spec_bitcoin.specs.Keys.{label_text}
use Rattle.spec_bitcoin.specs.Digests.{places_list, sequences_list, outputs_list, preimage}
use Rattle.spec_bitcoin.specs.Spelling.{stripped, marked, compact}
use Rattle.spec_bitcoin.specs.Reading.{many, wide_at, compact_at, string_at, input_at, inputs_at, output_at, outputs_at, witness_at}
use Rattle.spec_bitcoin.specs.Reading.{witnesses_at, plain_at, marked_at, transaction_at, all_at}
use Rattle.spec_bitcoin.specs.Meaning.{script_meaning}
use Rattle.spec_bitcoin.specs.Numbers.{number_of_item, signed_bytes, item_of_number}
use Rattle.spec_bitcoin.specs.Scripts.{ops_of}
use Rattle.spec_compiler.specs.Keyed.Instance.{position_script}
use Rattle.spec_text.specs.Lexis.{word_prefix, number_prefix, symbol_prefix}
use Rattle.spec_text.specs.ReadAdvert.{read_answer, advert_of_all, advert_at, entries_at, entry_at, head_at, deposit_at, secret_at, fee_at}
use Rattle.spec_text.specs.ReadContract.{withdraw_at, condition_at, reveals_at, puts_at, put_reveals_at, headed_at, one_branch_at}
use Rattle.spec_text.specs.ReadContract.{branches_at, choice_with, parts_at, auth_at, after_at, put_at, reveal_at, split_at, branch_at}
use Rattle.spec_text.specs.ReadTest.{constant_at, length_at, formula_at, comparison_at, test_at}
use Rattle.spec_text.specs.Reading.{names_from}
use Rattle.spec_text.specs.Played.{play_text}
use Rattle.spec_tool.specs.Commands.{prints}
use Rattle.theory_values.specs.Replies.{lines, replies, small_hash}

abbrev lock_is_not_over_run : List ℕ
lock_is_not_over_run =
    lines (
    codes "party A" ∷
    codes "honest A" ∷
    codes "deposit A 10" ∷
    codes "--" ∷
    codes "advertise 0 x=#0" ∷
    codes "commit 0 A" ∷
    codes "endorse 0 A" ∷
    codes "init 0 A" ∷
    codes "fire init 0" ∷
    codes "mine 4" ∷
    codes "fire #1 0" ∷
    [])

abbrev locked_bitml : List ℕ
locked_bitml =
    codes "{A:! 10 @ x} after 5 : withdraw A"

abbrev lock_is_not_over_text : List ℕ
lock_is_not_over_text =
    lines (
    codes "start #0 A 10" ∷
    codes "event 1 advertise 0 x=#0" ∷
    codes "done" ∷
    codes "step advertise 0 x=#0" ∷
    codes "event 2 commit 0 A" ∷
    codes "done" ∷
    codes "step commit 0 A" ∷
    codes "event 3 endorse 0 A" ∷
    codes "done" ∷
    codes "event 4 init 0 A" ∷
    codes "done" ∷
    codes "step authinit 0 A x" ∷
    codes "event 5 fire init 0" ∷
    codes "accepted spends #0 makes #1 10 lock 0" ∷
    codes "step init 0 -> #1" ∷
    codes "event 6 mine 4" ∷
    codes "done" ∷
    codes "step delay 4" ∷
    codes "event 7 fire #1 0" ∷
    codes "refused NotFinal" ∷
    codes "end" ∷
    codes "tip 4" ∷
    codes "live #1 10" ∷
    codes "time 4" ∷
    codes "contract #1 0 r 10" ∷
    [])

lock_is_not_over :
    replies small_hash (codes "play" ∷ codes "lock_is_not_over.run" ∷ codes "locked.bitml" ∷ [])
    ((codes "lock_is_not_over.run", lock_is_not_over_run) ∷ (codes "locked.bitml", locked_bitml) ∷ [])
    ≡ prints 0 lock_is_not_over_text
unfolding is_name word_prefix number_prefix symbol_prefix read_answer advert_of_all advert_at entries_at entry_at head_at deposit_at
    secret_at fee_at choice_with branches_at branch_at parts_at auth_at after_at put_at reveal_at split_at reveals_at puts_at
    put_reveals_at headed_at one_branch_at condition_at names_from test_at comparison_at formula_at constant_at length_at withdraw_at
    digits label_text stripped marked compact places_list sequences_list outputs_list preimage position_script many wide_at compact_at
    string_at input_at inputs_at output_at outputs_at witness_at witnesses_at plain_at marked_at transaction_at all_at script_meaning
    ops_of number_of_item signed_bytes item_of_number play_text
lock_is_not_over = refl

abbrev lock_is_over_run : List ℕ
lock_is_over_run =
    lines (
    codes "party A" ∷
    codes "honest A" ∷
    codes "deposit A 10" ∷
    codes "--" ∷
    codes "advertise 0 x=#0" ∷
    codes "commit 0 A" ∷
    codes "endorse 0 A" ∷
    codes "init 0 A" ∷
    codes "fire init 0" ∷
    codes "mine 5" ∷
    [])

abbrev lock_is_over_text : List ℕ
lock_is_over_text =
    lines (
    codes "start #0 A 10" ∷
    codes "event 1 advertise 0 x=#0" ∷
    codes "done" ∷
    codes "step advertise 0 x=#0" ∷
    codes "event 2 commit 0 A" ∷
    codes "done" ∷
    codes "step commit 0 A" ∷
    codes "event 3 endorse 0 A" ∷
    codes "done" ∷
    codes "event 4 init 0 A" ∷
    codes "done" ∷
    codes "step authinit 0 A x" ∷
    codes "event 5 fire init 0" ∷
    codes "accepted spends #0 makes #1 10 lock 0" ∷
    codes "step init 0 -> #1" ∷
    codes "event 6 mine 5" ∷
    codes "done" ∷
    codes "step delay 5" ∷
    codes "end" ∷
    codes "tip 5" ∷
    codes "live #1 10" ∷
    codes "time 5" ∷
    codes "contract #1 0 r 10" ∷
    codes "offer fire #1 0" ∷
    [])

lock_is_over :
    replies small_hash (codes "play" ∷ codes "lock_is_over.run" ∷ codes "locked.bitml" ∷ [])
    ((codes "lock_is_over.run", lock_is_over_run) ∷ (codes "locked.bitml", locked_bitml) ∷ [])
    ≡ prints 0 lock_is_over_text
unfolding is_name word_prefix number_prefix symbol_prefix read_answer advert_of_all advert_at entries_at entry_at head_at deposit_at
    secret_at fee_at choice_with branches_at branch_at parts_at auth_at after_at put_at reveal_at split_at reveals_at puts_at
    put_reveals_at headed_at one_branch_at condition_at names_from test_at comparison_at formula_at constant_at length_at withdraw_at
    digits label_text stripped marked compact places_list sequences_list outputs_list preimage position_script many wide_at compact_at
    string_at input_at inputs_at output_at outputs_at witness_at witnesses_at plain_at marked_at transaction_at all_at script_meaning
    ops_of number_of_item signed_bytes item_of_number play_text
lock_is_over = refl

abbrev withdrawal_is_offered_run : List ℕ
withdrawal_is_offered_run =
    lines (
    codes "party A" ∷
    codes "party B" ∷
    codes "honest A" ∷
    codes "secret A a 00112233445566778899aabbccddeeff" ∷
    codes "deposit A 100000000" ∷
    codes "deposit B 0" ∷
    codes "--" ∷
    codes "advertise 0 x=#0 y=#1" ∷
    codes "commit 0 A" ∷
    codes "commit 0 B" ∷
    codes "endorse 0 A" ∷
    codes "endorse 0 B" ∷
    codes "init 0 A" ∷
    codes "init 0 B" ∷
    codes "fire init 0" ∷
    codes "mine 999" ∷
    codes "fire #2 1" ∷
    codes "mine 1" ∷
    [])

abbrev timed_commitment_bitml : List ℕ
timed_commitment_bitml =
    codes "{A:! 100000000 @ x | B:! 0 @ y | A: secret a} (reveal a . withdraw A + after 1000 : withdraw B)"

abbrev withdrawal_is_offered_text : List ℕ
withdrawal_is_offered_text =
    lines (
    codes "start #0 A 100000000" ∷
    codes "start #1 B 0" ∷
    codes "event 1 advertise 0 x=#0 y=#1" ∷
    codes "done" ∷
    codes "step advertise 0 x=#0 y=#1" ∷
    codes "event 2 commit 0 A" ∷
    codes "done" ∷
    codes "step commit 0 A a=0" ∷
    codes "event 3 commit 0 B" ∷
    codes "done" ∷
    codes "step commit 0 B" ∷
    codes "event 4 endorse 0 A" ∷
    codes "done" ∷
    codes "event 5 endorse 0 B" ∷
    codes "done" ∷
    codes "event 6 init 0 A" ∷
    codes "done" ∷
    codes "step authinit 0 A x" ∷
    codes "event 7 init 0 B" ∷
    codes "done" ∷
    codes "step authinit 0 B y" ∷
    codes "event 8 fire init 0" ∷
    codes "accepted spends #0 #1 makes #2 100000000 lock 0" ∷
    codes "step init 0 -> #2" ∷
    codes "event 9 mine 999" ∷
    codes "done" ∷
    codes "step delay 999" ∷
    codes "event 10 fire #2 1" ∷
    codes "refused NotFinal" ∷
    codes "event 11 mine 1" ∷
    codes "done" ∷
    codes "step delay 1" ∷
    codes "end" ∷
    codes "tip 1000" ∷
    codes "live #2 100000000" ∷
    codes "time 1000" ∷
    codes "contract #2 0 r 100000000" ∷
    codes "secret 0 A a 0 hidden" ∷
    codes "offer fire #2 1" ∷
    [])

withdrawal_is_offered :
    replies small_hash (codes "play" ∷ codes "withdrawal_is_offered.run" ∷ codes "timed_commitment.bitml" ∷ [])
    ((codes "withdrawal_is_offered.run", withdrawal_is_offered_run) ∷ (codes "timed_commitment.bitml", timed_commitment_bitml) ∷ [])
    ≡ prints 0 withdrawal_is_offered_text
unfolding is_name word_prefix number_prefix symbol_prefix read_answer advert_of_all advert_at entries_at entry_at head_at deposit_at
    secret_at fee_at choice_with branches_at branch_at parts_at auth_at after_at put_at reveal_at split_at reveals_at puts_at
    put_reveals_at headed_at one_branch_at condition_at names_from test_at comparison_at formula_at constant_at length_at withdraw_at
    digits label_text stripped marked compact places_list sequences_list outputs_list preimage position_script many wide_at compact_at
    string_at input_at inputs_at output_at outputs_at witness_at witnesses_at plain_at marked_at transaction_at all_at script_meaning
    ops_of number_of_item signed_bytes item_of_number play_text
withdrawal_is_offered = refl

abbrev withdrawn_after_the_lock_run : List ℕ
withdrawn_after_the_lock_run =
    lines (
    codes "party A" ∷
    codes "party B" ∷
    codes "honest A" ∷
    codes "secret A a 00112233445566778899aabbccddeeff" ∷
    codes "deposit A 100000000" ∷
    codes "deposit B 0" ∷
    codes "--" ∷
    codes "advertise 0 x=#0 y=#1" ∷
    codes "commit 0 A" ∷
    codes "commit 0 B" ∷
    codes "endorse 0 A" ∷
    codes "endorse 0 B" ∷
    codes "init 0 A" ∷
    codes "init 0 B" ∷
    codes "fire init 0" ∷
    codes "mine 999" ∷
    codes "fire #2 1" ∷
    codes "mine 1" ∷
    codes "fire #2 1" ∷
    [])

abbrev withdrawn_after_the_lock_text : List ℕ
withdrawn_after_the_lock_text =
    lines (
    codes "start #0 A 100000000" ∷
    codes "start #1 B 0" ∷
    codes "event 1 advertise 0 x=#0 y=#1" ∷
    codes "done" ∷
    codes "step advertise 0 x=#0 y=#1" ∷
    codes "event 2 commit 0 A" ∷
    codes "done" ∷
    codes "step commit 0 A a=0" ∷
    codes "event 3 commit 0 B" ∷
    codes "done" ∷
    codes "step commit 0 B" ∷
    codes "event 4 endorse 0 A" ∷
    codes "done" ∷
    codes "event 5 endorse 0 B" ∷
    codes "done" ∷
    codes "event 6 init 0 A" ∷
    codes "done" ∷
    codes "step authinit 0 A x" ∷
    codes "event 7 init 0 B" ∷
    codes "done" ∷
    codes "step authinit 0 B y" ∷
    codes "event 8 fire init 0" ∷
    codes "accepted spends #0 #1 makes #2 100000000 lock 0" ∷
    codes "step init 0 -> #2" ∷
    codes "event 9 mine 999" ∷
    codes "done" ∷
    codes "step delay 999" ∷
    codes "event 10 fire #2 1" ∷
    codes "refused NotFinal" ∷
    codes "event 11 mine 1" ∷
    codes "done" ∷
    codes "step delay 1" ∷
    codes "event 12 fire #2 1" ∷
    codes "accepted spends #2 makes #3 100000000 lock 1000" ∷
    codes "step withdraw #2 1 -> #3" ∷
    codes "end" ∷
    codes "tip 1000" ∷
    codes "live #3 100000000" ∷
    codes "time 1000" ∷
    codes "deposit #3 B 100000000" ∷
    codes "secret 0 A a 0 hidden" ∷
    [])

withdrawn_after_the_lock :
    replies small_hash (codes "play" ∷ codes "withdrawn_after_the_lock.run" ∷ codes "timed_commitment.bitml" ∷ [])
    ((codes "withdrawn_after_the_lock.run", withdrawn_after_the_lock_run) ∷ (codes "timed_commitment.bitml", timed_commitment_bitml)
    ∷ [])
    ≡ prints 0 withdrawn_after_the_lock_text
unfolding is_name word_prefix number_prefix symbol_prefix read_answer advert_of_all advert_at entries_at entry_at head_at deposit_at
    secret_at fee_at choice_with branches_at branch_at parts_at auth_at after_at put_at reveal_at split_at reveals_at puts_at
    put_reveals_at headed_at one_branch_at condition_at names_from test_at comparison_at formula_at constant_at length_at withdraw_at
    digits label_text stripped marked compact places_list sequences_list outputs_list preimage position_script many wide_at compact_at
    string_at input_at inputs_at output_at outputs_at witness_at witnesses_at plain_at marked_at transaction_at all_at script_meaning
    ops_of number_of_item signed_bytes item_of_number play_text
withdrawn_after_the_lock = refl

abbrev withdrawn_at_the_lock_run : List ℕ
withdrawn_at_the_lock_run =
    lines (
    codes "party A" ∷
    codes "honest A" ∷
    codes "deposit A 10" ∷
    codes "--" ∷
    codes "advertise 0 x=#0" ∷
    codes "commit 0 A" ∷
    codes "endorse 0 A" ∷
    codes "init 0 A" ∷
    codes "fire init 0" ∷
    codes "mine 5" ∷
    codes "fire #1 0" ∷
    [])

abbrev withdrawn_at_the_lock_text : List ℕ
withdrawn_at_the_lock_text =
    lines (
    codes "start #0 A 10" ∷
    codes "event 1 advertise 0 x=#0" ∷
    codes "done" ∷
    codes "step advertise 0 x=#0" ∷
    codes "event 2 commit 0 A" ∷
    codes "done" ∷
    codes "step commit 0 A" ∷
    codes "event 3 endorse 0 A" ∷
    codes "done" ∷
    codes "event 4 init 0 A" ∷
    codes "done" ∷
    codes "step authinit 0 A x" ∷
    codes "event 5 fire init 0" ∷
    codes "accepted spends #0 makes #1 10 lock 0" ∷
    codes "step init 0 -> #1" ∷
    codes "event 6 mine 5" ∷
    codes "done" ∷
    codes "step delay 5" ∷
    codes "event 7 fire #1 0" ∷
    codes "accepted spends #1 makes #2 10 lock 5" ∷
    codes "step withdraw #1 0 -> #2" ∷
    codes "end" ∷
    codes "tip 5" ∷
    codes "live #2 10" ∷
    codes "time 5" ∷
    codes "deposit #2 A 10" ∷
    [])

withdrawn_at_the_lock :
    replies small_hash (codes "play" ∷ codes "withdrawn_at_the_lock.run" ∷ codes "locked.bitml" ∷ [])
    ((codes "withdrawn_at_the_lock.run", withdrawn_at_the_lock_run) ∷ (codes "locked.bitml", locked_bitml) ∷ [])
    ≡ prints 0 withdrawn_at_the_lock_text
unfolding is_name word_prefix number_prefix symbol_prefix read_answer advert_of_all advert_at entries_at entry_at head_at deposit_at
    secret_at fee_at choice_with branches_at branch_at parts_at auth_at after_at put_at reveal_at split_at reveals_at puts_at
    put_reveals_at headed_at one_branch_at condition_at names_from test_at comparison_at formula_at constant_at length_at withdraw_at
    digits label_text stripped marked compact places_list sequences_list outputs_list preimage position_script many wide_at compact_at
    string_at input_at inputs_at output_at outputs_at witness_at witnesses_at plain_at marked_at transaction_at all_at script_meaning
    ops_of number_of_item signed_bytes item_of_number play_text
withdrawn_at_the_lock = refl
