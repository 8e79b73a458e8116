-- Fees, splits and volatile deposits, played.
use Rattle.std.proofs.Common.{◌≡◌, ℕ, List, [], ◌∷◌, refl}
use Rattle.std.specs.Prelude.{codes}
use Rattle.std.specs.Fmt.{digits}
use Rattle.spec_terms.specs.Readable.{is_name}
use Rattle.spec_bitcoin.specs.Keys.{label_text}
use Rattle.spec_bitcoin.specs.Digests.{places_list, sequences_list, outputs_list, preimage}
use Rattle.spec_bitcoin.specs.Spelling.{stripped, marked, compact}
use Rattle.spec_bitcoin.specs.Reading.{many, wide_at, compact_at, string_at, input_at, inputs_at, output_at, outputs_at, witness_at}
use Rattle.spec_bitcoin.specs.Reading.{witnesses_at, plain_at, marked_at, transaction_at, all_at}
use Rattle.spec_bitcoin.specs.Meaning.{script_meaning}
use Rattle.spec_bitcoin.specs.Numbers.{number_of_item, signed_bytes, item_of_number}
use Rattle.spec_bitcoin.specs.Scripts.{ops_of}
use Rattle.spec_compiler.specs.Keyed.Instance.{position_script}
use Rattle.spec_text.specs.Lexis.{word_prefix, number_prefix, symbol_prefix}
use Rattle.spec_text.specs.ReadAdvert.{read_answer, advert_of_all, advert_at, entries_at, entry_at, head_at, deposit_at, secret_at, fee_at}
use Rattle.spec_text.specs.ReadContract.{withdraw_at, condition_at, reveals_at, puts_at, put_reveals_at, headed_at, one_branch_at}
use Rattle.spec_text.specs.ReadContract.{branches_at, choice_with, parts_at, auth_at, after_at, put_at, reveal_at, split_at, branch_at}
use Rattle.spec_text.specs.ReadTest.{constant_at, length_at, formula_at, comparison_at, test_at}
use Rattle.spec_text.specs.Reading.{names_from}
use Rattle.spec_text.specs.Played.{play_text}
use Rattle.spec_tool.specs.Commands.{prints}
use Rattle.theory_values.specs.Replies.{lines, replies, small_hash}

abbrev fees_are_left_run : List ℕ
fees_are_left_run =
    lines (
    codes "party A" ∷
    codes "honest A" ∷
    codes "deposit A 10" ∷
    codes "--" ∷
    codes "advertise 0 x=#0" ∷
    codes "commit 0 A" ∷
    codes "endorse 0 A" ∷
    codes "init 0 A" ∷
    codes "fire init 0" ∷
    codes "fire #1 0" ∷
    codes "fire #2 0" ∷
    codes "fire #3 0" ∷
    [])

abbrev split_with_fee_bitml : List ℕ
split_with_fee_bitml =
    codes "{A:! 10 @ x} fee 1 split [5 -> withdraw A, 3 -> withdraw A]"

abbrev fees_are_left_text : List ℕ
fees_are_left_text =
    lines (
    codes "start #0 A 10" ∷
    codes "event 1 advertise 0 x=#0" ∷
    codes "done" ∷
    codes "step advertise 0 x=#0" ∷
    codes "event 2 commit 0 A" ∷
    codes "done" ∷
    codes "step commit 0 A" ∷
    codes "event 3 endorse 0 A" ∷
    codes "done" ∷
    codes "event 4 init 0 A" ∷
    codes "done" ∷
    codes "step authinit 0 A x" ∷
    codes "event 5 fire init 0" ∷
    codes "accepted spends #0 makes #1 9 lock 0" ∷
    codes "step init 0 -> #1" ∷
    codes "event 6 fire #1 0" ∷
    codes "accepted spends #1 makes #2 5 #3 3 lock 0" ∷
    codes "step split #1 0 -> #2 #3" ∷
    codes "event 7 fire #2 0" ∷
    codes "accepted spends #2 makes #4 4 lock 0" ∷
    codes "step withdraw #2 0 -> #4" ∷
    codes "event 8 fire #3 0" ∷
    codes "accepted spends #3 makes #5 2 lock 0" ∷
    codes "step withdraw #3 0 -> #5" ∷
    codes "end" ∷
    codes "tip 0" ∷
    codes "live #4 4" ∷
    codes "live #5 2" ∷
    codes "time 0" ∷
    codes "deposit #4 A 4" ∷
    codes "deposit #5 A 2" ∷
    [])

fees_are_left :
    replies small_hash (codes "play" ∷ codes "fees_are_left.run" ∷ codes "split_with_fee.bitml" ∷ [])
    ((codes "fees_are_left.run", fees_are_left_run) ∷ (codes "split_with_fee.bitml", split_with_fee_bitml) ∷ [])
    ≡ prints 0 fees_are_left_text
unfolding is_name word_prefix number_prefix symbol_prefix read_answer advert_of_all advert_at entries_at entry_at head_at deposit_at
    secret_at fee_at choice_with branches_at branch_at parts_at auth_at after_at put_at reveal_at split_at reveals_at puts_at
    put_reveals_at headed_at one_branch_at condition_at names_from test_at comparison_at formula_at constant_at length_at withdraw_at
    digits label_text stripped marked compact places_list sequences_list outputs_list preimage position_script many wide_at compact_at
    string_at input_at inputs_at output_at outputs_at witness_at witnesses_at plain_at marked_at transaction_at all_at script_meaning
    ops_of number_of_item signed_bytes item_of_number play_text
fees_are_left = refl

abbrev split_in_two_run : List ℕ
split_in_two_run =
    lines (
    codes "party A" ∷
    codes "honest A" ∷
    codes "deposit A 100" ∷
    codes "--" ∷
    codes "advertise 0 x=#0" ∷
    codes "commit 0 A" ∷
    codes "endorse 0 A" ∷
    codes "init 0 A" ∷
    codes "fire init 0" ∷
    codes "fire #1 0" ∷
    [])

abbrev split_bitml : List ℕ
split_bitml =
    codes "{A:! 100 @ x} split [60 -> withdraw A, 40 -> withdraw A]"

abbrev split_in_two_text : List ℕ
split_in_two_text =
    lines (
    codes "start #0 A 100" ∷
    codes "event 1 advertise 0 x=#0" ∷
    codes "done" ∷
    codes "step advertise 0 x=#0" ∷
    codes "event 2 commit 0 A" ∷
    codes "done" ∷
    codes "step commit 0 A" ∷
    codes "event 3 endorse 0 A" ∷
    codes "done" ∷
    codes "event 4 init 0 A" ∷
    codes "done" ∷
    codes "step authinit 0 A x" ∷
    codes "event 5 fire init 0" ∷
    codes "accepted spends #0 makes #1 100 lock 0" ∷
    codes "step init 0 -> #1" ∷
    codes "event 6 fire #1 0" ∷
    codes "accepted spends #1 makes #2 60 #3 40 lock 0" ∷
    codes "step split #1 0 -> #2 #3" ∷
    codes "end" ∷
    codes "tip 0" ∷
    codes "live #2 60" ∷
    codes "live #3 40" ∷
    codes "time 0" ∷
    codes "contract #2 0 r.0/0 60" ∷
    codes "contract #3 0 r.0/1 40" ∷
    codes "offer fire #2 0" ∷
    codes "offer fire #3 0" ∷
    [])

split_in_two :
    replies small_hash (codes "play" ∷ codes "split_in_two.run" ∷ codes "split.bitml" ∷ [])
    ((codes "split_in_two.run", split_in_two_run) ∷ (codes "split.bitml", split_bitml) ∷ [])
    ≡ prints 0 split_in_two_text
unfolding is_name word_prefix number_prefix symbol_prefix read_answer advert_of_all advert_at entries_at entry_at head_at deposit_at
    secret_at fee_at choice_with branches_at branch_at parts_at auth_at after_at put_at reveal_at split_at reveals_at puts_at
    put_reveals_at headed_at one_branch_at condition_at names_from test_at comparison_at formula_at constant_at length_at withdraw_at
    digits label_text stripped marked compact places_list sequences_list outputs_list preimage position_script many wide_at compact_at
    string_at input_at inputs_at output_at outputs_at witness_at witnesses_at plain_at marked_at transaction_at all_at script_meaning
    ops_of number_of_item signed_bytes item_of_number play_text
split_in_two = refl

abbrev volatile_deposit_is_gone_run : List ℕ
volatile_deposit_is_gone_run =
    lines (
    codes "party A" ∷
    codes "party B" ∷
    codes "honest A" ∷
    codes "deposit A 10" ∷
    codes "deposit A 5" ∷
    codes "deposit B 0" ∷
    codes "--" ∷
    codes "advertise 0 x=#0 z=#1 y=#2" ∷
    codes "commit 0 A" ∷
    codes "commit 0 B" ∷
    codes "endorse 0 A" ∷
    codes "endorse 0 B" ∷
    codes "init 0 A" ∷
    codes "init 0 B" ∷
    codes "fire init 0" ∷
    codes "give A #1 -> A 5" ∷
    codes "fire #3 0" ∷
    [])

abbrev volatile_deposit_bitml : List ℕ
volatile_deposit_bitml =
    codes "{A:! 10 @ x | A:? 5 @ z | B:! 0 @ y} put z . withdraw B"

abbrev volatile_deposit_is_gone_text : List ℕ
volatile_deposit_is_gone_text =
    lines (
    codes "start #0 A 10" ∷
    codes "start #1 A 5" ∷
    codes "start #2 B 0" ∷
    codes "event 1 advertise 0 x=#0 z=#1 y=#2" ∷
    codes "done" ∷
    codes "step advertise 0 x=#0 z=#1 y=#2" ∷
    codes "event 2 commit 0 A" ∷
    codes "done" ∷
    codes "step commit 0 A" ∷
    codes "event 3 commit 0 B" ∷
    codes "done" ∷
    codes "step commit 0 B" ∷
    codes "event 4 endorse 0 A" ∷
    codes "done" ∷
    codes "event 5 endorse 0 B" ∷
    codes "done" ∷
    codes "event 6 init 0 A" ∷
    codes "done" ∷
    codes "step authinit 0 A x" ∷
    codes "event 7 init 0 B" ∷
    codes "done" ∷
    codes "step authinit 0 B y" ∷
    codes "event 8 fire init 0" ∷
    codes "accepted spends #0 #2 makes #3 10 lock 0" ∷
    codes "step init 0 -> #3" ∷
    codes "event 9 give A #1 -> A 5" ∷
    codes "accepted spends #1 makes #4 5 lock 0" ∷
    codes "step authmove A" ∷
    codes "step move #1 -> A 5" ∷
    codes "event 10 fire #3 0" ∷
    codes "refused MissingInput 1" ∷
    codes "end" ∷
    codes "tip 0" ∷
    codes "live #3 10" ∷
    codes "live #4 5" ∷
    codes "time 0" ∷
    codes "deposit #4 A 5" ∷
    codes "contract #3 0 r 10" ∷
    [])

volatile_deposit_is_gone :
    replies small_hash (codes "play" ∷ codes "volatile_deposit_is_gone.run" ∷ codes "volatile_deposit.bitml" ∷ [])
    ((codes "volatile_deposit_is_gone.run", volatile_deposit_is_gone_run) ∷ (codes "volatile_deposit.bitml", volatile_deposit_bitml)
    ∷ [])
    ≡ prints 0 volatile_deposit_is_gone_text
unfolding is_name word_prefix number_prefix symbol_prefix read_answer advert_of_all advert_at entries_at entry_at head_at deposit_at
    secret_at fee_at choice_with branches_at branch_at parts_at auth_at after_at put_at reveal_at split_at reveals_at puts_at
    put_reveals_at headed_at one_branch_at condition_at names_from test_at comparison_at formula_at constant_at length_at withdraw_at
    digits label_text stripped marked compact places_list sequences_list outputs_list preimage position_script many wide_at compact_at
    string_at input_at inputs_at output_at outputs_at witness_at witnesses_at plain_at marked_at transaction_at all_at script_meaning
    ops_of number_of_item signed_bytes item_of_number play_text
volatile_deposit_is_gone = refl

abbrev volatile_deposit_is_there_run : List ℕ
volatile_deposit_is_there_run =
    lines (
    codes "party A" ∷
    codes "party B" ∷
    codes "honest A" ∷
    codes "deposit A 10" ∷
    codes "deposit A 5" ∷
    codes "deposit B 0" ∷
    codes "--" ∷
    codes "advertise 0 x=#0 z=#1 y=#2" ∷
    codes "commit 0 A" ∷
    codes "commit 0 B" ∷
    codes "endorse 0 A" ∷
    codes "endorse 0 B" ∷
    codes "init 0 A" ∷
    codes "init 0 B" ∷
    codes "fire init 0" ∷
    [])

abbrev volatile_deposit_is_there_text : List ℕ
volatile_deposit_is_there_text =
    lines (
    codes "start #0 A 10" ∷
    codes "start #1 A 5" ∷
    codes "start #2 B 0" ∷
    codes "event 1 advertise 0 x=#0 z=#1 y=#2" ∷
    codes "done" ∷
    codes "step advertise 0 x=#0 z=#1 y=#2" ∷
    codes "event 2 commit 0 A" ∷
    codes "done" ∷
    codes "step commit 0 A" ∷
    codes "event 3 commit 0 B" ∷
    codes "done" ∷
    codes "step commit 0 B" ∷
    codes "event 4 endorse 0 A" ∷
    codes "done" ∷
    codes "event 5 endorse 0 B" ∷
    codes "done" ∷
    codes "event 6 init 0 A" ∷
    codes "done" ∷
    codes "step authinit 0 A x" ∷
    codes "event 7 init 0 B" ∷
    codes "done" ∷
    codes "step authinit 0 B y" ∷
    codes "event 8 fire init 0" ∷
    codes "accepted spends #0 #2 makes #3 10 lock 0" ∷
    codes "step init 0 -> #3" ∷
    codes "end" ∷
    codes "tip 0" ∷
    codes "live #1 5" ∷
    codes "live #3 10" ∷
    codes "time 0" ∷
    codes "deposit #1 A 5" ∷
    codes "contract #3 0 r 10" ∷
    codes "offer fire #3 0" ∷
    [])

volatile_deposit_is_there :
    replies small_hash (codes "play" ∷ codes "volatile_deposit_is_there.run" ∷ codes "volatile_deposit.bitml" ∷ [])
    ((codes "volatile_deposit_is_there.run", volatile_deposit_is_there_run) ∷ (codes "volatile_deposit.bitml", volatile_deposit_bitml)
    ∷ [])
    ≡ prints 0 volatile_deposit_is_there_text
unfolding is_name word_prefix number_prefix symbol_prefix read_answer advert_of_all advert_at entries_at entry_at head_at deposit_at
    secret_at fee_at choice_with branches_at branch_at parts_at auth_at after_at put_at reveal_at split_at reveals_at puts_at
    put_reveals_at headed_at one_branch_at condition_at names_from test_at comparison_at formula_at constant_at length_at withdraw_at
    digits label_text stripped marked compact places_list sequences_list outputs_list preimage position_script many wide_at compact_at
    string_at input_at inputs_at output_at outputs_at witness_at witnesses_at plain_at marked_at transaction_at all_at script_meaning
    ops_of number_of_item signed_bytes item_of_number play_text
volatile_deposit_is_there = refl
