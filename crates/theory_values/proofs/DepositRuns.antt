-- Runs without contracts, played.
use Rattle.std.proofs.Common.{◌≡◌, ℕ, List, [], ◌∷◌, ◌++◌, refl}
use Rattle.std.specs.Prelude.{codes}
use Rattle.std.specs.Fmt.{digits}
use Rattle.spec_terms.specs.Readable.{is_name}
use Rattle.spec_bitcoin.specs.Keys.{label_text}
use Rattle.spec_bitcoin.specs.Digests.{places_list, sequences_list, outputs_list, preimage}
use Rattle.spec_bitcoin.specs.Spelling.{stripped, marked, compact}
use Rattle.spec_bitcoin.specs.Reading.{many, wide_at, compact_at, string_at, input_at, inputs_at, output_at, outputs_at, witness_at}
use Rattle.spec_bitcoin.specs.Reading.{witnesses_at, plain_at, marked_at, transaction_at, all_at}
use Rattle.spec_bitcoin.specs.Meaning.{script_meaning}
use Rattle.spec_bitcoin.specs.Numbers.{number_of_item, signed_bytes, item_of_number}
use Rattle.spec_bitcoin.specs.Scripts.{ops_of}
use Rattle.spec_compiler.specs.Keyed.Instance.{position_script}
use Rattle.spec_text.specs.Lexis.{word_prefix, number_prefix, symbol_prefix}
use Rattle.spec_text.specs.ReadAdvert.{read_answer, advert_of_all, advert_at, entries_at, entry_at, head_at, deposit_at, secret_at, fee_at}
use Rattle.spec_text.specs.ReadContract.{withdraw_at, condition_at, reveals_at, puts_at, put_reveals_at, headed_at, one_branch_at}
use Rattle.spec_text.specs.ReadContract.{branches_at, choice_with, parts_at, auth_at, after_at, put_at, reveal_at, split_at, branch_at}
use Rattle.spec_text.specs.ReadTest.{constant_at, length_at, formula_at, comparison_at, test_at}
use Rattle.spec_text.specs.Reading.{names_from}
use Rattle.spec_text.specs.Played.{play_text}
use Rattle.spec_tool.specs.Commands.{prints}
use Rattle.theory_values.specs.Replies.{lines, replies, sha_of, small_hash}

abbrev bad_line_among_blanks_run : List ℕ
bad_line_among_blanks_run =
    lines (
    (codes "party A" ++
    (13 ∷ [])) ∷
    (codes "honest A" ++
    (13 ∷ [])) ∷
    (codes "deposit" ++
    (9 ∷ []) ++
    codes "A  100 " ++
    (13 ∷ [])) ∷
    (13 ∷ []) ∷
    (codes "--" ++
    (13 ∷ [])) ∷
    (codes "mine 0" ++
    (13 ∷ [])) ∷
    [])

bad_line_among_blanks :
    replies small_hash (codes "play" ∷ codes "bad_line_among_blanks.run" ∷ [])
    ((codes "bad_line_among_blanks.run", bad_line_among_blanks_run) ∷ [])
    ≡ prints 6 (lines (codes "run refused line 6" ∷ []))
unfolding is_name word_prefix number_prefix symbol_prefix read_answer advert_of_all advert_at entries_at entry_at head_at deposit_at
    secret_at fee_at choice_with branches_at branch_at parts_at auth_at after_at put_at reveal_at split_at reveals_at puts_at
    put_reveals_at headed_at one_branch_at condition_at names_from test_at comparison_at formula_at constant_at length_at withdraw_at
    digits label_text stripped marked compact places_list sequences_list outputs_list preimage position_script many wide_at compact_at
    string_at input_at inputs_at output_at outputs_at witness_at witnesses_at plain_at marked_at transaction_at all_at script_meaning
    ops_of number_of_item signed_bytes item_of_number play_text
bad_line_among_blanks = refl

abbrev bad_transactions_run : List ℕ
bad_transactions_run =
    lines (
    codes "party A" ∷
    codes "honest A" ∷
    codes "deposit A 100" ∷
    codes "--" ∷
    codes "append 02000000" ∷
    codes "append 02000000fd0500" ∷
    codes "append 020000000000" ∷
    codes "append 02000000000100" ∷
    (codes "append 0200000000010100000000000000000000000000000000000000000000000000000000000000000000000000ffffffff01000" ++
    codes "0000000000000000000000000") ∷
    (codes "append 020000000100000000000000000000000000000000000000000000000000000000000000000000000000ffffffff010000000" ++
    codes "0000000000000000000") ∷
    [])

abbrev bad_transactions_text : List ℕ
bad_transactions_text =
    lines (
    codes "start #0 A 100" ∷
    codes "event 1 append 02000000" ∷
    codes "refused BadTx 4" ∷
    codes "event 2 append 02000000fd0500" ∷
    codes "refused BadTx 6" ∷
    codes "event 3 append 020000000000" ∷
    codes "refused BadTx 5" ∷
    codes "event 4 append 02000000000100" ∷
    codes "refused BadTx 6" ∷
    (codes "event 5 append 0200000000010100000000000000000000000000000000000000000000000000000000000000000000000000fffff" ++
    codes "fff010000000000000000000000000000") ∷
    codes "refused BadTx 58" ∷
    (codes "event 6 append 020000000100000000000000000000000000000000000000000000000000000000000000000000000000ffffffff0" ++
    codes "100000000000000000000000000") ∷
    codes "refused MissingInput 0" ∷
    codes "end" ∷
    codes "tip 0" ∷
    codes "live #0 100" ∷
    codes "time 0" ∷
    codes "deposit #0 A 100" ∷
    [])

bad_transactions :
    replies small_hash (codes "play" ∷ codes "bad_transactions.run" ∷ [])
    ((codes "bad_transactions.run", bad_transactions_run) ∷ [])
    ≡ prints 0 bad_transactions_text
unfolding is_name word_prefix number_prefix symbol_prefix read_answer advert_of_all advert_at entries_at entry_at head_at deposit_at
    secret_at fee_at choice_with branches_at branch_at parts_at auth_at after_at put_at reveal_at split_at reveals_at puts_at
    put_reveals_at headed_at one_branch_at condition_at names_from test_at comparison_at formula_at constant_at length_at withdraw_at
    digits label_text stripped marked compact places_list sequences_list outputs_list preimage position_script many wide_at compact_at
    string_at input_at inputs_at output_at outputs_at witness_at witnesses_at plain_at marked_at transaction_at all_at script_meaning
    ops_of number_of_item signed_bytes item_of_number play_text
bad_transactions = refl

abbrev last_height_run : List ℕ
last_height_run =
    lines (
    codes "party A" ∷
    codes "honest A" ∷
    codes "deposit A 100" ∷
    codes "--" ∷
    codes "mine 499999999" ∷
    codes "mine 1" ∷
    [])

abbrev last_height_text : List ℕ
last_height_text =
    lines (
    codes "start #0 A 100" ∷
    codes "event 1 mine 499999999" ∷
    codes "done" ∷
    codes "step delay 499999999" ∷
    codes "event 2 mine 1" ∷
    codes "refused TimeLimit" ∷
    codes "end" ∷
    codes "tip 499999999" ∷
    codes "live #0 100" ∷
    codes "time 499999999" ∷
    codes "deposit #0 A 100" ∷
    [])

last_height :
    replies small_hash (codes "play" ∷ codes "last_height.run" ∷ [])
    ((codes "last_height.run", last_height_run) ∷ [])
    ≡ prints 0 last_height_text
unfolding is_name word_prefix number_prefix symbol_prefix read_answer advert_of_all advert_at entries_at entry_at head_at deposit_at
    secret_at fee_at choice_with branches_at branch_at parts_at auth_at after_at put_at reveal_at split_at reveals_at puts_at
    put_reveals_at headed_at one_branch_at condition_at names_from test_at comparison_at formula_at constant_at length_at withdraw_at
    digits label_text stripped marked compact places_list sequences_list outputs_list preimage position_script many wide_at compact_at
    string_at input_at inputs_at output_at outputs_at witness_at witnesses_at plain_at marked_at transaction_at all_at script_meaning
    ops_of number_of_item signed_bytes item_of_number play_text
last_height = refl

abbrev live_outputs_by_number_run : List ℕ
live_outputs_by_number_run =
    lines (
    codes "party A" ∷
    codes "honest A" ∷
    codes "deposit A 100" ∷
    codes "--" ∷
    codes "give A #0 -> A 60 A 30" ∷
    codes "give A #1 -> A 50 A 10" ∷
    [])

abbrev live_outputs_by_number_text : List ℕ
live_outputs_by_number_text =
    lines (
    codes "start #0 A 100" ∷
    codes "event 1 give A #0 -> A 60 A 30" ∷
    codes "accepted spends #0 makes #1 60 #2 30 lock 0" ∷
    codes "step authmove A" ∷
    codes "step move #0 -> A 60 A 30" ∷
    codes "event 2 give A #1 -> A 50 A 10" ∷
    codes "accepted spends #1 makes #3 50 #4 10 lock 0" ∷
    codes "step authmove A" ∷
    codes "step move #1 -> A 50 A 10" ∷
    codes "end" ∷
    codes "tip 0" ∷
    codes "live #2 30" ∷
    codes "live #3 50" ∷
    codes "live #4 10" ∷
    codes "time 0" ∷
    codes "deposit #2 A 30" ∷
    codes "deposit #3 A 50" ∷
    codes "deposit #4 A 10" ∷
    [])

live_outputs_by_number :
    replies small_hash (codes "play" ∷ codes "live_outputs_by_number.run" ∷ [])
    ((codes "live_outputs_by_number.run", live_outputs_by_number_run) ∷ [])
    ≡ prints 0 live_outputs_by_number_text
unfolding is_name word_prefix number_prefix symbol_prefix read_answer advert_of_all advert_at entries_at entry_at head_at deposit_at
    secret_at fee_at choice_with branches_at branch_at parts_at auth_at after_at put_at reveal_at split_at reveals_at puts_at
    put_reveals_at headed_at one_branch_at condition_at names_from test_at comparison_at formula_at constant_at length_at withdraw_at
    digits label_text stripped marked compact places_list sequences_list outputs_list preimage position_script many wide_at compact_at
    string_at input_at inputs_at output_at outputs_at witness_at witnesses_at plain_at marked_at transaction_at all_at script_meaning
    ops_of number_of_item signed_bytes item_of_number play_text
live_outputs_by_number = refl

abbrev most_money_run : List ℕ
most_money_run =
    lines (
    codes "party A" ∷
    codes "honest A" ∷
    codes "deposit A 2100000000000000" ∷
    codes "--" ∷
    codes "give A #0 -> A 0 A 2100000000000000" ∷
    codes "give A #2 -> A 2100000000000001" ∷
    codes "give A #1 -> A 1" ∷
    codes "give A #2 #2 -> A 1" ∷
    [])

abbrev most_money_text : List ℕ
most_money_text =
    lines (
    codes "start #0 A 2100000000000000" ∷
    codes "event 1 give A #0 -> A 0 A 2100000000000000" ∷
    codes "accepted spends #0 makes #1 0 #2 2100000000000000 lock 0" ∷
    codes "step authmove A" ∷
    codes "step move #0 -> A 0 A 2100000000000000" ∷
    codes "event 2 give A #2 -> A 2100000000000001" ∷
    codes "refused ValueLimit" ∷
    codes "event 3 give A #1 -> A 1" ∷
    codes "refused InsufficientIn" ∷
    codes "event 4 give A #2 #2 -> A 1" ∷
    codes "refused InputRepeated" ∷
    codes "end" ∷
    codes "tip 0" ∷
    codes "live #1 0" ∷
    codes "live #2 2100000000000000" ∷
    codes "time 0" ∷
    codes "deposit #1 A 0" ∷
    codes "deposit #2 A 2100000000000000" ∷
    [])

most_money :
    replies small_hash (codes "play" ∷ codes "most_money.run" ∷ [])
    ((codes "most_money.run", most_money_run) ∷ [])
    ≡ prints 0 most_money_text
unfolding is_name word_prefix number_prefix symbol_prefix read_answer advert_of_all advert_at entries_at entry_at head_at deposit_at
    secret_at fee_at choice_with branches_at branch_at parts_at auth_at after_at put_at reveal_at split_at reveals_at puts_at
    put_reveals_at headed_at one_branch_at condition_at names_from test_at comparison_at formula_at constant_at length_at withdraw_at
    digits label_text stripped marked compact places_list sequences_list outputs_list preimage position_script many wide_at compact_at
    string_at input_at inputs_at output_at outputs_at witness_at witnesses_at plain_at marked_at transaction_at all_at script_meaning
    ops_of number_of_item signed_bytes item_of_number play_text
most_money = refl

abbrev no_dashes_run : List ℕ
no_dashes_run =
    lines (
    codes "party A" ∷
    codes "honest A" ∷
    codes "deposit A 100" ∷
    [])

no_dashes :
    replies small_hash (codes "play" ∷ codes "no_dashes.run" ∷ [])
    ((codes "no_dashes.run", no_dashes_run) ∷ [])
    ≡ prints 6 (lines (codes "run refused line 4" ∷ []))
unfolding is_name word_prefix number_prefix symbol_prefix read_answer advert_of_all advert_at entries_at entry_at head_at deposit_at
    secret_at fee_at choice_with branches_at branch_at parts_at auth_at after_at put_at reveal_at split_at reveals_at puts_at
    put_reveals_at headed_at one_branch_at condition_at names_from test_at comparison_at formula_at constant_at length_at withdraw_at
    digits label_text stripped marked compact places_list sequences_list outputs_list preimage position_script many wide_at compact_at
    string_at input_at inputs_at output_at outputs_at witness_at witnesses_at plain_at marked_at transaction_at all_at script_meaning
    ops_of number_of_item signed_bytes item_of_number play_text
no_dashes = refl

abbrev nothing_is_mined_run : List ℕ
nothing_is_mined_run =
    lines (
    codes "party A" ∷
    codes "honest A" ∷
    codes "deposit A 100" ∷
    codes "--" ∷
    codes "mine 0" ∷
    [])

nothing_is_mined :
    replies small_hash (codes "play" ∷ codes "nothing_is_mined.run" ∷ [])
    ((codes "nothing_is_mined.run", nothing_is_mined_run) ∷ [])
    ≡ prints 6 (lines (codes "run refused line 5" ∷ []))
unfolding is_name word_prefix number_prefix symbol_prefix read_answer advert_of_all advert_at entries_at entry_at head_at deposit_at
    secret_at fee_at choice_with branches_at branch_at parts_at auth_at after_at put_at reveal_at split_at reveals_at puts_at
    put_reveals_at headed_at one_branch_at condition_at names_from test_at comparison_at formula_at constant_at length_at withdraw_at
    digits label_text stripped marked compact places_list sequences_list outputs_list preimage position_script many wide_at compact_at
    string_at input_at inputs_at output_at outputs_at witness_at witnesses_at plain_at marked_at transaction_at all_at script_meaning
    ops_of number_of_item signed_bytes item_of_number play_text
nothing_is_mined = refl

abbrev parties_without_deposits_run : List ℕ
parties_without_deposits_run =
    lines (
    codes "party AB" ∷
    codes "party BA" ∷
    codes "--" ∷
    [])

abbrev parties_without_deposits_text : List ℕ
parties_without_deposits_text =
    lines (
    codes "end" ∷
    codes "tip 0" ∷
    codes "time 0" ∷
    [])

parties_without_deposits :
    replies small_hash (codes "play" ∷ codes "parties_without_deposits.run" ∷ [])
    ((codes "parties_without_deposits.run", parties_without_deposits_run) ∷ [])
    ≡ prints 0 parties_without_deposits_text
unfolding is_name word_prefix number_prefix symbol_prefix read_answer advert_of_all advert_at entries_at entry_at head_at deposit_at
    secret_at fee_at choice_with branches_at branch_at parts_at auth_at after_at put_at reveal_at split_at reveals_at puts_at
    put_reveals_at headed_at one_branch_at condition_at names_from test_at comparison_at formula_at constant_at length_at withdraw_at
    digits label_text stripped marked compact places_list sequences_list outputs_list preimage position_script many wide_at compact_at
    string_at input_at inputs_at output_at outputs_at witness_at witnesses_at plain_at marked_at transaction_at all_at script_meaning
    ops_of number_of_item signed_bytes item_of_number play_text
parties_without_deposits = refl

abbrev posted_twice_run : List ℕ
posted_twice_run =
    lines (
    codes "party A" ∷
    codes "honest A" ∷
    codes "deposit A 100" ∷
    codes "--" ∷
    codes "post 00" ∷
    codes "post 00" ∷
    [])

abbrev posted_twice_text : List ℕ
posted_twice_text =
    lines (
    codes "start #0 A 100" ∷
    codes "event 1 post 00" ∷
    codes "done" ∷
    codes "event 2 post 00" ∷
    codes "done" ∷
    codes "end" ∷
    codes "tip 0" ∷
    codes "live #0 100" ∷
    codes "time 0" ∷
    codes "deposit #0 A 100" ∷
    [])

posted_twice :
    replies small_hash (codes "play" ∷ codes "posted_twice.run" ∷ [])
    ((codes "posted_twice.run", posted_twice_run) ∷ [])
    ≡ prints 0 posted_twice_text
unfolding is_name word_prefix number_prefix symbol_prefix read_answer advert_of_all advert_at entries_at entry_at head_at deposit_at
    secret_at fee_at choice_with branches_at branch_at parts_at auth_at after_at put_at reveal_at split_at reveals_at puts_at
    put_reveals_at headed_at one_branch_at condition_at names_from test_at comparison_at formula_at constant_at length_at withdraw_at
    digits label_text stripped marked compact places_list sequences_list outputs_list preimage position_script many wide_at compact_at
    string_at input_at inputs_at output_at outputs_at witness_at witnesses_at plain_at marked_at transaction_at all_at script_meaning
    ops_of number_of_item signed_bytes item_of_number play_text
posted_twice = refl

abbrev raw_transaction_hashes : List (ℕ × ℕ)
raw_transaction_hashes =
    (6263475112473494384, 0x7229f4752ae1ba4b759ef76952f0c8df40d1a396a4c7936375d78e0e20f9f953) ∷
    (17481214125729887496, 0x8b59d7e9c1c4fb6e164fbef0d3410718f12ae139cc38f193e2a0b18f8f37ce2d) ∷
    (6263475112473494385, 0xb9cde99529182b30119af392795ab7f0af17ca357a96a2518587545debaea120) ∷
    (3849898363207402157, 0xdea928c30c3398fe40b726c00661d4b3d3f288ff2ab0f31acd42cec04c2370eb) ∷
    (18402749305043708344, 0x7e4a1fad314978057e1b6739276eb850a262504e1fe3fdd98893108aea123395) ∷
    (17052038901335644984, 0x1e4d593d01b8aa44e87fe94d0c7ba8631a956e4ab3f7ab10bf824dba6c85a9a2) ∷
    (8483022280634432448, 0x0a3197aea767f0512030f9a346f647da27d0137aac02724147b134c7c5d1fc04) ∷
    (16880850921895232302, 0x0a6d9436090227ae557a9be72c270365b4966ad2c91af8c7e0ec47c7b5e8351a) ∷
    (5833967892796559272, 0xad95131bc0b799c0b1af477fb14fcf26a6a9f76079e48bf090acb7e8367bfd0e) ∷
    (16265357665784359392, 0x3bb13029ce7b1f559ef5e747fcac439f1455a2ec7c5f09b72290795e70665044) ∷
    (4045525109855443660, 0x0905d13dd975448fe9794d090fd35c0b8f22a4e565b72453712d77b9f9288fd9) ∷
    (10659900181943163730, 0x697f72edd32249ab5fa9c8c4dc964b31c2946831c6f74fdf7b1623fcbcd4f49b) ∷
    (5736316756943348192, 0x124bc8901e95c177c83f70f9b5adecd6f853055431177c673e1f167b8b8801de) ∷
    (17405668622172323811, 0x4c52c52466a8f064b538c2c77af238778be48a7bdd9ee443b83e5ea05ea27c33) ∷
    (9507869318266816457, 0xe2c235ae15fb64d240e7a96c1e2419cd195ffcace01612cd0a3702e8f669de54) ∷
    (13109293966895004750, 0xf7a40f09120a84fef905de8702af0d9fefe10f8e3cc1ae650d8f83185b0a818b) ∷
    (2257125742845565577, 0x0d195fdf0eed4c51d82f1b3a0e7a71b97dc2eb6ad658bd8dc313774237461249) ∷
    []

abbrev raw_transaction_run : List ℕ
raw_transaction_run =
    lines (
    codes "party A" ∷
    codes "party B" ∷
    codes "honest A" ∷
    codes "deposit A 10" ∷
    codes "deposit B 10" ∷
    codes "--" ∷
    codes "sign B D:B 4c52c52466a8f064b538c2c77af238778be48a7bdd9ee443b83e5ea05ea27c33" ∷
    (codes "append 020000000001011e4d593d01b8aa44e87fe94d0c7ba8631a956e4ab3f7ab10bf824dba6c85a9a20100000000ffffffff01040" ++
    codes "00000000000000151024202b9cde99529182b30119af392795ab7f0af17ca357a96a2518587545debaea1204c52c52466a8f064b538c" ++
    codes "2c77af238778be48a7bdd9ee443b83e5ea05ea27c3301232102b9cde99529182b30119af392795ab7f0af17ca357a96a2518587545de" ++
    codes "baea120ac00000000") ∷
    [])

abbrev raw_transaction_text : List ℕ
raw_transaction_text =
    lines (
    codes "start #0 A 10" ∷
    codes "start #1 B 10" ∷
    codes "event 1 sign B D:B 4c52c52466a8f064b538c2c77af238778be48a7bdd9ee443b83e5ea05ea27c33" ∷
    codes "done" ∷
    (codes "event 2 append 020000000001011e4d593d01b8aa44e87fe94d0c7ba8631a956e4ab3f7ab10bf824dba6c85a9a20100000000fffff" ++
    codes "fff0104000000000000000151024202b9cde99529182b30119af392795ab7f0af17ca357a96a2518587545debaea1204c52c52466a8f" ++
    codes "064b538c2c77af238778be48a7bdd9ee443b83e5ea05ea27c3301232102b9cde99529182b30119af392795ab7f0af17ca357a96a2518" ++
    codes "587545debaea120ac00000000") ∷
    codes "accepted spends #1 makes #2 4 lock 0" ∷
    codes "step authmove B" ∷
    codes "step move #1 -> Outside 4" ∷
    codes "end" ∷
    codes "tip 0" ∷
    codes "live #0 10" ∷
    codes "live #2 4" ∷
    codes "time 0" ∷
    codes "deposit #0 A 10" ∷
    codes "deposit #2 Outside 4" ∷
    [])

raw_transaction :
    replies (sha_of raw_transaction_hashes) (codes "play" ∷ codes "raw_transaction.run" ∷ [])
    ((codes "raw_transaction.run", raw_transaction_run) ∷ [])
    ≡ prints 0 raw_transaction_text
unfolding is_name word_prefix number_prefix symbol_prefix read_answer advert_of_all advert_at entries_at entry_at head_at deposit_at
    secret_at fee_at choice_with branches_at branch_at parts_at auth_at after_at put_at reveal_at split_at reveals_at puts_at
    put_reveals_at headed_at one_branch_at condition_at names_from test_at comparison_at formula_at constant_at length_at withdraw_at
    digits label_text stripped marked compact places_list sequences_list outputs_list preimage position_script many wide_at compact_at
    string_at input_at inputs_at output_at outputs_at witness_at witnesses_at plain_at marked_at transaction_at all_at script_meaning
    ops_of number_of_item signed_bytes item_of_number play_text
raw_transaction = refl

abbrev raw_transaction_is_not_signed_hashes : List (ℕ × ℕ)
raw_transaction_is_not_signed_hashes =
    (6263475112473494384, 0x7229f4752ae1ba4b759ef76952f0c8df40d1a396a4c7936375d78e0e20f9f953) ∷
    (17481214125729887496, 0x8b59d7e9c1c4fb6e164fbef0d3410718f12ae139cc38f193e2a0b18f8f37ce2d) ∷
    (6263475112473494385, 0xb9cde99529182b30119af392795ab7f0af17ca357a96a2518587545debaea120) ∷
    (3849898363207402157, 0xdea928c30c3398fe40b726c00661d4b3d3f288ff2ab0f31acd42cec04c2370eb) ∷
    (18402749305043708344, 0x7e4a1fad314978057e1b6739276eb850a262504e1fe3fdd98893108aea123395) ∷
    (17052038901335644984, 0x1e4d593d01b8aa44e87fe94d0c7ba8631a956e4ab3f7ab10bf824dba6c85a9a2) ∷
    (7689146886720803531, 0xd362763d3e859c4fd2e05ded5b173599da37175ad31ae3d4de795c14589365ac) ∷
    (8409308688274202923, 0xbfed56a91c706920c7c972ccd772129efccdf9443242375c10f0341c3d7b48e1) ∷
    (5833967892796559272, 0xad95131bc0b799c0b1af477fb14fcf26a6a9f76079e48bf090acb7e8367bfd0e) ∷
    (16265357665784359392, 0x3bb13029ce7b1f559ef5e747fcac439f1455a2ec7c5f09b72290795e70665044) ∷
    (4045525109855443660, 0x0905d13dd975448fe9794d090fd35c0b8f22a4e565b72453712d77b9f9288fd9) ∷
    (10659900181943163730, 0x697f72edd32249ab5fa9c8c4dc964b31c2946831c6f74fdf7b1623fcbcd4f49b) ∷
    (14551656489042161880, 0xac1761e5889c8696c3147ab3c83c637a30c9d40f9eb8c2410842d187f49c7c55) ∷
    (9824884600962063694, 0x4f9b00b3cba8f834522ece3135acc821858460d967d591de96b8c39d8df8549b) ∷
    []

abbrev raw_transaction_is_not_signed_run : List ℕ
raw_transaction_is_not_signed_run =
    lines (
    codes "party A" ∷
    codes "party B" ∷
    codes "honest A" ∷
    codes "deposit A 10" ∷
    codes "deposit B 10" ∷
    codes "--" ∷
    (codes "append 020000000001011e4d593d01b8aa44e87fe94d0c7ba8631a956e4ab3f7ab10bf824dba6c85a9a20000000000ffffffff01040" ++
    codes "000000000000001510242027229f4752ae1ba4b759ef76952f0c8df40d1a396a4c7936375d78e0e20f9f9534f9b00b3cba8f834522ec" ++
    codes "e3135acc821858460d967d591de96b8c39d8df8549b012321027229f4752ae1ba4b759ef76952f0c8df40d1a396a4c7936375d78e0e2" ++
    codes "0f9f953ac00000000") ∷
    [])

abbrev raw_transaction_is_not_signed_text : List ℕ
raw_transaction_is_not_signed_text =
    lines (
    codes "start #0 A 10" ∷
    codes "start #1 B 10" ∷
    (codes "event 1 append 020000000001011e4d593d01b8aa44e87fe94d0c7ba8631a956e4ab3f7ab10bf824dba6c85a9a20000000000fffff" ++
    codes "fff01040000000000000001510242027229f4752ae1ba4b759ef76952f0c8df40d1a396a4c7936375d78e0e20f9f9534f9b00b3cba8f" ++
    codes "834522ece3135acc821858460d967d591de96b8c39d8df8549b012321027229f4752ae1ba4b759ef76952f0c8df40d1a396a4c793637" ++
    codes "5d78e0e20f9f953ac00000000") ∷
    codes "refused ScriptFalse 0" ∷
    codes "end" ∷
    codes "tip 0" ∷
    codes "live #0 10" ∷
    codes "live #1 10" ∷
    codes "time 0" ∷
    codes "deposit #0 A 10" ∷
    codes "deposit #1 B 10" ∷
    [])

raw_transaction_is_not_signed :
    replies (sha_of raw_transaction_is_not_signed_hashes) (codes "play" ∷ codes "raw_transaction_is_not_signed.run" ∷ [])
    ((codes "raw_transaction_is_not_signed.run", raw_transaction_is_not_signed_run) ∷ [])
    ≡ prints 0 raw_transaction_is_not_signed_text
unfolding is_name word_prefix number_prefix symbol_prefix read_answer advert_of_all advert_at entries_at entry_at head_at deposit_at
    secret_at fee_at choice_with branches_at branch_at parts_at auth_at after_at put_at reveal_at split_at reveals_at puts_at
    put_reveals_at headed_at one_branch_at condition_at names_from test_at comparison_at formula_at constant_at length_at withdraw_at
    digits label_text stripped marked compact places_list sequences_list outputs_list preimage position_script many wide_at compact_at
    string_at input_at inputs_at output_at outputs_at witness_at witnesses_at plain_at marked_at transaction_at all_at script_meaning
    ops_of number_of_item signed_bytes item_of_number play_text
raw_transaction_is_not_signed = refl

abbrev secret_is_guessed_run : List ℕ
secret_is_guessed_run =
    lines (
    codes "party A" ∷
    codes "party B" ∷
    codes "honest A" ∷
    codes "secret A a 54686520717569636b2062726f776e20666f78206a756d7073206f76657220746865206c617a7920646f67" ∷
    codes "deposit A 1" ∷
    codes "deposit B 1" ∷
    codes "--" ∷
    codes "post 54686520717569636b2062726f776e20666f78206a756d7073206f76657220746865206c617a7920646f67" ∷
    [])

abbrev secret_is_guessed_text : List ℕ
secret_is_guessed_text =
    lines (
    codes "start #0 A 1" ∷
    codes "start #1 B 1" ∷
    codes "event 1 post 54686520717569636b2062726f776e20666f78206a756d7073206f76657220746865206c617a7920646f67" ∷
    codes "guessed A a" ∷
    [])

secret_is_guessed :
    replies small_hash (codes "play" ∷ codes "secret_is_guessed.run" ∷ [])
    ((codes "secret_is_guessed.run", secret_is_guessed_run) ∷ [])
    ≡ prints 7 secret_is_guessed_text
unfolding is_name word_prefix number_prefix symbol_prefix read_answer advert_of_all advert_at entries_at entry_at head_at deposit_at
    secret_at fee_at choice_with branches_at branch_at parts_at auth_at after_at put_at reveal_at split_at reveals_at puts_at
    put_reveals_at headed_at one_branch_at condition_at names_from test_at comparison_at formula_at constant_at length_at withdraw_at
    digits label_text stripped marked compact places_list sequences_list outputs_list preimage position_script many wide_at compact_at
    string_at input_at inputs_at output_at outputs_at witness_at witnesses_at plain_at marked_at transaction_at all_at script_meaning
    ops_of number_of_item signed_bytes item_of_number play_text
secret_is_guessed = refl

abbrev too_much_money_run : List ℕ
too_much_money_run =
    lines (
    codes "party A" ∷
    codes "honest A" ∷
    codes "deposit A 2100000000000001" ∷
    codes "--" ∷
    [])

too_much_money :
    replies small_hash (codes "play" ∷ codes "too_much_money.run" ∷ [])
    ((codes "too_much_money.run", too_much_money_run) ∷ [])
    ≡ prints 6 (lines (codes "run refused line 3" ∷ []))
unfolding is_name word_prefix number_prefix symbol_prefix read_answer advert_of_all advert_at entries_at entry_at head_at deposit_at
    secret_at fee_at choice_with branches_at branch_at parts_at auth_at after_at put_at reveal_at split_at reveals_at puts_at
    put_reveals_at headed_at one_branch_at condition_at names_from test_at comparison_at formula_at constant_at length_at withdraw_at
    digits label_text stripped marked compact places_list sequences_list outputs_list preimage position_script many wide_at compact_at
    string_at input_at inputs_at output_at outputs_at witness_at witnesses_at plain_at marked_at transaction_at all_at script_meaning
    ops_of number_of_item signed_bytes item_of_number play_text
too_much_money = refl

abbrev undeclared_party_run : List ℕ
undeclared_party_run =
    lines (
    codes "party A" ∷
    codes "honest A" ∷
    codes "deposit A 100" ∷
    codes "--" ∷
    codes "give C #0 -> C 1" ∷
    [])

undeclared_party :
    replies small_hash (codes "play" ∷ codes "undeclared_party.run" ∷ [])
    ((codes "undeclared_party.run", undeclared_party_run) ∷ [])
    ≡ prints 6 (lines (codes "run refused line 5" ∷ []))
unfolding is_name word_prefix number_prefix symbol_prefix read_answer advert_of_all advert_at entries_at entry_at head_at deposit_at
    secret_at fee_at choice_with branches_at branch_at parts_at auth_at after_at put_at reveal_at split_at reveals_at puts_at
    put_reveals_at headed_at one_branch_at condition_at names_from test_at comparison_at formula_at constant_at length_at withdraw_at
    digits label_text stripped marked compact places_list sequences_list outputs_list preimage position_script many wide_at compact_at
    string_at input_at inputs_at output_at outputs_at witness_at witnesses_at plain_at marked_at transaction_at all_at script_meaning
    ops_of number_of_item signed_bytes item_of_number play_text
undeclared_party = refl
