-- Partially signed transactions in files, shown and combined.
use Rattle.std.proofs.Common.{◌≡◌, ℕ, List, [], ◌∷◌, ◌++◌, refl}
use Rattle.std.specs.Prelude.{codes}
use Rattle.std.specs.Fmt.{digits}
use Rattle.spec_terms.specs.Readable.{is_name}
use Rattle.spec_bitcoin.specs.Keys.{label_text}
use Rattle.spec_bitcoin.specs.Digests.{places_list, sequences_list, outputs_list, preimage}
use Rattle.spec_bitcoin.specs.Spelling.{stripped, marked, compact}
use Rattle.spec_bitcoin.specs.Reading.{many, wide_at, compact_at, string_at, input_at, inputs_at, output_at, outputs_at, witness_at}
use Rattle.spec_bitcoin.specs.Reading.{witnesses_at, plain_at, marked_at, transaction_at, all_at}
use Rattle.spec_bitcoin.specs.Meaning.{script_meaning}
use Rattle.spec_bitcoin.specs.Numbers.{number_of_item, signed_bytes, item_of_number}
use Rattle.spec_bitcoin.specs.Scripts.{ops_of}
use Rattle.spec_compiler.specs.Keyed.Instance.{position_script}
use Rattle.spec_text.specs.Lexis.{word_prefix, number_prefix, symbol_prefix}
use Rattle.spec_text.specs.ReadAdvert.{read_answer, advert_of_all, advert_at, entries_at, entry_at, head_at, deposit_at, secret_at, fee_at}
use Rattle.spec_text.specs.ReadContract.{withdraw_at, condition_at, reveals_at, puts_at, put_reveals_at, headed_at, one_branch_at}
use Rattle.spec_text.specs.ReadContract.{branches_at, choice_with, parts_at, auth_at, after_at, put_at, reveal_at, split_at, branch_at}
use Rattle.spec_text.specs.ReadTest.{constant_at, length_at, formula_at, comparison_at, test_at}
use Rattle.spec_text.specs.Reading.{names_from}
use Rattle.spec_tool.specs.Commands.{prints}
use Rattle.spec_tool.specs.Base64.{base64_text, base64_bytes}
use Rattle.spec_tool.specs.PsbtBytes.{psbt_of, psbt_bytes, records_at, maps_at}
use Rattle.spec_tool.specs.PsbtText.{psbt_text}
use Rattle.theory_values.specs.Replies.{lines, replies, small_hash}

abbrev signed_psbt : List ℕ
signed_psbt =
    lines (
    (codes "cHNidP8BAF4CAAAAAUvUeTgBNa8u5cxrXIp+KepvtYEyFPQZAns95ZQGYCB0AAAAAAD+////AQoAAAAAAAAAIgAgd4n0jft8Y/KycXvmgf7G" ++
    codes "AN22nACu/VOlhyJhaRLLG0kAAAAAAAEBKwoAAAAAAAAAIgAgi1nX6cHE+24WT77w00EHGPEq4TnMOPGT4qCxj483zi0iAgJyKfR1KuG6S3We" ++
    codes "92lS8MjfQNGjlqTHk2N1144OIPn5U0ICcin0dSrhukt1nvdpUvDI30DRo5akx5NjddeODiD5+VN5jqiDiyoxXOPEC/ml29KVx/QECMClsVDB" ++
    codes "h2ltyaV9xgEBAwQBAAAAAQUjIQJyKfR1KuG6S3We92lS8MjfQNGjlqTHk2N1144OIPn5U6wAAA==") ∷
    [])

abbrev unsigned_psbt : List ℕ
unsigned_psbt =
    (codes "cHNidP8BAF4CAAAAAUvUeTgBNa8u5cxrXIp+KepvtYEyFPQZAns95ZQGYCB0AAAAAAD+////AQoAAAAAAAAAIgAgd4n0jft8Y/KycXvmgf7G" ++
    codes "AN22nACu/VOlhyJhaRLLG0kAAAAAAAEBKwoAAAAAAAAAIgAgi1nX6cHE+24WT77w00EHGPEq4TnMOPGT4qCxj483zi0BAwQBAAAAAQUjIQJy" ++
    codes "KfR1KuG6S3We92lS8MjfQNGjlqTHk2N1144OIPn5U6wAAA==")

abbrev psbt_joined_text : List ℕ
psbt_joined_text =
    lines (
    (codes "tx 02000000014bd479380135af2ee5cc6b5c8a7e29ea6fb5813214f419027b3de594066020740000000000feffffff010a000000000" ++
    codes "000002200207789f48dfb7c63f2b2717be681fec600ddb69c00aefd53a58722616912cb1b4900000000") ∷
    codes "input 0 spent 10 00208b59d7e9c1c4fb6e164fbef0d3410718f12ae139cc38f193e2a0b18f8f37ce2d" ∷
    (codes "input 0 signature 027229f4752ae1ba4b759ef76952f0c8df40d1a396a4c7936375d78e0e20f9f953 027229f4752ae1ba4b759ef" ++
    codes "76952f0c8df40d1a396a4c7936375d78e0e20f9f953798ea8838b2a315ce3c40bf9a5dbd295c7f40408c0a5b150c187696dc9a57dc60" ++
    codes "1") ∷
    codes "input 0 all" ∷
    codes "input 0 script 21027229f4752ae1ba4b759ef76952f0c8df40d1a396a4c7936375d78e0e20f9f953ac" ∷
    [])

psbt_joined :
    replies small_hash (codes "psbt" ∷ codes "signed.psbt" ∷ codes "unsigned.psbt" ∷ [])
    ((codes "signed.psbt", signed_psbt) ∷ (codes "unsigned.psbt", unsigned_psbt) ∷ [])
    ≡ prints 0 psbt_joined_text
unfolding is_name word_prefix number_prefix symbol_prefix read_answer advert_of_all advert_at entries_at entry_at head_at deposit_at
    secret_at fee_at choice_with branches_at branch_at parts_at auth_at after_at put_at reveal_at split_at reveals_at puts_at
    put_reveals_at headed_at one_branch_at condition_at names_from test_at comparison_at formula_at constant_at length_at withdraw_at
    digits label_text stripped marked compact places_list sequences_list outputs_list preimage position_script many wide_at compact_at
    string_at input_at inputs_at output_at outputs_at witness_at witnesses_at plain_at marked_at transaction_at all_at script_meaning
    ops_of number_of_item signed_bytes item_of_number base64_text base64_bytes psbt_bytes psbt_text psbt_of records_at maps_at
psbt_joined = refl

abbrev psbt_joined_the_other_way_text : List ℕ
psbt_joined_the_other_way_text =
    lines (
    (codes "tx 02000000014bd479380135af2ee5cc6b5c8a7e29ea6fb5813214f419027b3de594066020740000000000feffffff010a000000000" ++
    codes "000002200207789f48dfb7c63f2b2717be681fec600ddb69c00aefd53a58722616912cb1b4900000000") ∷
    codes "input 0 spent 10 00208b59d7e9c1c4fb6e164fbef0d3410718f12ae139cc38f193e2a0b18f8f37ce2d" ∷
    (codes "input 0 signature 027229f4752ae1ba4b759ef76952f0c8df40d1a396a4c7936375d78e0e20f9f953 027229f4752ae1ba4b759ef" ++
    codes "76952f0c8df40d1a396a4c7936375d78e0e20f9f953798ea8838b2a315ce3c40bf9a5dbd295c7f40408c0a5b150c187696dc9a57dc60" ++
    codes "1") ∷
    codes "input 0 all" ∷
    codes "input 0 script 21027229f4752ae1ba4b759ef76952f0c8df40d1a396a4c7936375d78e0e20f9f953ac" ∷
    [])

psbt_joined_the_other_way :
    replies small_hash (codes "psbt" ∷ codes "unsigned.psbt" ∷ codes "signed.psbt" ∷ [])
    ((codes "unsigned.psbt", unsigned_psbt) ∷ (codes "signed.psbt", signed_psbt) ∷ [])
    ≡ prints 0 psbt_joined_the_other_way_text
unfolding is_name word_prefix number_prefix symbol_prefix read_answer advert_of_all advert_at entries_at entry_at head_at deposit_at
    secret_at fee_at choice_with branches_at branch_at parts_at auth_at after_at put_at reveal_at split_at reveals_at puts_at
    put_reveals_at headed_at one_branch_at condition_at names_from test_at comparison_at formula_at constant_at length_at withdraw_at
    digits label_text stripped marked compact places_list sequences_list outputs_list preimage position_script many wide_at compact_at
    string_at input_at inputs_at output_at outputs_at witness_at witnesses_at plain_at marked_at transaction_at all_at script_meaning
    ops_of number_of_item signed_bytes item_of_number base64_text base64_bytes psbt_bytes psbt_text psbt_of records_at maps_at
psbt_joined_the_other_way = refl

abbrev withdrawal_psbt : List ℕ
withdrawal_psbt =
    (codes "cHNidP8BAF4CAAAAAZoxycWH+XshXzr6PldYvPXCXweovGy71Vf9jb6lDIMeAAAAAAD+////AQoAAAAAAAAAIgAgi1nX6cHE+24WT77w00EH" ++
    codes "GPEq4TnMOPGT4qCxj483zi0AAAAAAAEBKwoAAAAAAAAAIgAgd4n0jft8Y/KycXvmgf7GAN22nACu/VOlhyJhaRLLG0kiAgLDBI64pj7UHqe5" ++
    codes "/VX7B6h3NuYfQZDGYD5IvUaVF4n9uEICwwSOuKY+1B6nuf1V+weodzbmH0GQxmA+SL1GlReJ/bhqqb9u2ZW1ORD8iQinOAxHpKcBlWkJ/Pve" ++
    codes "tvFPWtDmdgEBAwQBAAAAAQUjIQLDBI64pj7UHqe5/VX7B6h3NuYfQZDGYD5IvUaVF4n9uKwAAA==")

psbt_of_another_transaction :
    replies small_hash (codes "psbt" ∷ codes "signed.psbt" ∷ codes "withdrawal.psbt" ∷ [])
    ((codes "signed.psbt", signed_psbt) ∷ (codes "withdrawal.psbt", withdrawal_psbt) ∷ [])
    ≡ prints 9 (lines (codes "psbt refused other" ∷ []))
unfolding is_name word_prefix number_prefix symbol_prefix read_answer advert_of_all advert_at entries_at entry_at head_at deposit_at
    secret_at fee_at choice_with branches_at branch_at parts_at auth_at after_at put_at reveal_at split_at reveals_at puts_at
    put_reveals_at headed_at one_branch_at condition_at names_from test_at comparison_at formula_at constant_at length_at withdraw_at
    digits label_text stripped marked compact places_list sequences_list outputs_list preimage position_script many wide_at compact_at
    string_at input_at inputs_at output_at outputs_at witness_at witnesses_at plain_at marked_at transaction_at all_at script_meaning
    ops_of number_of_item signed_bytes item_of_number base64_text base64_bytes psbt_bytes psbt_text psbt_of records_at maps_at
psbt_of_another_transaction = refl

abbrev magic_alone_psbt : List ℕ
magic_alone_psbt =
    codes "cHNidP8="

psbt_of_magic_alone :
    replies small_hash (codes "psbt" ∷ codes "magic_alone.psbt" ∷ [])
    ((codes "magic_alone.psbt", magic_alone_psbt) ∷ [])
    ≡ prints 9 (lines (codes "psbt refused 0 form" ∷ []))
unfolding is_name word_prefix number_prefix symbol_prefix read_answer advert_of_all advert_at entries_at entry_at head_at deposit_at
    secret_at fee_at choice_with branches_at branch_at parts_at auth_at after_at put_at reveal_at split_at reveals_at puts_at
    put_reveals_at headed_at one_branch_at condition_at names_from test_at comparison_at formula_at constant_at length_at withdraw_at
    digits label_text stripped marked compact places_list sequences_list outputs_list preimage position_script many wide_at compact_at
    string_at input_at inputs_at output_at outputs_at witness_at witnesses_at plain_at marked_at transaction_at all_at script_meaning
    ops_of number_of_item signed_bytes item_of_number base64_text base64_bytes psbt_bytes psbt_text psbt_of records_at maps_at
psbt_of_magic_alone = refl

abbrev spaced_psbt : List ℕ
spaced_psbt =
    (codes "cHNidP8BAF4CAAAAAUvUeTgBNa8u5cxrXIp+Kepv tYEyFPQZAns95ZQGYCB0AAAAAAD+////AQoAAAAAAAAAIgAgd4n0jft8Y/KycXvmgf7" ++
    codes "GAN22nACu/VOlhyJhaRLLG0kAAAAAAAEBKwoAAAAAAAAAIgAgi1nX6cHE+24WT77w00EHGPEq4TnMOPGT4qCxj483zi0iAgJyKfR1KuG6S3W" ++
    codes "e92lS8MjfQNGjlqTHk2N1144OIPn5U0ICcin0dSrhukt1nvdpUvDI30DRo5akx5NjddeODiD5+VN5jqiDiyoxXOPEC/ml29KVx/QECMClsVD" ++
    codes "Bh2ltyaV9xgEBAwQBAAAAAQUjIQJyKfR1KuG6S3We92lS8MjfQNGjlqTHk2N1144OIPn5U6wAAA==")

psbt_second_with_space :
    replies small_hash (codes "psbt" ∷ codes "signed.psbt" ∷ codes "spaced.psbt" ∷ [])
    ((codes "signed.psbt", signed_psbt) ∷ (codes "spaced.psbt", spaced_psbt) ∷ [])
    ≡ prints 9 (lines (codes "psbt refused 1 base64" ∷ []))
unfolding is_name word_prefix number_prefix symbol_prefix read_answer advert_of_all advert_at entries_at entry_at head_at deposit_at
    secret_at fee_at choice_with branches_at branch_at parts_at auth_at after_at put_at reveal_at split_at reveals_at puts_at
    put_reveals_at headed_at one_branch_at condition_at names_from test_at comparison_at formula_at constant_at length_at withdraw_at
    digits label_text stripped marked compact places_list sequences_list outputs_list preimage position_script many wide_at compact_at
    string_at input_at inputs_at output_at outputs_at witness_at witnesses_at plain_at marked_at transaction_at all_at script_meaning
    ops_of number_of_item signed_bytes item_of_number base64_text base64_bytes psbt_bytes psbt_text psbt_of records_at maps_at
psbt_second_with_space = refl

abbrev psbt_shown_text : List ℕ
psbt_shown_text =
    lines (
    (codes "tx 02000000014bd479380135af2ee5cc6b5c8a7e29ea6fb5813214f419027b3de594066020740000000000feffffff010a000000000" ++
    codes "000002200207789f48dfb7c63f2b2717be681fec600ddb69c00aefd53a58722616912cb1b4900000000") ∷
    codes "input 0 spent 10 00208b59d7e9c1c4fb6e164fbef0d3410718f12ae139cc38f193e2a0b18f8f37ce2d" ∷
    (codes "input 0 signature 027229f4752ae1ba4b759ef76952f0c8df40d1a396a4c7936375d78e0e20f9f953 027229f4752ae1ba4b759ef" ++
    codes "76952f0c8df40d1a396a4c7936375d78e0e20f9f953798ea8838b2a315ce3c40bf9a5dbd295c7f40408c0a5b150c187696dc9a57dc60" ++
    codes "1") ∷
    codes "input 0 all" ∷
    codes "input 0 script 21027229f4752ae1ba4b759ef76952f0c8df40d1a396a4c7936375d78e0e20f9f953ac" ∷
    [])

psbt_shown :
    replies small_hash (codes "psbt" ∷ codes "signed.psbt" ∷ [])
    ((codes "signed.psbt", signed_psbt) ∷ [])
    ≡ prints 0 psbt_shown_text
unfolding is_name word_prefix number_prefix symbol_prefix read_answer advert_of_all advert_at entries_at entry_at head_at deposit_at
    secret_at fee_at choice_with branches_at branch_at parts_at auth_at after_at put_at reveal_at split_at reveals_at puts_at
    put_reveals_at headed_at one_branch_at condition_at names_from test_at comparison_at formula_at constant_at length_at withdraw_at
    digits label_text stripped marked compact places_list sequences_list outputs_list preimage position_script many wide_at compact_at
    string_at input_at inputs_at output_at outputs_at witness_at witnesses_at plain_at marked_at transaction_at all_at script_meaning
    ops_of number_of_item signed_bytes item_of_number base64_text base64_bytes psbt_bytes psbt_text psbt_of records_at maps_at
psbt_shown = refl

abbrev part_psbt : List ℕ
part_psbt =
    lines (
    (codes "cHNidP8BAF4CAAAAAbVbFKcLbS9+Kgm0J8awQgOGYpI9C9VEEVNucsSY0rH9AAAAAAD+////AQAAAAAAAAAAIgAg3qkowwwzmP5AtybABmHU" ++
    codes "s9PyiP8qsPMazULOwEwjcOsAAAAAAAEBKwAAAAAAAAAAIgAgOJFPK0eIjMHBdkHEVV0tr7qGDxBQFd0iv2L25RvU3qEiAgJ38uZxGGs+sMkn" ++
    codes "8CFl/mC7a5PZU4Ky70ZGf6JouTAtTUICd/LmcRhrPrDJJ/AhZf5gu2uT2VOCsu9GRn+iaLkwLU124sZR1vj/0QuPZg0fkzWkuet5Ncj5ppBt" ++
    codes "nk3i+VUUSAEBAwQBAAAAAQWPYyECd/LmcRhrPrDJJ/AhZf5gu2uT2VOCsu9GRn+iaLkwLU2tIQJ3UpGkB1DZcL+J5y19PlG3g3mr9iE7cXhO" ++
    codes "Xcvb6Oaxa6xnIQLWAvMXxndJFK1LpnX2HOcCSKvkitMuOAR360s1oGgQ7a0hAhKWXVvznoTbo1tkdSC+sPVCqmZyP02mzVzTHTPV92vZrGgA" ++
    codes "AA==") ∷
    [])

abbrev psbt_shown_of_branch_of_part_text : List ℕ
psbt_shown_of_branch_of_part_text =
    lines (
    (codes "tx 0200000001b55b14a70b6d2f7e2a09b427c6b042038662923d0bd54411536e72c498d2b1fd0000000000feffffff0100000000000" ++
    codes "00000220020dea928c30c3398fe40b726c00661d4b3d3f288ff2ab0f31acd42cec04c2370eb00000000") ∷
    codes "input 0 spent 0 002038914f2b47888cc1c17641c4555d2dafba860f105015dd22bf62f6e51bd4dea1" ∷
    (codes "input 0 signature 0277f2e671186b3eb0c927f02165fe60bb6b93d95382b2ef46467fa268b9302d4d 0277f2e671186b3eb0c927f" ++
    codes "02165fe60bb6b93d95382b2ef46467fa268b9302d4d76e2c651d6f8ffd10b8f660d1f9335a4b9eb7935c8f9a6906d9e4de2f95514480" ++
    codes "1") ∷
    codes "input 0 all" ∷
    (codes "input 0 script 63210277f2e671186b3eb0c927f02165fe60bb6b93d95382b2ef46467fa268b9302d4dad2102775291a40750d970b" ++
    codes "f89e72d7d3e51b78379abf6213b71784e5dcbdbe8e6b16bac672102d602f317c6774914ad4ba675f61ce70248abe48ad32e380477eb4" ++
    codes "b35a06810edad210212965d5bf39e84dba35b647520beb0f542aa66723f4da6cd5cd31d33d5f76bd9ac68") ∷
    [])

psbt_shown_of_branch_of_part :
    replies small_hash (codes "psbt" ∷ codes "part.psbt" ∷ [])
    ((codes "part.psbt", part_psbt) ∷ [])
    ≡ prints 0 psbt_shown_of_branch_of_part_text
unfolding is_name word_prefix number_prefix symbol_prefix read_answer advert_of_all advert_at entries_at entry_at head_at deposit_at
    secret_at fee_at choice_with branches_at branch_at parts_at auth_at after_at put_at reveal_at split_at reveals_at puts_at
    put_reveals_at headed_at one_branch_at condition_at names_from test_at comparison_at formula_at constant_at length_at withdraw_at
    digits label_text stripped marked compact places_list sequences_list outputs_list preimage position_script many wide_at compact_at
    string_at input_at inputs_at output_at outputs_at witness_at witnesses_at plain_at marked_at transaction_at all_at script_meaning
    ops_of number_of_item signed_bytes item_of_number base64_text base64_bytes psbt_bytes psbt_text psbt_of records_at maps_at
psbt_shown_of_branch_of_part = refl

abbrev put_psbt : List ℕ
put_psbt =
    lines (
    (codes "cHNidP8BAIcCAAAAAjXHQH1yaMJYAgHDRvHtl7tRLkRFjwy9M+Xqbt4Ayxs5AAAAAAD+////r5L0snCROsiFp2Lb2OZNvuBBK7LaWBhCyM2h" ++
    codes "fc0TzLsCAAAAAP7///8BHgAAAAAAAAAiACDwrY1KZB4HJ4zoarHgRHnvVaE1JcKGBFj9j726jNM8lwMAAAAAAQErGwAAAAAAAAAiACD7bxXo" ++
    codes "hHT/K9zXWMp+27yKIpH1znt3ghpdk60AHp/aXyICAi4HHsydUWmkPqie1oTI/7cux458CtNbSw3ZyjYvQgzJQgIuBx7MnVFppD6ontaEyP+3" ++
    codes "LseOfArTW0sN2co2L0IMyUTjQGEcxWxKKsoQbu5ELgrNv0VmkvCI+OUhq4VMrV9pASICAlbu/3ZE3I6mJoidIZtlJ2rLUw9nUf3b43IbOuTW" ++
    codes "o8M0QgJW7v92RNyOpiaInSGbZSdqy1MPZ1H92+NyGzrk1qPDNETjQGEcxWxKKsoQbu5ELgrNv0VmkvCI+OUhq4VMrV9pASICArP+6k0vpM+5" ++
    codes "Pkk35kNokkHTp5aqiSsp5/wzt6FDgHE2QgKz/upNL6TPuT5JN+ZDaJJB06eWqokrKef8M7ehQ4BxNkTjQGEcxWxKKsoQbu5ELgrNv0VmkvCI" ++
    codes "+OUhq4VMrV9pAQEDBAEAAAABBf1wAWOCdmACCQKlaWuoIP+qBlpIu2szKGZ4OmR4hz60UWAtzpYlDWIOUsfl9QS2iIJ2YAIJAqVpa6gg3XYF" ++
    codes "n3q7prW6k84CRzpR72GVfaeyyov1ckAKjNq30TmIbGxReWCUUnlglJ9pdXUhAtHI3yRbOrfB1WIQxs7IQjIoFiBAvvrExgnMVWDUxr0nrSEC" ++
    codes "Q2sek13KzPfGVD2mC4ayIBC1f/NNsmWe+efpyAKYN5ytIQIZfADD4OZ+1PatfaTtVmt+nIHKk3iXyPURStvJwEA5KqxngnZgAgkCpWlrqCDd" ++
    codes "dgWferumtbqTzgJHOlHvYZV9p7LKi/VyQAqM2rfROYhsAHlglGCcaXUhAi4HHsydUWmkPqie1oTI/7cux458CtNbSw3ZyjYvQgzJrSECVu7/" ++
    codes "dkTcjqYmiJ0hm2UnastTD2dR/dvjchs65NajwzStIQKz/upNL6TPuT5JN+ZDaJJB06eWqokrKef8M7ehQ4BxNqxoAAEBKwQAAAAAAAAAIgAg" ++
    codes "Jzg90g5GO1KRmQSnpP99B9MbzBr9uEu/pvAz7sJSurQiAgKJLackvU5HDd+BOrOwUCALiWW3LU/oRKVyFjDwTsu/H0ICiS2nJL1ORw3fgTqz" ++
    codes "sFAgC4llty1P6ESlchYw8E7Lvx+iCHCUZ2lXeajxKifs9SuaKZwWEAotsBNmGmbXy+rBZwEBAwQBAAAAAQUjIQKJLackvU5HDd+BOrOwUCAL" ++
    codes "iWW3LU/oRKVyFjDwTsu/H6wAAA==") ∷
    [])

abbrev psbt_shown_of_branch_that_puts_text : List ℕ
psbt_shown_of_branch_that_puts_text =
    lines (
    (codes "tx 020000000235c7407d7268c2580201c346f1ed97bb512e44458f0cbd33e5ea6ede00cb1b390000000000feffffffaf92f4b270913" ++
    codes "ac885a762dbd8e64dbee0412bb2da581842c8cda17dcd13ccbb0200000000feffffff011e00000000000000220020f0ad8d4a641e072" ++
    codes "78ce86ab1e04479ef55a13525c2860458fd8fbdba8cd33c9703000000") ∷
    codes "input 0 spent 27 0020fb6f15e88474ff2bdcd758ca7edbbc8a2291f5ce7b77821a5d93ad001e9fda5f" ∷
    (codes "input 0 signature 022e071ecc9d5169a43ea89ed684c8ffb72ec78e7c0ad35b4b0dd9ca362f420cc9 022e071ecc9d5169a43ea89" ++
    codes "ed684c8ffb72ec78e7c0ad35b4b0dd9ca362f420cc944e340611cc56c4a2aca106eee442e0acdbf456692f088f8e521ab854cad5f690" ++
    codes "1") ∷
    (codes "input 0 signature 0256eeff7644dc8ea626889d219b65276acb530f6751fddbe3721b3ae4d6a3c334 0256eeff7644dc8ea626889" ++
    codes "d219b65276acb530f6751fddbe3721b3ae4d6a3c33444e340611cc56c4a2aca106eee442e0acdbf456692f088f8e521ab854cad5f690" ++
    codes "1") ∷
    (codes "input 0 signature 02b3feea4d2fa4cfb93e4937e643689241d3a796aa892b29e7fc33b7a143807136 02b3feea4d2fa4cfb93e493" ++
    codes "7e643689241d3a796aa892b29e7fc33b7a14380713644e340611cc56c4a2aca106eee442e0acdbf456692f088f8e521ab854cad5f690" ++
    codes "1") ∷
    codes "input 0 all" ∷
    (codes "input 0 script 63827660020902a5696ba820ffaa065a48bb6b332866783a6478873eb451602dce96250d620e52c7e5f504b688827" ++
    codes "660020902a5696ba820dd76059f7abba6b5ba93ce02473a51ef61957da7b2ca8bf572400a8cdab7d139886c6c51796094527960949f6" ++
    codes "975752102d1c8df245b3ab7c1d56210c6cec8423228162040befac4c609cc5560d4c6bd27ad2102436b1e935dcaccf7c6543da60b86b" ++
    codes "22010b57ff34db2659ef9e7e9c80298379cad2102197c00c3e0e67ed4f6ad7da4ed566b7e9c81ca937897c8f5114adbc9c040392aac6" ++
    codes "7827660020902a5696ba820dd76059f7abba6b5ba93ce02473a51ef61957da7b2ca8bf572400a8cdab7d139886c00796094609c69752" ++
    codes "1022e071ecc9d5169a43ea89ed684c8ffb72ec78e7c0ad35b4b0dd9ca362f420cc9ad210256eeff7644dc8ea626889d219b65276acb5" ++
    codes "30f6751fddbe3721b3ae4d6a3c334ad2102b3feea4d2fa4cfb93e4937e643689241d3a796aa892b29e7fc33b7a143807136ac68") ∷
    codes "input 1 spent 4 002027383dd20e463b52919904a7a4ff7d07d31bcc1afdb84bbfa6f033eec252bab4" ∷
    (codes "input 1 signature 02892da724bd4e470ddf813ab3b050200b8965b72d4fe844a5721630f04ecbbf1f 02892da724bd4e470ddf813" ++
    codes "ab3b050200b8965b72d4fe844a5721630f04ecbbf1fa208709467695779a8f12a27ecf52b9a299c16100a2db013661a66d7cbeac1670" ++
    codes "1") ∷
    codes "input 1 all" ∷
    codes "input 1 script 2102892da724bd4e470ddf813ab3b050200b8965b72d4fe844a5721630f04ecbbf1fac" ∷
    [])

psbt_shown_of_branch_that_puts :
    replies small_hash (codes "psbt" ∷ codes "put.psbt" ∷ [])
    ((codes "put.psbt", put_psbt) ∷ [])
    ≡ prints 0 psbt_shown_of_branch_that_puts_text
unfolding is_name word_prefix number_prefix symbol_prefix read_answer advert_of_all advert_at entries_at entry_at head_at deposit_at
    secret_at fee_at choice_with branches_at branch_at parts_at auth_at after_at put_at reveal_at split_at reveals_at puts_at
    put_reveals_at headed_at one_branch_at condition_at names_from test_at comparison_at formula_at constant_at length_at withdraw_at
    digits label_text stripped marked compact places_list sequences_list outputs_list preimage position_script many wide_at compact_at
    string_at input_at inputs_at output_at outputs_at witness_at witnesses_at plain_at marked_at transaction_at all_at script_meaning
    ops_of number_of_item signed_bytes item_of_number base64_text base64_bytes psbt_bytes psbt_text psbt_of records_at maps_at
psbt_shown_of_branch_that_puts = refl

abbrev three_psbt : List ℕ
three_psbt =
    lines (
    (codes "cHNidP8BAF4CAAAAAS3IsX8x8+YnkGByncU4TnSkcnlgRjvMNi44/CscER6kAAAAAAD+////ASoAAAAAAAAAIgAgDst/TMKu1Z13i8f7S1T+" ++
    codes "oZ/p9W8sBA0zaXXZ6clMIaYAAAAAAAEBKysAAAAAAAAAIgAgpufRwIScD6K484s45DLfE4zTZNbnLHAy3PIUQph/imwiAgIHGJ107iPNJ34L" ++
    codes "MgC6mATzPXvOWO5yDHtlaw2aravmhkICBxiddO4jzSd+CzIAupgE8z17zljucgx7ZWsNmq2r5oaGMTNt3iTosk86B4FHbERKr/Jdk9WHmaDb" ++
    codes "Q0/F7WM1LwEiAgKId/zhgHqLq+wxMsSFEKzr06igKxenJm7xOrhFynmqLkICiHf84YB6i6vsMTLEhRCs69OooCsXpyZu8Tq4Rcp5qi6GMTNt" ++
    codes "3iTosk86B4FHbERKr/Jdk9WHmaDbQ0/F7WM1LwEiAgLA+FU/SlnWBxAFvsXTtZQdmZ8LZyYZWEzKgOsxK/wkOUICwPhVP0pZ1gcQBb7F07WU" ++
    codes "HZmfC2cmGVhMyoDrMSv8JDmGMTNt3iTosk86B4FHbERKr/Jdk9WHmaDbQ0/F7WM1LwEBAwQBAAAAAQX9mQFjIQIrfzN64YSCDnQ5kJU4DuIX" ++
    codes "bmP6SdZd0o7cAVJGNGQna60hArVruy1Kd+vvjj0GRPtIlH7Aeysu+SBXrmLMXt1EoPT0rSECgp+gCoH3AN7MCVM9XJwUZ2YPk2vUdJeC/UIx" ++
    codes "Di7Gpg+sZ2MhAoWLH7WNx0mhLZQMSgDpw2UUWgZ08pJ7rbLvqqtIVinYrSECm5JcQnSXgG4G0n604sSdUTLOJrUjvRCqFfe0ro87AhCtIQIU" ++
    codes "uaeiAjcjtfTv0JpQ1Qrw7UdUprlDynhPOyYMAikXJqxngnZgAgkCpWlrqCAhBka1egsROUvKIBbUjT4LIfRjU6g2WjoKmPhZzpTfUohsUVF5" ++
    codes "YJRSeWCUlFJ5YJRTeWCUlJOfUXlglFJ5YJSUAX9Tk5NSeWCUn5ppdSECBxiddO4jzSd+CzIAupgE8z17zljucgx7ZWsNmq2r5oatIQLA+FU/" ++
    codes "SlnWBxAFvsXTtZQdmZ8LZyYZWEzKgOsxK/wkOa0hAoh3/OGAeour7DEyxIUQrOvTqKArF6cmbvE6uEXKeaourGhoAAA=") ∷
    [])

abbrev psbt_shown_of_three_signers_text : List ℕ
psbt_shown_of_three_signers_text =
    lines (
    (codes "tx 02000000012dc8b17f31f3e6279060729dc5384e74a4727960463bcc362e38fc2b1c111ea40000000000feffffff012a000000000" ++
    codes "000002200200ecb7f4cc2aed59d778bc7fb4b54fea19fe9f56f2c040d336975d9e9c94c21a600000000") ∷
    codes "input 0 spent 43 0020a6e7d1c0849c0fa2b8f38b38e432df138cd364d6e72c7032dcf21442987f8a6c" ∷
    (codes "input 0 signature 0207189d74ee23cd277e0b3200ba9804f33d7bce58ee720c7b656b0d9aadabe686 0207189d74ee23cd277e0b3" ++
    codes "200ba9804f33d7bce58ee720c7b656b0d9aadabe6868631336dde24e8b24f3a0781476c444aaff25d93d58799a0db434fc5ed63352f0" ++
    codes "1") ∷
    (codes "input 0 signature 028877fce1807a8babec3132c48510acebd3a8a02b17a7266ef13ab845ca79aa2e 028877fce1807a8babec313" ++
    codes "2c48510acebd3a8a02b17a7266ef13ab845ca79aa2e8631336dde24e8b24f3a0781476c444aaff25d93d58799a0db434fc5ed63352f0" ++
    codes "1") ∷
    (codes "input 0 signature 02c0f8553f4a59d6071005bec5d3b5941d999f0b672619584cca80eb312bfc2439 02c0f8553f4a59d6071005b" ++
    codes "ec5d3b5941d999f0b672619584cca80eb312bfc24398631336dde24e8b24f3a0781476c444aaff25d93d58799a0db434fc5ed63352f0" ++
    codes "1") ∷
    codes "input 0 all" ∷
    (codes "input 0 script 6321022b7f337ae184820e74399095380ee2176e63fa49d65dd28edc0152463464276bad2102b56bbb2d4a77ebef8" ++
    codes "e3d0644fb48947ec07b2b2ef92057ae62cc5edd44a0f4f4ad2102829fa00a81f700decc09533d5c9c1467660f936bd4749782fd42310" ++
    codes "e2ec6a60fac67632102858b1fb58dc749a12d940c4a00e9c365145a0674f2927badb2efaaab485629d8ad21029b925c427497806e06d" ++
    codes "27eb4e2c49d5132ce26b523bd10aa15f7b4ae8f3b0210ad210214b9a7a2023723b5f4efd09a50d50af0ed4754a6b943ca784f3b260c0" ++
    codes "2291726ac67827660020902a5696ba820210646b57a0b11394bca2016d48d3e0b21f46353a8365a3a0a98f859ce94df52886c5151796" ++
    codes "0945279609494527960945379609494939f517960945279609494017f539393527960949f9a6975210207189d74ee23cd277e0b3200b" ++
    codes "a9804f33d7bce58ee720c7b656b0d9aadabe686ad2102c0f8553f4a59d6071005bec5d3b5941d999f0b672619584cca80eb312bfc243" ++
    codes "9ad21028877fce1807a8babec3132c48510acebd3a8a02b17a7266ef13ab845ca79aa2eac6868") ∷
    [])

psbt_shown_of_three_signers :
    replies small_hash (codes "psbt" ∷ codes "three.psbt" ∷ [])
    ((codes "three.psbt", three_psbt) ∷ [])
    ≡ prints 0 psbt_shown_of_three_signers_text
unfolding is_name word_prefix number_prefix symbol_prefix read_answer advert_of_all advert_at entries_at entry_at head_at deposit_at
    secret_at fee_at choice_with branches_at branch_at parts_at auth_at after_at put_at reveal_at split_at reveals_at puts_at
    put_reveals_at headed_at one_branch_at condition_at names_from test_at comparison_at formula_at constant_at length_at withdraw_at
    digits label_text stripped marked compact places_list sequences_list outputs_list preimage position_script many wide_at compact_at
    string_at input_at inputs_at output_at outputs_at witness_at witnesses_at plain_at marked_at transaction_at all_at script_meaning
    ops_of number_of_item signed_bytes item_of_number base64_text base64_bytes psbt_bytes psbt_text psbt_of records_at maps_at
psbt_shown_of_three_signers = refl

abbrev other_signature_psbt : List ℕ
other_signature_psbt =
    (codes "cHNidP8BAF4CAAAAAUvUeTgBNa8u5cxrXIp+KepvtYEyFPQZAns95ZQGYCB0AAAAAAD+////AQoAAAAAAAAAIgAgd4n0jft8Y/KycXvmgf7G" ++
    codes "AN22nACu/VOlhyJhaRLLG0kAAAAAAAEBKwoAAAAAAAAAIgAgi1nX6cHE+24WT77w00EHGPEq4TnMOPGT4qCxj483zi0iAgJyKfR1KuG6S3We" ++
    codes "92lS8MjfQNGjlqTHk2N1144OIPn5U0Iwcin0dSrhukt1nvdpUvDI30DRo5akx5NjddeODiD5+VN5jqiDiyoxXOPEC/ml29KVx/QECMClsVDB" ++
    codes "h2ltyaV9xgEBAwQBAAAAAQUjIQJyKfR1KuG6S3We92lS8MjfQNGjlqTHk2N1144OIPn5U6wAAA==")

psbt_with_another_signature :
    replies small_hash (codes "psbt" ∷ codes "signed.psbt" ∷ codes "other_signature.psbt" ∷ [])
    ((codes "signed.psbt", signed_psbt) ∷ (codes "other_signature.psbt", other_signature_psbt) ∷ [])
    ≡ prints 9 (lines (codes "psbt refused conflict 0" ∷ []))
unfolding is_name word_prefix number_prefix symbol_prefix read_answer advert_of_all advert_at entries_at entry_at head_at deposit_at
    secret_at fee_at choice_with branches_at branch_at parts_at auth_at after_at put_at reveal_at split_at reveals_at puts_at
    put_reveals_at headed_at one_branch_at condition_at names_from test_at comparison_at formula_at constant_at length_at withdraw_at
    digits label_text stripped marked compact places_list sequences_list outputs_list preimage position_script many wide_at compact_at
    string_at input_at inputs_at output_at outputs_at witness_at witnesses_at plain_at marked_at transaction_at all_at script_meaning
    ops_of number_of_item signed_bytes item_of_number base64_text base64_bytes psbt_bytes psbt_text psbt_of records_at maps_at
psbt_with_another_signature = refl

abbrev byte_behind_psbt : List ℕ
byte_behind_psbt =
    (codes "cHNidP8BAF4CAAAAAUvUeTgBNa8u5cxrXIp+KepvtYEyFPQZAns95ZQGYCB0AAAAAAD+////AQoAAAAAAAAAIgAgd4n0jft8Y/KycXvmgf7G" ++
    codes "AN22nACu/VOlhyJhaRLLG0kAAAAAAAEBKwoAAAAAAAAAIgAgi1nX6cHE+24WT77w00EHGPEq4TnMOPGT4qCxj483zi0iAgJyKfR1KuG6S3We" ++
    codes "92lS8MjfQNGjlqTHk2N1144OIPn5U0ICcin0dSrhukt1nvdpUvDI30DRo5akx5NjddeODiD5+VN5jqiDiyoxXOPEC/ml29KVx/QECMClsVDB" ++
    codes "h2ltyaV9xgEBAwQBAAAAAQUjIQJyKfR1KuG6S3We92lS8MjfQNGjlqTHk2N1144OIPn5U6wAAAA=")

psbt_with_byte_behind :
    replies small_hash (codes "psbt" ∷ codes "byte_behind.psbt" ∷ [])
    ((codes "byte_behind.psbt", byte_behind_psbt) ∷ [])
    ≡ prints 9 (lines (codes "psbt refused 0 form" ∷ []))
unfolding is_name word_prefix number_prefix symbol_prefix read_answer advert_of_all advert_at entries_at entry_at head_at deposit_at
    secret_at fee_at choice_with branches_at branch_at parts_at auth_at after_at put_at reveal_at split_at reveals_at puts_at
    put_reveals_at headed_at one_branch_at condition_at names_from test_at comparison_at formula_at constant_at length_at withdraw_at
    digits label_text stripped marked compact places_list sequences_list outputs_list preimage position_script many wide_at compact_at
    string_at input_at inputs_at output_at outputs_at witness_at witnesses_at plain_at marked_at transaction_at all_at script_meaning
    ops_of number_of_item signed_bytes item_of_number base64_text base64_bytes psbt_bytes psbt_text psbt_of records_at maps_at
psbt_with_byte_behind = refl

abbrev foreign_psbt : List ℕ
foreign_psbt =
    (codes "cHNidP8D/AF4AXkBAF4CAAAAAUvUeTgBNa8u5cxrXIp+KepvtYEyFPQZAns95ZQGYCB0AAAAAAD+////AQoAAAAAAAAAIgAgd4n0jft8Y/Ky" ++
    codes "cXvmgf7GAN22nACu/VOlhyJhaRLLG0kAAAAAAfsEAAAAAAABCCYCACMhAnIp9HUq4bpLdZ73aVLwyN9A0aOWpMeTY3XXjg4g+flTrCIGa2tr" ++
    codes "a2tra2tra2tra2tra2tra2tra2tra2tra2tra2trAAEFIyECcin0dSrhukt1nvdpUvDI30DRo5akx5NjddeODiD5+VOsAQADb2xkAAICawF2" ++
    codes "AQABegA=")

abbrev psbt_with_foreign_records_text : List ℕ
psbt_with_foreign_records_text =
    lines (
    (codes "tx 02000000014bd479380135af2ee5cc6b5c8a7e29ea6fb5813214f419027b3de594066020740000000000feffffff010a000000000" ++
    codes "000002200207789f48dfb7c63f2b2717be681fec600ddb69c00aefd53a58722616912cb1b4900000000") ∷
    codes "input 0 spent none" ∷
    codes "input 0 script 21027229f4752ae1ba4b759ef76952f0c8df40d1a396a4c7936375d78e0e20f9f953ac" ∷
    codes "input 0 witness - 21027229f4752ae1ba4b759ef76952f0c8df40d1a396a4c7936375d78e0e20f9f953ac" ∷
    [])

psbt_with_foreign_records :
    replies small_hash (codes "psbt" ∷ codes "foreign.psbt" ∷ [])
    ((codes "foreign.psbt", foreign_psbt) ∷ [])
    ≡ prints 0 psbt_with_foreign_records_text
unfolding is_name word_prefix number_prefix symbol_prefix read_answer advert_of_all advert_at entries_at entry_at head_at deposit_at
    secret_at fee_at choice_with branches_at branch_at parts_at auth_at after_at put_at reveal_at split_at reveals_at puts_at
    put_reveals_at headed_at one_branch_at condition_at names_from test_at comparison_at formula_at constant_at length_at withdraw_at
    digits label_text stripped marked compact places_list sequences_list outputs_list preimage position_script many wide_at compact_at
    string_at input_at inputs_at output_at outputs_at witness_at witnesses_at plain_at marked_at transaction_at all_at script_meaning
    ops_of number_of_item signed_bytes item_of_number base64_text base64_bytes psbt_bytes psbt_text psbt_of records_at maps_at
psbt_with_foreign_records = refl

abbrev hash_type_none_psbt : List ℕ
hash_type_none_psbt =
    (codes "cHNidP8BAF4CAAAAAUvUeTgBNa8u5cxrXIp+KepvtYEyFPQZAns95ZQGYCB0AAAAAAD+////AQoAAAAAAAAAIgAgd4n0jft8Y/KycXvmgf7G" ++
    codes "AN22nACu/VOlhyJhaRLLG0kAAAAAAAEDBAIAAAAAAA==")

psbt_with_hash_type_none :
    replies small_hash (codes "psbt" ∷ codes "signed.psbt" ∷ codes "hash_type_none.psbt" ∷ [])
    ((codes "signed.psbt", signed_psbt) ∷ (codes "hash_type_none.psbt", hash_type_none_psbt) ∷ [])
    ≡ prints 9 (lines (codes "psbt refused 1 form" ∷ []))
unfolding is_name word_prefix number_prefix symbol_prefix read_answer advert_of_all advert_at entries_at entry_at head_at deposit_at
    secret_at fee_at choice_with branches_at branch_at parts_at auth_at after_at put_at reveal_at split_at reveals_at puts_at
    put_reveals_at headed_at one_branch_at condition_at names_from test_at comparison_at formula_at constant_at length_at withdraw_at
    digits label_text stripped marked compact places_list sequences_list outputs_list preimage position_script many wide_at compact_at
    string_at input_at inputs_at output_at outputs_at witness_at witnesses_at plain_at marked_at transaction_at all_at script_meaning
    ops_of number_of_item signed_bytes item_of_number base64_text base64_bytes psbt_bytes psbt_text psbt_of records_at maps_at
psbt_with_hash_type_none = refl

abbrev repeated_foreign_key_psbt : List ℕ
repeated_foreign_key_psbt =
    (codes "cHNidP8BAF4CAAAAAUvUeTgBNa8u5cxrXIp+KepvtYEyFPQZAns95ZQGYCB0AAAAAAD+////AQoAAAAAAAAAIgAgd4n0jft8Y/KycXvmgf7G" ++
    codes "AN22nACu/VOlhyJhaRLLG0kAAAAAAAIGawExAgZrATIAAA==")

psbt_with_repeated_foreign_key :
    replies small_hash (codes "psbt" ∷ codes "repeated_foreign_key.psbt" ∷ [])
    ((codes "repeated_foreign_key.psbt", repeated_foreign_key_psbt) ∷ [])
    ≡ prints 9 (lines (codes "psbt refused 0 form" ∷ []))
unfolding is_name word_prefix number_prefix symbol_prefix read_answer advert_of_all advert_at entries_at entry_at head_at deposit_at
    secret_at fee_at choice_with branches_at branch_at parts_at auth_at after_at put_at reveal_at split_at reveals_at puts_at
    put_reveals_at headed_at one_branch_at condition_at names_from test_at comparison_at formula_at constant_at length_at withdraw_at
    digits label_text stripped marked compact places_list sequences_list outputs_list preimage position_script many wide_at compact_at
    string_at input_at inputs_at output_at outputs_at witness_at witnesses_at plain_at marked_at transaction_at all_at script_meaning
    ops_of number_of_item signed_bytes item_of_number base64_text base64_bytes psbt_bytes psbt_text psbt_of records_at maps_at
psbt_with_repeated_foreign_key = refl
