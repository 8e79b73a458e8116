-- Secrets that are committed, posted and revealed, played.
use Rattle.std.proofs.Common.{◌≡◌, ℕ, List, [], ◌∷◌, ◌++◌, refl}
use Rattle.std.specs.Prelude.{codes}
use Rattle.std.specs.Fmt.{digits}
use Rattle.spec_terms.specs.Readable.{is_name}
use Rattle.spec_bitcoin.specs.Keys.{label_text}
use Rattle.spec_bitcoin.specs.Digests.{places_list, sequences_list, outputs_list, preimage}
use Rattle.spec_bitcoin.specs.Spelling.{stripped, marked, compact}
use Rattle.spec_bitcoin.specs.Reading.{many, wide_at, compact_at, string_at, input_at, inputs_at, output_at, outputs_at, witness_at}
use Rattle.spec_bitcoin.specs.Reading.{witnesses_at, plain_at, marked_at, transaction_at, all_at}
use Rattle.spec_bitcoin.specs.Meaning.{script_meaning}
use Rattle.spec_bitcoin.specs.Numbers.{number_of_item, signed_bytes, item_of_number}
use Rattle.spec_bitcoin.specs.Scripts.{ops_of}
use Rattle.spec_compiler.specs.Keyed.Instance.{position_script}
use Rattle.spec_text.specs.Lexis.{word_prefix, number_prefix, symbol_prefix}
use Rattle.spec_text.specs.ReadAdvert.{read_answer, advert_of_all, advert_at, entries_at, entry_at, head_at, deposit_at, secret_at, fee_at}
use Rattle.spec_text.specs.ReadContract.{withdraw_at, condition_at, reveals_at, puts_at, put_reveals_at, headed_at, one_branch_at}
use Rattle.spec_text.specs.ReadContract.{branches_at, choice_with, parts_at, auth_at, after_at, put_at, reveal_at, split_at, branch_at}
use Rattle.spec_text.specs.ReadTest.{constant_at, length_at, formula_at, comparison_at, test_at}
use Rattle.spec_text.specs.Reading.{names_from}
use Rattle.spec_text.specs.Played.{play_text}
use Rattle.spec_tool.specs.Commands.{prints}
use Rattle.theory_values.specs.Replies.{lines, replies, sha_of, small_hash}

abbrev dishonest_secret_is_never_posted_run : List ℕ
dishonest_secret_is_never_posted_run =
    lines (
    codes "party A" ∷
    codes "party B" ∷
    codes "honest A" ∷
    codes "secret A a 1111111111111111111111111111111111111111" ∷
    codes "deposit A 1" ∷
    codes "deposit B 1" ∷
    codes "--" ∷
    codes "advertise 0 x=#0 y=#1" ∷
    codes "commit 0 A" ∷
    codes "commit 0 B b=d7a8fbb307d7809469ca9abcb0082e4f8d5651e46d3cdb762d02d0bf37c9e592" ∷
    codes "mine 1" ∷
    [])

abbrev two_secrets_bitml : List ℕ
two_secrets_bitml =
    codes "{A:! 1 @ x | B:! 1 @ y | A: secret a | B: secret b} withdraw A"

abbrev dishonest_secret_is_never_posted_text : List ℕ
dishonest_secret_is_never_posted_text =
    lines (
    codes "start #0 A 1" ∷
    codes "start #1 B 1" ∷
    codes "event 1 advertise 0 x=#0 y=#1" ∷
    codes "done" ∷
    codes "step advertise 0 x=#0 y=#1" ∷
    codes "event 2 commit 0 A" ∷
    codes "done" ∷
    codes "step commit 0 A a=4" ∷
    codes "event 3 commit 0 B b=d7a8fbb307d7809469ca9abcb0082e4f8d5651e46d3cdb762d02d0bf37c9e592" ∷
    codes "done" ∷
    codes "step commit 0 B b=none" ∷
    codes "event 4 mine 1" ∷
    codes "done" ∷
    codes "step delay 1" ∷
    codes "end" ∷
    codes "tip 1" ∷
    codes "live #0 1" ∷
    codes "live #1 1" ∷
    codes "time 1" ∷
    codes "deposit #0 A 1" ∷
    codes "deposit #1 B 1" ∷
    codes "secret 0 A a 4 hidden" ∷
    codes "secret 0 B b none hidden" ∷
    [])

dishonest_secret_is_never_posted :
    replies small_hash (codes "play" ∷ codes "dishonest_secret_is_never_posted.run" ∷ codes "two_secrets.bitml" ∷ [])
    ((codes "dishonest_secret_is_never_posted.run", dishonest_secret_is_never_posted_run)
    ∷ (codes "two_secrets.bitml", two_secrets_bitml) ∷ [])
    ≡ prints 0 dishonest_secret_is_never_posted_text
unfolding is_name word_prefix number_prefix symbol_prefix read_answer advert_of_all advert_at entries_at entry_at head_at deposit_at
    secret_at fee_at choice_with branches_at branch_at parts_at auth_at after_at put_at reveal_at split_at reveals_at puts_at
    put_reveals_at headed_at one_branch_at condition_at names_from test_at comparison_at formula_at constant_at length_at withdraw_at
    digits label_text stripped marked compact places_list sequences_list outputs_list preimage position_script many wide_at compact_at
    string_at input_at inputs_at output_at outputs_at witness_at witnesses_at plain_at marked_at transaction_at all_at script_meaning
    ops_of number_of_item signed_bytes item_of_number play_text
dishonest_secret_is_never_posted = refl

abbrev dishonest_secret_is_posted_later_hashes : List (ℕ × ℕ)
dishonest_secret_is_posted_later_hashes =
    (6263475112473494384, 0x7229f4752ae1ba4b759ef76952f0c8df40d1a396a4c7936375d78e0e20f9f953) ∷
    (17481214125729887496, 0x8b59d7e9c1c4fb6e164fbef0d3410718f12ae139cc38f193e2a0b18f8f37ce2d) ∷
    (6263475112473494385, 0xb9cde99529182b30119af392795ab7f0af17ca357a96a2518587545debaea120) ∷
    (3849898363207402157, 0xdea928c30c3398fe40b726c00661d4b3d3f288ff2ab0f31acd42cec04c2370eb) ∷
    (15032371385767165282, 0x291bce61b25589109732c8cf2199938c80ea5bc4bdc78f25168fa5e0e23e749a) ∷
    (2734418060289088713, 0x178a8b35f775877d42593cb692d463696d3772936d90e4caa5476143c3c620dc) ∷
    (4561003898118529664, 0x7c854a55ff3b6a65ccb68b366a6b39756d8f2994aa41c45f94627209da86806f) ∷
    (5573038168341886136, 0xc3048eb8a63ed41ea7b9fd55fb07a87736e61f4190c6603e48bd46951789fdb8) ∷
    (5573038168341886137, 0x35fc277c05597b9d5b667c63c706ba589607a00daa433e8e5192b5da5be35aed) ∷
    (9963248011155847839, 0x521c173f18d45f26beeaccb5eb1b0da1ac9befd9e322394d6ac873ae41e00f16) ∷
    (11624767460550332584, 0xf679d0a1b9ea4f6ab9c7894c65b99ce7e2ee196f0b71cac0648bad527e5517ad) ∷
    (8267922859040150281, 0x5284bbf9a45737c9771f761e051febf3e12868d282bb8fb8e60c1d12d1fd9524) ∷
    (10444123221707967487, 0x95235892ea2123a15e25085b1c11034e11630c8df4f2e47634de64235bffda8b) ∷
    (11594845046711085102, 0x63e58be35cb1fe2d57311dc002fac668094bcbf97e2cb1d4820b524a77e7924f) ∷
    (14376305522832806550, 0xd68892270a4358c723fefd6c3df811000689d276a7b15205c65037a41a989cce) ∷
    (16135954257557145446, 0xc992651ac89a97aecd0811c1761915a8e2c8f5153d1bdd994a789e6bd86ab717) ∷
    (17700147505848978106, 0x33ac075200f3b4bee9965fc32ab934dbeeac0fc64dbc3a11add62ec3d5537711) ∷
    (8951792220384454331, 0x4936ef9d41ef53106ec966bd57dc90b2ba00fba17d500983c5b8832be76b634c) ∷
    (17649320050360920455, 0xd4a96a83288d931a3060945c75de89a51f99b1936f738ac8bafbe173278a8886) ∷
    (12647290864951853893, 0x1b6632a22d37c1913919ce6d8b7f1bcafe51209fdd8090db25bdb138e891eadf) ∷
    (1862914519349060113, 0xeace035ce01b67cc8eebc9c0176beb178b35a008965ae50a344487a0fc25dc8a) ∷
    (4236274990171827960, 0x14550cc052388a00639dfb62700b84bb2118c8a7fb066b157299f2d74390cd6e) ∷
    (807558533266504281, 0x34f3f5bc1e54761989190b6f6821cee7b943c77de1847a375c1728b23ba665f3) ∷
    (547542997023560783, 0x1fd8b671130d3d856097e3978da4516cd5931f4e91564554684e68230bb2806f) ∷
    (4468060404796982652, 0xf0cabacb1c56241af47126d6ff56194db6f30d0926db19315044ad5ff94a0835) ∷
    (1615362180752843597, 0x72af88d5cef48409196da58ff44bfc0fb1976a74d637a83e8577d4c770d68fd3) ∷
    (5040092498882930355, 0xb4248c210a2905b94345e1a8414d0e12efcfb2f4f0f2397159a71283397a0ccd) ∷
    (204552439812090982, 0x18606b350cd8bf565266bc352f0caddcf01e8fa789dd8a15386327cf8cabe198) ∷
    (1056717590046736233, 0xa906f58e75c5187c765d562ee95df520871032b8edf9df8619d8d73be065e9a9) ∷
    (16280254736992882964, 0x3771e2000e6d58033016ddc311784375c89888cc1e1a1b62554f2dd178ae1e73) ∷
    (16681135812501557350, 0xbbad96cca74d72fdbf5c99277e8e37f664a4a447066ef3451dd780b2537ef467) ∷
    (6112871917229367106, 0xe2c2211e86d67b54994a8a3e86c89ea39fa88faf8f9fe829797af9d6d8b43bf0) ∷
    (4163542206047183862, 0xd7a8fbb307d7809469ca9abcb0082e4f8d5651e46d3cdb762d02d0bf37c9e592) ∷
    []

abbrev dishonest_secret_is_posted_later_run : List ℕ
dishonest_secret_is_posted_later_run =
    lines (
    codes "party A" ∷
    codes "party B" ∷
    codes "honest A" ∷
    codes "secret A a 1111111111111111111111111111111111111111" ∷
    codes "deposit A 1" ∷
    codes "deposit B 1" ∷
    codes "--" ∷
    codes "advertise 0 x=#0 y=#1" ∷
    codes "commit 0 A" ∷
    codes "commit 0 B b=d7a8fbb307d7809469ca9abcb0082e4f8d5651e46d3cdb762d02d0bf37c9e592" ∷
    codes "mine 1" ∷
    codes "post 54686520717569636b2062726f776e20666f78206a756d7073206f76657220746865206c617a7920646f67" ∷
    [])

abbrev dishonest_secret_is_posted_later_text : List ℕ
dishonest_secret_is_posted_later_text =
    lines (
    codes "start #0 A 1" ∷
    codes "start #1 B 1" ∷
    codes "event 1 advertise 0 x=#0 y=#1" ∷
    codes "done" ∷
    codes "step advertise 0 x=#0 y=#1" ∷
    codes "event 2 commit 0 A" ∷
    codes "done" ∷
    codes "step commit 0 A a=4" ∷
    codes "event 3 commit 0 B b=d7a8fbb307d7809469ca9abcb0082e4f8d5651e46d3cdb762d02d0bf37c9e592" ∷
    codes "done" ∷
    codes "step commit 0 B b=27" ∷
    codes "event 4 mine 1" ∷
    codes "done" ∷
    codes "step delay 1" ∷
    codes "event 5 post 54686520717569636b2062726f776e20666f78206a756d7073206f76657220746865206c617a7920646f67" ∷
    codes "done" ∷
    codes "step reveal 0 B b" ∷
    codes "end" ∷
    codes "tip 1" ∷
    codes "live #0 1" ∷
    codes "live #1 1" ∷
    codes "time 1" ∷
    codes "deposit #0 A 1" ∷
    codes "deposit #1 B 1" ∷
    codes "secret 0 A a 4 hidden" ∷
    codes "secret 0 B b 27 revealed" ∷
    [])

dishonest_secret_is_posted_later :
    replies (sha_of dishonest_secret_is_posted_later_hashes) (codes "play" ∷ codes "dishonest_secret_is_posted_later.run"
    ∷ codes "two_secrets.bitml" ∷ [])
    ((codes "dishonest_secret_is_posted_later.run", dishonest_secret_is_posted_later_run)
    ∷ (codes "two_secrets.bitml", two_secrets_bitml) ∷ [])
    ≡ prints 0 dishonest_secret_is_posted_later_text
unfolding is_name word_prefix number_prefix symbol_prefix read_answer advert_of_all advert_at entries_at entry_at head_at deposit_at
    secret_at fee_at choice_with branches_at branch_at parts_at auth_at after_at put_at reveal_at split_at reveals_at puts_at
    put_reveals_at headed_at one_branch_at condition_at names_from test_at comparison_at formula_at constant_at length_at withdraw_at
    digits label_text stripped marked compact places_list sequences_list outputs_list preimage position_script many wide_at compact_at
    string_at input_at inputs_at output_at outputs_at witness_at witnesses_at plain_at marked_at transaction_at all_at script_meaning
    ops_of number_of_item signed_bytes item_of_number play_text
dishonest_secret_is_posted_later = refl

abbrev copied_commitment_hashes : List (ℕ × ℕ)
copied_commitment_hashes =
    (6263475112473494384, 0x7229f4752ae1ba4b759ef76952f0c8df40d1a396a4c7936375d78e0e20f9f953) ∷
    (17481214125729887496, 0x8b59d7e9c1c4fb6e164fbef0d3410718f12ae139cc38f193e2a0b18f8f37ce2d) ∷
    (6263475112473494385, 0xb9cde99529182b30119af392795ab7f0af17ca357a96a2518587545debaea120) ∷
    (3849898363207402157, 0xdea928c30c3398fe40b726c00661d4b3d3f288ff2ab0f31acd42cec04c2370eb) ∷
    (15032371385767165282, 0x291bce61b25589109732c8cf2199938c80ea5bc4bdc78f25168fa5e0e23e749a) ∷
    (2734418060289088713, 0x178a8b35f775877d42593cb692d463696d3772936d90e4caa5476143c3c620dc) ∷
    (4163542206047183862, 0xd7a8fbb307d7809469ca9abcb0082e4f8d5651e46d3cdb762d02d0bf37c9e592) ∷
    []

abbrev copied_commitment_run : List ℕ
copied_commitment_run =
    lines (
    codes "party A" ∷
    codes "party B" ∷
    codes "honest A" ∷
    codes "secret A a 54686520717569636b2062726f776e20666f78206a756d7073206f76657220746865206c617a7920646f67" ∷
    codes "deposit A 1" ∷
    codes "deposit B 1" ∷
    codes "--" ∷
    codes "advertise 0 x=#0 y=#1" ∷
    codes "commit 0 A" ∷
    codes "commit 0 B b=d7a8fbb307d7809469ca9abcb0082e4f8d5651e46d3cdb762d02d0bf37c9e592" ∷
    [])

abbrev copied_commitment_text : List ℕ
copied_commitment_text =
    lines (
    codes "start #0 A 1" ∷
    codes "start #1 B 1" ∷
    codes "event 1 advertise 0 x=#0 y=#1" ∷
    codes "done" ∷
    codes "step advertise 0 x=#0 y=#1" ∷
    codes "event 2 commit 0 A" ∷
    codes "done" ∷
    codes "step commit 0 A a=27" ∷
    codes "event 3 commit 0 B b=d7a8fbb307d7809469ca9abcb0082e4f8d5651e46d3cdb762d02d0bf37c9e592" ∷
    codes "refused HashRepeated b" ∷
    codes "end" ∷
    codes "tip 0" ∷
    codes "live #0 1" ∷
    codes "live #1 1" ∷
    codes "time 0" ∷
    codes "deposit #0 A 1" ∷
    codes "deposit #1 B 1" ∷
    codes "secret 0 A a 27 hidden" ∷
    [])

copied_commitment :
    replies (sha_of copied_commitment_hashes) (codes "play" ∷ codes "copied_commitment.run" ∷ codes "two_secrets.bitml" ∷ [])
    ((codes "copied_commitment.run", copied_commitment_run) ∷ (codes "two_secrets.bitml", two_secrets_bitml) ∷ [])
    ≡ prints 0 copied_commitment_text
unfolding is_name word_prefix number_prefix symbol_prefix read_answer advert_of_all advert_at entries_at entry_at head_at deposit_at
    secret_at fee_at choice_with branches_at branch_at parts_at auth_at after_at put_at reveal_at split_at reveals_at puts_at
    put_reveals_at headed_at one_branch_at condition_at names_from test_at comparison_at formula_at constant_at length_at withdraw_at
    digits label_text stripped marked compact places_list sequences_list outputs_list preimage position_script many wide_at compact_at
    string_at input_at inputs_at output_at outputs_at witness_at witnesses_at plain_at marked_at transaction_at all_at script_meaning
    ops_of number_of_item signed_bytes item_of_number play_text
copied_commitment = refl

abbrev longest_secret_run : List ℕ
longest_secret_run =
    lines (
    codes "party A" ∷
    codes "party B" ∷
    codes "honest A" ∷
    (codes "secret A a 5a5a5a5a5a5a5a5a5a5a5a5a5a5a5a5a5a5a5a5a5a5a5a5a5a5a5a5a5a5a5a5a5a5a5a5a5a5a5a5a5a5a5a5a5a5a5a5a5" ++
    codes "a5a5a5a5a5a5a5a5a5a5a5a5a5a5a5a5a5a5a5a5a5a5a5a5a5a5a5a5a5a5a5a5a5a5a5a5a5a5a5a5a5a5a5a5a5a5a5a5a5a5a5a5a5a5" ++
    codes "a5a5a5a5a5a5a5a5a5a5a5a5a5a5a5a5a5a5a5a5a5a5a5a5a5a5a5a5a5a5a5a5a5a5a5a5a5a5a5a5a5a5a5a5a5a5a5a5a5a5a5a5a5a5" ++
    codes "a5a5a5a5a5a5a5a5a5a5a5a5a5a5a5a5a5a5a5a5a5a5a5a5a5a5a5a5a5a5a5a5a5a5a5a5a5a5a5a5a5a5a5a5a5a5a5a5a5a5a5a5a5a5" ++
    codes "a5a5a5a5a5a5a5a5a5a5a5a5a5a5a5a5a5a5a5a5a5a5a5a5a5a5a5a5a5a5a5a5a5a5a5a5a5a5a5a5a5a5a5a5a5a5a5a5a5a5a5a5a5a5" ++
    codes "a5a5a5a5a5a5a5a5a5a5a5a5a5a5a5a5a5a5a5a5a5a5a5a5a5a5a5a5a5a5a5a5a5a5a5a5a5a5a5a5a5a5a5a5a5a5a5a5a5a5a5a5a5a5" ++
    codes "a5a5a5a5a5a5a5a5a5a5a5a5a5a5a5a5a5a5a5a5a5a5a5a5a5a5a5a5a5a5a5a5a5a5a5a5a5a5a5a5a5a5a5a5a5a5a5a5a5a5a5a5a5a5" ++
    codes "a5a5a5a5a5a5a5a5a5a5a5a5a5a5a5a5a5a5a5a5a5a5a5a5a5a5a5a5a5a5a5a5a5a5a5a5a5a5a5a5a5a5a5a5a5a5a5a5a5a5a5a5a5a5" ++
    codes "a5a5a5a5a5a5a5a5a5a5a5a5a5a5a5a5a5a5a5a5a5a5a5a5a5a5a5a5a5a5a5a5a5a5a5a5a5a5a5a5a5a5a5a5a5a5a5a5a5a5a5a5a5a5" ++
    codes "a5a5a5a5a5a5a5a5a5a5a5a5a5a5a5a5a5a5a5a5a5a5a5a5a5a5a5a5a5a5a5a5a5a5a5a5a5a5a5a") ∷
    codes "deposit A 1" ∷
    codes "deposit B 1" ∷
    codes "--" ∷
    codes "advertise 0 x=#0 y=#1" ∷
    codes "commit 0 A" ∷
    [])

abbrev one_secret_bitml : List ℕ
one_secret_bitml =
    codes "{A:! 1 @ x | B:! 1 @ y | A: secret a} withdraw A"

abbrev longest_secret_text : List ℕ
longest_secret_text =
    lines (
    codes "start #0 A 1" ∷
    codes "start #1 B 1" ∷
    codes "event 1 advertise 0 x=#0 y=#1" ∷
    codes "done" ∷
    codes "step advertise 0 x=#0 y=#1" ∷
    codes "event 2 commit 0 A" ∷
    codes "done" ∷
    codes "step commit 0 A a=504" ∷
    codes "end" ∷
    codes "tip 0" ∷
    codes "live #0 1" ∷
    codes "live #1 1" ∷
    codes "time 0" ∷
    codes "deposit #0 A 1" ∷
    codes "deposit #1 B 1" ∷
    codes "secret 0 A a 504 hidden" ∷
    [])

longest_secret :
    replies small_hash (codes "play" ∷ codes "longest_secret.run" ∷ codes "one_secret.bitml" ∷ [])
    ((codes "longest_secret.run", longest_secret_run) ∷ (codes "one_secret.bitml", one_secret_bitml) ∷ [])
    ≡ prints 0 longest_secret_text
unfolding is_name word_prefix number_prefix symbol_prefix read_answer advert_of_all advert_at entries_at entry_at head_at deposit_at
    secret_at fee_at choice_with branches_at branch_at parts_at auth_at after_at put_at reveal_at split_at reveals_at puts_at
    put_reveals_at headed_at one_branch_at condition_at names_from test_at comparison_at formula_at constant_at length_at withdraw_at
    digits label_text stripped marked compact places_list sequences_list outputs_list preimage position_script many wide_at compact_at
    string_at input_at inputs_at output_at outputs_at witness_at witnesses_at plain_at marked_at transaction_at all_at script_meaning
    ops_of number_of_item signed_bytes item_of_number play_text
longest_secret = refl

abbrev shortest_secret_run : List ℕ
shortest_secret_run =
    lines (
    codes "party A" ∷
    codes "party B" ∷
    codes "honest A" ∷
    codes "secret A a 5a5a5a5a5a5a5a5a5a5a5a5a5a5a5a5a" ∷
    codes "deposit A 1" ∷
    codes "deposit B 1" ∷
    codes "--" ∷
    codes "advertise 0 x=#0 y=#1" ∷
    codes "commit 0 A" ∷
    [])

abbrev shortest_secret_text : List ℕ
shortest_secret_text =
    lines (
    codes "start #0 A 1" ∷
    codes "start #1 B 1" ∷
    codes "event 1 advertise 0 x=#0 y=#1" ∷
    codes "done" ∷
    codes "step advertise 0 x=#0 y=#1" ∷
    codes "event 2 commit 0 A" ∷
    codes "done" ∷
    codes "step commit 0 A a=0" ∷
    codes "end" ∷
    codes "tip 0" ∷
    codes "live #0 1" ∷
    codes "live #1 1" ∷
    codes "time 0" ∷
    codes "deposit #0 A 1" ∷
    codes "deposit #1 B 1" ∷
    codes "secret 0 A a 0 hidden" ∷
    [])

shortest_secret :
    replies small_hash (codes "play" ∷ codes "shortest_secret.run" ∷ codes "one_secret.bitml" ∷ [])
    ((codes "shortest_secret.run", shortest_secret_run) ∷ (codes "one_secret.bitml", one_secret_bitml) ∷ [])
    ≡ prints 0 shortest_secret_text
unfolding is_name word_prefix number_prefix symbol_prefix read_answer advert_of_all advert_at entries_at entry_at head_at deposit_at
    secret_at fee_at choice_with branches_at branch_at parts_at auth_at after_at put_at reveal_at split_at reveals_at puts_at
    put_reveals_at headed_at one_branch_at condition_at names_from test_at comparison_at formula_at constant_at length_at withdraw_at
    digits label_text stripped marked compact places_list sequences_list outputs_list preimage position_script many wide_at compact_at
    string_at input_at inputs_at output_at outputs_at witness_at witnesses_at plain_at marked_at transaction_at all_at script_meaning
    ops_of number_of_item signed_bytes item_of_number play_text
shortest_secret = refl

abbrev secret_is_too_long_run : List ℕ
secret_is_too_long_run =
    lines (
    codes "party A" ∷
    codes "party B" ∷
    codes "honest A" ∷
    (codes "secret A a 5a5a5a5a5a5a5a5a5a5a5a5a5a5a5a5a5a5a5a5a5a5a5a5a5a5a5a5a5a5a5a5a5a5a5a5a5a5a5a5a5a5a5a5a5a5a5a5a5" ++
    codes "a5a5a5a5a5a5a5a5a5a5a5a5a5a5a5a5a5a5a5a5a5a5a5a5a5a5a5a5a5a5a5a5a5a5a5a5a5a5a5a5a5a5a5a5a5a5a5a5a5a5a5a5a5a5" ++
    codes "a5a5a5a5a5a5a5a5a5a5a5a5a5a5a5a5a5a5a5a5a5a5a5a5a5a5a5a5a5a5a5a5a5a5a5a5a5a5a5a5a5a5a5a5a5a5a5a5a5a5a5a5a5a5" ++
    codes "a5a5a5a5a5a5a5a5a5a5a5a5a5a5a5a5a5a5a5a5a5a5a5a5a5a5a5a5a5a5a5a5a5a5a5a5a5a5a5a5a5a5a5a5a5a5a5a5a5a5a5a5a5a5" ++
    codes "a5a5a5a5a5a5a5a5a5a5a5a5a5a5a5a5a5a5a5a5a5a5a5a5a5a5a5a5a5a5a5a5a5a5a5a5a5a5a5a5a5a5a5a5a5a5a5a5a5a5a5a5a5a5" ++
    codes "a5a5a5a5a5a5a5a5a5a5a5a5a5a5a5a5a5a5a5a5a5a5a5a5a5a5a5a5a5a5a5a5a5a5a5a5a5a5a5a5a5a5a5a5a5a5a5a5a5a5a5a5a5a5" ++
    codes "a5a5a5a5a5a5a5a5a5a5a5a5a5a5a5a5a5a5a5a5a5a5a5a5a5a5a5a5a5a5a5a5a5a5a5a5a5a5a5a5a5a5a5a5a5a5a5a5a5a5a5a5a5a5" ++
    codes "a5a5a5a5a5a5a5a5a5a5a5a5a5a5a5a5a5a5a5a5a5a5a5a5a5a5a5a5a5a5a5a5a5a5a5a5a5a5a5a5a5a5a5a5a5a5a5a5a5a5a5a5a5a5" ++
    codes "a5a5a5a5a5a5a5a5a5a5a5a5a5a5a5a5a5a5a5a5a5a5a5a5a5a5a5a5a5a5a5a5a5a5a5a5a5a5a5a5a5a5a5a5a5a5a5a5a5a5a5a5a5a5" ++
    codes "a5a5a5a5a5a5a5a5a5a5a5a5a5a5a5a5a5a5a5a5a5a5a5a5a5a5a5a5a5a5a5a5a5a5a5a5a5a5a5a5a") ∷
    codes "deposit A 1" ∷
    codes "deposit B 1" ∷
    codes "--" ∷
    codes "advertise 0 x=#0 y=#1" ∷
    codes "commit 0 A" ∷
    [])

abbrev secret_is_too_long_text : List ℕ
secret_is_too_long_text =
    lines (
    codes "start #0 A 1" ∷
    codes "start #1 B 1" ∷
    codes "event 1 advertise 0 x=#0 y=#1" ∷
    codes "done" ∷
    codes "step advertise 0 x=#0 y=#1" ∷
    codes "event 2 commit 0 A" ∷
    codes "refused BadSecretLength a" ∷
    codes "end" ∷
    codes "tip 0" ∷
    codes "live #0 1" ∷
    codes "live #1 1" ∷
    codes "time 0" ∷
    codes "deposit #0 A 1" ∷
    codes "deposit #1 B 1" ∷
    [])

secret_is_too_long :
    replies small_hash (codes "play" ∷ codes "secret_is_too_long.run" ∷ codes "one_secret.bitml" ∷ [])
    ((codes "secret_is_too_long.run", secret_is_too_long_run) ∷ (codes "one_secret.bitml", one_secret_bitml) ∷ [])
    ≡ prints 0 secret_is_too_long_text
unfolding is_name word_prefix number_prefix symbol_prefix read_answer advert_of_all advert_at entries_at entry_at head_at deposit_at
    secret_at fee_at choice_with branches_at branch_at parts_at auth_at after_at put_at reveal_at split_at reveals_at puts_at
    put_reveals_at headed_at one_branch_at condition_at names_from test_at comparison_at formula_at constant_at length_at withdraw_at
    digits label_text stripped marked compact places_list sequences_list outputs_list preimage position_script many wide_at compact_at
    string_at input_at inputs_at output_at outputs_at witness_at witnesses_at plain_at marked_at transaction_at all_at script_meaning
    ops_of number_of_item signed_bytes item_of_number play_text
secret_is_too_long = refl

abbrev secret_is_too_short_run : List ℕ
secret_is_too_short_run =
    lines (
    codes "party A" ∷
    codes "party B" ∷
    codes "honest A" ∷
    codes "secret A a 5a5a5a5a5a5a5a5a5a5a5a5a5a5a5a" ∷
    codes "deposit A 1" ∷
    codes "deposit B 1" ∷
    codes "--" ∷
    codes "advertise 0 x=#0 y=#1" ∷
    codes "commit 0 A" ∷
    [])

abbrev secret_is_too_short_text : List ℕ
secret_is_too_short_text =
    lines (
    codes "start #0 A 1" ∷
    codes "start #1 B 1" ∷
    codes "event 1 advertise 0 x=#0 y=#1" ∷
    codes "done" ∷
    codes "step advertise 0 x=#0 y=#1" ∷
    codes "event 2 commit 0 A" ∷
    codes "refused BadSecretLength a" ∷
    codes "end" ∷
    codes "tip 0" ∷
    codes "live #0 1" ∷
    codes "live #1 1" ∷
    codes "time 0" ∷
    codes "deposit #0 A 1" ∷
    codes "deposit #1 B 1" ∷
    [])

secret_is_too_short :
    replies small_hash (codes "play" ∷ codes "secret_is_too_short.run" ∷ codes "one_secret.bitml" ∷ [])
    ((codes "secret_is_too_short.run", secret_is_too_short_run) ∷ (codes "one_secret.bitml", one_secret_bitml) ∷ [])
    ≡ prints 0 secret_is_too_short_text
unfolding is_name word_prefix number_prefix symbol_prefix read_answer advert_of_all advert_at entries_at entry_at head_at deposit_at
    secret_at fee_at choice_with branches_at branch_at parts_at auth_at after_at put_at reveal_at split_at reveals_at puts_at
    put_reveals_at headed_at one_branch_at condition_at names_from test_at comparison_at formula_at constant_at length_at withdraw_at
    digits label_text stripped marked compact places_list sequences_list outputs_list preimage position_script many wide_at compact_at
    string_at input_at inputs_at output_at outputs_at witness_at witnesses_at plain_at marked_at transaction_at all_at script_meaning
    ops_of number_of_item signed_bytes item_of_number play_text
secret_is_too_short = refl

abbrev posted_string_is_no_secret_run : List ℕ
posted_string_is_no_secret_run =
    lines (
    codes "party A" ∷
    codes "party B" ∷
    codes "honest A" ∷
    codes "secret A a 54686520717569636b2062726f776e20666f78206a756d7073206f76657220746865206c617a7920646f67" ∷
    codes "deposit A 1" ∷
    codes "deposit B 1" ∷
    codes "--" ∷
    codes "advertise 0 x=#0 y=#1" ∷
    codes "commit 0 A" ∷
    codes "commit 0 B b=ba7816bf8f01cfea414140de5dae2223b00361a396177a9cb410ff61f20015ad" ∷
    codes "post 616263" ∷
    [])

abbrev posted_string_is_no_secret_text : List ℕ
posted_string_is_no_secret_text =
    lines (
    codes "start #0 A 1" ∷
    codes "start #1 B 1" ∷
    codes "event 1 advertise 0 x=#0 y=#1" ∷
    codes "done" ∷
    codes "step advertise 0 x=#0 y=#1" ∷
    codes "event 2 commit 0 A" ∷
    codes "done" ∷
    codes "step commit 0 A a=27" ∷
    codes "event 3 commit 0 B b=ba7816bf8f01cfea414140de5dae2223b00361a396177a9cb410ff61f20015ad" ∷
    codes "done" ∷
    codes "step commit 0 B b=none" ∷
    codes "event 4 post 616263" ∷
    codes "done" ∷
    codes "end" ∷
    codes "tip 0" ∷
    codes "live #0 1" ∷
    codes "live #1 1" ∷
    codes "time 0" ∷
    codes "deposit #0 A 1" ∷
    codes "deposit #1 B 1" ∷
    codes "secret 0 A a 27 hidden" ∷
    codes "secret 0 B b none hidden" ∷
    [])

posted_string_is_no_secret :
    replies small_hash (codes "play" ∷ codes "posted_string_is_no_secret.run" ∷ codes "two_secrets.bitml" ∷ [])
    ((codes "posted_string_is_no_secret.run", posted_string_is_no_secret_run) ∷ (codes "two_secrets.bitml", two_secrets_bitml) ∷ [])
    ≡ prints 0 posted_string_is_no_secret_text
unfolding is_name word_prefix number_prefix symbol_prefix read_answer advert_of_all advert_at entries_at entry_at head_at deposit_at
    secret_at fee_at choice_with branches_at branch_at parts_at auth_at after_at put_at reveal_at split_at reveals_at puts_at
    put_reveals_at headed_at one_branch_at condition_at names_from test_at comparison_at formula_at constant_at length_at withdraw_at
    digits label_text stripped marked compact places_list sequences_list outputs_list preimage position_script many wide_at compact_at
    string_at input_at inputs_at output_at outputs_at witness_at witnesses_at plain_at marked_at transaction_at all_at script_meaning
    ops_of number_of_item signed_bytes item_of_number play_text
posted_string_is_no_secret = refl

abbrev secret_is_revealed_run : List ℕ
secret_is_revealed_run =
    lines (
    codes "party A" ∷
    codes "party B" ∷
    codes "honest A" ∷
    codes "secret A a 00112233445566778899aabbccddeeff" ∷
    codes "deposit A 100000000" ∷
    codes "deposit B 0" ∷
    codes "--" ∷
    codes "advertise 0 x=#0 y=#1" ∷
    codes "commit 0 A" ∷
    codes "commit 0 B" ∷
    codes "endorse 0 A" ∷
    codes "endorse 0 B" ∷
    codes "init 0 A" ∷
    codes "init 0 B" ∷
    codes "fire init 0" ∷
    codes "reveal 0 A a" ∷
    codes "fire #2 0" ∷
    codes "fire #3 0" ∷
    [])

abbrev timed_commitment_bitml : List ℕ
timed_commitment_bitml =
    codes "{A:! 100000000 @ x | B:! 0 @ y | A: secret a} (reveal a . withdraw A + after 1000 : withdraw B)"

abbrev secret_is_revealed_text : List ℕ
secret_is_revealed_text =
    lines (
    codes "start #0 A 100000000" ∷
    codes "start #1 B 0" ∷
    codes "event 1 advertise 0 x=#0 y=#1" ∷
    codes "done" ∷
    codes "step advertise 0 x=#0 y=#1" ∷
    codes "event 2 commit 0 A" ∷
    codes "done" ∷
    codes "step commit 0 A a=0" ∷
    codes "event 3 commit 0 B" ∷
    codes "done" ∷
    codes "step commit 0 B" ∷
    codes "event 4 endorse 0 A" ∷
    codes "done" ∷
    codes "event 5 endorse 0 B" ∷
    codes "done" ∷
    codes "event 6 init 0 A" ∷
    codes "done" ∷
    codes "step authinit 0 A x" ∷
    codes "event 7 init 0 B" ∷
    codes "done" ∷
    codes "step authinit 0 B y" ∷
    codes "event 8 fire init 0" ∷
    codes "accepted spends #0 #1 makes #2 100000000 lock 0" ∷
    codes "step init 0 -> #2" ∷
    codes "event 9 reveal 0 A a" ∷
    codes "done" ∷
    codes "step reveal 0 A a" ∷
    codes "event 10 fire #2 0" ∷
    codes "accepted spends #2 makes #3 100000000 lock 0" ∷
    codes "step putreveal #2 0 -> #3" ∷
    codes "event 11 fire #3 0" ∷
    codes "accepted spends #3 makes #4 100000000 lock 0" ∷
    codes "step withdraw #3 0 -> #4" ∷
    codes "end" ∷
    codes "tip 0" ∷
    codes "live #4 100000000" ∷
    codes "time 0" ∷
    codes "deposit #4 A 100000000" ∷
    codes "secret 0 A a 0 revealed" ∷
    [])

secret_is_revealed :
    replies small_hash (codes "play" ∷ codes "secret_is_revealed.run" ∷ codes "timed_commitment.bitml" ∷ [])
    ((codes "secret_is_revealed.run", secret_is_revealed_run) ∷ (codes "timed_commitment.bitml", timed_commitment_bitml) ∷ [])
    ≡ prints 0 secret_is_revealed_text
unfolding is_name word_prefix number_prefix symbol_prefix read_answer advert_of_all advert_at entries_at entry_at head_at deposit_at
    secret_at fee_at choice_with branches_at branch_at parts_at auth_at after_at put_at reveal_at split_at reveals_at puts_at
    put_reveals_at headed_at one_branch_at condition_at names_from test_at comparison_at formula_at constant_at length_at withdraw_at
    digits label_text stripped marked compact places_list sequences_list outputs_list preimage position_script many wide_at compact_at
    string_at input_at inputs_at output_at outputs_at witness_at witnesses_at plain_at marked_at transaction_at all_at script_meaning
    ops_of number_of_item signed_bytes item_of_number play_text
secret_is_revealed = refl

abbrev lottery_is_played_run : List ℕ
lottery_is_played_run =
    lines (
    codes "party A" ∷
    codes "party B" ∷
    codes "honest A" ∷
    codes "honest B" ∷
    codes "secret A a 00112233445566778899aabbccddeeff" ∷
    codes "secret B b 00112233445566778899aabbccddeeff00" ∷
    codes "deposit A 3" ∷
    codes "deposit B 3" ∷
    codes "--" ∷
    codes "advertise 0 x=#0 y=#1" ∷
    codes "commit 0 A" ∷
    codes "commit 0 B" ∷
    codes "endorse 0 A" ∷
    codes "endorse 0 B" ∷
    codes "init 0 A" ∷
    codes "init 0 B" ∷
    codes "fire init 0" ∷
    codes "fire #2 0" ∷
    codes "reveal 0 A a" ∷
    codes "reveal 0 B b" ∷
    codes "fire #3 0" ∷
    codes "fire #4 0" ∷
    codes "fire #5 0" ∷
    codes "fire #5 1" ∷
    codes "fire #6 0" ∷
    codes "fire #7 0" ∷
    codes "fire #8 0" ∷
    [])

abbrev lottery_bitml : List ℕ
lottery_bitml =
    (codes "{A:! 3 @ x | B:! 3 @ y | A: secret a | B: secret b} split [2 -> (reveal b if |b| < 2 . withdraw B + after 10" ++
    codes "00 : withdraw A), 2 -> (reveal a . withdraw A + after 1000 : withdraw B), 2 -> (reveal a, b if |a| = |b| . w" ++
    codes "ithdraw A + reveal a, b if not |a| = |b| . withdraw B)]")

abbrev lottery_is_played_text : List ℕ
lottery_is_played_text =
    lines (
    codes "start #0 A 3" ∷
    codes "start #1 B 3" ∷
    codes "event 1 advertise 0 x=#0 y=#1" ∷
    codes "done" ∷
    codes "step advertise 0 x=#0 y=#1" ∷
    codes "event 2 commit 0 A" ∷
    codes "done" ∷
    codes "step commit 0 A a=0" ∷
    codes "event 3 commit 0 B" ∷
    codes "done" ∷
    codes "step commit 0 B b=1" ∷
    codes "event 4 endorse 0 A" ∷
    codes "done" ∷
    codes "event 5 endorse 0 B" ∷
    codes "done" ∷
    codes "event 6 init 0 A" ∷
    codes "done" ∷
    codes "step authinit 0 A x" ∷
    codes "event 7 init 0 B" ∷
    codes "done" ∷
    codes "step authinit 0 B y" ∷
    codes "event 8 fire init 0" ∷
    codes "accepted spends #0 #1 makes #2 6 lock 0" ∷
    codes "step init 0 -> #2" ∷
    codes "event 9 fire #2 0" ∷
    codes "accepted spends #2 makes #3 2 #4 2 #5 2 lock 0" ∷
    codes "step split #2 0 -> #3 #4 #5" ∷
    codes "event 10 reveal 0 A a" ∷
    codes "done" ∷
    codes "step reveal 0 A a" ∷
    codes "event 11 reveal 0 B b" ∷
    codes "done" ∷
    codes "step reveal 0 B b" ∷
    codes "event 12 fire #3 0" ∷
    codes "accepted spends #3 makes #6 2 lock 0" ∷
    codes "step putreveal #3 0 -> #6" ∷
    codes "event 13 fire #4 0" ∷
    codes "accepted spends #4 makes #7 2 lock 0" ∷
    codes "step putreveal #4 0 -> #7" ∷
    codes "event 14 fire #5 0" ∷
    codes "refused ScriptFalse 0" ∷
    codes "event 15 fire #5 1" ∷
    codes "accepted spends #5 makes #8 2 lock 0" ∷
    codes "step putreveal #5 1 -> #8" ∷
    codes "event 16 fire #6 0" ∷
    codes "accepted spends #6 makes #9 2 lock 0" ∷
    codes "step withdraw #6 0 -> #9" ∷
    codes "event 17 fire #7 0" ∷
    codes "accepted spends #7 makes #10 2 lock 0" ∷
    codes "step withdraw #7 0 -> #10" ∷
    codes "event 18 fire #8 0" ∷
    codes "accepted spends #8 makes #11 2 lock 0" ∷
    codes "step withdraw #8 0 -> #11" ∷
    codes "end" ∷
    codes "tip 0" ∷
    codes "live #9 2" ∷
    codes "live #10 2" ∷
    codes "live #11 2" ∷
    codes "time 0" ∷
    codes "deposit #9 B 2" ∷
    codes "deposit #10 A 2" ∷
    codes "deposit #11 B 2" ∷
    codes "secret 0 A a 0 revealed" ∷
    codes "secret 0 B b 1 revealed" ∷
    [])

lottery_is_played :
    replies small_hash (codes "play" ∷ codes "lottery_is_played.run" ∷ codes "lottery.bitml" ∷ [])
    ((codes "lottery_is_played.run", lottery_is_played_run) ∷ (codes "lottery.bitml", lottery_bitml) ∷ [])
    ≡ prints 0 lottery_is_played_text
unfolding is_name word_prefix number_prefix symbol_prefix read_answer advert_of_all advert_at entries_at entry_at head_at deposit_at
    secret_at fee_at choice_with branches_at branch_at parts_at auth_at after_at put_at reveal_at split_at reveals_at puts_at
    put_reveals_at headed_at one_branch_at condition_at names_from test_at comparison_at formula_at constant_at length_at withdraw_at
    digits label_text stripped marked compact places_list sequences_list outputs_list preimage position_script many wide_at compact_at
    string_at input_at inputs_at output_at outputs_at witness_at witnesses_at plain_at marked_at transaction_at all_at script_meaning
    ops_of number_of_item signed_bytes item_of_number play_text
lottery_is_played = refl
