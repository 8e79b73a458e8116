-- Transactions of a contract that somebody builds by hand, played.
use Rattle.std.proofs.Common.{◌≡◌, ℕ, List, [], ◌∷◌, ◌++◌, refl}
use Rattle.std.specs.Prelude.{codes}
use Rattle.std.specs.Fmt.{digits}
use Rattle.spec_terms.specs.Readable.{is_name}
use Rattle.spec_bitcoin.specs.Keys.{label_text}
use Rattle.spec_bitcoin.specs.Digests.{places_list, sequences_list, outputs_list, preimage}
use Rattle.spec_bitcoin.specs.Spelling.{stripped, marked, compact}
use Rattle.spec_bitcoin.specs.Reading.{many, wide_at, compact_at, string_at, input_at, inputs_at, output_at, outputs_at, witness_at}
use Rattle.spec_bitcoin.specs.Reading.{witnesses_at, plain_at, marked_at, transaction_at, all_at}
use Rattle.spec_bitcoin.specs.Meaning.{script_meaning}
use Rattle.spec_bitcoin.specs.Numbers.{number_of_item, signed_bytes, item_of_number}
use Rattle.spec_bitcoin.specs.Scripts.{ops_of}
use Rattle.spec_compiler.specs.Keyed.Instance.{position_script}
use Rattle.spec_text.specs.Lexis.{word_prefix, number_prefix, symbol_prefix}
use Rattle.spec_text.specs.ReadAdvert.{read_answer, advert_of_all, advert_at, entries_at, entry_at, head_at, deposit_at, secret_at, fee_at}
use Rattle.spec_text.specs.ReadContract.{withdraw_at, condition_at, reveals_at, puts_at, put_reveals_at, headed_at, one_branch_at}
use Rattle.spec_text.specs.ReadContract.{branches_at, choice_with, parts_at, auth_at, after_at, put_at, reveal_at, split_at, branch_at}
use Rattle.spec_text.specs.ReadTest.{constant_at, length_at, formula_at, comparison_at, test_at}
use Rattle.spec_text.specs.Reading.{names_from}
use Rattle.spec_text.specs.Played.{play_text}
use Rattle.spec_tool.specs.Commands.{prints}
use Rattle.theory_values.specs.Replies.{lines, replies, sha_of}

abbrev built_transaction_by_hand_hashes : List (ℕ × ℕ)
built_transaction_by_hand_hashes =
    (6263475112473494384, 0x7229f4752ae1ba4b759ef76952f0c8df40d1a396a4c7936375d78e0e20f9f953) ∷
    (17481214125729887496, 0x8b59d7e9c1c4fb6e164fbef0d3410718f12ae139cc38f193e2a0b18f8f37ce2d) ∷
    (6263475112473494385, 0xb9cde99529182b30119af392795ab7f0af17ca357a96a2518587545debaea120) ∷
    (3849898363207402157, 0xdea928c30c3398fe40b726c00661d4b3d3f288ff2ab0f31acd42cec04c2370eb) ∷
    (1881038146745535331, 0x8762b05314649e1f457e211929cb27a930c56e45192c8b5602d0997806eb3aab) ∷
    (17494544306395192129, 0xbf78527835c31ad6ef5a8995791a7014ee6eaf71eec8f422a0b8b06d371953a0) ∷
    (17037915857484479048, 0xa8faed6abbf35c12a4b26e40f6feb19d736d90045c83b9f9a31f638d323e6811) ∷
    (5573038168341886136, 0xc3048eb8a63ed41ea7b9fd55fb07a87736e61f4190c6603e48bd46951789fdb8) ∷
    (5573038168341886137, 0x35fc277c05597b9d5b667c63c706ba589607a00daa433e8e5192b5da5be35aed) ∷
    (13093935892652221089, 0xf7e80ccb7d54c4bdea466097bdf5ae0514a4d484095f28f5fdcf21607365e6c0) ∷
    (13093935892652221090, 0x6cb28c3fb4019e0b14b7f21fbddabd99301bf8e04955429d90eadc7b113aae30) ∷
    (5426021975540570408, 0xb56bbb2d4a77ebef8e3d0644fb48947ec07b2b2ef92057ae62cc5edd44a0f4f4) ∷
    (5426021975540570409, 0x2b7f337ae184820e74399095380ee2176e63fa49d65dd28edc0152463464276b) ∷
    (10774032180729049405, 0xef1ef44ba56f1dd8706e717b2f292ad34e6926e1cb27c452b45d256f1ce4b8d4) ∷
    (7852205412969748855, 0xd8286be54cd05ffb248e15299f9034e5fccbd933c4cf1e65d75a2b750c4445ed) ∷
    (2035364925140459882, 0x1d627ea6cd3c90bd7fa3e6078f39e62dadd7192490a43a5ea3ba06cc89757879) ∷
    (3958369157869030299, 0x6e3d3fbae024fb2eff9fefb40599567a7ae130e402a4c88790637835e0463656) ∷
    (12783523789036180418, 0xf356ec553d7ef56bedf62f3fec5277df1a8c659a5a88d837b26ed23496aa527b) ∷
    (14376305522832806550, 0xd68892270a4358c723fefd6c3df811000689d276a7b15205c65037a41a989cce) ∷
    (16135954257557145446, 0xc992651ac89a97aecd0811c1761915a8e2c8f5153d1bdd994a789e6bd86ab717) ∷
    (12164856700598922693, 0x4be84bb5fae1be5dd0114f3d7178b0250012ad433e39c5173fe5ea3e6e071ddb) ∷
    (16154298279012345322, 0x98978243bc9cabd94bb2461f7a2e796740ba68723c8b5227bd3902719f034b0a) ∷
    (13616911770291946672, 0xffc9ee37466edd3d93d2b2307aba681f31bf0dd1da77ddb9a81372fea496d1ae) ∷
    (4176279068845314306, 0x22af4b2f6f994e2fb25f158d45d00d526c556fa6a87b1ee15762cbf75d4b8548) ∷
    (947035014976057371, 0xfb9b9b0779ef03560d44f1eabc6fdddae4b3f65d58d6aa69aaecae6a8d07fd03) ∷
    (3756442854723913072, 0x2f36198b035ba842148bd09c58c902fa78a1fe76c89b3dc7f9a96bd78987c2bb) ∷
    (1305186188083108804, 0x076da2f9f647fbcb9903a88f8af5241446df8d2046fafa1ed165dd92c637ac27) ∷
    (9507370279712765663, 0x7a194df53e166763f70dfc319e0e8a62d4df3ca11342480190314fd997f0d521) ∷
    (10517929772682031156, 0x9fe0079099358ff370d62cf537747fb28130f83a1ac531dc23860ddaac57a56e) ∷
    (8206543930330840474, 0x7c74a1f6d48698c33d902e8bf2f91f5b926f0e679ccc59f6394f5fa4124f1d36) ∷
    (11911631449119430591, 0x9a9967cb8babfc998aa16002e1a7b97ae5a3007725880f604ad19628a6170ab5) ∷
    (5040092498882930355, 0xb4248c210a2905b94345e1a8414d0e12efcfb2f4f0f2397159a71283397a0ccd) ∷
    (204552439812090982, 0x18606b350cd8bf565266bc352f0caddcf01e8fa789dd8a15386327cf8cabe198) ∷
    (10717107888865064393, 0xb6b1f32a85c185d9e435072240be9dd38c81691eaa07ee72621c7013a0e1e844) ∷
    (14975464254959500475, 0xdaae92049e3ef071d6f59a008df46c690213b955ae148bc637a841e05178a884) ∷
    (17294031593152945983, 0xd7e088d209955c24c30f6314db36ee7598397fc737d8c2fb72f0e5288d1a0417) ∷
    (5624142601318637548, 0x70cda67cd71dd20a123d991f93607be650fd94b275c88e6dd358d04171834e03) ∷
    (7093821950847522796, 0x2c9c5b4094cec2eb5fad1da4b51f4f645a478ff636af4924ffbfe93526a0342d) ∷
    (7368703218764841461, 0xb32b648bd59bf7b633774c4d8a0f8e46d3d5c0050d40a7ecaad84d8850244156) ∷
    (217596255074483070, 0x6fc5703cc0dc92a392db8df1d5fc6183811e523a280d5d701e4c2cc97e84d32a) ∷
    (273013978009573800, 0xace24e7b9d10832cdcd75d4ca6485b451bec23241bb6a702ec2a298bc4b57c9b) ∷
    (15292662054492276978, 0xbb046fc2f1874bdc0e3035ca85a47d5e7d596a43c1790558d2678cd22fcd0470) ∷
    (5546202068078806565, 0xbea2e0fda373d44cff12f2d780597580cc3cf3a28126fd6349d03649d1e7cd18) ∷
    (3443006996408259851, 0x2201669bf92d5647ea4e900a83334b3d80413d95591a6703c20fad2bc812b759) ∷
    (10318328977828710050, 0x3e1b47fe5b33ffc1c97bcffaf2d26e97497d5af647e09a1b5104aea9595b5acf) ∷
    (1074625867288846903, 0xdd08640c56d2cf45eb1f25d5dcfdbcacd4fde9ae940db342995ea47e8ff13e93) ∷
    (2788454896740942806, 0x47e94fd188359c92eb60003409fabb1523b4140a2155274c84e09ec11d33d3b1) ∷
    (3506861022763790094, 0x60dfbf31f56817680f1309fa61aca9fc21d061804340a1dc22feb2d251ac91d0) ∷
    (17870826997635207490, 0xb1864b2ef25b63c72012608d8c1dd9cb5c0fbe97befbac88e1eedd92b4e87b95) ∷
    (7799690822364769815, 0x6b5f8f64226966a8e8458c5022d6fe37a485b5ff629a0abbc0fbd1308ccf071d) ∷
    (10836098106098401585, 0xbdb2ca62e39765d8c40dc16298fb7217aa7bf653d33c6aba0f91480a6049ed76) ∷
    (13258237537692717838, 0x9a6ddf028c35a83ee1350335ffda6989b89bb0a43d9e3b3cd7ef94cc2eb07d31) ∷
    (16432700266894311752, 0x98df5faa7185603f03294d0c8f3cf368fdc91fb8ef83dee5b0f965d5cf9d7950) ∷
    (6167736692849428676, 0x07e466786def6716fde00bfe820db51de1d9489a9c5612e063f481d3ec1aca1d) ∷
    (429692059136240, 0x39fc68c250203742515bfe69fd87366176aaf45bffeb247ddc21449083855253) ∷
    []

abbrev built_transaction_by_hand_run : List ℕ
built_transaction_by_hand_run =
    lines (
    codes "party A" ∷
    codes "party B" ∷
    codes "honest A" ∷
    codes "secret A a 00112233445566778899aabbccddeeff" ∷
    codes "deposit A 100000000" ∷
    codes "deposit B 0" ∷
    codes "--" ∷
    codes "advertise 0 x=#0 y=#1" ∷
    codes "commit 0 A" ∷
    codes "commit 0 B" ∷
    codes "endorse 0 A" ∷
    codes "endorse 0 B" ∷
    codes "init 0 A" ∷
    codes "init 0 B" ∷
    codes "fire init 0" ∷
    codes "mine 999" ∷
    codes "fire #2 1" ∷
    codes "mine 1" ∷
    (codes "append 020000000001011d627ea6cd3c90bd7fa3e6078f39e62dadd7192490a43a5ea3ba06cc897578790000000000feffffff0100e" ++
    codes "1f50500000000220020dea928c30c3398fe40b726c00661d4b3d3f288ff2ab0f31acd42cec04c2370eb0442026cb28c3fb4019e0b14b" ++
    codes "7f21fbddabd99301bf8e04955429d90eadc7b113aae30bdb2ca62e39765d8c40dc16298fb7217aa7bf653d33c6aba0f91480a6049ed7" ++
    codes "6014202f7e80ccb7d54c4bdea466097bdf5ae0514a4d484095f28f5fdcf21607365e6c0bdb2ca62e39765d8c40dc16298fb7217aa7bf" ++
    codes "653d33c6aba0f91480a6049ed760100bf63827660020902a5696ba820a8faed6abbf35c12a4b26e40f6feb19d736d90045c83b9f9a31" ++
    codes "f638d323e6811886c5169752102c3048eb8a63ed41ea7b9fd55fb07a87736e61f4190c6603e48bd46951789fdb8ad210235fc277c055" ++
    codes "97b9d5b667c63c706ba589607a00daa433e8e5192b5da5be35aedac672102f7e80ccb7d54c4bdea466097bdf5ae0514a4d484095f28f" ++
    codes "5fdcf21607365e6c0ad21026cb28c3fb4019e0b14b7f21fbddabd99301bf8e04955429d90eadc7b113aae30ac68e8030000") ∷
    [])

abbrev timed_commitment_bitml : List ℕ
timed_commitment_bitml =
    codes "{A:! 100000000 @ x | B:! 0 @ y | A: secret a} (reveal a . withdraw A + after 1000 : withdraw B)"

abbrev built_transaction_by_hand_text : List ℕ
built_transaction_by_hand_text =
    lines (
    codes "start #0 A 100000000" ∷
    codes "start #1 B 0" ∷
    codes "event 1 advertise 0 x=#0 y=#1" ∷
    codes "done" ∷
    codes "step advertise 0 x=#0 y=#1" ∷
    codes "event 2 commit 0 A" ∷
    codes "done" ∷
    codes "step commit 0 A a=0" ∷
    codes "event 3 commit 0 B" ∷
    codes "done" ∷
    codes "step commit 0 B" ∷
    codes "event 4 endorse 0 A" ∷
    codes "done" ∷
    codes "event 5 endorse 0 B" ∷
    codes "done" ∷
    codes "event 6 init 0 A" ∷
    codes "done" ∷
    codes "step authinit 0 A x" ∷
    codes "event 7 init 0 B" ∷
    codes "done" ∷
    codes "step authinit 0 B y" ∷
    codes "event 8 fire init 0" ∷
    codes "accepted spends #0 #1 makes #2 100000000 lock 0" ∷
    codes "step init 0 -> #2" ∷
    codes "event 9 mine 999" ∷
    codes "done" ∷
    codes "step delay 999" ∷
    codes "event 10 fire #2 1" ∷
    codes "refused NotFinal" ∷
    codes "event 11 mine 1" ∷
    codes "done" ∷
    codes "step delay 1" ∷
    (codes "event 12 append 020000000001011d627ea6cd3c90bd7fa3e6078f39e62dadd7192490a43a5ea3ba06cc897578790000000000feff" ++
    codes "ffff0100e1f50500000000220020dea928c30c3398fe40b726c00661d4b3d3f288ff2ab0f31acd42cec04c2370eb0442026cb28c3fb4" ++
    codes "019e0b14b7f21fbddabd99301bf8e04955429d90eadc7b113aae30bdb2ca62e39765d8c40dc16298fb7217aa7bf653d33c6aba0f9148" ++
    codes "0a6049ed76014202f7e80ccb7d54c4bdea466097bdf5ae0514a4d484095f28f5fdcf21607365e6c0bdb2ca62e39765d8c40dc16298fb" ++
    codes "7217aa7bf653d33c6aba0f91480a6049ed760100bf63827660020902a5696ba820a8faed6abbf35c12a4b26e40f6feb19d736d90045c" ++
    codes "83b9f9a31f638d323e6811886c5169752102c3048eb8a63ed41ea7b9fd55fb07a87736e61f4190c6603e48bd46951789fdb8ad210235" ++
    codes "fc277c05597b9d5b667c63c706ba589607a00daa433e8e5192b5da5be35aedac672102f7e80ccb7d54c4bdea466097bdf5ae0514a4d4" ++
    codes "84095f28f5fdcf21607365e6c0ad21026cb28c3fb4019e0b14b7f21fbddabd99301bf8e04955429d90eadc7b113aae30ac68e8030000") ∷
    codes "accepted spends #2 makes #3 100000000 lock 1000" ∷
    codes "step withdraw #2 1 -> #3" ∷
    codes "end" ∷
    codes "tip 1000" ∷
    codes "live #3 100000000" ∷
    codes "time 1000" ∷
    codes "deposit #3 B 100000000" ∷
    codes "secret 0 A a 0 hidden" ∷
    [])

built_transaction_by_hand :
    replies (sha_of built_transaction_by_hand_hashes) (codes "play" ∷ codes "built_transaction_by_hand.run"
    ∷ codes "timed_commitment.bitml" ∷ [])
    ((codes "built_transaction_by_hand.run", built_transaction_by_hand_run) ∷ (codes "timed_commitment.bitml", timed_commitment_bitml)
    ∷ [])
    ≡ prints 0 built_transaction_by_hand_text
unfolding is_name word_prefix number_prefix symbol_prefix read_answer advert_of_all advert_at entries_at entry_at head_at deposit_at
    secret_at fee_at choice_with branches_at branch_at parts_at auth_at after_at put_at reveal_at split_at reveals_at puts_at
    put_reveals_at headed_at one_branch_at condition_at names_from test_at comparison_at formula_at constant_at length_at withdraw_at
    digits label_text stripped marked compact places_list sequences_list outputs_list preimage position_script many wide_at compact_at
    string_at input_at inputs_at output_at outputs_at witness_at witnesses_at plain_at marked_at transaction_at all_at script_meaning
    ops_of number_of_item signed_bytes item_of_number play_text
built_transaction_by_hand = refl

abbrev further_item_hashes : List (ℕ × ℕ)
further_item_hashes =
    (6263475112473494384, 0x7229f4752ae1ba4b759ef76952f0c8df40d1a396a4c7936375d78e0e20f9f953) ∷
    (17481214125729887496, 0x8b59d7e9c1c4fb6e164fbef0d3410718f12ae139cc38f193e2a0b18f8f37ce2d) ∷
    (6263475112473494385, 0xb9cde99529182b30119af392795ab7f0af17ca357a96a2518587545debaea120) ∷
    (3849898363207402157, 0xdea928c30c3398fe40b726c00661d4b3d3f288ff2ab0f31acd42cec04c2370eb) ∷
    (1881038146745535331, 0x8762b05314649e1f457e211929cb27a930c56e45192c8b5602d0997806eb3aab) ∷
    (17494544306395192129, 0xbf78527835c31ad6ef5a8995791a7014ee6eaf71eec8f422a0b8b06d371953a0) ∷
    (17037915857484479048, 0xa8faed6abbf35c12a4b26e40f6feb19d736d90045c83b9f9a31f638d323e6811) ∷
    (5573038168341886136, 0xc3048eb8a63ed41ea7b9fd55fb07a87736e61f4190c6603e48bd46951789fdb8) ∷
    (5573038168341886137, 0x35fc277c05597b9d5b667c63c706ba589607a00daa433e8e5192b5da5be35aed) ∷
    (13093935892652221089, 0xf7e80ccb7d54c4bdea466097bdf5ae0514a4d484095f28f5fdcf21607365e6c0) ∷
    (13093935892652221090, 0x6cb28c3fb4019e0b14b7f21fbddabd99301bf8e04955429d90eadc7b113aae30) ∷
    (5426021975540570408, 0xb56bbb2d4a77ebef8e3d0644fb48947ec07b2b2ef92057ae62cc5edd44a0f4f4) ∷
    (5426021975540570409, 0x2b7f337ae184820e74399095380ee2176e63fa49d65dd28edc0152463464276b) ∷
    (10774032180729049405, 0xef1ef44ba56f1dd8706e717b2f292ad34e6926e1cb27c452b45d256f1ce4b8d4) ∷
    (7852205412969748855, 0xd8286be54cd05ffb248e15299f9034e5fccbd933c4cf1e65d75a2b750c4445ed) ∷
    (2035364925140459882, 0x1d627ea6cd3c90bd7fa3e6078f39e62dadd7192490a43a5ea3ba06cc89757879) ∷
    (3958369157869030299, 0x6e3d3fbae024fb2eff9fefb40599567a7ae130e402a4c88790637835e0463656) ∷
    (12783523789036180418, 0xf356ec553d7ef56bedf62f3fec5277df1a8c659a5a88d837b26ed23496aa527b) ∷
    (14376305522832806550, 0xd68892270a4358c723fefd6c3df811000689d276a7b15205c65037a41a989cce) ∷
    (16135954257557145446, 0xc992651ac89a97aecd0811c1761915a8e2c8f5153d1bdd994a789e6bd86ab717) ∷
    (12164856700598922693, 0x4be84bb5fae1be5dd0114f3d7178b0250012ad433e39c5173fe5ea3e6e071ddb) ∷
    (16154298279012345322, 0x98978243bc9cabd94bb2461f7a2e796740ba68723c8b5227bd3902719f034b0a) ∷
    (13616911770291946672, 0xffc9ee37466edd3d93d2b2307aba681f31bf0dd1da77ddb9a81372fea496d1ae) ∷
    (4176279068845314306, 0x22af4b2f6f994e2fb25f158d45d00d526c556fa6a87b1ee15762cbf75d4b8548) ∷
    (947035014976057371, 0xfb9b9b0779ef03560d44f1eabc6fdddae4b3f65d58d6aa69aaecae6a8d07fd03) ∷
    (3756442854723913072, 0x2f36198b035ba842148bd09c58c902fa78a1fe76c89b3dc7f9a96bd78987c2bb) ∷
    (1305186188083108804, 0x076da2f9f647fbcb9903a88f8af5241446df8d2046fafa1ed165dd92c637ac27) ∷
    (9507370279712765663, 0x7a194df53e166763f70dfc319e0e8a62d4df3ca11342480190314fd997f0d521) ∷
    (10517929772682031156, 0x9fe0079099358ff370d62cf537747fb28130f83a1ac531dc23860ddaac57a56e) ∷
    (8206543930330840474, 0x7c74a1f6d48698c33d902e8bf2f91f5b926f0e679ccc59f6394f5fa4124f1d36) ∷
    (11911631449119430591, 0x9a9967cb8babfc998aa16002e1a7b97ae5a3007725880f604ad19628a6170ab5) ∷
    (5040092498882930355, 0xb4248c210a2905b94345e1a8414d0e12efcfb2f4f0f2397159a71283397a0ccd) ∷
    (204552439812090982, 0x18606b350cd8bf565266bc352f0caddcf01e8fa789dd8a15386327cf8cabe198) ∷
    (10717107888865064393, 0xb6b1f32a85c185d9e435072240be9dd38c81691eaa07ee72621c7013a0e1e844) ∷
    (14975464254959500475, 0xdaae92049e3ef071d6f59a008df46c690213b955ae148bc637a841e05178a884) ∷
    (17294031593152945983, 0xd7e088d209955c24c30f6314db36ee7598397fc737d8c2fb72f0e5288d1a0417) ∷
    (5624142601318637548, 0x70cda67cd71dd20a123d991f93607be650fd94b275c88e6dd358d04171834e03) ∷
    (7093821950847522796, 0x2c9c5b4094cec2eb5fad1da4b51f4f645a478ff636af4924ffbfe93526a0342d) ∷
    (7368703218764841461, 0xb32b648bd59bf7b633774c4d8a0f8e46d3d5c0050d40a7ecaad84d8850244156) ∷
    (217596255074483070, 0x6fc5703cc0dc92a392db8df1d5fc6183811e523a280d5d701e4c2cc97e84d32a) ∷
    (273013978009573800, 0xace24e7b9d10832cdcd75d4ca6485b451bec23241bb6a702ec2a298bc4b57c9b) ∷
    (15292662054492276978, 0xbb046fc2f1874bdc0e3035ca85a47d5e7d596a43c1790558d2678cd22fcd0470) ∷
    (5546202068078806565, 0xbea2e0fda373d44cff12f2d780597580cc3cf3a28126fd6349d03649d1e7cd18) ∷
    (3443006996408259851, 0x2201669bf92d5647ea4e900a83334b3d80413d95591a6703c20fad2bc812b759) ∷
    (10318328977828710050, 0x3e1b47fe5b33ffc1c97bcffaf2d26e97497d5af647e09a1b5104aea9595b5acf) ∷
    (1074625867288846903, 0xdd08640c56d2cf45eb1f25d5dcfdbcacd4fde9ae940db342995ea47e8ff13e93) ∷
    (2788454896740942806, 0x47e94fd188359c92eb60003409fabb1523b4140a2155274c84e09ec11d33d3b1) ∷
    (3506861022763790094, 0x60dfbf31f56817680f1309fa61aca9fc21d061804340a1dc22feb2d251ac91d0) ∷
    (17870826997635207490, 0xb1864b2ef25b63c72012608d8c1dd9cb5c0fbe97befbac88e1eedd92b4e87b95) ∷
    (7799690822364769815, 0x6b5f8f64226966a8e8458c5022d6fe37a485b5ff629a0abbc0fbd1308ccf071d) ∷
    (10836098106098401585, 0xbdb2ca62e39765d8c40dc16298fb7217aa7bf653d33c6aba0f91480a6049ed76) ∷
    (6167736692849428676, 0x07e466786def6716fde00bfe820db51de1d9489a9c5612e063f481d3ec1aca1d) ∷
    (429692059136240, 0x39fc68c250203742515bfe69fd87366176aaf45bffeb247ddc21449083855253) ∷
    []

abbrev further_item_run : List ℕ
further_item_run =
    lines (
    codes "party A" ∷
    codes "party B" ∷
    codes "honest A" ∷
    codes "secret A a 00112233445566778899aabbccddeeff" ∷
    codes "deposit A 100000000" ∷
    codes "deposit B 0" ∷
    codes "--" ∷
    codes "advertise 0 x=#0 y=#1" ∷
    codes "commit 0 A" ∷
    codes "commit 0 B" ∷
    codes "endorse 0 A" ∷
    codes "endorse 0 B" ∷
    codes "init 0 A" ∷
    codes "init 0 B" ∷
    codes "fire init 0" ∷
    codes "mine 999" ∷
    codes "fire #2 1" ∷
    codes "mine 1" ∷
    (codes "append 020000000001011d627ea6cd3c90bd7fa3e6078f39e62dadd7192490a43a5ea3ba06cc897578790000000000feffffff0100e" ++
    codes "1f50500000000220020dea928c30c3398fe40b726c00661d4b3d3f288ff2ab0f31acd42cec04c2370eb050042026cb28c3fb4019e0b1" ++
    codes "4b7f21fbddabd99301bf8e04955429d90eadc7b113aae30bdb2ca62e39765d8c40dc16298fb7217aa7bf653d33c6aba0f91480a6049e" ++
    codes "d76014202f7e80ccb7d54c4bdea466097bdf5ae0514a4d484095f28f5fdcf21607365e6c0bdb2ca62e39765d8c40dc16298fb7217aa7" ++
    codes "bf653d33c6aba0f91480a6049ed760100bf63827660020902a5696ba820a8faed6abbf35c12a4b26e40f6feb19d736d90045c83b9f9a" ++
    codes "31f638d323e6811886c5169752102c3048eb8a63ed41ea7b9fd55fb07a87736e61f4190c6603e48bd46951789fdb8ad210235fc277c0" ++
    codes "5597b9d5b667c63c706ba589607a00daa433e8e5192b5da5be35aedac672102f7e80ccb7d54c4bdea466097bdf5ae0514a4d484095f2" ++
    codes "8f5fdcf21607365e6c0ad21026cb28c3fb4019e0b14b7f21fbddabd99301bf8e04955429d90eadc7b113aae30ac68e8030000") ∷
    [])

abbrev further_item_text : List ℕ
further_item_text =
    lines (
    codes "start #0 A 100000000" ∷
    codes "start #1 B 0" ∷
    codes "event 1 advertise 0 x=#0 y=#1" ∷
    codes "done" ∷
    codes "step advertise 0 x=#0 y=#1" ∷
    codes "event 2 commit 0 A" ∷
    codes "done" ∷
    codes "step commit 0 A a=0" ∷
    codes "event 3 commit 0 B" ∷
    codes "done" ∷
    codes "step commit 0 B" ∷
    codes "event 4 endorse 0 A" ∷
    codes "done" ∷
    codes "event 5 endorse 0 B" ∷
    codes "done" ∷
    codes "event 6 init 0 A" ∷
    codes "done" ∷
    codes "step authinit 0 A x" ∷
    codes "event 7 init 0 B" ∷
    codes "done" ∷
    codes "step authinit 0 B y" ∷
    codes "event 8 fire init 0" ∷
    codes "accepted spends #0 #1 makes #2 100000000 lock 0" ∷
    codes "step init 0 -> #2" ∷
    codes "event 9 mine 999" ∷
    codes "done" ∷
    codes "step delay 999" ∷
    codes "event 10 fire #2 1" ∷
    codes "refused NotFinal" ∷
    codes "event 11 mine 1" ∷
    codes "done" ∷
    codes "step delay 1" ∷
    (codes "event 12 append 020000000001011d627ea6cd3c90bd7fa3e6078f39e62dadd7192490a43a5ea3ba06cc897578790000000000feff" ++
    codes "ffff0100e1f50500000000220020dea928c30c3398fe40b726c00661d4b3d3f288ff2ab0f31acd42cec04c2370eb050042026cb28c3f" ++
    codes "b4019e0b14b7f21fbddabd99301bf8e04955429d90eadc7b113aae30bdb2ca62e39765d8c40dc16298fb7217aa7bf653d33c6aba0f91" ++
    codes "480a6049ed76014202f7e80ccb7d54c4bdea466097bdf5ae0514a4d484095f28f5fdcf21607365e6c0bdb2ca62e39765d8c40dc16298" ++
    codes "fb7217aa7bf653d33c6aba0f91480a6049ed760100bf63827660020902a5696ba820a8faed6abbf35c12a4b26e40f6feb19d736d9004" ++
    codes "5c83b9f9a31f638d323e6811886c5169752102c3048eb8a63ed41ea7b9fd55fb07a87736e61f4190c6603e48bd46951789fdb8ad2102" ++
    codes "35fc277c05597b9d5b667c63c706ba589607a00daa433e8e5192b5da5be35aedac672102f7e80ccb7d54c4bdea466097bdf5ae0514a4" ++
    codes "d484095f28f5fdcf21607365e6c0ad21026cb28c3fb4019e0b14b7f21fbddabd99301bf8e04955429d90eadc7b113aae30ac68e80300" ++
    codes "00") ∷
    codes "refused ScriptFalse 0" ∷
    codes "end" ∷
    codes "tip 1000" ∷
    codes "live #2 100000000" ∷
    codes "time 1000" ∷
    codes "contract #2 0 r 100000000" ∷
    codes "secret 0 A a 0 hidden" ∷
    codes "offer fire #2 1" ∷
    [])

further_item :
    replies (sha_of further_item_hashes) (codes "play" ∷ codes "further_item.run" ∷ codes "timed_commitment.bitml" ∷ [])
    ((codes "further_item.run", further_item_run) ∷ (codes "timed_commitment.bitml", timed_commitment_bitml) ∷ [])
    ≡ prints 0 further_item_text
unfolding is_name word_prefix number_prefix symbol_prefix read_answer advert_of_all advert_at entries_at entry_at head_at deposit_at
    secret_at fee_at choice_with branches_at branch_at parts_at auth_at after_at put_at reveal_at split_at reveals_at puts_at
    put_reveals_at headed_at one_branch_at condition_at names_from test_at comparison_at formula_at constant_at length_at withdraw_at
    digits label_text stripped marked compact places_list sequences_list outputs_list preimage position_script many wide_at compact_at
    string_at input_at inputs_at output_at outputs_at witness_at witnesses_at plain_at marked_at transaction_at all_at script_meaning
    ops_of number_of_item signed_bytes item_of_number play_text
further_item = refl

abbrev pair_of_another_is_missing_hashes : List (ℕ × ℕ)
pair_of_another_is_missing_hashes =
    (6263475112473494384, 0x7229f4752ae1ba4b759ef76952f0c8df40d1a396a4c7936375d78e0e20f9f953) ∷
    (17481214125729887496, 0x8b59d7e9c1c4fb6e164fbef0d3410718f12ae139cc38f193e2a0b18f8f37ce2d) ∷
    (6263475112473494385, 0xb9cde99529182b30119af392795ab7f0af17ca357a96a2518587545debaea120) ∷
    (3849898363207402157, 0xdea928c30c3398fe40b726c00661d4b3d3f288ff2ab0f31acd42cec04c2370eb) ∷
    (1881038146745535331, 0x8762b05314649e1f457e211929cb27a930c56e45192c8b5602d0997806eb3aab) ∷
    (17494544306395192129, 0xbf78527835c31ad6ef5a8995791a7014ee6eaf71eec8f422a0b8b06d371953a0) ∷
    (17037915857484479048, 0xa8faed6abbf35c12a4b26e40f6feb19d736d90045c83b9f9a31f638d323e6811) ∷
    (5573038168341886136, 0xc3048eb8a63ed41ea7b9fd55fb07a87736e61f4190c6603e48bd46951789fdb8) ∷
    (5573038168341886137, 0x35fc277c05597b9d5b667c63c706ba589607a00daa433e8e5192b5da5be35aed) ∷
    (13093935892652221089, 0xf7e80ccb7d54c4bdea466097bdf5ae0514a4d484095f28f5fdcf21607365e6c0) ∷
    (13093935892652221090, 0x6cb28c3fb4019e0b14b7f21fbddabd99301bf8e04955429d90eadc7b113aae30) ∷
    (5426021975540570408, 0xb56bbb2d4a77ebef8e3d0644fb48947ec07b2b2ef92057ae62cc5edd44a0f4f4) ∷
    (5426021975540570409, 0x2b7f337ae184820e74399095380ee2176e63fa49d65dd28edc0152463464276b) ∷
    (10774032180729049405, 0xef1ef44ba56f1dd8706e717b2f292ad34e6926e1cb27c452b45d256f1ce4b8d4) ∷
    (7852205412969748855, 0xd8286be54cd05ffb248e15299f9034e5fccbd933c4cf1e65d75a2b750c4445ed) ∷
    (2035364925140459882, 0x1d627ea6cd3c90bd7fa3e6078f39e62dadd7192490a43a5ea3ba06cc89757879) ∷
    (3958369157869030299, 0x6e3d3fbae024fb2eff9fefb40599567a7ae130e402a4c88790637835e0463656) ∷
    (12783523789036180418, 0xf356ec553d7ef56bedf62f3fec5277df1a8c659a5a88d837b26ed23496aa527b) ∷
    (14376305522832806550, 0xd68892270a4358c723fefd6c3df811000689d276a7b15205c65037a41a989cce) ∷
    (16135954257557145446, 0xc992651ac89a97aecd0811c1761915a8e2c8f5153d1bdd994a789e6bd86ab717) ∷
    (12164856700598922693, 0x4be84bb5fae1be5dd0114f3d7178b0250012ad433e39c5173fe5ea3e6e071ddb) ∷
    (16154298279012345322, 0x98978243bc9cabd94bb2461f7a2e796740ba68723c8b5227bd3902719f034b0a) ∷
    (13616911770291946672, 0xffc9ee37466edd3d93d2b2307aba681f31bf0dd1da77ddb9a81372fea496d1ae) ∷
    (4176279068845314306, 0x22af4b2f6f994e2fb25f158d45d00d526c556fa6a87b1ee15762cbf75d4b8548) ∷
    (947035014976057371, 0xfb9b9b0779ef03560d44f1eabc6fdddae4b3f65d58d6aa69aaecae6a8d07fd03) ∷
    (3756442854723913072, 0x2f36198b035ba842148bd09c58c902fa78a1fe76c89b3dc7f9a96bd78987c2bb) ∷
    (1305186188083108804, 0x076da2f9f647fbcb9903a88f8af5241446df8d2046fafa1ed165dd92c637ac27) ∷
    (9507370279712765663, 0x7a194df53e166763f70dfc319e0e8a62d4df3ca11342480190314fd997f0d521) ∷
    (10517929772682031156, 0x9fe0079099358ff370d62cf537747fb28130f83a1ac531dc23860ddaac57a56e) ∷
    (8206543930330840474, 0x7c74a1f6d48698c33d902e8bf2f91f5b926f0e679ccc59f6394f5fa4124f1d36) ∷
    (11911631449119430591, 0x9a9967cb8babfc998aa16002e1a7b97ae5a3007725880f604ad19628a6170ab5) ∷
    (5040092498882930355, 0xb4248c210a2905b94345e1a8414d0e12efcfb2f4f0f2397159a71283397a0ccd) ∷
    (204552439812090982, 0x18606b350cd8bf565266bc352f0caddcf01e8fa789dd8a15386327cf8cabe198) ∷
    (10717107888865064393, 0xb6b1f32a85c185d9e435072240be9dd38c81691eaa07ee72621c7013a0e1e844) ∷
    (14975464254959500475, 0xdaae92049e3ef071d6f59a008df46c690213b955ae148bc637a841e05178a884) ∷
    (17294031593152945983, 0xd7e088d209955c24c30f6314db36ee7598397fc737d8c2fb72f0e5288d1a0417) ∷
    (5624142601318637548, 0x70cda67cd71dd20a123d991f93607be650fd94b275c88e6dd358d04171834e03) ∷
    (7093821950847522796, 0x2c9c5b4094cec2eb5fad1da4b51f4f645a478ff636af4924ffbfe93526a0342d) ∷
    (7368703218764841461, 0xb32b648bd59bf7b633774c4d8a0f8e46d3d5c0050d40a7ecaad84d8850244156) ∷
    (217596255074483070, 0x6fc5703cc0dc92a392db8df1d5fc6183811e523a280d5d701e4c2cc97e84d32a) ∷
    (273013978009573800, 0xace24e7b9d10832cdcd75d4ca6485b451bec23241bb6a702ec2a298bc4b57c9b) ∷
    (15292662054492276978, 0xbb046fc2f1874bdc0e3035ca85a47d5e7d596a43c1790558d2678cd22fcd0470) ∷
    (5546202068078806565, 0xbea2e0fda373d44cff12f2d780597580cc3cf3a28126fd6349d03649d1e7cd18) ∷
    (3443006996408259851, 0x2201669bf92d5647ea4e900a83334b3d80413d95591a6703c20fad2bc812b759) ∷
    (10318328977828710050, 0x3e1b47fe5b33ffc1c97bcffaf2d26e97497d5af647e09a1b5104aea9595b5acf) ∷
    (1074625867288846903, 0xdd08640c56d2cf45eb1f25d5dcfdbcacd4fde9ae940db342995ea47e8ff13e93) ∷
    (2788454896740942806, 0x47e94fd188359c92eb60003409fabb1523b4140a2155274c84e09ec11d33d3b1) ∷
    (3506861022763790094, 0x60dfbf31f56817680f1309fa61aca9fc21d061804340a1dc22feb2d251ac91d0) ∷
    (17870826997635207490, 0xb1864b2ef25b63c72012608d8c1dd9cb5c0fbe97befbac88e1eedd92b4e87b95) ∷
    (7799690822364769815, 0x6b5f8f64226966a8e8458c5022d6fe37a485b5ff629a0abbc0fbd1308ccf071d) ∷
    (10836098106098401585, 0xbdb2ca62e39765d8c40dc16298fb7217aa7bf653d33c6aba0f91480a6049ed76) ∷
    (5833967892796559272, 0xad95131bc0b799c0b1af477fb14fcf26a6a9f76079e48bf090acb7e8367bfd0e) ∷
    (16265357665784359392, 0x3bb13029ce7b1f559ef5e747fcac439f1455a2ec7c5f09b72290795e70665044) ∷
    (10432030479568660478, 0xfdee9015392f8aec587ffcfa1dd441b61184e704cf73622c859b0c76ae353fec) ∷
    (15618319934028363015, 0x11d6513e449a2970b063a1bbc4c894fb0c10fecaa951a644d8b56aa73615742b) ∷
    (6167736692849428676, 0x07e466786def6716fde00bfe820db51de1d9489a9c5612e063f481d3ec1aca1d) ∷
    (429692059136240, 0x39fc68c250203742515bfe69fd87366176aaf45bffeb247ddc21449083855253) ∷
    []

abbrev pair_of_another_is_missing_run : List ℕ
pair_of_another_is_missing_run =
    lines (
    codes "party A" ∷
    codes "party B" ∷
    codes "honest A" ∷
    codes "secret A a 00112233445566778899aabbccddeeff" ∷
    codes "deposit A 100000000" ∷
    codes "deposit B 0" ∷
    codes "--" ∷
    codes "advertise 0 x=#0 y=#1" ∷
    codes "commit 0 A" ∷
    codes "commit 0 B" ∷
    codes "endorse 0 A" ∷
    codes "endorse 0 B" ∷
    codes "init 0 A" ∷
    codes "init 0 B" ∷
    codes "fire init 0" ∷
    codes "sign B B:0:r.1:B 11d6513e449a2970b063a1bbc4c894fb0c10fecaa951a644d8b56aa73615742b" ∷
    (codes "append 020000000001011d627ea6cd3c90bd7fa3e6078f39e62dadd7192490a43a5ea3ba06cc897578790000000000ffffffff0100e" ++
    codes "1f50500000000220020dea928c30c3398fe40b726c00661d4b3d3f288ff2ab0f31acd42cec04c2370eb0442026cb28c3fb4019e0b14b" ++
    codes "7f21fbddabd99301bf8e04955429d90eadc7b113aae3011d6513e449a2970b063a1bbc4c894fb0c10fecaa951a644d8b56aa73615742" ++
    codes "b014202f7e80ccb7d54c4bdea466097bdf5ae0514a4d484095f28f5fdcf21607365e6c011d6513e449a2970b063a1bbc4c894fb0c10f" ++
    codes "ecaa951a644d8b56aa73615742b0100bf63827660020902a5696ba820a8faed6abbf35c12a4b26e40f6feb19d736d90045c83b9f9a31" ++
    codes "f638d323e6811886c5169752102c3048eb8a63ed41ea7b9fd55fb07a87736e61f4190c6603e48bd46951789fdb8ad210235fc277c055" ++
    codes "97b9d5b667c63c706ba589607a00daa433e8e5192b5da5be35aedac672102f7e80ccb7d54c4bdea466097bdf5ae0514a4d484095f28f" ++
    codes "5fdcf21607365e6c0ad21026cb28c3fb4019e0b14b7f21fbddabd99301bf8e04955429d90eadc7b113aae30ac68e8030000") ∷
    [])

abbrev pair_of_another_is_missing_text : List ℕ
pair_of_another_is_missing_text =
    lines (
    codes "start #0 A 100000000" ∷
    codes "start #1 B 0" ∷
    codes "event 1 advertise 0 x=#0 y=#1" ∷
    codes "done" ∷
    codes "step advertise 0 x=#0 y=#1" ∷
    codes "event 2 commit 0 A" ∷
    codes "done" ∷
    codes "step commit 0 A a=0" ∷
    codes "event 3 commit 0 B" ∷
    codes "done" ∷
    codes "step commit 0 B" ∷
    codes "event 4 endorse 0 A" ∷
    codes "done" ∷
    codes "event 5 endorse 0 B" ∷
    codes "done" ∷
    codes "event 6 init 0 A" ∷
    codes "done" ∷
    codes "step authinit 0 A x" ∷
    codes "event 7 init 0 B" ∷
    codes "done" ∷
    codes "step authinit 0 B y" ∷
    codes "event 8 fire init 0" ∷
    codes "accepted spends #0 #1 makes #2 100000000 lock 0" ∷
    codes "step init 0 -> #2" ∷
    codes "event 9 sign B B:0:r.1:B 11d6513e449a2970b063a1bbc4c894fb0c10fecaa951a644d8b56aa73615742b" ∷
    codes "done" ∷
    (codes "event 10 append 020000000001011d627ea6cd3c90bd7fa3e6078f39e62dadd7192490a43a5ea3ba06cc897578790000000000ffff" ++
    codes "ffff0100e1f50500000000220020dea928c30c3398fe40b726c00661d4b3d3f288ff2ab0f31acd42cec04c2370eb0442026cb28c3fb4" ++
    codes "019e0b14b7f21fbddabd99301bf8e04955429d90eadc7b113aae3011d6513e449a2970b063a1bbc4c894fb0c10fecaa951a644d8b56a" ++
    codes "a73615742b014202f7e80ccb7d54c4bdea466097bdf5ae0514a4d484095f28f5fdcf21607365e6c011d6513e449a2970b063a1bbc4c8" ++
    codes "94fb0c10fecaa951a644d8b56aa73615742b0100bf63827660020902a5696ba820a8faed6abbf35c12a4b26e40f6feb19d736d90045c" ++
    codes "83b9f9a31f638d323e6811886c5169752102c3048eb8a63ed41ea7b9fd55fb07a87736e61f4190c6603e48bd46951789fdb8ad210235" ++
    codes "fc277c05597b9d5b667c63c706ba589607a00daa433e8e5192b5da5be35aedac672102f7e80ccb7d54c4bdea466097bdf5ae0514a4d4" ++
    codes "84095f28f5fdcf21607365e6c0ad21026cb28c3fb4019e0b14b7f21fbddabd99301bf8e04955429d90eadc7b113aae30ac68e8030000") ∷
    codes "refused ScriptFalse 0" ∷
    codes "end" ∷
    codes "tip 0" ∷
    codes "live #2 100000000" ∷
    codes "time 0" ∷
    codes "contract #2 0 r 100000000" ∷
    codes "secret 0 A a 0 hidden" ∷
    [])

pair_of_another_is_missing :
    replies (sha_of pair_of_another_is_missing_hashes) (codes "play" ∷ codes "pair_of_another_is_missing.run"
    ∷ codes "timed_commitment.bitml" ∷ [])
    ((codes "pair_of_another_is_missing.run", pair_of_another_is_missing_run)
    ∷ (codes "timed_commitment.bitml", timed_commitment_bitml) ∷ [])
    ≡ prints 0 pair_of_another_is_missing_text
unfolding is_name word_prefix number_prefix symbol_prefix read_answer advert_of_all advert_at entries_at entry_at head_at deposit_at
    secret_at fee_at choice_with branches_at branch_at parts_at auth_at after_at put_at reveal_at split_at reveals_at puts_at
    put_reveals_at headed_at one_branch_at condition_at names_from test_at comparison_at formula_at constant_at length_at withdraw_at
    digits label_text stripped marked compact places_list sequences_list outputs_list preimage position_script many wide_at compact_at
    string_at input_at inputs_at output_at outputs_at witness_at witnesses_at plain_at marked_at transaction_at all_at script_meaning
    ops_of number_of_item signed_bytes item_of_number play_text
pair_of_another_is_missing = refl

abbrev signature_of_another_kind_hashes : List (ℕ × ℕ)
signature_of_another_kind_hashes =
    (6263475112473494384, 0x7229f4752ae1ba4b759ef76952f0c8df40d1a396a4c7936375d78e0e20f9f953) ∷
    (17481214125729887496, 0x8b59d7e9c1c4fb6e164fbef0d3410718f12ae139cc38f193e2a0b18f8f37ce2d) ∷
    (6263475112473494385, 0xb9cde99529182b30119af392795ab7f0af17ca357a96a2518587545debaea120) ∷
    (3849898363207402157, 0xdea928c30c3398fe40b726c00661d4b3d3f288ff2ab0f31acd42cec04c2370eb) ∷
    (1881038146745535331, 0x8762b05314649e1f457e211929cb27a930c56e45192c8b5602d0997806eb3aab) ∷
    (17494544306395192129, 0xbf78527835c31ad6ef5a8995791a7014ee6eaf71eec8f422a0b8b06d371953a0) ∷
    (17037915857484479048, 0xa8faed6abbf35c12a4b26e40f6feb19d736d90045c83b9f9a31f638d323e6811) ∷
    (5573038168341886136, 0xc3048eb8a63ed41ea7b9fd55fb07a87736e61f4190c6603e48bd46951789fdb8) ∷
    (5573038168341886137, 0x35fc277c05597b9d5b667c63c706ba589607a00daa433e8e5192b5da5be35aed) ∷
    (13093935892652221089, 0xf7e80ccb7d54c4bdea466097bdf5ae0514a4d484095f28f5fdcf21607365e6c0) ∷
    (13093935892652221090, 0x6cb28c3fb4019e0b14b7f21fbddabd99301bf8e04955429d90eadc7b113aae30) ∷
    (5426021975540570408, 0xb56bbb2d4a77ebef8e3d0644fb48947ec07b2b2ef92057ae62cc5edd44a0f4f4) ∷
    (5426021975540570409, 0x2b7f337ae184820e74399095380ee2176e63fa49d65dd28edc0152463464276b) ∷
    (10774032180729049405, 0xef1ef44ba56f1dd8706e717b2f292ad34e6926e1cb27c452b45d256f1ce4b8d4) ∷
    (7852205412969748855, 0xd8286be54cd05ffb248e15299f9034e5fccbd933c4cf1e65d75a2b750c4445ed) ∷
    (2035364925140459882, 0x1d627ea6cd3c90bd7fa3e6078f39e62dadd7192490a43a5ea3ba06cc89757879) ∷
    (3958369157869030299, 0x6e3d3fbae024fb2eff9fefb40599567a7ae130e402a4c88790637835e0463656) ∷
    (12783523789036180418, 0xf356ec553d7ef56bedf62f3fec5277df1a8c659a5a88d837b26ed23496aa527b) ∷
    (14376305522832806550, 0xd68892270a4358c723fefd6c3df811000689d276a7b15205c65037a41a989cce) ∷
    (16135954257557145446, 0xc992651ac89a97aecd0811c1761915a8e2c8f5153d1bdd994a789e6bd86ab717) ∷
    (12164856700598922693, 0x4be84bb5fae1be5dd0114f3d7178b0250012ad433e39c5173fe5ea3e6e071ddb) ∷
    (16154298279012345322, 0x98978243bc9cabd94bb2461f7a2e796740ba68723c8b5227bd3902719f034b0a) ∷
    (13616911770291946672, 0xffc9ee37466edd3d93d2b2307aba681f31bf0dd1da77ddb9a81372fea496d1ae) ∷
    (4176279068845314306, 0x22af4b2f6f994e2fb25f158d45d00d526c556fa6a87b1ee15762cbf75d4b8548) ∷
    (947035014976057371, 0xfb9b9b0779ef03560d44f1eabc6fdddae4b3f65d58d6aa69aaecae6a8d07fd03) ∷
    (3756442854723913072, 0x2f36198b035ba842148bd09c58c902fa78a1fe76c89b3dc7f9a96bd78987c2bb) ∷
    (1305186188083108804, 0x076da2f9f647fbcb9903a88f8af5241446df8d2046fafa1ed165dd92c637ac27) ∷
    (9507370279712765663, 0x7a194df53e166763f70dfc319e0e8a62d4df3ca11342480190314fd997f0d521) ∷
    (10517929772682031156, 0x9fe0079099358ff370d62cf537747fb28130f83a1ac531dc23860ddaac57a56e) ∷
    (8206543930330840474, 0x7c74a1f6d48698c33d902e8bf2f91f5b926f0e679ccc59f6394f5fa4124f1d36) ∷
    (11911631449119430591, 0x9a9967cb8babfc998aa16002e1a7b97ae5a3007725880f604ad19628a6170ab5) ∷
    (5040092498882930355, 0xb4248c210a2905b94345e1a8414d0e12efcfb2f4f0f2397159a71283397a0ccd) ∷
    (204552439812090982, 0x18606b350cd8bf565266bc352f0caddcf01e8fa789dd8a15386327cf8cabe198) ∷
    (10717107888865064393, 0xb6b1f32a85c185d9e435072240be9dd38c81691eaa07ee72621c7013a0e1e844) ∷
    (14975464254959500475, 0xdaae92049e3ef071d6f59a008df46c690213b955ae148bc637a841e05178a884) ∷
    (17294031593152945983, 0xd7e088d209955c24c30f6314db36ee7598397fc737d8c2fb72f0e5288d1a0417) ∷
    (5624142601318637548, 0x70cda67cd71dd20a123d991f93607be650fd94b275c88e6dd358d04171834e03) ∷
    (7093821950847522796, 0x2c9c5b4094cec2eb5fad1da4b51f4f645a478ff636af4924ffbfe93526a0342d) ∷
    (7368703218764841461, 0xb32b648bd59bf7b633774c4d8a0f8e46d3d5c0050d40a7ecaad84d8850244156) ∷
    (217596255074483070, 0x6fc5703cc0dc92a392db8df1d5fc6183811e523a280d5d701e4c2cc97e84d32a) ∷
    (273013978009573800, 0xace24e7b9d10832cdcd75d4ca6485b451bec23241bb6a702ec2a298bc4b57c9b) ∷
    (15292662054492276978, 0xbb046fc2f1874bdc0e3035ca85a47d5e7d596a43c1790558d2678cd22fcd0470) ∷
    (5546202068078806565, 0xbea2e0fda373d44cff12f2d780597580cc3cf3a28126fd6349d03649d1e7cd18) ∷
    (3443006996408259851, 0x2201669bf92d5647ea4e900a83334b3d80413d95591a6703c20fad2bc812b759) ∷
    (10318328977828710050, 0x3e1b47fe5b33ffc1c97bcffaf2d26e97497d5af647e09a1b5104aea9595b5acf) ∷
    (1074625867288846903, 0xdd08640c56d2cf45eb1f25d5dcfdbcacd4fde9ae940db342995ea47e8ff13e93) ∷
    (2788454896740942806, 0x47e94fd188359c92eb60003409fabb1523b4140a2155274c84e09ec11d33d3b1) ∷
    (3506861022763790094, 0x60dfbf31f56817680f1309fa61aca9fc21d061804340a1dc22feb2d251ac91d0) ∷
    (17870826997635207490, 0xb1864b2ef25b63c72012608d8c1dd9cb5c0fbe97befbac88e1eedd92b4e87b95) ∷
    (7799690822364769815, 0x6b5f8f64226966a8e8458c5022d6fe37a485b5ff629a0abbc0fbd1308ccf071d) ∷
    (10836098106098401585, 0xbdb2ca62e39765d8c40dc16298fb7217aa7bf653d33c6aba0f91480a6049ed76) ∷
    (6167736692849428676, 0x07e466786def6716fde00bfe820db51de1d9489a9c5612e063f481d3ec1aca1d) ∷
    (429692059136240, 0x39fc68c250203742515bfe69fd87366176aaf45bffeb247ddc21449083855253) ∷
    []

abbrev signature_of_another_kind_run : List ℕ
signature_of_another_kind_run =
    lines (
    codes "party A" ∷
    codes "party B" ∷
    codes "honest A" ∷
    codes "secret A a 00112233445566778899aabbccddeeff" ∷
    codes "deposit A 100000000" ∷
    codes "deposit B 0" ∷
    codes "--" ∷
    codes "advertise 0 x=#0 y=#1" ∷
    codes "commit 0 A" ∷
    codes "commit 0 B" ∷
    codes "endorse 0 A" ∷
    codes "endorse 0 B" ∷
    codes "init 0 A" ∷
    codes "init 0 B" ∷
    codes "fire init 0" ∷
    codes "mine 999" ∷
    codes "fire #2 1" ∷
    codes "mine 1" ∷
    (codes "append 020000000001011d627ea6cd3c90bd7fa3e6078f39e62dadd7192490a43a5ea3ba06cc897578790000000000feffffff0100e" ++
    codes "1f50500000000220020dea928c30c3398fe40b726c00661d4b3d3f288ff2ab0f31acd42cec04c2370eb0442026cb28c3fb4019e0b14b" ++
    codes "7f21fbddabd99301bf8e04955429d90eadc7b113aae30bdb2ca62e39765d8c40dc16298fb7217aa7bf653d33c6aba0f91480a6049ed7" ++
    codes "6014202f7e80ccb7d54c4bdea466097bdf5ae0514a4d484095f28f5fdcf21607365e6c0bdb2ca62e39765d8c40dc16298fb7217aa7bf" ++
    codes "653d33c6aba0f91480a6049ed760200bf63827660020902a5696ba820a8faed6abbf35c12a4b26e40f6feb19d736d90045c83b9f9a31" ++
    codes "f638d323e6811886c5169752102c3048eb8a63ed41ea7b9fd55fb07a87736e61f4190c6603e48bd46951789fdb8ad210235fc277c055" ++
    codes "97b9d5b667c63c706ba589607a00daa433e8e5192b5da5be35aedac672102f7e80ccb7d54c4bdea466097bdf5ae0514a4d484095f28f" ++
    codes "5fdcf21607365e6c0ad21026cb28c3fb4019e0b14b7f21fbddabd99301bf8e04955429d90eadc7b113aae30ac68e8030000") ∷
    [])

abbrev signature_of_another_kind_text : List ℕ
signature_of_another_kind_text =
    lines (
    codes "start #0 A 100000000" ∷
    codes "start #1 B 0" ∷
    codes "event 1 advertise 0 x=#0 y=#1" ∷
    codes "done" ∷
    codes "step advertise 0 x=#0 y=#1" ∷
    codes "event 2 commit 0 A" ∷
    codes "done" ∷
    codes "step commit 0 A a=0" ∷
    codes "event 3 commit 0 B" ∷
    codes "done" ∷
    codes "step commit 0 B" ∷
    codes "event 4 endorse 0 A" ∷
    codes "done" ∷
    codes "event 5 endorse 0 B" ∷
    codes "done" ∷
    codes "event 6 init 0 A" ∷
    codes "done" ∷
    codes "step authinit 0 A x" ∷
    codes "event 7 init 0 B" ∷
    codes "done" ∷
    codes "step authinit 0 B y" ∷
    codes "event 8 fire init 0" ∷
    codes "accepted spends #0 #1 makes #2 100000000 lock 0" ∷
    codes "step init 0 -> #2" ∷
    codes "event 9 mine 999" ∷
    codes "done" ∷
    codes "step delay 999" ∷
    codes "event 10 fire #2 1" ∷
    codes "refused NotFinal" ∷
    codes "event 11 mine 1" ∷
    codes "done" ∷
    codes "step delay 1" ∷
    (codes "event 12 append 020000000001011d627ea6cd3c90bd7fa3e6078f39e62dadd7192490a43a5ea3ba06cc897578790000000000feff" ++
    codes "ffff0100e1f50500000000220020dea928c30c3398fe40b726c00661d4b3d3f288ff2ab0f31acd42cec04c2370eb0442026cb28c3fb4" ++
    codes "019e0b14b7f21fbddabd99301bf8e04955429d90eadc7b113aae30bdb2ca62e39765d8c40dc16298fb7217aa7bf653d33c6aba0f9148" ++
    codes "0a6049ed76014202f7e80ccb7d54c4bdea466097bdf5ae0514a4d484095f28f5fdcf21607365e6c0bdb2ca62e39765d8c40dc16298fb" ++
    codes "7217aa7bf653d33c6aba0f91480a6049ed760200bf63827660020902a5696ba820a8faed6abbf35c12a4b26e40f6feb19d736d90045c" ++
    codes "83b9f9a31f638d323e6811886c5169752102c3048eb8a63ed41ea7b9fd55fb07a87736e61f4190c6603e48bd46951789fdb8ad210235" ++
    codes "fc277c05597b9d5b667c63c706ba589607a00daa433e8e5192b5da5be35aedac672102f7e80ccb7d54c4bdea466097bdf5ae0514a4d4" ++
    codes "84095f28f5fdcf21607365e6c0ad21026cb28c3fb4019e0b14b7f21fbddabd99301bf8e04955429d90eadc7b113aae30ac68e8030000") ∷
    codes "refused ScriptFalse 0" ∷
    codes "end" ∷
    codes "tip 1000" ∷
    codes "live #2 100000000" ∷
    codes "time 1000" ∷
    codes "contract #2 0 r 100000000" ∷
    codes "secret 0 A a 0 hidden" ∷
    codes "offer fire #2 1" ∷
    [])

signature_of_another_kind :
    replies (sha_of signature_of_another_kind_hashes) (codes "play" ∷ codes "signature_of_another_kind.run"
    ∷ codes "timed_commitment.bitml" ∷ [])
    ((codes "signature_of_another_kind.run", signature_of_another_kind_run) ∷ (codes "timed_commitment.bitml", timed_commitment_bitml)
    ∷ [])
    ≡ prints 0 signature_of_another_kind_text
unfolding is_name word_prefix number_prefix symbol_prefix read_answer advert_of_all advert_at entries_at entry_at head_at deposit_at
    secret_at fee_at choice_with branches_at branch_at parts_at auth_at after_at put_at reveal_at split_at reveals_at puts_at
    put_reveals_at headed_at one_branch_at condition_at names_from test_at comparison_at formula_at constant_at length_at withdraw_at
    digits label_text stripped marked compact places_list sequences_list outputs_list preimage position_script many wide_at compact_at
    string_at input_at inputs_at output_at outputs_at witness_at witnesses_at plain_at marked_at transaction_at all_at script_meaning
    ops_of number_of_item signed_bytes item_of_number play_text
signature_of_another_kind = refl

abbrev signed_in_advance_hashes : List (ℕ × ℕ)
signed_in_advance_hashes =
    (6263475112473494384, 0x7229f4752ae1ba4b759ef76952f0c8df40d1a396a4c7936375d78e0e20f9f953) ∷
    (17481214125729887496, 0x8b59d7e9c1c4fb6e164fbef0d3410718f12ae139cc38f193e2a0b18f8f37ce2d) ∷
    (6263475112473494385, 0xb9cde99529182b30119af392795ab7f0af17ca357a96a2518587545debaea120) ∷
    (3849898363207402157, 0xdea928c30c3398fe40b726c00661d4b3d3f288ff2ab0f31acd42cec04c2370eb) ∷
    (6940245956007985854, 0x7ac7a49ce808a25fe656bfe5d326e8d4cce50bffa5edcf388f43d980de5b892f) ∷
    (17923167281790383327, 0x1342d3f4c143b3fff43a53854244ac93fbe101081a634cd97e3457cd535a9ebe) ∷
    (5573038168341886136, 0xc3048eb8a63ed41ea7b9fd55fb07a87736e61f4190c6603e48bd46951789fdb8) ∷
    (5573038168341886137, 0x35fc277c05597b9d5b667c63c706ba589607a00daa433e8e5192b5da5be35aed) ∷
    (9963248011155847839, 0x521c173f18d45f26beeaccb5eb1b0da1ac9befd9e322394d6ac873ae41e00f16) ∷
    (15249646758307139668, 0xb9895531d48741c3a903fc1d0feeee1879463840eca2d47cdaeed6176402b825) ∷
    (5349978570533326636, 0xa58c7c8606924436f326a9d1201337456f58a18d70a0e6e9ba0903028d8bdd17) ∷
    (3006469424639646859, 0x0d0a0824a477dcbbb855b7479b6ef6dcb04abe733ea64bf0bac4de925bce6914) ∷
    (6496686924959639473, 0xd5d4ad90b887f5d9a018d8fa3c829555d3a292ad301efb13bbffe26d1c9ebaa9) ∷
    (14376305522832806550, 0xd68892270a4358c723fefd6c3df811000689d276a7b15205c65037a41a989cce) ∷
    (16135954257557145446, 0xc992651ac89a97aecd0811c1761915a8e2c8f5153d1bdd994a789e6bd86ab717) ∷
    (13021554593279250178, 0x10e9a3c1c847b89147c4cdd9069da67aa91d13ae7ed47aabeb5e200bd47eb932) ∷
    (11687344248534740932, 0xdd521281535378fae0671c9baf350adb866cb0f4df6211eac8852125f8cba26d) ∷
    (16191936318502588229, 0x8c6fd5b7ab8359861e5efc1f20c74771e7e03a5d290c5d4d5230b9c23e7cdf02) ∷
    (6121463798368903115, 0xf928b9a85ab1b8b138de75081afe078ecddf0f6996c9a1bf41f9bec88f318734) ∷
    (7867596654559841469, 0xf511c24543a49503b0a650ed31ae8d2bb0e6651310e1bf58ec1151cda6b56f89) ∷
    (13806974851227145462, 0xd55bcfea558143d50c1917d2270b69f24a9b4506c4ae7614ac928a3f8872c017) ∷
    (14581820449234771032, 0x43c0aed9522035c63cde9d4b62e6f4f0602c85faf1d09f948252a5ab4c88cc6f) ∷
    (17525434239707886955, 0x852f84565d6e20f9403d5bfc2a1da590be1192f07cb1ea734d3ec755731fb84d) ∷
    (3357892891764100991, 0xa26c02fe3d0e41afbbfb3dc287b69e360d25468d137d6097493f585b49ce62ed) ∷
    (11416467924956367296, 0xe58e88cf9e262c4e550ef963cd35cb73eba65e6e06d0c2470cff84a61e87ffa3) ∷
    (5040092498882930355, 0xb4248c210a2905b94345e1a8414d0e12efcfb2f4f0f2397159a71283397a0ccd) ∷
    (204552439812090982, 0x18606b350cd8bf565266bc352f0caddcf01e8fa789dd8a15386327cf8cabe198) ∷
    (14824868751186559921, 0x8113af5c70af40ea2cde0d2db14c7267442f30bca0ea573eb6cd626f84f66552) ∷
    (18121445001047633157, 0x1fc166fcadb3e0eaa1f770915cb661fbb902653c1842838a731db8d0aa39e7f0) ∷
    (16347151510954493546, 0x850e36723085f4d6df499758828b468a60bf9ed319b89b0f6ea199a2eecab329) ∷
    (10754607227032702923, 0xa132296ed1297e6bf0d0c7937721c804ef54b3273c8e23c4e93fc98722b4b7ad) ∷
    (14906134573904546923, 0xcd00d071c3262a24374473f06648fcb0b69f0fda71d28fc4337d433dbbae4957) ∷
    (12719757734203136467, 0xdcf6105e235c9247b087845e34bbe365024f2db045de7ad71d794dfd00b263d9) ∷
    (17960315450350160088, 0x7bcf233b88e20a0b6d07a34b74d18cb5e4f2bdb50506b8a7550294b01544e3f7) ∷
    (2562664842029717905, 0x5686288fce3763564959a92e0c13ee9cefe77d76d51ec4406cc3d1100c96310b) ∷
    []

abbrev signed_in_advance_run : List ℕ
signed_in_advance_run =
    lines (
    codes "party A" ∷
    codes "party B" ∷
    codes "honest A" ∷
    codes "deposit A 10" ∷
    codes "deposit B 0" ∷
    codes "--" ∷
    codes "advertise 0 x=#0 y=#1" ∷
    codes "commit 0 A" ∷
    codes "commit 0 B" ∷
    codes "endorse 0 A" ∷
    codes "endorse 0 B" ∷
    codes "init 0 A" ∷
    codes "init 0 B" ∷
    codes "sign B B:0:r.0:B a132296ed1297e6bf0d0c7937721c804ef54b3273c8e23c4e93fc98722b4b7ad" ∷
    codes "fire init 0" ∷
    codes "fire #2 0" ∷
    [])

abbrev withdrawal_with_consent_bitml : List ℕ
withdrawal_with_consent_bitml =
    codes "{A:! 10 @ x | B:! 0 @ y} B : withdraw A"

abbrev signed_in_advance_text : List ℕ
signed_in_advance_text =
    lines (
    codes "start #0 A 10" ∷
    codes "start #1 B 0" ∷
    codes "event 1 advertise 0 x=#0 y=#1" ∷
    codes "done" ∷
    codes "step advertise 0 x=#0 y=#1" ∷
    codes "event 2 commit 0 A" ∷
    codes "done" ∷
    codes "step commit 0 A" ∷
    codes "event 3 commit 0 B" ∷
    codes "done" ∷
    codes "step commit 0 B" ∷
    codes "event 4 endorse 0 A" ∷
    codes "done" ∷
    codes "event 5 endorse 0 B" ∷
    codes "done" ∷
    codes "event 6 init 0 A" ∷
    codes "done" ∷
    codes "step authinit 0 A x" ∷
    codes "event 7 init 0 B" ∷
    codes "done" ∷
    codes "step authinit 0 B y" ∷
    codes "event 8 sign B B:0:r.0:B a132296ed1297e6bf0d0c7937721c804ef54b3273c8e23c4e93fc98722b4b7ad" ∷
    codes "done" ∷
    codes "event 9 fire init 0" ∷
    codes "accepted spends #0 #1 makes #2 10 lock 0" ∷
    codes "step init 0 -> #2" ∷
    codes "event 10 fire #2 0" ∷
    codes "accepted spends #2 makes #3 10 lock 0" ∷
    codes "step authbranch B #2 0" ∷
    codes "step withdraw #2 0 -> #3" ∷
    codes "end" ∷
    codes "tip 0" ∷
    codes "live #3 10" ∷
    codes "time 0" ∷
    codes "deposit #3 A 10" ∷
    [])

signed_in_advance :
    replies (sha_of signed_in_advance_hashes) (codes "play" ∷ codes "signed_in_advance.run" ∷ codes "withdrawal_with_consent.bitml"
    ∷ [])
    ((codes "signed_in_advance.run", signed_in_advance_run) ∷ (codes "withdrawal_with_consent.bitml", withdrawal_with_consent_bitml)
    ∷ [])
    ≡ prints 0 signed_in_advance_text
unfolding is_name word_prefix number_prefix symbol_prefix read_answer advert_of_all advert_at entries_at entry_at head_at deposit_at
    secret_at fee_at choice_with branches_at branch_at parts_at auth_at after_at put_at reveal_at split_at reveals_at puts_at
    put_reveals_at headed_at one_branch_at condition_at names_from test_at comparison_at formula_at constant_at length_at withdraw_at
    digits label_text stripped marked compact places_list sequences_list outputs_list preimage position_script many wide_at compact_at
    string_at input_at inputs_at output_at outputs_at witness_at witnesses_at plain_at marked_at transaction_at all_at script_meaning
    ops_of number_of_item signed_bytes item_of_number play_text
signed_in_advance = refl
