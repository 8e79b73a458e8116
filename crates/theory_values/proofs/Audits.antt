-- Audits of files of transactions.
use Rattle.std.proofs.Common.{◌≡◌, ℕ, List, [], ◌∷◌, ◌++◌, refl}
use Rattle.std.specs.Prelude.{codes}
use Rattle.std.specs.Fmt.{digits}
use Rattle.spec_terms.specs.Readable.{is_name}
use Rattle.spec_bitcoin.specs.Keys.{label_text}
use Rattle.spec_bitcoin.specs.Digests.{places_list, sequences_list, outputs_list, preimage}
use Rattle.spec_bitcoin.specs.Spelling.{stripped, marked, compact}
use Rattle.spec_bitcoin.specs.Reading.{many, wide_at, compact_at, string_at, input_at, inputs_at, output_at, outputs_at, witness_at}
use Rattle.spec_bitcoin.specs.Reading.{witnesses_at, plain_at, marked_at, transaction_at, all_at}
use Rattle.spec_bitcoin.specs.Meaning.{script_meaning}
use Rattle.spec_bitcoin.specs.Numbers.{number_of_item, signed_bytes, item_of_number}
use Rattle.spec_bitcoin.specs.Scripts.{ops_of}
use Rattle.spec_compiler.specs.Keyed.Instance.{position_script}
use Rattle.spec_text.specs.Lexis.{word_prefix, number_prefix, symbol_prefix}
use Rattle.spec_text.specs.ReadAdvert.{read_answer, advert_of_all, advert_at, entries_at, entry_at, head_at, deposit_at, secret_at, fee_at}
use Rattle.spec_text.specs.ReadContract.{withdraw_at, condition_at, reveals_at, puts_at, put_reveals_at, headed_at, one_branch_at}
use Rattle.spec_text.specs.ReadContract.{branches_at, choice_with, parts_at, auth_at, after_at, put_at, reveal_at, split_at, branch_at}
use Rattle.spec_text.specs.ReadTest.{constant_at, length_at, formula_at, comparison_at, test_at}
use Rattle.spec_text.specs.Reading.{names_from}
use Rattle.spec_tool.specs.Commands.{prints}
use Rattle.spec_tool.specs.AuditText.{audit_answer}
use Rattle.theory_values.specs.Replies.{lines, replies, sha_of, small_hash}

abbrev secret_is_guessed_run : List ℕ
secret_is_guessed_run =
    lines (
    codes "party A" ∷
    codes "party B" ∷
    codes "honest A" ∷
    codes "secret A a 54686520717569636b2062726f776e20666f78206a756d7073206f76657220746865206c617a7920646f67" ∷
    codes "deposit A 1" ∷
    codes "deposit B 1" ∷
    codes "--" ∷
    codes "post 54686520717569636b2062726f776e20666f78206a756d7073206f76657220746865206c617a7920646f67" ∷
    [])

abbrev timed_commitment_bitml : List ℕ
timed_commitment_bitml =
    codes "{A:! 100000000 @ x | B:! 0 @ y | A: secret a} (reveal a . withdraw A + after 1000 : withdraw B)"

abbrev bad_lines_hex : List ℕ
bad_lines_hex =
    lines (
    codes "zz" ∷
    codes "02000000" ∷
    [])

audit_after_a_guess :
    replies small_hash (codes "audit" ∷ codes "secret_is_guessed.run" ∷ codes "timed_commitment.bitml" ∷ codes "bad_lines.hex" ∷ [])
    ((codes "secret_is_guessed.run", secret_is_guessed_run) ∷ (codes "timed_commitment.bitml", timed_commitment_bitml)
    ∷ (codes "bad_lines.hex", bad_lines_hex) ∷ [])
    ≡ prints 7 (lines (codes "guessed A a" ∷ []))
unfolding is_name word_prefix number_prefix symbol_prefix read_answer advert_of_all advert_at entries_at entry_at head_at deposit_at
    secret_at fee_at choice_with branches_at branch_at parts_at auth_at after_at put_at reveal_at split_at reveals_at puts_at
    put_reveals_at headed_at one_branch_at condition_at names_from test_at comparison_at formula_at constant_at length_at withdraw_at
    digits label_text stripped marked compact places_list sequences_list outputs_list preimage position_script many wide_at compact_at
    string_at input_at inputs_at output_at outputs_at witness_at witnesses_at plain_at marked_at transaction_at all_at script_meaning
    ops_of number_of_item signed_bytes item_of_number audit_answer
audit_after_a_guess = refl

abbrev committed_run : List ℕ
committed_run =
    lines (
    codes "party A" ∷
    codes "party B" ∷
    codes "honest A" ∷
    codes "deposit A 10" ∷
    codes "deposit B 0" ∷
    codes "--" ∷
    codes "advertise 0 x=#0 y=#1" ∷
    codes "commit 0 A" ∷
    codes "commit 0 B" ∷
    codes "endorse 0 A" ∷
    [])

abbrev either_consents_bitml : List ℕ
either_consents_bitml =
    codes "{A:! 10 @ x | B:! 0 @ y} (A : withdraw B + B : withdraw B)"

abbrev audit_of_bad_lines_text : List ℕ
audit_of_bad_lines_text =
    lines (
    codes "line 1 nothex" ∷
    codes "line 2 bad 4" ∷
    codes "absent init" ∷
    codes "absent r.0" ∷
    codes "absent r.1" ∷
    codes "missing init 0 D:A" ∷
    codes "missing init 1 D:B" ∷
    codes "missing r.0 0 B:0:r.0:A" ∷
    codes "missing r.0 0 B:0:r.0:B" ∷
    codes "missing r.1 0 B:0:r.1:B" ∷
    [])

audit_of_bad_lines :
    replies small_hash (codes "audit" ∷ codes "committed.run" ∷ codes "either_consents.bitml" ∷ codes "bad_lines.hex" ∷ [])
    ((codes "committed.run", committed_run) ∷ (codes "either_consents.bitml", either_consents_bitml)
    ∷ (codes "bad_lines.hex", bad_lines_hex) ∷ [])
    ≡ prints 0 audit_of_bad_lines_text
unfolding is_name word_prefix number_prefix symbol_prefix read_answer advert_of_all advert_at entries_at entry_at head_at deposit_at
    secret_at fee_at choice_with branches_at branch_at parts_at auth_at after_at put_at reveal_at split_at reveals_at puts_at
    put_reveals_at headed_at one_branch_at condition_at names_from test_at comparison_at formula_at constant_at length_at withdraw_at
    digits label_text stripped marked compact places_list sequences_list outputs_list preimage position_script many wide_at compact_at
    string_at input_at inputs_at output_at outputs_at witness_at witnesses_at plain_at marked_at transaction_at all_at script_meaning
    ops_of number_of_item signed_bytes item_of_number audit_answer
audit_of_bad_lines = refl

abbrev advertised_run : List ℕ
advertised_run =
    lines (
    codes "party A" ∷
    codes "party B" ∷
    codes "honest A" ∷
    codes "honest B" ∷
    codes "secret A a 00112233445566778899aabbccddeeff" ∷
    codes "deposit A 100000000" ∷
    codes "deposit B 0" ∷
    codes "--" ∷
    codes "advertise 0 x=#0 y=#1" ∷
    [])

abbrev empty_hex : List ℕ
empty_hex =
    []

audit_of_nothing_not_compiled :
    replies small_hash (codes "audit" ∷ codes "advertised.run" ∷ codes "timed_commitment.bitml" ∷ codes "empty.hex" ∷ [])
    ((codes "advertised.run", advertised_run) ∷ (codes "timed_commitment.bitml", timed_commitment_bitml)
    ∷ (codes "empty.hex", empty_hex) ∷ [])
    ≡ prints 0 (lines (codes "contract 0 not compiled" ∷ []))
unfolding is_name word_prefix number_prefix symbol_prefix read_answer advert_of_all advert_at entries_at entry_at head_at deposit_at
    secret_at fee_at choice_with branches_at branch_at parts_at auth_at after_at put_at reveal_at split_at reveals_at puts_at
    put_reveals_at headed_at one_branch_at condition_at names_from test_at comparison_at formula_at constant_at length_at withdraw_at
    digits label_text stripped marked compact places_list sequences_list outputs_list preimage position_script many wide_at compact_at
    string_at input_at inputs_at output_at outputs_at witness_at witnesses_at plain_at marked_at transaction_at all_at script_meaning
    ops_of number_of_item signed_bytes item_of_number audit_answer
audit_of_nothing_not_compiled = refl

abbrev audit_of_signed_branch_hashes : List (ℕ × ℕ)
audit_of_signed_branch_hashes =
    (6263475112473494384, 0x7229f4752ae1ba4b759ef76952f0c8df40d1a396a4c7936375d78e0e20f9f953) ∷
    (17481214125729887496, 0x8b59d7e9c1c4fb6e164fbef0d3410718f12ae139cc38f193e2a0b18f8f37ce2d) ∷
    (6263475112473494385, 0xb9cde99529182b30119af392795ab7f0af17ca357a96a2518587545debaea120) ∷
    (3849898363207402157, 0xdea928c30c3398fe40b726c00661d4b3d3f288ff2ab0f31acd42cec04c2370eb) ∷
    (1881038146745535331, 0x8762b05314649e1f457e211929cb27a930c56e45192c8b5602d0997806eb3aab) ∷
    (17494544306395192129, 0xbf78527835c31ad6ef5a8995791a7014ee6eaf71eec8f422a0b8b06d371953a0) ∷
    (17037915857484479048, 0xa8faed6abbf35c12a4b26e40f6feb19d736d90045c83b9f9a31f638d323e6811) ∷
    (5573038168341886136, 0xc3048eb8a63ed41ea7b9fd55fb07a87736e61f4190c6603e48bd46951789fdb8) ∷
    (5573038168341886137, 0x35fc277c05597b9d5b667c63c706ba589607a00daa433e8e5192b5da5be35aed) ∷
    (13093935892652221089, 0xf7e80ccb7d54c4bdea466097bdf5ae0514a4d484095f28f5fdcf21607365e6c0) ∷
    (13093935892652221090, 0x6cb28c3fb4019e0b14b7f21fbddabd99301bf8e04955429d90eadc7b113aae30) ∷
    (5426021975540570408, 0xb56bbb2d4a77ebef8e3d0644fb48947ec07b2b2ef92057ae62cc5edd44a0f4f4) ∷
    (5426021975540570409, 0x2b7f337ae184820e74399095380ee2176e63fa49d65dd28edc0152463464276b) ∷
    (10774032180729049405, 0xef1ef44ba56f1dd8706e717b2f292ad34e6926e1cb27c452b45d256f1ce4b8d4) ∷
    (7852205412969748855, 0xd8286be54cd05ffb248e15299f9034e5fccbd933c4cf1e65d75a2b750c4445ed) ∷
    (2035364925140459882, 0x1d627ea6cd3c90bd7fa3e6078f39e62dadd7192490a43a5ea3ba06cc89757879) ∷
    (3958369157869030299, 0x6e3d3fbae024fb2eff9fefb40599567a7ae130e402a4c88790637835e0463656) ∷
    (12783523789036180418, 0xf356ec553d7ef56bedf62f3fec5277df1a8c659a5a88d837b26ed23496aa527b) ∷
    (14376305522832806550, 0xd68892270a4358c723fefd6c3df811000689d276a7b15205c65037a41a989cce) ∷
    (16135954257557145446, 0xc992651ac89a97aecd0811c1761915a8e2c8f5153d1bdd994a789e6bd86ab717) ∷
    (12164856700598922693, 0x4be84bb5fae1be5dd0114f3d7178b0250012ad433e39c5173fe5ea3e6e071ddb) ∷
    (16154298279012345322, 0x98978243bc9cabd94bb2461f7a2e796740ba68723c8b5227bd3902719f034b0a) ∷
    (13616911770291946672, 0xffc9ee37466edd3d93d2b2307aba681f31bf0dd1da77ddb9a81372fea496d1ae) ∷
    (4176279068845314306, 0x22af4b2f6f994e2fb25f158d45d00d526c556fa6a87b1ee15762cbf75d4b8548) ∷
    (947035014976057371, 0xfb9b9b0779ef03560d44f1eabc6fdddae4b3f65d58d6aa69aaecae6a8d07fd03) ∷
    (3756442854723913072, 0x2f36198b035ba842148bd09c58c902fa78a1fe76c89b3dc7f9a96bd78987c2bb) ∷
    (1305186188083108804, 0x076da2f9f647fbcb9903a88f8af5241446df8d2046fafa1ed165dd92c637ac27) ∷
    (9507370279712765663, 0x7a194df53e166763f70dfc319e0e8a62d4df3ca11342480190314fd997f0d521) ∷
    (10517929772682031156, 0x9fe0079099358ff370d62cf537747fb28130f83a1ac531dc23860ddaac57a56e) ∷
    (8206543930330840474, 0x7c74a1f6d48698c33d902e8bf2f91f5b926f0e679ccc59f6394f5fa4124f1d36) ∷
    (11911631449119430591, 0x9a9967cb8babfc998aa16002e1a7b97ae5a3007725880f604ad19628a6170ab5) ∷
    (5040092498882930355, 0xb4248c210a2905b94345e1a8414d0e12efcfb2f4f0f2397159a71283397a0ccd) ∷
    (204552439812090982, 0x18606b350cd8bf565266bc352f0caddcf01e8fa789dd8a15386327cf8cabe198) ∷
    (10717107888865064393, 0xb6b1f32a85c185d9e435072240be9dd38c81691eaa07ee72621c7013a0e1e844) ∷
    (14975464254959500475, 0xdaae92049e3ef071d6f59a008df46c690213b955ae148bc637a841e05178a884) ∷
    (17294031593152945983, 0xd7e088d209955c24c30f6314db36ee7598397fc737d8c2fb72f0e5288d1a0417) ∷
    (5624142601318637548, 0x70cda67cd71dd20a123d991f93607be650fd94b275c88e6dd358d04171834e03) ∷
    (7093821950847522796, 0x2c9c5b4094cec2eb5fad1da4b51f4f645a478ff636af4924ffbfe93526a0342d) ∷
    (7368703218764841461, 0xb32b648bd59bf7b633774c4d8a0f8e46d3d5c0050d40a7ecaad84d8850244156) ∷
    (217596255074483070, 0x6fc5703cc0dc92a392db8df1d5fc6183811e523a280d5d701e4c2cc97e84d32a) ∷
    (273013978009573800, 0xace24e7b9d10832cdcd75d4ca6485b451bec23241bb6a702ec2a298bc4b57c9b) ∷
    (15292662054492276978, 0xbb046fc2f1874bdc0e3035ca85a47d5e7d596a43c1790558d2678cd22fcd0470) ∷
    (5546202068078806565, 0xbea2e0fda373d44cff12f2d780597580cc3cf3a28126fd6349d03649d1e7cd18) ∷
    (3443006996408259851, 0x2201669bf92d5647ea4e900a83334b3d80413d95591a6703c20fad2bc812b759) ∷
    (10318328977828710050, 0x3e1b47fe5b33ffc1c97bcffaf2d26e97497d5af647e09a1b5104aea9595b5acf) ∷
    (1074625867288846903, 0xdd08640c56d2cf45eb1f25d5dcfdbcacd4fde9ae940db342995ea47e8ff13e93) ∷
    (2788454896740942806, 0x47e94fd188359c92eb60003409fabb1523b4140a2155274c84e09ec11d33d3b1) ∷
    (3506861022763790094, 0x60dfbf31f56817680f1309fa61aca9fc21d061804340a1dc22feb2d251ac91d0) ∷
    (17870826997635207490, 0xb1864b2ef25b63c72012608d8c1dd9cb5c0fbe97befbac88e1eedd92b4e87b95) ∷
    (7799690822364769815, 0x6b5f8f64226966a8e8458c5022d6fe37a485b5ff629a0abbc0fbd1308ccf071d) ∷
    (10836098106098401585, 0xbdb2ca62e39765d8c40dc16298fb7217aa7bf653d33c6aba0f91480a6049ed76) ∷
    []

abbrev revealed_run : List ℕ
revealed_run =
    lines (
    codes "party A" ∷
    codes "party B" ∷
    codes "honest A" ∷
    codes "secret A a 00112233445566778899aabbccddeeff" ∷
    codes "deposit A 100000000" ∷
    codes "deposit B 0" ∷
    codes "--" ∷
    codes "advertise 0 x=#0 y=#1" ∷
    codes "commit 0 A" ∷
    codes "commit 0 B" ∷
    codes "endorse 0 A" ∷
    codes "endorse 0 B" ∷
    codes "init 0 A" ∷
    codes "init 0 B" ∷
    codes "fire init 0" ∷
    codes "reveal 0 A a" ∷
    [])

abbrev signed_hex : List ℕ
signed_hex =
    lines (
    (codes "020000000001011d627ea6cd3c90bd7fa3e6078f39e62dadd7192490a43a5ea3ba06cc897578790000000000feffffff0100e1f50500" ++
    codes "000000220020076da2f9f647fbcb9903a88f8af5241446df8d2046fafa1ed165dd92c637ac2705420235fc277c05597b9d5b667c63c7" ++
    codes "06ba589607a00daa433e8e5192b5da5be35aed70cda67cd71dd20a123d991f93607be650fd94b275c88e6dd358d04171834e03014202" ++
    codes "c3048eb8a63ed41ea7b9fd55fb07a87736e61f4190c6603e48bd46951789fdb870cda67cd71dd20a123d991f93607be650fd94b275c8" ++
    codes "8e6dd358d04171834e03011000112233445566778899aabbccddeeff0101bf63827660020902a5696ba820a8faed6abbf35c12a4b26e" ++
    codes "40f6feb19d736d90045c83b9f9a31f638d323e6811886c5169752102c3048eb8a63ed41ea7b9fd55fb07a87736e61f4190c6603e48bd" ++
    codes "46951789fdb8ad210235fc277c05597b9d5b667c63c706ba589607a00daa433e8e5192b5da5be35aedac672102f7e80ccb7d54c4bdea" ++
    codes "466097bdf5ae0514a4d484095f28f5fdcf21607365e6c0ad21026cb28c3fb4019e0b14b7f21fbddabd99301bf8e04955429d90eadc7b" ++
    codes "113aae30ac6800000000") ∷
    [])

abbrev audit_of_signed_branch_text : List ℕ
audit_of_signed_branch_text =
    lines (
    codes "line 1 path r.0 now branch #2 0" ∷
    codes "absent init" ∷
    codes "absent r.0.0" ∷
    codes "absent r.1" ∷
    [])

audit_of_signed_branch :
    replies (sha_of audit_of_signed_branch_hashes) (codes "audit" ∷ codes "revealed.run" ∷ codes "timed_commitment.bitml"
    ∷ codes "signed.hex" ∷ [])
    ((codes "revealed.run", revealed_run) ∷ (codes "timed_commitment.bitml", timed_commitment_bitml) ∷ (codes "signed.hex", signed_hex)
    ∷ [])
    ≡ prints 0 audit_of_signed_branch_text
unfolding is_name word_prefix number_prefix symbol_prefix read_answer advert_of_all advert_at entries_at entry_at head_at deposit_at
    secret_at fee_at choice_with branches_at branch_at parts_at auth_at after_at put_at reveal_at split_at reveals_at puts_at
    put_reveals_at headed_at one_branch_at condition_at names_from test_at comparison_at formula_at constant_at length_at withdraw_at
    digits label_text stripped marked compact places_list sequences_list outputs_list preimage position_script many wide_at compact_at
    string_at input_at inputs_at output_at outputs_at witness_at witnesses_at plain_at marked_at transaction_at all_at script_meaning
    ops_of number_of_item signed_bytes item_of_number audit_answer
audit_of_signed_branch = refl

abbrev audit_of_unsigned_branch_hashes : List (ℕ × ℕ)
audit_of_unsigned_branch_hashes =
    (6263475112473494384, 0x7229f4752ae1ba4b759ef76952f0c8df40d1a396a4c7936375d78e0e20f9f953) ∷
    (17481214125729887496, 0x8b59d7e9c1c4fb6e164fbef0d3410718f12ae139cc38f193e2a0b18f8f37ce2d) ∷
    (6263475112473494385, 0xb9cde99529182b30119af392795ab7f0af17ca357a96a2518587545debaea120) ∷
    (3849898363207402157, 0xdea928c30c3398fe40b726c00661d4b3d3f288ff2ab0f31acd42cec04c2370eb) ∷
    (6940245956007985854, 0x7ac7a49ce808a25fe656bfe5d326e8d4cce50bffa5edcf388f43d980de5b892f) ∷
    (17923167281790383327, 0x1342d3f4c143b3fff43a53854244ac93fbe101081a634cd97e3457cd535a9ebe) ∷
    (5573038168341886136, 0xc3048eb8a63ed41ea7b9fd55fb07a87736e61f4190c6603e48bd46951789fdb8) ∷
    (5573038168341886137, 0x35fc277c05597b9d5b667c63c706ba589607a00daa433e8e5192b5da5be35aed) ∷
    (13093935892652221089, 0xf7e80ccb7d54c4bdea466097bdf5ae0514a4d484095f28f5fdcf21607365e6c0) ∷
    (13093935892652221090, 0x6cb28c3fb4019e0b14b7f21fbddabd99301bf8e04955429d90eadc7b113aae30) ∷
    (5218077182611334009, 0xd051bab5a6e6ef40268f5767f1aa96e076046915bfdba3d028e1c099b736dcc5) ∷
    (11108074854066526287, 0x46feef12b91385fab435940b2fb84e6394d27e6423eee5e545d00da530b60002) ∷
    (9156253238435243906, 0x6e532d4660bbd60cddbec08bc0a412151475b9105b0e0adcb3f02922552b7f86) ∷
    (3006469424639646859, 0x0d0a0824a477dcbbb855b7479b6ef6dcb04abe733ea64bf0bac4de925bce6914) ∷
    (6496686924959639473, 0xd5d4ad90b887f5d9a018d8fa3c829555d3a292ad301efb13bbffe26d1c9ebaa9) ∷
    (14376305522832806550, 0xd68892270a4358c723fefd6c3df811000689d276a7b15205c65037a41a989cce) ∷
    (16135954257557145446, 0xc992651ac89a97aecd0811c1761915a8e2c8f5153d1bdd994a789e6bd86ab717) ∷
    (9134720086450100301, 0xf94a3edc1e1b73591e51ce495fa5b7ff9ddb40cb52345274b123115e328e09f0) ∷
    (16375415793366808261, 0xedbdf29bdaeda793006821929b9c82f4f0ecdd6504c1b79f0da9222bb540c06e) ∷
    (16300710410502953068, 0x0266ea277a1f70d5d275a38d145cbf43cfbf3868b30840ea6d5d672c6ea8f482) ∷
    (4777220361823343036, 0x0552a0d48b650374973fdc3c1dca0904c2d47129787c01ba5e433d0342a6f21d) ∷
    (7976370746560206308, 0xd3a013a15eb9ac987c8f6de723e94adf4fca000c2bf53cb4a87db0d6c5734521) ∷
    (10300641680151763092, 0x6cea573a3b9573275d328c9ae9c3a10045f9ed4fe15578393a38e8ba15633120) ∷
    (8237459651013933835, 0xe0fb58442473765a21a244f764716d52578404ff4313f1c7516d1bfef2aa56da) ∷
    (3757853209273615531, 0x4e8f2d941e1fd5bc996b597dafd3762c36b0fc7ec3f44724090c2f284e7d7945) ∷
    (13990058678377766818, 0x6bdb7b9d24ddf16b55e379ed03c91e581997f2574cb51f32758d2827e7e3172a) ∷
    (953368072192155814, 0x0cb4c673fe9c8aedef7aa5515713f137680d9f0d650de95157c905cd8dc28ea3) ∷
    (5040092498882930355, 0xb4248c210a2905b94345e1a8414d0e12efcfb2f4f0f2397159a71283397a0ccd) ∷
    (204552439812090982, 0x18606b350cd8bf565266bc352f0caddcf01e8fa789dd8a15386327cf8cabe198) ∷
    (3039067719458073037, 0xd14a0c6ba085357bbef4f9da8307155294658ad40bf98de90023b339f017cdbb) ∷
    (14862273562077776264, 0xb4a5634e3c5f9b34ff4fad522b831417ee4dae8c5054c6fc0766bb03d444d821) ∷
    (7671440805180193032, 0x12e1c772b70b5e49aceefb85448d35c31dba51b246115b66f50160c89555b132) ∷
    (14068897643919567365, 0x3aefd82df945653fe135cdbfc928b6d64c0f07ab18804800317cd02976a86cbd) ∷
    []

abbrev unsigned_hex : List ℕ
unsigned_hex =
    lines (
    (codes "02000000016e532d4660bbd60cddbec08bc0a412151475b9105b0e0adcb3f02922552b7f860000000000feffffff010a000000000000" ++
    codes "00220020dea928c30c3398fe40b726c00661d4b3d3f288ff2ab0f31acd42cec04c2370eb00000000") ∷
    [])

abbrev audit_of_unsigned_branch_text : List ℕ
audit_of_unsigned_branch_text =
    lines (
    codes "line 1 path r.0 r.1 now refused MissingInput 0" ∷
    codes "absent init" ∷
    codes "missing init 0 D:A" ∷
    codes "missing init 1 D:B" ∷
    codes "missing r.0 0 B:0:r.0:A" ∷
    codes "missing r.0 0 B:0:r.0:B" ∷
    codes "missing r.1 0 B:0:r.1:B" ∷
    [])

audit_of_unsigned_branch :
    replies (sha_of audit_of_unsigned_branch_hashes) (codes "audit" ∷ codes "committed.run" ∷ codes "either_consents.bitml"
    ∷ codes "unsigned.hex" ∷ [])
    ((codes "committed.run", committed_run) ∷ (codes "either_consents.bitml", either_consents_bitml)
    ∷ (codes "unsigned.hex", unsigned_hex) ∷ [])
    ≡ prints 0 audit_of_unsigned_branch_text
unfolding is_name word_prefix number_prefix symbol_prefix read_answer advert_of_all advert_at entries_at entry_at head_at deposit_at
    secret_at fee_at choice_with branches_at branch_at parts_at auth_at after_at put_at reveal_at split_at reveals_at puts_at
    put_reveals_at headed_at one_branch_at condition_at names_from test_at comparison_at formula_at constant_at length_at withdraw_at
    digits label_text stripped marked compact places_list sequences_list outputs_list preimage position_script many wide_at compact_at
    string_at input_at inputs_at output_at outputs_at witness_at witnesses_at plain_at marked_at transaction_at all_at script_meaning
    ops_of number_of_item signed_bytes item_of_number audit_answer
audit_of_unsigned_branch = refl
