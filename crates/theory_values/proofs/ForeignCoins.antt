-- Transactions that spend a foreign coin beside a contract, played.
use Rattle.std.proofs.Common.{◌≡◌, ℕ, List, [], ◌∷◌, ◌++◌, refl}
use Rattle.std.specs.Prelude.{codes}
use Rattle.std.specs.Fmt.{digits}
use Rattle.spec_terms.specs.Readable.{is_name}
use Rattle.spec_bitcoin.specs.Keys.{label_text}
use Rattle.spec_bitcoin.specs.Digests.{places_list, sequences_list, outputs_list, preimage}
use Rattle.spec_bitcoin.specs.Spelling.{stripped, marked, compact}
use Rattle.spec_bitcoin.specs.Reading.{many, wide_at, compact_at, string_at, input_at, inputs_at, output_at, outputs_at, witness_at}
use Rattle.spec_bitcoin.specs.Reading.{witnesses_at, plain_at, marked_at, transaction_at, all_at}
use Rattle.spec_bitcoin.specs.Meaning.{script_meaning}
use Rattle.spec_bitcoin.specs.Numbers.{number_of_item, signed_bytes, item_of_number}
use Rattle.spec_bitcoin.specs.Scripts.{ops_of}
use Rattle.spec_compiler.specs.Keyed.Instance.{position_script}
use Rattle.spec_text.specs.Lexis.{word_prefix, number_prefix, symbol_prefix}
use Rattle.spec_text.specs.ReadAdvert.{read_answer, advert_of_all, advert_at, entries_at, entry_at, head_at, deposit_at, secret_at, fee_at}
use Rattle.spec_text.specs.ReadContract.{withdraw_at, condition_at, reveals_at, puts_at, put_reveals_at, headed_at, one_branch_at}
use Rattle.spec_text.specs.ReadContract.{branches_at, choice_with, parts_at, auth_at, after_at, put_at, reveal_at, split_at, branch_at}
use Rattle.spec_text.specs.ReadTest.{constant_at, length_at, formula_at, comparison_at, test_at}
use Rattle.spec_text.specs.Reading.{names_from}
use Rattle.spec_text.specs.Played.{play_text}
use Rattle.spec_tool.specs.Commands.{prints}
use Rattle.theory_values.specs.Replies.{lines, replies, sha_of}

abbrev foreign_coin_in_the_first_branch_hashes : List (ℕ × ℕ)
foreign_coin_in_the_first_branch_hashes =
    (6263475112473494384, 0x7229f4752ae1ba4b759ef76952f0c8df40d1a396a4c7936375d78e0e20f9f953) ∷
    (17481214125729887496, 0x8b59d7e9c1c4fb6e164fbef0d3410718f12ae139cc38f193e2a0b18f8f37ce2d) ∷
    (6263475112473494385, 0xb9cde99529182b30119af392795ab7f0af17ca357a96a2518587545debaea120) ∷
    (3849898363207402157, 0xdea928c30c3398fe40b726c00661d4b3d3f288ff2ab0f31acd42cec04c2370eb) ∷
    (7940423839961126319, 0x77622677febceee0dfd889c107524d29e4b82fa006e34e793cff74d9a20b70c0) ∷
    (16322170128572445110, 0xc57f7d9a10132feec0b6f2f18a040057f7ca77c5f340e6dfa420b15c1f5f5110) ∷
    (17037915857484479048, 0xa8faed6abbf35c12a4b26e40f6feb19d736d90045c83b9f9a31f638d323e6811) ∷
    (5573038168341886136, 0xc3048eb8a63ed41ea7b9fd55fb07a87736e61f4190c6603e48bd46951789fdb8) ∷
    (5573038168341886137, 0x35fc277c05597b9d5b667c63c706ba589607a00daa433e8e5192b5da5be35aed) ∷
    (13093935892652221089, 0xf7e80ccb7d54c4bdea466097bdf5ae0514a4d484095f28f5fdcf21607365e6c0) ∷
    (13093935892652221090, 0x6cb28c3fb4019e0b14b7f21fbddabd99301bf8e04955429d90eadc7b113aae30) ∷
    (5426021975540570408, 0xb56bbb2d4a77ebef8e3d0644fb48947ec07b2b2ef92057ae62cc5edd44a0f4f4) ∷
    (5426021975540570409, 0x2b7f337ae184820e74399095380ee2176e63fa49d65dd28edc0152463464276b) ∷
    (10774032180729049405, 0xef1ef44ba56f1dd8706e717b2f292ad34e6926e1cb27c452b45d256f1ce4b8d4) ∷
    (12653293855944049257, 0xb05019574d24a74088001cc824a67f9eae62988fc97538e5d9f94eebbe24c124) ∷
    (6185380809243841683, 0xa63984643752c36ff690ed2aa608d0550efced5f9c6bc8de64618c275fc296d4) ∷
    (8657951777914837089, 0x006345514f7cdc59bc4c813b29963484f915aa990fd8168b00b1f9bf0e2b7295) ∷
    (14610737700832599626, 0x915d89e9b5fdace773586485eb586e68cc31f233c7f1b013961c3523a0254cdf) ∷
    (14376305522832806550, 0xd68892270a4358c723fefd6c3df811000689d276a7b15205c65037a41a989cce) ∷
    (16135954257557145446, 0xc992651ac89a97aecd0811c1761915a8e2c8f5153d1bdd994a789e6bd86ab717) ∷
    (12164856700598922693, 0x4be84bb5fae1be5dd0114f3d7178b0250012ad433e39c5173fe5ea3e6e071ddb) ∷
    (16154298279012345322, 0x98978243bc9cabd94bb2461f7a2e796740ba68723c8b5227bd3902719f034b0a) ∷
    (5949352428894949105, 0x3cb274283b31f1e8d9a48feee7c2e93ff4fb535752e55373d9c8a07977dfe5f5) ∷
    (11891367605282658574, 0xa8c462ddd437b1c3c62ea74ee20a92060229eb142320204cc45dce8130e5fa17) ∷
    (11726219747288611420, 0x975ec026afaff0e5ed0f022fda8870354852e061e8d16c32e3b3693a4aa2f498) ∷
    (6430878260627464785, 0xd85d3a5aca405535331801b196fd537dd433b37406c0fdafdee59f51f4453761) ∷
    (1305186188083108804, 0x076da2f9f647fbcb9903a88f8af5241446df8d2046fafa1ed165dd92c637ac27) ∷
    (8626675642521968349, 0x76931e5741db766b50596bcd8f1dc6ff4705733a73ada1a0f80209e04d4b4a4b) ∷
    (7895117568629025459, 0xcf925c94e99bd865a6444554cf08e66b574852a2a6065ffc6f36f5d849899157) ∷
    (4241883037392309872, 0x23f232734ac4727b983b1cbea882dac63a549ad3305adec5e9028dc48fc265d5) ∷
    (3063034484007188991, 0x76e788f5158a36c0888713535db946fd0ec7faaed5e394553a3f305ed880580e) ∷
    (5040092498882930355, 0xb4248c210a2905b94345e1a8414d0e12efcfb2f4f0f2397159a71283397a0ccd) ∷
    (204552439812090982, 0x18606b350cd8bf565266bc352f0caddcf01e8fa789dd8a15386327cf8cabe198) ∷
    (10717107888865064393, 0xb6b1f32a85c185d9e435072240be9dd38c81691eaa07ee72621c7013a0e1e844) ∷
    (14975464254959500475, 0xdaae92049e3ef071d6f59a008df46c690213b955ae148bc637a841e05178a884) ∷
    (6181784535594932105, 0x8b8f4977dbe239a40d93662b78395ac96b6aef84fbf72444fe12ae422a255dcb) ∷
    (9408443810621485054, 0x8a38958f046652f9e69283e09165ff39a34ac3f0a0f0216c8938bbace3bc690d) ∷
    (10762143940942772993, 0x0b29b60ab79dac8d4bb6a2214c9ef09c15709b7c126745f03d849e3379769911) ∷
    (6403801715689375844, 0xe57dd83fc22cebeb31d347e811f7cf3f42a986584877b00eff26e20bd776aa40) ∷
    (13817512112463764919, 0xb0418184484cf839474b5ed36c37e06cf43787c284ba9668ac4ab41f66c6e9a1) ∷
    (10248455541328602476, 0xe8ea5b508e7a4c1768c94c23a44e6fbdd93b14e44ff640616a8058dd7eceb925) ∷
    (15292662054492276978, 0xbb046fc2f1874bdc0e3035ca85a47d5e7d596a43c1790558d2678cd22fcd0470) ∷
    (5546202068078806565, 0xbea2e0fda373d44cff12f2d780597580cc3cf3a28126fd6349d03649d1e7cd18) ∷
    (2468862532148562938, 0x9b2f3fcbd751ae922666ff838d265ff7a7920e5a10470839511927457f2152e7) ∷
    (13357559603855454155, 0xcc38559798651abf435e81e04c4b7735b2c13691720923045ea8e082216b32d4) ∷
    (193931230098049589, 0x5a53e5833da7f761b36da3ea6141542bb46eeb17308f4c578c58a607fca63276) ∷
    (357461678325169580, 0xbd1c0e817742ad0a0a78ac78e2a3df61eeeac4cdea7421ef1ad38056a4b00e2c) ∷
    (3506861022763790094, 0x60dfbf31f56817680f1309fa61aca9fc21d061804340a1dc22feb2d251ac91d0) ∷
    (17870826997635207490, 0xb1864b2ef25b63c72012608d8c1dd9cb5c0fbe97befbac88e1eedd92b4e87b95) ∷
    (15134187838516307553, 0xc2abb799511871c6d4c05712515d5aa0ead8271c2b9960d8e24c1b41bc0026d9) ∷
    (1092708850527945768, 0x16c473ba828f8468e5705a05a41624dfeb9adb52b8b9206299521e68a7dde213) ∷
    (17875780289362473456, 0x6103761c08ef9dc26560496f3189851197f6f106ea03a6a745455a805c944d46) ∷
    (9192803358001200414, 0x7107aecaa06448a5e0fa3b8046be05212081bd045c649c9b920d3f55ff7f56bb) ∷
    (5833967892796559272, 0xad95131bc0b799c0b1af477fb14fcf26a6a9f76079e48bf090acb7e8367bfd0e) ∷
    (16265357665784359392, 0x3bb13029ce7b1f559ef5e747fcac439f1455a2ec7c5f09b72290795e70665044) ∷
    (12933618519577977642, 0x7fba87cd6f394f838b81aca0f1beb5c24c09be864c7b90982f99f3dde3e9f038) ∷
    (9724136107311744809, 0xad2f94d29593d1b8f98f421d0463d785276e545fa7724b000ef7c56473c7fccb) ∷
    (5329699774678308543, 0xb3b19211a9b6c91a746a5df0bab46ee256ba194270e678fbb0da48b9d94a84dd) ∷
    (6053567001196755957, 0x57996de0a3b654256453b6c438377c3a82fb93734db7ed14a30b61c573222527) ∷
    (16995360119337609347, 0x8dabf00466a686be9057c8499600dd626fb2b11da87b23d62cb3ec250ac051c7) ∷
    (8994773916800726110, 0x9cecaf523130f12f5af8f334d418bd3d1b7c2627d2fcf0e98f00f4b5133c675b) ∷
    (11598596533214145045, 0x903a0ba2ea2ca8f5437e5be478c48c8bf8cc9e7e0977fdac77f035e28a746123) ∷
    (15029995210695702206, 0xe6ffd56054c55326951ec50c8162fa15bb2a4675568e6079b72b6d01388f09cc) ∷
    (4275622841742845043, 0x8d8421b0e37dc4cd3ca80e1f4adb5cd66e592471752a5dfa6cad1b0fde5d603f) ∷
    (6017222422878300978, 0x2220277957bb0f1bbf24db842bfff1967a30bb6e6f03664d388a96150eb611c7) ∷
    (17285315971341204454, 0x2bf7c1e45bbebc12e8efa31b4cb99c301a22050e539a3e440e47c820907dd18e) ∷
    (5650291112758030279, 0x53b4b592fd6955db8745c34b1925222da9a55c92fc4b27796a0b138f306542e3) ∷
    (17648542404913273028, 0x4c061cdfd5f626c59046fd736befca8e90dd76d5fe4cb803801be0ccca066df5) ∷
    (17832037194716551455, 0x300d144c84bbacb7c5daef89fee5d9f615e18e8beaf9d435b478679bf0e9200b) ∷
    (6818374007618001315, 0xffe0dfa262f93b921f288f59286848010376cc95ba3114b0b9917e70e1ac0d13) ∷
    []

abbrev foreign_coin_in_the_first_branch_run : List ℕ
foreign_coin_in_the_first_branch_run =
    lines (
    codes "party A" ∷
    codes "party B" ∷
    codes "honest A" ∷
    codes "secret A a 00112233445566778899aabbccddeeff" ∷
    codes "deposit A 100000000" ∷
    codes "deposit B 0" ∷
    codes "deposit B 0" ∷
    codes "--" ∷
    codes "advertise 0 x=#0 y=#1" ∷
    codes "commit 0 A" ∷
    codes "commit 0 B" ∷
    codes "endorse 0 A" ∷
    codes "endorse 0 B" ∷
    codes "init 0 A" ∷
    codes "init 0 B" ∷
    codes "fire init 0" ∷
    codes "sign B D:B 57996de0a3b654256453b6c438377c3a82fb93734db7ed14a30b61c573222527" ∷
    (codes "append 02000000000101c57f7d9a10132feec0b6f2f18a040057f7ca77c5f340e6dfa420b15c1f5f51100200000000ffffffff01000" ++
    codes "0000000000000220020ef1ef44ba56f1dd8706e717b2f292ad34e6926e1cb27c452b45d256f1ce4b8d4024202b9cde99529182b30119" ++
    codes "af392795ab7f0af17ca357a96a2518587545debaea12057996de0a3b654256453b6c438377c3a82fb93734db7ed14a30b61c57322252" ++
    codes "701232102b9cde99529182b30119af392795ab7f0af17ca357a96a2518587545debaea120ac00000000") ∷
    codes "reveal 0 A a" ∷
    codes "sign B B:0:r.0:B 53b4b592fd6955db8745c34b1925222da9a55c92fc4b27796a0b138f306542e3" ∷
    codes "sign B D:B 53b4b592fd6955db8745c34b1925222da9a55c92fc4b27796a0b138f306542e3" ∷
    (codes "append 020000000001019cecaf523130f12f5af8f334d418bd3d1b7c2627d2fcf0e98f00f4b5133c675b0000000000ffffffff01000" ++
    codes "0000000000000220020dea928c30c3398fe40b726c00661d4b3d3f288ff2ab0f31acd42cec04c2370eb05420235fc277c05597b9d5b6" ++
    codes "67c63c706ba589607a00daa433e8e5192b5da5be35aed53b4b592fd6955db8745c34b1925222da9a55c92fc4b27796a0b138f306542e" ++
    codes "3014202c3048eb8a63ed41ea7b9fd55fb07a87736e61f4190c6603e48bd46951789fdb853b4b592fd6955db8745c34b1925222da9a55" ++
    codes "c92fc4b27796a0b138f306542e3011000112233445566778899aabbccddeeff0101bf63827660020902a5696ba820a8faed6abbf35c1" ++
    codes "2a4b26e40f6feb19d736d90045c83b9f9a31f638d323e6811886c5169752102c3048eb8a63ed41ea7b9fd55fb07a87736e61f4190c66" ++
    codes "03e48bd46951789fdb8ad210235fc277c05597b9d5b667c63c706ba589607a00daa433e8e5192b5da5be35aedac672102f7e80ccb7d5" ++
    codes "4c4bdea466097bdf5ae0514a4d484095f28f5fdcf21607365e6c0ad21026cb28c3fb4019e0b14b7f21fbddabd99301bf8e04955429d9" ++
    codes "0eadc7b113aae30ac6800000000") ∷
    [])

abbrev timed_commitment_bitml : List ℕ
timed_commitment_bitml =
    codes "{A:! 100000000 @ x | B:! 0 @ y | A: secret a} (reveal a . withdraw A + after 1000 : withdraw B)"

abbrev foreign_coin_in_the_first_branch_text : List ℕ
foreign_coin_in_the_first_branch_text =
    lines (
    codes "start #0 A 100000000" ∷
    codes "start #1 B 0" ∷
    codes "start #2 B 0" ∷
    codes "event 1 advertise 0 x=#0 y=#1" ∷
    codes "done" ∷
    codes "step advertise 0 x=#0 y=#1" ∷
    codes "event 2 commit 0 A" ∷
    codes "done" ∷
    codes "step commit 0 A a=0" ∷
    codes "event 3 commit 0 B" ∷
    codes "done" ∷
    codes "step commit 0 B" ∷
    codes "event 4 endorse 0 A" ∷
    codes "done" ∷
    codes "event 5 endorse 0 B" ∷
    codes "done" ∷
    codes "event 6 init 0 A" ∷
    codes "done" ∷
    codes "step authinit 0 A x" ∷
    codes "event 7 init 0 B" ∷
    codes "done" ∷
    codes "step authinit 0 B y" ∷
    codes "event 8 fire init 0" ∷
    codes "accepted spends #0 #1 makes #3 100000000 lock 0" ∷
    codes "step init 0 -> #3" ∷
    codes "event 9 sign B D:B 57996de0a3b654256453b6c438377c3a82fb93734db7ed14a30b61c573222527" ∷
    codes "done" ∷
    (codes "event 10 append 02000000000101c57f7d9a10132feec0b6f2f18a040057f7ca77c5f340e6dfa420b15c1f5f51100200000000ffff" ++
    codes "ffff010000000000000000220020ef1ef44ba56f1dd8706e717b2f292ad34e6926e1cb27c452b45d256f1ce4b8d4024202b9cde99529" ++
    codes "182b30119af392795ab7f0af17ca357a96a2518587545debaea12057996de0a3b654256453b6c438377c3a82fb93734db7ed14a30b61" ++
    codes "c57322252701232102b9cde99529182b30119af392795ab7f0af17ca357a96a2518587545debaea120ac00000000") ∷
    codes "accepted spends #2 makes #4 0 lock 0" ∷
    codes "step authmove B" ∷
    codes "step move #2 -> Outside 0" ∷
    codes "event 11 reveal 0 A a" ∷
    codes "done" ∷
    codes "step reveal 0 A a" ∷
    codes "event 12 sign B B:0:r.0:B 53b4b592fd6955db8745c34b1925222da9a55c92fc4b27796a0b138f306542e3" ∷
    codes "done" ∷
    codes "event 13 sign B D:B 53b4b592fd6955db8745c34b1925222da9a55c92fc4b27796a0b138f306542e3" ∷
    codes "done" ∷
    (codes "event 14 append 020000000001019cecaf523130f12f5af8f334d418bd3d1b7c2627d2fcf0e98f00f4b5133c675b0000000000ffff" ++
    codes "ffff010000000000000000220020dea928c30c3398fe40b726c00661d4b3d3f288ff2ab0f31acd42cec04c2370eb05420235fc277c05" ++
    codes "597b9d5b667c63c706ba589607a00daa433e8e5192b5da5be35aed53b4b592fd6955db8745c34b1925222da9a55c92fc4b27796a0b13" ++
    codes "8f306542e3014202c3048eb8a63ed41ea7b9fd55fb07a87736e61f4190c6603e48bd46951789fdb853b4b592fd6955db8745c34b1925" ++
    codes "222da9a55c92fc4b27796a0b138f306542e3011000112233445566778899aabbccddeeff0101bf63827660020902a5696ba820a8faed" ++
    codes "6abbf35c12a4b26e40f6feb19d736d90045c83b9f9a31f638d323e6811886c5169752102c3048eb8a63ed41ea7b9fd55fb07a87736e6" ++
    codes "1f4190c6603e48bd46951789fdb8ad210235fc277c05597b9d5b667c63c706ba589607a00daa433e8e5192b5da5be35aedac672102f7" ++
    codes "e80ccb7d54c4bdea466097bdf5ae0514a4d484095f28f5fdcf21607365e6c0ad21026cb28c3fb4019e0b14b7f21fbddabd99301bf8e0" ++
    codes "4955429d90eadc7b113aae30ac6800000000") ∷
    codes "refused ScriptFalse 0" ∷
    codes "end" ∷
    codes "tip 0" ∷
    codes "live #3 100000000" ∷
    codes "live #4 0" ∷
    codes "time 0" ∷
    codes "deposit #4 Outside 0" ∷
    codes "contract #3 0 r 100000000" ∷
    codes "secret 0 A a 0 revealed" ∷
    codes "offer fire #3 0" ∷
    [])

foreign_coin_in_the_first_branch :
    replies (sha_of foreign_coin_in_the_first_branch_hashes) (codes "play" ∷ codes "foreign_coin_in_the_first_branch.run"
    ∷ codes "timed_commitment.bitml" ∷ [])
    ((codes "foreign_coin_in_the_first_branch.run", foreign_coin_in_the_first_branch_run)
    ∷ (codes "timed_commitment.bitml", timed_commitment_bitml) ∷ [])
    ≡ prints 0 foreign_coin_in_the_first_branch_text
unfolding is_name word_prefix number_prefix symbol_prefix read_answer advert_of_all advert_at entries_at entry_at head_at deposit_at
    secret_at fee_at choice_with branches_at branch_at parts_at auth_at after_at put_at reveal_at split_at reveals_at puts_at
    put_reveals_at headed_at one_branch_at condition_at names_from test_at comparison_at formula_at constant_at length_at withdraw_at
    digits label_text stripped marked compact places_list sequences_list outputs_list preimage position_script many wide_at compact_at
    string_at input_at inputs_at output_at outputs_at witness_at witnesses_at plain_at marked_at transaction_at all_at script_meaning
    ops_of number_of_item signed_bytes item_of_number play_text
foreign_coin_in_the_first_branch = refl

abbrev foreign_coin_in_the_second_branch_hashes : List (ℕ × ℕ)
foreign_coin_in_the_second_branch_hashes =
    (6263475112473494384, 0x7229f4752ae1ba4b759ef76952f0c8df40d1a396a4c7936375d78e0e20f9f953) ∷
    (17481214125729887496, 0x8b59d7e9c1c4fb6e164fbef0d3410718f12ae139cc38f193e2a0b18f8f37ce2d) ∷
    (6263475112473494385, 0xb9cde99529182b30119af392795ab7f0af17ca357a96a2518587545debaea120) ∷
    (3849898363207402157, 0xdea928c30c3398fe40b726c00661d4b3d3f288ff2ab0f31acd42cec04c2370eb) ∷
    (7940423839961126319, 0x77622677febceee0dfd889c107524d29e4b82fa006e34e793cff74d9a20b70c0) ∷
    (16322170128572445110, 0xc57f7d9a10132feec0b6f2f18a040057f7ca77c5f340e6dfa420b15c1f5f5110) ∷
    (17037915857484479048, 0xa8faed6abbf35c12a4b26e40f6feb19d736d90045c83b9f9a31f638d323e6811) ∷
    (5573038168341886136, 0xc3048eb8a63ed41ea7b9fd55fb07a87736e61f4190c6603e48bd46951789fdb8) ∷
    (5573038168341886137, 0x35fc277c05597b9d5b667c63c706ba589607a00daa433e8e5192b5da5be35aed) ∷
    (13093935892652221089, 0xf7e80ccb7d54c4bdea466097bdf5ae0514a4d484095f28f5fdcf21607365e6c0) ∷
    (13093935892652221090, 0x6cb28c3fb4019e0b14b7f21fbddabd99301bf8e04955429d90eadc7b113aae30) ∷
    (5426021975540570408, 0xb56bbb2d4a77ebef8e3d0644fb48947ec07b2b2ef92057ae62cc5edd44a0f4f4) ∷
    (5426021975540570409, 0x2b7f337ae184820e74399095380ee2176e63fa49d65dd28edc0152463464276b) ∷
    (10774032180729049405, 0xef1ef44ba56f1dd8706e717b2f292ad34e6926e1cb27c452b45d256f1ce4b8d4) ∷
    (12653293855944049257, 0xb05019574d24a74088001cc824a67f9eae62988fc97538e5d9f94eebbe24c124) ∷
    (6185380809243841683, 0xa63984643752c36ff690ed2aa608d0550efced5f9c6bc8de64618c275fc296d4) ∷
    (8657951777914837089, 0x006345514f7cdc59bc4c813b29963484f915aa990fd8168b00b1f9bf0e2b7295) ∷
    (14610737700832599626, 0x915d89e9b5fdace773586485eb586e68cc31f233c7f1b013961c3523a0254cdf) ∷
    (14376305522832806550, 0xd68892270a4358c723fefd6c3df811000689d276a7b15205c65037a41a989cce) ∷
    (16135954257557145446, 0xc992651ac89a97aecd0811c1761915a8e2c8f5153d1bdd994a789e6bd86ab717) ∷
    (12164856700598922693, 0x4be84bb5fae1be5dd0114f3d7178b0250012ad433e39c5173fe5ea3e6e071ddb) ∷
    (16154298279012345322, 0x98978243bc9cabd94bb2461f7a2e796740ba68723c8b5227bd3902719f034b0a) ∷
    (5949352428894949105, 0x3cb274283b31f1e8d9a48feee7c2e93ff4fb535752e55373d9c8a07977dfe5f5) ∷
    (11891367605282658574, 0xa8c462ddd437b1c3c62ea74ee20a92060229eb142320204cc45dce8130e5fa17) ∷
    (11726219747288611420, 0x975ec026afaff0e5ed0f022fda8870354852e061e8d16c32e3b3693a4aa2f498) ∷
    (6430878260627464785, 0xd85d3a5aca405535331801b196fd537dd433b37406c0fdafdee59f51f4453761) ∷
    (1305186188083108804, 0x076da2f9f647fbcb9903a88f8af5241446df8d2046fafa1ed165dd92c637ac27) ∷
    (8626675642521968349, 0x76931e5741db766b50596bcd8f1dc6ff4705733a73ada1a0f80209e04d4b4a4b) ∷
    (7895117568629025459, 0xcf925c94e99bd865a6444554cf08e66b574852a2a6065ffc6f36f5d849899157) ∷
    (4241883037392309872, 0x23f232734ac4727b983b1cbea882dac63a549ad3305adec5e9028dc48fc265d5) ∷
    (3063034484007188991, 0x76e788f5158a36c0888713535db946fd0ec7faaed5e394553a3f305ed880580e) ∷
    (5040092498882930355, 0xb4248c210a2905b94345e1a8414d0e12efcfb2f4f0f2397159a71283397a0ccd) ∷
    (204552439812090982, 0x18606b350cd8bf565266bc352f0caddcf01e8fa789dd8a15386327cf8cabe198) ∷
    (10717107888865064393, 0xb6b1f32a85c185d9e435072240be9dd38c81691eaa07ee72621c7013a0e1e844) ∷
    (14975464254959500475, 0xdaae92049e3ef071d6f59a008df46c690213b955ae148bc637a841e05178a884) ∷
    (6181784535594932105, 0x8b8f4977dbe239a40d93662b78395ac96b6aef84fbf72444fe12ae422a255dcb) ∷
    (9408443810621485054, 0x8a38958f046652f9e69283e09165ff39a34ac3f0a0f0216c8938bbace3bc690d) ∷
    (10762143940942772993, 0x0b29b60ab79dac8d4bb6a2214c9ef09c15709b7c126745f03d849e3379769911) ∷
    (6403801715689375844, 0xe57dd83fc22cebeb31d347e811f7cf3f42a986584877b00eff26e20bd776aa40) ∷
    (13817512112463764919, 0xb0418184484cf839474b5ed36c37e06cf43787c284ba9668ac4ab41f66c6e9a1) ∷
    (10248455541328602476, 0xe8ea5b508e7a4c1768c94c23a44e6fbdd93b14e44ff640616a8058dd7eceb925) ∷
    (15292662054492276978, 0xbb046fc2f1874bdc0e3035ca85a47d5e7d596a43c1790558d2678cd22fcd0470) ∷
    (5546202068078806565, 0xbea2e0fda373d44cff12f2d780597580cc3cf3a28126fd6349d03649d1e7cd18) ∷
    (2468862532148562938, 0x9b2f3fcbd751ae922666ff838d265ff7a7920e5a10470839511927457f2152e7) ∷
    (13357559603855454155, 0xcc38559798651abf435e81e04c4b7735b2c13691720923045ea8e082216b32d4) ∷
    (193931230098049589, 0x5a53e5833da7f761b36da3ea6141542bb46eeb17308f4c578c58a607fca63276) ∷
    (357461678325169580, 0xbd1c0e817742ad0a0a78ac78e2a3df61eeeac4cdea7421ef1ad38056a4b00e2c) ∷
    (3506861022763790094, 0x60dfbf31f56817680f1309fa61aca9fc21d061804340a1dc22feb2d251ac91d0) ∷
    (17870826997635207490, 0xb1864b2ef25b63c72012608d8c1dd9cb5c0fbe97befbac88e1eedd92b4e87b95) ∷
    (15134187838516307553, 0xc2abb799511871c6d4c05712515d5aa0ead8271c2b9960d8e24c1b41bc0026d9) ∷
    (1092708850527945768, 0x16c473ba828f8468e5705a05a41624dfeb9adb52b8b9206299521e68a7dde213) ∷
    (17875780289362473456, 0x6103761c08ef9dc26560496f3189851197f6f106ea03a6a745455a805c944d46) ∷
    (9192803358001200414, 0x7107aecaa06448a5e0fa3b8046be05212081bd045c649c9b920d3f55ff7f56bb) ∷
    (5833967892796559272, 0xad95131bc0b799c0b1af477fb14fcf26a6a9f76079e48bf090acb7e8367bfd0e) ∷
    (16265357665784359392, 0x3bb13029ce7b1f559ef5e747fcac439f1455a2ec7c5f09b72290795e70665044) ∷
    (12933618519577977642, 0x7fba87cd6f394f838b81aca0f1beb5c24c09be864c7b90982f99f3dde3e9f038) ∷
    (9724136107311744809, 0xad2f94d29593d1b8f98f421d0463d785276e545fa7724b000ef7c56473c7fccb) ∷
    (5329699774678308543, 0xb3b19211a9b6c91a746a5df0bab46ee256ba194270e678fbb0da48b9d94a84dd) ∷
    (6053567001196755957, 0x57996de0a3b654256453b6c438377c3a82fb93734db7ed14a30b61c573222527) ∷
    (16995360119337609347, 0x8dabf00466a686be9057c8499600dd626fb2b11da87b23d62cb3ec250ac051c7) ∷
    (8994773916800726110, 0x9cecaf523130f12f5af8f334d418bd3d1b7c2627d2fcf0e98f00f4b5133c675b) ∷
    (11598596533214145045, 0x903a0ba2ea2ca8f5437e5be478c48c8bf8cc9e7e0977fdac77f035e28a746123) ∷
    (15029995210695702206, 0xe6ffd56054c55326951ec50c8162fa15bb2a4675568e6079b72b6d01388f09cc) ∷
    (4275622841742845043, 0x8d8421b0e37dc4cd3ca80e1f4adb5cd66e592471752a5dfa6cad1b0fde5d603f) ∷
    (6017222422878300978, 0x2220277957bb0f1bbf24db842bfff1967a30bb6e6f03664d388a96150eb611c7) ∷
    (17285315971341204454, 0x2bf7c1e45bbebc12e8efa31b4cb99c301a22050e539a3e440e47c820907dd18e) ∷
    (5650291112758030279, 0x53b4b592fd6955db8745c34b1925222da9a55c92fc4b27796a0b138f306542e3) ∷
    (17648542404913273028, 0x4c061cdfd5f626c59046fd736befca8e90dd76d5fe4cb803801be0ccca066df5) ∷
    (17832037194716551455, 0x300d144c84bbacb7c5daef89fee5d9f615e18e8beaf9d435b478679bf0e9200b) ∷
    (6818374007618001315, 0xffe0dfa262f93b921f288f59286848010376cc95ba3114b0b9917e70e1ac0d13) ∷
    []

abbrev foreign_coin_in_the_second_branch_run : List ℕ
foreign_coin_in_the_second_branch_run =
    lines (
    codes "party A" ∷
    codes "party B" ∷
    codes "honest A" ∷
    codes "secret A a 00112233445566778899aabbccddeeff" ∷
    codes "deposit A 100000000" ∷
    codes "deposit B 0" ∷
    codes "deposit B 0" ∷
    codes "--" ∷
    codes "advertise 0 x=#0 y=#1" ∷
    codes "commit 0 A" ∷
    codes "commit 0 B" ∷
    codes "endorse 0 A" ∷
    codes "endorse 0 B" ∷
    codes "init 0 A" ∷
    codes "init 0 B" ∷
    codes "fire init 0" ∷
    codes "sign B D:B 57996de0a3b654256453b6c438377c3a82fb93734db7ed14a30b61c573222527" ∷
    (codes "append 02000000000101c57f7d9a10132feec0b6f2f18a040057f7ca77c5f340e6dfa420b15c1f5f51100200000000ffffffff01000" ++
    codes "0000000000000220020ef1ef44ba56f1dd8706e717b2f292ad34e6926e1cb27c452b45d256f1ce4b8d4024202b9cde99529182b30119" ++
    codes "af392795ab7f0af17ca357a96a2518587545debaea12057996de0a3b654256453b6c438377c3a82fb93734db7ed14a30b61c57322252" ++
    codes "701232102b9cde99529182b30119af392795ab7f0af17ca357a96a2518587545debaea120ac00000000") ∷
    codes "sign B B:0:r.1:B 53b4b592fd6955db8745c34b1925222da9a55c92fc4b27796a0b138f306542e3" ∷
    codes "sign B D:B 53b4b592fd6955db8745c34b1925222da9a55c92fc4b27796a0b138f306542e3" ∷
    (codes "append 020000000001019cecaf523130f12f5af8f334d418bd3d1b7c2627d2fcf0e98f00f4b5133c675b0000000000ffffffff01000" ++
    codes "0000000000000220020dea928c30c3398fe40b726c00661d4b3d3f288ff2ab0f31acd42cec04c2370eb0442026cb28c3fb4019e0b14b" ++
    codes "7f21fbddabd99301bf8e04955429d90eadc7b113aae3053b4b592fd6955db8745c34b1925222da9a55c92fc4b27796a0b138f306542e" ++
    codes "3014202f7e80ccb7d54c4bdea466097bdf5ae0514a4d484095f28f5fdcf21607365e6c053b4b592fd6955db8745c34b1925222da9a55" ++
    codes "c92fc4b27796a0b138f306542e30100bf63827660020902a5696ba820a8faed6abbf35c12a4b26e40f6feb19d736d90045c83b9f9a31" ++
    codes "f638d323e6811886c5169752102c3048eb8a63ed41ea7b9fd55fb07a87736e61f4190c6603e48bd46951789fdb8ad210235fc277c055" ++
    codes "97b9d5b667c63c706ba589607a00daa433e8e5192b5da5be35aedac672102f7e80ccb7d54c4bdea466097bdf5ae0514a4d484095f28f" ++
    codes "5fdcf21607365e6c0ad21026cb28c3fb4019e0b14b7f21fbddabd99301bf8e04955429d90eadc7b113aae30ac6800000000") ∷
    [])

abbrev foreign_coin_in_the_second_branch_text : List ℕ
foreign_coin_in_the_second_branch_text =
    lines (
    codes "start #0 A 100000000" ∷
    codes "start #1 B 0" ∷
    codes "start #2 B 0" ∷
    codes "event 1 advertise 0 x=#0 y=#1" ∷
    codes "done" ∷
    codes "step advertise 0 x=#0 y=#1" ∷
    codes "event 2 commit 0 A" ∷
    codes "done" ∷
    codes "step commit 0 A a=0" ∷
    codes "event 3 commit 0 B" ∷
    codes "done" ∷
    codes "step commit 0 B" ∷
    codes "event 4 endorse 0 A" ∷
    codes "done" ∷
    codes "event 5 endorse 0 B" ∷
    codes "done" ∷
    codes "event 6 init 0 A" ∷
    codes "done" ∷
    codes "step authinit 0 A x" ∷
    codes "event 7 init 0 B" ∷
    codes "done" ∷
    codes "step authinit 0 B y" ∷
    codes "event 8 fire init 0" ∷
    codes "accepted spends #0 #1 makes #3 100000000 lock 0" ∷
    codes "step init 0 -> #3" ∷
    codes "event 9 sign B D:B 57996de0a3b654256453b6c438377c3a82fb93734db7ed14a30b61c573222527" ∷
    codes "done" ∷
    (codes "event 10 append 02000000000101c57f7d9a10132feec0b6f2f18a040057f7ca77c5f340e6dfa420b15c1f5f51100200000000ffff" ++
    codes "ffff010000000000000000220020ef1ef44ba56f1dd8706e717b2f292ad34e6926e1cb27c452b45d256f1ce4b8d4024202b9cde99529" ++
    codes "182b30119af392795ab7f0af17ca357a96a2518587545debaea12057996de0a3b654256453b6c438377c3a82fb93734db7ed14a30b61" ++
    codes "c57322252701232102b9cde99529182b30119af392795ab7f0af17ca357a96a2518587545debaea120ac00000000") ∷
    codes "accepted spends #2 makes #4 0 lock 0" ∷
    codes "step authmove B" ∷
    codes "step move #2 -> Outside 0" ∷
    codes "event 11 sign B B:0:r.1:B 53b4b592fd6955db8745c34b1925222da9a55c92fc4b27796a0b138f306542e3" ∷
    codes "done" ∷
    codes "event 12 sign B D:B 53b4b592fd6955db8745c34b1925222da9a55c92fc4b27796a0b138f306542e3" ∷
    codes "done" ∷
    (codes "event 13 append 020000000001019cecaf523130f12f5af8f334d418bd3d1b7c2627d2fcf0e98f00f4b5133c675b0000000000ffff" ++
    codes "ffff010000000000000000220020dea928c30c3398fe40b726c00661d4b3d3f288ff2ab0f31acd42cec04c2370eb0442026cb28c3fb4" ++
    codes "019e0b14b7f21fbddabd99301bf8e04955429d90eadc7b113aae3053b4b592fd6955db8745c34b1925222da9a55c92fc4b27796a0b13" ++
    codes "8f306542e3014202f7e80ccb7d54c4bdea466097bdf5ae0514a4d484095f28f5fdcf21607365e6c053b4b592fd6955db8745c34b1925" ++
    codes "222da9a55c92fc4b27796a0b138f306542e30100bf63827660020902a5696ba820a8faed6abbf35c12a4b26e40f6feb19d736d90045c" ++
    codes "83b9f9a31f638d323e6811886c5169752102c3048eb8a63ed41ea7b9fd55fb07a87736e61f4190c6603e48bd46951789fdb8ad210235" ++
    codes "fc277c05597b9d5b667c63c706ba589607a00daa433e8e5192b5da5be35aedac672102f7e80ccb7d54c4bdea466097bdf5ae0514a4d4" ++
    codes "84095f28f5fdcf21607365e6c0ad21026cb28c3fb4019e0b14b7f21fbddabd99301bf8e04955429d90eadc7b113aae30ac6800000000") ∷
    codes "refused ScriptFalse 0" ∷
    codes "end" ∷
    codes "tip 0" ∷
    codes "live #3 100000000" ∷
    codes "live #4 0" ∷
    codes "time 0" ∷
    codes "deposit #4 Outside 0" ∷
    codes "contract #3 0 r 100000000" ∷
    codes "secret 0 A a 0 hidden" ∷
    [])

foreign_coin_in_the_second_branch :
    replies (sha_of foreign_coin_in_the_second_branch_hashes) (codes "play" ∷ codes "foreign_coin_in_the_second_branch.run"
    ∷ codes "timed_commitment.bitml" ∷ [])
    ((codes "foreign_coin_in_the_second_branch.run", foreign_coin_in_the_second_branch_run)
    ∷ (codes "timed_commitment.bitml", timed_commitment_bitml) ∷ [])
    ≡ prints 0 foreign_coin_in_the_second_branch_text
unfolding is_name word_prefix number_prefix symbol_prefix read_answer advert_of_all advert_at entries_at entry_at head_at deposit_at
    secret_at fee_at choice_with branches_at branch_at parts_at auth_at after_at put_at reveal_at split_at reveals_at puts_at
    put_reveals_at headed_at one_branch_at condition_at names_from test_at comparison_at formula_at constant_at length_at withdraw_at
    digits label_text stripped marked compact places_list sequences_list outputs_list preimage position_script many wide_at compact_at
    string_at input_at inputs_at output_at outputs_at witness_at witnesses_at plain_at marked_at transaction_at all_at script_meaning
    ops_of number_of_item signed_bytes item_of_number play_text
foreign_coin_in_the_second_branch = refl
