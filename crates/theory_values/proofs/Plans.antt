-- Plans of compiled contracts.
use Rattle.std.proofs.Common.{◌≡◌, ℕ, List, [], ◌∷◌, ◌++◌, refl}
use Rattle.std.specs.Prelude.{codes}
use Rattle.std.specs.Fmt.{digits}
use Rattle.spec_terms.specs.Readable.{is_name}
use Rattle.spec_bitcoin.specs.Keys.{label_text}
use Rattle.spec_bitcoin.specs.Digests.{places_list, sequences_list, outputs_list, preimage}
use Rattle.spec_bitcoin.specs.Spelling.{stripped, marked, compact}
use Rattle.spec_bitcoin.specs.Reading.{many, wide_at, compact_at, string_at, input_at, inputs_at, output_at, outputs_at, witness_at}
use Rattle.spec_bitcoin.specs.Reading.{witnesses_at, plain_at, marked_at, transaction_at, all_at}
use Rattle.spec_bitcoin.specs.Meaning.{script_meaning}
use Rattle.spec_bitcoin.specs.Numbers.{number_of_item, signed_bytes, item_of_number}
use Rattle.spec_bitcoin.specs.Scripts.{ops_of}
use Rattle.spec_compiler.specs.Keyed.Instance.{position_script}
use Rattle.spec_text.specs.Lexis.{word_prefix, number_prefix, symbol_prefix}
use Rattle.spec_text.specs.ReadAdvert.{read_answer, advert_of_all, advert_at, entries_at, entry_at, head_at, deposit_at, secret_at, fee_at}
use Rattle.spec_text.specs.ReadContract.{withdraw_at, condition_at, reveals_at, puts_at, put_reveals_at, headed_at, one_branch_at}
use Rattle.spec_text.specs.ReadContract.{branches_at, choice_with, parts_at, auth_at, after_at, put_at, reveal_at, split_at, branch_at}
use Rattle.spec_text.specs.ReadTest.{constant_at, length_at, formula_at, comparison_at, test_at}
use Rattle.spec_text.specs.Reading.{names_from}
use Rattle.spec_text.specs.PlanText.{plan_text}
use Rattle.spec_tool.specs.Commands.{prints}
use Rattle.theory_values.specs.Replies.{lines, replies, sha_of, small_hash}

abbrev digest_to_sign_hashes : List (ℕ × ℕ)
digest_to_sign_hashes =
    (6263475112473494384, 0x7229f4752ae1ba4b759ef76952f0c8df40d1a396a4c7936375d78e0e20f9f953) ∷
    (17481214125729887496, 0x8b59d7e9c1c4fb6e164fbef0d3410718f12ae139cc38f193e2a0b18f8f37ce2d) ∷
    (6263475112473494385, 0xb9cde99529182b30119af392795ab7f0af17ca357a96a2518587545debaea120) ∷
    (3849898363207402157, 0xdea928c30c3398fe40b726c00661d4b3d3f288ff2ab0f31acd42cec04c2370eb) ∷
    (6940245956007985854, 0x7ac7a49ce808a25fe656bfe5d326e8d4cce50bffa5edcf388f43d980de5b892f) ∷
    (17923167281790383327, 0x1342d3f4c143b3fff43a53854244ac93fbe101081a634cd97e3457cd535a9ebe) ∷
    (5573038168341886136, 0xc3048eb8a63ed41ea7b9fd55fb07a87736e61f4190c6603e48bd46951789fdb8) ∷
    (5573038168341886137, 0x35fc277c05597b9d5b667c63c706ba589607a00daa433e8e5192b5da5be35aed) ∷
    (9963248011155847839, 0x521c173f18d45f26beeaccb5eb1b0da1ac9befd9e322394d6ac873ae41e00f16) ∷
    (15249646758307139668, 0xb9895531d48741c3a903fc1d0feeee1879463840eca2d47cdaeed6176402b825) ∷
    (5349978570533326636, 0xa58c7c8606924436f326a9d1201337456f58a18d70a0e6e9ba0903028d8bdd17) ∷
    (3006469424639646859, 0x0d0a0824a477dcbbb855b7479b6ef6dcb04abe733ea64bf0bac4de925bce6914) ∷
    (6496686924959639473, 0xd5d4ad90b887f5d9a018d8fa3c829555d3a292ad301efb13bbffe26d1c9ebaa9) ∷
    (14376305522832806550, 0xd68892270a4358c723fefd6c3df811000689d276a7b15205c65037a41a989cce) ∷
    (16135954257557145446, 0xc992651ac89a97aecd0811c1761915a8e2c8f5153d1bdd994a789e6bd86ab717) ∷
    (13021554593279250178, 0x10e9a3c1c847b89147c4cdd9069da67aa91d13ae7ed47aabeb5e200bd47eb932) ∷
    (11687344248534740932, 0xdd521281535378fae0671c9baf350adb866cb0f4df6211eac8852125f8cba26d) ∷
    (16191936318502588229, 0x8c6fd5b7ab8359861e5efc1f20c74771e7e03a5d290c5d4d5230b9c23e7cdf02) ∷
    (6121463798368903115, 0xf928b9a85ab1b8b138de75081afe078ecddf0f6996c9a1bf41f9bec88f318734) ∷
    (7867596654559841469, 0xf511c24543a49503b0a650ed31ae8d2bb0e6651310e1bf58ec1151cda6b56f89) ∷
    (13806974851227145462, 0xd55bcfea558143d50c1917d2270b69f24a9b4506c4ae7614ac928a3f8872c017) ∷
    (14581820449234771032, 0x43c0aed9522035c63cde9d4b62e6f4f0602c85faf1d09f948252a5ab4c88cc6f) ∷
    (17525434239707886955, 0x852f84565d6e20f9403d5bfc2a1da590be1192f07cb1ea734d3ec755731fb84d) ∷
    (3357892891764100991, 0xa26c02fe3d0e41afbbfb3dc287b69e360d25468d137d6097493f585b49ce62ed) ∷
    (11416467924956367296, 0xe58e88cf9e262c4e550ef963cd35cb73eba65e6e06d0c2470cff84a61e87ffa3) ∷
    (5040092498882930355, 0xb4248c210a2905b94345e1a8414d0e12efcfb2f4f0f2397159a71283397a0ccd) ∷
    (204552439812090982, 0x18606b350cd8bf565266bc352f0caddcf01e8fa789dd8a15386327cf8cabe198) ∷
    (14824868751186559921, 0x8113af5c70af40ea2cde0d2db14c7267442f30bca0ea573eb6cd626f84f66552) ∷
    (18121445001047633157, 0x1fc166fcadb3e0eaa1f770915cb661fbb902653c1842838a731db8d0aa39e7f0) ∷
    (16347151510954493546, 0x850e36723085f4d6df499758828b468a60bf9ed319b89b0f6ea199a2eecab329) ∷
    (10754607227032702923, 0xa132296ed1297e6bf0d0c7937721c804ef54b3273c8e23c4e93fc98722b4b7ad) ∷
    []

abbrev digest_to_sign_run : List ℕ
digest_to_sign_run =
    lines (
    codes "party A" ∷
    codes "party B" ∷
    codes "honest A" ∷
    codes "deposit A 10" ∷
    codes "deposit B 0" ∷
    codes "--" ∷
    codes "advertise 0 x=#0 y=#1" ∷
    codes "commit 0 A" ∷
    codes "commit 0 B" ∷
    codes "endorse 0 A" ∷
    codes "endorse 0 B" ∷
    codes "init 0 A" ∷
    codes "init 0 B" ∷
    [])

abbrev withdrawal_with_consent_bitml : List ℕ
withdrawal_with_consent_bitml =
    codes "{A:! 10 @ x | B:! 0 @ y} B : withdraw A"

abbrev digest_to_sign_text : List ℕ
digest_to_sign_text =
    lines (
    codes "contract 0 compiled" ∷
    (codes "script r 2102c3048eb8a63ed41ea7b9fd55fb07a87736e61f4190c6603e48bd46951789fdb8ad210235fc277c05597b9d5b667c63c" ++
    codes "706ba589607a00daa433e8e5192b5da5be35aedac") ∷
    (codes "tx init 17dd8b8d020309bae9e6a0708da1586f45371320d1a926f336449206867c8ca5 02000000021342d3f4c143b3fff43a53854" ++
    codes "244ac93fbe101081a634cd97e3457cd535a9ebe0000000000feffffff1342d3f4c143b3fff43a53854244ac93fbe101081a634cd97e3" ++
    codes "457cd535a9ebe0100000000feffffff010a00000000000000220020521c173f18d45f26beeaccb5eb1b0da1ac9befd9e322394d6ac87" ++
    codes "3ae41e00f1600000000") ∷
    codes "digest init 0 f928b9a85ab1b8b138de75081afe078ecddf0f6996c9a1bf41f9bec88f318734" ∷
    codes "digest init 1 d55bcfea558143d50c1917d2270b69f24a9b4506c4ae7614ac928a3f8872c017" ∷
    (codes "tx r.0 4db81f7355c73e4d73eab17cf09211be90a51d2afc5b3d40f9206e5d56842f85 0200000001a58c7c8606924436f326a9d120" ++
    codes "1337456f58a18d70a0e6e9ba0903028d8bdd170000000000feffffff010a000000000000002200208b59d7e9c1c4fb6e164fbef0d341" ++
    codes "0718f12ae139cc38f193e2a0b18f8f37ce2d00000000") ∷
    codes "digest r.0 0 a132296ed1297e6bf0d0c7937721c804ef54b3273c8e23c4e93fc98722b4b7ad" ∷
    [])

digest_to_sign :
    replies (sha_of digest_to_sign_hashes) (codes "plan" ∷ codes "digest_to_sign.run" ∷ codes "withdrawal_with_consent.bitml" ∷ [])
    ((codes "digest_to_sign.run", digest_to_sign_run) ∷ (codes "withdrawal_with_consent.bitml", withdrawal_with_consent_bitml) ∷ [])
    ≡ prints 0 digest_to_sign_text
unfolding is_name word_prefix number_prefix symbol_prefix read_answer advert_of_all advert_at entries_at entry_at head_at deposit_at
    secret_at fee_at choice_with branches_at branch_at parts_at auth_at after_at put_at reveal_at split_at reveals_at puts_at
    put_reveals_at headed_at one_branch_at condition_at names_from test_at comparison_at formula_at constant_at length_at withdraw_at
    digits label_text stripped marked compact places_list sequences_list outputs_list preimage position_script many wide_at compact_at
    string_at input_at inputs_at output_at outputs_at witness_at witnesses_at plain_at marked_at transaction_at all_at script_meaning
    ops_of number_of_item signed_bytes item_of_number plan_text
digest_to_sign = refl

abbrev equal_siblings_hashes : List (ℕ × ℕ)
equal_siblings_hashes =
    (6263475112473494384, 0x7229f4752ae1ba4b759ef76952f0c8df40d1a396a4c7936375d78e0e20f9f953) ∷
    (17481214125729887496, 0x8b59d7e9c1c4fb6e164fbef0d3410718f12ae139cc38f193e2a0b18f8f37ce2d) ∷
    (6263475112473494385, 0xb9cde99529182b30119af392795ab7f0af17ca357a96a2518587545debaea120) ∷
    (3849898363207402157, 0xdea928c30c3398fe40b726c00661d4b3d3f288ff2ab0f31acd42cec04c2370eb) ∷
    (6940245956007985854, 0x7ac7a49ce808a25fe656bfe5d326e8d4cce50bffa5edcf388f43d980de5b892f) ∷
    (17923167281790383327, 0x1342d3f4c143b3fff43a53854244ac93fbe101081a634cd97e3457cd535a9ebe) ∷
    (5573038168341886136, 0xc3048eb8a63ed41ea7b9fd55fb07a87736e61f4190c6603e48bd46951789fdb8) ∷
    (5573038168341886137, 0x35fc277c05597b9d5b667c63c706ba589607a00daa433e8e5192b5da5be35aed) ∷
    (13093935892652221089, 0xf7e80ccb7d54c4bdea466097bdf5ae0514a4d484095f28f5fdcf21607365e6c0) ∷
    (13093935892652221090, 0x6cb28c3fb4019e0b14b7f21fbddabd99301bf8e04955429d90eadc7b113aae30) ∷
    (5218077182611334009, 0xd051bab5a6e6ef40268f5767f1aa96e076046915bfdba3d028e1c099b736dcc5) ∷
    (11108074854066526287, 0x46feef12b91385fab435940b2fb84e6394d27e6423eee5e545d00da530b60002) ∷
    (9156253238435243906, 0x6e532d4660bbd60cddbec08bc0a412151475b9105b0e0adcb3f02922552b7f86) ∷
    (3006469424639646859, 0x0d0a0824a477dcbbb855b7479b6ef6dcb04abe733ea64bf0bac4de925bce6914) ∷
    (6496686924959639473, 0xd5d4ad90b887f5d9a018d8fa3c829555d3a292ad301efb13bbffe26d1c9ebaa9) ∷
    (14376305522832806550, 0xd68892270a4358c723fefd6c3df811000689d276a7b15205c65037a41a989cce) ∷
    (16135954257557145446, 0xc992651ac89a97aecd0811c1761915a8e2c8f5153d1bdd994a789e6bd86ab717) ∷
    (9134720086450100301, 0xf94a3edc1e1b73591e51ce495fa5b7ff9ddb40cb52345274b123115e328e09f0) ∷
    (16375415793366808261, 0xedbdf29bdaeda793006821929b9c82f4f0ecdd6504c1b79f0da9222bb540c06e) ∷
    (16300710410502953068, 0x0266ea277a1f70d5d275a38d145cbf43cfbf3868b30840ea6d5d672c6ea8f482) ∷
    (4777220361823343036, 0x0552a0d48b650374973fdc3c1dca0904c2d47129787c01ba5e433d0342a6f21d) ∷
    (7976370746560206308, 0xd3a013a15eb9ac987c8f6de723e94adf4fca000c2bf53cb4a87db0d6c5734521) ∷
    (10300641680151763092, 0x6cea573a3b9573275d328c9ae9c3a10045f9ed4fe15578393a38e8ba15633120) ∷
    (8237459651013933835, 0xe0fb58442473765a21a244f764716d52578404ff4313f1c7516d1bfef2aa56da) ∷
    (3757853209273615531, 0x4e8f2d941e1fd5bc996b597dafd3762c36b0fc7ec3f44724090c2f284e7d7945) ∷
    (13990058678377766818, 0x6bdb7b9d24ddf16b55e379ed03c91e581997f2574cb51f32758d2827e7e3172a) ∷
    (953368072192155814, 0x0cb4c673fe9c8aedef7aa5515713f137680d9f0d650de95157c905cd8dc28ea3) ∷
    (5040092498882930355, 0xb4248c210a2905b94345e1a8414d0e12efcfb2f4f0f2397159a71283397a0ccd) ∷
    (204552439812090982, 0x18606b350cd8bf565266bc352f0caddcf01e8fa789dd8a15386327cf8cabe198) ∷
    (3039067719458073037, 0xd14a0c6ba085357bbef4f9da8307155294658ad40bf98de90023b339f017cdbb) ∷
    (14862273562077776264, 0xb4a5634e3c5f9b34ff4fad522b831417ee4dae8c5054c6fc0766bb03d444d821) ∷
    (7671440805180193032, 0x12e1c772b70b5e49aceefb85448d35c31dba51b246115b66f50160c89555b132) ∷
    (14068897643919567365, 0x3aefd82df945653fe135cdbfc928b6d64c0f07ab18804800317cd02976a86cbd) ∷
    []

abbrev either_consents_bitml : List ℕ
either_consents_bitml =
    codes "{A:! 10 @ x | B:! 0 @ y} (A : withdraw B + B : withdraw B)"

abbrev equal_siblings_text : List ℕ
equal_siblings_text =
    lines (
    codes "contract 0 compiled" ∷
    (codes "script r 632102c3048eb8a63ed41ea7b9fd55fb07a87736e61f4190c6603e48bd46951789fdb8ad210235fc277c05597b9d5b667c6" ++
    codes "3c706ba589607a00daa433e8e5192b5da5be35aedac672102f7e80ccb7d54c4bdea466097bdf5ae0514a4d484095f28f5fdcf2160736" ++
    codes "5e6c0ad21026cb28c3fb4019e0b14b7f21fbddabd99301bf8e04955429d90eadc7b113aae30ac68") ∷
    (codes "tx init 867f2b552229f0b3dc0a0e5b10b975141512a4c08bc0bedd0cd6bb60462d536e 02000000021342d3f4c143b3fff43a53854" ++
    codes "244ac93fbe101081a634cd97e3457cd535a9ebe0000000000feffffff1342d3f4c143b3fff43a53854244ac93fbe101081a634cd97e3" ++
    codes "457cd535a9ebe0100000000feffffff010a00000000000000220020d051bab5a6e6ef40268f5767f1aa96e076046915bfdba3d028e1c" ++
    codes "099b736dcc500000000") ∷
    codes "digest init 0 0552a0d48b650374973fdc3c1dca0904c2d47129787c01ba5e433d0342a6f21d" ∷
    codes "digest init 1 6cea573a3b9573275d328c9ae9c3a10045f9ed4fe15578393a38e8ba15633120" ∷
    (codes "tx r.0 45797d4e282f0c092447f4c37efcb0362c76d3af7d596b99bcd51f1e942d8f4e 02000000016e532d4660bbd60cddbec08bc0" ++
    codes "a412151475b9105b0e0adcb3f02922552b7f860000000000feffffff010a00000000000000220020dea928c30c3398fe40b726c00661" ++
    codes "d4b3d3f288ff2ab0f31acd42cec04c2370eb00000000") ∷
    codes "digest r.0 0 3aefd82df945653fe135cdbfc928b6d64c0f07ab18804800317cd02976a86cbd" ∷
    (codes "tx r.1 45797d4e282f0c092447f4c37efcb0362c76d3af7d596b99bcd51f1e942d8f4e 02000000016e532d4660bbd60cddbec08bc0" ++
    codes "a412151475b9105b0e0adcb3f02922552b7f860000000000feffffff010a00000000000000220020dea928c30c3398fe40b726c00661" ++
    codes "d4b3d3f288ff2ab0f31acd42cec04c2370eb00000000") ∷
    codes "digest r.1 0 3aefd82df945653fe135cdbfc928b6d64c0f07ab18804800317cd02976a86cbd" ∷
    [])

equal_siblings :
    replies (sha_of equal_siblings_hashes) (codes "plan" ∷ codes "digest_to_sign.run" ∷ codes "either_consents.bitml" ∷ [])
    ((codes "digest_to_sign.run", digest_to_sign_run) ∷ (codes "either_consents.bitml", either_consents_bitml) ∷ [])
    ≡ prints 0 equal_siblings_text
unfolding is_name word_prefix number_prefix symbol_prefix read_answer advert_of_all advert_at entries_at entry_at head_at deposit_at
    secret_at fee_at choice_with branches_at branch_at parts_at auth_at after_at put_at reveal_at split_at reveals_at puts_at
    put_reveals_at headed_at one_branch_at condition_at names_from test_at comparison_at formula_at constant_at length_at withdraw_at
    digits label_text stripped marked compact places_list sequences_list outputs_list preimage position_script many wide_at compact_at
    string_at input_at inputs_at output_at outputs_at witness_at witnesses_at plain_at marked_at transaction_at all_at script_meaning
    ops_of number_of_item signed_bytes item_of_number plan_text
equal_siblings = refl

abbrev plan_before_all_committed_run : List ℕ
plan_before_all_committed_run =
    lines (
    codes "party A" ∷
    codes "party B" ∷
    codes "honest A" ∷
    codes "secret A a 00112233445566778899aabbccddeeff" ∷
    codes "deposit A 100000000" ∷
    codes "deposit B 0" ∷
    codes "--" ∷
    codes "advertise 0 x=#0 y=#1" ∷
    codes "commit 0 A" ∷
    [])

abbrev timed_commitment_bitml : List ℕ
timed_commitment_bitml =
    codes "{A:! 100000000 @ x | B:! 0 @ y | A: secret a} (reveal a . withdraw A + after 1000 : withdraw B)"

plan_before_all_committed :
    replies small_hash (codes "plan" ∷ codes "plan_before_all_committed.run" ∷ codes "timed_commitment.bitml" ∷ [])
    ((codes "plan_before_all_committed.run", plan_before_all_committed_run) ∷ (codes "timed_commitment.bitml", timed_commitment_bitml)
    ∷ [])
    ≡ prints 0 (lines (codes "contract 0 not compiled" ∷ []))
unfolding is_name word_prefix number_prefix symbol_prefix read_answer advert_of_all advert_at entries_at entry_at head_at deposit_at
    secret_at fee_at choice_with branches_at branch_at parts_at auth_at after_at put_at reveal_at split_at reveals_at puts_at
    put_reveals_at headed_at one_branch_at condition_at names_from test_at comparison_at formula_at constant_at length_at withdraw_at
    digits label_text stripped marked compact places_list sequences_list outputs_list preimage position_script many wide_at compact_at
    string_at input_at inputs_at output_at outputs_at witness_at witnesses_at plain_at marked_at transaction_at all_at script_meaning
    ops_of number_of_item signed_bytes item_of_number plan_text
plan_before_all_committed = refl

abbrev plan_of_a_commitment_hashes : List (ℕ × ℕ)
plan_of_a_commitment_hashes =
    (6263475112473494384, 0x7229f4752ae1ba4b759ef76952f0c8df40d1a396a4c7936375d78e0e20f9f953) ∷
    (17481214125729887496, 0x8b59d7e9c1c4fb6e164fbef0d3410718f12ae139cc38f193e2a0b18f8f37ce2d) ∷
    (6263475112473494385, 0xb9cde99529182b30119af392795ab7f0af17ca357a96a2518587545debaea120) ∷
    (3849898363207402157, 0xdea928c30c3398fe40b726c00661d4b3d3f288ff2ab0f31acd42cec04c2370eb) ∷
    (1881038146745535331, 0x8762b05314649e1f457e211929cb27a930c56e45192c8b5602d0997806eb3aab) ∷
    (17494544306395192129, 0xbf78527835c31ad6ef5a8995791a7014ee6eaf71eec8f422a0b8b06d371953a0) ∷
    (17037915857484479048, 0xa8faed6abbf35c12a4b26e40f6feb19d736d90045c83b9f9a31f638d323e6811) ∷
    (5573038168341886136, 0xc3048eb8a63ed41ea7b9fd55fb07a87736e61f4190c6603e48bd46951789fdb8) ∷
    (5573038168341886137, 0x35fc277c05597b9d5b667c63c706ba589607a00daa433e8e5192b5da5be35aed) ∷
    (13093935892652221089, 0xf7e80ccb7d54c4bdea466097bdf5ae0514a4d484095f28f5fdcf21607365e6c0) ∷
    (13093935892652221090, 0x6cb28c3fb4019e0b14b7f21fbddabd99301bf8e04955429d90eadc7b113aae30) ∷
    (5426021975540570408, 0xb56bbb2d4a77ebef8e3d0644fb48947ec07b2b2ef92057ae62cc5edd44a0f4f4) ∷
    (5426021975540570409, 0x2b7f337ae184820e74399095380ee2176e63fa49d65dd28edc0152463464276b) ∷
    (10774032180729049405, 0xef1ef44ba56f1dd8706e717b2f292ad34e6926e1cb27c452b45d256f1ce4b8d4) ∷
    (7852205412969748855, 0xd8286be54cd05ffb248e15299f9034e5fccbd933c4cf1e65d75a2b750c4445ed) ∷
    (2035364925140459882, 0x1d627ea6cd3c90bd7fa3e6078f39e62dadd7192490a43a5ea3ba06cc89757879) ∷
    (3958369157869030299, 0x6e3d3fbae024fb2eff9fefb40599567a7ae130e402a4c88790637835e0463656) ∷
    (12783523789036180418, 0xf356ec553d7ef56bedf62f3fec5277df1a8c659a5a88d837b26ed23496aa527b) ∷
    (14376305522832806550, 0xd68892270a4358c723fefd6c3df811000689d276a7b15205c65037a41a989cce) ∷
    (16135954257557145446, 0xc992651ac89a97aecd0811c1761915a8e2c8f5153d1bdd994a789e6bd86ab717) ∷
    (12164856700598922693, 0x4be84bb5fae1be5dd0114f3d7178b0250012ad433e39c5173fe5ea3e6e071ddb) ∷
    (16154298279012345322, 0x98978243bc9cabd94bb2461f7a2e796740ba68723c8b5227bd3902719f034b0a) ∷
    (13616911770291946672, 0xffc9ee37466edd3d93d2b2307aba681f31bf0dd1da77ddb9a81372fea496d1ae) ∷
    (4176279068845314306, 0x22af4b2f6f994e2fb25f158d45d00d526c556fa6a87b1ee15762cbf75d4b8548) ∷
    (947035014976057371, 0xfb9b9b0779ef03560d44f1eabc6fdddae4b3f65d58d6aa69aaecae6a8d07fd03) ∷
    (3756442854723913072, 0x2f36198b035ba842148bd09c58c902fa78a1fe76c89b3dc7f9a96bd78987c2bb) ∷
    (1305186188083108804, 0x076da2f9f647fbcb9903a88f8af5241446df8d2046fafa1ed165dd92c637ac27) ∷
    (9507370279712765663, 0x7a194df53e166763f70dfc319e0e8a62d4df3ca11342480190314fd997f0d521) ∷
    (10517929772682031156, 0x9fe0079099358ff370d62cf537747fb28130f83a1ac531dc23860ddaac57a56e) ∷
    (8206543930330840474, 0x7c74a1f6d48698c33d902e8bf2f91f5b926f0e679ccc59f6394f5fa4124f1d36) ∷
    (11911631449119430591, 0x9a9967cb8babfc998aa16002e1a7b97ae5a3007725880f604ad19628a6170ab5) ∷
    (5040092498882930355, 0xb4248c210a2905b94345e1a8414d0e12efcfb2f4f0f2397159a71283397a0ccd) ∷
    (204552439812090982, 0x18606b350cd8bf565266bc352f0caddcf01e8fa789dd8a15386327cf8cabe198) ∷
    (10717107888865064393, 0xb6b1f32a85c185d9e435072240be9dd38c81691eaa07ee72621c7013a0e1e844) ∷
    (14975464254959500475, 0xdaae92049e3ef071d6f59a008df46c690213b955ae148bc637a841e05178a884) ∷
    (17294031593152945983, 0xd7e088d209955c24c30f6314db36ee7598397fc737d8c2fb72f0e5288d1a0417) ∷
    (5624142601318637548, 0x70cda67cd71dd20a123d991f93607be650fd94b275c88e6dd358d04171834e03) ∷
    (7093821950847522796, 0x2c9c5b4094cec2eb5fad1da4b51f4f645a478ff636af4924ffbfe93526a0342d) ∷
    (7368703218764841461, 0xb32b648bd59bf7b633774c4d8a0f8e46d3d5c0050d40a7ecaad84d8850244156) ∷
    (217596255074483070, 0x6fc5703cc0dc92a392db8df1d5fc6183811e523a280d5d701e4c2cc97e84d32a) ∷
    (273013978009573800, 0xace24e7b9d10832cdcd75d4ca6485b451bec23241bb6a702ec2a298bc4b57c9b) ∷
    (15292662054492276978, 0xbb046fc2f1874bdc0e3035ca85a47d5e7d596a43c1790558d2678cd22fcd0470) ∷
    (5546202068078806565, 0xbea2e0fda373d44cff12f2d780597580cc3cf3a28126fd6349d03649d1e7cd18) ∷
    (3443006996408259851, 0x2201669bf92d5647ea4e900a83334b3d80413d95591a6703c20fad2bc812b759) ∷
    (10318328977828710050, 0x3e1b47fe5b33ffc1c97bcffaf2d26e97497d5af647e09a1b5104aea9595b5acf) ∷
    (1074625867288846903, 0xdd08640c56d2cf45eb1f25d5dcfdbcacd4fde9ae940db342995ea47e8ff13e93) ∷
    (2788454896740942806, 0x47e94fd188359c92eb60003409fabb1523b4140a2155274c84e09ec11d33d3b1) ∷
    (3506861022763790094, 0x60dfbf31f56817680f1309fa61aca9fc21d061804340a1dc22feb2d251ac91d0) ∷
    (17870826997635207490, 0xb1864b2ef25b63c72012608d8c1dd9cb5c0fbe97befbac88e1eedd92b4e87b95) ∷
    (7799690822364769815, 0x6b5f8f64226966a8e8458c5022d6fe37a485b5ff629a0abbc0fbd1308ccf071d) ∷
    (10836098106098401585, 0xbdb2ca62e39765d8c40dc16298fb7217aa7bf653d33c6aba0f91480a6049ed76) ∷
    []

abbrev plan_of_a_commitment_run : List ℕ
plan_of_a_commitment_run =
    lines (
    codes "party A" ∷
    codes "party B" ∷
    codes "honest A" ∷
    codes "secret A a 00112233445566778899aabbccddeeff" ∷
    codes "deposit A 100000000" ∷
    codes "deposit B 0" ∷
    codes "--" ∷
    codes "advertise 0 x=#0 y=#1" ∷
    codes "commit 0 A" ∷
    codes "commit 0 B" ∷
    [])

abbrev plan_of_a_commitment_text : List ℕ
plan_of_a_commitment_text =
    lines (
    codes "contract 0 compiled" ∷
    (codes "script r 63827660020902a5696ba820a8faed6abbf35c12a4b26e40f6feb19d736d90045c83b9f9a31f638d323e6811886c5169752" ++
    codes "102c3048eb8a63ed41ea7b9fd55fb07a87736e61f4190c6603e48bd46951789fdb8ad210235fc277c05597b9d5b667c63c706ba58960" ++
    codes "7a00daa433e8e5192b5da5be35aedac672102f7e80ccb7d54c4bdea466097bdf5ae0514a4d484095f28f5fdcf21607365e6c0ad21026" ++
    codes "cb28c3fb4019e0b14b7f21fbddabd99301bf8e04955429d90eadc7b113aae30ac68") ∷
    (codes "script r.0 2102b56bbb2d4a77ebef8e3d0644fb48947ec07b2b2ef92057ae62cc5edd44a0f4f4ad21022b7f337ae184820e7439909" ++
    codes "5380ee2176e63fa49d65dd28edc0152463464276bac") ∷
    (codes "tx init 79787589cc06baa35e3aa4902419d7ad2de6398f07e6a37fbd903ccda67e621d 0200000002bf78527835c31ad6ef5a89957" ++
    codes "91a7014ee6eaf71eec8f422a0b8b06d371953a00000000000feffffffbf78527835c31ad6ef5a8995791a7014ee6eaf71eec8f422a0b" ++
    codes "8b06d371953a00100000000feffffff0100e1f50500000000220020ef1ef44ba56f1dd8706e717b2f292ad34e6926e1cb27c452b45d2" ++
    codes "56f1ce4b8d400000000") ∷
    codes "digest init 0 22af4b2f6f994e2fb25f158d45d00d526c556fa6a87b1ee15762cbf75d4b8548" ∷
    codes "digest init 1 2f36198b035ba842148bd09c58c902fa78a1fe76c89b3dc7f9a96bd78987c2bb" ∷
    (codes "tx r.0 6ea557acda0d8623dc31c51a3af83081b27f7437f52cd670f38f35999007e09f 02000000011d627ea6cd3c90bd7fa3e6078f" ++
    codes "39e62dadd7192490a43a5ea3ba06cc897578790000000000feffffff0100e1f50500000000220020076da2f9f647fbcb9903a88f8af5" ++
    codes "241446df8d2046fafa1ed165dd92c637ac2700000000") ∷
    codes "digest r.0 0 70cda67cd71dd20a123d991f93607be650fd94b275c88e6dd358d04171834e03" ∷
    (codes "tx r.0.0 56412450884dd8aaeca7400d05c0d5d3468e0f8a4d4c7733b6f79bd58b642bb3 02000000019fe0079099358ff370d62cf5" ++
    codes "37747fb28130f83a1ac531dc23860ddaac57a56e0000000000feffffff0100e1f505000000002200208b59d7e9c1c4fb6e164fbef0d3" ++
    codes "410718f12ae139cc38f193e2a0b18f8f37ce2d00000000") ∷
    codes "digest r.0.0 0 3e1b47fe5b33ffc1c97bcffaf2d26e97497d5af647e09a1b5104aea9595b5acf" ∷
    (codes "tx r.1 b1d3331dc19ee0844c2755210a14b42315bbfa09340060eb929c3588d14fe947 02000000011d627ea6cd3c90bd7fa3e6078f" ++
    codes "39e62dadd7192490a43a5ea3ba06cc897578790000000000feffffff0100e1f50500000000220020dea928c30c3398fe40b726c00661" ++
    codes "d4b3d3f288ff2ab0f31acd42cec04c2370ebe8030000") ∷
    codes "digest r.1 0 bdb2ca62e39765d8c40dc16298fb7217aa7bf653d33c6aba0f91480a6049ed76" ∷
    [])

plan_of_a_commitment :
    replies (sha_of plan_of_a_commitment_hashes) (codes "plan" ∷ codes "plan_of_a_commitment.run" ∷ codes "timed_commitment.bitml" ∷ [])
    ((codes "plan_of_a_commitment.run", plan_of_a_commitment_run) ∷ (codes "timed_commitment.bitml", timed_commitment_bitml) ∷ [])
    ≡ prints 0 plan_of_a_commitment_text
unfolding is_name word_prefix number_prefix symbol_prefix read_answer advert_of_all advert_at entries_at entry_at head_at deposit_at
    secret_at fee_at choice_with branches_at branch_at parts_at auth_at after_at put_at reveal_at split_at reveals_at puts_at
    put_reveals_at headed_at one_branch_at condition_at names_from test_at comparison_at formula_at constant_at length_at withdraw_at
    digits label_text stripped marked compact places_list sequences_list outputs_list preimage position_script many wide_at compact_at
    string_at input_at inputs_at output_at outputs_at witness_at witnesses_at plain_at marked_at transaction_at all_at script_meaning
    ops_of number_of_item signed_bytes item_of_number plan_text
plan_of_a_commitment = refl
