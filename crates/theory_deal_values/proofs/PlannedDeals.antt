-- Plans and transactions for signers of deals.
use Rattle.std.proofs.Common.{◌≡◌, ℕ, List, [], ◌∷◌, ◌++◌, refl}
use Rattle.std.specs.Prelude.{codes}
use Rattle.std.specs.Fmt.{digits}
use Rattle.spec_terms.specs.Readable.{is_name}
use Rattle.spec_bitcoin.specs.Keys.{label_text}
use Rattle.spec_bitcoin.specs.Digests.{places_list, sequences_list, outputs_list, preimage}
use Rattle.spec_bitcoin.specs.Spelling.{stripped, marked, compact}
use Rattle.spec_bitcoin.specs.Reading.{many, wide_at, compact_at, string_at, input_at, inputs_at, output_at, outputs_at, witness_at}
use Rattle.spec_bitcoin.specs.Reading.{witnesses_at, plain_at, marked_at, transaction_at, all_at}
use Rattle.spec_bitcoin.specs.Meaning.{script_meaning}
use Rattle.spec_bitcoin.specs.Numbers.{number_of_item, signed_bytes, item_of_number}
use Rattle.spec_bitcoin.specs.Scripts.{ops_of}
use Rattle.spec_compiler.specs.Keyed.Instance.{position_script}
use Rattle.spec_text.specs.Lexis.{word_prefix, number_prefix, symbol_prefix}
use Rattle.spec_text.specs.ReadAdvert.{read_answer, advert_of_all, advert_at, entries_at, entry_at, head_at, deposit_at, secret_at, fee_at}
use Rattle.spec_text.specs.ReadContract.{withdraw_at, condition_at, reveals_at, puts_at, put_reveals_at, headed_at, one_branch_at}
use Rattle.spec_text.specs.ReadContract.{branches_at, choice_with, parts_at, auth_at, after_at, put_at, reveal_at, split_at, branch_at}
use Rattle.spec_text.specs.ReadTest.{constant_at, length_at, formula_at, comparison_at, test_at}
use Rattle.spec_text.specs.Reading.{names_from}
use Rattle.spec_tool.specs.Commands.{prints}
use Rattle.spec_tool.specs.Base64.{base64_text, base64_bytes}
use Rattle.spec_tool.specs.PsbtBytes.{psbt_of, psbt_bytes, records_at, maps_at}
use Rattle.spec_tool.specs.PsbtText.{psbt_text}
use Rattle.spec_deal.specs.Verifier.{accepting}
use Rattle.theory_values.specs.Replies.{lines, sha_of}
use Rattle.theory_deal_values.specs.Replies.{deal_replies}

abbrev one_bitml : List ℕ
one_bitml =
    lines (
    codes "{A:! 100000 @ x} fee 1000 withdraw A" ∷
    [])

abbrev one_deal : List ℕ
one_deal =
    lines (
    codes "key D:A 03913ffe7036ec1cefec5d4589d0c2e8e7b6a300c97e0a106cd9624f149bcda7f5" ∷
    codes "key B:0:r.0:A 03880380f4fe91faca6db3387f5c981c02fee0dbae9278e8dcf2e0769b15457907" ∷
    codes "deposit x c7d1ca1a29278ff9aa4d23bed0d2f777b570582f3a1ff735b4272fdeb4707691 0" ∷
    [])

abbrev one_deposit_is_planned_hashes : List (ℕ × ℕ)
one_deposit_is_planned_hashes =
    (1036274438926223542, 0xde0dd1cab63729151f3795efacf554fefe43bfa2fa606e6ca2bc471ba90909a9) ∷
    (7097232203985321870, 0xba7ce1a585f682f95c27e5dc30e70795007fd676d34d82795dd1fdd1b3052d43) ∷
    (835695501073600791, 0x3327324c2193716f09ab7993f3bdc1dec708e9ece108071dcb1195a7604bab2a) ∷
    (15187843044020192836, 0x8cfad6b1f5c62cb67b91da930039cec1a0aa7202753736571194f51de89bc13b) ∷
    (3853960291655568512, 0xd3d0eea99d77bb0ab1ce4896ac4ad709d09f81ddd4218c2d4b2376e43414aa7d) ∷
    (5040092498882930355, 0xb4248c210a2905b94345e1a8414d0e12efcfb2f4f0f2397159a71283397a0ccd) ∷
    (204552439812090982, 0x18606b350cd8bf565266bc352f0caddcf01e8fa789dd8a15386327cf8cabe198) ∷
    (11061800839734769446, 0xb40552e11782d7f6f21b82610fd66491e17db00fedac01155b43047b7e653f0d) ∷
    (3905210748132171836, 0x5c65bf99d38f59eeb4bcd5a18f61193b45bf25c886381c72121190b7d476080c) ∷
    (12358556445809014664, 0x0837869bb3c6571dd3200a3c75d6275ef0aea0a0a980d9f6cf414bdacfd7a791) ∷
    (15977958629578005499, 0x1f8523b2fcda66a2ba3d9862049ad3658616ab5b91569a90b6cf569660492ab5) ∷
    (3691551255371676412, 0x38c9f519e5fd595b443171894b9bbe98234079299289665bb3d6d1d010fcfdb9) ∷
    (255897143965099563, 0xdec3c15699a45e71cfc62eb2e3ffeadb62abef0a542a8c64f2c763e2e1ac096c) ∷
    (14863008153544590580, 0xe29c2aaa7e7e4eee705ac698d23a0cfa902c2616a84ff38f3e0bf80dadbc7fcf) ∷
    (14622224420326557440, 0x94bbeb117a400554207ca2c4a56d9842cd2cf447fe1998bc70ab9b2b2547a806) ∷
    (12486660610860327398, 0x775fc5ffac648280bcb890d3f617c238ffd51d904900043a079f313b5d8bc979) ∷
    (16090786647362180327, 0x7b5afcf5378fd294ef9f39db8963f19211776acbb93ab2044d21f7a696351b47) ∷
    (3928230425854582469, 0xe6cbc17c2a88c84a7496858298432137b8c4cc8dcdec11f17341e08e6226ca9e) ∷
    (17618832777366516799, 0xbefc76d58df9a4a312c7a9afb9a52d7da4a8bab2b9dd2a994a2becfe49b45f74) ∷
    (15875628272708571567, 0xa99dda9543730ec77317a9d236db04d3f26bc1a2a11a0b65059218fc850f9280) ∷
    []

-- A txid is shown with its bytes reversed, and a deposit's script is the hash of its owner's.
one_deposit_is_planned :
    deal_replies accepting (sha_of one_deposit_is_planned_hashes) (codes "plan" ∷ codes "one.bitml" ∷ codes "one.deal" ∷ [])
    ((codes "one.bitml", one_bitml) ∷ (codes "one.deal", one_deal) ∷ [])
    ≡ prints 0 (lines (
    codes "contract 0 compiled" ∷
    codes "script r 2103880380f4fe91faca6db3387f5c981c02fee0dbae9278e8dcf2e0769b15457907ac" ∷
    (codes "deposit x c7d1ca1a29278ff9aa4d23bed0d2f777b570582f3a1ff735b4272fdeb4707691 0 100000 002038c9f519e5fd" ++
    codes "595b443171894b9bbe98234079299289665bb3d6d1d010fcfdb9") ∷
    (codes "tx init 2aab4b60a79511cb1d0708e1ece908c7dec1bdf39379ab096f7193214c322733 0200000001917670b4de2f27b43" ++
    codes "5f71f3a2f5870b577f7d2d0be234daaf98f27291acad1c70000000000feffffff01b882010000000000220020de0dd1cab63" ++
    codes "729151f3795efacf554fefe43bfa2fa606e6ca2bc471ba90909a900000000") ∷
    codes "digest init 0 1f8523b2fcda66a2ba3d9862049ad3658616ab5b91569a90b6cf569660492ab5" ∷
    codes "sign init 0 D:A init" ∷
    (codes "tx r.0 cf7fbcad0df80b3e8ff34fa816262c90fa0c3ad298c65a70ee4e7e7eaa2a9ce2 02000000013327324c2193716f09" ++
    codes "ab7993f3bdc1dec708e9ece108071dcb1195a7604bab2a0000000000feffffff01d07e01000000000022002038c9f519e5fd" ++
    codes "595b443171894b9bbe98234079299289665bb3d6d1d010fcfdb900000000") ∷
    codes "digest r.0 0 a99dda9543730ec77317a9d236db04d3f26bc1a2a11a0b65059218fc850f9280" ∷
    codes "sign r.0 0 B:0:r.0:A endorse" ∷
    []))
unfolding is_name word_prefix number_prefix symbol_prefix read_answer advert_of_all advert_at entries_at entry_at head_at
    deposit_at secret_at fee_at choice_with branches_at branch_at parts_at auth_at after_at put_at reveal_at split_at
    reveals_at puts_at put_reveals_at headed_at one_branch_at condition_at names_from test_at comparison_at formula_at
    constant_at length_at withdraw_at digits label_text stripped marked compact places_list sequences_list
    outputs_list preimage position_script many wide_at compact_at string_at input_at inputs_at output_at outputs_at
    witness_at witnesses_at plain_at marked_at transaction_at all_at script_meaning ops_of number_of_item signed_bytes
    item_of_number base64_text base64_bytes psbt_bytes psbt_text psbt_of records_at maps_at
one_deposit_is_planned = refl

abbrev two_bitml : List ℕ
two_bitml =
    lines (
    (codes "{A:! 100000 @ x | B:! 20000 @ y | A: secret a} fee 1000 (reveal a if |a| < 3 . withdraw A + after 70" ++
    codes "0000 : B : withdraw B)") ∷
    [])

abbrev two_deal : List ℕ
two_deal =
    lines (
    codes "key D:A 03913ffe7036ec1cefec5d4589d0c2e8e7b6a300c97e0a106cd9624f149bcda7f5" ∷
    codes "key D:B 03ba15c3d41f9a0004b4f0e9f93716dc85ab600a158e90d0639f364ab04c766f21" ∷
    codes "key B:0:r.0:A 03880380f4fe91faca6db3387f5c981c02fee0dbae9278e8dcf2e0769b15457907" ∷
    codes "key B:0:r.0:B 023c24fce1010225fd96c5407ef8f06e3a5bae1e6b8f3449ef2085634b3e148b29" ∷
    codes "key B:0:r.0.0:A 033d1647343f4a9acee04accaa2494f71c403de0c463951a641ba91da0f7950e8a" ∷
    codes "key B:0:r.0.0:B 0230588467e4001454ec1e1fc960ea058ef5ca3976b3ecfe152dfc29fc01d2ede2" ∷
    codes "key B:0:r.1:A 02f318d2ff23218b2bf4bcd80ee4b79558dab1a20505f57f125d38b4a8344b9eed" ∷
    codes "key B:0:r.1:B 028f194e849e01cc64b26090c5d47bffdbdb3904023c817a98729cd6b4a481e57d" ∷
    codes "deposit x c7d1ca1a29278ff9aa4d23bed0d2f777b570582f3a1ff735b4272fdeb4707691 0" ∷
    codes "deposit y 6b8fae22b3d8cef3f23d00741edc38e743d3830b33a353976f6a5fea9172aae2 1" ∷
    codes "hash a 12e53d027fec5936fb9e8d7ce7f98252d9b85e5633e2386fd3d59a1f2c1a2703" ∷
    [])

abbrev two_branches_are_planned_hashes : List (ℕ × ℕ)
two_branches_are_planned_hashes =
    (934272902507189875, 0xa114f10ad2c413065c2c4e33e4b231445bf2b0016c13b170e13efce8dfa6adc0) ∷
    (188406309477158521, 0x0f32240e93b5cb87dbb44681fb0e14919d4df976b7fcb0739e853e979798efc7) ∷
    (15353328361583202301, 0x64a42d59bacec1279ca07fac1740c10cc057f1e1d5e85d62603ee391f7f1f910) ∷
    (4080002374814135468, 0x2b77ed34389531cf320a30838e32ca944663c008992ac6983c7514ee9016fe41) ∷
    (18146190591450095071, 0x5711d5f0b6d1c529d1ebcfb201b7dd554e049f1a1915190c1c3d037e53c2283d) ∷
    (14376305522832806550, 0xd68892270a4358c723fefd6c3df811000689d276a7b15205c65037a41a989cce) ∷
    (16135954257557145446, 0xc992651ac89a97aecd0811c1761915a8e2c8f5153d1bdd994a789e6bd86ab717) ∷
    (11904136938687542398, 0xf0c78061d22ecc1b22a4f0cdd7edb944bae9e6d332243f55274a8fc4ecb2980a) ∷
    (11470928872492437449, 0x391ec7b29e4333ff0ebcfa0e5e11e07fb0e54a321da211d14aed03839be78643) ∷
    (11757003483022530728, 0x3363a052370b572227e49931e0acad0d3b5be1868da1d83799b5d04298b1f107) ∷
    (11831738820569013141, 0xffcb34ea52b0edf727b1a311dbf5b2859c087e07c4d4f84ca1351ffd09a64fac) ∷
    (16804214099025738211, 0x88aade6531f24839a5a225f317b188e6b7eef5037f3e9c6a84bcadbe8dcc9a1a) ∷
    (1784102848868150994, 0xf42ba7e42270f887ecc4340d2457d7e3f3772335d412c2a939c1e4ee2122f6a5) ∷
    (15940804879542246790, 0x8e5c52cf51174920a20054981e7640f36676ed8a8063b96ae1ba1ffb5a72cd53) ∷
    (6819451735403476304, 0x5500b707a4d1eebbca36929299370e8b80c0ba151dff0c617d3ebb51699b9c55) ∷
    (9231889525126806902, 0x8aa643364bb58445870e7e4cbc92c33c279ba2639c6b0d4da03e8efbe5efddeb) ∷
    (3332012355205760889, 0xb52bad3b613173bde203c1c13c048be178baf2a85787b5d77c945e9cfcde321d) ∷
    (8606493698777425830, 0x13b4ecfb2e011f72ea3d3e885ab14cf9bcc932714087a8c81f95a7787b8f2b10) ∷
    (5040092498882930355, 0xb4248c210a2905b94345e1a8414d0e12efcfb2f4f0f2397159a71283397a0ccd) ∷
    (204552439812090982, 0x18606b350cd8bf565266bc352f0caddcf01e8fa789dd8a15386327cf8cabe198) ∷
    (7130754649290878647, 0xec972f9ecf256918a69c06804f5bd939563c02a0b5b0079e8a3c4fe89d17f4b6) ∷
    (10003731649463509742, 0xe1ded042f29b9bd6e93fd498ab65a52dee1f7d88a3d57de6ff70633439a3cefe) ∷
    (17270084892696143396, 0xd2e926bd252323a01a31f951f4dd8b3953cf7f6590aedacef06e0b5b5d4b51fe) ∷
    (11486056133135513766, 0xc008d976de0d4079d9a6363008d5900aaafb209b2dbfcc744809ce0d7decc457) ∷
    (3691551255371676412, 0x38c9f519e5fd595b443171894b9bbe98234079299289665bb3d6d1d010fcfdb9) ∷
    (1281191719116439971, 0xb25da1f88f89f26ab9956fcd3a1ed9861749cc5e3482b6ff52eeab8d3d824ce3) ∷
    (16972138637547280928, 0xad777d08ba4c00398aa186ecfaf2ecec0d05934d5331d2e2e54696f6ccd4e0f4) ∷
    (3217087888452892181, 0xc23b328c9a51505e58a99c6c95fb4bd42f65f568594f11113711fdf6c43b2377) ∷
    (15597962236440396959, 0xf8768ad62d9faaf32a3405ea30ddcef8c4c56e70fc7497d24f3ed892be7b579e) ∷
    (1032629611570274414, 0xd122247859e1662a3799c760f6e52b79c7388947b39b7b93d4f6bf110a4e6be2) ∷
    (9616796591008842317, 0x2925c6aec092fb9f400da1f8b0a5ca48bdeb3224a990844a707aafb83e5bee5b) ∷
    (7101757607011618894, 0x0a93250b30769eff260dd36a2d05e961655c764999359d15efa2b961b3e6a46b) ∷
    (10047481156168111815, 0x558b7c22f6c91c94d93f8e60b9b95f268d7269f7b33e781df071544478980628) ∷
    (10218227868334287480, 0x697c1a1f642d9dc9f320298a15a6c24c3cf1f2c6931ab893fc4f3a1c721f3d5f) ∷
    (16979309193811568180, 0x343f84548f95cbacf1f7e96e672eaf7b4f1835226763d71fc2cfe354eab773ce) ∷
    (17858579783449496364, 0x0c142114dd708748e68db6e3b3010d235b1971cda5889b49eb5fa8653f36b07f) ∷
    (13872308701783029083, 0x248d010701efdd1ba2443ce815cfe4286959a275d3c57cd55df5711e900b01e6) ∷
    (11056804671307967812, 0xb606856e4ece32a625d1a9f28a393afd6abfcf86fa51d4225e90f32ad54de89d) ∷
    (3723483217624449327, 0x4b828276a723b988964fbb3452be0e4241bdb0191111747471c79e34ae8460a8) ∷
    (16112293391942411381, 0x27fdd35e8bc83c6f66029bbcfb6707def0cd9729471339d05d3910e5a8122316) ∷
    []

-- Who signs which input, and what for: one that is asked authorises.
two_branches_are_planned :
    deal_replies accepting (sha_of two_branches_are_planned_hashes) (codes "plan" ∷ codes "two.bitml" ∷ codes "two.deal" ∷ [])
    ((codes "two.bitml", two_bitml) ∷ (codes "two.deal", two_deal) ∷ [])
    ≡ prints 0 (lines (
    codes "contract 0 compiled" ∷
    (codes "script r 63827660020902a5696ba82012e53d027fec5936fb9e8d7ce7f98252d9b85e5633e2386fd3d59a1f2c1a2703886" ++
    codes "c00796094539f69752103880380f4fe91faca6db3387f5c981c02fee0dbae9278e8dcf2e0769b15457907ad21023c24fce10" ++
    codes "10225fd96c5407ef8f06e3a5bae1e6b8f3449ef2085634b3e148b29ac672102f318d2ff23218b2bf4bcd80ee4b79558dab1a" ++
    codes "20505f57f125d38b4a8344b9eedad21028f194e849e01cc64b26090c5d47bffdbdb3904023c817a98729cd6b4a481e57dac6" ++
    codes "8") ∷
    (codes "script r.0 21033d1647343f4a9acee04accaa2494f71c403de0c463951a641ba91da0f7950e8aad210230588467e400145" ++
    codes "4ec1e1fc960ea058ef5ca3976b3ecfe152dfc29fc01d2ede2ac") ∷
    (codes "deposit x c7d1ca1a29278ff9aa4d23bed0d2f777b570582f3a1ff735b4272fdeb4707691 0 100000 002038c9f519e5fd" ++
    codes "595b443171894b9bbe98234079299289665bb3d6d1d010fcfdb9") ∷
    (codes "deposit y 6b8fae22b3d8cef3f23d00741edc38e743d3830b33a353976f6a5fea9172aae2 1 20000 0020697c1a1f642d9" ++
    codes "dc9f320298a15a6c24c3cf1f2c6931ab893fc4f3a1c721f3d5f") ∷
    (codes "tx init 10f9f1f791e33e60625de8d5e1f157c00cc14017ac7fa09c27c1ceba592da464 0200000002917670b4de2f27b43" ++
    codes "5f71f3a2f5870b577f7d2d0be234daaf98f27291acad1c70000000000feffffffe2aa7291ea5f6a6f9753a3330b83d343e73" ++
    codes "8dc1e74003df2f3ced8b322ae8f6b0100000000feffffff01d8d0010000000000220020a114f10ad2c413065c2c4e33e4b23" ++
    codes "1445bf2b0016c13b170e13efce8dfa6adc000000000") ∷
    codes "digest init 0 ffcb34ea52b0edf727b1a311dbf5b2859c087e07c4d4f84ca1351ffd09a64fac" ∷
    codes "sign init 0 D:A init" ∷
    codes "digest init 1 f42ba7e42270f887ecc4340d2457d7e3f3772335d412c2a939c1e4ee2122f6a5" ∷
    codes "sign init 1 D:B init" ∷
    (codes "tx r.0 ebddefe5fb8e3ea04d0d6b9c63a29b273cc392bc4c7e0e874584b54b3643a68a 020000000164a42d59bacec1279c" ++
    codes "a07fac1740c10cc057f1e1d5e85d62603ee391f7f1f9100000000000feffffff01f0cc0100000000002200208e5c52cf5117" ++
    codes "4920a20054981e7640f36676ed8a8063b96ae1ba1ffb5a72cd5300000000") ∷
    codes "digest r.0 0 c008d976de0d4079d9a6363008d5900aaafb209b2dbfcc744809ce0d7decc457" ∷
    codes "sign r.0 0 B:0:r.0:A endorse" ∷
    codes "sign r.0 0 B:0:r.0:B endorse" ∷
    (codes "tx r.0.0 f4e0d4ccf69646e5e2d231534d93050dececf2faec86a18a39004cba087d77ad 02000000018aa643364bb58445" ++
    codes "870e7e4cbc92c33c279ba2639c6b0d4da03e8efbe5efddeb0000000000feffffff0108c901000000000022002038c9f519e5" ++
    codes "fd595b443171894b9bbe98234079299289665bb3d6d1d010fcfdb900000000") ∷
    codes "digest r.0.0 0 558b7c22f6c91c94d93f8e60b9b95f268d7269f7b33e781df071544478980628" ∷
    codes "sign r.0.0 0 B:0:r.0.0:A endorse" ∷
    codes "sign r.0.0 0 B:0:r.0.0:B endorse" ∷
    (codes "tx r.1 7fb0363f65a85feb499b88a5cd71195b230d01b3e3b68de6488770dd1421140c 020000000164a42d59bacec1279c" ++
    codes "a07fac1740c10cc057f1e1d5e85d62603ee391f7f1f9100000000000feffffff01f0cc010000000000220020697c1a1f642d" ++
    codes "9dc9f320298a15a6c24c3cf1f2c6931ab893fc4f3a1c721f3d5f60ae0a00") ∷
    codes "digest r.1 0 27fdd35e8bc83c6f66029bbcfb6707def0cd9729471339d05d3910e5a8122316" ∷
    codes "sign r.1 0 B:0:r.1:A endorse" ∷
    codes "sign r.1 0 B:0:r.1:B authorise" ∷
    []))
unfolding is_name word_prefix number_prefix symbol_prefix read_answer advert_of_all advert_at entries_at entry_at head_at
    deposit_at secret_at fee_at choice_with branches_at branch_at parts_at auth_at after_at put_at reveal_at split_at
    reveals_at puts_at put_reveals_at headed_at one_branch_at condition_at names_from test_at comparison_at formula_at
    constant_at length_at withdraw_at digits label_text stripped marked compact places_list sequences_list
    outputs_list preimage position_script many wide_at compact_at string_at input_at inputs_at output_at outputs_at
    witness_at witnesses_at plain_at marked_at transaction_at all_at script_meaning ops_of number_of_item signed_bytes
    item_of_number base64_text base64_bytes psbt_bytes psbt_text psbt_of records_at maps_at
two_branches_are_planned = refl

abbrev all_are_for_signers_hashes : List (ℕ × ℕ)
all_are_for_signers_hashes =
    (1036274438926223542, 0xde0dd1cab63729151f3795efacf554fefe43bfa2fa606e6ca2bc471ba90909a9) ∷
    (7097232203985321870, 0xba7ce1a585f682f95c27e5dc30e70795007fd676d34d82795dd1fdd1b3052d43) ∷
    (835695501073600791, 0x3327324c2193716f09ab7993f3bdc1dec708e9ece108071dcb1195a7604bab2a) ∷
    (15187843044020192836, 0x8cfad6b1f5c62cb67b91da930039cec1a0aa7202753736571194f51de89bc13b) ∷
    (3853960291655568512, 0xd3d0eea99d77bb0ab1ce4896ac4ad709d09f81ddd4218c2d4b2376e43414aa7d) ∷
    (5040092498882930355, 0xb4248c210a2905b94345e1a8414d0e12efcfb2f4f0f2397159a71283397a0ccd) ∷
    (204552439812090982, 0x18606b350cd8bf565266bc352f0caddcf01e8fa789dd8a15386327cf8cabe198) ∷
    (11061800839734769446, 0xb40552e11782d7f6f21b82610fd66491e17db00fedac01155b43047b7e653f0d) ∷
    (3905210748132171836, 0x5c65bf99d38f59eeb4bcd5a18f61193b45bf25c886381c72121190b7d476080c) ∷
    (12358556445809014664, 0x0837869bb3c6571dd3200a3c75d6275ef0aea0a0a980d9f6cf414bdacfd7a791) ∷
    (15977958629578005499, 0x1f8523b2fcda66a2ba3d9862049ad3658616ab5b91569a90b6cf569660492ab5) ∷
    (3691551255371676412, 0x38c9f519e5fd595b443171894b9bbe98234079299289665bb3d6d1d010fcfdb9) ∷
    (255897143965099563, 0xdec3c15699a45e71cfc62eb2e3ffeadb62abef0a542a8c64f2c763e2e1ac096c) ∷
    (14863008153544590580, 0xe29c2aaa7e7e4eee705ac698d23a0cfa902c2616a84ff38f3e0bf80dadbc7fcf) ∷
    (14622224420326557440, 0x94bbeb117a400554207ca2c4a56d9842cd2cf447fe1998bc70ab9b2b2547a806) ∷
    (12486660610860327398, 0x775fc5ffac648280bcb890d3f617c238ffd51d904900043a079f313b5d8bc979) ∷
    (16090786647362180327, 0x7b5afcf5378fd294ef9f39db8963f19211776acbb93ab2044d21f7a696351b47) ∷
    (3928230425854582469, 0xe6cbc17c2a88c84a7496858298432137b8c4cc8dcdec11f17341e08e6226ca9e) ∷
    (17618832777366516799, 0xbefc76d58df9a4a312c7a9afb9a52d7da4a8bab2b9dd2a994a2becfe49b45f74) ∷
    (15875628272708571567, 0xa99dda9543730ec77317a9d236db04d3f26bc1a2a11a0b65059218fc850f9280) ∷
    []

-- All transactions, a line each.
all_are_for_signers :
    deal_replies accepting (sha_of all_are_for_signers_hashes) (codes "psbt" ∷ codes "one.bitml" ∷ codes "one.deal" ∷ [])
    ((codes "one.bitml", one_bitml) ∷ (codes "one.deal", one_deal) ∷ [])
    ≡ prints 0 (lines (
    (codes "cHNidP8BAF4CAAAAAZF2cLTeLye0NfcfOi9YcLV399LQviNNqvmPJykaytHHAAAAAAD+////AbiCAQAAAAAAIgAg3g3RyrY3KRUf" ++
    codes "N5XvrPVU/v5Dv6L6YG5sorxHG6kJCakAAAAAAAEBK6CGAQAAAAAAIgAgOMn1GeX9WVtEMXGJS5u+mCNAeSmSiWZbs9bR0BD8/bkB" ++
    codes "AwQBAAAAAQUjIQORP/5wNuwc7+xdRYnQwujntqMAyX4KEGzZYk8Um82n9awAAA==") ∷
    (codes "cHNidP8BAF4CAAAAATMnMkwhk3FvCat5k/O9wd7HCOns4QgHHcsRladgS6sqAAAAAAD+////AdB+AQAAAAAAIgAgOMn1GeX9WVtE" ++
    codes "MXGJS5u+mCNAeSmSiWZbs9bR0BD8/bkAAAAAAAEBK7iCAQAAAAAAIgAg3g3RyrY3KRUfN5XvrPVU/v5Dv6L6YG5sorxHG6kJCakB" ++
    codes "AwQBAAAAAQUjIQOIA4D0/pH6ym2zOH9cmBwC/uDbrpJ46Nzy4HabFUV5B6wAAA==") ∷
    []))
unfolding is_name word_prefix number_prefix symbol_prefix read_answer advert_of_all advert_at entries_at entry_at head_at
    deposit_at secret_at fee_at choice_with branches_at branch_at parts_at auth_at after_at put_at reveal_at split_at
    reveals_at puts_at put_reveals_at headed_at one_branch_at condition_at names_from test_at comparison_at formula_at
    constant_at length_at withdraw_at digits label_text stripped marked compact places_list sequences_list
    outputs_list preimage position_script many wide_at compact_at string_at input_at inputs_at output_at outputs_at
    witness_at witnesses_at plain_at marked_at transaction_at all_at script_meaning ops_of number_of_item signed_bytes
    item_of_number base64_text base64_bytes psbt_bytes psbt_text psbt_of records_at maps_at
all_are_for_signers = refl
