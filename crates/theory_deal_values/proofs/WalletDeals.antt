-- Deals whose deposits wallets bring, or whose parties are paid elsewhere: plans with addresses, where coins have to go, a payee that the
-- deal itself makes, and the first transaction.
use Rattle.std.proofs.Common.{◌≡◌, ℕ, List, [], ◌∷◌, ◌++◌, refl}
use Rattle.std.specs.Prelude.{codes}
use Rattle.std.specs.Fmt.{digits}
use Rattle.spec_terms.specs.Readable.{is_name}
use Rattle.spec_bitcoin.specs.Keys.{label_text}
use Rattle.spec_bitcoin.specs.Digests.{places_list, sequences_list, outputs_list, preimage}
use Rattle.spec_bitcoin.specs.Spelling.{stripped, marked, compact}
use Rattle.spec_bitcoin.specs.Reading.{many, wide_at, compact_at, string_at, input_at, inputs_at, output_at, outputs_at, witness_at}
use Rattle.spec_bitcoin.specs.Reading.{witnesses_at, plain_at, marked_at, transaction_at, all_at}
use Rattle.spec_bitcoin.specs.Meaning.{script_meaning}
use Rattle.spec_bitcoin.specs.Numbers.{number_of_item, signed_bytes, item_of_number}
use Rattle.spec_bitcoin.specs.Scripts.{ops_of}
use Rattle.spec_compiler.specs.Keyed.Instance.{position_script}
use Rattle.spec_text.specs.Lexis.{word_prefix, number_prefix, symbol_prefix}
use Rattle.spec_text.specs.ReadAdvert.{read_answer, advert_of_all, advert_at, entries_at, entry_at, head_at, deposit_at, secret_at, fee_at}
use Rattle.spec_text.specs.ReadContract.{withdraw_at, condition_at, reveals_at, puts_at, put_reveals_at, headed_at, one_branch_at}
use Rattle.spec_text.specs.ReadContract.{branches_at, choice_with, parts_at, auth_at, after_at, put_at, reveal_at, split_at, branch_at}
use Rattle.spec_text.specs.ReadTest.{constant_at, length_at, formula_at, comparison_at, test_at}
use Rattle.spec_text.specs.Reading.{names_from}
use Rattle.spec_address.specs.Address.{address, read_address}
use Rattle.spec_address.specs.Checksum.{check_values, next_state}
use Rattle.spec_address.specs.Groups.{group_at, byte_at}
use Rattle.spec_tool.specs.Commands.{prints}
use Rattle.spec_tool.specs.Base64.{base64_text, base64_bytes}
use Rattle.spec_tool.specs.PsbtBytes.{psbt_of, psbt_bytes, records_at, maps_at}
use Rattle.spec_tool.specs.PsbtText.{psbt_text}
use Rattle.spec_deal.specs.Verifier.{accepting}
use Rattle.theory_values.specs.Replies.{lines, sha_of}
use Rattle.theory_deal_values.specs.Replies.{deal_replies}

abbrev wallet_bitml : List ℕ
wallet_bitml =
    lines (
    codes "{A:! 100000 @ x} fee 1000 withdraw A" ∷
    [])

abbrev wallet_deal : List ℕ
wallet_deal =
    lines (
    codes "network bc" ∷
    codes "pay A bc1pej54emr4fka7mn6d2j849u000mfg2uc4hqfalvspjr2jxs5jdjaqdpsf7k" ∷
    codes "key B:0:r.0:A 03880380f4fe91faca6db3387f5c981c02fee0dbae9278e8dcf2e0769b15457907" ∷
    (codes "deposit x c7d1ca1a29278ff9aa4d23bed0d2f777b570582f3a1ff735b4272fdeb4707691 0 bc1q4qt5w9hzzvfl9lhx544" ++
    codes "krg0wpwwgg4dcugtum3") ∷
    [])

abbrev wallet_is_planned_hashes : List (ℕ × ℕ)
wallet_is_planned_hashes =
    (1036274438926223542, 0xde0dd1cab63729151f3795efacf554fefe43bfa2fa606e6ca2bc471ba90909a9) ∷
    (7097232203985321870, 0xba7ce1a585f682f95c27e5dc30e70795007fd676d34d82795dd1fdd1b3052d43) ∷
    (835695501073600791, 0x3327324c2193716f09ab7993f3bdc1dec708e9ece108071dcb1195a7604bab2a) ∷
    (8420378498896041847, 0xbc0568b4913f53db5481f8dfe15f54b6a6b2ad6fbae966e5c66ff8501df0f6e2) ∷
    (7773977636842596553, 0xd8eb835e6b44ab7d41fdd4767da2ebaf0b623819dd3db1b452bbf433f22d2bc0) ∷
    (15187843044020192836, 0x8cfad6b1f5c62cb67b91da930039cec1a0aa7202753736571194f51de89bc13b) ∷
    (3853960291655568512, 0xd3d0eea99d77bb0ab1ce4896ac4ad709d09f81ddd4218c2d4b2376e43414aa7d) ∷
    (5040092498882930355, 0xb4248c210a2905b94345e1a8414d0e12efcfb2f4f0f2397159a71283397a0ccd) ∷
    (204552439812090982, 0x18606b350cd8bf565266bc352f0caddcf01e8fa789dd8a15386327cf8cabe198) ∷
    (11061800839734769446, 0xb40552e11782d7f6f21b82610fd66491e17db00fedac01155b43047b7e653f0d) ∷
    (3905210748132171836, 0x5c65bf99d38f59eeb4bcd5a18f61193b45bf25c886381c72121190b7d476080c) ∷
    (9395316562843322930, 0x15353f748aba91cd5d5d29a994c68506bd3da6c7e0ede057fb074ad6432e56ca) ∷
    (16044569510898258498, 0x48c1b44cd3d7a715f00d08b8f6bd1868397b22ef70dd1dfb5e573b54123e64c6) ∷
    (14622224420326557440, 0x94bbeb117a400554207ca2c4a56d9842cd2cf447fe1998bc70ab9b2b2547a806) ∷
    (12486660610860327398, 0x775fc5ffac648280bcb890d3f617c238ffd51d904900043a079f313b5d8bc979) ∷
    (2614022490933728627, 0x6b6f88a10d343e3c66cd5baa5d44401bf0a32b9af1aec478a9a6bd9c64a65bab) ∷
    (16021731211117957737, 0x7522d278e8ea2c47536121149625badec8a2a02e9b3c0238fdffc8ff34c9cafe) ∷
    (17455957052907534294, 0x84e2a3e53fe20f6ba796594820ab58c2edf9d31ac7fea797c99fdd3e55532525) ∷
    (12945943569194187947, 0x31ccda94fd6292411029aeaceb7a92b30857339245601ff1721a4bc7ec3828cf) ∷
    []

-- A wallet brings the deposit, and is asked in its place; the party is paid where its line says.
wallet_is_planned :
    deal_replies accepting (sha_of wallet_is_planned_hashes) (codes "plan" ∷ codes "wallet.bitml" ∷ codes "wallet.deal" ∷ [])
    ((codes "wallet.bitml", wallet_bitml) ∷ (codes "wallet.deal", wallet_deal) ∷ [])
    ≡ prints 0 (lines (
    codes "contract 0 compiled" ∷
    codes "script r 2103880380f4fe91faca6db3387f5c981c02fee0dbae9278e8dcf2e0769b15457907ac" ∷
    (codes "deposit x c7d1ca1a29278ff9aa4d23bed0d2f777b570582f3a1ff735b4272fdeb4707691 0 100000 0014a8174716e213" ++
    codes "13f2fee6a56b61a1ee0b9c8455b8 bc1q4qt5w9hzzvfl9lhx544krg0wpwwgg4dcugtum3") ∷
    (codes "pay A 5120cca95cec754dbbedcf4d548f52f1ef7ed2857315b813dfb20190d52342926cba bc1pej54emr4fka7mn6d2j849" ++
    codes "u000mfg2uc4hqfalvspjr2jxs5jdjaqdpsf7k") ∷
    (codes "tx init 2aab4b60a79511cb1d0708e1ece908c7dec1bdf39379ab096f7193214c322733 0200000001917670b4de2f27b43" ++
    codes "5f71f3a2f5870b577f7d2d0be234daaf98f27291acad1c70000000000feffffff01b882010000000000220020de0dd1cab63" ++
    codes "729151f3795efacf554fefe43bfa2fa606e6ca2bc471ba90909a900000000") ∷
    codes "digest init 0 48c1b44cd3d7a715f00d08b8f6bd1868397b22ef70dd1dfb5e573b54123e64c6" ∷
    codes "sign init 0 W:x init" ∷
    (codes "tx r.0 c02b2df233f4bb52b4b13ddd1938620bafeba27d76d4fd417dab446b5e83ebd8 02000000013327324c2193716f09" ++
    codes "ab7993f3bdc1dec708e9ece108071dcb1195a7604bab2a0000000000feffffff01d07e010000000000225120cca95cec754d" ++
    codes "bbedcf4d548f52f1ef7ed2857315b813dfb20190d52342926cba00000000") ∷
    codes "digest r.0 0 31ccda94fd6292411029aeaceb7a92b30857339245601ff1721a4bc7ec3828cf" ∷
    codes "sign r.0 0 B:0:r.0:A endorse" ∷
    []))
unfolding is_name word_prefix number_prefix symbol_prefix read_answer advert_of_all advert_at entries_at entry_at head_at
    deposit_at secret_at fee_at choice_with branches_at branch_at parts_at auth_at after_at put_at reveal_at split_at
    reveals_at puts_at put_reveals_at headed_at one_branch_at condition_at names_from test_at comparison_at formula_at
    constant_at length_at withdraw_at digits label_text stripped marked compact places_list sequences_list
    outputs_list preimage position_script many wide_at compact_at string_at input_at inputs_at output_at outputs_at
    witness_at witnesses_at plain_at marked_at transaction_at all_at script_meaning ops_of number_of_item signed_bytes
    item_of_number base64_text base64_bytes psbt_bytes psbt_text psbt_of records_at maps_at
    read_address address check_values next_state group_at byte_at
wallet_is_planned = refl

abbrev shown_bitml : List ℕ
shown_bitml =
    lines (
    (codes "{A:! 100000 @ x | B:! 20000 @ y | A: secret a} fee 1000 (reveal a if |a| < 3 . withdraw A + after 70" ++
    codes "0000 : B : withdraw B)") ∷
    [])

abbrev shown_deal : List ℕ
shown_deal =
    lines (
    codes "network bcrt" ∷
    codes "key D:A 03913ffe7036ec1cefec5d4589d0c2e8e7b6a300c97e0a106cd9624f149bcda7f5" ∷
    codes "key D:B 03ba15c3d41f9a0004b4f0e9f93716dc85ab600a158e90d0639f364ab04c766f21" ∷
    codes "key B:0:r.0:A 03880380f4fe91faca6db3387f5c981c02fee0dbae9278e8dcf2e0769b15457907" ∷
    codes "key B:0:r.0:B 023c24fce1010225fd96c5407ef8f06e3a5bae1e6b8f3449ef2085634b3e148b29" ∷
    codes "key B:0:r.0.0:A 033d1647343f4a9acee04accaa2494f71c403de0c463951a641ba91da0f7950e8a" ∷
    codes "key B:0:r.0.0:B 0230588467e4001454ec1e1fc960ea058ef5ca3976b3ecfe152dfc29fc01d2ede2" ∷
    codes "key B:0:r.1:A 02f318d2ff23218b2bf4bcd80ee4b79558dab1a20505f57f125d38b4a8344b9eed" ∷
    codes "key B:0:r.1:B 028f194e849e01cc64b26090c5d47bffdbdb3904023c817a98729cd6b4a481e57d" ∷
    codes "deposit x c7d1ca1a29278ff9aa4d23bed0d2f777b570582f3a1ff735b4272fdeb4707691 0" ∷
    codes "deposit y 6b8fae22b3d8cef3f23d00741edc38e743d3830b33a353976f6a5fea9172aae2 1" ∷
    codes "hash a 12e53d027fec5936fb9e8d7ce7f98252d9b85e5633e2386fd3d59a1f2c1a2703" ∷
    [])

abbrev addresses_are_shown_hashes : List (ℕ × ℕ)
addresses_are_shown_hashes =
    (934272902507189875, 0xa114f10ad2c413065c2c4e33e4b231445bf2b0016c13b170e13efce8dfa6adc0) ∷
    (15940804879542246790, 0x8e5c52cf51174920a20054981e7640f36676ed8a8063b96ae1ba1ffb5a72cd53) ∷
    (3691551255371676412, 0x38c9f519e5fd595b443171894b9bbe98234079299289665bb3d6d1d010fcfdb9) ∷
    (10218227868334287480, 0x697c1a1f642d9dc9f320298a15a6c24c3cf1f2c6931ab893fc4f3a1c721f3d5f) ∷
    (188406309477158521, 0x0f32240e93b5cb87dbb44681fb0e14919d4df976b7fcb0739e853e979798efc7) ∷
    (15353328361583202301, 0x64a42d59bacec1279ca07fac1740c10cc057f1e1d5e85d62603ee391f7f1f910) ∷
    (6819451735403476304, 0x5500b707a4d1eebbca36929299370e8b80c0ba151dff0c617d3ebb51699b9c55) ∷
    (9231889525126806902, 0x8aa643364bb58445870e7e4cbc92c33c279ba2639c6b0d4da03e8efbe5efddeb) ∷
    (1281191719116439971, 0xb25da1f88f89f26ab9956fcd3a1ed9861749cc5e3482b6ff52eeab8d3d824ce3) ∷
    (16972138637547280928, 0xad777d08ba4c00398aa186ecfaf2ecec0d05934d5331d2e2e54696f6ccd4e0f4) ∷
    (16979309193811568180, 0x343f84548f95cbacf1f7e96e672eaf7b4f1835226763d71fc2cfe354eab773ce) ∷
    (17858579783449496364, 0x0c142114dd708748e68db6e3b3010d235b1971cda5889b49eb5fa8653f36b07f) ∷
    (4080002374814135468, 0x2b77ed34389531cf320a30838e32ca944663c008992ac6983c7514ee9016fe41) ∷
    (18146190591450095071, 0x5711d5f0b6d1c529d1ebcfb201b7dd554e049f1a1915190c1c3d037e53c2283d) ∷
    (14376305522832806550, 0xd68892270a4358c723fefd6c3df811000689d276a7b15205c65037a41a989cce) ∷
    (16135954257557145446, 0xc992651ac89a97aecd0811c1761915a8e2c8f5153d1bdd994a789e6bd86ab717) ∷
    (11904136938687542398, 0xf0c78061d22ecc1b22a4f0cdd7edb944bae9e6d332243f55274a8fc4ecb2980a) ∷
    (11470928872492437449, 0x391ec7b29e4333ff0ebcfa0e5e11e07fb0e54a321da211d14aed03839be78643) ∷
    (11757003483022530728, 0x3363a052370b572227e49931e0acad0d3b5be1868da1d83799b5d04298b1f107) ∷
    (11831738820569013141, 0xffcb34ea52b0edf727b1a311dbf5b2859c087e07c4d4f84ca1351ffd09a64fac) ∷
    (16804214099025738211, 0x88aade6531f24839a5a225f317b188e6b7eef5037f3e9c6a84bcadbe8dcc9a1a) ∷
    (1784102848868150994, 0xf42ba7e42270f887ecc4340d2457d7e3f3772335d412c2a939c1e4ee2122f6a5) ∷
    (3332012355205760889, 0xb52bad3b613173bde203c1c13c048be178baf2a85787b5d77c945e9cfcde321d) ∷
    (8606493698777425830, 0x13b4ecfb2e011f72ea3d3e885ab14cf9bcc932714087a8c81f95a7787b8f2b10) ∷
    (5040092498882930355, 0xb4248c210a2905b94345e1a8414d0e12efcfb2f4f0f2397159a71283397a0ccd) ∷
    (204552439812090982, 0x18606b350cd8bf565266bc352f0caddcf01e8fa789dd8a15386327cf8cabe198) ∷
    (7130754649290878647, 0xec972f9ecf256918a69c06804f5bd939563c02a0b5b0079e8a3c4fe89d17f4b6) ∷
    (10003731649463509742, 0xe1ded042f29b9bd6e93fd498ab65a52dee1f7d88a3d57de6ff70633439a3cefe) ∷
    (17270084892696143396, 0xd2e926bd252323a01a31f951f4dd8b3953cf7f6590aedacef06e0b5b5d4b51fe) ∷
    (11486056133135513766, 0xc008d976de0d4079d9a6363008d5900aaafb209b2dbfcc744809ce0d7decc457) ∷
    (3217087888452892181, 0xc23b328c9a51505e58a99c6c95fb4bd42f65f568594f11113711fdf6c43b2377) ∷
    (15597962236440396959, 0xf8768ad62d9faaf32a3405ea30ddcef8c4c56e70fc7497d24f3ed892be7b579e) ∷
    (1032629611570274414, 0xd122247859e1662a3799c760f6e52b79c7388947b39b7b93d4f6bf110a4e6be2) ∷
    (9616796591008842317, 0x2925c6aec092fb9f400da1f8b0a5ca48bdeb3224a990844a707aafb83e5bee5b) ∷
    (7101757607011618894, 0x0a93250b30769eff260dd36a2d05e961655c764999359d15efa2b961b3e6a46b) ∷
    (10047481156168111815, 0x558b7c22f6c91c94d93f8e60b9b95f268d7269f7b33e781df071544478980628) ∷
    (13872308701783029083, 0x248d010701efdd1ba2443ce815cfe4286959a275d3c57cd55df5711e900b01e6) ∷
    (11056804671307967812, 0xb606856e4ece32a625d1a9f28a393afd6abfcf86fa51d4225e90f32ad54de89d) ∷
    (3723483217624449327, 0x4b828276a723b988964fbb3452be0e4241bdb0191111747471c79e34ae8460a8) ∷
    (16112293391942411381, 0x27fdd35e8bc83c6f66029bbcfb6707def0cd9729471339d05d3910e5a8122316) ∷
    []

-- A deal of keys that names its network.
addresses_are_shown :
    deal_replies accepting (sha_of addresses_are_shown_hashes) (codes "plan" ∷ codes "shown.bitml" ∷ codes "shown.deal" ∷ [])
    ((codes "shown.bitml", shown_bitml) ∷ (codes "shown.deal", shown_deal) ∷ [])
    ≡ prints 0 (lines (
    codes "contract 0 compiled" ∷
    (codes "script r 63827660020902a5696ba82012e53d027fec5936fb9e8d7ce7f98252d9b85e5633e2386fd3d59a1f2c1a2703886" ++
    codes "c00796094539f69752103880380f4fe91faca6db3387f5c981c02fee0dbae9278e8dcf2e0769b15457907ad21023c24fce10" ++
    codes "10225fd96c5407ef8f06e3a5bae1e6b8f3449ef2085634b3e148b29ac672102f318d2ff23218b2bf4bcd80ee4b79558dab1a" ++
    codes "20505f57f125d38b4a8344b9eedad21028f194e849e01cc64b26090c5d47bffdbdb3904023c817a98729cd6b4a481e57dac6" ++
    codes "8") ∷
    (codes "script r.0 21033d1647343f4a9acee04accaa2494f71c403de0c463951a641ba91da0f7950e8aad210230588467e400145" ++
    codes "4ec1e1fc960ea058ef5ca3976b3ecfe152dfc29fc01d2ede2ac") ∷
    (codes "deposit x c7d1ca1a29278ff9aa4d23bed0d2f777b570582f3a1ff735b4272fdeb4707691 0 100000 002038c9f519e5fd" ++
    codes "595b443171894b9bbe98234079299289665bb3d6d1d010fcfdb9 bcrt1q8ryl2x09l4v4k3p3wxy5hxa7nq35q7ffj2ykvkan6" ++
    codes "mgaqy8ulkus8s3sen") ∷
    (codes "deposit y 6b8fae22b3d8cef3f23d00741edc38e743d3830b33a353976f6a5fea9172aae2 1 20000 0020697c1a1f642d9" ++
    codes "dc9f320298a15a6c24c3cf1f2c6931ab893fc4f3a1c721f3d5f bcrt1qd97p58my9kwunueq9x9ptfkzfs70rukxjvdt3ylufu" ++
    codes "apcusl840s4e0fck") ∷
    (codes "pay A 002038c9f519e5fd595b443171894b9bbe98234079299289665bb3d6d1d010fcfdb9 bcrt1q8ryl2x09l4v4k3p3wxy" ++
    codes "5hxa7nq35q7ffj2ykvkan6mgaqy8ulkus8s3sen") ∷
    (codes "pay B 0020697c1a1f642d9dc9f320298a15a6c24c3cf1f2c6931ab893fc4f3a1c721f3d5f bcrt1qd97p58my9kwunueq9x9" ++
    codes "ptfkzfs70rukxjvdt3ylufuapcusl840s4e0fck") ∷
    (codes "tx init 10f9f1f791e33e60625de8d5e1f157c00cc14017ac7fa09c27c1ceba592da464 0200000002917670b4de2f27b43" ++
    codes "5f71f3a2f5870b577f7d2d0be234daaf98f27291acad1c70000000000feffffffe2aa7291ea5f6a6f9753a3330b83d343e73" ++
    codes "8dc1e74003df2f3ced8b322ae8f6b0100000000feffffff01d8d0010000000000220020a114f10ad2c413065c2c4e33e4b23" ++
    codes "1445bf2b0016c13b170e13efce8dfa6adc000000000") ∷
    codes "digest init 0 ffcb34ea52b0edf727b1a311dbf5b2859c087e07c4d4f84ca1351ffd09a64fac" ∷
    codes "sign init 0 D:A init" ∷
    codes "digest init 1 f42ba7e42270f887ecc4340d2457d7e3f3772335d412c2a939c1e4ee2122f6a5" ∷
    codes "sign init 1 D:B init" ∷
    (codes "tx r.0 ebddefe5fb8e3ea04d0d6b9c63a29b273cc392bc4c7e0e874584b54b3643a68a 020000000164a42d59bacec1279c" ++
    codes "a07fac1740c10cc057f1e1d5e85d62603ee391f7f1f9100000000000feffffff01f0cc0100000000002200208e5c52cf5117" ++
    codes "4920a20054981e7640f36676ed8a8063b96ae1ba1ffb5a72cd5300000000") ∷
    codes "digest r.0 0 c008d976de0d4079d9a6363008d5900aaafb209b2dbfcc744809ce0d7decc457" ∷
    codes "sign r.0 0 B:0:r.0:A endorse" ∷
    codes "sign r.0 0 B:0:r.0:B endorse" ∷
    (codes "tx r.0.0 f4e0d4ccf69646e5e2d231534d93050dececf2faec86a18a39004cba087d77ad 02000000018aa643364bb58445" ++
    codes "870e7e4cbc92c33c279ba2639c6b0d4da03e8efbe5efddeb0000000000feffffff0108c901000000000022002038c9f519e5" ++
    codes "fd595b443171894b9bbe98234079299289665bb3d6d1d010fcfdb900000000") ∷
    codes "digest r.0.0 0 558b7c22f6c91c94d93f8e60b9b95f268d7269f7b33e781df071544478980628" ∷
    codes "sign r.0.0 0 B:0:r.0.0:A endorse" ∷
    codes "sign r.0.0 0 B:0:r.0.0:B endorse" ∷
    (codes "tx r.1 7fb0363f65a85feb499b88a5cd71195b230d01b3e3b68de6488770dd1421140c 020000000164a42d59bacec1279c" ++
    codes "a07fac1740c10cc057f1e1d5e85d62603ee391f7f1f9100000000000feffffff01f0cc010000000000220020697c1a1f642d" ++
    codes "9dc9f320298a15a6c24c3cf1f2c6931ab893fc4f3a1c721f3d5f60ae0a00") ∷
    codes "digest r.1 0 27fdd35e8bc83c6f66029bbcfb6707def0cd9729471339d05d3910e5a8122316" ∷
    codes "sign r.1 0 B:0:r.1:A endorse" ∷
    codes "sign r.1 0 B:0:r.1:B authorise" ∷
    []))
unfolding is_name word_prefix number_prefix symbol_prefix read_answer advert_of_all advert_at entries_at entry_at head_at
    deposit_at secret_at fee_at choice_with branches_at branch_at parts_at auth_at after_at put_at reveal_at split_at
    reveals_at puts_at put_reveals_at headed_at one_branch_at condition_at names_from test_at comparison_at formula_at
    constant_at length_at withdraw_at digits label_text stripped marked compact places_list sequences_list
    outputs_list preimage position_script many wide_at compact_at string_at input_at inputs_at output_at outputs_at
    witness_at witnesses_at plain_at marked_at transaction_at all_at script_meaning ops_of number_of_item signed_bytes
    item_of_number base64_text base64_bytes psbt_bytes psbt_text psbt_of records_at maps_at
    read_address address check_values next_state group_at byte_at
addresses_are_shown = refl

abbrev own_deal : List ℕ
own_deal =
    lines (
    codes "network bcrt" ∷
    codes "pay A 0020a114f10ad2c413065c2c4e33e4b231445bf2b0016c13b170e13efce8dfa6adc0" ∷
    codes "key D:B 03ba15c3d41f9a0004b4f0e9f93716dc85ab600a158e90d0639f364ab04c766f21" ∷
    codes "key B:0:r.0:A 03880380f4fe91faca6db3387f5c981c02fee0dbae9278e8dcf2e0769b15457907" ∷
    codes "key B:0:r.0:B 023c24fce1010225fd96c5407ef8f06e3a5bae1e6b8f3449ef2085634b3e148b29" ∷
    codes "key B:0:r.0.0:A 033d1647343f4a9acee04accaa2494f71c403de0c463951a641ba91da0f7950e8a" ∷
    codes "key B:0:r.0.0:B 0230588467e4001454ec1e1fc960ea058ef5ca3976b3ecfe152dfc29fc01d2ede2" ∷
    codes "key B:0:r.1:A 02f318d2ff23218b2bf4bcd80ee4b79558dab1a20505f57f125d38b4a8344b9eed" ∷
    codes "key B:0:r.1:B 028f194e849e01cc64b26090c5d47bffdbdb3904023c817a98729cd6b4a481e57d" ∷
    (codes "deposit x c7d1ca1a29278ff9aa4d23bed0d2f777b570582f3a1ff735b4272fdeb4707691 0 bcrt1q4qt5w9hzzvfl9lhx5" ++
    codes "44krg0wpwwgg4dc58fzht") ∷
    codes "deposit y 6b8fae22b3d8cef3f23d00741edc38e743d3830b33a353976f6a5fea9172aae2 1" ∷
    codes "hash a 12e53d027fec5936fb9e8d7ce7f98252d9b85e5633e2386fd3d59a1f2c1a2703" ∷
    [])

abbrev wallets_begin_hashes : List (ℕ × ℕ)
wallets_begin_hashes =
    (934272902507189875, 0xa114f10ad2c413065c2c4e33e4b231445bf2b0016c13b170e13efce8dfa6adc0) ∷
    (15940804879542246790, 0x8e5c52cf51174920a20054981e7640f36676ed8a8063b96ae1ba1ffb5a72cd53) ∷
    (10218227868334287480, 0x697c1a1f642d9dc9f320298a15a6c24c3cf1f2c6931ab893fc4f3a1c721f3d5f) ∷
    (188406309477158521, 0x0f32240e93b5cb87dbb44681fb0e14919d4df976b7fcb0739e853e979798efc7) ∷
    (15353328361583202301, 0x64a42d59bacec1279ca07fac1740c10cc057f1e1d5e85d62603ee391f7f1f910) ∷
    (6819451735403476304, 0x5500b707a4d1eebbca36929299370e8b80c0ba151dff0c617d3ebb51699b9c55) ∷
    (9231889525126806902, 0x8aa643364bb58445870e7e4cbc92c33c279ba2639c6b0d4da03e8efbe5efddeb) ∷
    (13107987211227438128, 0xb7901a967de37896d1a2d6863ed5338c9674c5a29e515b918af64f799185a8ae) ∷
    (13116773278455449350, 0x4614da3626b5d0065afae29004dc01e5be513ac3c3aadeea4b411f98262ac676) ∷
    (16979309193811568180, 0x343f84548f95cbacf1f7e96e672eaf7b4f1835226763d71fc2cfe354eab773ce) ∷
    (17858579783449496364, 0x0c142114dd708748e68db6e3b3010d235b1971cda5889b49eb5fa8653f36b07f) ∷
    (4080002374814135468, 0x2b77ed34389531cf320a30838e32ca944663c008992ac6983c7514ee9016fe41) ∷
    (18146190591450095071, 0x5711d5f0b6d1c529d1ebcfb201b7dd554e049f1a1915190c1c3d037e53c2283d) ∷
    (14376305522832806550, 0xd68892270a4358c723fefd6c3df811000689d276a7b15205c65037a41a989cce) ∷
    (16135954257557145446, 0xc992651ac89a97aecd0811c1761915a8e2c8f5153d1bdd994a789e6bd86ab717) ∷
    (11904136938687542398, 0xf0c78061d22ecc1b22a4f0cdd7edb944bae9e6d332243f55274a8fc4ecb2980a) ∷
    (11470928872492437449, 0x391ec7b29e4333ff0ebcfa0e5e11e07fb0e54a321da211d14aed03839be78643) ∷
    (7097439046376979922, 0x63ebbe85cf36f3d615608d25e4cc94d1cc7e052b434234a619770bc900a66f33) ∷
    (8199458687394524648, 0x4520317406a16043582611031f87f70d70f31cca98881561e936ed7a7f9aa22c) ∷
    (16804214099025738211, 0x88aade6531f24839a5a225f317b188e6b7eef5037f3e9c6a84bcadbe8dcc9a1a) ∷
    (1784102848868150994, 0xf42ba7e42270f887ecc4340d2457d7e3f3772335d412c2a939c1e4ee2122f6a5) ∷
    (3332012355205760889, 0xb52bad3b613173bde203c1c13c048be178baf2a85787b5d77c945e9cfcde321d) ∷
    (8606493698777425830, 0x13b4ecfb2e011f72ea3d3e885ab14cf9bcc932714087a8c81f95a7787b8f2b10) ∷
    (5040092498882930355, 0xb4248c210a2905b94345e1a8414d0e12efcfb2f4f0f2397159a71283397a0ccd) ∷
    (204552439812090982, 0x18606b350cd8bf565266bc352f0caddcf01e8fa789dd8a15386327cf8cabe198) ∷
    (7130754649290878647, 0xec972f9ecf256918a69c06804f5bd939563c02a0b5b0079e8a3c4fe89d17f4b6) ∷
    (10003731649463509742, 0xe1ded042f29b9bd6e93fd498ab65a52dee1f7d88a3d57de6ff70633439a3cefe) ∷
    (17270084892696143396, 0xd2e926bd252323a01a31f951f4dd8b3953cf7f6590aedacef06e0b5b5d4b51fe) ∷
    (11486056133135513766, 0xc008d976de0d4079d9a6363008d5900aaafb209b2dbfcc744809ce0d7decc457) ∷
    (3217087888452892181, 0xc23b328c9a51505e58a99c6c95fb4bd42f65f568594f11113711fdf6c43b2377) ∷
    (15597962236440396959, 0xf8768ad62d9faaf32a3405ea30ddcef8c4c56e70fc7497d24f3ed892be7b579e) ∷
    (13408668680779761755, 0x440313e79020205bac9ecc8f61d6f090b376d214aba890dd6d8eec99f5a3cb40) ∷
    (15684255966722425614, 0x55fa51df1be7293edecbe2be25f02c39845d22be3add8ee7a94218eb62783a51) ∷
    (15941198232892237678, 0x16d06a2d844a86a09a351adce09e12549b0b7dfd9277dad43b7f6acc111637cb) ∷
    (12481274129482623230, 0x8e4d96295aab0c933ef9ec756bd5129b4b768824bb8966a8c3579888a1a10a6e) ∷
    (13872308701783029083, 0x248d010701efdd1ba2443ce815cfe4286959a275d3c57cd55df5711e900b01e6) ∷
    (11056804671307967812, 0xb606856e4ece32a625d1a9f28a393afd6abfcf86fa51d4225e90f32ad54de89d) ∷
    (3723483217624449327, 0x4b828276a723b988964fbb3452be0e4241bdb0191111747471c79e34ae8460a8) ∷
    (16112293391942411381, 0x27fdd35e8bc83c6f66029bbcfb6707def0cd9729471339d05d3910e5a8122316) ∷
    []

-- A party that would be paid at an output of the deal itself.
payee_of_the_deal_itself :
    deal_replies accepting (sha_of wallets_begin_hashes) (codes "plan" ∷ codes "shown.bitml" ∷ codes "own.deal" ∷ [])
    ((codes "shown.bitml", shown_bitml) ∷ (codes "own.deal", own_deal) ∷ [])
    ≡ prints 13 (lines (
    codes "deal refused circular A" ∷
    []))
unfolding is_name word_prefix number_prefix symbol_prefix read_answer advert_of_all advert_at entries_at entry_at head_at
    deposit_at secret_at fee_at choice_with branches_at branch_at parts_at auth_at after_at put_at reveal_at split_at
    reveals_at puts_at put_reveals_at headed_at one_branch_at condition_at names_from test_at comparison_at formula_at
    constant_at length_at withdraw_at digits label_text stripped marked compact places_list sequences_list
    outputs_list preimage position_script many wide_at compact_at string_at input_at inputs_at output_at outputs_at
    witness_at witnesses_at plain_at marked_at transaction_at all_at script_meaning ops_of number_of_item signed_bytes
    item_of_number base64_text base64_bytes psbt_bytes psbt_text psbt_of records_at maps_at
    read_address address check_values next_state group_at byte_at
payee_of_the_deal_itself = refl

abbrev keys_deal : List ℕ
keys_deal =
    lines (
    codes "network bcrt" ∷
    codes "key D:A 03913ffe7036ec1cefec5d4589d0c2e8e7b6a300c97e0a106cd9624f149bcda7f5" ∷
    codes "key D:B 03ba15c3d41f9a0004b4f0e9f93716dc85ab600a158e90d0639f364ab04c766f21" ∷
    [])

abbrev keys_are_funded_hashes : List (ℕ × ℕ)
keys_are_funded_hashes =
    (3691551255371676412, 0x38c9f519e5fd595b443171894b9bbe98234079299289665bb3d6d1d010fcfdb9) ∷
    (10218227868334287480, 0x697c1a1f642d9dc9f320298a15a6c24c3cf1f2c6931ab893fc4f3a1c721f3d5f) ∷
    []

-- Where coins have to go before there are any.
keys_are_funded :
    deal_replies accepting (sha_of keys_are_funded_hashes) (codes "fund" ∷ codes "shown.bitml" ∷ codes "keys.deal" ∷ [])
    ((codes "shown.bitml", shown_bitml) ∷ (codes "keys.deal", keys_deal) ∷ [])
    ≡ prints 0 (lines (
    (codes "deposit x .. .. 100000 002038c9f519e5fd595b443171894b9bbe98234079299289665bb3d6d1d010fcfdb9 bcrt1q8r" ++
    codes "yl2x09l4v4k3p3wxy5hxa7nq35q7ffj2ykvkan6mgaqy8ulkus8s3sen") ∷
    (codes "deposit y .. .. 20000 0020697c1a1f642d9dc9f320298a15a6c24c3cf1f2c6931ab893fc4f3a1c721f3d5f bcrt1qd97" ++
    codes "p58my9kwunueq9x9ptfkzfs70rukxjvdt3ylufuapcusl840s4e0fck") ∷
    (codes "pay A 002038c9f519e5fd595b443171894b9bbe98234079299289665bb3d6d1d010fcfdb9 bcrt1q8ryl2x09l4v4k3p3wxy" ++
    codes "5hxa7nq35q7ffj2ykvkan6mgaqy8ulkus8s3sen") ∷
    (codes "pay B 0020697c1a1f642d9dc9f320298a15a6c24c3cf1f2c6931ab893fc4f3a1c721f3d5f bcrt1qd97p58my9kwunueq9x9" ++
    codes "ptfkzfs70rukxjvdt3ylufuapcusl840s4e0fck") ∷
    []))
unfolding is_name word_prefix number_prefix symbol_prefix read_answer advert_of_all advert_at entries_at entry_at head_at
    deposit_at secret_at fee_at choice_with branches_at branch_at parts_at auth_at after_at put_at reveal_at split_at
    reveals_at puts_at put_reveals_at headed_at one_branch_at condition_at names_from test_at comparison_at formula_at
    constant_at length_at withdraw_at digits label_text stripped marked compact places_list sequences_list
    outputs_list preimage position_script many wide_at compact_at string_at input_at inputs_at output_at outputs_at
    witness_at witnesses_at plain_at marked_at transaction_at all_at script_meaning ops_of number_of_item signed_bytes
    item_of_number base64_text base64_bytes psbt_bytes psbt_text psbt_of records_at maps_at
    read_address address check_values next_state group_at byte_at
keys_are_funded = refl

-- Nothing is known yet.
nothing_is_funded :
    deal_replies accepting (sha_of []) (codes "fund" ∷ codes "shown.bitml" ∷ codes "none.deal" ∷ [])
    ((codes "shown.bitml", shown_bitml) ∷ (codes "none.deal", []) ∷ [])
    ≡ prints 0 (lines (
    codes "deposit x .. .. 100000 .." ∷
    codes "deposit y .. .. 20000 .." ∷
    codes "pay A .." ∷
    codes "pay B .." ∷
    []))
unfolding is_name word_prefix number_prefix symbol_prefix read_answer advert_of_all advert_at entries_at entry_at head_at
    deposit_at secret_at fee_at choice_with branches_at branch_at parts_at auth_at after_at put_at reveal_at split_at
    reveals_at puts_at put_reveals_at headed_at one_branch_at condition_at names_from test_at comparison_at formula_at
    constant_at length_at withdraw_at digits label_text stripped marked compact places_list sequences_list
    outputs_list preimage position_script many wide_at compact_at string_at input_at inputs_at output_at outputs_at
    witness_at witnesses_at plain_at marked_at transaction_at all_at script_meaning ops_of number_of_item signed_bytes
    item_of_number base64_text base64_bytes psbt_bytes psbt_text psbt_of records_at maps_at
    read_address address check_values next_state group_at byte_at
nothing_is_funded = refl

abbrev begun_deal : List ℕ
begun_deal =
    lines (
    codes "network bcrt" ∷
    codes "pay A bcrt1q2xdvw50dp4r4anx544pgyd9hcmnt47hsr3twje" ∷
    codes "key D:B 03ba15c3d41f9a0004b4f0e9f93716dc85ab600a158e90d0639f364ab04c766f21" ∷
    codes "key B:0:r.0:A 03880380f4fe91faca6db3387f5c981c02fee0dbae9278e8dcf2e0769b15457907" ∷
    codes "key B:0:r.0:B 023c24fce1010225fd96c5407ef8f06e3a5bae1e6b8f3449ef2085634b3e148b29" ∷
    codes "key B:0:r.0.0:A 033d1647343f4a9acee04accaa2494f71c403de0c463951a641ba91da0f7950e8a" ∷
    codes "key B:0:r.0.0:B 0230588467e4001454ec1e1fc960ea058ef5ca3976b3ecfe152dfc29fc01d2ede2" ∷
    codes "key B:0:r.1:A 02f318d2ff23218b2bf4bcd80ee4b79558dab1a20505f57f125d38b4a8344b9eed" ∷
    codes "key B:0:r.1:B 028f194e849e01cc64b26090c5d47bffdbdb3904023c817a98729cd6b4a481e57d" ∷
    (codes "deposit x c7d1ca1a29278ff9aa4d23bed0d2f777b570582f3a1ff735b4272fdeb4707691 0 bcrt1q4qt5w9hzzvfl9lhx5" ++
    codes "44krg0wpwwgg4dc58fzht") ∷
    codes "deposit y 6b8fae22b3d8cef3f23d00741edc38e743d3830b33a353976f6a5fea9172aae2 1" ∷
    codes "hash a 12e53d027fec5936fb9e8d7ce7f98252d9b85e5633e2386fd3d59a1f2c1a2703" ∷
    [])

abbrev begun_signatures : List ℕ
begun_signatures =
    lines (
    (codes "cHNidP8BAIcCAAAAApF2cLTeLye0NfcfOi9YcLV399LQviNNqvmPJykaytHHAAAAAAD+////4qpykepfam+XU6MzC4PTQ+c43B50" ++
    codes "AD3y887YsyKuj2sBAAAAAP7///8B2NABAAAAAAAiACChFPEK0sQTBlwsTjPksjFEW/KwAWwTsXDhPvzo36atwAAAAAAAAQEfoIYB" ++
    codes "AAAAAAAWABSoF0cW4hMT8v7mpWthoe4LnIRVuAEIbAJIMEUCIQCEePKFU2iXhpMIuCjS0Y9GANELi3dnaWS7uoVd1GQkPAIgFz18" ++
    codes "d4IwPYdW6nj6YVOKnNOlW7V6GUnTTHS5ZQwptysBIQKc7PUOPRjDSuou+yQbXEsD4MNnH34UDX8tBvbo9tqZZgABASsgTgAAAAAA" ++
    codes "ACIAIGl8Gh9kLZ3J8yApihWmwkw88fLGkxq4k/xPOhxyHz1fIgIDuhXD1B+aAAS08On5NxbchatgChWOkNBjnzZKsEx2byFIMEUC" ++
    codes "IQD8VshbxRHFrFlrVLda2kjMwrSimRE/ZxucdezsagI2iwIgTYR46aAnijiWDWD1/LUXiV/vd94dB0Bj6XZwanj8NO0BAQMEAQAA" ++
    codes "AAEFIyEDuhXD1B+aAAS08On5NxbchatgChWOkNBjnzZKsEx2byGsAAA=") ∷
    (codes "cHNidP8BAF4CAAAAAWSkLVm6zsEnnKB/rBdAwQzAV/Hh1ehdYmA+45H38fkQAAAAAAD+////AfDMAQAAAAAAIgAgjlxSz1EXSSCi" ++
    codes "AFSYHnZA82Z27YqAY7lq4bof+1pyzVMAAAAAAAEBK9jQAQAAAAAAIgAgoRTxCtLEEwZcLE4z5LIxRFvysAFsE7Fw4T786N+mrcAi" ++
    codes "AgI8JPzhAQIl/ZbFQH748G46W64ea480Se8ghWNLPhSLKUcwRAIgJA4baG4mwiexobcwux8ibKCesAlMXsomyx6mr+AybCgCIEwA" ++
    codes "rDsjF4lGvMhz8Uuh9xQ29Dw1AbDxllr3+S/BNGwQASICA4gDgPT+kfrKbbM4f1yYHAL+4Nuuknjo3PLgdpsVRXkHRzBEAiA6QB+0" ++
    codes "clbtiyC1LOR/7TkWpo9Hg+5+TjYIt+8BI3IbGAIgb0NhNoe+yAq7tumv3GYtYfgFVRdd4lH2Er4vY9ynk2YBAQMEAQAAAAEFxGOC" ++
    codes "dmACCQKlaWuoIBLlPQJ/7Fk2+56NfOf5glLZuF5WM+I4b9PVmh8sGicDiGwAeWCUU59pdSEDiAOA9P6R+sptszh/XJgcAv7g266S" ++
    codes "eOjc8uB2mxVFeQetIQI8JPzhAQIl/ZbFQH748G46W64ea480Se8ghWNLPhSLKaxnIQLzGNL/IyGLK/S82A7kt5VY2rGiBQX1fxJd" ++
    codes "OLSoNEue7a0hAo8ZToSeAcxksmCQxdR7/9vbOQQCPIF6mHKc1rSkgeV9rGgAAA==") ∷
    (codes "cHNidP8BAFICAAAAAYqmQzZLtYRFhw5+TLySwzwnm6JjnGsNTaA+jvvl793rAAAAAAD+////AQjJAQAAAAAAFgAUUZrHUe0NR17M" ++
    codes "1K1CgjS3xua6+vAAAAAAAAEBK/DMAQAAAAAAIgAgjlxSz1EXSSCiAFSYHnZA82Z27YqAY7lq4bof+1pyzVMiAgIwWIRn5AAUVOwe" ++
    codes "H8lg6gWO9co5drPs/hUt/Cn8AdLt4kgwRQIhAKdqEoPRtJma5NRadogtUd6T1IYZ5Kdpj0826TEUMxQSAiA9/8bT2ATeaF8Q0HQ0" ++
    codes "amPOpMDb33lP1ZiVF8phkPqiGwEiAgM9Fkc0P0qazuBKzKoklPccQD3gxGOVGmQbqR2g95UOikgwRQIhAPT5vV6k0sOPd8nz7np2" ++
    codes "l5zIe3uJSTmaxX5ibD/eg0omAiB8dfZxZEBhdB6ojBT7O+7WYJQhBeTp5zRTHATPlYKJmAEBAwQBAAAAAQVGIQM9Fkc0P0qazuBK" ++
    codes "zKoklPccQD3gxGOVGmQbqR2g95UOiq0hAjBYhGfkABRU7B4fyWDqBY71yjl2s+z+FS38KfwB0u3irAAA") ∷
    (codes "cHNidP8BAF4CAAAAAWSkLVm6zsEnnKB/rBdAwQzAV/Hh1ehdYmA+45H38fkQAAAAAAD+////AfDMAQAAAAAAIgAgaXwaH2Qtncnz" ++
    codes "ICmKFabCTDzx8saTGriT/E86HHIfPV9grgoAAAEBK9jQAQAAAAAAIgAgoRTxCtLEEwZcLE4z5LIxRFvysAFsE7Fw4T786N+mrcAi" ++
    codes "AgKPGU6EngHMZLJgkMXUe//b2zkEAjyBephynNa0pIHlfUgwRQIhAJmyrsKDO5vn0//UK2nPdgBhgQdwRe8JwYAEi91cieq4AiAB" ++
    codes "Oe8ZTj1XCu+yR9D28/3ReZx/O5PFoXeBlb/DqE1GJwEiAgLzGNL/IyGLK/S82A7kt5VY2rGiBQX1fxJdOLSoNEue7UgwRQIhAPM4" ++
    codes "adw/guBs2r3QQtv4zMcInZ4BD80jFCOBDMtqYOcKAiBKUK5WOtEa9+bQevOi4z5mBYUvuQFzNMQcKotA87K+EgEBAwQBAAAAAQXE" ++
    codes "Y4J2YAIJAqVpa6ggEuU9An/sWTb7no185/mCUtm4XlYz4jhv09WaHywaJwOIbAB5YJRTn2l1IQOIA4D0/pH6ym2zOH9cmBwC/uDb" ++
    codes "rpJ46Nzy4HabFUV5B60hAjwk/OEBAiX9lsVAfvjwbjpbrh5rjzRJ7yCFY0s+FIsprGchAvMY0v8jIYsr9LzYDuS3lVjasaIFBfV/" ++
    codes "El04tKg0S57trSECjxlOhJ4BzGSyYJDF1Hv/29s5BAI8gXqYcpzWtKSB5X2saAAA") ∷
    [])

-- A wallet's input has its witness, and a key's its signature and script.
wallets_begin :
    deal_replies accepting (sha_of wallets_begin_hashes)
    (codes "finish" ∷ codes "shown.bitml" ∷ codes "begun.deal" ∷ codes "init" ∷ codes "begun.signatures" ∷ [])
    ((codes "shown.bitml", shown_bitml) ∷ (codes "begun.deal", begun_deal) ∷ (codes "begun.signatures", begun_signatures) ∷ [])
    ≡ prints 0 (lines (
    (codes "02000000000102917670b4de2f27b435f71f3a2f5870b577f7d2d0be234daaf98f27291acad1c70000000000feffffffe2aa" ++
    codes "7291ea5f6a6f9753a3330b83d343e738dc1e74003df2f3ced8b322ae8f6b0100000000feffffff01d8d00100000000002200" ++
    codes "20a114f10ad2c413065c2c4e33e4b231445bf2b0016c13b170e13efce8dfa6adc0024830450221008478f285536897869308" ++
    codes "b828d2d18f4600d10b8b77676964bbba855dd464243c0220173d7c7782303d8756ea78fa61538a9cd3a55bb57a1949d34c74" ++
    codes "b9650c29b72b0121029cecf50e3d18c34aea2efb241b5c4b03e0c3671f7e140d7f2d06f6e8f6da996602483045022100fc56" ++
    codes "c85bc511c5ac596b54b75ada48ccc2b4a299113f671b9c75ecec6a02368b02204d8478e9a0278a38960d60f5fcb517895fef" ++
    codes "77de1d074063e976706a78fc34ed01232103ba15c3d41f9a0004b4f0e9f93716dc85ab600a158e90d0639f364ab04c766f21" ++
    codes "ac00000000") ∷
    []))
unfolding is_name word_prefix number_prefix symbol_prefix read_answer advert_of_all advert_at entries_at entry_at head_at
    deposit_at secret_at fee_at choice_with branches_at branch_at parts_at auth_at after_at put_at reveal_at split_at
    reveals_at puts_at put_reveals_at headed_at one_branch_at condition_at names_from test_at comparison_at formula_at
    constant_at length_at withdraw_at digits label_text stripped marked compact places_list sequences_list
    outputs_list preimage position_script many wide_at compact_at string_at input_at inputs_at output_at outputs_at
    witness_at witnesses_at plain_at marked_at transaction_at all_at script_meaning ops_of number_of_item signed_bytes
    item_of_number base64_text base64_bytes psbt_bytes psbt_text psbt_of records_at maps_at
    read_address address check_values next_state group_at byte_at
wallets_begin = refl
