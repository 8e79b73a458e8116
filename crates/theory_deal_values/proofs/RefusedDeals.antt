-- Deals that are refused, one for each status.
use Rattle.std.proofs.Common.{◌≡◌, ℕ, List, [], ◌∷◌, ◌++◌, refl}
use Rattle.std.specs.Prelude.{codes}
use Rattle.std.specs.Fmt.{digits}
use Rattle.spec_terms.specs.Readable.{is_name}
use Rattle.spec_bitcoin.specs.Keys.{label_text}
use Rattle.spec_bitcoin.specs.Digests.{places_list, sequences_list, outputs_list, preimage}
use Rattle.spec_bitcoin.specs.Spelling.{stripped, marked, compact}
use Rattle.spec_bitcoin.specs.Reading.{many, wide_at, compact_at, string_at, input_at, inputs_at, output_at, outputs_at, witness_at}
use Rattle.spec_bitcoin.specs.Reading.{witnesses_at, plain_at, marked_at, transaction_at, all_at}
use Rattle.spec_bitcoin.specs.Meaning.{script_meaning}
use Rattle.spec_bitcoin.specs.Numbers.{number_of_item, signed_bytes, item_of_number}
use Rattle.spec_bitcoin.specs.Scripts.{ops_of}
use Rattle.spec_compiler.specs.Keyed.Instance.{position_script}
use Rattle.spec_text.specs.Lexis.{word_prefix, number_prefix, symbol_prefix}
use Rattle.spec_text.specs.ReadAdvert.{read_answer, advert_of_all, advert_at, entries_at, entry_at, head_at, deposit_at, secret_at, fee_at}
use Rattle.spec_text.specs.ReadContract.{withdraw_at, condition_at, reveals_at, puts_at, put_reveals_at, headed_at, one_branch_at}
use Rattle.spec_text.specs.ReadContract.{branches_at, choice_with, parts_at, auth_at, after_at, put_at, reveal_at, split_at, branch_at}
use Rattle.spec_text.specs.ReadTest.{constant_at, length_at, formula_at, comparison_at, test_at}
use Rattle.spec_text.specs.Reading.{names_from}
use Rattle.spec_tool.specs.Commands.{prints}
use Rattle.spec_tool.specs.Base64.{base64_text, base64_bytes}
use Rattle.spec_tool.specs.PsbtBytes.{psbt_of, psbt_bytes, records_at, maps_at}
use Rattle.spec_tool.specs.PsbtText.{psbt_text}
use Rattle.spec_deal.specs.Verifier.{accepting}
use Rattle.theory_values.specs.Replies.{lines, sha_of}
use Rattle.theory_deal_values.specs.Replies.{deal_replies}

abbrev circle_bitml : List ℕ
circle_bitml =
    lines (
    (codes "{A:! 50000 @ x | B:! 20000 @ y | B:? 30000 @ z} fee 1000 (put z . withdraw A + after 700100 : withdr" ++
    codes "aw A)") ∷
    [])

abbrev circle_deal : List ℕ
circle_deal =
    lines (
    codes "key D:A 03913ffe7036ec1cefec5d4589d0c2e8e7b6a300c97e0a106cd9624f149bcda7f5" ∷
    codes "key D:B 03ba15c3d41f9a0004b4f0e9f93716dc85ab600a158e90d0639f364ab04c766f21" ∷
    codes "key B:0:r.0:A 03880380f4fe91faca6db3387f5c981c02fee0dbae9278e8dcf2e0769b15457907" ∷
    codes "key B:0:r.0:B 023c24fce1010225fd96c5407ef8f06e3a5bae1e6b8f3449ef2085634b3e148b29" ∷
    codes "key B:0:r.0.0:A 033d1647343f4a9acee04accaa2494f71c403de0c463951a641ba91da0f7950e8a" ∷
    codes "key B:0:r.0.0:B 0230588467e4001454ec1e1fc960ea058ef5ca3976b3ecfe152dfc29fc01d2ede2" ∷
    codes "key B:0:r.1:A 02f318d2ff23218b2bf4bcd80ee4b79558dab1a20505f57f125d38b4a8344b9eed" ∷
    codes "key B:0:r.1:B 028f194e849e01cc64b26090c5d47bffdbdb3904023c817a98729cd6b4a481e57d" ∷
    codes "deposit x c7d1ca1a29278ff9aa4d23bed0d2f777b570582f3a1ff735b4272fdeb4707691 0" ∷
    codes "deposit y 6b8fae22b3d8cef3f23d00741edc38e743d3830b33a353976f6a5fea9172aae2 1" ∷
    codes "deposit z 5c0e6caa01c1828792f95d11cc983b1bf4ab01dc08c88325565e6b49c2b87579 0" ∷
    [])

abbrev deposit_of_the_deal_itself_hashes : List (ℕ × ℕ)
deposit_of_the_deal_itself_hashes =
    (3190265000729283605, 0xd24d06c834ed888e8bfe41fcf027ee4bdd2e9ca14b6b04ff2432df2b3dec0819) ∷
    (1230108295213107197, 0x5c80841bb8eec655344fe3eebb41b250b2c06699147c7cbac2cba0786bf654ce) ∷
    (16673361320222251401, 0x7975b8c2496b5e562583c808dc01abf41b3b98cc115df9928782c101aa6c0e5c) ∷
    (4080002374814135468, 0x2b77ed34389531cf320a30838e32ca944663c008992ac6983c7514ee9016fe41) ∷
    (18146190591450095071, 0x5711d5f0b6d1c529d1ebcfb201b7dd554e049f1a1915190c1c3d037e53c2283d) ∷
    (14376305522832806550, 0xd68892270a4358c723fefd6c3df811000689d276a7b15205c65037a41a989cce) ∷
    (16135954257557145446, 0xc992651ac89a97aecd0811c1761915a8e2c8f5153d1bdd994a789e6bd86ab717) ∷
    (13135251493248606658, 0x2d7f93e2f65de702b4ea03327e421a9f7ebc8201b3d1b09d91f3d28d27af7418) ∷
    (5694764625166594304, 0xc03a7d7970bac0bd4364ff31b84b064eaa52c716b4e9aa302ec965c3a80a3027) ∷
    (2885904900409698856, 0xe241be401712d228b3eead05d88d9d14bfddb1115f9cb0f230f8836fbb9f75c1) ∷
    (13116954641524620138, 0xbb033633c1ce6f90387323f952f13e5f5c4b0d04a237872873c4d75d57b50ad9) ∷
    (12053404938066575515, 0x5a7afec06798310a054f03e06326c859e53a675114228124abfc9f714cd2284b) ∷
    (18170973713426059263, 0x81fc6f4d74876bae54ece6b868cde5ca52bec75f9d9709d58fe1ec80dc937f85) ∷
    (15940804879542246790, 0x8e5c52cf51174920a20054981e7640f36676ed8a8063b96ae1ba1ffb5a72cd53) ∷
    (9137829500134412364, 0xa4811283d3eb7e129e98c4bc540a1869ebffd563ab5353464c89af02ae56b392) ∷
    (17021992909611378969, 0xeee0468fa9952a73987a8c468b59ce6dca3e67c692b2e61d6ee3d21205d69a40) ∷
    (12000681939947714340, 0xf4e168f17d207837f7983991fd11f106d25e6fab126ae94c77b1fc8c53213b85) ∷
    (14253918578790822031, 0x9b343c278492f3333afce3dc6c19ed9b52b47f8d402eb84835e02909a258af53) ∷
    (2293417020859008545, 0x3e8af17b6dead5bea8648d80f2a061fbb7ec81ddf0650ae779f98a073615be42) ∷
    (6005024990854087506, 0x7587afffb089b428aa7ef6041e3eaf65ab663b4eb7ce015a03fe7c499ce823ea) ∷
    (8073995675311178071, 0xb3ff9f24035e0419692c25feb67ba24e377b46097346e841713ccf5a9eff57ea) ∷
    (14447270585710080579, 0xafe6af2b1245b46d4b85a930e50e954c52ad1fec2635603d12b62d3ede90a60e) ∷
    (8640222109007762481, 0xad9d267a0e37dec8607422c61567bd6b5fc06f55d65c2c27b005f9533cd51ea4) ∷
    (17195460439363100009, 0x67154158ff5d84c57f19448d9db958c3675f767e2315c3f5cd531af99941c4a4) ∷
    (3691551255371676412, 0x38c9f519e5fd595b443171894b9bbe98234079299289665bb3d6d1d010fcfdb9) ∷
    (17740270149969989214, 0xf03e54f3c0443d435c0cdb5a1b8721ca850d78060aa49f18b0719843eeca3180) ∷
    (1392646256811743665, 0x9b165e33ed642f7d05b59d534230f1194312d69c9f007368b099342d8377e01f) ∷
    (7037299536188603387, 0x79fd2cbf606f19fbd88ec0f16606c6bde8c7d7292330776b39500f5eb200b791) ∷
    (513153215403618718, 0x68ef882c677f65f847bfd422355e66f751cf03d9b54562be528d4602e537cd72) ∷
    (5040092498882930355, 0xb4248c210a2905b94345e1a8414d0e12efcfb2f4f0f2397159a71283397a0ccd) ∷
    (204552439812090982, 0x18606b350cd8bf565266bc352f0caddcf01e8fa789dd8a15386327cf8cabe198) ∷
    (9834103264603250827, 0x86733d21e43b3b36185b6daf5838792d2d10c6ff67b495e195fb774d3e2b250f) ∷
    (17152936774807065240, 0xfdfbb97f1b22a4f79ca49f720010012bcdc151225d4b39d1e7164107568ec1a2) ∷
    (4210445611137788981, 0x9478b5961c5c2ed9a480a6fc9a7b5585ad86bb51a063830bdd42fa1fcd6f848b) ∷
    (2415206746335366306, 0x734edaa184d475f34cd3304d2605b182205b60e31d2f73945d840c0006169860) ∷
    (11425007419777279592, 0xee63b6198f6349d3de918621a670ea052f40b30406df3c896747157c0155937b) ∷
    (857049186010883452, 0x9d5f1a80d7893c532e2e059d756037625234f5e53197b9deb2af21faf0cbcfda) ∷
    (12459635016240226562, 0x4f8d074d9b440f2f571a7261e94061961cb8fc6c5654c9c566ef11899387d21d) ∷
    (2138497782589539781, 0x88e1a147e4ae2c4e344fcdce3d21c7a2cfd79744df04e32939a7a6aac73b167b) ∷
    (8834780204714375174, 0x0b0526b611b7c09fc030be73327d7e0fb5d7388c4654589e9d2a2b25de573fe7) ∷
    (8972086741739634090, 0xa89d02c13d18e14fcfed56242bcaf21288fa488cb1a918344ff06134c9915fe6) ∷
    (15040764904857642685, 0xf0286bc413c3fba1a32e3dabd9631c432fc7a2f15239902655f4cf9488b3e9fd) ∷
    (6479834553034333340, 0x41c43925e16ce1b001079511f6753b69611e1475860c02a83a100d375a80d2b3) ∷
    []

-- A deposit that one of the deal's own transactions would make.
deposit_of_the_deal_itself :
    deal_replies accepting (sha_of deposit_of_the_deal_itself_hashes) (codes "plan" ∷ codes "circle.bitml" ∷ codes "circle.deal" ∷ [])
    ((codes "circle.bitml", circle_bitml) ∷ (codes "circle.deal", circle_deal) ∷ [])
    ≡ prints 13 (lines (
    codes "deal refused circular z" ∷
    []))
unfolding is_name word_prefix number_prefix symbol_prefix read_answer advert_of_all advert_at entries_at entry_at head_at
    deposit_at secret_at fee_at choice_with branches_at branch_at parts_at auth_at after_at put_at reveal_at split_at
    reveals_at puts_at put_reveals_at headed_at one_branch_at condition_at names_from test_at comparison_at formula_at
    constant_at length_at withdraw_at digits label_text stripped marked compact places_list sequences_list
    outputs_list preimage position_script many wide_at compact_at string_at input_at inputs_at output_at outputs_at
    witness_at witnesses_at plain_at marked_at transaction_at all_at script_meaning ops_of number_of_item signed_bytes
    item_of_number base64_text base64_bytes psbt_bytes psbt_text psbt_of records_at maps_at
deposit_of_the_deal_itself = refl

abbrev conflict_bitml : List ℕ
conflict_bitml =
    lines (
    (codes "{A:! 100000 @ x | B:! 20000 @ y | A: secret a} fee 1000 (reveal a if |a| < 3 . withdraw A + after 70" ++
    codes "0000 : B : withdraw B)") ∷
    [])

abbrev conflict_deal : List ℕ
conflict_deal =
    lines (
    codes "key D:A 03913ffe7036ec1cefec5d4589d0c2e8e7b6a300c97e0a106cd9624f149bcda7f5" ∷
    codes "key D:B 03ba15c3d41f9a0004b4f0e9f93716dc85ab600a158e90d0639f364ab04c766f21" ∷
    codes "key B:0:r.0:A 03880380f4fe91faca6db3387f5c981c02fee0dbae9278e8dcf2e0769b15457907" ∷
    codes "key B:0:r.0:B 023c24fce1010225fd96c5407ef8f06e3a5bae1e6b8f3449ef2085634b3e148b29" ∷
    codes "key B:0:r.0.0:A 033d1647343f4a9acee04accaa2494f71c403de0c463951a641ba91da0f7950e8a" ∷
    codes "key B:0:r.0.0:B 0230588467e4001454ec1e1fc960ea058ef5ca3976b3ecfe152dfc29fc01d2ede2" ∷
    codes "key B:0:r.1:A 02f318d2ff23218b2bf4bcd80ee4b79558dab1a20505f57f125d38b4a8344b9eed" ∷
    codes "key B:0:r.1:B 028f194e849e01cc64b26090c5d47bffdbdb3904023c817a98729cd6b4a481e57d" ∷
    codes "deposit x c7d1ca1a29278ff9aa4d23bed0d2f777b570582f3a1ff735b4272fdeb4707691 0" ∷
    codes "deposit y 6b8fae22b3d8cef3f23d00741edc38e743d3830b33a353976f6a5fea9172aae2 1" ∷
    codes "hash a 12e53d027fec5936fb9e8d7ce7f98252d9b85e5633e2386fd3d59a1f2c1a2703" ∷
    [])

abbrev conflict_signatures : List ℕ
conflict_signatures =
    lines (
    (codes "cHNidP8BAF4CAAAAAWSkLVm6zsEnnKB/rBdAwQzAV/Hh1ehdYmA+45H38fkQAAAAAAD+////AfDMAQAAAAAAIgAgjlxSz1EXSSCi" ++
    codes "AFSYHnZA82Z27YqAY7lq4bof+1pyzVMAAAAAAAEBK9jQAQAAAAAAIgAgoRTxCtLEEwZcLE4z5LIxRFvysAFsE7Fw4T786N+mrcAi" ++
    codes "AgI8JPzhAQIl/ZbFQH748G46W64ea480Se8ghWNLPhSLKUcwRAIgJA4baG4mwiexobcwux8ibKCesAlMXsomyx6mr+AybCgCIEwA" ++
    codes "rDsjF4lGvMhz8Uuh9xQ29Dw1AbDxllr3+S/BNGwQAQEDBAEAAAABBcRjgnZgAgkCpWlrqCAS5T0Cf+xZNvuejXzn+YJS2bheVjPi" ++
    codes "OG/T1ZofLBonA4hsAHlglFOfaXUhA4gDgPT+kfrKbbM4f1yYHAL+4Nuuknjo3PLgdpsVRXkHrSECPCT84QECJf2WxUB++PBuOluu" ++
    codes "HmuPNEnvIIVjSz4UiymsZyEC8xjS/yMhiyv0vNgO5LeVWNqxogUF9X8SXTi0qDRLnu2tIQKPGU6EngHMZLJgkMXUe//b2zkEAjyB" ++
    codes "ephynNa0pIHlfaxoAAA=") ∷
    codes "" ∷
    (codes "cHNidP8BAF4CAAAAAWSkLVm6zsEnnKB/rBdAwQzAV/Hh1ehdYmA+45H38fkQAAAAAAD+////AfDMAQAAAAAAIgAgjlxSz1EXSSCi" ++
    codes "AFSYHnZA82Z27YqAY7lq4bof+1pyzVMAAAAAAAEBK9jQAQAAAAAAIgAgoRTxCtLEEwZcLE4z5LIxRFvysAFsE7Fw4T786N+mrcAi" ++
    codes "AgI8JPzhAQIl/ZbFQH748G46W64ea480Se8ghWNLPhSLKUgwRQIhAKzhqbdOOICwl0z7AHzvC18hVMqHEEqZyH5lQAsF8VxpAiAN" ++
    codes "3FXPf1Ko3IyLCBvWrwAXqoDNKeHIF1HqeZbdPe80bAEBAwQBAAAAAQXEY4J2YAIJAqVpa6ggEuU9An/sWTb7no185/mCUtm4XlYz" ++
    codes "4jhv09WaHywaJwOIbAB5YJRTn2l1IQOIA4D0/pH6ym2zOH9cmBwC/uDbrpJ46Nzy4HabFUV5B60hAjwk/OEBAiX9lsVAfvjwbjpb" ++
    codes "rh5rjzRJ7yCFY0s+FIsprGchAvMY0v8jIYsr9LzYDuS3lVjasaIFBfV/El04tKg0S57trSECjxlOhJ4BzGSyYJDF1Hv/29s5BAI8" ++
    codes "gXqYcpzWtKSB5X2saAAA") ∷
    [])

abbrev another_signature_for_one_key_hashes : List (ℕ × ℕ)
another_signature_for_one_key_hashes =
    (934272902507189875, 0xa114f10ad2c413065c2c4e33e4b231445bf2b0016c13b170e13efce8dfa6adc0) ∷
    (188406309477158521, 0x0f32240e93b5cb87dbb44681fb0e14919d4df976b7fcb0739e853e979798efc7) ∷
    (15353328361583202301, 0x64a42d59bacec1279ca07fac1740c10cc057f1e1d5e85d62603ee391f7f1f910) ∷
    (4080002374814135468, 0x2b77ed34389531cf320a30838e32ca944663c008992ac6983c7514ee9016fe41) ∷
    (18146190591450095071, 0x5711d5f0b6d1c529d1ebcfb201b7dd554e049f1a1915190c1c3d037e53c2283d) ∷
    (14376305522832806550, 0xd68892270a4358c723fefd6c3df811000689d276a7b15205c65037a41a989cce) ∷
    (16135954257557145446, 0xc992651ac89a97aecd0811c1761915a8e2c8f5153d1bdd994a789e6bd86ab717) ∷
    (11904136938687542398, 0xf0c78061d22ecc1b22a4f0cdd7edb944bae9e6d332243f55274a8fc4ecb2980a) ∷
    (11470928872492437449, 0x391ec7b29e4333ff0ebcfa0e5e11e07fb0e54a321da211d14aed03839be78643) ∷
    (11757003483022530728, 0x3363a052370b572227e49931e0acad0d3b5be1868da1d83799b5d04298b1f107) ∷
    (11831738820569013141, 0xffcb34ea52b0edf727b1a311dbf5b2859c087e07c4d4f84ca1351ffd09a64fac) ∷
    (16804214099025738211, 0x88aade6531f24839a5a225f317b188e6b7eef5037f3e9c6a84bcadbe8dcc9a1a) ∷
    (1784102848868150994, 0xf42ba7e42270f887ecc4340d2457d7e3f3772335d412c2a939c1e4ee2122f6a5) ∷
    (15940804879542246790, 0x8e5c52cf51174920a20054981e7640f36676ed8a8063b96ae1ba1ffb5a72cd53) ∷
    (6819451735403476304, 0x5500b707a4d1eebbca36929299370e8b80c0ba151dff0c617d3ebb51699b9c55) ∷
    (9231889525126806902, 0x8aa643364bb58445870e7e4cbc92c33c279ba2639c6b0d4da03e8efbe5efddeb) ∷
    (3332012355205760889, 0xb52bad3b613173bde203c1c13c048be178baf2a85787b5d77c945e9cfcde321d) ∷
    (8606493698777425830, 0x13b4ecfb2e011f72ea3d3e885ab14cf9bcc932714087a8c81f95a7787b8f2b10) ∷
    (5040092498882930355, 0xb4248c210a2905b94345e1a8414d0e12efcfb2f4f0f2397159a71283397a0ccd) ∷
    (204552439812090982, 0x18606b350cd8bf565266bc352f0caddcf01e8fa789dd8a15386327cf8cabe198) ∷
    (7130754649290878647, 0xec972f9ecf256918a69c06804f5bd939563c02a0b5b0079e8a3c4fe89d17f4b6) ∷
    (10003731649463509742, 0xe1ded042f29b9bd6e93fd498ab65a52dee1f7d88a3d57de6ff70633439a3cefe) ∷
    (17270084892696143396, 0xd2e926bd252323a01a31f951f4dd8b3953cf7f6590aedacef06e0b5b5d4b51fe) ∷
    (11486056133135513766, 0xc008d976de0d4079d9a6363008d5900aaafb209b2dbfcc744809ce0d7decc457) ∷
    (3691551255371676412, 0x38c9f519e5fd595b443171894b9bbe98234079299289665bb3d6d1d010fcfdb9) ∷
    (1281191719116439971, 0xb25da1f88f89f26ab9956fcd3a1ed9861749cc5e3482b6ff52eeab8d3d824ce3) ∷
    (16972138637547280928, 0xad777d08ba4c00398aa186ecfaf2ecec0d05934d5331d2e2e54696f6ccd4e0f4) ∷
    (3217087888452892181, 0xc23b328c9a51505e58a99c6c95fb4bd42f65f568594f11113711fdf6c43b2377) ∷
    (15597962236440396959, 0xf8768ad62d9faaf32a3405ea30ddcef8c4c56e70fc7497d24f3ed892be7b579e) ∷
    (1032629611570274414, 0xd122247859e1662a3799c760f6e52b79c7388947b39b7b93d4f6bf110a4e6be2) ∷
    (9616796591008842317, 0x2925c6aec092fb9f400da1f8b0a5ca48bdeb3224a990844a707aafb83e5bee5b) ∷
    (7101757607011618894, 0x0a93250b30769eff260dd36a2d05e961655c764999359d15efa2b961b3e6a46b) ∷
    (10047481156168111815, 0x558b7c22f6c91c94d93f8e60b9b95f268d7269f7b33e781df071544478980628) ∷
    (10218227868334287480, 0x697c1a1f642d9dc9f320298a15a6c24c3cf1f2c6931ab893fc4f3a1c721f3d5f) ∷
    (16979309193811568180, 0x343f84548f95cbacf1f7e96e672eaf7b4f1835226763d71fc2cfe354eab773ce) ∷
    (17858579783449496364, 0x0c142114dd708748e68db6e3b3010d235b1971cda5889b49eb5fa8653f36b07f) ∷
    (13872308701783029083, 0x248d010701efdd1ba2443ce815cfe4286959a275d3c57cd55df5711e900b01e6) ∷
    (11056804671307967812, 0xb606856e4ece32a625d1a9f28a393afd6abfcf86fa51d4225e90f32ad54de89d) ∷
    (3723483217624449327, 0x4b828276a723b988964fbb3452be0e4241bdb0191111747471c79e34ae8460a8) ∷
    (16112293391942411381, 0x27fdd35e8bc83c6f66029bbcfb6707def0cd9729471339d05d3910e5a8122316) ∷
    []

-- Two signatures for one key of one input.
another_signature_for_one_key :
    deal_replies accepting (sha_of another_signature_for_one_key_hashes) (codes "missing" ∷ codes "conflict.bitml" ∷ codes "conflict.deal" ∷ codes "conflict.signatures" ∷ [])
    ((codes "conflict.bitml", conflict_bitml) ∷ (codes "conflict.deal", conflict_deal) ∷ (codes "conflict.signatures", conflict_signatures) ∷ [])
    ≡ prints 14 (lines (
    codes "signatures refused line 3 conflict 0" ∷
    []))
unfolding is_name word_prefix number_prefix symbol_prefix read_answer advert_of_all advert_at entries_at entry_at head_at
    deposit_at secret_at fee_at choice_with branches_at branch_at parts_at auth_at after_at put_at reveal_at split_at
    reveals_at puts_at put_reveals_at headed_at one_branch_at condition_at names_from test_at comparison_at formula_at
    constant_at length_at withdraw_at digits label_text stripped marked compact places_list sequences_list
    outputs_list preimage position_script many wide_at compact_at string_at input_at inputs_at output_at outputs_at
    witness_at witnesses_at plain_at marked_at transaction_at all_at script_meaning ops_of number_of_item signed_bytes
    item_of_number base64_text base64_bytes psbt_bytes psbt_text psbt_of records_at maps_at
another_signature_for_one_key = refl

abbrev wrong_signatures : List ℕ
wrong_signatures =
    lines (
    (codes "cHNidP8BAIcCAAAAApF2cLTeLye0NfcfOi9YcLV399LQviNNqvmPJykaytHHAAAAAAD+////4qpykepfam+XU6MzC4PTQ+c43B50" ++
    codes "AD3y887YsyKuj2sBAAAAAP7///8B2NABAAAAAAAiACChFPEK0sQTBlwsTjPksjFEW/KwAWwTsXDhPvzo36atwAAAAAAAAQEroIYB" ++
    codes "AAAAAAAiACA4yfUZ5f1ZW0QxcYlLm76YI0B5KZKJZluz1tHQEPz9uSICA5E//nA27Bzv7F1FidDC6Oe2owDJfgoQbNliTxSbzaf1" ++
    codes "RzBEAiBbv7O9AOt5CLUpWmwmZ13Vt6Ui55vocYjLbPlybELYWgIgSFC04gsuhdA6IZQTozVcETMDcIpKmMqNbvz4AqIyKJcBAQME" ++
    codes "AQAAAAEFIyEDkT/+cDbsHO/sXUWJ0MLo57ajAMl+ChBs2WJPFJvNp/WsAAEBKyBOAAAAAAAAIgAgaXwaH2QtncnzICmKFabCTDzx" ++
    codes "8saTGriT/E86HHIfPV8iAgO6FcPUH5oABLTw6fk3FtyFq2AKFY6Q0GOfNkqwTHZvIUgwRQIhAPxWyFvFEcWsWWtUt1raSMzCtKKZ" ++
    codes "ET9nG5x17OxqAjaLAiBNhHjpoCeKOJYNYPX8tReJX+933h0HQGPpdnBqePw07QEBAwQBAAAAAQUjIQO6FcPUH5oABLTw6fk3FtyF" ++
    codes "q2AKFY6Q0GOfNkqwTHZvIawAAA==") ∷
    (codes "cHNidP8BAF4CAAAAAWSkLVm6zsEnnKB/rBdAwQzAV/Hh1ehdYmA+45H38fkQAAAAAAD+////AfDMAQAAAAAAIgAgjlxSz1EXSSCi" ++
    codes "AFSYHnZA82Z27YqAY7lq4bof+1pyzVMAAAAAAAEBK9jQAQAAAAAAIgAgoRTxCtLEEwZcLE4z5LIxRFvysAFsE7Fw4T786N+mrcAi" ++
    codes "AgI8JPzhAQIl/ZbFQH748G46W64ea480Se8ghWNLPhSLKUcwRAIgJA4baG4mwiexobcwux8ibKCesAlMXsomyx6mr+AybCgCIEwA" ++
    codes "rDsjF4lGvMhz8Uuh9xQ29Dw1AbDxllr3+S/BNGwQASICA4gDgPT+kfrKbbM4f1yYHAL+4Nuuknjo3PLgdpsVRXkHRzBEAiA6QB+0" ++
    codes "clbtiyC1LOR/7TkWpo9Hg+5+TjYIt+8BI3IbGAIgb0NhNoe+yAq7tumv3GYtYfgFVRdd4lH2Er4vY9ynk2YBAQMEAQAAAAEFxGOC" ++
    codes "dmACCQKlaWuoIBLlPQJ/7Fk2+56NfOf5glLZuF5WM+I4b9PVmh8sGicDiGwAeWCUU59pdSEDiAOA9P6R+sptszh/XJgcAv7g266S" ++
    codes "eOjc8uB2mxVFeQetIQI8JPzhAQIl/ZbFQH748G46W64ea480Se8ghWNLPhSLKaxnIQLzGNL/IyGLK/S82A7kt5VY2rGiBQX1fxJd" ++
    codes "OLSoNEue7a0hAo8ZToSeAcxksmCQxdR7/9vbOQQCPIF6mHKc1rSkgeV9rGgAAA==") ∷
    (codes "cHNidP8BAF4CAAAAAYqmQzZLtYRFhw5+TLySwzwnm6JjnGsNTaA+jvvl793rAAAAAAD+////AQjJAQAAAAAAIgAgOMn1GeX9WVtE" ++
    codes "MXGJS5u+mCNAeSmSiWZbs9bR0BD8/bkAAAAAAAEBK/DMAQAAAAAAIgAgjlxSz1EXSSCiAFSYHnZA82Z27YqAY7lq4bof+1pyzVMi" ++
    codes "AgIwWIRn5AAUVOweH8lg6gWO9co5drPs/hUt/Cn8AdLt4kgwRQIhAIm2yAxc6MUQQ2u+NGllm9dQZdwmTGcIyhVk7OcgNHlCAiBK" ++
    codes "23jgK8S4uilR0UdG/35PvjIZUE3e5Pe6pbKzXpBy5gEiAgM9Fkc0P0qazuBKzKoklPccQD3gxGOVGmQbqR2g95UOikgwRQIhALvw" ++
    codes "HjuGpO+1wPbhyeGk+fN8TTJbONj+J21Wr33b6ULmAiA8BOMWW3ElSmIdEN7UoN4vhx17sqGcSzOP8QtmPa6paQEBAwQBAAAAAQVG" ++
    codes "IQM9Fkc0P0qazuBKzKoklPccQD3gxGOVGmQbqR2g95UOiq0hAjBYhGfkABRU7B4fyWDqBY71yjl2s+z+FS38KfwB0u3irAAA") ∷
    (codes "cHNidP8BAF4CAAAAAWSkLVm6zsEnnKB/rBdAwQzAV/Hh1ehdYmA+45H38fkQAAAAAAD+////AfDMAQAAAAAAIgAgaXwaH2Qtncnz" ++
    codes "ICmKFabCTDzx8saTGriT/E86HHIfPV9grgoAAAEBK9jQAQAAAAAAIgAgoRTxCtLEEwZcLE4z5LIxRFvysAFsE7Fw4T786N+mrcAi" ++
    codes "AgKPGU6EngHMZLJgkMXUe//b2zkEAjyBephynNa0pIHlfUgwRQIhAJmyrsKDO5vn0//UK2nPdgBhgQdwRe8JwYAEi91cieq4AiAB" ++
    codes "Oe8ZTj1XCu+yR9D28/3ReZx/O5PFoXeBlb/DqE1GJwEiAgLzGNL/IyGLK/S82A7kt5VY2rGiBQX1fxJdOLSoNEue7UgwRQIhAPM4" ++
    codes "adw/guBs2r3QQtv4zMcInZ4BD80jFCOBDMtqYOcKAiBKUK5WOtEa9+bQevOi4z5mBYUvuQFzNMQcKotA87K+EgEBAwQBAAAAAQXE" ++
    codes "Y4J2YAIJAqVpa6ggEuU9An/sWTb7no185/mCUtm4XlYz4jhv09WaHywaJwOIbAB5YJRTn2l1IQOIA4D0/pH6ym2zOH9cmBwC/uDb" ++
    codes "rpJ46Nzy4HabFUV5B60hAjwk/OEBAiX9lsVAfvjwbjpbrh5rjzRJ7yCFY0s+FIsprGchAvMY0v8jIYsr9LzYDuS3lVjasaIFBfV/" ++
    codes "El04tKg0S57trSECjxlOhJ4BzGSyYJDF1Hv/29s5BAI8gXqYcpzWtKSB5X2saAAA") ∷
    [])

abbrev wrong_secrets : List ℕ
wrong_secrets =
    lines (
    codes "secret a 00112233445566778899aabbccddeeff0103" ∷
    [])

abbrev string_of_another_hash_hashes : List (ℕ × ℕ)
string_of_another_hash_hashes =
    (934272902507189875, 0xa114f10ad2c413065c2c4e33e4b231445bf2b0016c13b170e13efce8dfa6adc0) ∷
    (188406309477158521, 0x0f32240e93b5cb87dbb44681fb0e14919d4df976b7fcb0739e853e979798efc7) ∷
    (15353328361583202301, 0x64a42d59bacec1279ca07fac1740c10cc057f1e1d5e85d62603ee391f7f1f910) ∷
    (4080002374814135468, 0x2b77ed34389531cf320a30838e32ca944663c008992ac6983c7514ee9016fe41) ∷
    (18146190591450095071, 0x5711d5f0b6d1c529d1ebcfb201b7dd554e049f1a1915190c1c3d037e53c2283d) ∷
    (14376305522832806550, 0xd68892270a4358c723fefd6c3df811000689d276a7b15205c65037a41a989cce) ∷
    (16135954257557145446, 0xc992651ac89a97aecd0811c1761915a8e2c8f5153d1bdd994a789e6bd86ab717) ∷
    (11904136938687542398, 0xf0c78061d22ecc1b22a4f0cdd7edb944bae9e6d332243f55274a8fc4ecb2980a) ∷
    (11470928872492437449, 0x391ec7b29e4333ff0ebcfa0e5e11e07fb0e54a321da211d14aed03839be78643) ∷
    (11757003483022530728, 0x3363a052370b572227e49931e0acad0d3b5be1868da1d83799b5d04298b1f107) ∷
    (11831738820569013141, 0xffcb34ea52b0edf727b1a311dbf5b2859c087e07c4d4f84ca1351ffd09a64fac) ∷
    (16804214099025738211, 0x88aade6531f24839a5a225f317b188e6b7eef5037f3e9c6a84bcadbe8dcc9a1a) ∷
    (1784102848868150994, 0xf42ba7e42270f887ecc4340d2457d7e3f3772335d412c2a939c1e4ee2122f6a5) ∷
    (15940804879542246790, 0x8e5c52cf51174920a20054981e7640f36676ed8a8063b96ae1ba1ffb5a72cd53) ∷
    (6819451735403476304, 0x5500b707a4d1eebbca36929299370e8b80c0ba151dff0c617d3ebb51699b9c55) ∷
    (9231889525126806902, 0x8aa643364bb58445870e7e4cbc92c33c279ba2639c6b0d4da03e8efbe5efddeb) ∷
    (3332012355205760889, 0xb52bad3b613173bde203c1c13c048be178baf2a85787b5d77c945e9cfcde321d) ∷
    (8606493698777425830, 0x13b4ecfb2e011f72ea3d3e885ab14cf9bcc932714087a8c81f95a7787b8f2b10) ∷
    (5040092498882930355, 0xb4248c210a2905b94345e1a8414d0e12efcfb2f4f0f2397159a71283397a0ccd) ∷
    (204552439812090982, 0x18606b350cd8bf565266bc352f0caddcf01e8fa789dd8a15386327cf8cabe198) ∷
    (7130754649290878647, 0xec972f9ecf256918a69c06804f5bd939563c02a0b5b0079e8a3c4fe89d17f4b6) ∷
    (10003731649463509742, 0xe1ded042f29b9bd6e93fd498ab65a52dee1f7d88a3d57de6ff70633439a3cefe) ∷
    (17270084892696143396, 0xd2e926bd252323a01a31f951f4dd8b3953cf7f6590aedacef06e0b5b5d4b51fe) ∷
    (11486056133135513766, 0xc008d976de0d4079d9a6363008d5900aaafb209b2dbfcc744809ce0d7decc457) ∷
    (3691551255371676412, 0x38c9f519e5fd595b443171894b9bbe98234079299289665bb3d6d1d010fcfdb9) ∷
    (1281191719116439971, 0xb25da1f88f89f26ab9956fcd3a1ed9861749cc5e3482b6ff52eeab8d3d824ce3) ∷
    (16972138637547280928, 0xad777d08ba4c00398aa186ecfaf2ecec0d05934d5331d2e2e54696f6ccd4e0f4) ∷
    (3217087888452892181, 0xc23b328c9a51505e58a99c6c95fb4bd42f65f568594f11113711fdf6c43b2377) ∷
    (15597962236440396959, 0xf8768ad62d9faaf32a3405ea30ddcef8c4c56e70fc7497d24f3ed892be7b579e) ∷
    (1032629611570274414, 0xd122247859e1662a3799c760f6e52b79c7388947b39b7b93d4f6bf110a4e6be2) ∷
    (9616796591008842317, 0x2925c6aec092fb9f400da1f8b0a5ca48bdeb3224a990844a707aafb83e5bee5b) ∷
    (7101757607011618894, 0x0a93250b30769eff260dd36a2d05e961655c764999359d15efa2b961b3e6a46b) ∷
    (10047481156168111815, 0x558b7c22f6c91c94d93f8e60b9b95f268d7269f7b33e781df071544478980628) ∷
    (10218227868334287480, 0x697c1a1f642d9dc9f320298a15a6c24c3cf1f2c6931ab893fc4f3a1c721f3d5f) ∷
    (16979309193811568180, 0x343f84548f95cbacf1f7e96e672eaf7b4f1835226763d71fc2cfe354eab773ce) ∷
    (17858579783449496364, 0x0c142114dd708748e68db6e3b3010d235b1971cda5889b49eb5fa8653f36b07f) ∷
    (13872308701783029083, 0x248d010701efdd1ba2443ce815cfe4286959a275d3c57cd55df5711e900b01e6) ∷
    (11056804671307967812, 0xb606856e4ece32a625d1a9f28a393afd6abfcf86fa51d4225e90f32ad54de89d) ∷
    (3723483217624449327, 0x4b828276a723b988964fbb3452be0e4241bdb0191111747471c79e34ae8460a8) ∷
    (16112293391942411381, 0x27fdd35e8bc83c6f66029bbcfb6707def0cd9729471339d05d3910e5a8122316) ∷
    (4848876383435022314, 0x12d90bb8715a9847166fc6ebd0082735459f927807c1bf1be2be52b91fc1d176) ∷
    []

-- A string whose hash isn't the secret's.
string_of_another_hash :
    deal_replies accepting (sha_of string_of_another_hash_hashes) (codes "finish" ∷ codes "wrong.bitml" ∷ codes "wrong.deal" ∷ codes "r.0" ∷ codes "wrong.signatures" ∷ codes "wrong.secrets" ∷ [])
    ((codes "wrong.bitml", conflict_bitml) ∷ (codes "wrong.deal", conflict_deal) ∷ (codes "wrong.signatures", wrong_signatures) ∷ (codes "wrong.secrets", wrong_secrets) ∷ [])
    ≡ prints 15 (lines (
    codes "secrets refused line 1 hash" ∷
    []))
unfolding is_name word_prefix number_prefix symbol_prefix read_answer advert_of_all advert_at entries_at entry_at head_at
    deposit_at secret_at fee_at choice_with branches_at branch_at parts_at auth_at after_at put_at reveal_at split_at
    reveals_at puts_at put_reveals_at headed_at one_branch_at condition_at names_from test_at comparison_at formula_at
    constant_at length_at withdraw_at digits label_text stripped marked compact places_list sequences_list
    outputs_list preimage position_script many wide_at compact_at string_at input_at inputs_at output_at outputs_at
    witness_at witnesses_at plain_at marked_at transaction_at all_at script_meaning ops_of number_of_item signed_bytes
    item_of_number base64_text base64_bytes psbt_bytes psbt_text psbt_of records_at maps_at
string_of_another_hash = refl

abbrev early_signatures : List ℕ
early_signatures =
    lines (
    (codes "cHNidP8BAIcCAAAAApF2cLTeLye0NfcfOi9YcLV399LQviNNqvmPJykaytHHAAAAAAD+////4qpykepfam+XU6MzC4PTQ+c43B50" ++
    codes "AD3y887YsyKuj2sBAAAAAP7///8B2NABAAAAAAAiACChFPEK0sQTBlwsTjPksjFEW/KwAWwTsXDhPvzo36atwAAAAAAAAQEroIYB" ++
    codes "AAAAAAAiACA4yfUZ5f1ZW0QxcYlLm76YI0B5KZKJZluz1tHQEPz9uSICA5E//nA27Bzv7F1FidDC6Oe2owDJfgoQbNliTxSbzaf1" ++
    codes "RzBEAiBbv7O9AOt5CLUpWmwmZ13Vt6Ui55vocYjLbPlybELYWgIgSFC04gsuhdA6IZQTozVcETMDcIpKmMqNbvz4AqIyKJcBAQME" ++
    codes "AQAAAAEFIyEDkT/+cDbsHO/sXUWJ0MLo57ajAMl+ChBs2WJPFJvNp/WsAAEBKyBOAAAAAAAAIgAgaXwaH2QtncnzICmKFabCTDzx" ++
    codes "8saTGriT/E86HHIfPV8iAgO6FcPUH5oABLTw6fk3FtyFq2AKFY6Q0GOfNkqwTHZvIUgwRQIhAPxWyFvFEcWsWWtUt1raSMzCtKKZ" ++
    codes "ET9nG5x17OxqAjaLAiBNhHjpoCeKOJYNYPX8tReJX+933h0HQGPpdnBqePw07QEBAwQBAAAAAQUjIQO6FcPUH5oABLTw6fk3FtyF" ++
    codes "q2AKFY6Q0GOfNkqwTHZvIawAAA==") ∷
    [])

abbrev init_is_not_endorsed_hashes : List (ℕ × ℕ)
init_is_not_endorsed_hashes =
    (934272902507189875, 0xa114f10ad2c413065c2c4e33e4b231445bf2b0016c13b170e13efce8dfa6adc0) ∷
    (188406309477158521, 0x0f32240e93b5cb87dbb44681fb0e14919d4df976b7fcb0739e853e979798efc7) ∷
    (15353328361583202301, 0x64a42d59bacec1279ca07fac1740c10cc057f1e1d5e85d62603ee391f7f1f910) ∷
    (4080002374814135468, 0x2b77ed34389531cf320a30838e32ca944663c008992ac6983c7514ee9016fe41) ∷
    (18146190591450095071, 0x5711d5f0b6d1c529d1ebcfb201b7dd554e049f1a1915190c1c3d037e53c2283d) ∷
    (14376305522832806550, 0xd68892270a4358c723fefd6c3df811000689d276a7b15205c65037a41a989cce) ∷
    (16135954257557145446, 0xc992651ac89a97aecd0811c1761915a8e2c8f5153d1bdd994a789e6bd86ab717) ∷
    (11904136938687542398, 0xf0c78061d22ecc1b22a4f0cdd7edb944bae9e6d332243f55274a8fc4ecb2980a) ∷
    (11470928872492437449, 0x391ec7b29e4333ff0ebcfa0e5e11e07fb0e54a321da211d14aed03839be78643) ∷
    (11757003483022530728, 0x3363a052370b572227e49931e0acad0d3b5be1868da1d83799b5d04298b1f107) ∷
    (11831738820569013141, 0xffcb34ea52b0edf727b1a311dbf5b2859c087e07c4d4f84ca1351ffd09a64fac) ∷
    (16804214099025738211, 0x88aade6531f24839a5a225f317b188e6b7eef5037f3e9c6a84bcadbe8dcc9a1a) ∷
    (1784102848868150994, 0xf42ba7e42270f887ecc4340d2457d7e3f3772335d412c2a939c1e4ee2122f6a5) ∷
    (15940804879542246790, 0x8e5c52cf51174920a20054981e7640f36676ed8a8063b96ae1ba1ffb5a72cd53) ∷
    (6819451735403476304, 0x5500b707a4d1eebbca36929299370e8b80c0ba151dff0c617d3ebb51699b9c55) ∷
    (9231889525126806902, 0x8aa643364bb58445870e7e4cbc92c33c279ba2639c6b0d4da03e8efbe5efddeb) ∷
    (3332012355205760889, 0xb52bad3b613173bde203c1c13c048be178baf2a85787b5d77c945e9cfcde321d) ∷
    (8606493698777425830, 0x13b4ecfb2e011f72ea3d3e885ab14cf9bcc932714087a8c81f95a7787b8f2b10) ∷
    (5040092498882930355, 0xb4248c210a2905b94345e1a8414d0e12efcfb2f4f0f2397159a71283397a0ccd) ∷
    (204552439812090982, 0x18606b350cd8bf565266bc352f0caddcf01e8fa789dd8a15386327cf8cabe198) ∷
    (7130754649290878647, 0xec972f9ecf256918a69c06804f5bd939563c02a0b5b0079e8a3c4fe89d17f4b6) ∷
    (10003731649463509742, 0xe1ded042f29b9bd6e93fd498ab65a52dee1f7d88a3d57de6ff70633439a3cefe) ∷
    (17270084892696143396, 0xd2e926bd252323a01a31f951f4dd8b3953cf7f6590aedacef06e0b5b5d4b51fe) ∷
    (11486056133135513766, 0xc008d976de0d4079d9a6363008d5900aaafb209b2dbfcc744809ce0d7decc457) ∷
    (3691551255371676412, 0x38c9f519e5fd595b443171894b9bbe98234079299289665bb3d6d1d010fcfdb9) ∷
    (1281191719116439971, 0xb25da1f88f89f26ab9956fcd3a1ed9861749cc5e3482b6ff52eeab8d3d824ce3) ∷
    (16972138637547280928, 0xad777d08ba4c00398aa186ecfaf2ecec0d05934d5331d2e2e54696f6ccd4e0f4) ∷
    (3217087888452892181, 0xc23b328c9a51505e58a99c6c95fb4bd42f65f568594f11113711fdf6c43b2377) ∷
    (15597962236440396959, 0xf8768ad62d9faaf32a3405ea30ddcef8c4c56e70fc7497d24f3ed892be7b579e) ∷
    (1032629611570274414, 0xd122247859e1662a3799c760f6e52b79c7388947b39b7b93d4f6bf110a4e6be2) ∷
    (9616796591008842317, 0x2925c6aec092fb9f400da1f8b0a5ca48bdeb3224a990844a707aafb83e5bee5b) ∷
    (7101757607011618894, 0x0a93250b30769eff260dd36a2d05e961655c764999359d15efa2b961b3e6a46b) ∷
    (10047481156168111815, 0x558b7c22f6c91c94d93f8e60b9b95f268d7269f7b33e781df071544478980628) ∷
    (10218227868334287480, 0x697c1a1f642d9dc9f320298a15a6c24c3cf1f2c6931ab893fc4f3a1c721f3d5f) ∷
    (16979309193811568180, 0x343f84548f95cbacf1f7e96e672eaf7b4f1835226763d71fc2cfe354eab773ce) ∷
    (17858579783449496364, 0x0c142114dd708748e68db6e3b3010d235b1971cda5889b49eb5fa8653f36b07f) ∷
    (13872308701783029083, 0x248d010701efdd1ba2443ce815cfe4286959a275d3c57cd55df5711e900b01e6) ∷
    (11056804671307967812, 0xb606856e4ece32a625d1a9f28a393afd6abfcf86fa51d4225e90f32ad54de89d) ∷
    (3723483217624449327, 0x4b828276a723b988964fbb3452be0e4241bdb0191111747471c79e34ae8460a8) ∷
    (16112293391942411381, 0x27fdd35e8bc83c6f66029bbcfb6707def0cd9729471339d05d3910e5a8122316) ∷
    []

-- The initial transaction isn't finished before each endorsement is there.
init_is_not_endorsed :
    deal_replies accepting (sha_of init_is_not_endorsed_hashes) (codes "finish" ∷ codes "early.bitml" ∷ codes "early.deal" ∷ codes "init" ∷ codes "early.signatures" ∷ [])
    ((codes "early.bitml", conflict_bitml) ∷ (codes "early.deal", conflict_deal) ∷ (codes "early.signatures", early_signatures) ∷ [])
    ≡ prints 16 (lines (
    codes "refused endorsement r.0 A" ∷
    []))
unfolding is_name word_prefix number_prefix symbol_prefix read_answer advert_of_all advert_at entries_at entry_at head_at
    deposit_at secret_at fee_at choice_with branches_at branch_at parts_at auth_at after_at put_at reveal_at split_at
    reveals_at puts_at put_reveals_at headed_at one_branch_at condition_at names_from test_at comparison_at formula_at
    constant_at length_at withdraw_at digits label_text stripped marked compact places_list sequences_list
    outputs_list preimage position_script many wide_at compact_at string_at input_at inputs_at output_at outputs_at
    witness_at witnesses_at plain_at marked_at transaction_at all_at script_meaning ops_of number_of_item signed_bytes
    item_of_number base64_text base64_bytes psbt_bytes psbt_text psbt_of records_at maps_at
init_is_not_endorsed = refl
