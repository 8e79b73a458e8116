-- What is missing of the signatures of a deal, and what is held.
use Rattle.std.proofs.Common.{◌≡◌, ℕ, List, [], ◌∷◌, ◌++◌, refl}
use Rattle.std.specs.Prelude.{codes}
use Rattle.std.specs.Fmt.{digits}
use Rattle.spec_terms.specs.Readable.{is_name}
use Rattle.spec_bitcoin.specs.Keys.{label_text}
use Rattle.spec_bitcoin.specs.Digests.{places_list, sequences_list, outputs_list, preimage}
use Rattle.spec_bitcoin.specs.Spelling.{stripped, marked, compact}
use Rattle.spec_bitcoin.specs.Reading.{many, wide_at, compact_at, string_at, input_at, inputs_at, output_at, outputs_at, witness_at}
use Rattle.spec_bitcoin.specs.Reading.{witnesses_at, plain_at, marked_at, transaction_at, all_at}
use Rattle.spec_bitcoin.specs.Meaning.{script_meaning}
use Rattle.spec_bitcoin.specs.Numbers.{number_of_item, signed_bytes, item_of_number}
use Rattle.spec_bitcoin.specs.Scripts.{ops_of}
use Rattle.spec_compiler.specs.Keyed.Instance.{position_script}
use Rattle.spec_text.specs.Lexis.{word_prefix, number_prefix, symbol_prefix}
use Rattle.spec_text.specs.ReadAdvert.{read_answer, advert_of_all, advert_at, entries_at, entry_at, head_at, deposit_at, secret_at, fee_at}
use Rattle.spec_text.specs.ReadContract.{withdraw_at, condition_at, reveals_at, puts_at, put_reveals_at, headed_at, one_branch_at}
use Rattle.spec_text.specs.ReadContract.{branches_at, choice_with, parts_at, auth_at, after_at, put_at, reveal_at, split_at, branch_at}
use Rattle.spec_text.specs.ReadTest.{constant_at, length_at, formula_at, comparison_at, test_at}
use Rattle.spec_text.specs.Reading.{names_from}
use Rattle.spec_tool.specs.Commands.{prints}
use Rattle.spec_tool.specs.Base64.{base64_text, base64_bytes}
use Rattle.spec_tool.specs.PsbtBytes.{psbt_of, psbt_bytes, records_at, maps_at}
use Rattle.spec_tool.specs.PsbtText.{psbt_text}
use Rattle.spec_deal.specs.Verifier.{accepting}
use Rattle.theory_values.specs.Replies.{lines, sha_of}
use Rattle.theory_deal_values.specs.Replies.{deal_replies}

abbrev held_bitml : List ℕ
held_bitml =
    lines (
    (codes "{A:! 100000 @ x | B:! 20000 @ y | A: secret a} fee 1000 (reveal a if |a| < 3 . withdraw A + after 70" ++
    codes "0000 : B : withdraw B)") ∷
    [])

abbrev held_deal : List ℕ
held_deal =
    lines (
    codes "key D:A 03913ffe7036ec1cefec5d4589d0c2e8e7b6a300c97e0a106cd9624f149bcda7f5" ∷
    codes "key D:B 03ba15c3d41f9a0004b4f0e9f93716dc85ab600a158e90d0639f364ab04c766f21" ∷
    codes "key B:0:r.0:A 03880380f4fe91faca6db3387f5c981c02fee0dbae9278e8dcf2e0769b15457907" ∷
    codes "key B:0:r.0:B 023c24fce1010225fd96c5407ef8f06e3a5bae1e6b8f3449ef2085634b3e148b29" ∷
    codes "key B:0:r.0.0:A 033d1647343f4a9acee04accaa2494f71c403de0c463951a641ba91da0f7950e8a" ∷
    codes "key B:0:r.0.0:B 0230588467e4001454ec1e1fc960ea058ef5ca3976b3ecfe152dfc29fc01d2ede2" ∷
    codes "key B:0:r.1:A 02f318d2ff23218b2bf4bcd80ee4b79558dab1a20505f57f125d38b4a8344b9eed" ∷
    codes "key B:0:r.1:B 028f194e849e01cc64b26090c5d47bffdbdb3904023c817a98729cd6b4a481e57d" ∷
    codes "deposit x c7d1ca1a29278ff9aa4d23bed0d2f777b570582f3a1ff735b4272fdeb4707691 0" ∷
    codes "deposit y 6b8fae22b3d8cef3f23d00741edc38e743d3830b33a353976f6a5fea9172aae2 1" ∷
    codes "hash a 12e53d027fec5936fb9e8d7ce7f98252d9b85e5633e2386fd3d59a1f2c1a2703" ∷
    [])

abbrev held_signatures : List ℕ
held_signatures =
    lines (
    (codes "cHNidP8BAIcCAAAAApF2cLTeLye0NfcfOi9YcLV399LQviNNqvmPJykaytHHAAAAAAD+////4qpykepfam+XU6MzC4PTQ+c43B50" ++
    codes "AD3y887YsyKuj2sBAAAAAP7///8B2NABAAAAAAAiACChFPEK0sQTBlwsTjPksjFEW/KwAWwTsXDhPvzo36atwAAAAAAAAQEroIYB" ++
    codes "AAAAAAAiACA4yfUZ5f1ZW0QxcYlLm76YI0B5KZKJZluz1tHQEPz9uSICA5E//nA27Bzv7F1FidDC6Oe2owDJfgoQbNliTxSbzaf1" ++
    codes "RzBEAiBbv7O9AOt5CLUpWmwmZ13Vt6Ui55vocYjLbPlybELYWgIgSFC04gsuhdA6IZQTozVcETMDcIpKmMqNbvz4AqIyKJcBAQME" ++
    codes "AQAAAAEFIyEDkT/+cDbsHO/sXUWJ0MLo57ajAMl+ChBs2WJPFJvNp/WsAAEBKyBOAAAAAAAAIgAgaXwaH2QtncnzICmKFabCTDzx" ++
    codes "8saTGriT/E86HHIfPV8BAwQBAAAAAQUjIQO6FcPUH5oABLTw6fk3FtyFq2AKFY6Q0GOfNkqwTHZvIawAAA==") ∷
    (codes "cHNidP8BAF4CAAAAAWSkLVm6zsEnnKB/rBdAwQzAV/Hh1ehdYmA+45H38fkQAAAAAAD+////AfDMAQAAAAAAIgAgaXwaH2Qtncnz" ++
    codes "ICmKFabCTDzx8saTGriT/E86HHIfPV9grgoAAAEBK9jQAQAAAAAAIgAgoRTxCtLEEwZcLE4z5LIxRFvysAFsE7Fw4T786N+mrcAi" ++
    codes "AgLzGNL/IyGLK/S82A7kt5VY2rGiBQX1fxJdOLSoNEue7UgwRQIhAPM4adw/guBs2r3QQtv4zMcInZ4BD80jFCOBDMtqYOcKAiBK" ++
    codes "UK5WOtEa9+bQevOi4z5mBYUvuQFzNMQcKotA87K+EgEBAwQBAAAAAQXEY4J2YAIJAqVpa6ggEuU9An/sWTb7no185/mCUtm4XlYz" ++
    codes "4jhv09WaHywaJwOIbAB5YJRTn2l1IQOIA4D0/pH6ym2zOH9cmBwC/uDbrpJ46Nzy4HabFUV5B60hAjwk/OEBAiX9lsVAfvjwbjpb" ++
    codes "rh5rjzRJ7yCFY0s+FIsprGchAvMY0v8jIYsr9LzYDuS3lVjasaIFBfV/El04tKg0S57trSECjxlOhJ4BzGSyYJDF1Hv/29s5BAI8" ++
    codes "gXqYcpzWtKSB5X2saAAA") ∷
    [])

abbrev endorsements_are_held_hashes : List (ℕ × ℕ)
endorsements_are_held_hashes =
    (934272902507189875, 0xa114f10ad2c413065c2c4e33e4b231445bf2b0016c13b170e13efce8dfa6adc0) ∷
    (188406309477158521, 0x0f32240e93b5cb87dbb44681fb0e14919d4df976b7fcb0739e853e979798efc7) ∷
    (15353328361583202301, 0x64a42d59bacec1279ca07fac1740c10cc057f1e1d5e85d62603ee391f7f1f910) ∷
    (4080002374814135468, 0x2b77ed34389531cf320a30838e32ca944663c008992ac6983c7514ee9016fe41) ∷
    (18146190591450095071, 0x5711d5f0b6d1c529d1ebcfb201b7dd554e049f1a1915190c1c3d037e53c2283d) ∷
    (14376305522832806550, 0xd68892270a4358c723fefd6c3df811000689d276a7b15205c65037a41a989cce) ∷
    (16135954257557145446, 0xc992651ac89a97aecd0811c1761915a8e2c8f5153d1bdd994a789e6bd86ab717) ∷
    (11904136938687542398, 0xf0c78061d22ecc1b22a4f0cdd7edb944bae9e6d332243f55274a8fc4ecb2980a) ∷
    (11470928872492437449, 0x391ec7b29e4333ff0ebcfa0e5e11e07fb0e54a321da211d14aed03839be78643) ∷
    (11757003483022530728, 0x3363a052370b572227e49931e0acad0d3b5be1868da1d83799b5d04298b1f107) ∷
    (11831738820569013141, 0xffcb34ea52b0edf727b1a311dbf5b2859c087e07c4d4f84ca1351ffd09a64fac) ∷
    (16804214099025738211, 0x88aade6531f24839a5a225f317b188e6b7eef5037f3e9c6a84bcadbe8dcc9a1a) ∷
    (1784102848868150994, 0xf42ba7e42270f887ecc4340d2457d7e3f3772335d412c2a939c1e4ee2122f6a5) ∷
    (15940804879542246790, 0x8e5c52cf51174920a20054981e7640f36676ed8a8063b96ae1ba1ffb5a72cd53) ∷
    (6819451735403476304, 0x5500b707a4d1eebbca36929299370e8b80c0ba151dff0c617d3ebb51699b9c55) ∷
    (9231889525126806902, 0x8aa643364bb58445870e7e4cbc92c33c279ba2639c6b0d4da03e8efbe5efddeb) ∷
    (3332012355205760889, 0xb52bad3b613173bde203c1c13c048be178baf2a85787b5d77c945e9cfcde321d) ∷
    (8606493698777425830, 0x13b4ecfb2e011f72ea3d3e885ab14cf9bcc932714087a8c81f95a7787b8f2b10) ∷
    (5040092498882930355, 0xb4248c210a2905b94345e1a8414d0e12efcfb2f4f0f2397159a71283397a0ccd) ∷
    (204552439812090982, 0x18606b350cd8bf565266bc352f0caddcf01e8fa789dd8a15386327cf8cabe198) ∷
    (7130754649290878647, 0xec972f9ecf256918a69c06804f5bd939563c02a0b5b0079e8a3c4fe89d17f4b6) ∷
    (10003731649463509742, 0xe1ded042f29b9bd6e93fd498ab65a52dee1f7d88a3d57de6ff70633439a3cefe) ∷
    (17270084892696143396, 0xd2e926bd252323a01a31f951f4dd8b3953cf7f6590aedacef06e0b5b5d4b51fe) ∷
    (11486056133135513766, 0xc008d976de0d4079d9a6363008d5900aaafb209b2dbfcc744809ce0d7decc457) ∷
    (3691551255371676412, 0x38c9f519e5fd595b443171894b9bbe98234079299289665bb3d6d1d010fcfdb9) ∷
    (1281191719116439971, 0xb25da1f88f89f26ab9956fcd3a1ed9861749cc5e3482b6ff52eeab8d3d824ce3) ∷
    (16972138637547280928, 0xad777d08ba4c00398aa186ecfaf2ecec0d05934d5331d2e2e54696f6ccd4e0f4) ∷
    (3217087888452892181, 0xc23b328c9a51505e58a99c6c95fb4bd42f65f568594f11113711fdf6c43b2377) ∷
    (15597962236440396959, 0xf8768ad62d9faaf32a3405ea30ddcef8c4c56e70fc7497d24f3ed892be7b579e) ∷
    (1032629611570274414, 0xd122247859e1662a3799c760f6e52b79c7388947b39b7b93d4f6bf110a4e6be2) ∷
    (9616796591008842317, 0x2925c6aec092fb9f400da1f8b0a5ca48bdeb3224a990844a707aafb83e5bee5b) ∷
    (7101757607011618894, 0x0a93250b30769eff260dd36a2d05e961655c764999359d15efa2b961b3e6a46b) ∷
    (10047481156168111815, 0x558b7c22f6c91c94d93f8e60b9b95f268d7269f7b33e781df071544478980628) ∷
    (10218227868334287480, 0x697c1a1f642d9dc9f320298a15a6c24c3cf1f2c6931ab893fc4f3a1c721f3d5f) ∷
    (16979309193811568180, 0x343f84548f95cbacf1f7e96e672eaf7b4f1835226763d71fc2cfe354eab773ce) ∷
    (17858579783449496364, 0x0c142114dd708748e68db6e3b3010d235b1971cda5889b49eb5fa8653f36b07f) ∷
    (13872308701783029083, 0x248d010701efdd1ba2443ce815cfe4286959a275d3c57cd55df5711e900b01e6) ∷
    (11056804671307967812, 0xb606856e4ece32a625d1a9f28a393afd6abfcf86fa51d4225e90f32ad54de89d) ∷
    (3723483217624449327, 0x4b828276a723b988964fbb3452be0e4241bdb0191111747471c79e34ae8460a8) ∷
    (16112293391942411381, 0x27fdd35e8bc83c6f66029bbcfb6707def0cd9729471339d05d3910e5a8122316) ∷
    []

-- Each signature that is there, with its key and digest.
endorsements_are_held :
    deal_replies accepting (sha_of endorsements_are_held_hashes) (codes "held" ∷ codes "swap.bitml" ∷ codes "swap.deal" ∷ codes "swap.signatures" ∷ [])
    ((codes "swap.bitml", held_bitml) ∷ (codes "swap.deal", held_deal) ∷ (codes "swap.signatures", held_signatures) ∷ [])
    ≡ prints 0 (lines (
    (codes "held init 0 D:A init 03913ffe7036ec1cefec5d4589d0c2e8e7b6a300c97e0a106cd9624f149bcda7f5 ffcb34ea52b0" ++
    codes "edf727b1a311dbf5b2859c087e07c4d4f84ca1351ffd09a64fac 304402205bbfb3bd00eb7908b5295a6c26675dd5b7a522e" ++
    codes "79be87188cb6cf9726c42d85a02204850b4e20b2e85d03a219413a3355c113303708a4a98ca8d6efcf802a232289701") ∷
    (codes "held r.1 0 B:0:r.1:A endorse 02f318d2ff23218b2bf4bcd80ee4b79558dab1a20505f57f125d38b4a8344b9eed 27fd" ++
    codes "d35e8bc83c6f66029bbcfb6707def0cd9729471339d05d3910e5a8122316 3045022100f33869dc3f82e06cdabdd042dbf8c" ++
    codes "cc7089d9e010fcd231423810ccb6a60e70a02204a50ae563ad11af7e6d07af3a2e33e6605852fb9017334c41c2a8b40f3b2b" ++
    codes "e1201") ∷
    []))
unfolding is_name word_prefix number_prefix symbol_prefix read_answer advert_of_all advert_at entries_at entry_at head_at
    deposit_at secret_at fee_at choice_with branches_at branch_at parts_at auth_at after_at put_at reveal_at split_at
    reveals_at puts_at put_reveals_at headed_at one_branch_at condition_at names_from test_at comparison_at formula_at
    constant_at length_at withdraw_at digits label_text stripped marked compact places_list sequences_list
    outputs_list preimage position_script many wide_at compact_at string_at input_at inputs_at output_at outputs_at
    witness_at witnesses_at plain_at marked_at transaction_at all_at script_meaning ops_of number_of_item signed_bytes
    item_of_number base64_text base64_bytes psbt_bytes psbt_text psbt_of records_at maps_at
endorsements_are_held = refl

abbrev put_bitml : List ℕ
put_bitml =
    lines (
    (codes "{A:! 50000 @ x | B:! 20000 @ y | B:? 30000 @ z} fee 1000 (put z . withdraw A + after 700100 : withdr" ++
    codes "aw A)") ∷
    [])

abbrev put_deal : List ℕ
put_deal =
    lines (
    codes "key D:A 03913ffe7036ec1cefec5d4589d0c2e8e7b6a300c97e0a106cd9624f149bcda7f5" ∷
    codes "key D:B 03ba15c3d41f9a0004b4f0e9f93716dc85ab600a158e90d0639f364ab04c766f21" ∷
    codes "key B:0:r.0:A 03880380f4fe91faca6db3387f5c981c02fee0dbae9278e8dcf2e0769b15457907" ∷
    codes "key B:0:r.0:B 023c24fce1010225fd96c5407ef8f06e3a5bae1e6b8f3449ef2085634b3e148b29" ∷
    codes "key B:0:r.0.0:A 033d1647343f4a9acee04accaa2494f71c403de0c463951a641ba91da0f7950e8a" ∷
    codes "key B:0:r.0.0:B 0230588467e4001454ec1e1fc960ea058ef5ca3976b3ecfe152dfc29fc01d2ede2" ∷
    codes "key B:0:r.1:A 02f318d2ff23218b2bf4bcd80ee4b79558dab1a20505f57f125d38b4a8344b9eed" ∷
    codes "key B:0:r.1:B 028f194e849e01cc64b26090c5d47bffdbdb3904023c817a98729cd6b4a481e57d" ∷
    codes "deposit x c7d1ca1a29278ff9aa4d23bed0d2f777b570582f3a1ff735b4272fdeb4707691 0" ∷
    codes "deposit y 6b8fae22b3d8cef3f23d00741edc38e743d3830b33a353976f6a5fea9172aae2 1" ∷
    codes "deposit z 8bc39a1cab5821b79254fcd29c8271255fb02b8c36f10d6d26e7b92ceda54127 2" ∷
    [])

abbrev put_signatures : List ℕ
put_signatures =
    []

abbrev endorsement_of_a_put_is_missing_hashes : List (ℕ × ℕ)
endorsement_of_a_put_is_missing_hashes =
    (3190265000729283605, 0xd24d06c834ed888e8bfe41fcf027ee4bdd2e9ca14b6b04ff2432df2b3dec0819) ∷
    (1230108295213107197, 0x5c80841bb8eec655344fe3eebb41b250b2c06699147c7cbac2cba0786bf654ce) ∷
    (16673361320222251401, 0x7975b8c2496b5e562583c808dc01abf41b3b98cc115df9928782c101aa6c0e5c) ∷
    (4080002374814135468, 0x2b77ed34389531cf320a30838e32ca944663c008992ac6983c7514ee9016fe41) ∷
    (18146190591450095071, 0x5711d5f0b6d1c529d1ebcfb201b7dd554e049f1a1915190c1c3d037e53c2283d) ∷
    (14376305522832806550, 0xd68892270a4358c723fefd6c3df811000689d276a7b15205c65037a41a989cce) ∷
    (16135954257557145446, 0xc992651ac89a97aecd0811c1761915a8e2c8f5153d1bdd994a789e6bd86ab717) ∷
    (13135251493248606658, 0x2d7f93e2f65de702b4ea03327e421a9f7ebc8201b3d1b09d91f3d28d27af7418) ∷
    (5694764625166594304, 0xc03a7d7970bac0bd4364ff31b84b064eaa52c716b4e9aa302ec965c3a80a3027) ∷
    (2885904900409698856, 0xe241be401712d228b3eead05d88d9d14bfddb1115f9cb0f230f8836fbb9f75c1) ∷
    (13116954641524620138, 0xbb033633c1ce6f90387323f952f13e5f5c4b0d04a237872873c4d75d57b50ad9) ∷
    (12053404938066575515, 0x5a7afec06798310a054f03e06326c859e53a675114228124abfc9f714cd2284b) ∷
    (18170973713426059263, 0x81fc6f4d74876bae54ece6b868cde5ca52bec75f9d9709d58fe1ec80dc937f85) ∷
    (15940804879542246790, 0x8e5c52cf51174920a20054981e7640f36676ed8a8063b96ae1ba1ffb5a72cd53) ∷
    (2162542954405136314, 0x45db3163cbb2223f3acf39d1645c9f4c4d43700471985564ef9f7803dbb76e71) ∷
    (4494203964477106968, 0x9906e802bf06ce446dfde2eb4bd48d3c53b9eec821c358160942ea511161f254) ∷
    (7859205838059164714, 0xb10a5db7eaa91e79a483c03513c8a276b19df8f290db9775bacf7931369be69b) ∷
    (18216064672332140284, 0x46d448dd08d4bdb990fd720123af08938eb8e2d6770356add284a8b5379354db) ∷
    (2293417020859008545, 0x3e8af17b6dead5bea8648d80f2a061fbb7ec81ddf0650ae779f98a073615be42) ∷
    (6005024990854087506, 0x7587afffb089b428aa7ef6041e3eaf65ab663b4eb7ce015a03fe7c499ce823ea) ∷
    (8295462463010173761, 0x9e657f81ad132ac89a034a9dc36a0cfe7d9cb1f129dbf0b75ed88f2c0cb211bd) ∷
    (12424966572110494035, 0x912bfb97392ca39415e6d26f369078de802e8c562798f397508a26b785aa0002) ∷
    (7055588120238576257, 0x22a5eee11f9d5411a28b705f659c0f9e3c375e823d11bdb78df052997456794e) ∷
    (7380838778790228691, 0x58af01f36f6b5bfcf2b67a3c07dd72a4ff2775a6d66c57c7557837b1d126f323) ∷
    (3691551255371676412, 0x38c9f519e5fd595b443171894b9bbe98234079299289665bb3d6d1d010fcfdb9) ∷
    (5482650183035812396, 0xba972e596c84b8e4d494400df1e9019fdb3232801f919cbd8cd5e24c6ac0bab5) ∷
    (11086290041929082107, 0x415d73a04b69dd665d0299ef942980b424b38122ae4b75d0b8e6887f7647cd3a) ∷
    (13576920720028382433, 0x7fa7a328b4744a097ff9625caa562a8495e9aaf09b78ff8014f019b56b146e29) ∷
    (11533129031143306802, 0x47b26ad2dda5447b8a03934af372b244e9829ee378ff185df591201410e19568) ∷
    (5040092498882930355, 0xb4248c210a2905b94345e1a8414d0e12efcfb2f4f0f2397159a71283397a0ccd) ∷
    (204552439812090982, 0x18606b350cd8bf565266bc352f0caddcf01e8fa789dd8a15386327cf8cabe198) ∷
    (9834103264603250827, 0x86733d21e43b3b36185b6daf5838792d2d10c6ff67b495e195fb774d3e2b250f) ∷
    (17152936774807065240, 0xfdfbb97f1b22a4f79ca49f720010012bcdc151225d4b39d1e7164107568ec1a2) ∷
    (12830877460361110704, 0xeeda51ac8f05295fa2794b3e9b2ea9a44aca459b50ca5e1a46b13c638dda75c3) ∷
    (17266907032200362386, 0xd1606370c562c6a65ea02ff27833b9c0a253973ad7ef0e3f8840bb4321fc7637) ∷
    (11425007419777279592, 0xee63b6198f6349d3de918621a670ea052f40b30406df3c896747157c0155937b) ∷
    (857049186010883452, 0x9d5f1a80d7893c532e2e059d756037625234f5e53197b9deb2af21faf0cbcfda) ∷
    (12459635016240226562, 0x4f8d074d9b440f2f571a7261e94061961cb8fc6c5654c9c566ef11899387d21d) ∷
    (2138497782589539781, 0x88e1a147e4ae2c4e344fcdce3d21c7a2cfd79744df04e32939a7a6aac73b167b) ∷
    (8834780204714375174, 0x0b0526b611b7c09fc030be73327d7e0fb5d7388c4654589e9d2a2b25de573fe7) ∷
    (8972086741739634090, 0xa89d02c13d18e14fcfed56242bcaf21288fa488cb1a918344ff06134c9915fe6) ∷
    (15040764904857642685, 0xf0286bc413c3fba1a32e3dabd9631c432fc7a2f15239902655f4cf9488b3e9fd) ∷
    (6479834553034333340, 0x41c43925e16ce1b001079511f6753b69611e1475860c02a83a100d375a80d2b3) ∷
    []

-- The owner of a deposit that is put endorses it.
endorsement_of_a_put_is_missing :
    deal_replies accepting (sha_of endorsement_of_a_put_is_missing_hashes) (codes "missing" ∷ codes "put.bitml" ∷ codes "put.deal" ∷ codes "put.signatures" ∷ [])
    ((codes "put.bitml", put_bitml) ∷ (codes "put.deal", put_deal) ∷ (codes "put.signatures", put_signatures) ∷ [])
    ≡ prints 0 (lines (
    codes "missing init 0 D:A init" ∷
    codes "missing init 1 D:B init" ∷
    codes "missing r.0 0 B:0:r.0:A endorse" ∷
    codes "missing r.0 0 B:0:r.0:B endorse" ∷
    codes "missing r.0 1 D:B endorse" ∷
    codes "missing r.0.0 0 B:0:r.0.0:A endorse" ∷
    codes "missing r.0.0 0 B:0:r.0.0:B endorse" ∷
    codes "missing r.1 0 B:0:r.1:A endorse" ∷
    codes "missing r.1 0 B:0:r.1:B endorse" ∷
    codes "init not endorsed r.0 A" ∷
    []))
unfolding is_name word_prefix number_prefix symbol_prefix read_answer advert_of_all advert_at entries_at entry_at head_at
    deposit_at secret_at fee_at choice_with branches_at branch_at parts_at auth_at after_at put_at reveal_at split_at
    reveals_at puts_at put_reveals_at headed_at one_branch_at condition_at names_from test_at comparison_at formula_at
    constant_at length_at withdraw_at digits label_text stripped marked compact places_list sequences_list
    outputs_list preimage position_script many wide_at compact_at string_at input_at inputs_at output_at outputs_at
    witness_at witnesses_at plain_at marked_at transaction_at all_at script_meaning ops_of number_of_item signed_bytes
    item_of_number base64_text base64_bytes psbt_bytes psbt_text psbt_of records_at maps_at
endorsement_of_a_put_is_missing = refl
