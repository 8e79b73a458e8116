-- What is asked of wallets and what they answer: files for signers, lines of signatures, what is missing and isn't verified, whether a deal
-- is ready, and warnings on values.
use Rattle.std.proofs.Common.{◌≡◌, ℕ, List, [], ◌∷◌, ◌++◌, refl}
use Rattle.std.specs.Prelude.{codes}
use Rattle.std.specs.Fmt.{digits}
use Rattle.spec_terms.specs.Readable.{is_name}
use Rattle.spec_bitcoin.specs.Keys.{label_text}
use Rattle.spec_bitcoin.specs.Digests.{places_list, sequences_list, outputs_list, preimage}
use Rattle.spec_bitcoin.specs.Spelling.{stripped, marked, compact}
use Rattle.spec_bitcoin.specs.Reading.{many, wide_at, compact_at, string_at, input_at, inputs_at, output_at, outputs_at, witness_at}
use Rattle.spec_bitcoin.specs.Reading.{witnesses_at, plain_at, marked_at, transaction_at, all_at}
use Rattle.spec_bitcoin.specs.Meaning.{script_meaning}
use Rattle.spec_bitcoin.specs.Numbers.{number_of_item, signed_bytes, item_of_number}
use Rattle.spec_bitcoin.specs.Scripts.{ops_of}
use Rattle.spec_compiler.specs.Keyed.Instance.{position_script}
use Rattle.spec_text.specs.Lexis.{word_prefix, number_prefix, symbol_prefix}
use Rattle.spec_text.specs.ReadAdvert.{read_answer, advert_of_all, advert_at, entries_at, entry_at, head_at, deposit_at, secret_at, fee_at}
use Rattle.spec_text.specs.ReadContract.{withdraw_at, condition_at, reveals_at, puts_at, put_reveals_at, headed_at, one_branch_at}
use Rattle.spec_text.specs.ReadContract.{branches_at, choice_with, parts_at, auth_at, after_at, put_at, reveal_at, split_at, branch_at}
use Rattle.spec_text.specs.ReadTest.{constant_at, length_at, formula_at, comparison_at, test_at}
use Rattle.spec_text.specs.Reading.{names_from}
use Rattle.spec_address.specs.Address.{address, read_address}
use Rattle.spec_address.specs.Checksum.{check_values, next_state}
use Rattle.spec_address.specs.Groups.{group_at, byte_at}
use Rattle.spec_tool.specs.Commands.{prints}
use Rattle.spec_tool.specs.Base64.{base64_text, base64_bytes}
use Rattle.spec_tool.specs.PsbtBytes.{psbt_of, psbt_bytes, records_at, maps_at}
use Rattle.spec_tool.specs.PsbtText.{psbt_text}
use Rattle.spec_deal.specs.Verifier.{accepting}
use Rattle.theory_values.specs.Replies.{lines, sha_of}
use Rattle.theory_deal_values.specs.Replies.{deal_replies}

abbrev bet_bitml : List ℕ
bet_bitml =
    lines (
    (codes "{A:! 100000 @ x | B:! 20000 @ y | A: secret a} fee 1000 (reveal a if |a| < 3 . withdraw A + after 70" ++
    codes "0000 : B : withdraw B)") ∷
    [])

abbrev put_bitml : List ℕ
put_bitml =
    lines (
    (codes "{A:! 50000 @ x | B:! 20000 @ y | B:? 30000 @ z} fee 1000 (put z . withdraw A + after 700100 : withdr" ++
    codes "aw A)") ∷
    [])

abbrev put_deal : List ℕ
put_deal =
    lines (
    codes "network tb" ∷
    codes "pay A tb1q2xdvw50dp4r4anx544pgyd9hcmnt47hspcjr9s" ∷
    codes "pay B tb1p6u66udpl5nqexda6vuh8nnxkd4rcgdfg4hxd09nd0lt3jlt6r3ms2g9wwx" ∷
    codes "key B:0:r.0:A 03880380f4fe91faca6db3387f5c981c02fee0dbae9278e8dcf2e0769b15457907" ∷
    codes "key B:0:r.0:B 023c24fce1010225fd96c5407ef8f06e3a5bae1e6b8f3449ef2085634b3e148b29" ∷
    codes "key B:0:r.0.0:A 033d1647343f4a9acee04accaa2494f71c403de0c463951a641ba91da0f7950e8a" ∷
    codes "key B:0:r.0.0:B 0230588467e4001454ec1e1fc960ea058ef5ca3976b3ecfe152dfc29fc01d2ede2" ∷
    codes "key B:0:r.1:A 02f318d2ff23218b2bf4bcd80ee4b79558dab1a20505f57f125d38b4a8344b9eed" ∷
    codes "key B:0:r.1:B 028f194e849e01cc64b26090c5d47bffdbdb3904023c817a98729cd6b4a481e57d" ∷
    (codes "deposit x c7d1ca1a29278ff9aa4d23bed0d2f777b570582f3a1ff735b4272fdeb4707691 0 tb1pnnk02r3arrp5463wlvj" ++
    codes "pkhztq0svxecl0c2q6ledqmmw3ak6n9nq93ssn6") ∷
    (codes "deposit y 6b8fae22b3d8cef3f23d00741edc38e743d3830b33a353976f6a5fea9172aae2 1 tb1qf7eanvnfrun29qm2erw" ++
    codes "7q8e8upha4ug7q84q3l8hgrmfpk8gpyls64249x") ∷
    (codes "deposit z 8bc39a1cab5821b79254fcd29c8271255fb02b8c36f10d6d26e7b92ceda54127 2 tb1qq2yz4ez7vecl35y924d" ++
    codes "q3svj5vhwe7ru803yft") ∷
    [])

abbrev put_hashes : List (ℕ × ℕ)
put_hashes =
    (3190265000729283605, 0xd24d06c834ed888e8bfe41fcf027ee4bdd2e9ca14b6b04ff2432df2b3dec0819) ∷
    (15940804879542246790, 0x8e5c52cf51174920a20054981e7640f36676ed8a8063b96ae1ba1ffb5a72cd53) ∷
    (1230108295213107197, 0x5c80841bb8eec655344fe3eebb41b250b2c06699147c7cbac2cba0786bf654ce) ∷
    (16673361320222251401, 0x7975b8c2496b5e562583c808dc01abf41b3b98cc115df9928782c101aa6c0e5c) ∷
    (2162542954405136314, 0x45db3163cbb2223f3acf39d1645c9f4c4d43700471985564ef9f7803dbb76e71) ∷
    (4494203964477106968, 0x9906e802bf06ce446dfde2eb4bd48d3c53b9eec821c358160942ea511161f254) ∷
    (12508457405062940425, 0xd31b4ac5fd948036f90c89af9f12f1d2feb2abdd78e675045ddac6a23f8c1b19) ∷
    (5681562895412837966, 0xad64e9f8bf598806c55e917b16cc9e6bf1a3f734406cd2f848ad453e4cc5c5c4) ∷
    (7751074921461348805, 0x7693900d7026b64fc53198e7226973aa5fe75ca48b7aae2c31deeec842ff2350) ∷
    (9273360048066954236, 0xc8c75eec27ad316958fdaf016b0d2122bd47f5bf622ffffae8c63d734580f601) ∷
    (4080002374814135468, 0x2b77ed34389531cf320a30838e32ca944663c008992ac6983c7514ee9016fe41) ∷
    (18146190591450095071, 0x5711d5f0b6d1c529d1ebcfb201b7dd554e049f1a1915190c1c3d037e53c2283d) ∷
    (14376305522832806550, 0xd68892270a4358c723fefd6c3df811000689d276a7b15205c65037a41a989cce) ∷
    (16135954257557145446, 0xc992651ac89a97aecd0811c1761915a8e2c8f5153d1bdd994a789e6bd86ab717) ∷
    (13135251493248606658, 0x2d7f93e2f65de702b4ea03327e421a9f7ebc8201b3d1b09d91f3d28d27af7418) ∷
    (5694764625166594304, 0xc03a7d7970bac0bd4364ff31b84b064eaa52c716b4e9aa302ec965c3a80a3027) ∷
    (7859205838059164714, 0xb10a5db7eaa91e79a483c03513c8a276b19df8f290db9775bacf7931369be69b) ∷
    (18216064672332140284, 0x46d448dd08d4bdb990fd720123af08938eb8e2d6770356add284a8b5379354db) ∷
    (2293417020859008545, 0x3e8af17b6dead5bea8648d80f2a061fbb7ec81ddf0650ae779f98a073615be42) ∷
    (6005024990854087506, 0x7587afffb089b428aa7ef6041e3eaf65ab663b4eb7ce015a03fe7c499ce823ea) ∷
    (8295462463010173761, 0x9e657f81ad132ac89a034a9dc36a0cfe7d9cb1f129dbf0b75ed88f2c0cb211bd) ∷
    (12424966572110494035, 0x912bfb97392ca39415e6d26f369078de802e8c562798f397508a26b785aa0002) ∷
    (8311468991844127350, 0xf1b4b23a850751c8060bc8c62622c57f4fdd093779dcca46e30163fdb65e830d) ∷
    (15458023603911331970, 0x2c17c78362c4656d5bd2914ec929ad14c35d84a28f1be89413997add4f469dcf) ∷
    (13576920720028382433, 0x7fa7a328b4744a097ff9625caa562a8495e9aaf09b78ff8014f019b56b146e29) ∷
    (11533129031143306802, 0x47b26ad2dda5447b8a03934af372b244e9829ee378ff185df591201410e19568) ∷
    (5040092498882930355, 0xb4248c210a2905b94345e1a8414d0e12efcfb2f4f0f2397159a71283397a0ccd) ∷
    (204552439812090982, 0x18606b350cd8bf565266bc352f0caddcf01e8fa789dd8a15386327cf8cabe198) ∷
    (10662985190625345288, 0x404bb049e3dafef8c617b70efcb95b72539048ab7805c25ec1fcb73ac47054ee) ∷
    (2801878625233407042, 0xdc7265f9889f85e2e34b206f92dafa3a9c1a351606291f31b30c9cd1fb25d459) ∷
    (2595899548419706704, 0xf374d7fb3796f2f07eeea75dceeda8bca062a20b3f2dd2f30f701aeca6894e43) ∷
    (18392957945889722252, 0x5d37258a9800ac2b0295fd387c50b36427ef98b33a75155c4e34c2c24706f5aa) ∷
    (12459635016240226562, 0x4f8d074d9b440f2f571a7261e94061961cb8fc6c5654c9c566ef11899387d21d) ∷
    (2138497782589539781, 0x88e1a147e4ae2c4e344fcdce3d21c7a2cfd79744df04e32939a7a6aac73b167b) ∷
    (9545464508309525363, 0x8ddcedb36890be57239d4afc48761faada5be76f77f8ff76a210469ba32bdd56) ∷
    (5271399668115678258, 0x771c5b3ca0c74c0a2d214191ac35ed6b35fddc9030b30951ea3d953318a21735) ∷
    (10119274446220105250, 0xf077007ee4261b9e57b5110be96428e10e914229aa46680eaa7521e4d5f65147) ∷
    (12317985201179767977, 0xe3307beb8e14a6fddab470ba7dc3558ac806a7b01aefe7cc643ce4aad4d9ca8b) ∷
    []

-- Who brings what a branch puts is given the transactions to endorse, without a script at its own input.
put_is_endorsed_by_its_owner :
    deal_replies accepting (sha_of put_hashes) (codes "endorse" ∷ codes "put.bitml" ∷ codes "put.deal" ∷ codes "B" ∷ [])
    ((codes "put.bitml", put_bitml) ∷ (codes "put.deal", put_deal) ∷ [])
    ≡ prints 0 (lines (
    (codes "cHNidP8BAIcCAAAAAnl1uMJJa15WJYPICNwBq/QbO5jMEV35koeCwQGqbA5cAAAAAAD+////J0Gl7Sy55yZtDfE2jCuwXyVxgpzS" ++
    codes "/FSStyFYqxyaw4sCAAAAAP7///8B0H4BAAAAAAAiACCOXFLPURdJIKIAVJgedkDzZnbtioBjuWrhuh/7WnLNUwAAAAAAAQEriA0B" ++
    codes "AAAAAAAiACDSTQbINO2Ijov+QfzwJ+5L3S6coUtrBP8kMt8rPewIGQEDBAEAAAABBY9jIQOIA4D0/pH6ym2zOH9cmBwC/uDbrpJ4" ++
    codes "6Nzy4HabFUV5B60hAjwk/OEBAiX9lsVAfvjwbjpbrh5rjzRJ7yCFY0s+FIsprGchAvMY0v8jIYsr9LzYDuS3lVjasaIFBfV/El04" ++
    codes "tKg0S57trSECjxlOhJ4BzGSyYJDF1Hv/29s5BAI8gXqYcpzWtKSB5X2saAABAR8wdQAAAAAAABYAFAKIKuReZnH40IVVWgjBkqMu" ++
    codes "7Ph8AAA=") ∷
    (codes "cHNidP8BAFICAAAAAZkG6AK/Bs5Ebf3i60vUjTxTue7IIcNYFglC6lERYfJUAAAAAAD+////Aeh6AQAAAAAAFgAUUZrHUe0NR17M" ++
    codes "1K1CgjS3xua6+vAAAAAAAAEBK9B+AQAAAAAAIgAgjlxSz1EXSSCiAFSYHnZA82Z27YqAY7lq4bof+1pyzVMBAwQBAAAAAQVGIQM9" ++
    codes "Fkc0P0qazuBKzKoklPccQD3gxGOVGmQbqR2g95UOiq0hAjBYhGfkABRU7B4fyWDqBY71yjl2s+z+FS38KfwB0u3irAAA") ∷
    (codes "cHNidP8BAFICAAAAAXl1uMJJa15WJYPICNwBq/QbO5jMEV35koeCwQGqbA5cAAAAAAD+////AaAJAQAAAAAAFgAUUZrHUe0NR17M" ++
    codes "1K1CgjS3xua6+vDErgoAAAEBK4gNAQAAAAAAIgAg0k0GyDTtiI6L/kH88CfuS90unKFLawT/JDLfKz3sCBkBAwQBAAAAAQWPYyED" ++
    codes "iAOA9P6R+sptszh/XJgcAv7g266SeOjc8uB2mxVFeQetIQI8JPzhAQIl/ZbFQH748G46W64ea480Se8ghWNLPhSLKaxnIQLzGNL/" ++
    codes "IyGLK/S82A7kt5VY2rGiBQX1fxJdOLSoNEue7a0hAo8ZToSeAcxksmCQxdR7/9vbOQQCPIF6mHKc1rSkgeV9rGgAAA==") ∷
    []))
unfolding is_name word_prefix number_prefix symbol_prefix read_answer advert_of_all advert_at entries_at entry_at head_at
    deposit_at secret_at fee_at choice_with branches_at branch_at parts_at auth_at after_at put_at reveal_at split_at
    reveals_at puts_at put_reveals_at headed_at one_branch_at condition_at names_from test_at comparison_at formula_at
    constant_at length_at withdraw_at digits label_text stripped marked compact places_list sequences_list
    outputs_list preimage position_script many wide_at compact_at string_at input_at inputs_at output_at outputs_at
    witness_at witnesses_at plain_at marked_at transaction_at all_at script_meaning ops_of number_of_item signed_bytes
    item_of_number base64_text base64_bytes psbt_bytes psbt_text psbt_of records_at maps_at
    read_address address check_values next_state group_at byte_at
put_is_endorsed_by_its_owner = refl

-- Nobody of this name takes part.
nobody_endorses :
    deal_replies accepting (sha_of put_hashes) (codes "endorse" ∷ codes "put.bitml" ∷ codes "put.deal" ∷ codes "C" ∷ [])
    ((codes "put.bitml", put_bitml) ∷ (codes "put.deal", put_deal) ∷ [])
    ≡ prints 0 (lines (
    []))
unfolding is_name word_prefix number_prefix symbol_prefix read_answer advert_of_all advert_at entries_at entry_at head_at
    deposit_at secret_at fee_at choice_with branches_at branch_at parts_at auth_at after_at put_at reveal_at split_at
    reveals_at puts_at put_reveals_at headed_at one_branch_at condition_at names_from test_at comparison_at formula_at
    constant_at length_at withdraw_at digits label_text stripped marked compact places_list sequences_list
    outputs_list preimage position_script many wide_at compact_at string_at input_at inputs_at output_at outputs_at
    witness_at witnesses_at plain_at marked_at transaction_at all_at script_meaning ops_of number_of_item signed_bytes
    item_of_number base64_text base64_bytes psbt_bytes psbt_text psbt_of records_at maps_at
    read_address address check_values next_state group_at byte_at
nobody_endorses = refl

-- The transaction that puts, by its name.
put_is_for_signers :
    deal_replies accepting (sha_of put_hashes) (codes "psbt" ∷ codes "put.bitml" ∷ codes "put.deal" ∷ codes "r.0" ∷ [])
    ((codes "put.bitml", put_bitml) ∷ (codes "put.deal", put_deal) ∷ [])
    ≡ prints 0 (lines (
    (codes "cHNidP8BAIcCAAAAAnl1uMJJa15WJYPICNwBq/QbO5jMEV35koeCwQGqbA5cAAAAAAD+////J0Gl7Sy55yZtDfE2jCuwXyVxgpzS" ++
    codes "/FSStyFYqxyaw4sCAAAAAP7///8B0H4BAAAAAAAiACCOXFLPURdJIKIAVJgedkDzZnbtioBjuWrhuh/7WnLNUwAAAAAAAQEriA0B" ++
    codes "AAAAAAAiACDSTQbINO2Ijov+QfzwJ+5L3S6coUtrBP8kMt8rPewIGQEDBAEAAAABBY9jIQOIA4D0/pH6ym2zOH9cmBwC/uDbrpJ4" ++
    codes "6Nzy4HabFUV5B60hAjwk/OEBAiX9lsVAfvjwbjpbrh5rjzRJ7yCFY0s+FIsprGchAvMY0v8jIYsr9LzYDuS3lVjasaIFBfV/El04" ++
    codes "tKg0S57trSECjxlOhJ4BzGSyYJDF1Hv/29s5BAI8gXqYcpzWtKSB5X2saAABAR8wdQAAAAAAABYAFAKIKuReZnH40IVVWgjBkqMu" ++
    codes "7Ph8AAA=") ∷
    []))
unfolding is_name word_prefix number_prefix symbol_prefix read_answer advert_of_all advert_at entries_at entry_at head_at
    deposit_at secret_at fee_at choice_with branches_at branch_at parts_at auth_at after_at put_at reveal_at split_at
    reveals_at puts_at put_reveals_at headed_at one_branch_at condition_at names_from test_at comparison_at formula_at
    constant_at length_at withdraw_at digits label_text stripped marked compact places_list sequences_list
    outputs_list preimage position_script many wide_at compact_at string_at input_at inputs_at output_at outputs_at
    witness_at witnesses_at plain_at marked_at transaction_at all_at script_meaning ops_of number_of_item signed_bytes
    item_of_number base64_text base64_bytes psbt_bytes psbt_text psbt_of records_at maps_at
    read_address address check_values next_state group_at byte_at
put_is_for_signers = refl

abbrev unverified_signatures : List ℕ
unverified_signatures =
    lines (
    (codes "cHNidP8BAIcCAAAAAnl1uMJJa15WJYPICNwBq/QbO5jMEV35koeCwQGqbA5cAAAAAAD+////J0Gl7Sy55yZtDfE2jCuwXyVxgpzS" ++
    codes "/FSStyFYqxyaw4sCAAAAAP7///8B0H4BAAAAAAAiACCOXFLPURdJIKIAVJgedkDzZnbtioBjuWrhuh/7WnLNUwAAAAAAAQEriA0B" ++
    codes "AAAAAAAiACDSTQbINO2Ijov+QfzwJ+5L3S6coUtrBP8kMt8rPewIGSICAjwk/OEBAiX9lsVAfvjwbjpbrh5rjzRJ7yCFY0s+FIsp" ++
    codes "RzBEAiBecEGm4qirjUB/TiUs56c31P6rRRrq4wobVnPVzzV+IwIgEpDqKm4gVfX/lrhIoZmmfmPlCUou1xEVHD48v9+e5FoBIgID" ++
    codes "iAOA9P6R+sptszh/XJgcAv7g266SeOjc8uB2mxVFeQdHMEQCIGsqHQufS+l2GlMtmgfY/6bsCzBcimAMumsv031hFY7sAiBuDWBJ" ++
    codes "DrruTtZP38G3Wqvzi7i4ERwA6wyGAawxXltBvwEBAwQBAAAAAQWPYyEDiAOA9P6R+sptszh/XJgcAv7g266SeOjc8uB2mxVFeQet" ++
    codes "IQI8JPzhAQIl/ZbFQH748G46W64ea480Se8ghWNLPhSLKaxnIQLzGNL/IyGLK/S82A7kt5VY2rGiBQX1fxJdOLSoNEue7a0hAo8Z" ++
    codes "ToSeAcxksmCQxdR7/9vbOQQCPIF6mHKc1rSkgeV9rGgAAQEfMHUAAAAAAAAWABQCiCrkXmZx+NCFVVoIwZKjLuz4fAEIawJHMEQC" ++
    codes "IGmxbNulnmf442yrPBnrTBlZrPqOp8FLtvX7RAeI5FSGAiB89nHNHLMQzJIDk8LSUD+Swv8LnZUkbJpYGw6IAwb26wEhAg8tt5RN" ++
    codes "khJYtIE8RwyzjLxXHK2iN20SHtt5a+DO/htIAAA=") ∷
    (codes "cHNidP8BAFICAAAAAZkG6AK/Bs5Ebf3i60vUjTxTue7IIcNYFglC6lERYfJUAAAAAAD+////Aeh6AQAAAAAAFgAUUZrHUe0NR17M" ++
    codes "1K1CgjS3xua6+vAAAAAAAAEBK9B+AQAAAAAAIgAgjlxSz1EXSSCiAFSYHnZA82Z27YqAY7lq4bof+1pyzVMiAgIwWIRn5AAUVOwe" ++
    codes "H8lg6gWO9co5drPs/hUt/Cn8AdLt4kcwRAIgAeWbwyi7U+BtYyXpEyOzhHfDIqcDRmrB1nyVrFlZE+8CIB3cOI6dYkABZNKNHZif" ++
    codes "XFk1I3OgvcxoG22GX/qy7GOqASICAz0WRzQ/SprO4ErMqiSU9xxAPeDEY5UaZBupHaD3lQ6KSDBFAiEAmF4L4fzS/bF9pG5Wog4Y" ++
    codes "oMJj3+ERidZfFeop8y58RUcCIELIPLsoaDFEhokfLHcszrMJlR77bwZMyDqirP/8wzvpAQEDBAEAAAABBUYhAz0WRzQ/SprO4ErM" ++
    codes "qiSU9xxAPeDEY5UaZBupHaD3lQ6KrSECMFiEZ+QAFFTsHh/JYOoFjvXKOXaz7P4VLfwp/AHS7eKsAAA=") ∷
    (codes "cHNidP8BAFICAAAAAXl1uMJJa15WJYPICNwBq/QbO5jMEV35koeCwQGqbA5cAAAAAAD+////AaAJAQAAAAAAFgAUUZrHUe0NR17M" ++
    codes "1K1CgjS3xua6+vDErgoAAAEBK4gNAQAAAAAAIgAg0k0GyDTtiI6L/kH88CfuS90unKFLawT/JDLfKz3sCBkiAgKPGU6EngHMZLJg" ++
    codes "kMXUe//b2zkEAjyBephynNa0pIHlfUcwRAIgPqc4Wwv4IpG8W7Y9hwxuLuzOT/0s/7VW7aZOgQiWMP0CIB6qlm7/fNVbyReXyTn9" ++
    codes "Ta+dMkIBLoGHWh0jmHtP4lUrASICAvMY0v8jIYsr9LzYDuS3lVjasaIFBfV/El04tKg0S57tSDBFAiEAxez7KlsqkXUK9MfrnwKI" ++
    codes "PakdnGo8N51BnGMzvAaOkJsCIFpm57ivZx+xjmTYzRflpqBOHkLmFhrFmg79oogvkmtzAQEDBAEAAAABBY9jIQOIA4D0/pH6ym2z" ++
    codes "OH9cmBwC/uDbrpJ46Nzy4HabFUV5B60hAjwk/OEBAiX9lsVAfvjwbjpbrh5rjzRJ7yCFY0s+FIsprGchAvMY0v8jIYsr9LzYDuS3" ++
    codes "lVjasaIFBfV/El04tKg0S57trSECjxlOhJ4BzGSyYJDF1Hv/29s5BAI8gXqYcpzWtKSB5X2saAAA") ∷
    [])

-- An endorsement by a wallet is there, and is listed, since who relies on its branch has to find that its key is the coin's.
some_is_not_verified :
    deal_replies accepting (sha_of put_hashes) (codes "missing" ∷ codes "put.bitml" ∷ codes "put.deal" ∷ codes "unverified.signatures" ∷ [])
    ((codes "put.bitml", put_bitml) ∷ (codes "put.deal", put_deal) ∷ (codes "unverified.signatures", unverified_signatures) ∷ [])
    ≡ prints 0 (lines (
    codes "missing init 0 W:x init" ∷
    codes "missing init 1 W:y init" ∷
    codes "unverified r.0 1 W:z endorse" ∷
    codes "init may be signed once the unverified are checked" ∷
    []))
unfolding is_name word_prefix number_prefix symbol_prefix read_answer advert_of_all advert_at entries_at entry_at head_at
    deposit_at secret_at fee_at choice_with branches_at branch_at parts_at auth_at after_at put_at reveal_at split_at
    reveals_at puts_at put_reveals_at headed_at one_branch_at condition_at names_from test_at comparison_at formula_at
    constant_at length_at withdraw_at digits label_text stripped marked compact places_list sequences_list
    outputs_list preimage position_script many wide_at compact_at string_at input_at inputs_at output_at outputs_at
    witness_at witnesses_at plain_at marked_at transaction_at all_at script_meaning ops_of number_of_item signed_bytes
    item_of_number base64_text base64_bytes psbt_bytes psbt_text psbt_of records_at maps_at
    read_address address check_values next_state group_at byte_at
some_is_not_verified = refl

-- Then the deal isn't ready.
not_ready_before_it_is_verified :
    deal_replies accepting (sha_of put_hashes) (codes "ready" ∷ codes "put.bitml" ∷ codes "put.deal" ∷ codes "unverified.signatures" ∷ [])
    ((codes "put.bitml", put_bitml) ∷ (codes "put.deal", put_deal) ∷ (codes "unverified.signatures", unverified_signatures) ∷ [])
    ≡ prints 16 (lines (
    codes "warnings 0" ∷
    codes "unverified r.0 1 W:z endorse" ∷
    codes "init may be signed once the unverified are checked" ∷
    []))
unfolding is_name word_prefix number_prefix symbol_prefix read_answer advert_of_all advert_at entries_at entry_at head_at
    deposit_at secret_at fee_at choice_with branches_at branch_at parts_at auth_at after_at put_at reveal_at split_at
    reveals_at puts_at put_reveals_at headed_at one_branch_at condition_at names_from test_at comparison_at formula_at
    constant_at length_at withdraw_at digits label_text stripped marked compact places_list sequences_list
    outputs_list preimage position_script many wide_at compact_at string_at input_at inputs_at output_at outputs_at
    witness_at witnesses_at plain_at marked_at transaction_at all_at script_meaning ops_of number_of_item signed_bytes
    item_of_number base64_text base64_bytes psbt_bytes psbt_text psbt_of records_at maps_at
    read_address address check_values next_state group_at byte_at
not_ready_before_it_is_verified = refl

abbrev no_item_signatures : List ℕ
no_item_signatures =
    lines (
    (codes "cHNidP8BAIcCAAAAApF2cLTeLye0NfcfOi9YcLV399LQviNNqvmPJykaytHHAAAAAAD+////4qpykepfam+XU6MzC4PTQ+c43B50" ++
    codes "AD3y887YsyKuj2sBAAAAAP7///8BiA0BAAAAAAAiACDSTQbINO2Ijov+QfzwJ+5L3S6coUtrBP8kMt8rPewIGQAAAAAAAQErUMMA" ++
    codes "AAAAAAAiUSCc7PUOPRjDSuou+yQbXEsD4MNnH34UDX8tBvbo9tqZZgEIAQAAAQErIE4AAAAAAAAiACBPs9myaR8mooNqyN3gHyfg" ++
    codes "b9rxHgHqCPz3QPaQ2OgJPwEI3AQASDBFAiEA8w3pWfgkX2hd0yNfFhJeQsi1+MFLu1in5dJpymUOfqYCIBYyxa+vdwsIEF63DAkf" ++
    codes "0VMfjYJS4/QjKYtBDpUCqQBGAUgwRQIhAOpjvYLhTmo/8fYysDfdL2+oXB6n/9iRKoeE7Zyl9GLDAiAD5lSzPDSUDkAKzPIYCXAz" ++
    codes "xmyFDXtQBK3e5xNc3ibsZQFHUiEClCN88aXWrNp/ryQnvOPxZd/Bumuyntp3Gkw+D+8X4mkhAtn3QxLt0ZqWEZfwtdVNcEt6BchV" ++
    codes "epewYoYm6h8ZbcJfUq4AAA==") ∷
    [])

-- A witness without an item.
witness_of_no_item :
    deal_replies accepting (sha_of put_hashes) (codes "missing" ∷ codes "put.bitml" ∷ codes "put.deal" ∷ codes "item.signatures" ∷ [])
    ((codes "put.bitml", put_bitml) ∷ (codes "put.deal", put_deal) ∷ (codes "item.signatures", no_item_signatures) ∷ [])
    ≡ prints 14 (lines (
    codes "signatures refused line 1 witness 0" ∷
    []))
unfolding is_name word_prefix number_prefix symbol_prefix read_answer advert_of_all advert_at entries_at entry_at head_at
    deposit_at secret_at fee_at choice_with branches_at branch_at parts_at auth_at after_at put_at reveal_at split_at
    reveals_at puts_at put_reveals_at headed_at one_branch_at condition_at names_from test_at comparison_at formula_at
    constant_at length_at withdraw_at digits label_text stripped marked compact places_list sequences_list
    outputs_list preimage position_script many wide_at compact_at string_at input_at inputs_at output_at outputs_at
    witness_at witnesses_at plain_at marked_at transaction_at all_at script_meaning ops_of number_of_item signed_bytes
    item_of_number base64_text base64_bytes psbt_bytes psbt_text psbt_of records_at maps_at
    read_address address check_values next_state group_at byte_at
witness_of_no_item = refl

abbrev taproot_signatures : List ℕ
taproot_signatures =
    lines (
    (codes "cHNidP8BAIcCAAAAApF2cLTeLye0NfcfOi9YcLV399LQviNNqvmPJykaytHHAAAAAAD+////4qpykepfam+XU6MzC4PTQ+c43B50" ++
    codes "AD3y887YsyKuj2sBAAAAAP7///8BiA0BAAAAAAAiACDSTQbINO2Ijov+QfzwJ+5L3S6coUtrBP8kMt8rPewIGQAAAAAAAQErUMMA" ++
    codes "AAAAAAAiUSCc7PUOPRjDSuou+yQbXEsD4MNnH34UDX8tBvbo9tqZZgEIQwFBNfCvXgZL4UifsIDfDqMAlTpVwwu1ww6guSflr3fV" ++
    codes "9o0+udflx8iQNuoE4Z6pCIVKxc+OYUbByp0nzSTgvDCm3gIAAQErIE4AAAAAAAAiACBPs9myaR8mooNqyN3gHyfgb9rxHgHqCPz3" ++
    codes "QPaQ2OgJPwEI3AQASDBFAiEA8w3pWfgkX2hd0yNfFhJeQsi1+MFLu1in5dJpymUOfqYCIBYyxa+vdwsIEF63DAkf0VMfjYJS4/Qj" ++
    codes "KYtBDpUCqQBGAUgwRQIhAOpjvYLhTmo/8fYysDfdL2+oXB6n/9iRKoeE7Zyl9GLDAiAD5lSzPDSUDkAKzPIYCXAzxmyFDXtQBK3e" ++
    codes "5xNc3ibsZQFHUiEClCN88aXWrNp/ryQnvOPxZd/Bumuyntp3Gkw+D+8X4mkhAtn3QxLt0ZqWEZfwtdVNcEt6BchVepewYoYm6h8Z" ++
    codes "bcJfUq4AAA==") ∷
    [])

-- A signature by Taproot of another hash type.
witness_of_another_type :
    deal_replies accepting (sha_of put_hashes) (codes "missing" ∷ codes "put.bitml" ∷ codes "put.deal" ∷ codes "type.signatures" ∷ [])
    ((codes "put.bitml", put_bitml) ∷ (codes "put.deal", put_deal) ∷ (codes "type.signatures", taproot_signatures) ∷ [])
    ≡ prints 14 (lines (
    codes "signatures refused line 1 witness 0" ∷
    []))
unfolding is_name word_prefix number_prefix symbol_prefix read_answer advert_of_all advert_at entries_at entry_at head_at
    deposit_at secret_at fee_at choice_with branches_at branch_at parts_at auth_at after_at put_at reveal_at split_at
    reveals_at puts_at put_reveals_at headed_at one_branch_at condition_at names_from test_at comparison_at formula_at
    constant_at length_at withdraw_at digits label_text stripped marked compact places_list sequences_list
    outputs_list preimage position_script many wide_at compact_at string_at input_at inputs_at output_at outputs_at
    witness_at witnesses_at plain_at marked_at transaction_at all_at script_meaning ops_of number_of_item signed_bytes
    item_of_number base64_text base64_bytes psbt_bytes psbt_text psbt_of records_at maps_at
    read_address address check_values next_state group_at byte_at
witness_of_another_type = refl

abbrev wallets_deal : List ℕ
wallets_deal =
    lines (
    codes "network bcrt" ∷
    codes "pay A bcrt1q2xdvw50dp4r4anx544pgyd9hcmnt47hsr3twje" ∷
    codes "key D:B 03ba15c3d41f9a0004b4f0e9f93716dc85ab600a158e90d0639f364ab04c766f21" ∷
    codes "key B:0:r.0:A 03880380f4fe91faca6db3387f5c981c02fee0dbae9278e8dcf2e0769b15457907" ∷
    codes "key B:0:r.0:B 023c24fce1010225fd96c5407ef8f06e3a5bae1e6b8f3449ef2085634b3e148b29" ∷
    codes "key B:0:r.0.0:A 033d1647343f4a9acee04accaa2494f71c403de0c463951a641ba91da0f7950e8a" ∷
    codes "key B:0:r.0.0:B 0230588467e4001454ec1e1fc960ea058ef5ca3976b3ecfe152dfc29fc01d2ede2" ∷
    codes "key B:0:r.1:A 02f318d2ff23218b2bf4bcd80ee4b79558dab1a20505f57f125d38b4a8344b9eed" ∷
    codes "key B:0:r.1:B 028f194e849e01cc64b26090c5d47bffdbdb3904023c817a98729cd6b4a481e57d" ∷
    (codes "deposit x c7d1ca1a29278ff9aa4d23bed0d2f777b570582f3a1ff735b4272fdeb4707691 0 bcrt1q4qt5w9hzzvfl9lhx5" ++
    codes "44krg0wpwwgg4dc58fzht") ∷
    codes "deposit y 6b8fae22b3d8cef3f23d00741edc38e743d3830b33a353976f6a5fea9172aae2 1" ∷
    codes "hash a 12e53d027fec5936fb9e8d7ce7f98252d9b85e5633e2386fd3d59a1f2c1a2703" ∷
    [])

abbrev wallets_hashes : List (ℕ × ℕ)
wallets_hashes =
    (934272902507189875, 0xa114f10ad2c413065c2c4e33e4b231445bf2b0016c13b170e13efce8dfa6adc0) ∷
    (15940804879542246790, 0x8e5c52cf51174920a20054981e7640f36676ed8a8063b96ae1ba1ffb5a72cd53) ∷
    (10218227868334287480, 0x697c1a1f642d9dc9f320298a15a6c24c3cf1f2c6931ab893fc4f3a1c721f3d5f) ∷
    (188406309477158521, 0x0f32240e93b5cb87dbb44681fb0e14919d4df976b7fcb0739e853e979798efc7) ∷
    (15353328361583202301, 0x64a42d59bacec1279ca07fac1740c10cc057f1e1d5e85d62603ee391f7f1f910) ∷
    (6819451735403476304, 0x5500b707a4d1eebbca36929299370e8b80c0ba151dff0c617d3ebb51699b9c55) ∷
    (9231889525126806902, 0x8aa643364bb58445870e7e4cbc92c33c279ba2639c6b0d4da03e8efbe5efddeb) ∷
    (13107987211227438128, 0xb7901a967de37896d1a2d6863ed5338c9674c5a29e515b918af64f799185a8ae) ∷
    (13116773278455449350, 0x4614da3626b5d0065afae29004dc01e5be513ac3c3aadeea4b411f98262ac676) ∷
    (16979309193811568180, 0x343f84548f95cbacf1f7e96e672eaf7b4f1835226763d71fc2cfe354eab773ce) ∷
    (17858579783449496364, 0x0c142114dd708748e68db6e3b3010d235b1971cda5889b49eb5fa8653f36b07f) ∷
    (4080002374814135468, 0x2b77ed34389531cf320a30838e32ca944663c008992ac6983c7514ee9016fe41) ∷
    (18146190591450095071, 0x5711d5f0b6d1c529d1ebcfb201b7dd554e049f1a1915190c1c3d037e53c2283d) ∷
    (14376305522832806550, 0xd68892270a4358c723fefd6c3df811000689d276a7b15205c65037a41a989cce) ∷
    (16135954257557145446, 0xc992651ac89a97aecd0811c1761915a8e2c8f5153d1bdd994a789e6bd86ab717) ∷
    (11904136938687542398, 0xf0c78061d22ecc1b22a4f0cdd7edb944bae9e6d332243f55274a8fc4ecb2980a) ∷
    (11470928872492437449, 0x391ec7b29e4333ff0ebcfa0e5e11e07fb0e54a321da211d14aed03839be78643) ∷
    (7097439046376979922, 0x63ebbe85cf36f3d615608d25e4cc94d1cc7e052b434234a619770bc900a66f33) ∷
    (8199458687394524648, 0x4520317406a16043582611031f87f70d70f31cca98881561e936ed7a7f9aa22c) ∷
    (16804214099025738211, 0x88aade6531f24839a5a225f317b188e6b7eef5037f3e9c6a84bcadbe8dcc9a1a) ∷
    (1784102848868150994, 0xf42ba7e42270f887ecc4340d2457d7e3f3772335d412c2a939c1e4ee2122f6a5) ∷
    (3332012355205760889, 0xb52bad3b613173bde203c1c13c048be178baf2a85787b5d77c945e9cfcde321d) ∷
    (8606493698777425830, 0x13b4ecfb2e011f72ea3d3e885ab14cf9bcc932714087a8c81f95a7787b8f2b10) ∷
    (5040092498882930355, 0xb4248c210a2905b94345e1a8414d0e12efcfb2f4f0f2397159a71283397a0ccd) ∷
    (204552439812090982, 0x18606b350cd8bf565266bc352f0caddcf01e8fa789dd8a15386327cf8cabe198) ∷
    (7130754649290878647, 0xec972f9ecf256918a69c06804f5bd939563c02a0b5b0079e8a3c4fe89d17f4b6) ∷
    (10003731649463509742, 0xe1ded042f29b9bd6e93fd498ab65a52dee1f7d88a3d57de6ff70633439a3cefe) ∷
    (17270084892696143396, 0xd2e926bd252323a01a31f951f4dd8b3953cf7f6590aedacef06e0b5b5d4b51fe) ∷
    (11486056133135513766, 0xc008d976de0d4079d9a6363008d5900aaafb209b2dbfcc744809ce0d7decc457) ∷
    (3217087888452892181, 0xc23b328c9a51505e58a99c6c95fb4bd42f65f568594f11113711fdf6c43b2377) ∷
    (15597962236440396959, 0xf8768ad62d9faaf32a3405ea30ddcef8c4c56e70fc7497d24f3ed892be7b579e) ∷
    (13408668680779761755, 0x440313e79020205bac9ecc8f61d6f090b376d214aba890dd6d8eec99f5a3cb40) ∷
    (15684255966722425614, 0x55fa51df1be7293edecbe2be25f02c39845d22be3add8ee7a94218eb62783a51) ∷
    (15941198232892237678, 0x16d06a2d844a86a09a351adce09e12549b0b7dfd9277dad43b7f6acc111637cb) ∷
    (12481274129482623230, 0x8e4d96295aab0c933ef9ec756bd5129b4b768824bb8966a8c3579888a1a10a6e) ∷
    (13872308701783029083, 0x248d010701efdd1ba2443ce815cfe4286959a275d3c57cd55df5711e900b01e6) ∷
    (11056804671307967812, 0xb606856e4ece32a625d1a9f28a393afd6abfcf86fa51d4225e90f32ad54de89d) ∷
    (3723483217624449327, 0x4b828276a723b988964fbb3452be0e4241bdb0191111747471c79e34ae8460a8) ∷
    (16112293391942411381, 0x27fdd35e8bc83c6f66029bbcfb6707def0cd9729471339d05d3910e5a8122316) ∷
    []

abbrev second_witness_signatures : List ℕ
second_witness_signatures =
    lines (
    (codes "cHNidP8BAIcCAAAAApF2cLTeLye0NfcfOi9YcLV399LQviNNqvmPJykaytHHAAAAAAD+////4qpykepfam+XU6MzC4PTQ+c43B50" ++
    codes "AD3y887YsyKuj2sBAAAAAP7///8B2NABAAAAAAAiACChFPEK0sQTBlwsTjPksjFEW/KwAWwTsXDhPvzo36atwAAAAAAAAQEfoIYB" ++
    codes "AAAAAAAWABSoF0cW4hMT8v7mpWthoe4LnIRVuAEIbAJIMEUCIQCEePKFU2iXhpMIuCjS0Y9GANELi3dnaWS7uoVd1GQkPAIgFz18" ++
    codes "d4IwPYdW6nj6YVOKnNOlW7V6GUnTTHS5ZQwptysBIQKc7PUOPRjDSuou+yQbXEsD4MNnH34UDX8tBvbo9tqZZgABASsgTgAAAAAA" ++
    codes "ACIAIGl8Gh9kLZ3J8yApihWmwkw88fLGkxq4k/xPOhxyHz1fIgIDuhXD1B+aAAS08On5NxbchatgChWOkNBjnzZKsEx2byFIMEUC" ++
    codes "IQD8VshbxRHFrFlrVLda2kjMwrSimRE/ZxucdezsagI2iwIgTYR46aAnijiWDWD1/LUXiV/vd94dB0Bj6XZwanj8NO0BAQMEAQAA" ++
    codes "AAEFIyEDuhXD1B+aAAS08On5NxbchatgChWOkNBjnzZKsEx2byGsAAA=") ∷
    codes "" ∷
    (codes "cHNidP8BAIcCAAAAApF2cLTeLye0NfcfOi9YcLV399LQviNNqvmPJykaytHHAAAAAAD+////4qpykepfam+XU6MzC4PTQ+c43B50" ++
    codes "AD3y887YsyKuj2sBAAAAAP7///8B2NABAAAAAAAiACChFPEK0sQTBlwsTjPksjFEW/KwAWwTsXDhPvzo36atwAAAAAAAAQEfoIYB" ++
    codes "AAAAAAAWABSoF0cW4hMT8v7mpWthoe4LnIRVuAEIbAJIMEUCIQD2jSCMjmnVHLi22oAk+GQqJ9Z+iNExcYNo7eUGJQqN6wIgdj2o" ++
    codes "MkkOJ9NSPg872scHwTdAaASiWSZ1cxgmJUUpHpcBIQKc7PUOPRjDSuou+yQbXEsD4MNnH34UDX8tBvbo9tqZZgABASsgTgAAAAAA" ++
    codes "ACIAIGl8Gh9kLZ3J8yApihWmwkw88fLGkxq4k/xPOhxyHz1fIgIDuhXD1B+aAAS08On5NxbchatgChWOkNBjnzZKsEx2byFIMEUC" ++
    codes "IQD8VshbxRHFrFlrVLda2kjMwrSimRE/ZxucdezsagI2iwIgTYR46aAnijiWDWD1/LUXiV/vd94dB0Bj6XZwanj8NO0BAQMEAQAA" ++
    codes "AAEFIyEDuhXD1B+aAAS08On5NxbchatgChWOkNBjnzZKsEx2byGsAAA=") ∷
    [])

-- Another witness of the same input.
second_witness :
    deal_replies accepting (sha_of wallets_hashes) (codes "missing" ∷ codes "bet.bitml" ∷ codes "wallets.deal" ∷ codes "some.signatures" ∷ [])
    ((codes "bet.bitml", bet_bitml) ∷ (codes "wallets.deal", wallets_deal) ∷ (codes "some.signatures", second_witness_signatures) ∷ [])
    ≡ prints 14 (lines (
    codes "signatures refused line 3 conflict 0" ∷
    []))
unfolding is_name word_prefix number_prefix symbol_prefix read_answer advert_of_all advert_at entries_at entry_at head_at
    deposit_at secret_at fee_at choice_with branches_at branch_at parts_at auth_at after_at put_at reveal_at split_at
    reveals_at puts_at put_reveals_at headed_at one_branch_at condition_at names_from test_at comparison_at formula_at
    constant_at length_at withdraw_at digits label_text stripped marked compact places_list sequences_list
    outputs_list preimage position_script many wide_at compact_at string_at input_at inputs_at output_at outputs_at
    witness_at witnesses_at plain_at marked_at transaction_at all_at script_meaning ops_of number_of_item signed_bytes
    item_of_number base64_text base64_bytes psbt_bytes psbt_text psbt_of records_at maps_at
    read_address address check_values next_state group_at byte_at
second_witness = refl

abbrev witness_of_a_hash_type_signatures : List ℕ
witness_of_a_hash_type_signatures =
    lines (
    (codes "cHNidP8BAIcCAAAAApF2cLTeLye0NfcfOi9YcLV399LQviNNqvmPJykaytHHAAAAAAD+////4qpykepfam+XU6MzC4PTQ+c43B50" ++
    codes "AD3y887YsyKuj2sBAAAAAP7///8B2NABAAAAAAAiACChFPEK0sQTBlwsTjPksjFEW/KwAWwTsXDhPvzo36atwAAAAAAAAQEfoIYB" ++
    codes "AAAAAAAWABSoF0cW4hMT8v7mpWthoe4LnIRVuAEIbAJIMEUCIQCEePKFU2iXhpMIuCjS0Y9GANELi3dnaWS7uoVd1GQkPAIgFz18" ++
    codes "d4IwPYdW6nj6YVOKnNOlW7V6GUnTTHS5ZQwptyuBIQKc7PUOPRjDSuou+yQbXEsD4MNnH34UDX8tBvbo9tqZZgABASsgTgAAAAAA" ++
    codes "ACIAIGl8Gh9kLZ3J8yApihWmwkw88fLGkxq4k/xPOhxyHz1fIgIDuhXD1B+aAAS08On5NxbchatgChWOkNBjnzZKsEx2byFIMEUC" ++
    codes "IQD8VshbxRHFrFlrVLda2kjMwrSimRE/ZxucdezsagI2iwIgTYR46aAnijiWDWD1/LUXiV/vd94dB0Bj6XZwanj8NO0BAQMEAQAA" ++
    codes "AAEFIyEDuhXD1B+aAAS08On5NxbchatgChWOkNBjnzZKsEx2byGsAAA=") ∷
    [])

-- A wallet's signature of another hash type.
witness_of_a_hash_type :
    deal_replies accepting (sha_of wallets_hashes) (codes "missing" ∷ codes "bet.bitml" ∷ codes "wallets.deal" ∷ codes "some.signatures" ∷ [])
    ((codes "bet.bitml", bet_bitml) ∷ (codes "wallets.deal", wallets_deal) ∷ (codes "some.signatures", witness_of_a_hash_type_signatures) ∷ [])
    ≡ prints 14 (lines (
    codes "signatures refused line 1 signature 0" ∷
    []))
unfolding is_name word_prefix number_prefix symbol_prefix read_answer advert_of_all advert_at entries_at entry_at head_at
    deposit_at secret_at fee_at choice_with branches_at branch_at parts_at auth_at after_at put_at reveal_at split_at
    reveals_at puts_at put_reveals_at headed_at one_branch_at condition_at names_from test_at comparison_at formula_at
    constant_at length_at withdraw_at digits label_text stripped marked compact places_list sequences_list
    outputs_list preimage position_script many wide_at compact_at string_at input_at inputs_at output_at outputs_at
    witness_at witnesses_at plain_at marked_at transaction_at all_at script_meaning ops_of number_of_item signed_bytes
    item_of_number base64_text base64_bytes psbt_bytes psbt_text psbt_of records_at maps_at
    read_address address check_values next_state group_at byte_at
witness_of_a_hash_type = refl

abbrev witness_of_one_item_signatures : List ℕ
witness_of_one_item_signatures =
    lines (
    (codes "cHNidP8BAIcCAAAAApF2cLTeLye0NfcfOi9YcLV399LQviNNqvmPJykaytHHAAAAAAD+////4qpykepfam+XU6MzC4PTQ+c43B50" ++
    codes "AD3y887YsyKuj2sBAAAAAP7///8B2NABAAAAAAAiACChFPEK0sQTBlwsTjPksjFEW/KwAWwTsXDhPvzo36atwAAAAAAAAQEfoIYB" ++
    codes "AAAAAAAWABSoF0cW4hMT8v7mpWthoe4LnIRVuAEISgFIMEUCIQCEePKFU2iXhpMIuCjS0Y9GANELi3dnaWS7uoVd1GQkPAIgFz18" ++
    codes "d4IwPYdW6nj6YVOKnNOlW7V6GUnTTHS5ZQwptysBAAEBKyBOAAAAAAAAIgAgaXwaH2QtncnzICmKFabCTDzx8saTGriT/E86HHIf" ++
    codes "PV8iAgO6FcPUH5oABLTw6fk3FtyFq2AKFY6Q0GOfNkqwTHZvIUgwRQIhAPxWyFvFEcWsWWtUt1raSMzCtKKZET9nG5x17OxqAjaL" ++
    codes "AiBNhHjpoCeKOJYNYPX8tReJX+933h0HQGPpdnBqePw07QEBAwQBAAAAAQUjIQO6FcPUH5oABLTw6fk3FtyFq2AKFY6Q0GOfNkqw" ++
    codes "THZvIawAAA==") ∷
    [])

-- A witness that lacks the key.
witness_of_one_item :
    deal_replies accepting (sha_of wallets_hashes) (codes "missing" ∷ codes "bet.bitml" ∷ codes "wallets.deal" ∷ codes "some.signatures" ∷ [])
    ((codes "bet.bitml", bet_bitml) ∷ (codes "wallets.deal", wallets_deal) ∷ (codes "some.signatures", witness_of_one_item_signatures) ∷ [])
    ≡ prints 14 (lines (
    codes "signatures refused line 1 witness 0" ∷
    []))
unfolding is_name word_prefix number_prefix symbol_prefix read_answer advert_of_all advert_at entries_at entry_at head_at
    deposit_at secret_at fee_at choice_with branches_at branch_at parts_at auth_at after_at put_at reveal_at split_at
    reveals_at puts_at put_reveals_at headed_at one_branch_at condition_at names_from test_at comparison_at formula_at
    constant_at length_at withdraw_at digits label_text stripped marked compact places_list sequences_list
    outputs_list preimage position_script many wide_at compact_at string_at input_at inputs_at output_at outputs_at
    witness_at witnesses_at plain_at marked_at transaction_at all_at script_meaning ops_of number_of_item signed_bytes
    item_of_number base64_text base64_bytes psbt_bytes psbt_text psbt_of records_at maps_at
    read_address address check_values next_state group_at byte_at
witness_of_one_item = refl

abbrev part_of_a_witness_signatures : List ℕ
part_of_a_witness_signatures =
    lines (
    (codes "cHNidP8BAIcCAAAAApF2cLTeLye0NfcfOi9YcLV399LQviNNqvmPJykaytHHAAAAAAD+////4qpykepfam+XU6MzC4PTQ+c43B50" ++
    codes "AD3y887YsyKuj2sBAAAAAP7///8B2NABAAAAAAAiACChFPEK0sQTBlwsTjPksjFEW/KwAWwTsXDhPvzo36atwAAAAAAAAQEfoIYB" ++
    codes "AAAAAAAWABSoF0cW4hMT8v7mpWthoe4LnIRVuCICApzs9Q49GMNK6i77JBtcSwPgw2cffhQNfy0G9uj22plmATABBQFRAAEBKyBO" ++
    codes "AAAAAAAAIgAgaXwaH2QtncnzICmKFabCTDzx8saTGriT/E86HHIfPV8iAgO6FcPUH5oABLTw6fk3FtyFq2AKFY6Q0GOfNkqwTHZv" ++
    codes "IUgwRQIhAPxWyFvFEcWsWWtUt1raSMzCtKKZET9nG5x17OxqAjaLAiBNhHjpoCeKOJYNYPX8tReJX+933h0HQGPpdnBqePw07QEB" ++
    codes "AwQBAAAAAQUjIQO6FcPUH5oABLTw6fk3FtyFq2AKFY6Q0GOfNkqwTHZvIawAAA==") ∷
    [])

-- A signature of a wallet's key by itself is read as any that isn't asked for: the wallet is still asked.
part_of_a_witness :
    deal_replies accepting (sha_of wallets_hashes) (codes "missing" ∷ codes "bet.bitml" ∷ codes "wallets.deal" ∷ codes "some.signatures" ∷ [])
    ((codes "bet.bitml", bet_bitml) ∷ (codes "wallets.deal", wallets_deal) ∷ (codes "some.signatures", part_of_a_witness_signatures) ∷ [])
    ≡ prints 0 (lines (
    codes "missing init 0 W:x init" ∷
    codes "missing r.0 0 B:0:r.0:A endorse" ∷
    codes "missing r.0 0 B:0:r.0:B endorse" ∷
    codes "missing r.0.0 0 B:0:r.0.0:A endorse" ∷
    codes "missing r.0.0 0 B:0:r.0.0:B endorse" ∷
    codes "missing r.1 0 B:0:r.1:A endorse" ∷
    codes "missing r.1 0 B:0:r.1:B authorise" ∷
    codes "init not endorsed r.0 A" ∷
    []))
unfolding is_name word_prefix number_prefix symbol_prefix read_answer advert_of_all advert_at entries_at entry_at head_at
    deposit_at secret_at fee_at choice_with branches_at branch_at parts_at auth_at after_at put_at reveal_at split_at
    reveals_at puts_at put_reveals_at headed_at one_branch_at condition_at names_from test_at comparison_at formula_at
    constant_at length_at withdraw_at digits label_text stripped marked compact places_list sequences_list
    outputs_list preimage position_script many wide_at compact_at string_at input_at inputs_at output_at outputs_at
    witness_at witnesses_at plain_at marked_at transaction_at all_at script_meaning ops_of number_of_item signed_bytes
    item_of_number base64_text base64_bytes psbt_bytes psbt_text psbt_of records_at maps_at
    read_address address check_values next_state group_at byte_at
part_of_a_witness = refl

abbrev bet_deal : List ℕ
bet_deal =
    lines (
    codes "key D:A 03913ffe7036ec1cefec5d4589d0c2e8e7b6a300c97e0a106cd9624f149bcda7f5" ∷
    codes "key D:B 03ba15c3d41f9a0004b4f0e9f93716dc85ab600a158e90d0639f364ab04c766f21" ∷
    codes "key B:0:r.0:A 03880380f4fe91faca6db3387f5c981c02fee0dbae9278e8dcf2e0769b15457907" ∷
    codes "key B:0:r.0:B 023c24fce1010225fd96c5407ef8f06e3a5bae1e6b8f3449ef2085634b3e148b29" ∷
    codes "key B:0:r.0.0:A 033d1647343f4a9acee04accaa2494f71c403de0c463951a641ba91da0f7950e8a" ∷
    codes "key B:0:r.0.0:B 0230588467e4001454ec1e1fc960ea058ef5ca3976b3ecfe152dfc29fc01d2ede2" ∷
    codes "key B:0:r.1:A 02f318d2ff23218b2bf4bcd80ee4b79558dab1a20505f57f125d38b4a8344b9eed" ∷
    codes "key B:0:r.1:B 028f194e849e01cc64b26090c5d47bffdbdb3904023c817a98729cd6b4a481e57d" ∷
    codes "deposit x c7d1ca1a29278ff9aa4d23bed0d2f777b570582f3a1ff735b4272fdeb4707691 0" ∷
    codes "deposit y 6b8fae22b3d8cef3f23d00741edc38e743d3830b33a353976f6a5fea9172aae2 1" ∷
    codes "hash a 12e53d027fec5936fb9e8d7ce7f98252d9b85e5633e2386fd3d59a1f2c1a2703" ∷
    [])

abbrev bet_secrets : List ℕ
bet_secrets =
    lines (
    codes "secret a 00112233445566778899aabbccddeeff0102" ∷
    [])

abbrev endorsed_signatures : List ℕ
endorsed_signatures =
    lines (
    (codes "cHNidP8BAF4CAAAAAWSkLVm6zsEnnKB/rBdAwQzAV/Hh1ehdYmA+45H38fkQAAAAAAD+////AfDMAQAAAAAAIgAgjlxSz1EXSSCi" ++
    codes "AFSYHnZA82Z27YqAY7lq4bof+1pyzVMAAAAAAAEBK9jQAQAAAAAAIgAgoRTxCtLEEwZcLE4z5LIxRFvysAFsE7Fw4T786N+mrcAi" ++
    codes "AgI8JPzhAQIl/ZbFQH748G46W64ea480Se8ghWNLPhSLKUcwRAIgJA4baG4mwiexobcwux8ibKCesAlMXsomyx6mr+AybCgCIEwA" ++
    codes "rDsjF4lGvMhz8Uuh9xQ29Dw1AbDxllr3+S/BNGwQASICA4gDgPT+kfrKbbM4f1yYHAL+4Nuuknjo3PLgdpsVRXkHRzBEAiA6QB+0" ++
    codes "clbtiyC1LOR/7TkWpo9Hg+5+TjYIt+8BI3IbGAIgb0NhNoe+yAq7tumv3GYtYfgFVRdd4lH2Er4vY9ynk2YBAQMEAQAAAAEFxGOC" ++
    codes "dmACCQKlaWuoIBLlPQJ/7Fk2+56NfOf5glLZuF5WM+I4b9PVmh8sGicDiGwAeWCUU59pdSEDiAOA9P6R+sptszh/XJgcAv7g266S" ++
    codes "eOjc8uB2mxVFeQetIQI8JPzhAQIl/ZbFQH748G46W64ea480Se8ghWNLPhSLKaxnIQLzGNL/IyGLK/S82A7kt5VY2rGiBQX1fxJd" ++
    codes "OLSoNEue7a0hAo8ZToSeAcxksmCQxdR7/9vbOQQCPIF6mHKc1rSkgeV9rGgAAA==") ∷
    (codes "cHNidP8BAF4CAAAAAYqmQzZLtYRFhw5+TLySwzwnm6JjnGsNTaA+jvvl793rAAAAAAD+////AQjJAQAAAAAAIgAgOMn1GeX9WVtE" ++
    codes "MXGJS5u+mCNAeSmSiWZbs9bR0BD8/bkAAAAAAAEBK/DMAQAAAAAAIgAgjlxSz1EXSSCiAFSYHnZA82Z27YqAY7lq4bof+1pyzVMi" ++
    codes "AgIwWIRn5AAUVOweH8lg6gWO9co5drPs/hUt/Cn8AdLt4kgwRQIhAIm2yAxc6MUQQ2u+NGllm9dQZdwmTGcIyhVk7OcgNHlCAiBK" ++
    codes "23jgK8S4uilR0UdG/35PvjIZUE3e5Pe6pbKzXpBy5gEiAgM9Fkc0P0qazuBKzKoklPccQD3gxGOVGmQbqR2g95UOikgwRQIhALvw" ++
    codes "HjuGpO+1wPbhyeGk+fN8TTJbONj+J21Wr33b6ULmAiA8BOMWW3ElSmIdEN7UoN4vhx17sqGcSzOP8QtmPa6paQEBAwQBAAAAAQVG" ++
    codes "IQM9Fkc0P0qazuBKzKoklPccQD3gxGOVGmQbqR2g95UOiq0hAjBYhGfkABRU7B4fyWDqBY71yjl2s+z+FS38KfwB0u3irAAA") ∷
    (codes "cHNidP8BAF4CAAAAAWSkLVm6zsEnnKB/rBdAwQzAV/Hh1ehdYmA+45H38fkQAAAAAAD+////AfDMAQAAAAAAIgAgaXwaH2Qtncnz" ++
    codes "ICmKFabCTDzx8saTGriT/E86HHIfPV9grgoAAAEBK9jQAQAAAAAAIgAgoRTxCtLEEwZcLE4z5LIxRFvysAFsE7Fw4T786N+mrcAi" ++
    codes "AgLzGNL/IyGLK/S82A7kt5VY2rGiBQX1fxJdOLSoNEue7UgwRQIhAPM4adw/guBs2r3QQtv4zMcInZ4BD80jFCOBDMtqYOcKAiBK" ++
    codes "UK5WOtEa9+bQevOi4z5mBYUvuQFzNMQcKotA87K+EgEBAwQBAAAAAQXEY4J2YAIJAqVpa6ggEuU9An/sWTb7no185/mCUtm4XlYz" ++
    codes "4jhv09WaHywaJwOIbAB5YJRTn2l1IQOIA4D0/pH6ym2zOH9cmBwC/uDbrpJ46Nzy4HabFUV5B60hAjwk/OEBAiX9lsVAfvjwbjpb" ++
    codes "rh5rjzRJ7yCFY0s+FIsprGchAvMY0v8jIYsr9LzYDuS3lVjasaIFBfV/El04tKg0S57trSECjxlOhJ4BzGSyYJDF1Hv/29s5BAI8" ++
    codes "gXqYcpzWtKSB5X2saAAA") ∷
    [])

abbrev bet_hashes : List (ℕ × ℕ)
bet_hashes =
    (934272902507189875, 0xa114f10ad2c413065c2c4e33e4b231445bf2b0016c13b170e13efce8dfa6adc0) ∷
    (15940804879542246790, 0x8e5c52cf51174920a20054981e7640f36676ed8a8063b96ae1ba1ffb5a72cd53) ∷
    (3691551255371676412, 0x38c9f519e5fd595b443171894b9bbe98234079299289665bb3d6d1d010fcfdb9) ∷
    (10218227868334287480, 0x697c1a1f642d9dc9f320298a15a6c24c3cf1f2c6931ab893fc4f3a1c721f3d5f) ∷
    (188406309477158521, 0x0f32240e93b5cb87dbb44681fb0e14919d4df976b7fcb0739e853e979798efc7) ∷
    (15353328361583202301, 0x64a42d59bacec1279ca07fac1740c10cc057f1e1d5e85d62603ee391f7f1f910) ∷
    (6819451735403476304, 0x5500b707a4d1eebbca36929299370e8b80c0ba151dff0c617d3ebb51699b9c55) ∷
    (9231889525126806902, 0x8aa643364bb58445870e7e4cbc92c33c279ba2639c6b0d4da03e8efbe5efddeb) ∷
    (1281191719116439971, 0xb25da1f88f89f26ab9956fcd3a1ed9861749cc5e3482b6ff52eeab8d3d824ce3) ∷
    (16972138637547280928, 0xad777d08ba4c00398aa186ecfaf2ecec0d05934d5331d2e2e54696f6ccd4e0f4) ∷
    (16979309193811568180, 0x343f84548f95cbacf1f7e96e672eaf7b4f1835226763d71fc2cfe354eab773ce) ∷
    (17858579783449496364, 0x0c142114dd708748e68db6e3b3010d235b1971cda5889b49eb5fa8653f36b07f) ∷
    (4080002374814135468, 0x2b77ed34389531cf320a30838e32ca944663c008992ac6983c7514ee9016fe41) ∷
    (18146190591450095071, 0x5711d5f0b6d1c529d1ebcfb201b7dd554e049f1a1915190c1c3d037e53c2283d) ∷
    (14376305522832806550, 0xd68892270a4358c723fefd6c3df811000689d276a7b15205c65037a41a989cce) ∷
    (16135954257557145446, 0xc992651ac89a97aecd0811c1761915a8e2c8f5153d1bdd994a789e6bd86ab717) ∷
    (11904136938687542398, 0xf0c78061d22ecc1b22a4f0cdd7edb944bae9e6d332243f55274a8fc4ecb2980a) ∷
    (11470928872492437449, 0x391ec7b29e4333ff0ebcfa0e5e11e07fb0e54a321da211d14aed03839be78643) ∷
    (11757003483022530728, 0x3363a052370b572227e49931e0acad0d3b5be1868da1d83799b5d04298b1f107) ∷
    (11831738820569013141, 0xffcb34ea52b0edf727b1a311dbf5b2859c087e07c4d4f84ca1351ffd09a64fac) ∷
    (16804214099025738211, 0x88aade6531f24839a5a225f317b188e6b7eef5037f3e9c6a84bcadbe8dcc9a1a) ∷
    (1784102848868150994, 0xf42ba7e42270f887ecc4340d2457d7e3f3772335d412c2a939c1e4ee2122f6a5) ∷
    (3332012355205760889, 0xb52bad3b613173bde203c1c13c048be178baf2a85787b5d77c945e9cfcde321d) ∷
    (8606493698777425830, 0x13b4ecfb2e011f72ea3d3e885ab14cf9bcc932714087a8c81f95a7787b8f2b10) ∷
    (5040092498882930355, 0xb4248c210a2905b94345e1a8414d0e12efcfb2f4f0f2397159a71283397a0ccd) ∷
    (204552439812090982, 0x18606b350cd8bf565266bc352f0caddcf01e8fa789dd8a15386327cf8cabe198) ∷
    (7130754649290878647, 0xec972f9ecf256918a69c06804f5bd939563c02a0b5b0079e8a3c4fe89d17f4b6) ∷
    (10003731649463509742, 0xe1ded042f29b9bd6e93fd498ab65a52dee1f7d88a3d57de6ff70633439a3cefe) ∷
    (17270084892696143396, 0xd2e926bd252323a01a31f951f4dd8b3953cf7f6590aedacef06e0b5b5d4b51fe) ∷
    (11486056133135513766, 0xc008d976de0d4079d9a6363008d5900aaafb209b2dbfcc744809ce0d7decc457) ∷
    (3217087888452892181, 0xc23b328c9a51505e58a99c6c95fb4bd42f65f568594f11113711fdf6c43b2377) ∷
    (15597962236440396959, 0xf8768ad62d9faaf32a3405ea30ddcef8c4c56e70fc7497d24f3ed892be7b579e) ∷
    (1032629611570274414, 0xd122247859e1662a3799c760f6e52b79c7388947b39b7b93d4f6bf110a4e6be2) ∷
    (9616796591008842317, 0x2925c6aec092fb9f400da1f8b0a5ca48bdeb3224a990844a707aafb83e5bee5b) ∷
    (7101757607011618894, 0x0a93250b30769eff260dd36a2d05e961655c764999359d15efa2b961b3e6a46b) ∷
    (10047481156168111815, 0x558b7c22f6c91c94d93f8e60b9b95f268d7269f7b33e781df071544478980628) ∷
    (13872308701783029083, 0x248d010701efdd1ba2443ce815cfe4286959a275d3c57cd55df5711e900b01e6) ∷
    (11056804671307967812, 0xb606856e4ece32a625d1a9f28a393afd6abfcf86fa51d4225e90f32ad54de89d) ∷
    (3723483217624449327, 0x4b828276a723b988964fbb3452be0e4241bdb0191111747471c79e34ae8460a8) ∷
    (16112293391942411381, 0x27fdd35e8bc83c6f66029bbcfb6707def0cd9729471339d05d3910e5a8122316) ∷
    (4848876383435022313, 0x12e53d027fec5936fb9e8d7ce7f98252d9b85e5633e2386fd3d59a1f2c1a2703) ∷
    []

-- All is endorsed, and there is nothing to be warned of.
deal_is_ready :
    deal_replies accepting (sha_of bet_hashes) (codes "ready" ∷ codes "bet.bitml" ∷ codes "bet.deal" ∷ codes "endorsed.signatures" ∷ codes "bet.secrets" ∷ [])
    ((codes "bet.bitml", bet_bitml) ∷ (codes "bet.deal", bet_deal) ∷ (codes "endorsed.signatures", endorsed_signatures) ∷
    (codes "bet.secrets", bet_secrets) ∷ [])
    ≡ prints 0 (lines (
    codes "warnings 0" ∷
    codes "init may be signed" ∷
    []))
unfolding is_name word_prefix number_prefix symbol_prefix read_answer advert_of_all advert_at entries_at entry_at head_at
    deposit_at secret_at fee_at choice_with branches_at branch_at parts_at auth_at after_at put_at reveal_at split_at
    reveals_at puts_at put_reveals_at headed_at one_branch_at condition_at names_from test_at comparison_at formula_at
    constant_at length_at withdraw_at digits label_text stripped marked compact places_list sequences_list
    outputs_list preimage position_script many wide_at compact_at string_at input_at inputs_at output_at outputs_at
    witness_at witnesses_at plain_at marked_at transaction_at all_at script_meaning ops_of number_of_item signed_bytes
    item_of_number base64_text base64_bytes psbt_bytes psbt_text psbt_of records_at maps_at
    read_address address check_values next_state group_at byte_at
deal_is_ready = refl

-- The hash of a secret, as a line of a deal file.
secret_is_hashed :
    deal_replies accepting (sha_of bet_hashes) (codes "hashes" ∷ codes "bet.bitml" ∷ codes "bet.secrets" ∷ [])
    ((codes "bet.bitml", bet_bitml) ∷ (codes "bet.secrets", bet_secrets) ∷ [])
    ≡ prints 0 (lines (
    codes "hash a 12e53d027fec5936fb9e8d7ce7f98252d9b85e5633e2386fd3d59a1f2c1a2703" ∷
    []))
unfolding is_name word_prefix number_prefix symbol_prefix read_answer advert_of_all advert_at entries_at entry_at head_at
    deposit_at secret_at fee_at choice_with branches_at branch_at parts_at auth_at after_at put_at reveal_at split_at
    reveals_at puts_at put_reveals_at headed_at one_branch_at condition_at names_from test_at comparison_at formula_at
    constant_at length_at withdraw_at digits label_text stripped marked compact places_list sequences_list
    outputs_list preimage position_script many wide_at compact_at string_at input_at inputs_at output_at outputs_at
    witness_at witnesses_at plain_at marked_at transaction_at all_at script_meaning ops_of number_of_item signed_bytes
    item_of_number base64_text base64_bytes psbt_bytes psbt_text psbt_of records_at maps_at
    read_address address check_values next_state group_at byte_at
secret_is_hashed = refl

abbrev small_bitml : List ℕ
small_bitml =
    lines (
    codes "{A:! 300 @ x | B:! 0 @ y} (A : withdraw B + split [293 -> withdraw A, 7 -> withdraw B])" ∷
    [])

abbrev small_deal : List ℕ
small_deal =
    lines (
    codes "network bcrt" ∷
    codes "pay A bcrt1q2xdvw50dp4r4anx544pgyd9hcmnt47hsr3twje" ∷
    codes "key D:B 03ba15c3d41f9a0004b4f0e9f93716dc85ab600a158e90d0639f364ab04c766f21" ∷
    codes "key B:0:r.0:A 03880380f4fe91faca6db3387f5c981c02fee0dbae9278e8dcf2e0769b15457907" ∷
    codes "key B:0:r.0:B 023c24fce1010225fd96c5407ef8f06e3a5bae1e6b8f3449ef2085634b3e148b29" ∷
    codes "key B:0:r.1:A 02f318d2ff23218b2bf4bcd80ee4b79558dab1a20505f57f125d38b4a8344b9eed" ∷
    codes "key B:0:r.1:B 028f194e849e01cc64b26090c5d47bffdbdb3904023c817a98729cd6b4a481e57d" ∷
    codes "key B:0:r.1/0.0:A 02ea50703f66a762cec57f51de5202e4ffa87733a27be244247204bc048f241181" ∷
    codes "key B:0:r.1/0.0:B 03ac2e82c2f227a5f3aec3d36baad0dda39001cc53c413805d591085efe2a58ac0" ∷
    codes "key B:0:r.1/1.0:A 034ea07274ad612e2d1cf7f474439c6a4eb2cfea859dcc0019edfbc2dbe7e8a308" ∷
    codes "key B:0:r.1/1.0:B 02d55a3a8484c373220fec19f6b375c90dcf5133569672d8c6434c01cb3552d792" ∷
    (codes "deposit x c7d1ca1a29278ff9aa4d23bed0d2f777b570582f3a1ff735b4272fdeb4707691 0 bcrt1qa2dw4c3rs9kpy4vw0" ++
    codes "3hmjlcl0qxl2vgyx0v9ylqzphtfwpas6rkqew75rv") ∷
    codes "deposit y 6b8fae22b3d8cef3f23d00741edc38e743d3830b33a353976f6a5fea9172aae2 1" ∷
    [])

-- Outputs and fees that nodes wouldn't relay; only the lengths of hashes count, so the table is empty.
small_amounts :
    deal_replies accepting (sha_of []) (codes "warn" ∷ codes "small.bitml" ∷ codes "small.deal" ∷ [])
    ((codes "small.bitml", small_bitml) ∷ (codes "small.deal", small_deal) ∷ [])
    ≡ prints 0 (lines (
    codes "warn dust init 0 300 330" ∷
    codes "warn fee init 0 164" ∷
    codes "warn dust r.0 0 300 330" ∷
    codes "warn fee r.0 0 168" ∷
    codes "warn dust r.1 0 293 330" ∷
    codes "warn dust r.1 1 7 330" ∷
    codes "warn fee r.1 0 211" ∷
    codes "warn dust r.1/0.0 0 293 294" ∷
    codes "warn fee r.1/0.0 0 137" ∷
    codes "warn dust r.1/1.0 0 7 330" ∷
    codes "warn fee r.1/1.0 0 149" ∷
    codes "warnings 11" ∷
    []))
unfolding is_name word_prefix number_prefix symbol_prefix read_answer advert_of_all advert_at entries_at entry_at head_at
    deposit_at secret_at fee_at choice_with branches_at branch_at parts_at auth_at after_at put_at reveal_at split_at
    reveals_at puts_at put_reveals_at headed_at one_branch_at condition_at names_from test_at comparison_at formula_at
    constant_at length_at withdraw_at digits label_text stripped marked compact places_list sequences_list
    outputs_list preimage position_script many wide_at compact_at string_at input_at inputs_at output_at outputs_at
    witness_at witnesses_at plain_at marked_at transaction_at all_at script_meaning ops_of number_of_item signed_bytes
    item_of_number base64_text base64_bytes psbt_bytes psbt_text psbt_of records_at maps_at
    read_address address check_values next_state group_at byte_at
small_amounts = refl

-- And so a deal of them isn't ready.
not_ready_with_warnings :
    deal_replies accepting (sha_of []) (codes "ready" ∷ codes "small.bitml" ∷ codes "small.deal" ∷ codes "none.signatures" ∷ [])
    ((codes "small.bitml", small_bitml) ∷ (codes "small.deal", small_deal) ∷ (codes "none.signatures", []) ∷ [])
    ≡ prints 16 (lines (
    codes "warn dust init 0 300 330" ∷
    codes "warn fee init 0 164" ∷
    codes "warn dust r.0 0 300 330" ∷
    codes "warn fee r.0 0 168" ∷
    codes "warn dust r.1 0 293 330" ∷
    codes "warn dust r.1 1 7 330" ∷
    codes "warn fee r.1 0 211" ∷
    codes "warn dust r.1/0.0 0 293 294" ∷
    codes "warn fee r.1/0.0 0 137" ∷
    codes "warn dust r.1/1.0 0 7 330" ∷
    codes "warn fee r.1/1.0 0 149" ∷
    codes "warnings 11" ∷
    codes "init not endorsed r.0 B" ∷
    []))
unfolding is_name word_prefix number_prefix symbol_prefix read_answer advert_of_all advert_at entries_at entry_at head_at
    deposit_at secret_at fee_at choice_with branches_at branch_at parts_at auth_at after_at put_at reveal_at split_at
    reveals_at puts_at put_reveals_at headed_at one_branch_at condition_at names_from test_at comparison_at formula_at
    constant_at length_at withdraw_at digits label_text stripped marked compact places_list sequences_list
    outputs_list preimage position_script many wide_at compact_at string_at input_at inputs_at output_at outputs_at
    witness_at witnesses_at plain_at marked_at transaction_at all_at script_meaning ops_of number_of_item signed_bytes
    item_of_number base64_text base64_bytes psbt_bytes psbt_text psbt_of records_at maps_at
    read_address address check_values next_state group_at byte_at
not_ready_with_warnings = refl
