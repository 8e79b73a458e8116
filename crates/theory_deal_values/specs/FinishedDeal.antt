-- A deal that is finished: its contract, deal file, signatures and secrets, and what `finish` prints of them.
use Rattle.std.specs.Prelude.{◌≡◌, ℕ, List, [], ◌∷◌, ◌++◌, codes}
use Rattle.spec_tool.specs.Commands.{prints}
use Rattle.spec_deal.specs.Verifier.{accepting}
use Rattle.theory_values.specs.Replies.{lines, sha_of}
use Rattle.theory_deal_values.specs.Replies.{deal_replies}

abbrev pub pair_bitml : List ℕ
pair_bitml =
    lines (
    (codes "{A:! 50000 @ x | B:! 20000 @ y | B:? 30000 @ z | A: secret a | B: secret b} fee 1000 (B : put z & re" ++
    codes "veal b, a if |b| < |a| . withdraw A + after 700100 : withdraw A)") ∷
    [])

abbrev pub pair_deal : List ℕ
pair_deal =
    lines (
    codes "key D:A 03913ffe7036ec1cefec5d4589d0c2e8e7b6a300c97e0a106cd9624f149bcda7f5" ∷
    codes "key D:B 03ba15c3d41f9a0004b4f0e9f93716dc85ab600a158e90d0639f364ab04c766f21" ∷
    codes "key B:0:r.0:A 03880380f4fe91faca6db3387f5c981c02fee0dbae9278e8dcf2e0769b15457907" ∷
    codes "key B:0:r.0:B 023c24fce1010225fd96c5407ef8f06e3a5bae1e6b8f3449ef2085634b3e148b29" ∷
    codes "key B:0:r.0.0:A 033d1647343f4a9acee04accaa2494f71c403de0c463951a641ba91da0f7950e8a" ∷
    codes "key B:0:r.0.0:B 0230588467e4001454ec1e1fc960ea058ef5ca3976b3ecfe152dfc29fc01d2ede2" ∷
    codes "key B:0:r.1:A 02f318d2ff23218b2bf4bcd80ee4b79558dab1a20505f57f125d38b4a8344b9eed" ∷
    codes "key B:0:r.1:B 028f194e849e01cc64b26090c5d47bffdbdb3904023c817a98729cd6b4a481e57d" ∷
    codes "deposit x c7d1ca1a29278ff9aa4d23bed0d2f777b570582f3a1ff735b4272fdeb4707691 0" ∷
    codes "deposit y 6b8fae22b3d8cef3f23d00741edc38e743d3830b33a353976f6a5fea9172aae2 1" ∷
    codes "deposit z 8bc39a1cab5821b79254fcd29c8271255fb02b8c36f10d6d26e7b92ceda54127 2" ∷
    codes "hash a 4e9a8db850aa4c1ba06c9c6ef11c8eec1871cf73a224ecf5dfbbee81c763b483" ∷
    codes "hash b 39576d9a7ef3a12bce1924ae4f350596c89a617c9690c6e6a13d43c2f6f19f2a" ∷
    [])

abbrev pub pair_signatures : List ℕ
pair_signatures =
    lines (
    (codes "cHNidP8BAIcCAAAAApF2cLTeLye0NfcfOi9YcLV399LQviNNqvmPJykaytHHAAAAAAD+////4qpykepfam+XU6MzC4PTQ+c43B50" ++
    codes "AD3y887YsyKuj2sBAAAAAP7///8BiA0BAAAAAAAiACCnrSR+8mGk0Dq7rs/WWhj0JbEcCynbu/p//mX1KrgZ+QAAAAAAAQErUMMA" ++
    codes "AAAAAAAiACA4yfUZ5f1ZW0QxcYlLm76YI0B5KZKJZluz1tHQEPz9uSICA5E//nA27Bzv7F1FidDC6Oe2owDJfgoQbNliTxSbzaf1" ++
    codes "RzBEAiApn9hJeEPzjIcY3eYTkJZsfb7LndusBmgpks0WHL3DJgIgMvVBgUYg8y5uU+gdxIC2IMmQTys9ZaONqucQQOBxa+kBAQME" ++
    codes "AQAAAAEFIyEDkT/+cDbsHO/sXUWJ0MLo57ajAMl+ChBs2WJPFJvNp/WsAAEBKyBOAAAAAAAAIgAgaXwaH2QtncnzICmKFabCTDzx" ++
    codes "8saTGriT/E86HHIfPV8iAgO6FcPUH5oABLTw6fk3FtyFq2AKFY6Q0GOfNkqwTHZvIUgwRQIhAOo16CuvpSjRgO5G/7VbqUH+omEc" ++
    codes "KsAVkHjadnAJxodnAiAl0fV+uU3dqeTZgq7CsX48v/fXVb6ERwiROnDWnD1ayQEBAwQBAAAAAQUjIQO6FcPUH5oABLTw6fk3FtyF" ++
    codes "q2AKFY6Q0GOfNkqwTHZvIawAAA==") ∷
    (codes "cHNidP8BAIcCAAAAAtZWyfCyoFd1z1mDTWRAccsxGcQAdhqyosmySAcpLOqsAAAAAAD+////J0Gl7Sy55yZtDfE2jCuwXyVxgpzS" ++
    codes "/FSStyFYqxyaw4sCAAAAAP7///8B0H4BAAAAAAAiACCOXFLPURdJIKIAVJgedkDzZnbtioBjuWrhuh/7WnLNUwAAAAAAAQEriA0B" ++
    codes "AAAAAAAiACCnrSR+8mGk0Dq7rs/WWhj0JbEcCynbu/p//mX1KrgZ+SICAjwk/OEBAiX9lsVAfvjwbjpbrh5rjzRJ7yCFY0s+FIsp" ++
    codes "RzBEAiAuOjfWUiIdEoX/VSHqYrGz4Bkb4e6ZscnhnM0c366ALQIgacVpoJpL3wMPxtg9agl6EupWvKaN99urXoL5FpCqa7EBIgID" ++
    codes "iAOA9P6R+sptszh/XJgcAv7g266SeOjc8uB2mxVFeQdIMEUCIQCjCzLFYYkvT6kJvlXKR6Q4GqKNkAZmUI2yXnUgyzeiGQIgbvwg" ++
    codes "HGttPDc/HDoY/m18E+29QWwySHM4QjQutTGhBGwBAQMEAQAAAAEF9WOCdmACCQKlaWuoIDlXbZp+86Erzhkkrk81BZbImmF8lpDG" ++
    codes "5qE9Q8L28Z8qiIJ2YAIJAqVpa6ggTpqNuFCqTBugbJxu8RyO7Bhxz3OiJOz137vugcdjtIOIbGwAeWCUUnlglJ9pdXUhA4gDgPT+" ++
    codes "kfrKbbM4f1yYHAL+4Nuuknjo3PLgdpsVRXkHrSECPCT84QECJf2WxUB++PBuOluuHmuPNEnvIIVjSz4UiymsZyEC8xjS/yMhiyv0" ++
    codes "vNgO5LeVWNqxogUF9X8SXTi0qDRLnu2tIQKPGU6EngHMZLJgkMXUe//b2zkEAjyBephynNa0pIHlfaxoAAEBKzB1AAAAAAAAIgAg" ++
    codes "aXwaH2QtncnzICmKFabCTDzx8saTGriT/E86HHIfPV8iAgO6FcPUH5oABLTw6fk3FtyFq2AKFY6Q0GOfNkqwTHZvIUgwRQIhAMZv" ++
    codes "+NdxAiedCBS7zlS20jUdZvFnGU+HPGtdkOOMdOUFAiAV0lg3WovJYvoxe+xrRD93qTBRnhXAyhdFASJ6LpaRuwEBAwQBAAAAAQUj" ++
    codes "IQO6FcPUH5oABLTw6fk3FtyFq2AKFY6Q0GOfNkqwTHZvIawAAA==") ∷
    (codes "cHNidP8BAF4CAAAAAdXgNwCmierFfvfJy6pKCJKbInbfNi27u6NiBIbhoQkBAAAAAAD+////Aeh6AQAAAAAAIgAgOMn1GeX9WVtE" ++
    codes "MXGJS5u+mCNAeSmSiWZbs9bR0BD8/bkAAAAAAAEBK9B+AQAAAAAAIgAgjlxSz1EXSSCiAFSYHnZA82Z27YqAY7lq4bof+1pyzVMi" ++
    codes "AgIwWIRn5AAUVOweH8lg6gWO9co5drPs/hUt/Cn8AdLt4kgwRQIhAIGGW+L9vx6GTqY0UMk8mfkyUrHzyLVALP63l/Du0w3wAiBy" ++
    codes "wwyWdCCHuTrI9Qfs7VAovvIbNDFSHzrhkadbjoi2NAEiAgM9Fkc0P0qazuBKzKoklPccQD3gxGOVGmQbqR2g95UOikcwRAIgGOLx" ++
    codes "6jXeV6ZtJ4ZnfN9S15flQ4W37dvCx1DwC2vab0QCIBChCg3DGfpWeRGr+U5Yieu8iBdZvDaMnXEi5CSjrSBcAQEDBAEAAAABBUYh" ++
    codes "Az0WRzQ/SprO4ErMqiSU9xxAPeDEY5UaZBupHaD3lQ6KrSECMFiEZ+QAFFTsHh/JYOoFjvXKOXaz7P4VLfwp/AHS7eKsAAA=") ∷
    (codes "cHNidP8BAF4CAAAAAdZWyfCyoFd1z1mDTWRAccsxGcQAdhqyosmySAcpLOqsAAAAAAD+////AaAJAQAAAAAAIgAgOMn1GeX9WVtE" ++
    codes "MXGJS5u+mCNAeSmSiWZbs9bR0BD8/bnErgoAAAEBK4gNAQAAAAAAIgAgp60kfvJhpNA6u67P1loY9CWxHAsp27v6f/5l9Sq4Gfki" ++
    codes "AgKPGU6EngHMZLJgkMXUe//b2zkEAjyBephynNa0pIHlfUgwRQIhAO8gf58nFuhTCq2FU757djaNKrGXa4I1snkv2ZVqWuJvAiBQ" ++
    codes "YeTH/n65iw9wIAZ+4JJt5Dcdvyn8aSxOC95e6hgx6QEiAgLzGNL/IyGLK/S82A7kt5VY2rGiBQX1fxJdOLSoNEue7UgwRQIhALYr" ++
    codes "BpGcyjolkssWNRuhnPuFMqgq/9s3obw1Wlm1hUgJAiBLUyrE6rmQH0Zk7s9FO9h3YmjZF7XejFtHwcmbQLkl4AEBAwQBAAAAAQX1" ++
    codes "Y4J2YAIJAqVpa6ggOVdtmn7zoSvOGSSuTzUFlsiaYXyWkMbmoT1DwvbxnyqIgnZgAgkCpWlrqCBOmo24UKpMG6BsnG7xHI7sGHHP" ++
    codes "c6Ik7PXfu+6Bx2O0g4hsbAB5YJRSeWCUn2l1dSEDiAOA9P6R+sptszh/XJgcAv7g266SeOjc8uB2mxVFeQetIQI8JPzhAQIl/ZbF" ++
    codes "QH748G46W64ea480Se8ghWNLPhSLKaxnIQLzGNL/IyGLK/S82A7kt5VY2rGiBQX1fxJdOLSoNEue7a0hAo8ZToSeAcxksmCQxdR7" ++
    codes "/9vbOQQCPIF6mHKc1rSkgeV9rGgAAA==") ∷
    [])

abbrev pub pair_secrets : List ℕ
pair_secrets =
    lines (
    codes "secret a 202122232425262728292a2b2c2d2e2f303132" ∷
    codes "secret b 404142434445464748494a4b4c4d4e4f50" ∷
    [])

abbrev pub pair_hashes : List (ℕ × ℕ)
pair_hashes =
    (1525025410810552080, 0xa7ad247ef261a4d03abbaecfd65a18f425b11c0b29dbbbfa7ffe65f52ab819f9) ∷
    (10682283054988950824, 0x132245618dc37071bba2d48b6fd7d86593a1be038080867fc30e9ee74e84e88f) ∷
    (17840343444423183624, 0xd656c9f0b2a05775cf59834d644071cb3119c400761ab2a2c9b24807292ceaac) ∷
    (4080002374814135468, 0x2b77ed34389531cf320a30838e32ca944663c008992ac6983c7514ee9016fe41) ∷
    (18146190591450095071, 0x5711d5f0b6d1c529d1ebcfb201b7dd554e049f1a1915190c1c3d037e53c2283d) ∷
    (14376305522832806550, 0xd68892270a4358c723fefd6c3df811000689d276a7b15205c65037a41a989cce) ∷
    (16135954257557145446, 0xc992651ac89a97aecd0811c1761915a8e2c8f5153d1bdd994a789e6bd86ab717) ∷
    (15002833316487648573, 0x6f722eba4758f5455d0488eabc9afeddf8b1d04e0f24b1d786b15fdcc7775584) ∷
    (12673536896444449645, 0x0fc681c6f6ae97cbefe4f12c03b299121b91cc27a0874ece9856e0ce97801c11) ∷
    (1202423344377316575, 0x316318f1ef9075c9421d43f99f14a40db4899da4c5e818c3d62c41dcc86dafc5) ∷
    (13560207201682719539, 0x21c717f3043076e77c0054a3ea4c453ba0e9a12aecad61fa696c7c5f325edfe4) ∷
    (10369923382034193234, 0xe50213f6cea9199ead8a14469c525b070a777b7bf72b3917d7f6c9fd434fa73c) ∷
    (12391271893357690832, 0x06004b6265065009f4f9fd1bcb74ee5e24a54cf18f38e8044e8d43e53d4bb36d) ∷
    (15940804879542246790, 0x8e5c52cf51174920a20054981e7640f36676ed8a8063b96ae1ba1ffb5a72cd53) ∷
    (13280097371139877470, 0x2e9920316d16b3e965f41952d6165545ead92e3b41ab90914ba99b409bd5f7a8) ∷
    (11790513171690288120, 0xd5e03700a689eac57ef7c9cbaa4a08929b2276df362dbbbba3620486e1a10901) ∷
    (5407619046780401582, 0x1277f493c4af59b88b0627bd1cad66be26436cf60dc991e25f4b9aeb5af10e43) ∷
    (18187442055557506549, 0x12055021b79f842e3ae569cbd13c15e8b5896e6f0dda48ace54eb2b3ae4fc3ec) ∷
    (2293417020859008545, 0x3e8af17b6dead5bea8648d80f2a061fbb7ec81ddf0650ae779f98a073615be42) ∷
    (6005024990854087506, 0x7587afffb089b428aa7ef6041e3eaf65ab663b4eb7ce015a03fe7c499ce823ea) ∷
    (13747146142601463304, 0x39374ecbaeb31086c1e85cbaa9ca31ecc4d39b7f2a6c3ef93c0e42acbd241737) ∷
    (8044577453420532936, 0x0f8afa23deb7378d4cc4158e0b4fcc807735fb9b2eb2493f605207c52260f22d) ∷
    (11069300142689200027, 0x52da95043fe103fe7280cc2960dffb47dcb4298fd82c7c7a9d49717c7a4bca18) ∷
    (12765743297463862518, 0xf9846ffa61a7e2dc1a4b6cda9b4f01e5d6f25908451ef45d9ad880320140c713) ∷
    (3691551255371676412, 0x38c9f519e5fd595b443171894b9bbe98234079299289665bb3d6d1d010fcfdb9) ∷
    (4348091318204562766, 0xd8365346588d529638432ae979cbe390eac98b628f035a86a1565f7f7bb26b2b) ∷
    (3671443688950216399, 0xfee1d2fcfae2c42967596240c3cf70ca0d89210de9a0b6abaa3ad62eb869f0ab) ∷
    (10692640148055203243, 0x99fc749955a6d5a2834370fede6b570d12f2c4fd816c6b68f9f049e2cbfcce38) ∷
    (13328499482238412891, 0x4f03af0a641ec0559196f0654a48fae19cf650f4f4efc0135893dc9b0e29d32a) ∷
    (5040092498882930355, 0xb4248c210a2905b94345e1a8414d0e12efcfb2f4f0f2397159a71283397a0ccd) ∷
    (204552439812090982, 0x18606b350cd8bf565266bc352f0caddcf01e8fa789dd8a15386327cf8cabe198) ∷
    (9834103264603250827, 0x86733d21e43b3b36185b6daf5838792d2d10c6ff67b495e195fb774d3e2b250f) ∷
    (17152936774807065240, 0xfdfbb97f1b22a4f79ca49f720010012bcdc151225d4b39d1e7164107568ec1a2) ∷
    (11189991958462482480, 0xef71037e51972512c95d26ae4fe96db2a1bfd85b654de7e56b1c566fd7508f39) ∷
    (15632733436141989313, 0x9940d12a1cb59adf812c36c3ee220fa3ec4d74545f14006b378f1b32ef648f06) ∷
    (6558142529868055964, 0x076705a75ffb1e15fd59f6bf04fd96e54380a076cbf08756ac3adc58d7c7b3dd) ∷
    (8277224039696608363, 0x0180db4545a4f7742ba27c42e545338d528087bbf023fe47c4c129133114e1c1) ∷
    (10384444324840130118, 0x65e2336a6f4e371673e6cea9eb8fdf3ac568ed7052c90d5b47d15b7578328012) ∷
    (13531722333711820986, 0xa892a638f320ae8cb2b9fef34bc92444b038e64cb5c9c5399adbf1f1d4467a5f) ∷
    (8834780204714375174, 0x0b0526b611b7c09fc030be73327d7e0fb5d7388c4654589e9d2a2b25de573fe7) ∷
    (8972086741739634090, 0xa89d02c13d18e14fcfed56242bcaf21288fa488cb1a918344ff06134c9915fe6) ∷
    (12522615707000040230, 0xfe9a2323671e32692356f0a7678848ab9e4a46f494d445c54370cb7b53360bd0) ∷
    (17204862456070874933, 0xdb9a5ed1a93c61bac9dc977f694afa380a3f5ea84cda8d554318df4e5b5ebfe9) ∷
    (10218227868334287480, 0x697c1a1f642d9dc9f320298a15a6c24c3cf1f2c6931ab893fc4f3a1c721f3d5f) ∷
    (3255290233572858880, 0x4e9a8db850aa4c1ba06c9c6ef11c8eec1871cf73a224ecf5dfbbee81c763b483) ∷
    (10339042960582648519, 0x39576d9a7ef3a12bce1924ae4f350596c89a617c9690c6e6a13d43c2f6f19f2a) ∷
    []

-- A branch that puts a deposit and reveals two secrets: both signatures of the position's input, the last first, then the secrets, the last
-- first, the selector and the script; the signature and script of what is put.
abbrev pub FinishedDealExists : Type 0
FinishedDealExists =
    deal_replies accepting (sha_of pair_hashes) (codes "finish" ∷ codes "pair.bitml" ∷ codes "pair.deal" ∷ codes "r.0" ∷ codes "pair.signatures" ∷ codes "pair.secrets" ∷ [])
    ((codes "pair.bitml", pair_bitml) ∷ (codes "pair.deal", pair_deal) ∷ (codes "pair.signatures", pair_signatures) ∷ (codes "pair.secrets", pair_secrets) ∷ [])
    ≡ prints 0 (lines (
    (codes "02000000000102d656c9f0b2a05775cf59834d644071cb3119c400761ab2a2c9b24807292ceaac0000000000feffffff2741" ++
    codes "a5ed2cb9e7266d0df1368c2bb05f2571829cd2fc5492b72158ab1c9ac38b0200000000feffffff01d07e0100000000002200" ++
    codes "208e5c52cf51174920a20054981e7640f36676ed8a8063b96ae1ba1ffb5a72cd530647304402202e3a37d652221d1285ff55" ++
    codes "21ea62b1b3e0191be1ee99b1c9e19ccd1cdfae802d022069c569a09a4bdf030fc6d83d6a097a12ea56bca68df7dbab5e82f9" ++
    codes "1690aa6bb101483045022100a30b32c561892f4fa909be55ca47a4381aa28d900666508db25e7520cb37a21902206efc201c" ++
    codes "6b6d3c373f1c3a18fe6d7c13edbd416c3248733842342eb531a1046c0113202122232425262728292a2b2c2d2e2f30313211" ++
    codes "404142434445464748494a4b4c4d4e4f500101f563827660020902a5696ba82039576d9a7ef3a12bce1924ae4f350596c89a" ++
    codes "617c9690c6e6a13d43c2f6f19f2a88827660020902a5696ba8204e9a8db850aa4c1ba06c9c6ef11c8eec1871cf73a224ecf5" ++
    codes "dfbbee81c763b483886c6c00796094527960949f6975752103880380f4fe91faca6db3387f5c981c02fee0dbae9278e8dcf2" ++
    codes "e0769b15457907ad21023c24fce1010225fd96c5407ef8f06e3a5bae1e6b8f3449ef2085634b3e148b29ac672102f318d2ff" ++
    codes "23218b2bf4bcd80ee4b79558dab1a20505f57f125d38b4a8344b9eedad21028f194e849e01cc64b26090c5d47bffdbdb3904" ++
    codes "023c817a98729cd6b4a481e57dac6802483045022100c66ff8d77102279d0814bbce54b6d2351d66f167194f873c6b5d90e3" ++
    codes "8c74e505022015d258375a8bc962fa317bec6b443f77a930519e15c0ca174501227a2e9691bb01232103ba15c3d41f9a0004" ++
    codes "b4f0e9f93716dc85ab600a158e90d0639f364ab04c766f21ac00000000") ∷
    []))
