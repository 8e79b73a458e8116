-- A deal file that is refused for each reason: what it says, and what the program prints.
use Rattle.std.specs.Prelude.{◌≡◌, ℕ, List, [], ◌∷◌, ◌++◌, codes, replicate}
use Rattle.spec_tool.specs.Commands.{prints}
use Rattle.spec_deal.specs.Verifier.{secp256k1}
use Rattle.theory_values.specs.Replies.{lines, sha_of}
use Rattle.theory_deal_values.specs.Replies.{program_replies}
use Rattle.theory_deal_values.specs.SmallDeals.{one_bitml, one_deal, one_hashes, secret_bitml}

-- to this contract and this deal file `plan` says with status 13 that it is refused so
abbrev pub Refuses : List (ℕ × ℕ) → List ℕ → List ℕ → List ℕ → Type 0
Refuses hashes contract deal line =
    program_replies secp256k1 (sha_of hashes) (codes "plan" ∷ codes "contract" ∷ codes "deal" ∷ []) ((codes "contract", contract) ∷ (codes "deal", deal) ∷ [])
    ≡ prints 13 (line ++ 10 ∷ [])

abbrev pub circle_bitml : List ℕ
circle_bitml =
    lines (
    codes "{A:! 50000 @ x | B:! 20000 @ y | B:? 30000 @ z} fee 1000 (put z . withdraw A + after 700100 : withdraw A)" ∷
    [])

abbrev pub circle_deal : List ℕ
circle_deal =
    lines (
    codes "key D:A 03913ffe7036ec1cefec5d4589d0c2e8e7b6a300c97e0a106cd9624f149bcda7f5" ∷
    codes "key D:B 03ba15c3d41f9a0004b4f0e9f93716dc85ab600a158e90d0639f364ab04c766f21" ∷
    codes "key B:0:r.0:A 03880380f4fe91faca6db3387f5c981c02fee0dbae9278e8dcf2e0769b15457907" ∷
    codes "key B:0:r.0:B 023c24fce1010225fd96c5407ef8f06e3a5bae1e6b8f3449ef2085634b3e148b29" ∷
    codes "key B:0:r.0.0:A 033d1647343f4a9acee04accaa2494f71c403de0c463951a641ba91da0f7950e8a" ∷
    codes "key B:0:r.0.0:B 0230588467e4001454ec1e1fc960ea058ef5ca3976b3ecfe152dfc29fc01d2ede2" ∷
    codes "key B:0:r.1:A 02f318d2ff23218b2bf4bcd80ee4b79558dab1a20505f57f125d38b4a8344b9eed" ∷
    codes "key B:0:r.1:B 028f194e849e01cc64b26090c5d47bffdbdb3904023c817a98729cd6b4a481e57d" ∷
    codes "deposit x c7d1ca1a29278ff9aa4d23bed0d2f777b570582f3a1ff735b4272fdeb4707691 0" ∷
    codes "deposit y 6b8fae22b3d8cef3f23d00741edc38e743d3830b33a353976f6a5fea9172aae2 1" ∷
    codes "deposit z 5c0e6caa01c1828792f95d11cc983b1bf4ab01dc08c88325565e6b49c2b87579 0" ∷
    [])

abbrev pub circle_hashes : List (ℕ × ℕ)
circle_hashes =
    (3190265000729283605, 0xd24d06c834ed888e8bfe41fcf027ee4bdd2e9ca14b6b04ff2432df2b3dec0819) ∷
    (1230108295213107197, 0x5c80841bb8eec655344fe3eebb41b250b2c06699147c7cbac2cba0786bf654ce) ∷
    (16673361320222251401, 0x7975b8c2496b5e562583c808dc01abf41b3b98cc115df9928782c101aa6c0e5c) ∷
    (4080002374814135468, 0x2b77ed34389531cf320a30838e32ca944663c008992ac6983c7514ee9016fe41) ∷
    (18146190591450095071, 0x5711d5f0b6d1c529d1ebcfb201b7dd554e049f1a1915190c1c3d037e53c2283d) ∷
    (14376305522832806550, 0xd68892270a4358c723fefd6c3df811000689d276a7b15205c65037a41a989cce) ∷
    (16135954257557145446, 0xc992651ac89a97aecd0811c1761915a8e2c8f5153d1bdd994a789e6bd86ab717) ∷
    (13135251493248606658, 0x2d7f93e2f65de702b4ea03327e421a9f7ebc8201b3d1b09d91f3d28d27af7418) ∷
    (5694764625166594304, 0xc03a7d7970bac0bd4364ff31b84b064eaa52c716b4e9aa302ec965c3a80a3027) ∷
    (2885904900409698856, 0xe241be401712d228b3eead05d88d9d14bfddb1115f9cb0f230f8836fbb9f75c1) ∷
    (13116954641524620138, 0xbb033633c1ce6f90387323f952f13e5f5c4b0d04a237872873c4d75d57b50ad9) ∷
    (12053404938066575515, 0x5a7afec06798310a054f03e06326c859e53a675114228124abfc9f714cd2284b) ∷
    (18170973713426059263, 0x81fc6f4d74876bae54ece6b868cde5ca52bec75f9d9709d58fe1ec80dc937f85) ∷
    (15940804879542246790, 0x8e5c52cf51174920a20054981e7640f36676ed8a8063b96ae1ba1ffb5a72cd53) ∷
    (9137829500134412364, 0xa4811283d3eb7e129e98c4bc540a1869ebffd563ab5353464c89af02ae56b392) ∷
    (17021992909611378969, 0xeee0468fa9952a73987a8c468b59ce6dca3e67c692b2e61d6ee3d21205d69a40) ∷
    (12000681939947714340, 0xf4e168f17d207837f7983991fd11f106d25e6fab126ae94c77b1fc8c53213b85) ∷
    (14253918578790822031, 0x9b343c278492f3333afce3dc6c19ed9b52b47f8d402eb84835e02909a258af53) ∷
    (2293417020859008545, 0x3e8af17b6dead5bea8648d80f2a061fbb7ec81ddf0650ae779f98a073615be42) ∷
    (6005024990854087506, 0x7587afffb089b428aa7ef6041e3eaf65ab663b4eb7ce015a03fe7c499ce823ea) ∷
    (8073995675311178071, 0xb3ff9f24035e0419692c25feb67ba24e377b46097346e841713ccf5a9eff57ea) ∷
    (14447270585710080579, 0xafe6af2b1245b46d4b85a930e50e954c52ad1fec2635603d12b62d3ede90a60e) ∷
    (8640222109007762481, 0xad9d267a0e37dec8607422c61567bd6b5fc06f55d65c2c27b005f9533cd51ea4) ∷
    (17195460439363100009, 0x67154158ff5d84c57f19448d9db958c3675f767e2315c3f5cd531af99941c4a4) ∷
    (3691551255371676412, 0x38c9f519e5fd595b443171894b9bbe98234079299289665bb3d6d1d010fcfdb9) ∷
    (17740270149969989214, 0xf03e54f3c0443d435c0cdb5a1b8721ca850d78060aa49f18b0719843eeca3180) ∷
    (1392646256811743665, 0x9b165e33ed642f7d05b59d534230f1194312d69c9f007368b099342d8377e01f) ∷
    (7037299536188603387, 0x79fd2cbf606f19fbd88ec0f16606c6bde8c7d7292330776b39500f5eb200b791) ∷
    (513153215403618718, 0x68ef882c677f65f847bfd422355e66f751cf03d9b54562be528d4602e537cd72) ∷
    (5040092498882930355, 0xb4248c210a2905b94345e1a8414d0e12efcfb2f4f0f2397159a71283397a0ccd) ∷
    (204552439812090982, 0x18606b350cd8bf565266bc352f0caddcf01e8fa789dd8a15386327cf8cabe198) ∷
    (9834103264603250827, 0x86733d21e43b3b36185b6daf5838792d2d10c6ff67b495e195fb774d3e2b250f) ∷
    (17152936774807065240, 0xfdfbb97f1b22a4f79ca49f720010012bcdc151225d4b39d1e7164107568ec1a2) ∷
    (4210445611137788981, 0x9478b5961c5c2ed9a480a6fc9a7b5585ad86bb51a063830bdd42fa1fcd6f848b) ∷
    (2415206746335366306, 0x734edaa184d475f34cd3304d2605b182205b60e31d2f73945d840c0006169860) ∷
    (11425007419777279592, 0xee63b6198f6349d3de918621a670ea052f40b30406df3c896747157c0155937b) ∷
    (857049186010883452, 0x9d5f1a80d7893c532e2e059d756037625234f5e53197b9deb2af21faf0cbcfda) ∷
    (12459635016240226562, 0x4f8d074d9b440f2f571a7261e94061961cb8fc6c5654c9c566ef11899387d21d) ∷
    (2138497782589539781, 0x88e1a147e4ae2c4e344fcdce3d21c7a2cfd79744df04e32939a7a6aac73b167b) ∷
    (8834780204714375174, 0x0b0526b611b7c09fc030be73327d7e0fb5d7388c4654589e9d2a2b25de573fe7) ∷
    (8972086741739634090, 0xa89d02c13d18e14fcfed56242bcaf21288fa488cb1a918344ff06134c9915fe6) ∷
    (15040764904857642685, 0xf0286bc413c3fba1a32e3dabd9631c432fc7a2f15239902655f4cf9488b3e9fd) ∷
    (6479834553034333340, 0x41c43925e16ce1b001079511f6753b69611e1475860c02a83a100d375a80d2b3) ∷
    []

abbrev pub pays_hashes : List (ℕ × ℕ)
pays_hashes =
    (1036274438926223542, 0xde0dd1cab63729151f3795efacf554fefe43bfa2fa606e6ca2bc471ba90909a9) ∷
    (7097232203985321870, 0xba7ce1a585f682f95c27e5dc30e70795007fd676d34d82795dd1fdd1b3052d43) ∷
    (835695501073600791, 0x3327324c2193716f09ab7993f3bdc1dec708e9ece108071dcb1195a7604bab2a) ∷
    (15187843044020192836, 0x8cfad6b1f5c62cb67b91da930039cec1a0aa7202753736571194f51de89bc13b) ∷
    (3853960291655568512, 0xd3d0eea99d77bb0ab1ce4896ac4ad709d09f81ddd4218c2d4b2376e43414aa7d) ∷
    (5040092498882930355, 0xb4248c210a2905b94345e1a8414d0e12efcfb2f4f0f2397159a71283397a0ccd) ∷
    (204552439812090982, 0x18606b350cd8bf565266bc352f0caddcf01e8fa789dd8a15386327cf8cabe198) ∷
    (11061800839734769446, 0xb40552e11782d7f6f21b82610fd66491e17db00fedac01155b43047b7e653f0d) ∷
    (3905210748132171836, 0x5c65bf99d38f59eeb4bcd5a18f61193b45bf25c886381c72121190b7d476080c) ∷
    (12358556445809014664, 0x0837869bb3c6571dd3200a3c75d6275ef0aea0a0a980d9f6cf414bdacfd7a791) ∷
    (15977958629578005499, 0x1f8523b2fcda66a2ba3d9862049ad3658616ab5b91569a90b6cf569660492ab5) ∷
    (408383401505500222, 0xe464b4bff23d8cd47e51b137feb000327782b440d2d6b6df425bea85137444aa) ∷
    (14902465210309119376, 0xe300833db5901e4cbb3e803018bffee9c21292102faa9b2a48d9b978225e7f0c) ∷
    (14622224420326557440, 0x94bbeb117a400554207ca2c4a56d9842cd2cf447fe1998bc70ab9b2b2547a806) ∷
    (12486660610860327398, 0x775fc5ffac648280bcb890d3f617c238ffd51d904900043a079f313b5d8bc979) ∷
    (4805117456975839946, 0x1771799046eb6530395584305927c942c0f45bef537f2d6014302f67b8c66979) ∷
    (2509724372351972335, 0x26c43f03b150d09c5251e884ccb034480776d676d02de4873edf0b219afa75f7) ∷
    (4423813389249797005, 0x2f52b05681f05c7bf097b2688592bc5b25a830d84c1e22151ba9b61ba9127b08) ∷
    (8958704453497887531, 0x99145a36b051e3da922b1a86401170ad7d2eefadaef807c80ac2ea2ef679f946) ∷
    []

pub record DealFilesAreRefused : Type 0 where
  -- a byte more than it may have
  pub size : Refuses one_hashes one_bitml (replicate 8388609 10) (codes "deal refused size")
  -- a first word of no line
  pub form : Refuses one_hashes one_bitml (lines (codes "Key D:A 03913ffe7036ec1cefec5d4589d0c2e8e7b6a300c97e0a106cd9624f149bcda7f5" ∷ [])) (codes "deal refused line 1 form")
  -- a branch that the contract hasn't, which comes before its key
  pub foreign : Refuses one_hashes one_bitml (lines (codes "key B:0:r.9:A .." ∷ [])) (codes "deal refused line 1 foreign")
  -- no point of the curve
  pub value : Refuses one_hashes one_bitml (lines (codes "key D:A 020000000000000000000000000000000000000000000000000000000000000005" ∷ [])) (codes "deal refused line 1 value")
  -- the same line again
  pub repeated : Refuses one_hashes one_bitml (lines (codes "key D:A 03913ffe7036ec1cefec5d4589d0c2e8e7b6a300c97e0a106cd9624f149bcda7f5" ∷ codes "key D:A 03913ffe7036ec1cefec5d4589d0c2e8e7b6a300c97e0a106cd9624f149bcda7f5" ∷ [])) (codes "deal refused line 2 repeated 1")
  -- one key for two labels
  pub shared : Refuses one_hashes one_bitml (lines (codes "key D:A 03913ffe7036ec1cefec5d4589d0c2e8e7b6a300c97e0a106cd9624f149bcda7f5" ∷ codes "key B:0:r.0:A 03913FFE7036EC1CEFEC5D4589D0C2E8E7B6A300C97E0A106CD9624F149BCDA7F5" ∷ [])) (codes "deal refused line 2 shared 1")
  -- nothing is given
  pub missing_key : Refuses one_hashes one_bitml [] (codes "deal refused missing key D:A")
  -- keys alone
  pub missing_deposit : Refuses one_hashes one_bitml (lines (codes "key D:A 03913ffe7036ec1cefec5d4589d0c2e8e7b6a300c97e0a106cd9624f149bcda7f5" ∷ codes "key B:0:r.0:A 03880380f4fe91faca6db3387f5c981c02fee0dbae9278e8dcf2e0769b15457907" ∷ [])) (codes "deal refused missing deposit x")
  -- no hash of a secret
  pub missing_hash : Refuses one_hashes secret_bitml (lines (codes "key D:A 03913ffe7036ec1cefec5d4589d0c2e8e7b6a300c97e0a106cd9624f149bcda7f5" ∷ codes "key B:0:r.0:A 03880380f4fe91faca6db3387f5c981c02fee0dbae9278e8dcf2e0769b15457907" ∷ codes "key B:0:r.0.0:A 033d1647343f4a9acee04accaa2494f71c403de0c463951a641ba91da0f7950e8a" ∷ codes "deposit x c7d1ca1a29278ff9aa4d23bed0d2f777b570582f3a1ff735b4272fdeb4707691 0" ∷ [])) (codes "deal refused missing hash a")
  -- a deposit that the deal itself makes
  pub circular : Refuses circle_hashes circle_bitml circle_deal (codes "deal refused circular z")
  -- a payout to the position r
  pub circular_payout : Refuses pays_hashes one_bitml ((lines (codes "pay A 0020de0dd1cab63729151f3795efacf554fefe43bfa2fa606e6ca2bc471ba90909a9" ∷ [])) ++ one_deal) (codes "deal refused circular A")
