-- Calls that are refused before a file of signatures is read, or since something is missing: the files, and what the program prints.
use Rattle.std.specs.Prelude.{◌≡◌, ℕ, List, [], ◌∷◌, ◌++◌, codes, ◌+◌, ◌%◌, fold, replicate}
use Rattle.spec_tool.specs.Commands.{Printed, prints}
use Rattle.spec_deal.specs.Verifier.{Verifier, secp256k1}
use Rattle.theory_values.specs.Replies.{lines, sha_of}
use Rattle.theory_deal_values.specs.Replies.{program_replies}
use Rattle.theory_deal_values.specs.SmallDeals.{one_bitml, one_deal, one_init, one_branch, one_hashes, bet_bitml, bet_deal, bet_branch, bet_hashes}

-- a hash that adds up bytes
abbrev pub summed : List ℕ → List ℕ
summed message = (fold ◌+◌ 0 message) % 256 ∷ replicate 31 0

-- `plan`, by this hash of these files
abbrev pub plan_replies : (List ℕ → List ℕ) → List (List ℕ × List ℕ) → Printed
plan_replies hash there = program_replies secp256k1 hash (codes "plan" ∷ codes "contract" ∷ codes "deal" ∷ []) there

-- to these signatures of the smallest deal `finish` says with status 16 that the transaction of this name can't be finished, by this judge
-- of signatures
abbrev pub RefusesBy : Verifier → List ℕ → List ℕ → List ℕ → Type 0
RefusesBy v which signatures line =
    program_replies v (sha_of one_hashes) (codes "finish" ∷ codes "contract" ∷ codes "deal" ∷ which ∷ codes "signatures" ∷ [])
    ((codes "contract", one_bitml) ∷ (codes "deal", one_deal) ∷ (codes "signatures", signatures) ∷ [])
    ≡ prints 16 (line ++ 10 ∷ [])

-- the bet with the hash of a string that is a byte too long, its signatures of the branch that reveals it, and the string
abbrev pub long_deal : List ℕ
long_deal =
    lines (
    codes "key D:A 03913ffe7036ec1cefec5d4589d0c2e8e7b6a300c97e0a106cd9624f149bcda7f5" ∷
    codes "key D:B 03ba15c3d41f9a0004b4f0e9f93716dc85ab600a158e90d0639f364ab04c766f21" ∷
    codes "key B:0:r.0:A 03880380f4fe91faca6db3387f5c981c02fee0dbae9278e8dcf2e0769b15457907" ∷
    codes "key B:0:r.0:B 023c24fce1010225fd96c5407ef8f06e3a5bae1e6b8f3449ef2085634b3e148b29" ∷
    codes "key B:0:r.0.0:A 033d1647343f4a9acee04accaa2494f71c403de0c463951a641ba91da0f7950e8a" ∷
    codes "key B:0:r.0.0:B 0230588467e4001454ec1e1fc960ea058ef5ca3976b3ecfe152dfc29fc01d2ede2" ∷
    codes "key B:0:r.1:A 02f318d2ff23218b2bf4bcd80ee4b79558dab1a20505f57f125d38b4a8344b9eed" ∷
    codes "key B:0:r.1:B 028f194e849e01cc64b26090c5d47bffdbdb3904023c817a98729cd6b4a481e57d" ∷
    codes "deposit x c7d1ca1a29278ff9aa4d23bed0d2f777b570582f3a1ff735b4272fdeb4707691 0" ∷
    codes "deposit y 6b8fae22b3d8cef3f23d00741edc38e743d3830b33a353976f6a5fea9172aae2 1" ∷
    codes "hash a 9273c71a1684e59d09eef50138d2475fdfdc1e85460eeaeb7e8eb9a5ad109271" ∷
    [])

abbrev pub long_branch : List ℕ
long_branch =
    lines (
    (codes "cHNidP8BAF4CAAAAAT+LVdnCeB0WugkIK05uoVXUtDjdOByO+pyoCSQoxlSrAAAAAAD+////AfDMAQAAAAAAIgAgjlxSz1EXSSCi" ++
    codes "AFSYHnZA82Z27YqAY7lq4bof+1pyzVMAAAAAAAEBK9jQAQAAAAAAIgAg091sGdcbuwvS6uT76JmndWd/espuMPzZHXaUiPiU0vki" ++
    codes "AgI8JPzhAQIl/ZbFQH748G46W64ea480Se8ghWNLPhSLKUgwRQIhAPfXsT7NhU9OL0n515lZJUwbLpvGQNT0TPoD+pfH5Cl9AiBo" ++
    codes "MIrwBW4WM5BwMsIABe5dqM693c6omOYTWyNbR8mkwwEiAgOIA4D0/pH6ym2zOH9cmBwC/uDbrpJ46Nzy4HabFUV5B0cwRAIgTTee" ++
    codes "yvXkBChpzpIJNZSKc5YarDZaxb6pTGQN4VsKrg8CIHhe6w1yEMY2k3gf5O9tAIDh46VDLiEYM037jGVaU+Y0AQEDBAEAAAABBcRj" ++
    codes "gnZgAgkCpWlrqCCSc8caFoTlnQnu9QE40kdf39wehUYO6ut+jrmlrRCScYhsAHlglFOfaXUhA4gDgPT+kfrKbbM4f1yYHAL+4Nuu" ++
    codes "knjo3PLgdpsVRXkHrSECPCT84QECJf2WxUB++PBuOluuHmuPNEnvIIVjSz4UiymsZyEC8xjS/yMhiyv0vNgO5LeVWNqxogUF9X8S" ++
    codes "XTi0qDRLnu2tIQKPGU6EngHMZLJgkMXUe//b2zkEAjyBephynNa0pIHlfaxoAAA=") ∷
    [])

abbrev pub long_secrets : List ℕ
long_secrets =
    lines (
    codes "secret a 00112233445566778899aabbccddeeff010203" ∷
    [])

abbrev pub long_hashes : List (ℕ × ℕ)
long_hashes =
    (968049039454773307, 0xd3dd6c19d71bbb0bd2eae4fbe899a775677f7aca6e30fcd91d769488f894d2f9) ∷
    (16772227559252646063, 0x8932a7c837dc3188404487108735dc99b0064584be108e065dd0a2562d02c455) ∷
    (14053464364506798196, 0x3f8b55d9c2781d16ba09082b4e6ea155d4b438dd381c8efa9ca8092428c654ab) ∷
    (4080002374814135468, 0x2b77ed34389531cf320a30838e32ca944663c008992ac6983c7514ee9016fe41) ∷
    (18146190591450095071, 0x5711d5f0b6d1c529d1ebcfb201b7dd554e049f1a1915190c1c3d037e53c2283d) ∷
    (14376305522832806550, 0xd68892270a4358c723fefd6c3df811000689d276a7b15205c65037a41a989cce) ∷
    (16135954257557145446, 0xc992651ac89a97aecd0811c1761915a8e2c8f5153d1bdd994a789e6bd86ab717) ∷
    (14131541965663870292, 0x750b1f443be0b8d927632aa9165fe9fa3cd28e1d63527609a518d3f1ae8872c9) ∷
    (10673797448384137563, 0xc27de588b2abbe0ed7ed0553f4db4b0373434e6546023daf2d82c814596e48c3) ∷
    (5228569874487068207, 0x885de2e65d4b3a877040feb1f0133a6abd62c66d7204dba7dadbd9a490398687) ∷
    (15761838977028598430, 0x3f74cd7d1470e2373a6ca91f9dcff51a14913c5e743e71897828ab6f5c13f9e6) ∷
    (10275780490490275690, 0xee5569378c6e64a840ded5bdbfd76f8c2423571d38a35c8c3111e5868d21843e) ∷
    (10098744454363506317, 0xae3d40ba1ac11a8d7d6b3bf14c84258d5558813f6b5b5d44e96c9a225a6d6b50) ∷
    (15940804879542246790, 0x8e5c52cf51174920a20054981e7640f36676ed8a8063b96ae1ba1ffb5a72cd53) ∷
    (16799956344533967775, 0x9b993d6a8aac6878a8704da6b8ab3a8d5ddb8438cdd4ad3a3dc9210fe58bbf26) ∷
    (2331688960330566869, 0x2a12156b0531151c0adcce88de006fba624b7baf0387c3026ab42382f85ea808) ∷
    (2930276755002036340, 0x1c057d4e2e6eb548bc558542ee3df229efe6c7912d1a804c61773b462bc01d45) ∷
    (17442500385410794393, 0x812ebd6be3f9548c012d5abfff68a24c37b9def5cb52ec0838ecb9a86b95b581) ∷
    (5040092498882930355, 0xb4248c210a2905b94345e1a8414d0e12efcfb2f4f0f2397159a71283397a0ccd) ∷
    (204552439812090982, 0x18606b350cd8bf565266bc352f0caddcf01e8fa789dd8a15386327cf8cabe198) ∷
    (7130754649290878647, 0xec972f9ecf256918a69c06804f5bd939563c02a0b5b0079e8a3c4fe89d17f4b6) ∷
    (10003731649463509742, 0xe1ded042f29b9bd6e93fd498ab65a52dee1f7d88a3d57de6ff70633439a3cefe) ∷
    (16058895739561605703, 0xb339ac7c4eb88d2049deafa96e2d49a66a719f7d735c1ab6d92f3078afdf95fa) ∷
    (11604625314340237411, 0x9e53c7664ce0f928a6bcde4b48b75e3fcc09e864b4ec5b52fc8c85469bcf8705) ∷
    (3691551255371676412, 0x38c9f519e5fd595b443171894b9bbe98234079299289665bb3d6d1d010fcfdb9) ∷
    (1415246876159394119, 0x17227c6c3c47c3914643efad7f520d5669571db5f19426251d91f6d962c1c564) ∷
    (10947687096252824612, 0xd1e86bbf4001a296ce2d930779c7ed96e7791d9ea711317384d849a8b82d2776) ∷
    (11811622092484971657, 0x83a3d0e307fb29d452012e7d74be14c5a8d0f91caf25db7d6225b3519aa6b8cd) ∷
    (2165134201061788726, 0x34f3f6f679aaa9ac064287384a04cf929d961f364c93a93632cfadf7ece9d2d0) ∷
    (1032629611570274414, 0xd122247859e1662a3799c760f6e52b79c7388947b39b7b93d4f6bf110a4e6be2) ∷
    (9616796591008842317, 0x2925c6aec092fb9f400da1f8b0a5ca48bdeb3224a990844a707aafb83e5bee5b) ∷
    (2775175008554516849, 0x05926b6bdbb49499d81a69e936fd2157e4dedf557ed513eab90818a10ddbe9ab) ∷
    (385466708217704100, 0x9e614b0fb6d180082397648860268d474707de11b9742c7714d2e290a7ba8294) ∷
    (10218227868334287480, 0x697c1a1f642d9dc9f320298a15a6c24c3cf1f2c6931ab893fc4f3a1c721f3d5f) ∷
    (8513069729232508035, 0xe11c1f7b2c40cf59491cf39fcdb9dd822e1245ecb23561c4f285492b52c27121) ∷
    (8912039281618344065, 0x19f741c8bd3bd87d5d79e6cd1a35bad5dd44c1356ca70914828d6f76eed9e997) ∷
    (13872308701783029083, 0x248d010701efdd1ba2443ce815cfe4286959a275d3c57cd55df5711e900b01e6) ∷
    (11056804671307967812, 0xb606856e4ece32a625d1a9f28a393afd6abfcf86fa51d4225e90f32ad54de89d) ∷
    (2512294064489911634, 0xb353b04a781187d3e01c06036827ff7ac962c382e6258058ef032865e421ba28) ∷
    (7979782375609086281, 0x82638b9a158467874b33903244ece7ad733e934e2677d439d9226282ceca547c) ∷
    (3815476066323821639, 0x9273c71a1684e59d09eef50138d2475fdfdc1e85460eeaeb7e8eb9a5ad109271) ∷
    []

pub record CallsAreRefused : Type 0 where
  -- words that are no command
  pub usage : program_replies secp256k1 (sha_of one_hashes) (codes "sign" ∷ codes "contract" ∷ codes "deal" ∷ []) [] ≡ prints 2 (codes "usage" ++ 10 ∷ [])
  -- no deal file is there
  pub unread : plan_replies (sha_of one_hashes) ((codes "contract", one_bitml) ∷ []) ≡ prints 3 []
  -- the contract pays a party that has no deposit
  pub contract : plan_replies (sha_of one_hashes) ((codes "contract", codes "{A:! 1 @ x} withdraw B") ∷ (codes "deal", one_deal) ∷ []) ≡ prints 1 (codes "contract 0 refused fault 6 NoPersistent B" ++ 10 ∷ [])
  -- two strings of the deal have one digest
  pub collided : plan_replies summed ((codes "contract", one_bitml) ∷ (codes "deal", one_deal) ∷ [])
      ≡ prints 8 (lines (
      (codes "collided 0200000001917670b4de2f27b435f71f3a2f5870b577f7d2d0be234daaf98f27291acad1c70000000000fefffff" ++
      codes "f01b882010000000000220020fd0000000000000000000000000000000000000000000000000000000000000000000000 f9" ++
      codes "00000000000000000000000000000000000000000000000000000000000000") ∷
      []))

-- the bet is short of its secret
abbrev pub LacksSecretBy : Verifier → Type 0
LacksSecretBy v =
    program_replies v (sha_of bet_hashes) (codes "finish" ∷ codes "contract" ∷ codes "deal" ∷ codes "r.0" ∷ codes "signatures" ∷ [])
    ((codes "contract", bet_bitml) ∷ (codes "deal", bet_deal) ∷ (codes "signatures", bet_branch) ∷ [])
    ≡ prints 16 (codes "refused secret a" ++ 10 ∷ [])

-- it has a string that is too long
abbrev pub IsTooLongBy : Verifier → Type 0
IsTooLongBy v =
    program_replies v (sha_of long_hashes)
    (codes "finish" ∷ codes "contract" ∷ codes "deal" ∷ codes "r.0" ∷ codes "signatures" ∷ codes "secrets" ∷ [])
    ((codes "contract", bet_bitml) ∷ (codes "deal", long_deal) ∷ (codes "signatures", long_branch) ∷ (codes "secrets", long_secrets) ∷ [])
    ≡ prints 16 (codes "refused predicate" ++ 10 ∷ [])

pub record TransactionsAreRefused : Type 0 where
  -- the contract has no such branch
  pub path : RefusesBy secp256k1 (codes "r.7") [] (codes "refused path r.7")
  -- the initial transaction is signed before its branch
  pub endorsement : RefusesBy secp256k1 (codes "init") one_init (codes "refused endorsement r.0 A")
  -- the branch alone is signed
  pub signature : RefusesBy secp256k1 (codes "init") one_branch (codes "refused signature 0 D:A")
  -- a branch that reveals, without a file of secrets
  pub secret : LacksSecretBy secp256k1
  -- a string that is too long
  pub predicate : IsTooLongBy secp256k1
  -- nothing is signed
  pub ready : program_replies secp256k1 (sha_of one_hashes) (codes "ready" ∷ codes "contract" ∷ codes "deal" ∷ codes "signatures" ∷ [])
      ((codes "contract", one_bitml) ∷ (codes "deal", one_deal) ∷ (codes "signatures", []) ∷ [])
      ≡ prints 16 (lines (codes "warnings 0" ∷ codes "init not endorsed r.0 A" ∷ []))

-- where both signatures are there, it is finished, to the bytes that a node takes, by this judge of signatures
abbrev pub FinishesBy : Verifier → Type 0
FinishesBy v =
    program_replies v (sha_of one_hashes) (codes "finish" ∷ codes "contract" ∷ codes "deal" ∷ codes "init" ∷ codes "signatures" ∷ [])
    ((codes "contract", one_bitml) ∷ (codes "deal", one_deal) ∷ (codes "signatures", one_init ++ one_branch) ∷ [])
    ≡ prints 0 (lines (
    (codes "02000000000101917670b4de2f27b435f71f3a2f5870b577f7d2d0be234daaf98f27291acad1c70000000000feffffff01b8" ++
    codes "82010000000000220020de0dd1cab63729151f3795efacf554fefe43bfa2fa606e6ca2bc471ba90909a90247304402207118" ++
    codes "2d8233ea50481a98e243aea81371a60a2db7d9b85c24faa69d81735c91020220456aefd2fc0daeb0b91ed24f53de0eaf3570" ++
    codes "aa9920b6c468e69f6a10a38ba57001232103913ffe7036ec1cefec5d4589d0c2e8e7b6a300c97e0a106cd9624f149bcda7f5" ++
    codes "ac00000000") ∷
    []))

-- by the curve
abbrev pub SmallestDealIsFinished : Type 0
SmallestDealIsFinished = FinishesBy secp256k1
