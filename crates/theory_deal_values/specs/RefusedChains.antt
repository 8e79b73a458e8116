-- A chain file that is refused for each reason: what it says, and what the program prints.
use Rattle.std.specs.Prelude.{◌≡◌, ℕ, List, [], ◌∷◌, ◌++◌, codes, replicate}
use Rattle.spec_tool.specs.Commands.{prints}
use Rattle.spec_deal.specs.Verifier.{secp256k1}
use Rattle.theory_values.specs.Replies.{lines, sha_of}
use Rattle.theory_deal_values.specs.Replies.{program_replies}
use Rattle.theory_deal_values.specs.SmallDeals.{bet_bitml, bet_deal, bet_hashes}

-- to this chain file `state`, without any signature, says with status 17 that it is refused so
abbrev pub Refuses : List ℕ → List ℕ → Type 0
Refuses chain line =
    program_replies secp256k1 (sha_of bet_hashes) (codes "state" ∷ codes "contract" ∷ codes "deal" ∷ codes "chain" ∷ codes "signatures" ∷ [])
    ((codes "contract", bet_bitml) ∷ (codes "deal", bet_deal) ∷ (codes "chain", chain) ∷ (codes "signatures", []) ∷ [])
    ≡ prints 17 (line ++ 10 ∷ [])

pub record ChainsAreRefused : Type 0 where
  -- a byte more than it may have
  pub size : Refuses (replicate 8388609 10) (codes "chain refused size")
  -- a capital
  pub form : Refuses (lines (codes "Height 5" ∷ [])) (codes "chain refused line 1 form")
  -- a height with a zero before it
  pub height : Refuses (lines (codes "height 05" ∷ [])) (codes "chain refused line 1 height")
  -- half a byte more than two
  pub tx : Refuses (lines (codes "height 5" ∷ codes "tx 020" ∷ [])) (codes "chain refused line 2 tx")
  -- the contract's output before it is there
  pub input : Refuses (lines (
      codes "height 699000" ∷
      (codes "tx 0200000000010164a42d59bacec1279ca07fac1740c10cc057f1e1d5e85d62603ee391f7f1f9100000000000ffffffff0" ++
      codes "1e8030000000000002200200000000000000000000000000000000000000000000000000000000000000000010000000000") ∷
      [])) (codes "chain refused line 2 input 0")
  -- the initial transaction without witnesses
  pub witness : Refuses (lines (
      codes "height 699000" ∷
      (codes "tx 0200000002917670b4de2f27b435f71f3a2f5870b577f7d2d0be234daaf98f27291acad1c70000000000feffffffe2aa7" ++
      codes "291ea5f6a6f9753a3330b83d343e738dc1e74003df2f3ced8b322ae8f6b0100000000feffffff01d8d001000000000022002" ++
      codes "0a114f10ad2c413065c2c4e33e4b231445bf2b0016c13b170e13efce8dfa6adc000000000") ∷
      [])) (codes "chain refused line 2 witness 0")
  -- another transaction that spends the contract's output
  pub foreign : Refuses (lines (
      codes "height 699000" ∷
      (codes "tx 02000000000102917670b4de2f27b435f71f3a2f5870b577f7d2d0be234daaf98f27291acad1c70000000000feffffffe" ++
      codes "2aa7291ea5f6a6f9753a3330b83d343e738dc1e74003df2f3ced8b322ae8f6b0100000000feffffff01d8d00100000000002" ++
      codes "20020a114f10ad2c413065c2c4e33e4b231445bf2b0016c13b170e13efce8dfa6adc00247304402205bbfb3bd00eb7908b52" ++
      codes "95a6c26675dd5b7a522e79be87188cb6cf9726c42d85a02204850b4e20b2e85d03a219413a3355c113303708a4a98ca8d6ef" ++
      codes "cf802a232289701232103913ffe7036ec1cefec5d4589d0c2e8e7b6a300c97e0a106cd9624f149bcda7f5ac0248304502210" ++
      codes "0fc56c85bc511c5ac596b54b75ada48ccc2b4a299113f671b9c75ecec6a02368b02204d8478e9a0278a38960d60f5fcb5178" ++
      codes "95fef77de1d074063e976706a78fc34ed01232103ba15c3d41f9a0004b4f0e9f93716dc85ab600a158e90d0639f364ab04c7" ++
      codes "66f21ac00000000") ∷
      (codes "tx 0200000000010164a42d59bacec1279ca07fac1740c10cc057f1e1d5e85d62603ee391f7f1f9100000000000ffffffff0" ++
      codes "1e80300000000000022002000000000000000000000000000000000000000000000000000000000000000000200120011223" ++
      codes "3445566778899aabbccddeeff010200000000") ∷
      [])) (codes "chain refused line 3 foreign 0")
  -- the branch at the height that it has to wait for
  pub lock : Refuses (lines (
      codes "height 699000" ∷
      (codes "tx 02000000000102917670b4de2f27b435f71f3a2f5870b577f7d2d0be234daaf98f27291acad1c70000000000feffffffe" ++
      codes "2aa7291ea5f6a6f9753a3330b83d343e738dc1e74003df2f3ced8b322ae8f6b0100000000feffffff01d8d00100000000002" ++
      codes "20020a114f10ad2c413065c2c4e33e4b231445bf2b0016c13b170e13efce8dfa6adc00247304402205bbfb3bd00eb7908b52" ++
      codes "95a6c26675dd5b7a522e79be87188cb6cf9726c42d85a02204850b4e20b2e85d03a219413a3355c113303708a4a98ca8d6ef" ++
      codes "cf802a232289701232103913ffe7036ec1cefec5d4589d0c2e8e7b6a300c97e0a106cd9624f149bcda7f5ac0248304502210" ++
      codes "0fc56c85bc511c5ac596b54b75ada48ccc2b4a299113f671b9c75ecec6a02368b02204d8478e9a0278a38960d60f5fcb5178" ++
      codes "95fef77de1d074063e976706a78fc34ed01232103ba15c3d41f9a0004b4f0e9f93716dc85ab600a158e90d0639f364ab04c7" ++
      codes "66f21ac00000000") ∷
      codes "height 700000" ∷
      (codes "tx 0200000000010164a42d59bacec1279ca07fac1740c10cc057f1e1d5e85d62603ee391f7f1f9100000000000feffffff0" ++
      codes "1f0cc010000000000220020697c1a1f642d9dc9f320298a15a6c24c3cf1f2c6931ab893fc4f3a1c721f3d5f0448304502210" ++
      codes "099b2aec2833b9be7d3ffd42b69cf76006181077045ef09c180048bdd5c89eab802200139ef194e3d570aefb247d0f6f3fdd" ++
      codes "1799c7f3b93c5a1778195bfc3a84d462701483045022100f33869dc3f82e06cdabdd042dbf8ccc7089d9e010fcd231423810" ++
      codes "ccb6a60e70a02204a50ae563ad11af7e6d07af3a2e33e6605852fb9017334c41c2a8b40f3b2be120100c463827660020902a" ++
      codes "5696ba82012e53d027fec5936fb9e8d7ce7f98252d9b85e5633e2386fd3d59a1f2c1a2703886c00796094539f69752103880" ++
      codes "380f4fe91faca6db3387f5c981c02fee0dbae9278e8dcf2e0769b15457907ad21023c24fce1010225fd96c5407ef8f06e3a5" ++
      codes "bae1e6b8f3449ef2085634b3e148b29ac672102f318d2ff23218b2bf4bcd80ee4b79558dab1a20505f57f125d38b4a8344b9" ++
      codes "eedad21028f194e849e01cc64b26090c5d47bffdbdb3904023c817a98729cd6b4a481e57dac6860ae0a00") ∷
      [])) (codes "chain refused line 4 lock")
  -- the witness of one branch in the transaction of the other
  pub branch : Refuses (lines (
      codes "height 699000" ∷
      (codes "tx 02000000000102917670b4de2f27b435f71f3a2f5870b577f7d2d0be234daaf98f27291acad1c70000000000feffffffe" ++
      codes "2aa7291ea5f6a6f9753a3330b83d343e738dc1e74003df2f3ced8b322ae8f6b0100000000feffffff01d8d00100000000002" ++
      codes "20020a114f10ad2c413065c2c4e33e4b231445bf2b0016c13b170e13efce8dfa6adc00247304402205bbfb3bd00eb7908b52" ++
      codes "95a6c26675dd5b7a522e79be87188cb6cf9726c42d85a02204850b4e20b2e85d03a219413a3355c113303708a4a98ca8d6ef" ++
      codes "cf802a232289701232103913ffe7036ec1cefec5d4589d0c2e8e7b6a300c97e0a106cd9624f149bcda7f5ac0248304502210" ++
      codes "0fc56c85bc511c5ac596b54b75ada48ccc2b4a299113f671b9c75ecec6a02368b02204d8478e9a0278a38960d60f5fcb5178" ++
      codes "95fef77de1d074063e976706a78fc34ed01232103ba15c3d41f9a0004b4f0e9f93716dc85ab600a158e90d0639f364ab04c7" ++
      codes "66f21ac00000000") ∷
      codes "height 700001" ∷
      (codes "tx 0200000000010164a42d59bacec1279ca07fac1740c10cc057f1e1d5e85d62603ee391f7f1f9100000000000feffffff0" ++
      codes "1f0cc010000000000220020697c1a1f642d9dc9f320298a15a6c24c3cf1f2c6931ab893fc4f3a1c721f3d5f0548304502210" ++
      codes "0f855047a73f8940c3e58381bf27b54cc09d12e401e9a0647a52e0aafbda41c51022035765775f06d52701c337d4152c561d" ++
      codes "ea11735f19771ab4272105233601a0be101483045022100a18d3783fbe8737f4118360f9234bd4ab17a3e2916e58db265a15" ++
      codes "77374dc121d02204f0b465a2df52498922ae968e176593e9f83e9431fd5a074053ff13f3f1cdb6e011200112233445566778" ++
      codes "899aabbccddeeff01020101c463827660020902a5696ba82012e53d027fec5936fb9e8d7ce7f98252d9b85e5633e2386fd3d" ++
      codes "59a1f2c1a2703886c00796094539f69752103880380f4fe91faca6db3387f5c981c02fee0dbae9278e8dcf2e0769b1545790" ++
      codes "7ad21023c24fce1010225fd96c5407ef8f06e3a5bae1e6b8f3449ef2085634b3e148b29ac672102f318d2ff23218b2bf4bcd" ++
      codes "80ee4b79558dab1a20505f57f125d38b4a8344b9eedad21028f194e849e01cc64b26090c5d47bffdbdb3904023c817a98729" ++
      codes "cd6b4a481e57dac6860ae0a00") ∷
      [])) (codes "chain refused line 4 branch")
