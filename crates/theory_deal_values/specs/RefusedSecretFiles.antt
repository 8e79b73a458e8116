-- A file of secrets that is refused for each reason: what it says, and what the program prints.
use Rattle.std.specs.Prelude.{◌≡◌, ℕ, List, [], ◌∷◌, ◌++◌, codes, replicate}
use Rattle.spec_tool.specs.Commands.{prints}
use Rattle.spec_deal.specs.Verifier.{secp256k1}
use Rattle.theory_values.specs.Replies.{lines, sha_of}
use Rattle.theory_deal_values.specs.Replies.{program_replies}
use Rattle.theory_deal_values.specs.SmallDeals.{secret_bitml, secret_deal, secret_hashes}

-- to this file of secrets `finish`, without any signature, says with status 15 that it is refused so
abbrev pub Refuses : List ℕ → List ℕ → Type 0
Refuses secrets line =
    program_replies secp256k1 (sha_of secret_hashes) (codes "finish" ∷ codes "contract" ∷ codes "deal" ∷ codes "r.0" ∷ codes "signatures" ∷ codes "secrets" ∷ [])
    ((codes "contract", secret_bitml) ∷ (codes "deal", secret_deal) ∷ (codes "signatures", []) ∷ (codes "secrets", secrets) ∷ [])
    ≡ prints 15 (line ++ 10 ∷ [])

pub record SecretFilesAreRefused : Type 0 where
  -- a byte more than it may have
  pub size : Refuses (replicate 1048577 10) (codes "secrets refused size")
  -- a word is missing
  pub form : Refuses (lines (codes "secret a" ∷ [])) (codes "secrets refused line 1 form")
  -- a secret that the contract hasn't
  pub foreign : Refuses (lines (codes "secret c 00112233445566778899aabbccddeeff0102" ∷ [])) (codes "secrets refused line 1 foreign")
  -- half a byte
  pub value : Refuses (lines (codes "secret a 0" ∷ [])) (codes "secrets refused line 1 value")
  -- the same line again
  pub repeated : Refuses (lines (codes "secret a 00112233445566778899aabbccddeeff0102" ∷ codes "secret a 00112233445566778899aabbccddeeff0102" ∷ [])) (codes "secrets refused line 2 repeated 1")
  -- 15 bytes
  pub length : Refuses (lines (codes "secret a 00112233445566778899aabbccddee" ∷ [])) (codes "secrets refused line 1 length")
  -- another string
  pub hash : Refuses (lines (codes "secret a 00112233445566778899aabbccddeeff0103" ∷ [])) (codes "secrets refused line 1 hash")
