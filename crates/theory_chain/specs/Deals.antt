-- What is known of a deal that isn't refused.
use Rattle.std.specs.Prelude.{◌≡◌, ℕ, List, [], None, Ok}
use Rattle.spec_data.specs.Hashes.{HashesBytes}
use Rattle.spec_data.specs.Messages.{collision}
use Rattle.spec_terms.specs.Advert.{Advert}
use Rattle.spec_terms.specs.Faults.{IsWellFormed}
use Rattle.spec_deal.specs.declared.deal.Deal.{Deal}
use Rattle.spec_deal.specs.Answers.{circular}
use Rattle.spec_deal.specs.DealFile.{read_deal}
use Rattle.spec_deal.specs.Hashed.{deal_strings}
use Rattle.spec_deal.specs.Setting.{deal_keys, deal_instance}
use Rattle.spec_deal.specs.Verifier.{Verifier}

-- the contract is well-formed and the deal file is taken, no two strings of the compiled deal have one hash, and none of its own
-- transactions makes one of its deposits
pub record IsDeal (v : Verifier) (hash : List ℕ → List ℕ) (advert : Advert) (deal : Deal) : Type 0 where
  pub text : List ℕ
  pub hashes : HashesBytes hash
  pub checked : IsWellFormed advert
  pub read : read_deal v advert text ≡ Ok deal
  pub clear : collision hash [] (deal_strings hash (deal_keys deal) (deal_instance advert deal)) ≡ None
  pub unmade : circular hash (deal_keys deal) (deal_instance advert deal) ≡ None
