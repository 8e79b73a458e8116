-- What is claimed of `finish` where its status is 0: what is printed is one transaction, which is the plan's, and which ledgers accept.
use Rattle.std.specs.Prelude.{◌≡◌, ℕ, List, [], ◌++◌, Option, Some, None, Ok, ◌⊎◌}
use Rattle.spec_data.specs.Digits.{hex_text}
use Rattle.spec_data.specs.Hashes.{HashesBytes}
use Rattle.spec_terms.specs.Advert.{Advert}
use Rattle.spec_bitcoin.specs.Spelling.{spelling}
use Rattle.spec_text.specs.RunText.{newline}
use Rattle.spec_tool.specs.declared.which.Which.{Which}
use Rattle.spec_tool.specs.Answers.{contract_in}
use Rattle.spec_tool.specs.Keyed.Listed.{Listed, listed_at}
use Rattle.spec_tool.specs.Reads.{Text, text_at}
use Rattle.spec_deal.specs.declared.deal.Deal.{Deal}
use Rattle.spec_deal.specs.declared.entry.Shown.{Shown}
use Rattle.spec_deal.specs.declared.signed.Signed.{Signed}
use Rattle.spec_deal.specs.Answers.{deal_in, signatures_in, secrets_in, deal_text_answer}
use Rattle.spec_deal.specs.Commands as commands
use Rattle.spec_deal.specs.Commands.{DealCommand}
use Rattle.spec_deal.specs.Finished.{finished}
use Rattle.spec_deal.specs.SecretFile.{shows}
use Rattle.spec_deal.specs.Setting.{deal_keys, deal_instance}
use Rattle.spec_deal.specs.Verifier.{Verifier}
use Rattle.theory_deal.specs.Accepted.{IsAccepted}
use Rattle.theory_deal.specs.Printed.{IsReadAgain}
use Rattle.theory_deal.specs.Whole.{IsFinished}

-- the transaction that a command finishes
abbrev pub finishes : DealCommand → Option Which
finishes (commands.keys contract) = None
finishes (commands.plan contract deal) = None
finishes (commands.psbts contract deal) = None
finishes (commands.psbt contract deal which) = None
finishes (commands.missing contract deal signatures) = None
finishes (commands.held contract deal signatures) = None
finishes (commands.finish contract deal which signatures) = Some which
finishes (commands.finish_with contract deal which signatures secrets) = Some which
finishes (commands.fund contract deal) = None
finishes (commands.warn contract deal) = None
finishes (commands.warn_with contract deal secrets) = None
finishes (commands.ready contract deal signatures) = None
finishes (commands.ready_with contract deal signatures secrets) = None
finishes (commands.endorse contract deal party) = None
finishes (commands.hashes contract secrets) = None

-- the text is the transaction of this name, finished from the contract, the deal, the signatures and the secrets of the files
pub record IsFinishedText (v : Verifier) (hash : List ℕ → List ℕ) (texts : List Text) (which : Which) (text : List ℕ) : Type 0 where
  pub advert : Advert
  pub contract_is : contract_in (text_at texts 0) ≡ Ok advert
  pub deal : Deal
  pub deal_is : deal_in v advert (text_at texts 1) ≡ Ok deal
  pub given : List Signed
  pub given_is : signatures_in v hash (deal_keys deal) (deal_instance advert deal) (text_at texts 2) ≡ Ok given
  pub strings : List Shown
  pub strings_are : (strings ≡ []) ⊎ (secrets_in hash (deal_keys deal) (deal_instance advert deal) (text_at texts 3) ≡ shows strings)
  pub l : Listed
  pub there : listed_at hash (deal_keys deal) (deal_instance advert deal) which ≡ Some l
  pub text_is : text ≡ hex_text (spelling (finished hash (deal_keys deal) (deal_instance advert deal) given strings l)) ++ newline
  -- it is read again from the text, whose bytes spell no other
  pub read_again : IsReadAgain hash (deal_keys deal) (deal_instance advert deal) given strings l
  -- it is the plan's, and its scripts are true
  pub opens : IsFinished v hash (deal_keys deal) (deal_instance advert deal) given strings l
  -- ledgers accept it
  pub accepted : IsAccepted v hash (deal_keys deal) (deal_instance advert deal) given strings l

-- of all files
abbrev pub FinishAnswers : Type 0
FinishAnswers =
    (v : Verifier) (hash : List ℕ → List ℕ) (command : DealCommand) (texts : List Text) (which : Which)
    → HashesBytes hash → finishes command ≡ Some which → (deal_text_answer v hash command texts).status ≡ 0
    → IsFinishedText v hash texts which (deal_text_answer v hash command texts).text
