-- What is claimed of `state` where its status is 0: its text says where the deal stands, and that is so.
use Rattle.std.specs.Prelude.{◌≡◌, ℕ, List, Option, Some, None, Ok}
use Rattle.spec_data.specs.Hashes.{HashesBytes}
use Rattle.spec_terms.specs.Advert.{Advert}
use Rattle.spec_tool.specs.Answers.{contract_in}
use Rattle.spec_tool.specs.Commands.{Printed}
use Rattle.spec_tool.specs.Reads.{Text, text_at}
use Rattle.spec_deal.specs.declared.deal.Deal.{Deal}
use Rattle.spec_deal.specs.declared.entry.Shown.{Shown}
use Rattle.spec_deal.specs.declared.signed.Signed.{Signed}
use Rattle.spec_deal.specs.Answers.{deal_in, signatures_in}
use Rattle.spec_deal.specs.SecretFile.{shows}
use Rattle.spec_deal.specs.Setting.{deal_keys, deal_instance}
use Rattle.spec_deal.specs.Verifier.{Verifier}
use Rattle.spec_chain.specs.Answers.{chain_text_answer}
use Rattle.spec_chain.specs.Chain.{Course, stands, follow_chain}
use Rattle.spec_chain.specs.Commands as commands
use Rattle.spec_chain.specs.Commands.{ChainCommand}
use Rattle.spec_chain.specs.StateText.{state_text}
use Rattle.theory_state.specs.Causes.{told_behind}
use Rattle.theory_state.specs.Stands.{StandsSo}

-- the text says where the deal of the files stands after their chain, by their signatures and secrets, if there is a file of these
pub record IsStateText (v : Verifier) (hash : List ℕ → List ℕ) (texts : List Text) (secrets : Option Text) (text : List ℕ) : Type 0 where
  pub advert : Advert
  pub contract_is : contract_in (text_at texts 0) ≡ Ok advert
  pub deal : Deal
  pub deal_is : deal_in v advert (text_at texts 1) ≡ Ok deal
  pub chain : List ℕ
  pub chain_is : text_at texts 2 ≡ Some chain
  pub course : Course
  pub tip : ℕ
  pub followed : follow_chain hash (deal_keys deal) (deal_instance advert deal) chain ≡ stands course tip
  pub given : List Signed
  pub given_is : signatures_in v hash (deal_keys deal) (deal_instance advert deal) (text_at texts 3) ≡ Ok given
  pub strings : List Shown
  pub strings_are : told_behind hash (deal_instance advert deal) secrets (stands course tip) ≡ shows strings
  pub text_is : text ≡ state_text hash (deal_keys deal) (deal_instance advert deal) course tip given strings
  -- and it is so
  pub so : StandsSo hash advert deal chain course tip given strings

-- where a command asks it, with status 0
abbrev pub IfStands : Verifier → (List ℕ → List ℕ) → ChainCommand → List Text → Printed → Type 0
IfStands v hash (commands.on_deal command) texts printed = Unit {0}
IfStands v hash (commands.show contract deal) texts printed = Unit {0}
IfStands v hash (commands.state contract deal chain signatures) texts printed =
    printed.status ≡ 0 → IsStateText v hash texts None printed.text
IfStands v hash (commands.state_with contract deal chain signatures secrets) texts printed =
    printed.status ≡ 0 → IsStateText v hash texts (Some (text_at texts 4)) printed.text

-- of all files
abbrev pub StateAnswers : Type 0
StateAnswers = (v : Verifier) (hash : List ℕ → List ℕ) (command : ChainCommand) (texts : List Text) → HashesBytes hash
    → IfStands v hash command texts (chain_text_answer v hash command texts)
