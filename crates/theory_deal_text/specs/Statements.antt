-- What is claimed of the texts of the commands on deals: each is read as what it shows of its files, so it can't leave anything out.
use Rattle.std.specs.Prelude.{◌≡◌, ℕ, List, [], ◌∷◌, map, Some, Ok}
use Rattle.spec_data.specs.Hashes.{HashesBytes}
use Rattle.spec_terms.specs.Advert.{Advert}
use Rattle.spec_tool.specs.Answers.{contract_in}
use Rattle.spec_tool.specs.Reads.{Text, text_at}
use Rattle.spec_deal.specs.declared.deal.Deal.{Deal}
use Rattle.spec_deal.specs.declared.signed.Signed.{Signed}
use Rattle.spec_deal.specs.declared.transaction.Transaction.{Transaction}
use Rattle.spec_deal.specs.Answers.{signatures_in, deal_text_answer}
use Rattle.spec_deal.specs.Commands as commands
use Rattle.spec_deal.specs.Commands.{DealCommand}
use Rattle.spec_deal.specs.Needed.{needed}
use Rattle.spec_deal.specs.Setting.{deal_keys, deal_instance}
use Rattle.spec_deal.specs.Transactions.{transactions}
use Rattle.spec_deal.specs.Verifier.{Verifier}
use Rattle.theory_deal.specs.ForSigners.{IsTaken}
use Rattle.theory_deal_text.specs.Keys.{needed_of}
use Rattle.theory_deal_text.specs.Plan.{shown_plan}
use Rattle.theory_deal_text.specs.PlanLines.{plan_of}
use Rattle.theory_deal_text.specs.Psbts.{psbts_of, shown_psbt, named}
use Rattle.theory_deal_text.specs.SignatureLines.{missing_of, held_of}
use Rattle.theory_deal_text.specs.Signatures.{shown_missing, shown_held}

-- ---- one deal

-- all transactions of a deal
abbrev pub transactions_of : (List ℕ → List ℕ) → Advert → Deal → List Transaction
transactions_of hash advert deal = transactions hash (deal_keys deal) (deal_instance advert deal)

-- contract and deal are taken, and the file of signatures gives these
pub record AreGiven (v : Verifier) (hash : List ℕ → List ℕ) (texts : List Text) (advert : Advert) (deal : Deal) (given : List Signed)
    : Type 0 where
  pub taken : IsTaken v hash texts advert deal
  pub signed : signatures_in v hash (deal_keys deal) (deal_instance advert deal) (text_at texts 2) ≡ Ok given

-- ---- all commands

-- What the text that a command answers to these files says: what the contract needs, the deal's plan, its transactions for signers, which
-- signatures aren't there, and which are. The text of `finish` is a transaction, of which more is known; of other commands nothing is
-- said here.
abbrev pub Says : Verifier → (List ℕ → List ℕ) → DealCommand → List Text → List ℕ → Type 0
Says v hash (commands.keys contract) texts text =
    (advert : Advert) → contract_in (text_at texts 0) ≡ Ok advert → needed_of text ≡ Some (needed advert)
Says v hash (commands.plan contract deal_file) texts text =
    (advert : Advert) (deal : Deal) → IsTaken v hash texts advert deal
    → plan_of text ≡ Some (shown_plan hash deal.network (deal_keys deal) (deal_instance advert deal))
Says v hash (commands.psbts contract deal_file) texts text =
    (advert : Advert) (deal : Deal) → IsTaken v hash texts advert deal
    → psbts_of text ≡ Some (map shown_psbt (transactions_of hash advert deal))
Says v hash (commands.psbt contract deal_file which) texts text =
    (advert : Advert) (deal : Deal) (t : Transaction) → IsTaken v hash texts advert deal
    → named which (transactions_of hash advert deal) ≡ Some t → psbts_of text ≡ Some (shown_psbt t ∷ [])
Says v hash (commands.missing contract deal_file signatures) texts text =
    (advert : Advert) (deal : Deal) (given : List Signed) → AreGiven v hash texts advert deal given
    → missing_of text ≡ Some (shown_missing given (transactions_of hash advert deal))
Says v hash (commands.held contract deal_file signatures) texts text =
    (advert : Advert) (deal : Deal) (given : List Signed) → AreGiven v hash texts advert deal given
    → held_of text ≡ Some (shown_held given (transactions_of hash advert deal))
Says v hash (commands.finish contract deal_file which signatures) texts text = Unit {0}
Says v hash (commands.finish_with contract deal_file which signatures secrets) texts text = Unit {0}
Says v hash (commands.fund contract deal_file) texts text = Unit {0}
Says v hash (commands.warn contract deal_file) texts text = Unit {0}
Says v hash (commands.warn_with contract deal_file secrets) texts text = Unit {0}
Says v hash (commands.ready contract deal_file signatures) texts text = Unit {0}
Says v hash (commands.ready_with contract deal_file signatures secrets) texts text = Unit {0}
Says v hash (commands.endorse contract deal_file party) texts text = Unit {0}
Says v hash (commands.hashes contract secrets) texts text = Unit {0}

-- whatever judges signatures
abbrev pub DealTextsAreRead : Type 0
DealTextsAreRead = (v : Verifier) (hash : List ℕ → List ℕ) → HashesBytes hash → (command : DealCommand) (texts : List Text)
    → Says v hash command texts (deal_text_answer v hash command texts).text
