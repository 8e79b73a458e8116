-- What is claimed of the files for signers: all of them are those of each transaction, in the order of the text.
use Rattle.std.specs.Prelude.{◌≡◌, ℕ, List, [], Some, None, Ok}
use Rattle.std.specs.List.{flat_map}
use Rattle.spec_data.specs.Messages.{collision}
use Rattle.spec_terms.specs.Advert.{Advert}
use Rattle.spec_tool.specs.Answers.{contract_in}
use Rattle.spec_tool.specs.Commands.{prints}
use Rattle.spec_tool.specs.Keyed.Listed.{Listed, listed_at}
use Rattle.spec_tool.specs.PsbtText.{psbt_line}
use Rattle.spec_tool.specs.Reads.{Text, text_at}
use Rattle.spec_tool.specs.declared.which.Which.{Which}
use Rattle.spec_deal.specs.declared.deal.Deal.{Deal}
use Rattle.spec_deal.specs.Answers.{circular, deal_in, deal_text_answer}
use Rattle.spec_deal.specs.Commands as commands
use Rattle.spec_deal.specs.DealText.{unsigned_psbt}
use Rattle.spec_deal.specs.Hashed.{deal_strings}
use Rattle.spec_deal.specs.Setting.{deal_keys, deal_instance}
use Rattle.spec_deal.specs.Verifier.{Verifier}
use Rattle.theory_deal.specs.Transactions.{all_names}

-- contract and deal are taken, none of the deal's strings collide, and it makes none of its own deposits
pub record IsTaken (v : Verifier) (hash : List ℕ → List ℕ) (texts : List Text) (advert : Advert) (deal : Deal) : Type 0 where
  pub contract : contract_in (text_at texts 0) ≡ Ok advert
  pub file : deal_in v advert (text_at texts 1) ≡ Ok deal
  pub apart : collision hash [] (deal_strings hash (deal_keys deal) (deal_instance advert deal)) ≡ None
  pub unmade : circular hash (deal_keys deal) (deal_instance advert deal) ≡ None

-- what `psbt .. WHICH` prints for each name
abbrev pub file_of : Verifier → (List ℕ → List ℕ) → List ℕ → List ℕ → List Text → Which → List ℕ
file_of v hash contract deal texts which = (deal_text_answer v hash (commands.psbt contract deal which) texts).text

pub record GivesSigners (v : Verifier) (hash : List ℕ → List ℕ) (texts : List Text) (advert : Advert) (deal : Deal)
    (contract_file deal_file : List ℕ) : Type 0 where
  -- under a name stands the contract's transaction of that name, without signatures
  pub each : (which : Which) (l : Listed) → listed_at hash (deal_keys deal) (deal_instance advert deal) which ≡ Some l
      → deal_text_answer v hash (commands.psbt contract_file deal_file which) texts ≡ prints 0 (psbt_line (unsigned_psbt hash (deal_keys deal) advert l))
  -- and all together are these in order
  pub all : deal_text_answer v hash (commands.psbts contract_file deal_file) texts
      ≡ prints 0 (flat_map (file_of v hash contract_file deal_file texts) (all_names advert.root))

abbrev pub FilesForSigners : Type 0
FilesForSigners =
    (v : Verifier) (hash : List ℕ → List ℕ) (texts : List Text) (advert : Advert) (deal : Deal) (contract_file deal_file : List ℕ)
    → IsTaken v hash texts advert deal → GivesSigners v hash texts advert deal contract_file deal_file
