-- What is claimed of commands whose files are there: they answer to the texts of these, and well-formed files without a halt give the
-- status 0.
use Rattle.std.specs.Prelude.{◌≡◌, ℕ, List, [], ◌∷◌, Option, Some, None, Ok}
use Rattle.spec_data.specs.Digits.{onto}
use Rattle.spec_data.specs.Lists.{look_up}
use Rattle.spec_terms.specs.Advert.{Advert}
use Rattle.spec_run.specs.declared.event.Run.{Run}
use Rattle.spec_text.specs.Played.{ending}
use Rattle.spec_text.specs.Refusals.{contract_of, run_of}
use Rattle.spec_tool.specs.declared.which.Which.{Which}
use Rattle.spec_tool.specs.Reads.{reads_in}
use Rattle.spec_tool.specs.Commands.{Command, check, play, plan, psbt_of, weigh, files_of, Printed, check_answer}
use Rattle.spec_tool.specs.Commands.{play_answer, plan_answer, contracts_from, both_judged, setup_of, ending_status}
use Rattle.spec_run.specs.Translation.{last_world}
use Rattle.spec_text.specs.Generator.{generated_contract, generated_run}
use Rattle.spec_tool.specs.Sizes.{most_psbt_bytes, most_audit_bytes}
use Rattle.spec_tool.specs.Psbt.{Psbt}
use Rattle.spec_tool.specs.PsbtBytes.{combined}
use Rattle.spec_tool.specs.PsbtText.{psbt_text, psbt_in}
use Rattle.spec_tool.specs.Audit.{audit_collision}
use Rattle.spec_tool.specs.Commands.{make, psbt_shown, psbt_joined, audit}
use Rattle.std.specs.Prelude.{nat_le, length, true}
use Rattle.spec_tool.specs.WeighText.{weigh_text}
use Rattle.spec_tool.specs.Answers.{answer, if_whole, printed_of}

-- ---- texts

-- files by their names, each with its bytes
abbrev pub Files : Type 0
Files = List (List ℕ × List ℕ)

-- what these files hold, where all are there
abbrev pub texts_there : Files → List (List ℕ) → Option (List (List ℕ))
texts_there there [] = Some []
texts_there there (name ∷ names) = onto (look_up name there) (texts_there there names)

-- what a command answers where these files are there and no read fails of itself
abbrev pub answer_there : (List ℕ → List ℕ) → Files → Command → Printed
answer_there hash there command = answer hash command (reads_in there None 0 (files_of command))

-- a file that is longer than it may be is refused whether its bytes or its length alone is known, so the answer is that to the texts
pub record TextsTheorem : Type 0 where
  pub check_text : (hash : List ℕ → List ℕ) (there : Files) (contract text : List ℕ)
      → look_up contract there ≡ Some text → answer_there hash there (check contract) ≡ check_answer text
  pub play_texts : (hash : List ℕ → List ℕ) (there : Files) (run run_text : List ℕ) (contracts texts : List (List ℕ))
      → look_up run there ≡ Some run_text → texts_there there contracts ≡ Some texts
      → answer_there hash there (play run contracts) ≡ play_answer hash run_text texts
  pub plan_texts : (hash : List ℕ → List ℕ) (there : Files) (run run_text contract text : List ℕ)
      → look_up run there ≡ Some run_text → look_up contract there ≡ Some text
      → answer_there hash there (plan run contract) ≡ plan_answer hash run_text text
  pub psbt_texts : (hash : List ℕ → List ℕ) (there : Files) (which : Which) (run run_text contract text : List ℕ)
      → look_up run there ≡ Some run_text → look_up contract there ≡ Some text
      → answer_there hash there (psbt_of run contract which)
      ≡ both_judged (if_whole (printed_of (psbt_text which))) hash (run_of run_text) (contracts_from 0 (text ∷ []))
  pub weigh_texts : (hash : List ℕ → List ℕ) (there : Files) (run run_text contract text : List ℕ)
      → look_up run there ≡ Some run_text → look_up contract there ≡ Some text
      → answer_there hash there (weigh run contract)
      ≡ both_judged (if_whole (printed_of weigh_text)) hash (run_of run_text) (contracts_from 0 (text ∷ []))

-- ---- completeness

-- well-formed contracts, a valid run and further files that are taken give the status 0, where nothing is guessed and nothing collides
pub record CompletenessTheorem : Type 0 where
  pub check_ends : (hash : List ℕ → List ℕ) (there : Files) (contract text : List ℕ) (advert : Advert)
      → look_up contract there ≡ Some text → contract_of text ≡ Ok advert
      → (answer_there hash there (check contract)).status ≡ 0
  pub play_ends : (hash : List ℕ → List ℕ) (there : Files) (run run_text : List ℕ) (contracts texts : List (List ℕ)) (r : Run)
      (adverts : List Advert)
      → look_up run there ≡ Some run_text → texts_there there contracts ≡ Some texts
      → run_of run_text ≡ Ok r → contracts_from 0 texts ≡ Ok adverts
      → ending_status (ending (setup_of hash r adverts) r.events) ≡ 0
      → (answer_there hash there (play run contracts)).status ≡ 0
  pub plan_ends : (hash : List ℕ → List ℕ) (there : Files) (run run_text contract text : List ℕ) (r : Run) (adverts : List Advert)
      → look_up run there ≡ Some run_text → look_up contract there ≡ Some text
      → run_of run_text ≡ Ok r → contracts_from 0 (text ∷ []) ≡ Ok adverts
      → ending_status (ending (setup_of hash r adverts) r.events) ≡ 0
      → (answer_there hash there (plan run contract)).status ≡ 0
  pub psbt_ends : (hash : List ℕ → List ℕ) (there : Files) (which : Which) (run run_text contract text : List ℕ) (r : Run)
      (adverts : List Advert)
      → look_up run there ≡ Some run_text → look_up contract there ≡ Some text
      → run_of run_text ≡ Ok r → contracts_from 0 (text ∷ []) ≡ Ok adverts
      → ending_status (ending (setup_of hash r adverts) r.events) ≡ 0
      → (answer_there hash there (psbt_of run contract which)).status ≡ 0
  pub weigh_ends : (hash : List ℕ → List ℕ) (there : Files) (run run_text contract text : List ℕ) (r : Run) (adverts : List Advert)
      → look_up run there ≡ Some run_text → look_up contract there ≡ Some text
      → run_of run_text ≡ Ok r → contracts_from 0 (text ∷ []) ≡ Ok adverts
      → ending_status (ending (setup_of hash r adverts) r.events) ≡ 0
      → (answer_there hash there (weigh run contract)).status ≡ 0
  pub make_ends : (hash : List ℕ → List ℕ) (there : Files) (number size : ℕ)
      → ending_status (ending (setup_of hash (generated_run number size) (generated_contract number size ∷ [])) ((generated_run number size).events)) ≡ 0
      → (answer_there hash there (make number size)).status ≡ 0
  pub shown_ends : (hash : List ℕ → List ℕ) (there : Files) (file text : List ℕ) (p : Psbt)
      → look_up file there ≡ Some text → nat_le (length text) most_psbt_bytes ≡ true → psbt_in (Some text) ≡ Ok p
      → (answer_there hash there (psbt_shown file)).status ≡ 0
  pub joined_ends : (hash : List ℕ → List ℕ) (there : Files) (file text other other_text : List ℕ) (p q joined : Psbt)
      → look_up file there ≡ Some text → nat_le (length text) most_psbt_bytes ≡ true → psbt_in (Some text) ≡ Ok p
      → look_up other there ≡ Some other_text → nat_le (length other_text) most_psbt_bytes ≡ true → psbt_in (Some other_text) ≡ Ok q
      → combined p q ≡ Ok joined
      → (answer_there hash there (psbt_joined file other)).status ≡ 0
  pub audit_ends : (hash : List ℕ → List ℕ) (there : Files) (run run_text contract text file file_text : List ℕ) (r : Run)
      (adverts : List Advert)
      → look_up run there ≡ Some run_text → look_up contract there ≡ Some text → look_up file there ≡ Some file_text
      → run_of run_text ≡ Ok r → contracts_from 0 (text ∷ []) ≡ Ok adverts → nat_le (length file_text) most_audit_bytes ≡ true
      → ending_status (ending (setup_of hash r adverts) r.events) ≡ 0
      → audit_collision (setup_of hash r adverts) (last_world (setup_of hash r adverts) r.events) file_text ≡ None
      → (answer_there hash there (audit run contract file)).status ≡ 0
