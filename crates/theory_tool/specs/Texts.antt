-- What is claimed of the commands with further files, or with no run file, whose files are there: they answer to the texts of these.
use Rattle.std.specs.Prelude.{◌≡◌, ℕ, List, [], ◌∷◌, length, if◌then◌else◌, nat_le, Some, None}
use Rattle.spec_data.specs.Lists.{look_up}
use Rattle.spec_text.specs.Refusals.{run_of}
use Rattle.spec_tool.specs.Sizes.{most_psbt_bytes, most_audit_bytes, most_strategy_bytes}
use Rattle.spec_tool.specs.Reads.{Text}
use Rattle.spec_tool.specs.Commands.{make, psbt_shown, psbt_joined, audit, auto, contracts_from, both_judged, make_answer}
use Rattle.spec_tool.specs.PsbtText.{shown_answer, joined_answer}
use Rattle.spec_tool.specs.Answers.{audited_file, strategy_file}
use Rattle.spec_tool.specs.Reading.{Files, answer_there}

-- what is taken of a text of which so many bytes are asked for: all of it, or nothing where it has more
abbrev pub bounded : ℕ → List ℕ → Text
bounded limit text = if nat_le (length text) limit then Some text else None

pub record FurtherTextsTheorem : Type 0 where
  pub make_texts : (hash : List ℕ → List ℕ) (there : Files) (number size : ℕ)
      → answer_there hash there (make number size) ≡ make_answer hash number size
  pub shown_texts : (hash : List ℕ → List ℕ) (there : Files) (file text : List ℕ)
      → look_up file there ≡ Some text → answer_there hash there (psbt_shown file) ≡ shown_answer (bounded most_psbt_bytes text)
  pub joined_texts : (hash : List ℕ → List ℕ) (there : Files) (first text second other : List ℕ)
      → look_up first there ≡ Some text → look_up second there ≡ Some other
      → answer_there hash there (psbt_joined first second)
      ≡ joined_answer (bounded most_psbt_bytes text) (bounded most_psbt_bytes other)
  pub audit_texts : (hash : List ℕ → List ℕ) (there : Files) (run run_text contract text file file_text : List ℕ)
      → look_up run there ≡ Some run_text → look_up contract there ≡ Some text → look_up file there ≡ Some file_text
      → answer_there hash there (audit run contract file)
      ≡ both_judged (audited_file (bounded most_audit_bytes file_text)) hash (run_of run_text) (contracts_from 0 (text ∷ []))
  pub auto_texts : (hash : List ℕ → List ℕ) (there : Files) (run run_text contract text strategy strategy_text : List ℕ)
      → look_up run there ≡ Some run_text → look_up contract there ≡ Some text → look_up strategy there ≡ Some strategy_text
      → answer_there hash there (auto run contract strategy)
      ≡ both_judged (strategy_file (Some run_text) (bounded most_strategy_bytes strategy_text)) hash (run_of run_text)
      (contracts_from 0 (text ∷ []))
