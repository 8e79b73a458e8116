-- What is claimed of the statuses of answers: each comes by its cause.
use Rattle.std.specs.Prelude.{◌≡◌, ℕ, List, [], ◌∷◌, drop, Bool, true, false, ◌&&◌, Option, Some, None, Ok, Err, ◌↔◌, is_err}
use Rattle.spec_data.specs.Lists.{has_number}
use Rattle.spec_tool.specs.Reads.{Read, Text, text_at, texts_read}
use Rattle.spec_tool.specs.Commands.{Command, check, play, plan, make, psbt_of, psbt_shown, psbt_joined, weigh, audit, auto, JudgedAll}
use Rattle.spec_text.specs.Refusals.{Judged}
use Rattle.spec_tool.specs.Psbt.{Psbt}
use Rattle.spec_tool.specs.PsbtBytes.{combined}
use Rattle.spec_tool.specs.PsbtText.{psbt_in}
use Rattle.spec_tool.specs.Answers.{text_answer, tool_answer, run_in, contracts_in}

-- the run file of a command by its texts, where it plays one
abbrev pub plays_run : Command → Bool
plays_run (check contract) = false
plays_run (play run contracts) = true
plays_run (plan run contract) = true
plays_run (make number size) = false
plays_run (psbt_of run contract which) = true
plays_run (psbt_shown file) = false
plays_run (psbt_joined first second) = false
plays_run (weigh run contract) = true
plays_run (audit run contract file) = true
plays_run (auto run contract strategy) = true

-- the contracts of a command by its texts
abbrev pub contracts_of : Command → List Text → JudgedAll
contracts_of (check contract) texts = contracts_in 0 (text_at texts 0 ∷ [])
contracts_of (play run contracts) texts = contracts_in 0 (drop 1 texts)
contracts_of (plan run contract) texts = contracts_in 0 (text_at texts 1 ∷ [])
contracts_of (make number size) texts = Ok []
contracts_of (psbt_of run contract which) texts = contracts_in 0 (text_at texts 1 ∷ [])
contracts_of (psbt_shown file) texts = Ok []
contracts_of (psbt_joined first second) texts = Ok []
contracts_of (weigh run contract) texts = contracts_in 0 (text_at texts 1 ∷ [])
contracts_of (audit run contract file) texts = contracts_in 0 (text_at texts 1 ∷ [])
contracts_of (auto run contract strategy) texts = contracts_in 0 (text_at texts 1 ∷ [])

-- whether the run file of a command is refused
abbrev pub is_run_refused : Command → List Text → Bool
is_run_refused command texts = plays_run command && is_err (run_in (text_at texts 0))

-- whether one of its contracts is
abbrev pub is_contract_refused : Command → List Text → Bool
is_contract_refused command texts = is_err (contracts_of command texts)

-- whether two files with partially signed transactions are refused: the one, the other, or both together
abbrev pub are_refused : Judged Psbt → Judged Psbt → Bool
are_refused (Err why) second = true
are_refused (Ok first) (Err why) = true
are_refused (Ok first) (Ok second) = is_err (combined first second)

-- whether a command's files with partially signed transactions are refused
abbrev pub is_psbt_refused : Command → List Text → Bool
is_psbt_refused (psbt_shown file) texts = is_err (psbt_in (text_at texts 0))
is_psbt_refused (psbt_joined first second) texts = are_refused (psbt_in (text_at texts 0)) (psbt_in (text_at texts 1))
is_psbt_refused (check contract) texts = false
is_psbt_refused (play run contracts) texts = false
is_psbt_refused (plan run contract) texts = false
is_psbt_refused (make number size) texts = false
is_psbt_refused (psbt_of run contract which) texts = false
is_psbt_refused (weigh run contract) texts = false
is_psbt_refused (audit run contract file) texts = false
is_psbt_refused (auto run contract strategy) texts = false

-- the statuses that the texts of files are answered with
abbrev pub statuses : List ℕ
statuses = 0 ∷ 1 ∷ 6 ∷ 7 ∷ 8 ∷ 9 ∷ 10 ∷ 11 ∷ []

pub record CausesTheorem : Type 0 where
  -- 2 is answered exactly where the words are no command
  pub usage : (hash : List ℕ → List ℕ) (command : Option Command) (reads : List Read)
      → ((tool_answer hash command reads).status ≡ 2) ↔ (command ≡ None)
  -- 3 is answered exactly where a read failed
  pub unread : (hash : List ℕ → List ℕ) (command : Command) (reads : List Read)
      → ((tool_answer hash (Some command) reads).status ≡ 3) ↔ (texts_read reads ≡ None)
  -- 6 is answered exactly where all files were read and the run is refused
  pub run_refused : (hash : List ℕ → List ℕ) (command : Command) (texts : List Text)
      → ((text_answer hash command texts).status ≡ 6) ↔ (is_run_refused command texts ≡ true)
  -- 1 is answered exactly where all files were read, no run is refused and a contract is
  pub contract_refused : (hash : List ℕ → List ℕ) (command : Command) (texts : List Text)
      → ((text_answer hash command texts).status ≡ 1)
      ↔ ((is_run_refused command texts ≡ false) × (is_contract_refused command texts ≡ true))
  -- 9 is answered exactly where a partially signed transaction is refused, or two can't be combined
  pub psbt_refused : (hash : List ℕ → List ℕ) (command : Command) (texts : List Text)
      → ((text_answer hash command texts).status ≡ 9) ↔ (is_psbt_refused command texts ≡ true)
  -- the others by the texts
  pub others : (hash : List ℕ → List ℕ) (command : Command) (texts : List Text)
      → has_number (text_answer hash command texts).status statuses ≡ true
