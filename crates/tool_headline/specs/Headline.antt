-- What the program promises, from its words to its status.
use Rattle.std.specs.Prelude.{◌≡◌, ℕ, List, [], ◌∷◌, map, true, false, ◌⊎◌, ◌↔◌, Option, Some, None, is_some, option_map, Ok}
use Rattle.spec_terms.specs.Advert.{Advert}
use Rattle.spec_run.specs.declared.event.Event.{Event}
use Rattle.spec_run.specs.declared.event.Run.{Run}
use Rattle.spec_run.specs.Event.{opening_collision}
use Rattle.spec_run.specs.Setup.{Setup}
use Rattle.spec_run.specs.Statements.{HoldsThroughout}
use Rattle.spec_text.specs.Refusals.{run_of}
use Rattle.spec_tool.specs.Reads.{Read, Text, texts_read}
use Rattle.spec_tool.specs.Commands.{Command, play, files_of, contracts_from, setup_of, Printed}
use Rattle.spec_tool.specs.Answers.{tool_answer}
use Rattle.spec_tool.specs.Causes.{is_run_refused, is_contract_refused, is_psbt_refused}
use Rattle.spec_tool.specs.Headline as shown
use Rattle.theory_tool.specs.Statuses.{Plays, Guess, Collision, AuditRefused, StrategyRefused, AllIsWell}
use Rattle.theory_tool.specs.Kept.{KeepsRun}
use Rattle.theory_play_text.specs.Report.{report_of}
use Rattle.theory_play_text.specs.Statements.{shown_run}
use Rattle.theory_commands.specs.Causes.{HasCausesInFiles}
use Rattle.theory_commands.specs.Commands.{ShowsCommand}
use Rattle.theory_commands.specs.Leave.{goes_by_leave}
use Rattle.bm_io.specs.Counts.{RoseBy}
use Rattle.spec_run.specs.Conditions.{HashesBytes}
use Rattle.tool_shell.specs.Around.{Around}
use Rattle.tool_shell.specs.Answered.{AnswersBy, GivesUp, AnswersByOrGivesUp}
use Rattle.tool_command.specs.Seen.{HasFew}

-- ---- answers

-- the answers are the defined ones of a command
abbrev pub Answers : (List ℕ → List ℕ) → Option Command → Around → Around → ℕ → Type 0
Answers hash command before now status = AnswersBy (tool_answer hash command) (option_map files_of command) before now status

-- the same, or out of memory
abbrev pub AnswersOrGivesUp : (List ℕ → List ℕ) → Option Command → Around → Around → ℕ → Type 0
AnswersOrGivesUp hash command before now status =
    AnswersByOrGivesUp (tool_answer hash command) (option_map files_of command) before now status

-- ---- causes

-- each status of a command's answer to the texts of its files comes exactly by its cause
pub record HasCauses (hash : List ℕ → List ℕ) (command : Command) (texts : List Text) (status : ℕ) : Type 0 where
  -- nothing is refused and nothing halts
  pub whole : (status ≡ 0) ↔ AllIsWell hash command texts
  -- a contract file is refused, and no run file is
  pub contract_refused : (status ≡ 1) ↔ ((is_run_refused command texts ≡ false) × (is_contract_refused command texts ≡ true))
  -- the run file is refused
  pub run_refused : (status ≡ 6) ↔ (is_run_refused command texts ≡ true)
  -- an event gives a secret away, or one that a strategy tries
  pub guessed : (status ≡ 7) ↔ Plays hash (Guess command texts) command texts
  -- the opening or an event collides, or what is judged or tried after the run
  pub collided : (status ≡ 8) ↔ Plays hash (Collision command texts) command texts
  -- a partially signed transaction is refused, or two can't be combined
  pub psbt_refused : (status ≡ 9) ↔ (is_psbt_refused command texts ≡ true)
  -- the file of an audit is too long
  pub audit_refused : (status ≡ 10) ↔ Plays hash (AuditRefused command texts) command texts
  -- the strategy is refused
  pub strategy_refused : (status ≡ 11) ↔ Plays hash (StrategyRefused command texts) command texts
  -- the same by what the files hold, token by token and line by line, and not by how they are read
  pub in_files : HasCausesInFiles hash command texts status

-- of what was read; a read that failed is answered by 3 and nothing
abbrev pub CausedByTexts : (List ℕ → List ℕ) → Command → Option (List Text) → Printed → Type 0
CausedByTexts hash command None printed = (printed.status ≡ 3) × (printed.text ≡ [])
CausedByTexts hash command (Some texts) printed = HasCauses hash command texts printed.status

-- of reads; words that are no command are answered by 2
abbrev pub Caused : (List ℕ → List ℕ) → Option Command → List Read → Printed → Type 0
Caused hash None reads printed = printed.status ≡ 2
Caused hash (Some command) reads printed = CausedByTexts hash command (texts_read reads) printed

-- ---- what a run shows

-- the texts of these files
abbrev pub texts_of : List (List ℕ) → List Text
texts_of texts = map Some texts

-- unless the opening collides, an honest party's live deposit goes only by its gift, or by a contract's transaction after it started or
-- endorsed the contract
abbrev pub GoesByLeave : Setup → List Event → Type 0
GoesByLeave s es = opening_collision s ≡ None → HoldsThroughout s (goes_by_leave s) es

-- where `play` takes a run and its contracts, its answer shows the ledger's run of all events with a legal run of the calculus beside
-- it, or a collision or guessed secret at its end; the run keeps all that the theorems on runs say of money, refusals, deposits,
-- beginnings and worlds, and an honest party's deposit goes by its leave; and the text is read as all that the run shows, so that nothing of
-- it is left out
abbrev pub ShowsRun : (List ℕ → List ℕ) → List Text → Printed → Type 0
ShowsRun hash texts printed =
    (run_text : List ℕ) (contract_texts : List (List ℕ)) (run : Run) (contracts : List Advert)
    → texts ≡ Some run_text ∷ texts_of contract_texts → run_of run_text ≡ Ok run → contracts_from 0 contract_texts ≡ Ok contracts
    → shown.Headline hash run_text contract_texts printed × KeepsRun (setup_of hash run contracts) run.events
    × GoesByLeave (setup_of hash run contracts) run.events
    × (report_of run.header.parties printed.text ≡ Some (shown_run (setup_of hash run contracts) run.events))

abbrev pub ShowsTexts : (List ℕ → List ℕ) → Option (List Text) → Printed → Type 0
ShowsTexts hash None printed = Unit {0}
ShowsTexts hash (Some texts) printed = ShowsRun hash texts printed

-- what every command shows of the texts of its files; of `play`, the first that is refused, with its place and why
abbrev pub ShowsFiles : (List ℕ → List ℕ) → Command → Option (List Text) → Printed → Type 0
ShowsFiles hash command None printed = Unit {0}
ShowsFiles hash command (Some texts) printed = ShowsCommand hash command texts printed

abbrev pub Shows : (List ℕ → List ℕ) → Option Command → List Read → Printed → Type 0
Shows hash None reads printed = Unit {0}
Shows hash (Some (play run contracts)) reads printed =
    ShowsTexts hash (texts_read reads) printed × ShowsFiles hash (play run contracts) (texts_read reads) printed
Shows hash (Some command) reads printed = ShowsFiles hash command (texts_read reads) printed

-- ---- the headline

-- an answer with what is known of it
pub record Serves (hash : List ℕ → List ℕ) (command : Option Command) (before now : Around) (status : ℕ) : Type 0 where
  pub answers : Answers hash command before now status
  -- the answer's status comes exactly by its cause
  pub caused : Caused hash command answers.reads (tool_answer hash command answers.reads)
  -- what `play` writes is a faithful run, and what every other command writes shows what the theorems say of it
  pub shows : Shows hash command answers.reads (tool_answer hash command answers.reads)

-- The headline: what a call with this command does to what stands around it, and its status.
pub record Headline (hash : List ℕ → List ℕ) (command : Option Command) (before now : Around) (status : ℕ) : Type 0 where
  pub serves : Serves hash command before now status ⊎ GivesUp (option_map files_of command) before now status
  -- the usage answers nothing but words that are no command
  pub usage : status ≡ 2 → command ≡ None
  -- a fault of the files is answered only where their count rose
  pub unread : status ≡ 3 → RoseBy 1 before.read_faults now.read_faults
  -- a fault of the sink is answered only where its count rose
  pub unwritten : status ≡ 4 → RoseBy 1 before.write_faults now.write_faults
  -- memory never runs out where the words are no command
  pub memory : status ≡ 5 → is_some command ≡ true

-- a call that gives the defined answer, or gives up as memory ran out, has its headline
abbrev pub HeadlineOfAnswers : Type 0
HeadlineOfAnswers = (hash : List ℕ → List ℕ) → HashesBytes hash → (command : Option Command) (before now : Around) (status : ℕ)
    → HasFew command → AnswersOrGivesUp hash command before now status → Headline hash command before now status
