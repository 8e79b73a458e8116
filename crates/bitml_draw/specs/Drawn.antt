-- What the program that draws promises, from its words to its status.
use Rattle.std.specs.Prelude.{◌≡◌, ℕ, ◌≤◌, List, [], length, map, true, ◌⊎◌, Option, Some, None, is_some, option_map, string_bytes}
use Rattle.spec_data.specs.Ranges.{most_contracts}
use Rattle.spec_run.specs.Conditions.{HashesBytes}
use Rattle.spec_tool.specs.Reads.{Read, Text, texts_read}
use Rattle.spec_tool.specs.Commands.{Printed}
use Rattle.bm_io.specs.Counts.{RoseBy}
use Rattle.tool_shell.specs.Around.{Around}
use Rattle.tool_shell.specs.Answered.{AnswersBy, AnswersByOrGivesUp, GivesUp}
use Rattle.bitml_draw.specs.declared.call.DrawCall.{DrawCall}
use Rattle.bitml_draw.specs.declared.call.DrawCall.TheVariants as calls
use Rattle.bitml_draw.specs.Causes.{HasCauses, SaysRefusals}
use Rattle.bitml_draw.specs.DrawAnswer.{DrawCommand, draws, sheets, form_of, draw_files, draw_title, draw_answer, draw_words}
use Rattle.bitml_draw.specs.Shown.{ShowsContractFile, ShowsRunFiles}

-- ---- the call

-- the call as the definition has it
abbrev pub seen : DrawCall → DrawCommand
seen (calls.Sheet contract) = sheets contract.now
seen (calls.Run form run contracts) = draws form run.now (map string_bytes contracts.now)

-- a run has no more contracts than it may have
abbrev pub HasFew : Option DrawCommand → Type 0
HasFew (Some (draws form run contracts)) = length contracts ≤ most_contracts
HasFew _ = Unit {0}

-- ---- answers

-- the answers are those of the definition
abbrev pub Answers : (List ℕ → List ℕ) → Option DrawCommand → Around → Around → ℕ → Type 0
Answers hash command before now status = AnswersBy (draw_answer hash command) (option_map draw_files command) before now status

-- the same, or out of memory
abbrev pub AnswersOrGivesUp : (List ℕ → List ℕ) → Option DrawCommand → Around → Around → ℕ → Type 0
AnswersOrGivesUp hash command before now status =
    AnswersByOrGivesUp (draw_answer hash command) (option_map draw_files command) before now status

-- ---- what is read

-- what is answered to the texts of files: each status comes exactly by its cause, and what they hold is drawn, or the first that is refused
-- is said
pub record ShowsTexts (hash : List ℕ → List ℕ) (command : DrawCommand) (texts : List Text) (printed : Printed) : Type 0 where
  pub causes : HasCauses hash texts printed.status
  pub refusals : SaysRefusals texts printed
  pub run : ShowsRunFiles (form_of command) (draw_title command) hash texts printed
  pub contract : ShowsContractFile (draw_title command) texts printed

-- a read that failed is answered by 3 and nothing
abbrev pub ShowsRead : (List ℕ → List ℕ) → DrawCommand → Option (List Text) → Printed → Type 0
ShowsRead hash command None printed = (printed.status ≡ 3) × (printed.text ≡ [])
ShowsRead hash command (Some texts) printed = ShowsTexts hash command texts printed

-- words that are no command are answered by 2
abbrev pub Shows : (List ℕ → List ℕ) → Option DrawCommand → List Read → Printed → Type 0
Shows hash None reads printed = printed.status ≡ 2
Shows hash (Some command) reads printed = ShowsRead hash command (texts_read reads) printed

-- ---- the whole

-- an answer, which draws what the files hold
pub record Draws (hash : List ℕ → List ℕ) (command : Option DrawCommand) (before now : Around) (status : ℕ) : Type 0 where
  pub answers : Answers hash command before now status
  pub shows : Shows hash command answers.reads (draw_answer hash command answers.reads)

-- what a call with these words does to what stands around it, and its status
pub record Serves (hash : List ℕ → List ℕ) (words : List (List ℕ)) (before now : Around) (status : ℕ) : Type 0 where
  pub draws : Draws hash (draw_words words) before now status ⊎ GivesUp (option_map draw_files (draw_words words)) before now status
  -- the usage answers nothing but words that are no command
  pub usage : status ≡ 2 → draw_words words ≡ None
  -- a fault of the files is answered only where their count rose
  pub unread : status ≡ 3 → RoseBy 1 before.read_faults now.read_faults
  -- a fault of the sink is answered only where its count rose
  pub unwritten : status ≡ 4 → RoseBy 1 before.write_faults now.write_faults
  -- memory never runs out where the words are no command
  pub memory : status ≡ 5 → is_some (draw_words words) ≡ true

-- a call that gives the defined answer, or gives up as memory ran out, draws what is asked for
abbrev pub DrawsAll : Type 0
DrawsAll = (hash : List ℕ → List ℕ) → HashesBytes hash → (words : List (List ℕ)) (before now : Around) (status : ℕ)
    → AnswersOrGivesUp hash (draw_words words) before now status → Serves hash words before now status
