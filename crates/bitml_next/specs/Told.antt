-- What the program that says what comes next promises, from its words to its status.
use Rattle.std.specs.Prelude.{◌≡◌, ℕ, ◌≤◌, List, [], length, map, true, ◌⊎◌, Option, Some, None, is_some, option_map, string_bytes}
use Rattle.spec_data.specs.Ranges.{most_contracts}
use Rattle.spec_run.specs.Conditions.{HashesBytes}
use Rattle.spec_tool.specs.Reads.{Read, Text, texts_read}
use Rattle.spec_tool.specs.Commands.{Printed}
use Rattle.spec_next.specs.NextAnswer.{NextCommand, begins, continues, next_files, next_answer, next_words}
use Rattle.bm_io.specs.Counts.{RoseBy}
use Rattle.tool_shell.specs.Around.{Around}
use Rattle.tool_shell.specs.Answered.{AnswersBy, AnswersByOrGivesUp, GivesUp}
use Rattle.bitml_next.specs.declared.call.NextCall.{NextCall}
use Rattle.bitml_next.specs.declared.call.NextCall.TheVariants as calls
use Rattle.bitml_next.specs.Causes.{HasCauses}
use Rattle.bitml_next.specs.Files.{HasCausesInFiles}
use Rattle.bitml_next.specs.Shown.{Shows}

-- ---- the call

-- the call as the definition has it
abbrev pub seen : NextCall → NextCommand
seen (calls.Begins contract) = begins contract.now
seen (calls.Continues form party run contracts) = continues form (option_map (λ p. p.now) party) run.now (map string_bytes contracts.now)

-- a run has no more contracts than it may have
abbrev pub HasFew : Option NextCommand → Type 0
HasFew (Some (continues form party run contracts)) = length contracts ≤ most_contracts
HasFew _ = Unit {0}

-- ---- answers

-- the answers are those of the definition
abbrev pub Answers : (List ℕ → List ℕ) → Option NextCommand → Around → Around → ℕ → Type 0
Answers hash command before now status = AnswersBy (next_answer hash command) (option_map next_files command) before now status

-- the same, or out of memory
abbrev pub AnswersOrGivesUp : (List ℕ → List ℕ) → Option NextCommand → Around → Around → ℕ → Type 0
AnswersOrGivesUp hash command before now status =
    AnswersByOrGivesUp (next_answer hash command) (option_map next_files command) before now status

-- ---- causes

-- of what was read, as the definition reads the files and as their tokens and lines spell them; a read that failed is answered by 3 and
-- nothing
abbrev pub CausedByTexts : (List ℕ → List ℕ) → Option (List Text) → Printed → Type 0
CausedByTexts hash None printed = (printed.status ≡ 3) × (printed.text ≡ [])
CausedByTexts hash (Some texts) printed = HasCauses hash texts printed.status × HasCausesInFiles hash texts printed.status

-- of reads; words that are no command are answered by 2
abbrev pub Caused : (List ℕ → List ℕ) → Option NextCommand → List Read → Printed → Type 0
Caused hash None reads printed = printed.status ≡ 2
Caused hash (Some command) reads printed = CausedByTexts hash (texts_read reads) printed

-- ---- the whole

-- an answer with what is known of it
pub record Serves (hash : List ℕ → List ℕ) (command : Option NextCommand) (before now : Around) (status : ℕ) : Type 0 where
  pub answers : Answers hash command before now status
  -- its status comes exactly by its cause
  pub caused : Caused hash command answers.reads (next_answer hash command answers.reads)
  -- what is said of a run, or written of the first lines of one, is what the theorems say of it
  pub shows : Shows hash command answers.reads (next_answer hash command answers.reads)

-- what a call with these words does to what stands around it, and its status
pub record Tells (hash : List ℕ → List ℕ) (words : List (List ℕ)) (before now : Around) (status : ℕ) : Type 0 where
  pub serves : Serves hash (next_words words) before now status ⊎ GivesUp (option_map next_files (next_words words)) before now status
  -- the usage answers nothing but words that are no command
  pub usage : status ≡ 2 → next_words words ≡ None
  -- a fault of the files is answered only where their count rose
  pub unread : status ≡ 3 → RoseBy 1 before.read_faults now.read_faults
  -- a fault of the sink is answered only where its count rose
  pub unwritten : status ≡ 4 → RoseBy 1 before.write_faults now.write_faults
  -- memory never runs out where the words are no command
  pub memory : status ≡ 5 → is_some (next_words words) ≡ true

-- a call that gives the defined answer, or gives up as memory ran out, tells all of this
abbrev pub TellsAll : Type 0
TellsAll = (hash : List ℕ → List ℕ) → HashesBytes hash → (words : List (List ℕ)) (before now : Around) (status : ℕ)
    → AnswersOrGivesUp hash (next_words words) before now status → Tells hash words before now status
