-- What a call does: it answers the reads of its files, or gives up as memory ran out.
use Rattle.std.specs.Prelude.{◌≡◌, ℕ, List, true, ◌⊎◌, Option, Some, None, is_some, Result, Ok, Err, IfOk, IfSome}
use Rattle.spec_tool.specs.Reads.{Asked, Read, Text, texts_read}
use Rattle.spec_tool.specs.Commands.{Printed, usage}
use Rattle.bm_io.specs.Counts.{RoseBy}
use Rattle.tool_shell.specs.Files.{Tells, AsksPrefix}
use Rattle.tool_shell.specs.Logs.{Logs, LogsPrefix}
use Rattle.tool_shell.specs.Around.{Around, Ends}
use Rattle.tool_shell.specs.Asked.{all_asked, are_reads}

-- The files that are asked for are read in order, up to the first read that fails, and no other: these reads are the new entries of
-- the log. What is written is what these answers give to the reads.
pub record AnswersBy (answers : List Read → Printed) (files : Option (List Asked)) (before now : Around) (status : ℕ) : Type 0 where
  pub reads : List Read
  pub made : are_reads files reads ≡ true
  pub logged : Logs before.log now.log before.taken now.taken (all_asked files) reads
  -- where files tell their content, it fixes the reads, and which names were asked for
  pub told : Tells before.told now.told (all_asked files) reads
  -- a read fails only where the count of faults rose
  pub unread : texts_read reads ≡ None → RoseBy 1 before.read_faults now.read_faults
  pub ends : Ends (answers reads) before.written now.written before.write_faults now.write_faults status

-- Memory was missing: nothing is written, the status is 5, and at most a prefix of the files was asked for. Of words that are no
-- command no memory is asked.
pub record GivesUp (files : Option (List Asked)) (before now : Around) (status : ℕ) : Type 0 where
  pub some : is_some files ≡ true
  pub status_is : status ≡ 5
  pub written : now.written ≡ before.written
  pub logged : LogsPrefix before.log now.log (all_asked files)
  pub told : AsksPrefix before.told now.told (all_asked files)

-- one of the two
abbrev pub AnswersByOrGivesUp : (List Read → Printed) → Option (List Asked) → Around → Around → ℕ → Type 0
AnswersByOrGivesUp answers files before now status = AnswersBy answers files before now status ⊎ GivesUp files before now status

-- what is done of what words were read as: a command, none, or nothing as memory ran out
abbrev pub Answered : {C E : Type 0} → (C → List Asked) → (C → Option (List Text) → Printed) → Result (Option C) E → Around → Around → ℕ
    → Type 0
Answered asks answers (Ok None) before now status = AnswersByOrGivesUp (λ reads. usage) None before now status
Answered asks answers (Ok (Some call)) before now status =
    AnswersByOrGivesUp (λ reads. answers call (texts_read reads)) (Some (asks call)) before now status
Answered asks answers (Err error) before now status = (status ≡ 5) × (now ≡ before)

-- of the command, where the words are one
abbrev pub IfCall : {C E : Type 0} → (C → Type 0) → Result (Option C) E → Type 0
IfCall claim parsed = IfOk parsed (λ call. IfSome call claim)
