-- The headline of an answer, by the theorems on statuses and on runs.
use Rattle.std.proofs.Common.{◌≡◌, ℕ, Bool, true, false, List, Option, Some, None, sym, ◌∙◌, inl, inr, option_map}
use Rattle.spec_run.specs.Conditions.{HashesBytes}
use Rattle.spec_tool.specs.Reads.{Read, texts_read}
use Rattle.spec_tool.specs.Commands.{Command, files_of}
use Rattle.spec_tool.specs.Answers.{tool_answer, tool_reads, ended}
use Rattle.spec_tool.specs.Causes.{CausesTheorem}
use Rattle.spec_tool.specs.Headline.{HeadlineTheorem}
use Rattle.theory_tool.specs.Ended.{CallsEnd}
use Rattle.theory_tool.specs.Kept.{RunsAreKept}
use Rattle.theory_tool.specs.Statuses.{StatusesTheorem}
use Rattle.theory_play_text.specs.Statements.{PlaysAreRead}
use Rattle.theory_commands.specs.Causes.{CausesInFiles}
use Rattle.theory_commands.specs.Commands.{CommandsShow}
use Rattle.theory_commands.specs.Leave.{LeaveIsMeant}
use Rattle.tool_shell.specs.Around.{Around}
use Rattle.tool_shell.specs.Answered.{GivesUp}
use Rattle.tool_shell.specs.Asked.{are_reads}
use Rattle.tool_shell.proofs.Ended.{ended_with}
use Rattle.tool_shell.proofs.Seen.{some_command}
use Rattle.tool_command.specs.Seen.{HasFew}
use Rattle.tool_headline.specs.Headline.{Answers, AnswersOrGivesUp, Headline, HeadlineOfAnswers}
use Rattle.tool_headline.proofs.Caused.{caused}
use Rattle.tool_headline.proofs.Shown.{shows}

-- the theorems that are cited
pub record Theorems : Type 0 where
  pub causes : CausesTheorem
  pub statuses : StatusesTheorem
  pub ends : CallsEnd
  pub headline : HeadlineTheorem
  pub kept : RunsAreKept
  pub leave : LeaveIsMeant
  pub told : PlaysAreRead
  pub commands : CommandsShow
  pub files : CausesInFiles

-- the reads of a command's files
made_of : (command : Option Command) (reads : List Read) → are_reads (option_map files_of command) reads ≡ true
    → tool_reads command reads ≡ true
made_of None reads e = e
made_of (Some command) reads e = e

module _ (t : Theorems) (hash : List ℕ → List ℕ) (bytes : HashesBytes hash) (command : Option Command) (before now : Around) where
  usage_is : (reads : List Read) → (tool_answer hash command reads).status ≡ 2 → command ≡ None
  usage_is reads e = (t.causes.usage hash command reads).0 e

  unread_is : (c : Option Command) (reads : List Read) → (tool_answer hash c reads).status ≡ 3 → texts_read reads ≡ None
  unread_is None reads e = absurd (cc)
  unread_is (Some c) reads e = (t.causes.unread hash c reads).0 e

  unwritten_is : (reads : List Read) (went : Bool) → 4 ≡ ended (tool_answer hash command reads) went → went ≡ false
  unwritten_is reads went e = ((t.ends.write_failed hash command reads went).0 (sym e)).0

  never_five : (reads : List Read) (went : Bool) → 5 ≡ ended (tool_answer hash command reads) went → ⊥
  never_five reads went e = absurd (let k = t.ends.known hash command reads went in cc)

  of_answer : (status : ℕ) → HasFew command → Answers hash command before now status → Headline hash command before now status
  of_answer status few a = record {
    serves = inl (record {
      answers = a;
      caused = caused t.causes t.statuses t.files hash command a.reads;
      shows = shows t.headline t.kept t.leave t.told t.commands hash bytes command a.reads few (made_of command a.reads a.made);
    });
    usage = λ e. usage_is a.reads (ended_with (tool_answer hash command a.reads) a.ends.went 2 (λ f. absurd (cc)) (sym e ∙ a.ends.status_is));
    unread =
        λ e. a.unread (unread_is command a.reads (ended_with (tool_answer hash command a.reads) a.ends.went 3 (λ f. absurd (cc)) (sym e ∙ a.ends.status_is)));
    unwritten = λ e. a.ends.unwritten (unwritten_is a.reads a.ends.went (sym e ∙ a.ends.status_is));
    memory = λ e. absurd (never_five a.reads a.ends.went (sym e ∙ a.ends.status_is));
  }

  of_none : (status : ℕ) → GivesUp (option_map files_of command) before now status → Headline hash command before now status
  of_none status g = record {
    serves = inr g;
    usage = λ e. absurd (let f = g.status_is in cc);
    unread = λ e. absurd (let f = g.status_is in cc);
    unwritten = λ e. absurd (let f = g.status_is in cc);
    memory = λ e. some_command files_of command g.some;
  }

  pub headline_of : (status : ℕ) → HasFew command → AnswersOrGivesUp hash command before now status → Headline hash command before now status
  headline_of status few (inl a) = of_answer status few a
  headline_of status few (inr g) = of_none status g

pub headlines : Theorems → HeadlineOfAnswers
headlines t hash bytes command before now status few a = headline_of t hash bytes command before now status few a
