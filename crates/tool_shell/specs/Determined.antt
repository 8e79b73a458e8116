-- What is claimed of two calls with the same words over the same files.
use Rattle.std.specs.Prelude.{◌≡◌, ℕ, List, ◌++◌, Option, Some}
use Rattle.spec_tool.specs.Reads.{Asked, Read}
use Rattle.spec_tool.specs.Commands.{Printed}
use Rattle.bm_io.specs.Files.{Told}
use Rattle.bm_io.specs.Logs.{Reply}
use Rattle.tool_shell.specs.Around.{Around, with_text}
use Rattle.tool_shell.specs.Answered.{AnswersBy}

-- both calls end with one status, and write one text whole
pub record AnswersAlike (first first_now second second_now : Around) (status other : ℕ) : Type 0 where
  pub text : List ℕ
  pub first_text : first_now.written ≡ with_text text first.written
  pub second_text : second_now.written ≡ with_text text second.written
  pub status_is : status ≡ other

-- Two calls that ask for the same files, both answered, over files that tell the same of themselves: unless a write failed, their
-- statuses and their texts are the same. So nothing but the words and the files has a part in an answer.
abbrev pub FilesDetermineAnswers : Type 0
FilesDetermineAnswers =
    (answers : List Read → Printed) (files : Option (List Asked)) (told : Told) (first first_now second second_now : Around)
    (status other : ℕ)
    → first.told ≡ Some told → second.told ≡ Some told
    → AnswersBy answers files first first_now status → AnswersBy answers files second second_now other
    → (status ≡ 4 → ⊥) → (other ≡ 4 → ⊥)
    → AnswersAlike first first_now second second_now status other

-- The same of any files, whether or not they tell of themselves: two calls that ask for the same files, both answered, after which the log
-- has the same new entries.
abbrev pub LogsDetermineAnswers : Type 0
LogsDetermineAnswers =
    (answers : List Read → Printed) (files : Option (List Asked)) (new : List Reply) (first first_now second second_now : Around)
    (status other : ℕ)
    → first_now.log ≡ first.log ++ new → second_now.log ≡ second.log ++ new
    → AnswersBy answers files first first_now status → AnswersBy answers files second second_now other
    → (status ≡ 4 → ⊥) → (other ≡ 4 → ⊥)
    → AnswersAlike first first_now second second_now status other
