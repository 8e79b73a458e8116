-- What the code says of files, against how they are judged.
use Rattle.std.specs.Prelude.{◌≡◌, ◌≤◌, ℕ, List, ◌++◌, length, Result, Ok, Err}
use Rattle.spec_terms.specs.Advert.{Advert}
use Rattle.spec_text.specs.Limits.{most_events}
use Rattle.spec_text.specs.Refusals.{Judged}
use Rattle.spec_run.specs.declared.event.Event.{Event}
use Rattle.spec_run.specs.declared.event.Run.{Run}
use Rattle.spec_run.specs.Setup.{Setup}
use Rattle.theory_text.specs.RunFiles.{IsReadRun}
use Rattle.spec_tool.specs.Commands.{Printed, JudgedAll, both_judged}
use Rattle.spec_tool.specs.Reads.{Text}
use Rattle.spec_tool.specs.Answers.{contracts_in}
use Rattle.spec_tool.specs.Replies.{printed}
use Rattle.spec_tool.specs.declared.reply.Reply.{Reply}
use Rattle.tool_command.specs.declared.both.Judgement.{Judgement}
use Rattle.tool_command.specs.declared.both.Judgement.TheVariants.{Refused, Taken}
use Rattle.tool_command.specs.declared.error.JudgeError.{JudgeError}
use Rattle.tool_command.specs.declared.error.JudgeError.TheVariants as one
use Rattle.tool_command.specs.declared.error.ContractsError.{ContractsError}
use Rattle.tool_command.specs.declared.error.ContractsError.TheVariants as all

-- a file is refused in these words, unless memory ran out
abbrev pub Refuses : {A : Type 0} → JudgeError → Judged A → Type 0
Refuses (one.Refused why) judged = judged ≡ Err why
Refuses one.Memory judged = Unit {0}

-- what is answered is how the file is judged, unless memory ran out
abbrev pub Judges : {A : Type 0} → Result A JudgeError → Judged A → Type 0
Judges (Ok x) judged = judged ≡ Ok x
Judges (Err error) judged = Refuses error judged

-- the first that is refused is this, for these words, unless memory ran out
abbrev pub RefusesOne : ContractsError → JudgedAll → Type 0
RefusesOne (all.Refused k why) judged = judged ≡ Err (k, why)
RefusesOne all.Memory judged = Unit {0}

-- what is answered is how contracts are judged, seen by a view of those that are taken, unless memory ran out
abbrev pub JudgesAll : {V : Type 0} → (V → List Advert) → Result V ContractsError → JudgedAll → Type 0
JudgesAll view (Ok taken) judged = judged ≡ Ok (view taken)
JudgesAll view (Err error) judged = RefusesOne error judged

-- contracts that were taken before others that are judged
abbrev pub behind : List Advert → JudgedAll → JudgedAll
behind prefix (Ok adverts) = Ok (prefix ++ adverts)
behind prefix (Err refusal) = Err refusal

-- ---- run and contracts

-- whatever is answered of a run and its contracts, this is replied here
abbrev pub Replies : Judged Run → JudgedAll → Reply → Type 0
Replies run contracts reply =
    (answer : Setup → List Event → Printed) (hash : List ℕ → List ℕ) → both_judged answer hash run contracts ≡ printed reply

-- run and contracts are taken
pub record Takes (run : Judged Run) (texts : List Text) (taken : Run) (contracts : List Advert) : Type 0 where
  pub run_is : run ≡ Ok taken
  pub contracts_are : contracts_in 0 texts ≡ Ok contracts
  pub one_each : length contracts ≡ length texts

-- the contracts of these files are judged, the run before them
abbrev pub JudgesFiles : Judged Run → List Text → Judgement → Type 0
JudgesFiles run texts (Refused reply) = Replies run (contracts_in 0 texts) reply
JudgesFiles run texts (Taken taken contracts) = Takes run texts taken contracts.items

-- a run that is taken is one of which the theorems on runs speak, and has no more events than it may have
pub record IsTaken (run : Run) : Type 0 where
  pub read : IsReadRun run
  pub few : length run.events ≤ most_events

-- so is the run, where it is taken
abbrev pub IsTakenIfAny : Judgement → Type 0
IsTakenIfAny (Refused reply) = Unit {0}
IsTakenIfAny (Taken taken contracts) = IsTaken taken
