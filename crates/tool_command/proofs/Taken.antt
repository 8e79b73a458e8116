-- What runs and contracts are that are taken.
use Rattle.std.proofs.Common.{◌≡◌, ℕ, suc, ◌+◌, List, [], ◌∷◌, length, Some, None, Ok, Err, refl, ap, subst, ◌∙◌}
use Rattle.spec_terms.specs.Advert.{Advert}
use Rattle.spec_run.specs.declared.event.Run.{Run}
use Rattle.spec_text.specs.Refusals.{Judged}
use Rattle.spec_tool.specs.Commands.{JudgedAll, onto_judged}
use Rattle.spec_tool.specs.Reads.{Text}
use Rattle.spec_tool.specs.Answers.{run_in, contract_in, contracts_in}
use Rattle.theory_text.specs.RunFiles.{IsReadRun, RunFileTheorem}
use Rattle.std.specs.Prelude.{Result, IfOk}
use Rattle.tool_command.specs.declared.both.Judgement.{Judgement}
use Rattle.tool_command.specs.declared.both.Judgement.TheVariants.{Refused, Taken}
use Rattle.tool_command.specs.Judges.{IsTaken, IsTakenIfAny, JudgesFiles}
use Rattle.tool_command.proofs.FewEvents.{few_events}

read_run_is : RunFileTheorem → (text : Text) (run : Run) → run_in text ≡ Ok run → IsReadRun run
read_run_is theorem None run e = absurd (cc)
read_run_is theorem (Some text) run e = theorem text run e

-- the run of a file that is taken
pub taken_is : RunFileTheorem → (text : Text) (run : Run) → run_in text ≡ Ok run → IsTaken run
taken_is theorem text run e = record { read = read_run_is theorem text run e; few = few_events text run e }

abbrev Counted : ℕ → JudgedAll → Type 0
Counted n (Ok adverts) = length adverts ≡ n
Counted n (Err refusal) = Unit {0}

onto_counted : (k n : ℕ) (judged : Judged Advert) (later : JudgedAll) → Counted n later → Counted (suc n) (onto_judged k judged later)
onto_counted k n (Err why) later h = tt
onto_counted k n (Ok advert) (Ok adverts) h = ap (λ (m : ℕ). suc m) h
onto_counted k n (Ok advert) (Err refusal) h = tt

counted : (k : ℕ) (texts : List Text) → Counted (length texts) (contracts_in k texts)
counted k [] = refl
counted k (text ∷ texts) = onto_counted k (length texts) (contract_in text) (contracts_in (k + 1) texts) (counted (k + 1) texts)

-- there is one for each file
pub one_each : (texts : List Text) (contracts : List Advert) → contracts_in 0 texts ≡ Ok contracts → length contracts ≡ length texts
one_each texts contracts e = subst (Counted (length texts)) e (counted 0 texts)

-- so it is where its contracts were judged
pub taken_by : {E : Type 0} → RunFileTheorem → (text : Text) (run : Run) → run_in text ≡ Ok run → (texts : List Text) (r : Result Judgement E)
    → IfOk r (JudgesFiles (Ok run) texts) → IfOk r IsTakenIfAny
taken_by theorem text run e texts (Ok (Refused reply)) h = tt
taken_by theorem text run e texts (Ok (Taken taken contracts)) h = taken_is theorem text taken (e ∙ h.run_is)
taken_by theorem text run e texts (Err error) h = tt
