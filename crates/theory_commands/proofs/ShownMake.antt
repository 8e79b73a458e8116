-- What `make` shows are the counts of the run that it makes.
use Rattle.std.proofs.Common.{◌≡◌, ℕ, List, length, ap, ◌∙◌}
use Rattle.spec_run.specs.declared.event.Event.{Event}
use Rattle.spec_run.specs.Conditions.{HashesBytes}
use Rattle.spec_run.specs.Setup.{Setup}
use Rattle.spec_run.specs.Translation.{translated, last_configuration, last_world}
use Rattle.spec_text.specs.Generator.{generated_run}
use Rattle.spec_text.specs.PlanText.{counts_text, step_count, make_text}
use Rattle.spec_text.specs.Played.{ending}
use Rattle.spec_tool.specs.Commands.{Printed, prints, make_answer}
use Rattle.theory_generator.proofs.ContractText.{contract_taken}
use Rattle.theory_generator.proofs.RunTexts.{run_taken}
use Rattle.theory_generator.proofs.RunsPlay.{run_plays}
use Rattle.theory_run.proofs.Simulated.{simulation}
use Rattle.theory_commands.specs.Files.{IfWhole}
use Rattle.theory_commands.specs.Shown.Counts.{said_numbers}
use Rattle.theory_commands.specs.Shown.Make.{generated_setup, run_numbers, Counts, ShowsMake}
use Rattle.theory_commands.proofs.CountsRead.{numbers_read}
use Rattle.theory_commands.proofs.Files.{unhalted, text_halted, text_whole}

-- the text of counts is read as them
counted : (s : Setup) (es : List Event) (printed : Printed)
    → printed ≡ prints 0 (counts_text (length es) (step_count (translated s es)) (last_configuration s es) (last_world s es))
    → Counts s es printed
counted s es printed e = record {
  answer = e;
  read = λ below. ap (λ (p : Printed). said_numbers p.text) e ∙ numbers_read (run_numbers s es) below;
}

module _ (hash : List ℕ → List ℕ) (number size : ℕ) where
  counts_shown : IfWhole (generated_setup hash number size) (generated_run number size).events (make_answer hash number size)
      (Counts (generated_setup hash number size) (generated_run number size).events (make_answer hash number size))
  unfolding make_text
  counts_shown =
      let s = generated_setup hash number size in
      let es = (generated_run number size).events in
      let text = counts_text (length es) (step_count (translated s es)) (last_configuration s es) (last_world s es) in
      record {
        whole = λ u. counted s es (make_answer hash number size) (text_whole (ending s es) text (unhalted s es u));
        halted = text_halted (ending s es) text;
      }

pub make_shown : (hash : List ℕ → List ℕ) → HashesBytes hash → (number size : ℕ) → ShowsMake hash number size (make_answer hash number size)
make_shown hash bytes number size few = record {
  contract = contract_taken number size few;
  run = run_taken number size few;
  is_run = λ opens. run_plays hash bytes number size few opens;
  simulates = λ opens. simulation (generated_setup hash number size) (generated_run number size).events (run_plays hash bytes number size few opens);
  counts = counts_shown hash number size;
}
