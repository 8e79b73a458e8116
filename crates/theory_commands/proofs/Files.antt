-- What is answered of a file is shown of what it holds, or said of why it is refused.
use Rattle.std.proofs.Common.{◌≡◌, ℕ, List, [], ◌∷◌, Ok, Err, refl, sym, ap, subst, ◌∙◌, inl, inr}
use Rattle.std.specs.Prelude.{◌⊎◌, ◌↔◌}
use Rattle.spec_terms.specs.Advert.{Advert}
use Rattle.spec_run.specs.declared.event.Event.{Event}
use Rattle.spec_run.specs.declared.event.Run.{Run}
use Rattle.spec_run.specs.Setup.{Setup}
use Rattle.spec_text.specs.PlayText.{Ending, whole, guessed, collided}
use Rattle.spec_text.specs.Played.{ending}
use Rattle.spec_text.specs.PlanText.{unless_halted}
use Rattle.spec_text.specs.Refusals.{Judged}
use Rattle.spec_tool.specs.Reads.{Text, text_at}
use Rattle.spec_tool.specs.Commands.{Printed, prints, JudgedAll, onto_judged, contract_refused, run_refused, setup_of, ending_status}
use Rattle.spec_tool.specs.Commands.{contracts_judged, both_judged}
use Rattle.spec_tool.specs.Answers.{contract_in, run_in, contracts_in, with_contract, unless_stopped, if_whole}
use Rattle.theory_tool.specs.Auto.{HaltIsAnswered}
use Rattle.theory_tool.specs.Runs.{IsUnhalted}
use Rattle.theory_tool.proofs.Runs.{runs_halt}
use Rattle.theory_commands.specs.Files.{Judges, ShowsContract, ShowsRun, ShowsPlayed, IfWhole}
use Rattle.theory_commands.specs.ContractFiles.{HoldsContract, IsRefusedContract, refusal_text}
use Rattle.theory_commands.specs.RunFiles.{HoldsRun, IsRefusedRun, run_refusal_text}
use Rattle.theory_commands.proofs.ContractFiles.{contracts_read}
use Rattle.theory_commands.proofs.RunFiles.{run_files_read}

-- ---- one file

-- what is answered to a judgement is said of each case
module _ {A R : Type 0} (judged : Judged A) (holds : A → Type 0) (refuses : R → Type 0) (text : R → List ℕ)
    (read : (a : A) → (judged ≡ Ok a) ↔ holds a)
    (refused : (why : List ℕ) → (judged ≡ Err why) ↔ ((r : R) × refuses r × (why ≡ text r))) where
  one_of : (j : Judged A) → judged ≡ j → ((a : A) × holds a) ⊎ ((r : R) × refuses r)
  one_of (Ok a) e = inl (a, (read a).0 e)
  one_of (Err why) e = let x = (refused why).0 e in inr (x.0, x.1)

  pub judges : (shown : A → Type 0) (said : R → Type 0) → ((a : A) → holds a → judged ≡ Ok a → shown a)
      → ((r : R) → judged ≡ Err (text r) → said r) → Judges holds refuses shown said
  judges shown said f g = record {
    taken = λ a h. f a h ((read a).1 h);
    refused = λ r h. g r ((refused (text r)).1 (r, h, refl));
    either = one_of judged refl;
  }

-- of a contract file
pub of_contract : (text : Text) (printed : Printed) (shown : Advert → Type 0)
    → ((advert : Advert) → HoldsContract text advert → contract_in text ≡ Ok advert → shown advert)
    → ((why : List ℕ) → contract_in text ≡ Err why → printed ≡ contract_refused 0 why) → ShowsContract text printed shown
of_contract text printed shown f g =
    judges (contract_in text) (HoldsContract text) (IsRefusedContract text) refusal_text (contracts_read.read text)
    (contracts_read.refused text)
    shown (λ r. printed ≡ contract_refused 0 (refusal_text r)) f (λ r e. g (refusal_text r) e)

-- of a run file
pub of_run : (text : Text) (printed : Printed) (shown : Run → Type 0)
    → ((run : Run) → HoldsRun text run → run_in text ≡ Ok run → shown run)
    → ((why : List ℕ) → run_in text ≡ Err why → printed ≡ run_refused why) → ShowsRun text printed shown
of_run text printed shown f g =
    judges (run_in text) (HoldsRun text) (IsRefusedRun text) run_refusal_text (run_files_read.read text) (run_files_read.refused text)
    shown (λ r. printed ≡ run_refused (run_refusal_text r)) f (λ r e. g (run_refusal_text r) e)

-- ---- run and contract

module _ (answer : Setup → List Event → Printed) (hash : List ℕ → List ℕ) (texts : List Text) where
  abbrev run_text : Text
  run_text = text_at texts 0

  abbrev contract_text : Text
  contract_text = text_at texts 1

  -- the contract alone, as it is judged
  abbrev alone : Judged Advert → JudgedAll
  alone judged = onto_judged 0 judged (Ok [])

  run_is : (run : Run) → run_in run_text ≡ Ok run
      → with_contract answer hash texts ≡ contracts_judged answer hash run (contracts_in 0 (contract_text ∷ []))
  run_is run e = ap (λ (j : Judged Run). both_judged answer hash j (contracts_in 0 (contract_text ∷ []))) e

  run_refused_is : (why : List ℕ) → run_in run_text ≡ Err why → with_contract answer hash texts ≡ run_refused why
  run_refused_is why e = ap (λ (j : Judged Run). both_judged answer hash j (contracts_in 0 (contract_text ∷ []))) e

  contract_is : (run : Run) (advert : Advert) → run_in run_text ≡ Ok run → contract_in contract_text ≡ Ok advert
      → with_contract answer hash texts ≡ answer (setup_of hash run (advert ∷ [])) run.events
  contract_is run advert e c =
      run_is run e ∙ ap (λ (j : Judged Advert). contracts_judged answer hash run (alone j)) c

  contract_refused_is : (run : Run) (why : List ℕ) → run_in run_text ≡ Ok run → contract_in contract_text ≡ Err why
      → with_contract answer hash texts ≡ contract_refused 0 why
  contract_refused_is run why e c =
      run_is run e ∙ ap (λ (j : Judged Advert). contracts_judged answer hash run (alone j)) c

  -- what is shown of the answer to the run with the contract is shown of the whole answer
  pub played : (shown : Setup → List Event → Printed → Type 0)
      → ((run : Run) (advert : Advert) → HoldsRun run_text run → HoldsContract contract_text advert
      → shown (setup_of hash run (advert ∷ [])) run.events (answer (setup_of hash run (advert ∷ [])) run.events))
      → ShowsPlayed hash texts (with_contract answer hash texts) (λ s es. shown s es (with_contract answer hash texts))
  played shown f =
      of_run run_text (with_contract answer hash texts)
      (λ run. ShowsContract contract_text (with_contract answer hash texts)
      (λ advert. shown (setup_of hash run (advert ∷ [])) run.events (with_contract answer hash texts)))
      (λ run h e. of_contract contract_text (with_contract answer hash texts)
      (λ advert. shown (setup_of hash run (advert ∷ [])) run.events (with_contract answer hash texts))
      (λ advert k c.
      subst (λ (p : Printed). shown (setup_of hash run (advert ∷ [])) run.events p) (sym (contract_is run advert e c)) (f run advert h k))
      (λ why c. contract_refused_is run why e c))
      run_refused_is

-- ---- runs that may be halted

-- where a run isn't halted, what is answered of such a one is answered
stopped_whole : (n : ℕ) (end : Ending) (printed : Printed) → n ≡ 0 → unless_stopped n end printed ≡ printed
stopped_whole n end printed e = ap (λ (k : ℕ). unless_stopped k end printed) e

stopped_halted : (end : Ending) (printed : Printed) → HaltIsAnswered end (unless_stopped (ending_status end) end printed)
stopped_halted (whole tip live g offers) printed = tt
stopped_halted (guessed event party secret) printed = refl
stopped_halted (collided event earlier later) printed = refl

pub unhalted : (s : Setup) (es : List Event) → IsUnhalted s es → ending_status (ending s es) ≡ 0
unhalted s es u = (runs_halt.whole s es).1 u

-- of an answer for runs that aren't halted
pub of_whole : (answer : Setup → List Event → Printed) (s : Setup) (es : List Event) (shown : Printed → Type 0)
    → (IsUnhalted s es → shown (answer s es)) → IfWhole s es (if_whole answer s es) (shown (if_whole answer s es))
of_whole answer s es shown f = record {
  whole = λ u. subst shown (sym (stopped_whole (ending_status (ending s es)) (ending s es) (answer s es) (unhalted s es u))) (f u);
  halted = stopped_halted (ending s es) (answer s es);
}

-- of a text that is the line of the halt where there is one
pub text_halted : (end : Ending) (text : List ℕ) → HaltIsAnswered end (prints (ending_status end) (unless_halted end text))
text_halted (whole tip live g offers) text = tt
text_halted (guessed event party secret) text = refl
text_halted (collided event earlier later) text = refl

pub text_whole : (end : Ending) (text : List ℕ) → ending_status end ≡ 0
    → prints (ending_status end) (unless_halted end text) ≡ prints 0 text
text_whole (whole tip live g offers) text e = refl
text_whole (guessed event party secret) text e = absurd (cc)
text_whole (collided event earlier later) text e = absurd (cc)
