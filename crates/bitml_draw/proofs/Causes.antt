-- Each status that the texts of files are answered with comes exactly by its cause: it is the status of `check`, or of `play`.
use Rattle.std.proofs.Common.{◌≡◌, ℕ, true, List, [], ◌∷◌, Ok, Err, refl, subst, arith}
use Rattle.std.specs.Prelude.{◌↔◌}
use Rattle.spec_data.specs.Lists.{has_number}
use Rattle.spec_terms.specs.Advert.{Advert}
use Rattle.spec_run.specs.declared.event.Event.{Event}
use Rattle.spec_run.specs.declared.event.Run.{Run}
use Rattle.spec_run.specs.Setup.{Setup}
use Rattle.spec_text.specs.PlayText.{Ending, whole, guessed, collided}
use Rattle.spec_text.specs.Played.{ending, play_text}
use Rattle.spec_text.specs.Refusals.{Judged}
use Rattle.spec_tool.specs.Answers.{contract_in, contracts_in, run_in}
use Rattle.spec_tool.specs.Commands.{JudgedAll, check, play, check_judged, ending_status, run_answer, both_judged, setup_of}
use Rattle.spec_tool.specs.Reads.{Text}
use Rattle.theory_commands.specs.Causes.{HasCausesInFiles, CausesInFiles}
use Rattle.draw_replies.specs.declared.form.Form.{Form}
use Rattle.draw_replies.specs.DrawnTexts.{run_drawn, sheet_judged, drawn_texts}
use Rattle.bitml_draw.specs.Causes.{HasCauses}

-- ---- the statuses that there are

abbrev pub numbers : List ℕ
numbers = 0 ∷ (1 ∷ (6 ∷ (7 ∷ (8 ∷ []))))

of_ending : (end : Ending) → has_number (ending_status end) numbers ≡ true
of_ending (whole tip live g offers) = refl
of_ending (guessed event party secret) = refl
of_ending (collided event earlier later) = refl

-- of a run and its contracts, whatever is shown of them
known_run : (shown : Setup → List Event → List ℕ) (hash : List ℕ → List ℕ) (run : Judged Run) (contracts : JudgedAll)
    → has_number (both_judged (run_answer shown) hash run contracts).status numbers ≡ true
known_run shown hash (Err why) contracts = refl
known_run shown hash (Ok run) (Err refusal) = refl
known_run shown hash (Ok run) (Ok adverts) = of_ending (ending (setup_of hash run adverts) run.events)

module _ (form : Form) (title : List ℕ) where
  known_contract : (contract : Judged Advert) → has_number (sheet_judged title contract).status numbers ≡ true
  known_contract (Err why) = refl
  known_contract (Ok advert) = refl

  -- of the texts of one file or more
  pub known : (hash : List ℕ → List ℕ) (first : Text) (more : List Text)
      → has_number (drawn_texts form title hash (first ∷ more)).status numbers ≡ true
  known hash contract [] = known_contract (contract_in contract)
  known hash run (contract ∷ contracts) = known_run (run_drawn form title) hash (run_in run) (contracts_in 0 (contract ∷ contracts))

-- ---- what they come by

-- what is shown of a run is all one to its status
same_run : (shown : Setup → List Event → List ℕ) (hash : List ℕ → List ℕ) (run : Judged Run) (contracts : JudgedAll)
    → (both_judged (run_answer play_text) hash run contracts).status ≡ (both_judged (run_answer shown) hash run contracts).status
same_run shown hash (Err why) contracts = refl
same_run shown hash (Ok run) (Err refusal) = refl
same_run shown hash (Ok run) (Ok adverts) = refl

same_contract : (title : List ℕ) (contract : Judged Advert) → (check_judged contract).status ≡ (sheet_judged title contract).status
same_contract title (Err why) = refl
same_contract title (Ok advert) = refl

module _ (files : CausesInFiles) (form : Form) (title : List ℕ) (hash : List ℕ → List ℕ) where
  of_check : (contract : Text) (n : ℕ) → HasCausesInFiles hash (check []) (contract ∷ []) n → HasCauses hash (contract ∷ []) n
  of_check contract n c = record {
    whole = c.whole;
    contract_refused = c.contract_refused;
    run_refused = c.run_refused;
    guessed = c.guessed;
    collided = c.collided;
  }

  of_play : (run contract : Text) (contracts : List Text) (n : ℕ) → HasCausesInFiles hash (play [] []) (run ∷ contract ∷ contracts) n
      → HasCauses hash (run ∷ contract ∷ contracts) n
  of_play run contract contracts n c = record {
    whole = c.whole;
    contract_refused = c.contract_refused;
    run_refused = c.run_refused;
    guessed = c.guessed;
    collided = c.collided;
  }

  -- neither is the usage, nor comes a cause
  not_two : (n : ℕ) → (2 ≡ n → ⊥) → (2 ≡ n) ↔ ⊥
  not_two n other = (other, λ x. absurd x)

  pub causes : (texts : List Text) → HasCauses hash texts (drawn_texts form title hash texts).status
  causes [] = record {
    whole = not_two 0 (λ e. omega (arith, e));
    contract_refused = not_two 1 (λ e. omega (arith, e));
    run_refused = not_two 6 (λ e. omega (arith, e));
    guessed = not_two 7 (λ e. omega (arith, e));
    collided = not_two 8 (λ e. omega (arith, e));
  }
  causes (contract ∷ []) =
      subst (HasCauses hash (contract ∷ [])) (same_contract title (contract_in contract))
      (of_check contract _ (files hash (check []) (contract ∷ [])))
  causes (run ∷ contract ∷ contracts) =
      subst (HasCauses hash (run ∷ contract ∷ contracts)) (same_run (run_drawn form title) hash (run_in run) (contracts_in 0 (contract ∷ contracts)))
      (of_play run contract contracts _ (files hash (play [] []) (run ∷ contract ∷ contracts)))
