-- Each status that texts are answered with comes exactly by its cause in the files, and a file that is refused is said.
use Rattle.std.proofs.Common.{◌≡◌, ℕ, ◌↔◌, true, false, List, [], ◌∷◌, Option, refl, ap}
use Rattle.std.proofs.lemmas.Bool.{false≢true}
use Rattle.spec_next.specs.declared.form.Form.{Form}
use Rattle.spec_next.specs.Foreseen.{next_printed}
use Rattle.spec_next.specs.NextAnswer.{begins_judged, next_texts}
use Rattle.spec_tool.specs.Answers.{contract_in, contracts_in, run_in, if_whole}
use Rattle.spec_tool.specs.Reads.{Text}
use Rattle.theory_tool.specs.Runs.{IsGuessing}
use Rattle.theory_tool.specs.Statuses.{OfRun, PlaysFiles}
use Rattle.theory_commands.specs.Causes.{RunsHeld}
use Rattle.theory_commands.specs.Refused.{FilesAreJudged}
use Rattle.theory_commands.proofs.Causes.{files}
use Rattle.theory_commands.proofs.Files.{of_contract}
use Rattle.bitml_next.specs.Causes.{Collision, NoHalt, AllIsWell, Plays, HasCauses, is_run_refused, is_contract_refused}
use Rattle.bitml_next.specs.Files.{RunRefused, ContractRefused, PlaysHeld, AllIsHeld, HasCausesInFiles, SaysRefusals}

-- ---- equivalences

both : {A B C : Type 0} → A ↔ B → B ↔ C → A ↔ C
both f g = (λ a. g.0 (f.0 a), λ c. f.1 (g.1 c))

same : {A : Type 0} → A ↔ A
same = (λ a. a, λ a. a)

neither : {A B : Type 0} → (A → ⊥) → (B → ⊥) → A ↔ B
neither f g = (λ a. absurd (f a), λ b. absurd (g b))

module _ (t : FilesAreJudged) (hash : List ℕ → List ℕ) where
  -- ---- causes

  played : (claim : OfRun) (run : Text) (contracts : List Text)
      → PlaysFiles hash claim (run_in run) (contracts_in 0 contracts) ↔ RunsHeld hash claim run contracts
  played claim run contracts = files hash claim claim (λ s es. same) run contracts

  all_is_held : (texts : List Text) → AllIsWell hash texts ↔ AllIsHeld hash texts
  all_is_held [] = same
  all_is_held (contract ∷ []) = t.contract_taken contract
  all_is_held (run ∷ contract ∷ contracts) = played NoHalt run (contract ∷ contracts)

  contract_refused : (texts : List Text)
      → ((is_run_refused texts ≡ false) × (is_contract_refused texts ≡ true)) ↔ ContractRefused texts
  contract_refused [] = neither (λ x. false≢true (x.1)) (λ x. x)
  contract_refused (contract ∷ []) = (λ x. (t.contract_refused contract).0 (x.1), λ r. (refl, (t.contract_refused contract).1 r))
  contract_refused (run ∷ contract ∷ contracts) = (
    λ x. ((t.run_taken run).0 (x.0), (t.contracts_refused (contract ∷ contracts)).0 (x.1)),
    λ x. ((t.run_taken run).1 (x.0), (t.contracts_refused (contract ∷ contracts)).1 (x.1)),
  )

  run_refused : (texts : List Text) → (is_run_refused texts ≡ true) ↔ RunRefused texts
  run_refused [] = neither false≢true (λ x. x)
  run_refused (contract ∷ []) = neither false≢true (λ x. x)
  run_refused (run ∷ contract ∷ contracts) = t.run_refused run

  guessed : (texts : List Text) → Plays hash IsGuessing texts ↔ PlaysHeld hash IsGuessing texts
  guessed [] = same
  guessed (contract ∷ []) = same
  guessed (run ∷ contract ∷ contracts) = played IsGuessing run (contract ∷ contracts)

  collided : (texts : List Text) → Plays hash Collision texts ↔ PlaysHeld hash Collision texts
  collided [] = same
  collided (contract ∷ []) = same
  collided (run ∷ contract ∷ contracts) = played Collision run (contract ∷ contracts)

  pub in_files : (texts : List Text) (status : ℕ) → HasCauses hash texts status → HasCausesInFiles hash texts status
  in_files texts status c = record {
    whole = both c.whole (all_is_held texts);
    contract_refused = both c.contract_refused (contract_refused texts);
    run_refused = both c.run_refused (run_refused texts);
    guessed = both c.guessed (guessed texts);
    collided = both c.collided (collided texts);
  }

  -- ---- what is said

  pub says_refusals : (form : Form) (party : Option (List ℕ)) (texts : List Text) → SaysRefusals texts (next_texts hash form party texts)
  says_refusals form party [] = tt
  says_refusals form party (contract ∷ []) =
      of_contract contract (begins_judged (contract_in contract)) (λ advert. Unit {0}) (λ advert h e. tt) (λ why e. ap begins_judged e)
  says_refusals form party (run ∷ contract ∷ contracts) = t.said (if_whole (next_printed form party)) hash run (contract ∷ contracts)
