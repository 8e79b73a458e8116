-- The generated run with the generated contract is a run of which the theorems on runs speak, and it is what is played of their texts.
use Rattle.std.proofs.Common.{◌≡◌, ℕ, List, [], ◌∷◌, Ok, refl, ap, ◌∙◌, arith}
use Rattle.spec_terms.specs.Advert.{Advert}
use Rattle.spec_run.specs.declared.event.Run.{Run}
use Rattle.spec_text.specs.Canonical.{advert_text}
use Rattle.spec_text.specs.Generator.{generated_contract, generated_run}
use Rattle.spec_text.specs.Played.{play_text}
use Rattle.spec_text.specs.Refusals.{Judged, contract_of, run_of}
use Rattle.spec_text.specs.RunText.{run_text}
use Rattle.spec_tool.specs.Commands.{onto_judged, contracts_from, setup_of, run_answer, contracts_judged, both_judged, play_answer}
use Rattle.theory_text.proofs.Lines.ValidRuns.{run_file_is}
use Rattle.theory_generator.specs.GeneratedRuns.{GeneratedRunsPlay, GeneratedTextsPlayed}
use Rattle.theory_generator.proofs.ContractText.{contract_taken}
use Rattle.theory_generator.proofs.RunTexts.{run_taken}
use Rattle.theory_generator.proofs.WellFormed.{generated_well_formed}

pub run_plays : GeneratedRunsPlay
run_plays hash bytes number size few opens =
    let run = generated_run number size in
    let is = run_file_is (run_text run) run (run_taken number size few).taken in
    record {
      setup = record { hash = bytes; header = is.header; few_contracts = omega arith; contracts = (generated_well_formed number size few, tt) };
      opens = opens;
      events = is.events (setup_of hash run (generated_contract number size ∷ [])) refl;
    }

-- a contract alone
one_judged : (text : List ℕ) (a : Advert) → contract_of text ≡ Ok a → contracts_from 0 (text ∷ []) ≡ Ok (a ∷ [])
one_judged text a h = ap (λ (judged : Judged Advert). onto_judged 0 judged (Ok [])) h

play_both : (hash : List ℕ → List ℕ) (text : List ℕ) (texts : List (List ℕ)) (run : Run) (adverts : List Advert)
    → run_of text ≡ Ok run → contracts_from 0 texts ≡ Ok adverts
    → play_answer hash text texts ≡ run_answer play_text (setup_of hash run adverts) run.events
play_both hash text texts run adverts r c =
    ap (λ (judged : Judged Run). both_judged (run_answer play_text) hash judged (contracts_from 0 texts)) r
    ∙ ap (contracts_judged (run_answer play_text) hash run) c

pub texts_played : GeneratedTextsPlayed
texts_played hash number size few =
    let run = generated_run number size in
    let contract = generated_contract number size in
    let contracts = one_judged (advert_text contract) contract (contract_taken number size few).taken in
    record {
      contracts = contracts;
      played = play_both hash (run_text run) (advert_text contract ∷ []) run (contract ∷ []) (run_taken number size few).taken contracts;
    }
