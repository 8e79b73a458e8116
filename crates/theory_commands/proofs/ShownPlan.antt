-- What `plan` and `weigh` show are the transactions of the contract in the run's last world.
use Rattle.std.proofs.Common.{◌≡◌, ℕ, List, [], ◌∷◌, ◌++◌, Option, Some, None, refl, sym, ap, subst}
use Rattle.spec_terms.specs.Advert.{Advert}
use Rattle.spec_terms.specs.Faults.{IsWellFormed}
use Rattle.spec_compiler.specs.Instance.{Instance}
use Rattle.spec_run.specs.declared.event.Event.{Event}
use Rattle.spec_run.specs.declared.event.Run.{Run}
use Rattle.spec_run.specs.Compiled.{compiled_instance}
use Rattle.spec_run.specs.Conditions.{HashesBytes}
use Rattle.spec_run.specs.Setup.{Setup}
use Rattle.spec_run.specs.Translation.{last_world}
use Rattle.spec_text.specs.PlanText.{plan_text, setting_text}
use Rattle.spec_text.specs.Played.{ending}
use Rattle.spec_text.specs.RunText.{newline}
use Rattle.spec_tool.specs.Answers.{with_contract, if_whole, printed_of}
use Rattle.spec_tool.specs.Commands.{prints, setup_of, run_answer}
use Rattle.spec_tool.specs.Reads.{Text, text_at}
use Rattle.spec_tool.specs.WeighText.{plan_value, weigh_text}
use Rattle.theory_psbt.specs.Listed.{SignersForEach}
use Rattle.theory_script.specs.Listed.{PathsAreListed, ScriptsAreListed, PathsInOrder}
use Rattle.theory_script.specs.Money.{MoneyIsKept}
use Rattle.theory_tool.specs.Runs.{IsUnhalted}
use Rattle.theory_plan_text.proofs.Plans.{plan_back}
use Rattle.theory_weights.specs.Bounds.{WeightsAreBounds}
use Rattle.theory_weights.specs.Runs.{WeightsAddUp, TotalsBoundRuns}
use Rattle.theory_weights.specs.Sizes.{WeightsBySizes}
use Rattle.theory_commands.specs.ContractFiles.{HoldsContract}
use Rattle.theory_commands.specs.Files.{ShowsPlayed, IfWhole}
use Rattle.theory_commands.specs.RunFiles.{HoldsRun}
use Rattle.theory_commands.specs.Shown.Plan.{IsPlanned, PlansIf, ShowsPlan, WeighsIf, ShowsWeights}
use Rattle.theory_commands.proofs.Files.{played, of_whole, unhalted, text_halted, text_whole}
use Rattle.theory_commands.proofs.Played.{calm, well_formed, is_run, known_run, advert_is}

-- the theorems that are cited of a contract's transactions
pub record Theorems : Type 0 where
  pub paths : PathsAreListed
  pub scripts : ScriptsAreListed
  pub in_order : PathsInOrder
  pub money : MoneyIsKept
  pub bounds : WeightsAreBounds
  pub sums : WeightsAddUp
  pub totals : TotalsBoundRuns
  pub sizes : WeightsBySizes
  pub signers : SignersForEach

module _ (t : Theorems) (hash : List ℕ → List ℕ) (bytes : HashesBytes hash) where
  planned : (instance : Instance) → IsWellFormed instance.advert → IsPlanned hash instance
  planned instance well = record {
    in_order = t.in_order hash instance;
    paths = t.paths hash instance;
    scripts = t.scripts hash instance;
    money = t.money hash instance well;
  }

  module _ (run_text contract_text : Text) (run : Run) (advert : Advert)
      (h : HoldsRun run_text run) (k : HoldsContract contract_text advert) where
    abbrev s : Setup
    s = setup_of hash run (advert ∷ [])

    abbrev es : List Event
    es = run.events

    well : (instance : Instance) → compiled_instance s (last_world s es) 0 ≡ Some instance → IsWellFormed instance.advert
    well instance c =
        subst IsWellFormed (sym (advert_is hash run advert (last_world s es) instance c)) (well_formed contract_text advert k)

    -- ---- plan

    plans : (o : Option Instance) → compiled_instance s (last_world s es) 0 ≡ o → PlansIf hash o (prints 0 (setting_text hash o))
    plans None c = refl
    plans (Some instance) c = record { answer = refl; planned = planned instance (well instance c) }

    plan_whole : IfWhole s es (run_answer plan_text s es)
        (PlansIf hash (compiled_instance s (last_world s es) 0) (run_answer plan_text s es))
    unfolding plan_text
    plan_whole =
        let o = compiled_instance s (last_world s es) 0 in
        record {
          whole = λ u.
              subst (PlansIf hash o) (sym (text_whole (ending s es) (setting_text hash o) (unhalted s es u))) (plans o refl);
          halted = text_halted (ending s es) (setting_text hash o);
        }

    plan_shown : ShowsPlan s es (run_answer plan_text s es)
    plan_shown = record {
      shown = plan_whole;
      read = plan_back s es (known_run run_text run h) (is_run hash bytes run_text contract_text run advert h k);
    }

    -- ---- weigh

    weigh_text_is : (o : Option Instance) → compiled_instance s (last_world s es) 0 ≡ o
        → printed_of weigh_text s es ≡ prints 0 (plan_value hash 0 o ++ newline)
    unfolding weigh_text
    weigh_text_is o c = ap (λ (x : Option Instance). prints 0 (plan_value hash 0 x ++ newline)) c

    weighs : IsUnhalted s es → (o : Option Instance) → compiled_instance s (last_world s es) 0 ≡ o
        → WeighsIf s es o (printed_of weigh_text s es)
    weighs u None c = weigh_text_is None c
    weighs u (Some instance) c = record {
      answer = weigh_text_is (Some instance) c;
      planned = planned instance (well instance c);
      weights = t.bounds hash instance;
      sizes = t.sizes hash instance bytes.size;
      totals = t.sums hash instance;
      bounds = t.totals s es (is_run hash bytes run_text contract_text run advert h k (calm s es u).opens) 0 instance c;
    }

    weights_shown : ShowsWeights s es (if_whole (printed_of weigh_text) s es)
    weights_shown =
        of_whole (printed_of weigh_text) s es (WeighsIf s es (compiled_instance s (last_world s es) 0))
        (λ u. weighs u (compiled_instance s (last_world s es) 0) refl)

  pub plan_is_shown : (texts : List Text) → ShowsPlayed hash texts (with_contract (run_answer plan_text) hash texts)
      (λ s es. ShowsPlan s es (with_contract (run_answer plan_text) hash texts))
  plan_is_shown texts =
      played (run_answer plan_text) hash texts ShowsPlan
      (λ run advert h k. plan_shown (text_at texts 0) (text_at texts 1) run advert h k)

  pub weights_are_shown : (texts : List Text) → ShowsPlayed hash texts (with_contract (if_whole (printed_of weigh_text)) hash texts)
      (λ s es. ShowsWeights s es (with_contract (if_whole (printed_of weigh_text)) hash texts))
  weights_are_shown texts =
      played (if_whole (printed_of weigh_text)) hash texts ShowsWeights
      (λ run advert h k. weights_shown (text_at texts 0) (text_at texts 1) run advert h k)
