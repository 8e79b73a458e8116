-- What `auto` shows is the run that goes on by the rules of the strategy.
use Rattle.std.proofs.Common.{◌≡◌, ℕ, List, [], ◌∷◌, Some, None, Ok, Err, refl, sym, ap, subst, inl, inr}
use Rattle.std.specs.Prelude.{◌⊎◌}
use Rattle.std.specs.List.{AllByRecursion}
use Rattle.spec_terms.specs.Advert.{Advert}
use Rattle.spec_run.specs.declared.event.Event.{Event}
use Rattle.spec_run.specs.declared.event.Run.{Run}
use Rattle.spec_run.specs.Conditions.{HashesBytes}
use Rattle.spec_run.specs.Setup.{Setup}
use Rattle.spec_run.specs.Translation.{last_world}
use Rattle.spec_text.specs.Lines.{lines_of}
use Rattle.spec_text.specs.RunText.{run_text}
use Rattle.spec_tool.specs.declared.rule.Rule.{Rule}
use Rattle.spec_tool.specs.Answers.{with_contract, rules_judged, size_of, strategy_file}
use Rattle.spec_tool.specs.AutoText.{strategy_in, strategy_refused, longer_run, progressed_answer, auto_answer}
use Rattle.spec_tool.specs.Commands.{Printed, setup_of}
use Rattle.spec_tool.specs.Reads.{Text, text_at}
use Rattle.spec_tool.specs.Turns.{Progress, Progressed, extended}
use Rattle.theory_auto.specs.OwnRules.{IsHonest}
use Rattle.theory_auto.proofs.Continued.{strategies_go}
use Rattle.theory_auto.proofs.Honest.{strategies_honest}
use Rattle.theory_auto.proofs.OwnRules.{keep_to_rules}
use Rattle.theory_auto.proofs.Spelled.{longer_spelled}
use Rattle.theory_tool.specs.Runs.{IsUnhalted}
use Rattle.theory_tool.proofs.Strategies.{strategies_read}
use Rattle.theory_commands.specs.ContractFiles.{HoldsContract}
use Rattle.theory_commands.specs.Files.{ShowsPlayed, IfWhole}
use Rattle.theory_commands.specs.RunFiles.{HoldsRun, IsRunFile}
use Rattle.theory_commands.specs.Strategies.{HoldsRules, IsRefusedStrategy, strategy_refusal_text}
use Rattle.theory_commands.specs.Shown.Auto.{GoesOn, TurnHalts, ShowsAuto}
use Rattle.theory_commands.proofs.Files.{judges, played, of_whole}
use Rattle.theory_commands.proofs.Played.{calm, is_run}
use Rattle.theory_commands.proofs.RuleLines.{strategy_back}
use Rattle.theory_commands.proofs.RunFiles.{run_files_read}
use Rattle.theory_commands.proofs.Strategies.{strategy_files_read}

abbrev Goes : Setup → List Event → List Rule → Printed → Type 0
Goes s es rules printed = GoesOn s es rules printed ⊎ TurnHalts s es rules printed

answer_is : (rules : List Rule) (s : Setup) (es : List Event)
    → auto_answer rules s es ≡ progressed_answer s.header es (extended s (last_world s es) rules)
unfolding auto_answer
answer_is rules s es = refl

module _ (hash : List ℕ → List ℕ) (bytes : HashesBytes hash) where
  module _ (run_file contract_text : Text) (run : Run) (advert : Advert)
      (h : HoldsRun run_file run) (k : HoldsContract contract_text advert) where
    abbrev s : Setup
    s = setup_of hash run (advert ∷ [])

    abbrev es : List Event
    es = run.events

    -- the longer run is that which is written
    read_longer : (file strategy : Text) (rules : List Rule) (p : Progress) → HoldsRun file run
        → HoldsRules (size_of file) run.header es strategy rules → IsUnhalted s es → extended s (last_world s es) rules ≡ Ok p
        → IsRunFile (run_text (longer_run run.header es p)) (longer_run run.header es p)
    read_longer None strategy rules p f r u e = absurd f
    read_longer (Some text) None rules p f r u e = absurd r
    read_longer (Some text) (Some strategy) rules p f r u e =
        let c = calm s es u in
        (run_files_read.read (Some (run_text (longer_run run.header es p))) (longer_run run.header es p)).0
        (longer_spelled s text strategy run rules p
        (record {
          spells = (run_files_read.read (Some text) run).1 f;
          header = refl;
          is_run = is_run hash bytes run_file contract_text run advert h k c.opens;
          whole = c.goes;
          strategy_spells = (strategy_files_read.read (size_of (Some text)) run.header es (Some strategy) rules).1 r;
        })
        e)

    honest : (size : ℕ) (strategy : Text) (rules : List Rule) → HoldsRules size run.header es strategy rules
        → AllByRecursion (IsHonest run.header) rules
    honest size None rules r = absurd r
    honest size (Some text) rules r = strategies_honest run.header text rules ((strategies_read.rules run.header text rules).1 (strategy_back run.header (lines_of text) rules r.spelled))

    by_turns : (strategy : Text) (rules : List Rule) → HoldsRules (size_of run_file) run.header es strategy rules → IsUnhalted s es
        → (x : Progressed) → extended s (last_world s es) rules ≡ x → Goes s es rules (progressed_answer s.header es x)
    by_turns strategy rules r u (Ok p) e =
        let c = calm s es u in
        let is = is_run hash bytes run_file contract_text run advert h k c.opens in
        inl (record {
          progress = p;
          by_rules = strategies_go.goes_on s es rules p is c.goes e;
          keeps = keep_to_rules s es rules p is c.goes (honest (size_of run_file) strategy rules r) e;
          answer = refl;
          read = read_longer run_file strategy rules p h r u e;
        })
    by_turns strategy rules r u (Err halt) e =
        let c = calm s es u in
        let is = is_run hash bytes run_file contract_text run advert h k c.opens in
        inr (record { halt = halt; tried = strategies_go.halts s es rules halt is c.goes e; answer = refl })

    auto_shown : (strategy : Text) → ShowsAuto run_file strategy s es (strategy_file run_file strategy s es)
    auto_shown strategy =
        let size = size_of run_file in
        let printed = strategy_file run_file strategy s es in
        judges (strategy_in size run.header es strategy) (HoldsRules size run.header es strategy)
        (IsRefusedStrategy size run.header es strategy) strategy_refusal_text
        (strategy_files_read.read size run.header es strategy) (strategy_files_read.refused size run.header es strategy)
        (λ rules. IfWhole s es printed (Goes s es rules printed)) (λ r. printed ≡ strategy_refused (strategy_refusal_text r))
        (λ rules r e.
        subst (λ (x : Printed). IfWhole s es x (Goes s es rules x)) (sym (ap (λ j. rules_judged j s es) e))
        (of_whole (auto_answer rules) s es (Goes s es rules)
        (λ u. subst (Goes s es rules) (sym (answer_is rules s es))
        (by_turns strategy rules r u (extended s (last_world s es) rules) refl))))
        (λ r e. ap (λ j. rules_judged j s es) e)

  pub auto_is_shown : (strategy : Text) (texts : List Text)
      → ShowsPlayed hash texts (with_contract (strategy_file (text_at texts 0) strategy) hash texts)
      (λ s es. ShowsAuto (text_at texts 0) strategy s es (with_contract (strategy_file (text_at texts 0) strategy) hash texts))
  auto_is_shown strategy texts =
      played (strategy_file (text_at texts 0) strategy) hash texts (ShowsAuto (text_at texts 0) strategy)
      (λ run advert h k. auto_shown (text_at texts 0) (text_at texts 1) run advert h k strategy)
