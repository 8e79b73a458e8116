-- What `auto` prints with the status 0 is read as a longer run.
use Rattle.std.proofs.Common.{◌≡◌, ℕ, List, [], ◌∷◌, length, Bool, true, false, eqb, Option, Some, None, Ok, Err}
use Rattle.std.proofs.Common.{refl, ap, subst, ◌∙◌, arith}
use Rattle.std.specs.Prelude.{if◌then◌else◌}
use Rattle.std.proofs.lemmas.Bool.{eqb-true, eq-eqb}
use Rattle.spec_terms.specs.Advert.{Advert}
use Rattle.spec_run.specs.declared.event.Event.{Event}
use Rattle.spec_run.specs.declared.event.Run.{Run}
use Rattle.spec_run.specs.Setup.{Setup}
use Rattle.spec_run.specs.Pending.{Halt, Collided, Guessed}
use Rattle.spec_run.specs.Event.{opening_collision}
use Rattle.spec_run.specs.Conditions.{HashesBytes}
use Rattle.spec_run.specs.Translation.{last_world, last_configuration, first_halt}
use Rattle.spec_text.specs.RunText.{run_text}
use Rattle.spec_text.specs.Refusals.{Judged, run_of}
use Rattle.spec_text.specs.PlanText.{unless_halted}
use Rattle.spec_text.specs.Played.{ending_from, ending}
use Rattle.spec_tool.specs.declared.rule.Rule.{Rule}
use Rattle.spec_tool.specs.Commands.{Printed, prints, JudgedAll, contracts_from, setup_of, ending_status, contracts_judged, both_judged}
use Rattle.spec_tool.specs.Answers.{unless_stopped, rules_judged, strategy_file}
use Rattle.spec_tool.specs.Statements.{ValidRunTheorem}
use Rattle.spec_tool.specs.AutoText.{strategy_in, longer_run, progressed_answer, auto_answer}
use Rattle.spec_tool.specs.Turns.{Progressed, extended}
use Rattle.theory_auto.specs.Printed.{IsLonger, PrintedIsLonger}
use Rattle.theory_auto.specs.Spelled.{GoesWith}
use Rattle.theory_auto.proofs.Spelled.{longer_spelled}

status_of : (a b : Printed) → a ≡ b → a.status ≡ b.status
status_of a b e = ap (λ (x : Printed). x.status) e

not_both : {t : Bool} → t ≡ false → t ≡ true → ⊥
not_both p q = absurd cc

-- the run isn't halted
record IsWhole (s : Setup) (es : List Event) : Type 0 where
  opens : opening_collision s ≡ None
  whole : first_halt s es ≡ None

whole_is : (s : Setup) (es : List Event) → ending_status (ending s es) ≡ 0 → IsWhole s es
whole_is s es e = by_ends (opening_collision s) (first_halt s es) refl refl e
  where
    by_ends : (c : Option (List ℕ × List ℕ)) (h : Option (Event × Halt)) → opening_collision s ≡ c → first_halt s es ≡ h
        → ending_status (ending_from (last_world s es) (last_configuration s es) c h) ≡ 0 → IsWhole s es
    by_ends (Some p) h p1 p2 f = absurd (omega (arith, f))
    by_ends None (Some (x, Collided a b)) p1 p2 f = absurd (omega (arith, f))
    by_ends None (Some (x, Guessed a b)) p1 p2 f = absurd (omega (arith, f))
    by_ends None None p1 p2 f = record { opens = p1; whole = p2 }

module _ (valid : ValidRunTheorem) (hash : List ℕ → List ℕ) (fine : HashesBytes hash) (text contract strategy printed : List ℕ) where
  module _ (run : Run) (spells : run_of text ≡ Ok run) (adverts : List Advert) (are : contracts_from 0 (contract ∷ []) ≡ Ok adverts)
      (rules : List Rule) (taken : strategy_in (length text) run.header run.events (Some strategy) ≡ Ok rules) where
    abbrev s : Setup
    s = setup_of hash run adverts

    progressed : IsWhole s run.events → (x : Progressed) → extended s (last_world s run.events) rules ≡ x
        → progressed_answer run.header run.events x ≡ prints 0 printed → IsLonger text printed
    progressed w (Err (Collided a b)) is e = absurd (omega (arith, status_of _ _ e))
    progressed w (Err (Guessed a b)) is e = absurd (omega (arith, status_of _ _ e))
    progressed w (Ok p) is e =
        let longer = longer_run run.header run.events p in
        let same : run_text longer ≡ printed = ap (λ (x : Printed). x.text) e in
        let goes : GoesWith s text strategy run rules = record {
          spells = spells;
          header = refl;
          is_run = valid hash fine text (contract ∷ []) run adverts spells are (omega arith) w.opens;
          whole = w.whole;
          strategy_spells = taken;
        } in
        record {
          run = run;
          spells = spells;
          longer = longer;
          read = subst (λ (t : List ℕ). run_of t ≡ Ok longer) same (longer_spelled s text strategy run rules p goes is);
          header = refl;
          more = p.events;
          events = refl;
        }

    answered : IsWhole s run.events → auto_answer rules s run.events ≡ prints 0 printed → IsLonger text printed
    unfolding auto_answer
    answered w e = progressed w (extended s (last_world s run.events) rules) refl e

    stopped : (status : ℕ) → ending_status (ending s run.events) ≡ status
        → unless_stopped status (ending s run.events) (auto_answer rules s run.events) ≡ prints 0 printed → IsLonger text printed
    stopped status is e = by_zero (eqb status 0) refl e
      where
        by_zero : (t : Bool) → eqb status 0 ≡ t
            → (if t then auto_answer rules s run.events else prints status (unless_halted (ending s run.events) [])) ≡ prints 0 printed
            → IsLonger text printed
        by_zero true q f = answered (whole_is s run.events (is ∙ eqb-true status 0 q)) f
        by_zero false q f = absurd (not_both q (eq-eqb status 0 (status_of _ _ f)))

  with_rules : (run : Run) (spells : run_of text ≡ Ok run) (adverts : List Advert) (are : contracts_from 0 (contract ∷ []) ≡ Ok adverts)
      (taken : Judged (List Rule)) → strategy_in (length text) run.header run.events (Some strategy) ≡ taken
      → rules_judged taken (setup_of hash run adverts) run.events ≡ prints 0 printed → IsLonger text printed
  with_rules run spells adverts are (Err why) is e = absurd (omega (arith, status_of _ _ e))
  with_rules run spells adverts are (Ok rules) is e =
      stopped run spells adverts are rules is (ending_status (ending (setup_of hash run adverts) run.events)) refl e

  with_contracts : (run : Run) (spells : run_of text ≡ Ok run) (judged : JudgedAll) → contracts_from 0 (contract ∷ []) ≡ judged
      → contracts_judged (strategy_file (Some text) (Some strategy)) hash run judged ≡ prints 0 printed → IsLonger text printed
  with_contracts run spells (Err refusal) are e = absurd (omega (arith, status_of _ _ e))
  with_contracts run spells (Ok adverts) are e =
      with_rules run spells adverts are (strategy_in (length text) run.header run.events (Some strategy)) refl e

  with_run : (judged : Judged Run) → run_of text ≡ judged
      → both_judged (strategy_file (Some text) (Some strategy)) hash judged (contracts_from 0 (contract ∷ [])) ≡ prints 0 printed
      → IsLonger text printed
  with_run (Err why) spells e = absurd (omega (arith, status_of _ _ e))
  with_run (Ok run) spells e = with_contracts run spells (contracts_from 0 (contract ∷ [])) refl e

-- valid files make runs of which the theorems on runs speak
pub printed_is_longer : ValidRunTheorem → PrintedIsLonger
printed_is_longer valid hash fine run_name contract_name strategy_name text contract strategy printed e =
    with_run valid hash fine text contract strategy printed (run_of text) refl e
