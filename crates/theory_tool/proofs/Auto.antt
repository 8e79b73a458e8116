-- What `auto` answers in each case.
use Rattle.std.proofs.Common.{◌≡◌, ℕ, ◌+◌, ◌*◌, ◌≤◌, ◌<◌, Bool, true, false, List, [], ◌∷◌, length, Some, None, Ok, Err, refl, ap, ◌∙◌}
use Rattle.std.proofs.Common.{arith}
use Rattle.std.specs.Prelude.{if◌then◌else◌, nat_le, nat_lt, Result}
use Rattle.std.proofs.lemmas.Bool.{leb-false, leb-true, ltb-false, ltb-true, true_from_ne_false, false_from_ne_true}
use Rattle.spec_run.specs.declared.event.Event.{Event}
use Rattle.spec_run.specs.Setup.{Setup}
use Rattle.spec_run.specs.Translation.{last_world}
use Rattle.spec_text.specs.Limits.{most_run_bytes, most_events}
use Rattle.spec_text.specs.Refusals.{Judged}
use Rattle.spec_text.specs.PlayText.{Ending, whole, guessed, collided}
use Rattle.spec_text.specs.Played.{ending}
use Rattle.spec_tool.specs.declared.rule.Rule.{Rule}
use Rattle.spec_tool.specs.declared.rule.StrategyFault.{StrategyFault}
use Rattle.spec_tool.specs.Sizes.{most_strategy_bytes, rule_line_bytes}
use Rattle.spec_tool.specs.Commands.{Printed, setup_of, ending_status}
use Rattle.spec_tool.specs.Strategy.{read_strategy}
use Rattle.spec_tool.specs.Turns.{Progressed, extended}
use Rattle.spec_tool.specs.AutoText.{size_limit, events_limit, has_room, fits_within, judged_rules, strategy_refused}
use Rattle.spec_tool.specs.AutoText.{auto_answer, progressed_answer}
use Rattle.spec_tool.specs.Answers.{unless_stopped, if_whole, rules_judged, strategy_file}
use Rattle.theory_tool.specs.Texts.{bounded}
use Rattle.theory_tool.specs.Auto.{IsTaken, HaltIsAnswered, auto_there, AutoTheorem}
use Rattle.theory_tool.proofs.Completeness.{judged_status}
use Rattle.theory_tool.proofs.FurtherTexts.{further_texts}

-- ---- tests

le_is : (a b : ℕ) → a ≤ b → nat_le a b ≡ true
le_is a b h = true_from_ne_false (nat_le a b) (λ k. omega (arith, leb-false a b k, h))

le_is_not : (a b : ℕ) → b < a → nat_le a b ≡ false
le_is_not a b h = false_from_ne_true (nat_le a b) (λ k. omega (arith, leb-true a b k, h))

lt_is : (a b : ℕ) → a < b → nat_lt a b ≡ true
lt_is a b h = true_from_ne_false (nat_lt a b) (λ k. omega (arith, ltb-false a b k, h))

lt_is_not : (a b : ℕ) → b ≤ a → nat_lt a b ≡ false
lt_is_not a b h = false_from_ne_true (nat_lt a b) (λ k. omega (arith, ltb-true a b k, h))

-- ---- after the run

-- the answer of a run by what the rules come to
turns_answer : (s : Setup) (es : List Event) (rules : List Rule) (p : Progressed) → extended s (last_world s es) rules ≡ p
    → auto_answer rules s es ≡ progressed_answer s.header es p
unfolding auto_answer
turns_answer s es rules p h = ap (λ (x : Progressed). progressed_answer s.header es x) h

whole_answer : (s : Setup) (es : List Event) (rules : List Rule) → ending_status (ending s es) ≡ 0
    → if_whole (auto_answer rules) s es ≡ auto_answer rules s es
whole_answer s es rules h = ap (λ (n : ℕ). unless_stopped n (ending s es) (auto_answer rules s es)) h

halted_answer : (s : Setup) (es : List Event) (rules : List Rule) (printed : Printed) → printed ≡ if_whole (auto_answer rules) s es
    → HaltIsAnswered (ending s es) printed
halted_answer s es rules printed is = by_ending (ending s es) refl
  where
    by_ending : (e : Ending) → ending s es ≡ e → HaltIsAnswered e printed
    by_ending (whole tip live g offers) h = tt
    by_ending (guessed event party secret) h =
        is ∙ ap (λ (x : Ending). unless_stopped (ending_status x) x (auto_answer rules s es)) h
    by_ending (collided event earlier later) h =
        is ∙ ap (λ (x : Ending). unless_stopped (ending_status x) x (auto_answer rules s es)) h

-- ---- the strategy

abbrev judged_limits : Bool → Bool → List Rule → Judged (List Rule)
judged_limits room fits rules = if room then (if fits then Ok rules else Err size_limit) else Err events_limit

module _ (s : Setup) (es : List Event) (run strategy : List ℕ) where
  abbrev beside : Printed
  beside = strategy_file (Some run) (bounded most_strategy_bytes strategy) s es

  too_long : most_strategy_bytes < length strategy → beside ≡ strategy_refused size_limit
  too_long h =
      ap (λ (b : Bool). strategy_file (Some run) (if b then Some strategy else None) s es)
      (le_is_not (length strategy) most_strategy_bytes h)

  read_in : (r : Result (List Rule) StrategyFault) → length strategy ≤ most_strategy_bytes → read_strategy s.header strategy ≡ r
      → beside ≡ rules_judged (judged_rules (length run) es r) s es
  read_in r h k =
      ap (λ (b : Bool). strategy_file (Some run) (if b then Some strategy else None) s es) (le_is (length strategy) most_strategy_bytes h)
      ∙ ap (λ (x : Result (List Rule) StrategyFault). rules_judged (judged_rules (length run) es x) s es) k

  limits_are : (b c : Bool) (rules : List Rule) → length strategy ≤ most_strategy_bytes → read_strategy s.header strategy ≡ Ok rules
      → has_room es rules ≡ b → fits_within (length run) rules ≡ c → beside ≡ rules_judged (judged_limits b c rules) s es
  limits_are b c rules h k hb hc =
      read_in (Ok rules) h k
      ∙ (ap (λ (x : Bool). rules_judged (judged_limits x (fits_within (length run) rules) rules) s es) hb
      ∙ ap (λ (x : Bool). rules_judged (judged_limits b x rules) s es) hc)

  taken : (rules : List Rule) → IsTaken (length run) s.header es strategy rules → beside ≡ if_whole (auto_answer rules) s es
  taken rules t =
      limits_are true true rules t.size t.read (le_is (length es + length rules) most_events t.room)
      (lt_is (length run + rule_line_bytes * length rules) most_run_bytes t.fits)

-- ---- all cases

pub auto_answers : AutoTheorem
auto_answers hash there run contract strategy f =
    let s : Setup = setup_of hash f.played f.adverts in
    let es : List Event = f.played.events in
    let is : auto_there hash there run contract strategy f ≡ beside s es f.run_bytes f.strategy_bytes =
    further_texts.auto_texts hash there run f.run_bytes contract f.contract_bytes strategy f.strategy_bytes f.run_there f.contract_there
    f.strategy_there
    ∙ judged_status (strategy_file (Some f.run_bytes) (bounded most_strategy_bytes f.strategy_bytes)) hash f.run_bytes
    (f.contract_bytes ∷ [])
    f.played f.adverts f.valid f.well_formed in
    record {
      goes_on = λ rules progress t zero h.
          is ∙ (taken s es f.run_bytes f.strategy_bytes rules t ∙ (whole_answer s es rules zero ∙ turns_answer s es rules (Ok progress) h));
      halts = λ rules halt t zero h.
          is ∙ (taken s es f.run_bytes f.strategy_bytes rules t ∙ (whole_answer s es rules zero ∙ turns_answer s es rules (Err halt) h));
      halted = λ rules t.
          halted_answer s es rules (auto_there hash there run contract strategy f) (is ∙ taken s es f.run_bytes f.strategy_bytes rules t);
      too_long = λ h. is ∙ too_long s es f.run_bytes f.strategy_bytes h;
      faulty = λ fault h k. is ∙ read_in s es f.run_bytes f.strategy_bytes (Err fault) h k;
      many_events = λ rules h k m.
          is ∙ limits_are s es f.run_bytes f.strategy_bytes false (fits_within (length f.run_bytes) rules) rules h k
          (le_is_not (length es + length rules) most_events m) refl;
      many_bytes = λ rules h k l m.
          is ∙ limits_are s es f.run_bytes f.strategy_bytes true false rules h k (le_is (length es + length rules) most_events l)
          (lt_is_not (length f.run_bytes + rule_line_bytes * length rules) most_run_bytes m);
    }
