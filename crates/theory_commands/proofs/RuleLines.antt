-- A strategy is read as the rules that its lines spell, and the fault that is answered of others is their first.
use Rattle.std.proofs.Common.{◌≡◌, ℕ, ◌+◌, List, [], ◌∷◌, length, Ok, Err, subst, inl, inr, arith}
use Rattle.std.specs.Prelude.{◌↔◌}
use Rattle.spec_run.specs.declared.header.Header.{Header}
use Rattle.spec_text.specs.Lines.{lines_of, words_of}
use Rattle.spec_tool.specs.declared.rule.Rule.{Rule}
use Rattle.spec_tool.specs.declared.rule.StrategyFault.{StrategyFault}
use Rattle.spec_tool.specs.declared.rule.StrategyFault.TheVariants as faults
use Rattle.spec_tool.specs.Strategy.{read_strategy}
use Rattle.theory_tool.specs.Strategies.{Spell, IsStrategy, FirstFault, IsBad, IsOver, HasFault}
use Rattle.theory_tool.proofs.Strategies.{strategies_read}
use Rattle.theory_commands.specs.Strategies.{SpellRules, SpellStrategy, FirstOfRules, IsNoRule, IsRuleTooMany, HasRuleFault}
use Rattle.theory_commands.proofs.LineRules.{rule_spelled, rule_back, no_rule_spelled, no_rule_back}

module _ (h : Header) where
  -- ---- rules

  spelled : (lines : List (List ℕ)) (rules : List Rule) → Spell h lines rules → SpellRules h lines rules
  spelled [] rules e = e
  spelled (line ∷ lines) rules (inl e) = inl (e.0, spelled lines rules (e.1))
  spelled (line ∷ lines) rules (inr (first, later, is, says, more)) =
      inr (first, later, is, rule_spelled h (words_of line) first says, spelled lines later more)

  back : (lines : List (List ℕ)) (rules : List Rule) → SpellRules h lines rules → Spell h lines rules
  back [] rules e = e
  back (line ∷ lines) rules (inl e) = inl (e.0, back lines rules (e.1))
  back (line ∷ lines) rules (inr (first, later, is, says, more)) =
      inr (first, later, is, rule_back h (words_of line) first says, back lines later more)

  pub strategy_back : (lines : List (List ℕ)) (rules : List Rule) → SpellStrategy h lines rules → IsStrategy h lines rules
  strategy_back lines rules s = record { spelled = back lines rules s.spelled; few = s.few }

  pub rules_read : (text : List ℕ) (rules : List Rule) → (read_strategy h text ≡ Ok rules) ↔ SpellStrategy h (lines_of text) rules
  rules_read text rules = (
    λ e. let s : IsStrategy h (lines_of text) rules = (strategies_read.rules h text rules).0 e in
        record { spelled = spelled (lines_of text) rules s.spelled; few = s.few },
    λ s. (strategies_read.rules h text rules).1 (strategy_back (lines_of text) rules s),
  )

  -- ---- faults

  module _ (lines : List (List ℕ)) (m : ℕ) where
    first : (wrong other : ℕ → List ℕ → Type 0) → ((count : ℕ) (line : List ℕ) → wrong count line → other count line)
        → FirstFault h 0 1 lines m wrong → FirstOfRules h lines m other
    first wrong other f x =
        let same : 0 + length x.rules ≡ length x.rules = omega arith in
        record {
          before = x.before;
          line = x.line;
          after = x.after;
          in_order = x.in_order;
          number = omega (arith, x.number);
          rules = x.rules;
          spelled = spelled x.before x.rules x.spelled;
          few = omega (arith, x.few);
          fault = f (length x.rules) x.line (subst (λ (k : ℕ). wrong k x.line) same x.fault);
        }

    first_back : (wrong other : ℕ → List ℕ → Type 0) → ((count : ℕ) (line : List ℕ) → other count line → wrong count line)
        → FirstOfRules h lines m other → FirstFault h 0 1 lines m wrong
    first_back wrong other f x =
        let same : length x.rules ≡ 0 + length x.rules = omega arith in
        record {
          before = x.before;
          line = x.line;
          after = x.after;
          in_order = x.in_order;
          number = omega (arith, x.number);
          rules = x.rules;
          spelled = back x.before x.rules x.spelled;
          few = omega (arith, x.few);
          fault = subst (λ (k : ℕ). wrong k x.line) same (f (length x.rules) x.line x.fault);
        }

  faulty : (lines : List (List ℕ)) (fault : StrategyFault) → HasFault h 0 1 lines fault → HasRuleFault h lines fault
  faulty lines (faults.BadLine m) x =
      first lines m (IsBad h) (IsNoRule h) (λ count line e. (e.0, no_rule_spelled h (words_of line) (e.1))) x
  faulty lines (faults.Limit m) x =
      first lines m (IsOver h) (IsRuleTooMany h) (λ count line e. (e.0, rule_spelled h (words_of line) (e.0) (e.1), e.2)) x

  faulty_back : (lines : List (List ℕ)) (fault : StrategyFault) → HasRuleFault h lines fault → HasFault h 0 1 lines fault
  faulty_back lines (faults.BadLine m) x =
      first_back lines m (IsBad h) (IsNoRule h) (λ count line e. (e.0, no_rule_back h (words_of line) (e.1))) x
  faulty_back lines (faults.Limit m) x =
      first_back lines m (IsOver h) (IsRuleTooMany h) (λ count line e. (e.0, rule_back h (words_of line) (e.0) (e.1), e.2)) x

  pub fault_read : (text : List ℕ) (fault : StrategyFault) → (read_strategy h text ≡ Err fault) ↔ HasRuleFault h (lines_of text) fault
  fault_read text fault = (
    λ e. faulty (lines_of text) fault ((strategies_read.fault h text fault).0 e),
    λ x. (strategies_read.fault h text fault).1 (faulty_back (lines_of text) fault x),
  )
