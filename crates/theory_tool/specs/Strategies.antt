-- What is claimed of the reading of strategies: which rules are read, and which line is the first that is bad or one rule too many.
use Rattle.std.specs.Prelude.{◌≡◌, ℕ, ◌+◌, ◌≤◌, List, [], ◌∷◌, ◌++◌, ◌⊎◌, ◌↔◌, length, Some, None, Ok, Err}
use Rattle.spec_run.specs.declared.header.Header.{Header}
use Rattle.spec_text.specs.Lines.{lines_of, words_of}
use Rattle.spec_tool.specs.declared.rule.Rule.{Rule}
use Rattle.spec_tool.specs.declared.rule.StrategyFault.{StrategyFault}
use Rattle.spec_tool.specs.declared.rule.StrategyFault.TheVariants as faults
use Rattle.spec_tool.specs.Sizes.{most_rules}
use Rattle.spec_tool.specs.Strategy.{rule_of, read_strategy}

-- each of these lines is empty or spells a rule, and these are the rules, in order
abbrev pub Spell : Header → List (List ℕ) → List Rule → Type 0
Spell h [] rules = rules ≡ []
Spell h (line ∷ lines) rules =
    ((words_of line ≡ []) × Spell h lines rules)
    ⊎ ((first : Rule) × (later : List Rule) × (rules ≡ first ∷ later) × (rule_of h (words_of line) ≡ Some first) × Spell h lines later)

-- a strategy has so many rules at most
pub record IsStrategy (h : Header) (lines : List (List ℕ)) (rules : List Rule) : Type 0 where
  pub spelled : Spell h lines rules
  pub few : length rules ≤ most_rules

-- Of lines that are numbered from n on and stand behind so many rules, the one with the number m is wrong, and those before it are
-- empty or spell rules, none too many. What is wrong is said of how many rules come before it, and of the line.
pub record FirstFault (h : Header) (count n : ℕ) (lines : List (List ℕ)) (m : ℕ) (wrong : ℕ → List ℕ → Type 0) : Type 0 where
  pub before : List (List ℕ)
  pub line : List ℕ
  pub after : List (List ℕ)
  pub in_order : lines ≡ before ++ line ∷ after
  pub number : m ≡ n + length before
  pub rules : List Rule
  pub spelled : Spell h before rules
  pub few : count + length rules ≤ most_rules
  pub fault : wrong (count + length rules) line

-- the line isn't empty, and spells no rule
abbrev pub IsBad : Header → ℕ → List ℕ → Type 0
IsBad h rules_before line = (words_of line ≡ [] → ⊥) × (rule_of h (words_of line) ≡ None)

-- the line spells a rule behind as many as there may be
abbrev pub IsOver : Header → ℕ → List ℕ → Type 0
IsOver h rules_before line = (rule : Rule) × (rule_of h (words_of line) ≡ Some rule) × (rules_before ≡ most_rules)

abbrev pub HasFault : Header → ℕ → ℕ → List (List ℕ) → StrategyFault → Type 0
HasFault h count n lines (faults.BadLine m) = FirstFault h count n lines m (IsBad h)
HasFault h count n lines (faults.Limit m) = FirstFault h count n lines m (IsOver h)

pub record StrategiesAreRead : Type 0 where
  pub rules : (h : Header) (text : List ℕ) (rules : List Rule)
      → (read_strategy h text ≡ Ok rules) ↔ IsStrategy h (lines_of text) rules
  pub fault : (h : Header) (text : List ℕ) (fault : StrategyFault)
      → (read_strategy h text ≡ Err fault) ↔ HasFault h 0 1 (lines_of text) fault
