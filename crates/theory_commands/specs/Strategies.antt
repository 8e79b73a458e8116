-- Which rules a strategy file holds beside a run file, and why another is refused, line by line.
use Rattle.std.specs.Prelude.{◌≡◌, ℕ, ◌+◌, ◌*◌, ◌≤◌, ◌<◌, List, [], ◌∷◌, ◌++◌, ◌⊎◌, ◌↔◌, length, Some, None, Ok, Err}
use Rattle.spec_run.specs.declared.event.Event.{Event}
use Rattle.spec_run.specs.declared.header.Header.{Header}
use Rattle.spec_text.specs.Lines.{lines_of, words_of}
use Rattle.spec_text.specs.Limits.{most_run_bytes, most_events}
use Rattle.spec_tool.specs.declared.rule.Rule.{Rule}
use Rattle.spec_tool.specs.declared.rule.StrategyFault.{StrategyFault}
use Rattle.spec_tool.specs.declared.rule.StrategyFault.TheVariants as faults
use Rattle.spec_tool.specs.AutoText.{size_limit, events_limit, fault_text, strategy_in}
use Rattle.spec_tool.specs.Reads.{Text}
use Rattle.spec_tool.specs.Sizes.{most_rules, rule_line_bytes}
use Rattle.theory_commands.specs.LineForms.{SpellsRule, SpellsNoRule}

-- ---- lines

-- each of these lines is empty or spells a rule, and these are the rules, in order
abbrev pub SpellRules : Header → List (List ℕ) → List Rule → Type 0
SpellRules h [] rules = rules ≡ []
SpellRules h (line ∷ lines) rules =
    ((words_of line ≡ []) × SpellRules h lines rules)
    ⊎ ((first : Rule) × (later : List Rule) × (rules ≡ first ∷ later) × SpellsRule h (words_of line) first × SpellRules h lines later)

-- no more rules than a strategy may have
pub record SpellStrategy (h : Header) (lines : List (List ℕ)) (rules : List Rule) : Type 0 where
  pub spelled : SpellRules h lines rules
  pub few : length rules ≤ most_rules

-- the line has the number m, counted from 1, and those before it are empty or spell rules, none too many; what is wrong is said by how many
-- rules come before it, and the line
pub record FirstOfRules (h : Header) (lines : List (List ℕ)) (m : ℕ) (wrong : ℕ → List ℕ → Type 0) : Type 0 where
  pub before : List (List ℕ)
  pub line : List ℕ
  pub after : List (List ℕ)
  pub in_order : lines ≡ before ++ line ∷ after
  pub number : m ≡ length before + 1
  pub rules : List Rule
  pub spelled : SpellRules h before rules
  pub few : length rules ≤ most_rules
  pub fault : wrong (length rules) line

-- the line isn't empty, and spells no rule
abbrev pub IsNoRule : Header → ℕ → List ℕ → Type 0
IsNoRule h count line = (words_of line ≡ [] → ⊥) × SpellsNoRule h (words_of line)

-- the line spells a rule behind as many as there may be
abbrev pub IsRuleTooMany : Header → ℕ → List ℕ → Type 0
IsRuleTooMany h count line = (rule : Rule) × SpellsRule h (words_of line) rule × (count ≡ most_rules)

-- the first line that is bad, or one rule too many
abbrev pub HasRuleFault : Header → List (List ℕ) → StrategyFault → Type 0
HasRuleFault h lines (faults.BadLine m) = FirstOfRules h lines m (IsNoRule h)
HasRuleFault h lines (faults.Limit m) = FirstOfRules h lines m (IsRuleTooMany h)

-- ---- files

-- the run with an event for each rule has no more events than a run file may have
abbrev pub HasRoom : List Event → List Rule → Type 0
HasRoom es rules = length es + length rules ≤ most_events

-- the run file of so many bytes with the line of an event for each rule is smaller than a run file may be
abbrev pub Fits : ℕ → List Rule → Type 0
Fits run_bytes rules = run_bytes + rule_line_bytes * length rules < most_run_bytes

-- the lines spell the rules, and these stay within the limits of a run file
pub record IsRules (run_bytes : ℕ) (h : Header) (es : List Event) (text : List ℕ) (rules : List Rule) : Type 0 where
  pub spelled : SpellStrategy h (lines_of text) rules
  pub room : HasRoom es rules
  pub fits : Fits run_bytes rules

abbrev pub HoldsRules : ℕ → Header → List Event → Text → List Rule → Type 0
HoldsRules run_bytes h es None rules = ⊥
HoldsRules run_bytes h es (Some text) rules = IsRules run_bytes h es text rules

pub data StrategyRefusal : Type 0 where
  -- the file has more bytes than it may have
  too_long : StrategyRefusal
  -- its lines have this fault first
  first : (fault : StrategyFault) → StrategyRefusal
  -- the run would have more events than it may have
  too_many : StrategyRefusal
  -- the run file would have more bytes than it may have
  too_much : StrategyRefusal

-- why a strategy file is refused; of one that is too long nothing was read
abbrev pub IsRefusedStrategy : ℕ → Header → List Event → Text → StrategyRefusal → Type 0
IsRefusedStrategy run_bytes h es None too_long = Unit {0}
IsRefusedStrategy run_bytes h es None _ = ⊥
IsRefusedStrategy run_bytes h es (Some text) too_long = ⊥
IsRefusedStrategy run_bytes h es (Some text) (first fault) = HasRuleFault h (lines_of text) fault
IsRefusedStrategy run_bytes h es (Some text) too_many =
    (rules : List Rule) × SpellStrategy h (lines_of text) rules × (most_events < length es + length rules)
IsRefusedStrategy run_bytes h es (Some text) too_much =
    (rules : List Rule) × SpellStrategy h (lines_of text) rules × HasRoom es rules
    × (most_run_bytes ≤ run_bytes + rule_line_bytes * length rules)

-- the same, as it is printed
abbrev pub strategy_refusal_text : StrategyRefusal → List ℕ
strategy_refusal_text too_long = size_limit
strategy_refusal_text (first fault) = fault_text fault
strategy_refusal_text too_many = events_limit
strategy_refusal_text too_much = size_limit

-- ---- what is claimed

-- of every file beside a run
pub record StrategyFilesAreRead : Type 0 where
  -- a file is taken for the rules that it holds, and is refused for just that
  pub read : (run_bytes : ℕ) (h : Header) (es : List Event) (text : Text) (rules : List Rule)
      → (strategy_in run_bytes h es text ≡ Ok rules) ↔ HoldsRules run_bytes h es text rules
  pub refused : (run_bytes : ℕ) (h : Header) (es : List Event) (text : Text) (why : List ℕ)
      → (strategy_in run_bytes h es text ≡ Err why)
      ↔ ((r : StrategyRefusal) × IsRefusedStrategy run_bytes h es text r × (why ≡ strategy_refusal_text r))
