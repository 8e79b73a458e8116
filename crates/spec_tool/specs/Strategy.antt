-- Strategy files: the rules that the lines of a text spell, or the first line that is bad or one too many.
use Rattle.std.specs.Prelude.{ℕ, ◌+◌, List, [], ◌∷◌, if◌then◌else◌, nat_lt, Option, Some, None, Result, Ok}
use Rattle.std.specs.Prelude.{Err, codes}
use Rattle.std.specs.Str.{bytes_eq}
use Rattle.spec_run.specs.declared.header.Header.{Header}
use Rattle.spec_text.specs.Lines.{lines_of, words_of}
use Rattle.spec_text.specs.Words.{◌>>=◌, given, one_of, a_name, path}
use Rattle.spec_tool.specs.declared.rule.Act.{Act}
use Rattle.spec_tool.specs.declared.rule.Act.TheVariants as acts
use Rattle.spec_tool.specs.declared.rule.Rule.{Rule}
use Rattle.spec_tool.specs.declared.rule.StrategyFault.{StrategyFault}
use Rattle.spec_tool.specs.declared.rule.StrategyFault.TheVariants as faults
use Rattle.spec_tool.specs.Sizes.{most_rules}

-- ---- rules

-- the contract's number, which is the word `0`
abbrev pub contract_word : List ℕ → Option ℕ
contract_word word = given (bytes_eq word (codes "0")) 0

-- an act without more words
abbrev pub alone : Act → List (List ℕ) → Option Act
alone act [] = Some act
alone act (word ∷ words) = None

abbrev pub authorise_act : List (List ℕ) → Option Act
authorise_act (word ∷ []) = path word >>= λ p. Some (acts.Authorise p)
authorise_act _ = None

abbrev pub reveal_act : List (List ℕ) → Option Act
reveal_act (word ∷ []) = a_name word >>= λ secret. Some (acts.Reveal secret)
reveal_act _ = None

abbrev pub fire_act : List (List ℕ) → Option Act
fire_act (word ∷ []) = if bytes_eq word (codes "init") then Some acts.FireInit else path word >>= λ p. Some (acts.Fire p)
fire_act _ = None

-- the act of a line by its verb and the words behind the contract's number
abbrev pub act_by : List ℕ → List (List ℕ) → Option Act
act_by verb words =
    if bytes_eq verb (codes "commit") then alone acts.Commit words
    else if bytes_eq verb (codes "endorse") then alone acts.Endorse words
    else if bytes_eq verb (codes "init") then alone acts.Init words
    else if bytes_eq verb (codes "authorise") then authorise_act words
    else if bytes_eq verb (codes "reveal") then reveal_act words
    else if bytes_eq verb (codes "fire") then fire_act words
    else None

abbrev pub rule : List ℕ → Act → Rule
rule party act = record { party = party; act = act }

-- the rule that the words of a line spell: an honest party, a verb, the contract, and what the verb takes besides
abbrev pub rule_of : Header → List (List ℕ) → Option Rule
rule_of h (party ∷ verb ∷ contract ∷ words) = do
  a ← one_of h.honest party
  k ← contract_word contract
  act ← act_by verb words
  Some (rule a act)
rule_of h _ = None

-- ---- lines

-- what a line says
pub data Said : Type 0 where
  bad : Said
  -- it is one rule too many
  over : Said
  empty : Said
  says : (rule : Rule) → Said

abbrev pub said_within : ℕ → Option Rule → Said
said_within count None = bad
said_within count (Some r) = if nat_lt count most_rules then says r else over

abbrev pub said_words : Header → ℕ → List (List ℕ) → Said
said_words h count [] = empty
said_words h count (word ∷ words) = said_within count (rule_of h (word ∷ words))

-- what a line says behind so many rules
abbrev pub said_line : Header → ℕ → List ℕ → Said
said_line h count line = said_words h count (words_of line)

abbrev pub counted : ℕ → Said → ℕ
counted count (says r) = count + 1
counted count bad = count
counted count over = count
counted count empty = count

abbrev pub with_rule : Rule → Result (List Rule) StrategyFault → Result (List Rule) StrategyFault
with_rule r (Ok rules) = Ok (r ∷ rules)
with_rule r (Err fault) = Err fault

abbrev pub rule_step : ℕ → Said → Result (List Rule) StrategyFault → Result (List Rule) StrategyFault
rule_step n bad later = Err (faults.BadLine n)
rule_step n over later = Err (faults.Limit n)
rule_step n empty later = later
rule_step n (says r) later = with_rule r later

-- the rules of the lines from number n on, behind so many
abbrev pub rules_from : Header → ℕ → ℕ → List (List ℕ) → Result (List Rule) StrategyFault
rules_from h count n [] = Ok []
rules_from h count n (line ∷ lines) = rule_step n (said_line h count line)
    (rules_from h (counted count (said_line h count line)) (n + 1) lines)

-- the rules that a text spells, or the first line that is bad or one too many
abbrev pub read_strategy : Header → List ℕ → Result (List Rule) StrategyFault
read_strategy h text = rules_from h 0 1 (lines_of text)
