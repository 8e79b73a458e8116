-- The lines of a strategy, one by one.
use Rattle.std.proofs.Common.{◌≡◌, ℕ, ◌+◌, List, [], ◌∷◌, ◌++◌, length, Result, Ok, Err, refl, sym, ap, ◌∙◌, append_assoc, length-append}
use Rattle.spec_run.specs.declared.header.Header.{Header}
use Rattle.spec_text.specs.Lines.{lines_of}
use Rattle.spec_tool.specs.declared.rule.Rule.{Rule}
use Rattle.spec_tool.specs.declared.rule.StrategyFault.{StrategyFault}
use Rattle.spec_tool.specs.Strategy.{Said, bad, over, empty, says, with_rule, counted, rule_step, said_line, rules_from}
use Rattle.bm_auto.specs.Gives.{with_rules, Added}

behind_rule : (prefix : List Rule) (rule : Rule) (later : Result (List Rule) StrategyFault)
    → with_rules prefix (with_rule rule later) ≡ with_rules (prefix ++ rule ∷ []) later
behind_rule prefix rule (Ok list) = ap Ok (sym (append_assoc prefix (rule ∷ []) list))
behind_rule prefix rule (Err fault) = refl

added_count : (old new : List Rule) (line : Said) → Added old new line → counted (length old) line ≡ length new
added_count old new empty h = ap length (sym h)
added_count old new (says rule) h = sym (ap length h ∙ (length-append old (rule ∷ [])))
added_count old new bad h = absurd h
added_count old new over h = absurd h

added_step : (old new : List Rule) (n : ℕ) (line : Said) (later : Result (List Rule) StrategyFault) → Added old new line
    → with_rules old (rule_step n line later) ≡ with_rules new later
added_step old new n empty later h = ap (λ prefix. with_rules prefix later) (sym h)
added_step old new n (says rule) later h = behind_rule old rule later ∙ ap (λ prefix. with_rules prefix later) (sym h)
added_step old new n bad later h = absurd h
added_step old new n over later h = absurd h

-- a line is taken, and those after it are read
pub rules_more : (header : Header) (old new : List Rule) (n : ℕ) (text prefix more : List ℕ) (all : Result (List Rule) StrategyFault)
    → lines_of text ≡ prefix ∷ lines_of more → Added old new (said_line header (length old) prefix)
    → with_rules old (rules_from header (length old) n (lines_of text)) ≡ all
    → with_rules new (rules_from header (length new) (n + 1) (lines_of more)) ≡ all
rules_more header old new n text prefix more all cut h e =
    let said = said_line header (length old) prefix in
    sym (ap (λ k. with_rules new (rules_from header k (n + 1) (lines_of more))) (added_count old new said h))
    ∙ sym (added_step old new n said (rules_from header (counted (length old) said) (n + 1) (lines_of more)) h)
    ∙ sym (ap (λ lines. with_rules old (rules_from header (length old) n lines)) cut)
    ∙ e
