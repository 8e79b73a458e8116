-- The rules of a strategy are those that its lines spell, and its fault is of the first line that is wrong.
use Rattle.std.proofs.Common.{◌≡◌, ℕ, ◌+◌, ◌≤◌, ◌<◌, Bool, true, false, List, [], ◌∷◌, ◌++◌, length, Option, Some}
use Rattle.std.proofs.Common.{None, Ok, Err, refl, sym, ap, subst}
use Rattle.std.proofs.Common.{◌∙◌, inl, inr, arith}
use Rattle.std.specs.Prelude.{if◌then◌else◌, nat_lt, Result}
use Rattle.std.proofs.lemmas.Bool.{ltb-false, ltb-true, true_from_ne_false, false_from_ne_true}
use Rattle.spec_run.specs.declared.header.Header.{Header}
use Rattle.spec_text.specs.Lines.{lines_of, words_of}
use Rattle.spec_tool.specs.declared.rule.Rule.{Rule}
use Rattle.spec_tool.specs.declared.rule.StrategyFault.{StrategyFault}
use Rattle.spec_tool.specs.declared.rule.StrategyFault.TheVariants as faults
use Rattle.spec_tool.specs.Sizes.{most_rules}
use Rattle.spec_tool.specs.Strategy.{Said, bad, over, empty, says, rule_of, said_within, said_words, said_line, counted, with_rule}
use Rattle.spec_tool.specs.Strategy.{rule_step, rules_from}
use Rattle.theory_tool.specs.Strategies.{Spell, FirstFault, IsBad, IsOver, HasFault, StrategiesAreRead}

abbrev Answer : Type 0
Answer = Result (List Rule) StrategyFault

abbrev all_read : List Rule → Answer
all_read rules = Ok rules

abbrev failed : StrategyFault → Answer
failed fault = Err fault

module _ (h : Header) where
  -- ---- what an answer tells

  abbrev Told : ℕ → ℕ → List (List ℕ) → Answer → Type 0
  Told count n lines (Ok rules) = Spell h lines rules × (count + length rules ≤ most_rules)
  Told count n lines (Err fault) = HasFault h count n lines fault

  -- a fault behind an empty line
  behind_empty : (count n m : ℕ) (line : List ℕ) (lines : List (List ℕ)) (wrong : ℕ → List ℕ → Type 0) → words_of line ≡ []
      → FirstFault h count (n + 1) lines m wrong → FirstFault h count n (line ∷ lines) m wrong
  behind_empty count n m line lines wrong e f = record {
    before = line ∷ f.before;
    line = f.line;
    after = f.after;
    in_order = ap (λ xs. line ∷ xs) f.in_order;
    number = omega (arith, f.number);
    rules = f.rules;
    spelled = inl (e, f.spelled);
    few = f.few;
    fault = f.fault;
  }

  -- a fault behind a rule
  behind_rule : (count n m : ℕ) (line : List ℕ) (lines : List (List ℕ)) (r : Rule) (wrong : ℕ → List ℕ → Type 0)
      → rule_of h (words_of line) ≡ Some r → FirstFault h (count + 1) (n + 1) lines m wrong → FirstFault h count n (line ∷ lines) m wrong
  behind_rule count n m line lines r wrong e f =
      let same : count + 1 + length f.rules ≡ count + length (r ∷ f.rules) = omega arith in
      record {
        before = line ∷ f.before;
        line = f.line;
        after = f.after;
        in_order = ap (λ xs. line ∷ xs) f.in_order;
        number = omega (arith, f.number);
        rules = r ∷ f.rules;
        spelled = inr (r, f.rules, refl, e, f.spelled);
        few = omega (arith, f.few, same);
        fault = subst (λ (k : ℕ). wrong k f.line) same f.fault;
      }

  told_empty : (count n : ℕ) (line : List ℕ) (lines : List (List ℕ)) (x : Answer) → words_of line ≡ [] → Told count (n + 1) lines x
      → Told count n (line ∷ lines) x
  told_empty count n line lines (Ok rules) e t = (inl (e, t.0), t.1)
  told_empty count n line lines (Err (faults.BadLine m)) e t = behind_empty count n m line lines (IsBad h) e t
  told_empty count n line lines (Err (faults.Limit m)) e t = behind_empty count n m line lines (IsOver h) e t

  told_rule : (count n : ℕ) (line : List ℕ) (lines : List (List ℕ)) (r : Rule) (x : Answer) → rule_of h (words_of line) ≡ Some r
      → Told (count + 1) (n + 1) lines x → Told count n (line ∷ lines) (with_rule r x)
  told_rule count n line lines r (Ok rules) e t = (inr (r, rules, refl, e, t.0), omega (arith, t.1))
  told_rule count n line lines r (Err (faults.BadLine m)) e t = behind_rule count n m line lines r (IsBad h) e t
  told_rule count n line lines r (Err (faults.Limit m)) e t = behind_rule count n m line lines r (IsOver h) e t

  -- the first line is wrong
  told_here : (count n : ℕ) (line : List ℕ) (lines : List (List ℕ)) (wrong : ℕ → List ℕ → Type 0) → count ≤ most_rules → wrong count line
      → FirstFault h count n (line ∷ lines) n wrong
  told_here count n line lines wrong few k =
      let none : List Rule = [] in
      let same : count ≡ count + length none = omega arith in
      record {
        before = [];
        line = line;
        after = lines;
        in_order = refl;
        number = omega arith;
        rules = none;
        spelled = refl;
        few = omega (arith, few, same);
        fault = subst (λ (c : ℕ). wrong c line) same k;
      }

  told : (lines : List (List ℕ)) (count n : ℕ) → count ≤ most_rules → Told count n lines (rules_from h count n lines)
  told [] count n few = (refl, omega (arith, few))
  told (line ∷ lines) count n few = by_words (words_of line) refl (told lines)
    where
      Later : Type 0
      Later = (c m : ℕ) → c ≤ most_rules → Told c m lines (rules_from h c m lines)

      by_room : (b : Bool) (r : Rule) → rule_of h (words_of line) ≡ Some r → nat_lt count most_rules ≡ b → Later
          → Told count n (line ∷ lines)
          (rule_step n (if b then says r else over) (rules_from h (counted count (if b then says r else over)) (n + 1) lines))
      by_room true r e k later =
          told_rule count n line lines r (rules_from h (count + 1) (n + 1) lines) e
          (later (count + 1) (n + 1) (omega (arith, ltb-true count most_rules k)))
      by_room false r e k later =
          told_here count n line lines (IsOver h) few (r, e, omega (arith, few, ltb-false count most_rules k))

      by_rule : (o : Option Rule) → (words_of line ≡ [] → ⊥) → rule_of h (words_of line) ≡ o → Later
          → Told count n (line ∷ lines)
          (rule_step n (said_within count o) (rules_from h (counted count (said_within count o)) (n + 1) lines))
      by_rule None some e later = told_here count n line lines (IsBad h) few (some, e)
      by_rule (Some r) some e later = by_room (nat_lt count most_rules) r e refl later

      by_words : (ws : List (List ℕ)) → words_of line ≡ ws → Later
          → Told count n (line ∷ lines)
          (rule_step n (said_words h count ws) (rules_from h (counted count (said_words h count ws)) (n + 1) lines))
      by_words [] e later = told_empty count n line lines (rules_from h count (n + 1) lines) e (later count (n + 1) few)
      by_words (w ∷ ws) e later =
          by_rule (rule_of h (w ∷ ws)) (λ k. some (sym k ∙ e)) (ap (λ (x : List (List ℕ)). rule_of h x) e) later
        where
          some : [] ≡ w ∷ ws → ⊥
          some k = cc

  -- ---- what answers so

  -- what follows a line that says this
  abbrev step : ℕ → ℕ → List (List ℕ) → Said → Answer
  step count n lines x = rule_step n x (rules_from h (counted count x) (n + 1) lines)

  said_empty : (count : ℕ) (line : List ℕ) → words_of line ≡ [] → said_line h count line ≡ empty
  said_empty count line e = ap (λ (ws : List (List ℕ)). said_words h count ws) e

  said_rule : (count : ℕ) (ws : List (List ℕ)) (r : Rule) → rule_of h ws ≡ Some r → said_words h count ws ≡ said_within count (Some r)
  said_rule count [] r e = cc
  said_rule count (w ∷ ws) r e = ap (λ (o : Option Rule). said_within count o) e

  says_is : (count : ℕ) (line : List ℕ) (r : Rule) → rule_of h (words_of line) ≡ Some r → count < most_rules
      → said_line h count line ≡ says r
  says_is count line r e few =
      said_rule count (words_of line) r e
      ∙ ap (λ (b : Bool). if b then says r else over)
      (true_from_ne_false (nat_lt count most_rules) (λ k. omega (arith, ltb-false _ _ k, few)))

  over_is : (count : ℕ) (line : List ℕ) (r : Rule) → rule_of h (words_of line) ≡ Some r → count ≡ most_rules
      → said_line h count line ≡ over
  over_is count line r e full =
      said_rule count (words_of line) r e
      ∙ ap (λ (b : Bool). if b then says r else over)
      (false_from_ne_true (nat_lt count most_rules) (λ k. omega (arith, ltb-true _ _ k, full)))

  bad_words : (count : ℕ) (ws : List (List ℕ)) → (ws ≡ [] → ⊥) → rule_of h ws ≡ None → said_words h count ws ≡ bad
  bad_words count [] some e = absurd (some refl)
  bad_words count (w ∷ ws) some e = ap (λ (o : Option Rule). said_within count o) e

  read : (lines : List (List ℕ)) (count n : ℕ) (rules : List Rule) → Spell h lines rules → count + length rules ≤ most_rules
      → rules_from h count n lines ≡ all_read rules
  read [] count n rules e few = ap all_read (sym e)
  read (line ∷ lines) count n rules (inl e) few =
      ap (step count n lines) (said_empty count line e.0) ∙ read lines count (n + 1) rules e.1 few
  read (line ∷ lines) count n rules (inr e) few =
      let size : length rules ≡ length (e.0 ∷ e.1) = ap length e.2 in
      ap (step count n lines) (says_is count line e.0 e.3 (omega (arith, few, size)))
      ∙ (ap (with_rule e.0) (read lines (count + 1) (n + 1) e.1 e.4 (omega (arith, few, size))) ∙ ap all_read (sym e.2))

  -- a line that says what fails, behind lines that are taken
  fails : (before : List (List ℕ)) (line : List ℕ) (after : List (List ℕ)) (count n total m : ℕ) (rules : List Rule) (x : Said)
      (fault : StrategyFault)
      → Spell h before rules → total ≡ count + length rules → m ≡ n + length before → total ≤ most_rules → said_line h total line ≡ x
      → ((later : Answer) → rule_step m x later ≡ failed fault) → rules_from h count n (before ++ line ∷ after) ≡ failed fault
  fails [] line after count n total m rules x fault e t k few said step_is =
      let none : length rules ≡ 0 = ap length e in
      let same : total ≡ count = omega (arith, t, none) in
      let here : m ≡ n = omega (arith, k) in
      ap (step count n after) (subst (λ (c : ℕ). said_line h c line ≡ x) same said)
      ∙ subst (λ (i : ℕ). rule_step i x (rules_from h (counted count x) (n + 1) after) ≡ failed fault) here
      (step_is (rules_from h (counted count x) (n + 1) after))
  fails (b ∷ bs) line after count n total m rules x fault (inl e) t k few said step_is =
      ap (step count n (bs ++ line ∷ after)) (said_empty count b e.0)
      ∙ fails bs line after count (n + 1) total m rules x fault e.1 t (omega (arith, k)) few said step_is
  fails (b ∷ bs) line after count n total m rules x fault (inr e) t k few said step_is =
      let size : length rules ≡ length (e.0 ∷ e.1) = ap length e.2 in
      ap (step count n (bs ++ line ∷ after)) (says_is count b e.0 e.3 (omega (arith, t, few, size)))
      ∙ ap (with_rule e.0)
      (fails bs line after (count + 1) (n + 1) total m e.1 x fault e.4 (omega (arith, t, size)) (omega (arith, k)) few said step_is)

  faulty : (count n : ℕ) (lines : List (List ℕ)) (fault : StrategyFault) → HasFault h count n lines fault
      → rules_from h count n lines ≡ failed fault
  faulty count n lines (faults.BadLine m) f =
      ap (λ (xs : List (List ℕ)). rules_from h count n xs) f.in_order
      ∙ fails f.before f.line f.after count n (count + length f.rules) m f.rules bad (faults.BadLine m) f.spelled refl f.number f.few
      (bad_words (count + length f.rules) (words_of f.line) f.fault.0 f.fault.1) (λ later. refl)
  faulty count n lines (faults.Limit m) f =
      ap (λ (xs : List (List ℕ)). rules_from h count n xs) f.in_order
      ∙ fails f.before f.line f.after count n (count + length f.rules) m f.rules over (faults.Limit m) f.spelled refl f.number f.few
      (over_is (count + length f.rules) f.line f.fault.0 f.fault.1 f.fault.2) (λ later. refl)

pub strategies_read : StrategiesAreRead
strategies_read = record {
  rules = λ h text rules. (
    λ e.
        let t = subst (Told h 0 1 (lines_of text)) e (told h (lines_of text) 0 1 (omega arith)) in
        record { spelled = t.0; few = omega (arith, t.1) },
    λ s. read h (lines_of text) 0 1 rules s.spelled (omega (arith, s.few)),
  );
  fault = λ h text fault. (
    λ e. subst (Told h 0 1 (lines_of text)) e (told h (lines_of text) 0 1 (omega arith)),
    λ f. faulty h 0 1 (lines_of text) fault f,
  );
}
