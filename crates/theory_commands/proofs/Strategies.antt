-- A strategy file is taken for the rules that its lines spell within the limits of the run, and is refused for what comes first.
use Rattle.std.proofs.Common.{◌≡◌, ℕ, ◌+◌, ◌*◌, ◌≤◌, ◌<◌, Bool, true, false, List, length, Some, None, Ok, Err}
use Rattle.std.proofs.Common.{refl, sym, ap, subst, ◌∙◌, arith}
use Rattle.std.specs.Prelude.{◌↔◌, if◌then◌else◌, nat_lt, nat_le, Result}
use Rattle.std.proofs.lemmas.Bool.{ltb-false, ltb-true, true_from_ne_false, false_from_ne_true}
use Rattle.std.proofs.lemmas.Bool.Decides.{nat_tests}
use Rattle.spec_run.specs.declared.event.Event.{Event}
use Rattle.spec_run.specs.declared.header.Header.{Header}
use Rattle.spec_text.specs.Lines.{lines_of}
use Rattle.spec_text.specs.Limits.{most_run_bytes, most_events}
use Rattle.spec_text.specs.Refusals.{Judged}
use Rattle.spec_tool.specs.declared.rule.Rule.{Rule}
use Rattle.spec_tool.specs.declared.rule.StrategyFault.{StrategyFault}
use Rattle.spec_tool.specs.AutoText.{size_limit, events_limit, has_room, fits_within, rules_within, judged_rules, strategy_in}
use Rattle.spec_tool.specs.Reads.{Text}
use Rattle.spec_tool.specs.Sizes.{rule_line_bytes}
use Rattle.spec_tool.specs.Strategy.{read_strategy}
use Rattle.theory_commands.specs.Strategies.{SpellStrategy}
use Rattle.theory_commands.proofs.RuleLines.{rules_read, fault_read}
use Rattle.theory_commands.specs.Strategies.{HasRoom, IsRules, HoldsRules, StrategyRefusal, too_long, first, too_many, too_much}
use Rattle.theory_commands.specs.Strategies.{IsRefusedStrategy, strategy_refusal_text, StrategyFilesAreRead}

abbrev judged_ok : List Rule → Judged (List Rule)
judged_ok rules = Ok rules

abbrev judged_err : List ℕ → Judged (List Rule)
judged_err why = Err why

pub le_is : (a b : ℕ) (t : Bool) → nat_le a b ≡ t → t ≡ true → a ≤ b
le_is a b t e h = let few : nat_le a b ≡ true = e ∙ h in grind (arith, nat_tests, few)

pub gt_is : (a b : ℕ) (t : Bool) → nat_le a b ≡ t → t ≡ false → b < a
gt_is a b t e h = let many : nat_le a b ≡ false = e ∙ h in grind (arith, nat_tests, many)

is_le : (a b : ℕ) → a ≤ b → nat_le a b ≡ true
is_le a b h = grind (arith, nat_tests, h)

is_gt : (a b : ℕ) → b < a → nat_le a b ≡ false
is_gt a b h = grind (arith, nat_tests, h)

module _ (run_bytes : ℕ) (h : Header) (es : List Event) where
  abbrev Found : List ℕ → Judged (List Rule) → Type 0
  Found text (Ok rules) = IsRules run_bytes h es text rules
  Found text (Err why) = (r : StrategyRefusal) × IsRefusedStrategy run_bytes h es (Some text) r × (why ≡ strategy_refusal_text r)

  module _ (text : List ℕ) where
    by_fits : (rules : List Rule) → SpellStrategy h (lines_of text) rules → HasRoom es rules → (b : Bool)
        → nat_lt (run_bytes + rule_line_bytes * length rules) most_run_bytes ≡ b → Found text (if b then Ok rules else Err size_limit)
    by_fits rules s room true e = record { spelled = s; room = room; fits = ltb-true _ _ e }
    by_fits rules s room false e = (too_much, (rules, s, room, ltb-false _ _ e), refl)

    by_room : (rules : List Rule) → SpellStrategy h (lines_of text) rules → (b : Bool) → nat_le (length es + length rules) most_events ≡ b
        → Found text (if b then (if fits_within run_bytes rules then Ok rules else Err size_limit) else Err events_limit)
    by_room rules s true e = by_fits rules s (le_is _ _ true e refl) (fits_within run_bytes rules) refl
    by_room rules s false e = (too_many, (rules, s, gt_is _ _ false e refl), refl)

    by_read : (x : Result (List Rule) StrategyFault) → read_strategy h text ≡ x → Found text (judged_rules run_bytes es x)
    by_read (Err fault) e = (first fault, (fault_read h text fault).0 e, refl)
    by_read (Ok rules) e = by_room rules ((rules_read h text rules).0 e) (has_room es rules) refl

    found : Found text (strategy_in run_bytes h es (Some text))
    found = by_read (read_strategy h text) refl

    -- ---- and what is found is answered

    spelled_is : (rules : List Rule) → SpellStrategy h (lines_of text) rules
        → strategy_in run_bytes h es (Some text) ≡ rules_within run_bytes es rules
    spelled_is rules s = ap (judged_rules run_bytes es) ((rules_read h text rules).1 s)

    with_room : (rules : List Rule) → HasRoom es rules
        → rules_within run_bytes es rules ≡ (if fits_within run_bytes rules then Ok rules else Err size_limit)
    with_room rules room =
        ap (λ (b : Bool). if b then (if fits_within run_bytes rules then Ok rules else Err size_limit) else Err events_limit)
        (is_le (length es + length rules) most_events room)

    taken_is : (rules : List Rule) → IsRules run_bytes h es text rules → strategy_in run_bytes h es (Some text) ≡ judged_ok rules
    taken_is rules r =
        spelled_is rules r.spelled ∙ with_room rules r.room
        ∙ ap (λ (b : Bool). if b then judged_ok rules else judged_err size_limit)
        (true_from_ne_false (fits_within run_bytes rules) (λ k. omega (arith, ltb-false _ _ k, r.fits)))

    refused_is : (r : StrategyRefusal) → IsRefusedStrategy run_bytes h es (Some text) r
        → strategy_in run_bytes h es (Some text) ≡ judged_err (strategy_refusal_text r)
    refused_is too_long f = absurd f
    refused_is (first fault) f = ap (judged_rules run_bytes es) ((fault_read h text fault).1 f)
    refused_is too_many f =
        spelled_is (f.0) (f.1)
        ∙ ap (λ (b : Bool). if b then (if fits_within run_bytes (f.0) then Ok (f.0) else Err size_limit) else Err events_limit)
        (is_gt (length es + length (f.0)) most_events (f.2))
    refused_is too_much f =
        spelled_is (f.0) (f.1) ∙ with_room (f.0) (f.2)
        ∙ ap (λ (b : Bool). if b then judged_ok (f.0) else judged_err size_limit)
        (false_from_ne_true (fits_within run_bytes (f.0)) (λ k. omega (arith, ltb-true _ _ k, f.3)))

  read_file : (text : Text) (rules : List Rule) → (strategy_in run_bytes h es text ≡ Ok rules) ↔ HoldsRules run_bytes h es text rules
  read_file None rules = (λ e. absurd (cc), λ f. absurd f)
  read_file (Some text) rules = (λ e. subst (Found text) e (found text), λ f. taken_is text rules f)

  refused_none : (r : StrategyRefusal) → IsRefusedStrategy run_bytes h es None r → size_limit ≡ strategy_refusal_text r
  refused_none too_long f = refl
  refused_none (first fault) f = absurd f
  refused_none too_many f = absurd f
  refused_none too_much f = absurd f

  refused_file : (text : Text) (why : List ℕ)
      → (strategy_in run_bytes h es text ≡ Err why)
      ↔ ((r : StrategyRefusal) × IsRefusedStrategy run_bytes h es text r × (why ≡ strategy_refusal_text r))
  refused_file None why = (
    λ e. (too_long, tt, let same : size_limit ≡ why = cc in sym same),
    λ f. ap judged_err (refused_none (f.0) (f.1) ∙ sym (f.2)),
  )
  refused_file (Some text) why = (
    λ e. subst (Found text) e (found text),
    λ f. refused_is text (f.0) (f.1) ∙ ap judged_err (sym (f.2)),
  )

pub strategy_files_read : StrategyFilesAreRead
strategy_files_read = record { read = read_file; refused = refused_file }
