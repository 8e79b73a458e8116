-- What is known of a strategy file whose rules are taken.
use Rattle.std.proofs.Common.{◌≡◌, ◌+◌, ◌≤◌, ℕ, List, length, Bool, true, false, Some, None, Result, Ok, Err, refl, subst, arith}
use Rattle.std.specs.Prelude.{if◌then◌else◌}
use Rattle.std.proofs.lemmas.Bool.Decides.{nat_tests}
use Rattle.spec_run.specs.declared.event.Event.{Event}
use Rattle.spec_run.specs.declared.header.Header.{Header}
use Rattle.spec_text.specs.Limits.{most_events}
use Rattle.spec_tool.specs.declared.rule.Rule.{Rule}
use Rattle.spec_tool.specs.declared.rule.StrategyFault.{StrategyFault}
use Rattle.spec_tool.specs.AutoText.{size_limit, events_limit, has_room, fits_within, judged_rules, strategy_in}
use Rattle.spec_tool.specs.Reads.{Text}
use Rattle.spec_tool.specs.Strategy.{read_strategy}

-- the file is there, its rules are these, and the run has room for their events
pub record IsRead (h : Header) (es : List Event) (file : Text) (rules : List Rule) : Type 0 where
  pub text : List ℕ
  pub there : file ≡ Some text
  pub reads : read_strategy h text ≡ Ok rules
  pub room : length es + length rules ≤ most_events

text_is : (n : ℕ) (h : Header) (es : List Event) (text : List ℕ) (rules : List Rule)
    → judged_rules n es (read_strategy h text) ≡ Ok rules → IsRead h es (Some text) rules
text_is n h es text rules e = by_read (read_strategy h text) refl e
  where
    by_read : (read : Result (List Rule) StrategyFault) → read_strategy h text ≡ read → judged_rules n es read ≡ Ok rules
        → IsRead h es (Some text) rules
    by_read (Err fault) is f = cc
    by_read (Ok rs) is f = by_limits (has_room es rs) (fits_within n rs) refl refl f
      where
        by_limits : (room fits : Bool) → has_room es rs ≡ room → fits_within n rs ≡ fits
            → (if room then (if fits then Ok rs else Err size_limit) else Err events_limit) ≡ Ok rules → IsRead h es (Some text) rules
        by_limits false fits p q g = cc
        by_limits true false p q g = cc
        by_limits true true p q g =
            let same : rs ≡ rules = cc in
            let room : length es + length rs ≤ most_events = grind (arith, nat_tests, p) in
            subst (IsRead h es (Some text)) same (record { text = text; there = refl; reads = is; room = room })

pub read_is : (n : ℕ) (h : Header) (es : List Event) (file : Text) (rules : List Rule) → strategy_in n h es file ≡ Ok rules → IsRead h es file rules
read_is n h es None rules e = cc
read_is n h es (Some text) rules e = text_is n h es text rules e
