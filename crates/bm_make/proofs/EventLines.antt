-- The lines of the events whose numbers are known.
use Rattle.std.proofs.Common.{◌≡◌, ℕ, List, [], ◌∷◌, ◌++◌, ap, sym, refl, ◌∙◌, append_assoc}
use Rattle.std.proofs.lemmas.Grind.{flat_map-append}
use Rattle.std.specs.Prelude.{codes}
use Rattle.std.specs.Fmt.{decimal, digits}
use Rattle.spec_run.specs.declared.event.Event.{Event}
use Rattle.spec_run.specs.declared.event.Event.TheVariants as events
use Rattle.spec_text.specs.RunText.{event_text, newline}
use Rattle.spec_text.specs.Generator.{first_events, all_stages, begun, generated_events, party_a, secret_name}
use Rattle.bm_make.specs.Lines.{line, lines}
use Rattle.bm_make.specs.Stages.{stages_with}
use Rattle.bm_make.proofs.GiftSteps.{stages_are}

decimal_zero : decimal 0 ≡ 48 ∷ []
unfolding digits
decimal_zero = refl

pub first_lines : lines first_events
    ≡ codes "advertise 0 x=#0 y=#1" ++ (newline ++ (codes "commit 0 A" ++ (newline ++ (codes "commit 0 B" ++ (newline
    ++ (codes "endorse 0 A" ++ (newline ++ (codes "endorse 0 B" ++ (newline ++ (codes "init 0 A" ++ (newline
    ++ (codes "init 0 B" ++ (newline ++ (codes "fire init 0" ++ newline))))))))))))))
unfolding digits
first_lines = refl

pub reveal_line : (j : ℕ) → line (events.Reveal 0 party_a (secret_name j)) ≡ codes "reveal 0 A " ++ (secret_name j ++ newline)
unfolding digits
reveal_line j = refl

pub fire_line : (n : ℕ) → line (events.Fire n 0) ≡ codes "fire #" ++ (decimal n ++ (codes " 0" ++ newline))
fire_line n =
    ap (λ zero. (codes "fire #" ++ (decimal n ++ (codes " " ++ zero))) ++ newline) decimal_zero
    ∙ ap (λ text. codes "fire #" ++ text) (append_assoc (decimal n) (codes " 0") newline)

-- the lines of the first events, and those of the stages
pub event_lines : (size state : ℕ) → lines (generated_events size state) ≡ lines first_events ++ lines (stages_with 300 size 1 (begun state))
event_lines size state =
    flat_map-append (λ e. event_text e ++ newline) first_events (all_stages size 1 (begun state))
    ∙ ap (λ es. lines first_events ++ lines es) (sym (stages_are size 1 (begun state)))
