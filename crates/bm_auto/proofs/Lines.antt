-- The lines of a run's events and of more behind them.
use Rattle.std.proofs.Common.{◌≡◌, ℕ, List, ◌++◌, sym, ap, ◌∙◌, append_assoc}
use Rattle.std.specs.Prelude.{flat_map}
use Rattle.std.proofs.lemmas.Grind.{flat_map-append}
use Rattle.spec_run.specs.declared.event.Event.{Event}
use Rattle.spec_run.specs.declared.header.Header.{Header}
use Rattle.spec_text.specs.RunText.{newline, event_text, header_text, run_text}
use Rattle.bm_auto.specs.Longer.{longer}

abbrev pub lines : List Event → List ℕ
lines es = flat_map (λ e. event_text e ++ newline) es

pub lines_of_both : (h : Header) (events more : List Event) → run_text (longer h events more) ≡ (header_text h ++ lines events) ++ lines more
lines_of_both h events more =
    ap (λ (text : List ℕ). header_text h ++ text) (flat_map-append (λ e. event_text e ++ newline) events more)
    ∙ sym (append_assoc (header_text h) (lines events) (lines more))
