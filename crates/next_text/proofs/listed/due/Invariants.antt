use Rattle.std.proofs.Common.{◌≡◌, ◌++◌, drop}
use Rattle.std.specs.Prelude.{filter}
use Rattle.spec_next.specs.Listed.{is_due, later_phase}
use Rattle.next_text.proofs.listed.due.Given as goal

abbrev pub invariant-loop-prospect : goal.invariant-loop-prospect
invariant-loop-prospect l =
    l.list ++ filter (λ p. is_due (later_phase p) l.next) (drop l.prospect-index l.prospects)
    ≡ filter (λ p. is_due (later_phase p) l.next) l.prospects
