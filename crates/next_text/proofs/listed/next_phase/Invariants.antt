use Rattle.std.proofs.Common.{◌≡◌, drop}
use Rattle.spec_next.specs.Listed.{earlier, next_phase}
use Rattle.next_text.proofs.listed.next_phase.Given as goal

abbrev pub invariant-loop-prospect : goal.invariant-loop-prospect
invariant-loop-prospect l = earlier l.next (next_phase (drop l.prospect-index l.prospects)) ≡ next_phase l.prospects
