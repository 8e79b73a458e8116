use Rattle.std.proofs.Common.{◌≡◌, take}
use Rattle.spec_text.proofs.entry.copy_steps.Given as goal

-- the copies so far
abbrev pub invariant-loop-step : goal.invariant-loop-step
invariant-loop-step l = l.list ≡ take l.step-index l.steps
