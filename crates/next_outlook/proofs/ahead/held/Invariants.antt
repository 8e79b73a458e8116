use Rattle.std.proofs.Common.{◌≡◌, drop}
use Rattle.spec_run.specs.Setup.{held_among}
use Rattle.next_outlook.proofs.ahead.held.Given as goal

abbrev pub invariant-loop-held : goal.invariant-loop-held
invariant-loop-held l =
    held_among l.party l.name (drop l.held-index l.secrets) ≡ held_among l.party l.name l.secrets
