use Rattle.std.proofs.Common.{◌≡◌, drop}
use Rattle.std.specs.List.{find}
use Rattle.spec_run.specs.Pending.{is_guessed}
use Rattle.bm_world_apply.proofs.guessing.first_shown.Given as goal

abbrev pub invariant-loop-held : goal.invariant-loop-held
invariant-loop-held l = find (is_guessed l.exchange.posted l.shown.posted l.allowed) (drop l.held-index l.secrets)
    ≡ find (is_guessed l.exchange.posted l.shown.posted l.allowed) l.secrets
