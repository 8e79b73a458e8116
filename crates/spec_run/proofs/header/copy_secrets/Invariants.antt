use Rattle.std.proofs.Common.{◌≡◌, take}
use Rattle.spec_run.proofs.header.copy_secrets.Given as goal

abbrev pub invariant-loop-secret : goal.invariant-loop-secret
invariant-loop-secret l = l.list ≡ take l.secret-index l.secrets
