use Rattle.std.proofs.Common.{◌≡◌, drop}
use Rattle.spec_run.specs.Setup.{held_among}
use Rattle.bm_exchange.proofs.secrets.held_secret.Given as goal

-- the secret among those that are left is that among all
abbrev pub invariant-loop-held : goal.invariant-loop-held
invariant-loop-held l = held_among l.party l.name (drop l.held-index l.secrets) ≡ held_among l.party l.name l.secrets
