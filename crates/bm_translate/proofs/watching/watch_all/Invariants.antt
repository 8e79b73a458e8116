use Rattle.std.proofs.Common.{◌≡◌, [], ◌++◌, map, drop}
use Rattle.spec_run.specs.Secrets.{secrets_from}
use Rattle.bm_translate.specs.Shown.{watched_of}
use Rattle.bm_translate.proofs.watching.watch_all.Given as goal

-- those so far, and the secrets of the contracts that are left, are all
abbrev pub invariant-loop-k : goal.invariant-loop-k
invariant-loop-k g l =
    let watch = watched_of (g.H.Hash32.digest_of l.trail.hasher) l.trail.messages l.exchange.promises [] in
    l.watched.items ++ map watch (secrets_from l.k (drop l.k l.contracts)) ≡ map watch (secrets_from 0 l.contracts)
