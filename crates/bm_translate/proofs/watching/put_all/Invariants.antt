use Rattle.std.proofs.Common.{◌≡◌, [], ◌++◌, map, drop}
use Rattle.spec_terms.specs.Precondition.{secrets}
use Rattle.spec_run.specs.Secrets.{secrets_of_contract}
use Rattle.bm_translate.specs.Shown.{watched_of}
use Rattle.bm_translate.proofs.watching.put_all.Given as goal

-- those so far, and the secrets of the rest, are all
abbrev pub invariant-loop-entry : goal.invariant-loop-entry
invariant-loop-entry g l =
    let watch = watched_of (g.H.Hash32.digest_of l.trail.hasher) l.trail.messages l.exchange.promises [] in
    l.watched.items ++ map watch (secrets_of_contract l.contract (secrets (drop l.entry-index l.pre)))
    ≡ l.initial.watched.items ++ map watch (secrets_of_contract l.contract (secrets l.pre))
