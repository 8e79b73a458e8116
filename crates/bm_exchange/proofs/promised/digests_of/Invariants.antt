use Rattle.std.proofs.Common.{◌≡◌}
use Rattle.std.specs.Prelude.{drop}
use Rattle.std.specs.List.{list_any}
use Rattle.spec_run.specs.World.{is_promise_of}
use Rattle.bm_exchange.specs.Exchanged.{digests_by}
use Rattle.bm_exchange.proofs.promised.digests_of.Given as goal

-- what the commitments that are left have is what all have
abbrev pub invariant-loop-promise : goal.invariant-loop-promise
invariant-loop-promise l = record {
  there : list_any (is_promise_of l.contract l.party) (drop l.promise-index l.promises)
      ≡ list_any (is_promise_of l.contract l.party) l.promises;
  digests : digests_by (drop l.promise-index l.promises) l.contract l.party ≡ digests_by l.promises l.contract l.party;
}
