use Rattle.std.proofs.Common.{◌≡◌, ◌++◌, drop, map}
use Rattle.spec_next.specs.Candidates.{taking}
use Rattle.bm_syntax.specs.View.{guarded}
use Rattle.next_events.proofs.taking.put_takings.Given as goal

abbrev pub invariant-loop-taken : goal.invariant-loop-taken
invariant-loop-taken l =
    record {
      counted : l.branch ≡ l.taken-index;
      told : l.found ++ taking l.config l.people l.output l.branch (map guarded (drop l.taken-index l.branches))
          ≡ l.initial.found ++ taking l.config l.people l.output 0 (map guarded l.branches);
    }
