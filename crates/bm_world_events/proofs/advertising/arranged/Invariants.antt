use Rattle.std.proofs.Common.{◌≡◌, ◌++◌, drop}
use Rattle.spec_run.specs.Advertising.{arranged}
use Rattle.bm_world_events.proofs.advertising.arranged.Given as goal

abbrev pub invariant-loop-name : goal.invariant-loop-name
invariant-loop-name l = l.list ++ arranged 0 (drop l.name-index l.required) l.bindings ≡ arranged 0 l.required l.bindings
