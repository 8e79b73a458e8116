use Rattle.std.proofs.Common.{◌≡◌}
use Rattle.std.specs.Prelude.{drop, ◌==◌}
use Rattle.std.specs.List.{list_any}
use Rattle.spec_run.specs.World.{bindings_at}
use Rattle.bm_exchange.proofs.exchange.bindings_of.Given as goal

-- what the contracts that are left have is what all have
abbrev pub invariant-loop-told : goal.invariant-loop-told
invariant-loop-told l = record {
  there : list_any (λ a. a.contract == l.contract) (drop l.told-index l.advertised)
      ≡ list_any (λ a. a.contract == l.contract) l.advertised;
  bindings : bindings_at (drop l.told-index l.advertised) l.contract ≡ bindings_at l.advertised l.contract;
}
