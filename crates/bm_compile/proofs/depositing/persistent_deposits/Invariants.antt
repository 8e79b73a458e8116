use Rattle.std.proofs.Common.{◌≡◌, ◌++◌, map, drop, true}
use Rattle.std.specs.List.{list_all}
use Rattle.spec_terms.specs.Precondition.{persistent, deposits}
use Rattle.spec_compiler.specs.Keyed.Transactions.{deposit, persistent_deposits}
use Rattle.bm_compile.specs.Seen.{is_bound}
use Rattle.bm_compile.proofs.depositing.persistent_deposits.Given as goal

-- what is there, and what is left, are the whole
abbrev pub invariant-loop-entry : goal.invariant-loop-entry
invariant-loop-entry g l =
    let hash = g.H.Hash32.digest_of l.hasher in
    let keys = g.K.KeySource.keys l.source in
    record {
      bound : list_all (λ d. is_bound l.setting.bound d.0) (deposits (drop l.entry-index l.entry-items)) ≡ true;
      spends : l.spends ++ map (λ d. deposit hash keys l.setting d.0 d.1) (persistent (drop l.entry-index l.entry-items))
          ≡ persistent_deposits hash keys l.setting;
    }
