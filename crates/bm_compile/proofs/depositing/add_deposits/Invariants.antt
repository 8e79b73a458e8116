use Rattle.std.proofs.Common.{◌≡◌, ◌++◌, drop}
use Rattle.spec_compiler.specs.Keyed.Transactions.{put_deposits}
use Rattle.bm_compile.proofs.depositing.add_deposits.Given as goal

-- what is there, and what is left, are the whole
abbrev pub invariant-loop-name : goal.invariant-loop-name
invariant-loop-name g l =
    let hash = g.H.Hash32.digest_of l.hasher in
    let keys = g.K.KeySource.keys l.source in
    l.spends ++ put_deposits hash keys l.setting (drop l.name-index l.puts) ≡ l.initial.spends ++ put_deposits hash keys l.setting l.puts
