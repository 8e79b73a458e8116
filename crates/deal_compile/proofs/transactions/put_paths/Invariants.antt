use Rattle.std.proofs.Common.{◌≡◌, ◌++◌, map, drop}
use Rattle.deal_compile.specs.Parts.{path_transaction}
use Rattle.deal_compile.proofs.transactions.put_paths.Given as goal

-- what is there, and what is left, are the whole
abbrev pub invariant-loop-path : goal.invariant-loop-path
invariant-loop-path g l =
    let hash = g.H.Hash32.digest_of l.hasher in
    l.all ++ map (path_transaction hash l.keys l.checked) (drop l.path-index l.paths)
    ≡ l.initial.all ++ map (path_transaction hash l.keys l.checked) l.paths
