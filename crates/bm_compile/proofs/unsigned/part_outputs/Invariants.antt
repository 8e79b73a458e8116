use Rattle.std.proofs.Common.{◌≡◌, ◌++◌, map, drop}
use Rattle.spec_compiler.specs.Transactions.{pays}
use Rattle.bm_compile.specs.Passes.{listed_script}
use Rattle.bm_compile.proofs.unsigned.part_outputs.Given as goal

abbrev pub invariant-loop-value : goal.invariant-loop-value
invariant-loop-value g l =
    let hash = g.H.Hash32.digest_of l.hasher in
    l.outputs ++ map (λ p. pays hash (listed_script l.scripts p.1) p.0) (drop l.value-index l.parts)
    ≡ map (λ p. pays hash (listed_script l.scripts p.1) p.0) l.parts
