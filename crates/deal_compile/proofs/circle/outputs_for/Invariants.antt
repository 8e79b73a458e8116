use Rattle.std.proofs.Common.{◌≡◌, ◌++◌, map, drop}
use Rattle.spec_bitcoin.specs.Keys.{pay_to}
use Rattle.deal_compile.specs.Circles.{output_in}
use Rattle.deal_compile.proofs.circle.outputs_for.Given as goal

abbrev pub invariant-loop-entry : goal.invariant-loop-entry
invariant-loop-entry g l =
    let hash = g.H.Hash32.digest_of l.hasher in
    map output_in l.outputs ++ map (λ p. pay_to (hash (p.1))) (drop l.entry-index l.scripts) ≡ map (λ p. pay_to (hash (p.1))) l.scripts
