use Rattle.std.proofs.Common.{◌≡◌, ◌++◌, drop}
use Rattle.std.specs.Prelude.{option_map}
use Rattle.bm_syntax.specs.View.{guarded}
use Rattle.deal_compile.specs.Parts.{inputs_by}
use Rattle.deal_compile.proofs.inputs.inputs_for.Given as goal

-- what is there, and what is left, are the whole
abbrev pub invariant-loop-k : goal.invariant-loop-k
invariant-loop-k g l =
    let hash = g.H.Hash32.digest_of l.hasher in
    let b = option_map (λ b. guarded b.now) l.branch in
    l.inputs ++ inputs_by hash l.keys l.which b l.deposits l.k (drop l.k l.spends) l.digests l.labels
    ≡ inputs_by hash l.keys l.which b l.deposits 0 l.spends l.fn.digests l.fn.labels
