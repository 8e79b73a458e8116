use Rattle.std.proofs.Common.{◌≡◌, ◌++◌, map, drop}
use Rattle.std.specs.Prelude.{option_map}
use Rattle.bm_syntax.specs.View.{guarded}
use Rattle.deal_compile.specs.Parts.{signer_by}
use Rattle.deal_compile.proofs.inputs.signers_for.Given as goal

-- what is there, and what is left, are the whole
abbrev pub invariant-loop-label : goal.invariant-loop-label
invariant-loop-label l =
    let b = option_map (λ b. guarded b.now) l.branch in
    l.signers ++ map (signer_by l.keys l.which b l.wallet) (drop l.label-index l.labels) ≡ map (signer_by l.keys l.which b l.wallet) l.labels
