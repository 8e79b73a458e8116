use Rattle.std.proofs.Common.{◌≡◌, ◌++◌, map, drop}
use Rattle.spec_terms.specs.Precondition.{persistent}
use Rattle.spec_tool.specs.Keyed.Listed.{deposit_signer}
use Rattle.deal_compile.proofs.labels.initial_labels.Given as goal

-- what is there, and what is left, are the whole
abbrev pub invariant-loop-entry : goal.invariant-loop-entry
invariant-loop-entry l =
    l.labels ++ map (λ d. deposit_signer (d.1).owner) (persistent (drop l.entry-index l.pre)) ≡ map (λ d. deposit_signer (d.1).owner) (persistent l.pre)
