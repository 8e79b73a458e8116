use Rattle.std.proofs.Common.{◌≡◌, ◌++◌, map, drop}
use Rattle.spec_compiler.specs.Keyed.Instance.{branch_label}
use Rattle.deal_compile.proofs.labels.party_labels.Given as goal

-- what is there, and what is left, are the whole
abbrev pub invariant-loop-party : goal.invariant-loop-party
invariant-loop-party l = l.labels ++ map (branch_label 0 l.path) (drop l.party-index l.parties) ≡ map (branch_label 0 l.path) l.parties
