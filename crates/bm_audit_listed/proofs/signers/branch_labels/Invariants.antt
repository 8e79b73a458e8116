use Rattle.std.proofs.Common.{◌≡◌, map, take}
use Rattle.spec_compiler.specs.Instance.{branch_label}
use Rattle.bm_audit_listed.proofs.signers.branch_labels.Given as goal

abbrev pub invariant-loop-party : goal.invariant-loop-party
invariant-loop-party l = l.labels ≡ map (branch_label l.contract l.path) (take l.party-index l.people)
