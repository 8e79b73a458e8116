use Rattle.std.proofs.Common.{◌≡◌, ◌+◌, ◌++◌, drop}
use Rattle.spec_text.specs.PlanText.{digest_lines}
use Rattle.bm_plan.proofs.transactions.put_digests.Given as goal

abbrev pub invariant-loop-digest : goal.invariant-loop-digest
invariant-loop-digest l = record {
  number : l.number ≡ 0 + l.digest-index;
  told : l.out.items ++ digest_lines l.name l.number (drop l.digest-index l.digests) ≡ l.initial.out.items ++ digest_lines l.name 0 l.digests;
}
