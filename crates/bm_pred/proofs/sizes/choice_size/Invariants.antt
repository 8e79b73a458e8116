use Rattle.std.proofs.Common.{◌≡◌, ◌+◌, ◌≤◌, ◌^◌, min, drop, map}
use Rattle.spec_terms.specs.Cost.{cost, later_size}
use Rattle.bm_syntax.specs.View.{guarded, contract, choice_of}
use Rattle.bm_pred.proofs.sizes.choice_size.Given as goal

abbrev pub invariant-loop-branch : goal.invariant-loop-branch
invariant-loop-branch l =
    let rest = choice_of (map guarded (drop l.branch-index l.others)) in
    let whole = cost l.parties (contract l.choice) in
    record {
      held : (l.total.bytes ≤ 2 ^ 63) × (l.total.operations ≤ 2 ^ 63);
      bytes : min (l.total.bytes + (later_size l.parties rest).bytes) (2 ^ 63) ≡ min whole.bytes (2 ^ 63);
      operations : min (l.total.operations + (later_size l.parties rest).operations) (2 ^ 63) ≡ min whole.operations (2 ^ 63);
    }
