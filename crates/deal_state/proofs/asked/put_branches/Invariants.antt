use Rattle.std.proofs.Common.{◌≡◌, ◌++◌, map, drop}
use Rattle.spec_chain.specs.Outstanding.{branches_from}
use Rattle.bm_syntax.specs.View.{guarded}
use Rattle.deal_state.proofs.asked.put_branches.Given as goal

abbrev pub invariant-loop-branch : goal.invariant-loop-branch
invariant-loop-branch l =
    l.all.items ++ branches_from l.position l.number (map guarded (drop l._branch-index l.branches))
    ≡ l.initial.all.items ++ branches_from l.position 0 (map guarded l.branches)
