use Rattle.std.proofs.Common.{◌≡◌, ◌++◌, drop, map}
use Rattle.bm_syntax.specs.View.{guarded}
use Rattle.spec_page.specs.Outlooks.{branches_lack}
use Rattle.draw_rows.proofs.awaited.put_branches_lack.Given as goal

abbrev pub invariant-loop-taken : goal.invariant-loop-taken
invariant-loop-taken l =
    l.lacks ++ branches_lack l.honest l.config l.output l.branch (map guarded (drop l._taken-index l.branches))
    ≡ l.initial.lacks ++ branches_lack l.honest l.config l.output 0 (map guarded l.branches)
