use Rattle.std.proofs.Common.{◌≡◌, ◌++◌, drop, map}
use Rattle.bm_syntax.specs.View.{guarded}
use Rattle.spec_page.specs.Outlooks.{branches_words}
use Rattle.draw_rows.proofs.going.put_branches.Given as goal

abbrev pub invariant-loop-taken : goal.invariant-loop-taken
invariant-loop-taken l =
    l.found.items ++ branches_words l.several l.view.moment.now l.people l.active l.branch (map guarded (drop l.taken-index l.branches))
    ≡ l.initial.found.items ++ branches_words l.several l.view.moment.now l.people l.active 0 (map guarded l.branches)
