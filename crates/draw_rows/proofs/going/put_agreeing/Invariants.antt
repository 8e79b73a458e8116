use Rattle.std.proofs.Common.{◌≡◌, ◌++◌, drop}
use Rattle.bm_syntax.specs.View.{guarded}
use Rattle.draw_rows.specs.Signing.{agreeing}
use Rattle.draw_rows.proofs.going.put_agreeing.Given as goal

abbrev pub invariant-loop-party : goal.invariant-loop-party
invariant-loop-party l =
    l.found.items ++ agreeing l.several l.config l.output l.branch (guarded l.taken) l.taking (drop l.party-index l.people)
    ≡ l.initial.found.items ++ agreeing l.several l.config l.output l.branch (guarded l.taken) l.taking l.people
