use Rattle.std.proofs.Common.{◌≡◌, ◌++◌, drop}
use Rattle.spec_chain.specs.Outputs.{parts_held}
use Rattle.bm_syntax.specs.View.{parts_view}
use Rattle.deal_follow.proofs.outputs.parts_held.Given as goal

abbrev pub invariant-loop-part : goal.invariant-loop-part
invariant-loop-part l =
    l.all.items ++ parts_held l.path l.number (parts_view (drop l._part-index l.parts)) ≡ parts_held l.path 0 (parts_view l.parts)
