use Rattle.std.proofs.Common.{◌-◌, length, drop, map, sym, subst, arith}
use Rattle.std.proofs.lemmas.List.{length-drop, take_all}
use Rattle.bm_arena.specs.NodeView.{node_view}
use Rattle.bm_honest.specs.Seen.{AreSeen}
use Rattle.bm_honest.proofs.Nodes.{rest_seen}
use Rattle.bm_honest.proofs.branches.from_branch.Goals as goal

pub returns-then-is_branch : goal.returns-then-is_branch
returns-then-is_branch c = λ root all.
    let ns = c.args.nodes.now in
    let k = c.loop-number.number in
    let size = length-drop k ns in
    subst (λ xs. AreSeen root (map node_view xs)) (sym (take_all (length ns - k) (drop k ns) (omega (arith, size)))) (rest_seen root k ns all)
