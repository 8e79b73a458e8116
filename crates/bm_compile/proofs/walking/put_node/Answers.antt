use Rattle.std.proofs.Common.{◌≡◌, [], ◌∷◌, ◌∙◌, ap}
use Rattle.std.proofs.lemmas.List.{reverse-append}
use Rattle.std.specs.Prelude.{reverse}
use Rattle.bm_arena.specs.NodeView.{node_view, deed_view}
use Rattle.bm_compile.specs.Passes.{listed_script}
use Rattle.bm_compile.proofs.Payable.{node_sum}
use Rattle.bm_compile.proofs.walking.put_node.Goals as goal

pub put_branch-requires-clause-sum : goal.put_branch-requires-clause-sum
put_branch-requires-clause-sum g c =
    let top : reverse c.args.stack.now.items ≡ c.in-Some.waiting ∷ reverse c.pop.new.self.items =
    ap reverse c.in-Some.ensures.items ∙ reverse-append c.pop.new.self.items (c.in-Some.waiting ∷ []) in
    node_sum (g.H.Hash32.digest_of c.args.trail.now.hasher) (g.K.KeySource.keys c.args.source.now) c.args.setting.now
    (listed_script c.args.scripts.now) (node_view c.args.node.now)
    (reverse c.args.stack.now.items) (reverse c.pop.new.self.items) c.in-Some.waiting c.in-Branch.path c.in-Branch.asks.items c.in-Branch.lock
    (deed_view c.in-Branch.core)
    (ap node_view c.in-Branch.is) top c.requires.payable
