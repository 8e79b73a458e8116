use Rattle.std.proofs.Common.{◌≡◌, List, ◌++◌, ◌∷◌, [], ◌∙◌, map, ap, sym, subst, append-nil, drop}
use Rattle.std.specs.Prelude.{slice_get, IfOk}
use Rattle.std.proofs.lemmas.List.{map-append, drop_all}
use Rattle.spec_bitcoin.specs.Scripts.{encode}
use Rattle.spec_bitcoin.specs.declared.script.Op.{Op}
use Rattle.spec_compiler.specs.Scripts.{branch_ops, choice_ops}
use Rattle.theory_nodes.specs.Keyed.Walk.{node_demands}
use Rattle.bm_arena.specs.NodeView.{node_view}
use Rattle.bm_compile.proofs.Chains.{mapped_get, all_push, map-view}
use Rattle.bm_compile.proofs.scripting.choice_script.Goals as goal

pub loop-number-preserved : goal.loop-number-preserved
loop-number-preserved c =
    let old = c.loop-number.ops.items in
    let one = c.in_ok-branch_ops.field-0 in
    record {
      made = λ hash keys e. mapped_get (λ m. branch_ops
          (node_demands hash keys c.args.setting.now (slice_get (map node_view c.args.nodes.now) m))) c.args.branches.now
          c.loop-number.number-index one.items (map (λ ops. ops.items) old) _ _
          c.loop-number-test.true (c.in_ok-branch_ops.ensures.operations hash keys e)
          (ap (map (λ ops. ops.items)) c.in_ok-push.ensures.items ∙ map-append (λ ops. ops.items) old (one ∷ []))
          (c.loop-number.invariant.made hash keys e);
      short = rw c.in_ok-push.ensures.items (all_push _ old one c.loop-number.invariant.short c.in_ok-branch_ops.ensures.short);
    }

pub returns : goal.returns
returns c hash keys e =
    let all = map node_view c.args.nodes.now in
    let ops : List (List Op) = map (λ ops. ops.items) c.loop-number.ops.items in
    let none : drop c.loop-number.number-index c.args.branches.now ≡ [] = drop_all c.loop-number.number-index c.args.branches.now c.loop-number-test.false in
    let whole : ops ≡ map branch_ops (map (λ m. node_demands hash keys c.args.setting.now (slice_get all m)) c.args.branches.now) =
    sym (append-nil ops)
    ∙ ap (λ l. ops ++ map (λ m. branch_ops (node_demands hash keys c.args.setting.now (slice_get all m))) l) (sym none)
    ∙ c.loop-number.invariant.made hash keys e
    ∙ sym (map-view (λ m. node_demands hash keys c.args.setting.now (slice_get all m)) branch_ops c.args.branches.now) in
    subst (λ l. IfOk c.output_script.result (λ script. script ≡ encode (choice_ops l))) whole (rw c.deref.ensures.value at c.output_script.ensures)
