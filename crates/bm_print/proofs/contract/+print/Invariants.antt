use Rattle.std.proofs.Common.{◌≡◌, ◌++◌, drop}
use Rattle.bm_syntax.specs.View.{choice_view, parts_view}
use Rattle.spec_text.specs.Canonical.{rest_text, rest_parts_text}
use Rattle.bm_print.proofs.contract.+print.Given as goal

abbrev pub invariant-put_choice-loop-branch : goal.invariant-put_choice-loop-branch
invariant-put_choice-loop-branch l =
    l.out.items ++ rest_text (choice_view (drop l.branch-index l.others)) ≡ l.initial.out.items ++ rest_text (choice_view l.others)

abbrev pub invariant-put_parts-loop-part : goal.invariant-put_parts-loop-part
invariant-put_parts-loop-part l =
    l.out.items ++ rest_parts_text (parts_view (drop l.part-index l.others)) ≡ l.initial.out.items ++ rest_parts_text (parts_view l.others)
