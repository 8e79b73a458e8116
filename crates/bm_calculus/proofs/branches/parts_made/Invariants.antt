use Rattle.std.proofs.Common.{◌≡◌, ◌+◌, ◌++◌, drop}
use Rattle.spec_calculus.specs.Branches.{parts_made, part_values}
use Rattle.bm_syntax.specs.View.{parts_view}
use Rattle.bm_calculus.proofs.branches.parts_made.Given as goal

abbrev pub invariant-loop-part : goal.invariant-loop-part
invariant-loop-part l = record {
  counted : l.k ≡ l.part-index;
  told : l.made.items ++ parts_made (l.next + l.k) l.contract l.path l.k (part_values (parts_view (drop l.part-index l.parts)))
      ≡ parts_made l.next l.contract l.path 0 (part_values (parts_view l.parts));
}
