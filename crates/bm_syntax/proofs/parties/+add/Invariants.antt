use Rattle.std.proofs.Common.{◌≡◌, map, drop}
use Rattle.spec_terms.specs.Parties.{add_all, choice_mentions, parts_mentions}
use Rattle.bm_syntax.specs.View.{guarded, part_view, choice_of, parts_of}
use Rattle.bm_syntax.proofs.parties.+add.Given as goal

abbrev pub invariant-add_contract-loop-branch : goal.invariant-add_contract-loop-branch
invariant-add_contract-loop-branch l =
    add_all l.names.items (choice_mentions (choice_of (map guarded (drop l.branch-index l.choice.branches.items))))
    ≡ add_all l.initial.names.items (choice_mentions (choice_of (map guarded l.choice.branches.items)))

abbrev pub invariant-add_parts-loop-part : goal.invariant-add_parts-loop-part
invariant-add_parts-loop-part l =
    add_all l.names.items (parts_mentions (parts_of (map part_view (drop l.part-index l.parts))))
    ≡ add_all l.initial.names.items (parts_mentions (parts_of (map part_view l.parts)))
