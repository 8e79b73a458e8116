use Rattle.std.proofs.Common.{◌≡◌, ◌++◌, drop}
use Rattle.std.specs.Prelude.{◌≤◌, All}
use Rattle.spec_data.specs.Ranges.{most_item_bytes}
use Rattle.spec_calculus.specs.Branches.{secret_lengths}
use Rattle.draw_rows.proofs.predicates.lengths_of.Given as goal

abbrev pub invariant-loop-name : goal.invariant-loop-name
invariant-loop-name l =
    (l.lengths.items ++ secret_lengths l.config.committed l.contract l.pre (drop l.name-index l.names)
    ≡ secret_lengths l.config.committed l.contract l.pre l.names)
    × All (λ entry. entry.1 ≤ most_item_bytes) l.lengths.items
