use Rattle.std.proofs.Common.{◌≡◌, ◌++◌, ◌≤◌, drop}
use Rattle.std.specs.Prelude.{All}
use Rattle.spec_data.specs.Ranges.{most_item_bytes}
use Rattle.spec_compiler.specs.Keyed.Statements.{secret_lengths}
use Rattle.spec_deal.specs.Finished.{strings_of}
use Rattle.deal_finish.proofs.secrets.lengths_of.Given as goal

abbrev pub invariant-loop-name : goal.invariant-loop-name
invariant-loop-name l = record {
  exact : l.all.items ++ secret_lengths (drop l.name-index l.names) (strings_of l.strings (drop l.name-index l.names))
      ≡ secret_lengths l.names (strings_of l.strings l.names);
  short : All (λ entry. entry.1 ≤ most_item_bytes) l.all.items;
}
