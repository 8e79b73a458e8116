use Rattle.std.proofs.Common.{◌≡◌, [], drop}
use Rattle.std.specs.Prelude.{flat_map}
use Rattle.spec_terms.specs.Parties.{add_all, participants}
use Rattle.draw_rows.proofs.balances.columns.Given as goal

abbrev pub invariant-loop-checked : goal.invariant-loop-checked
invariant-loop-checked l =
    add_all l.names.items (flat_map participants (drop l.checked-index l.contracts)) ≡ add_all [] (flat_map participants l.contracts)
