use Rattle.std.proofs.Common.{◌≡◌, ◌++◌, map, drop}
use Rattle.serde_json.specs.View.{view}
use Rattle.spec_json.specs.Values.{text_value}
use Rattle.deal_show.proofs.transactions.names_values.Given as goal

abbrev pub invariant-loop-name : goal.invariant-loop-name
invariant-loop-name l = map view l.values.items ++ map text_value (drop l.name-index l.names) ≡ map text_value l.names
