use Rattle.std.proofs.Common.{◌≡◌, ◌++◌, drop}
use Rattle.deal_state.specs.Prospects.{hidden_in}
use Rattle.deal_state.proofs.outstanding.hidden.Given as goal

abbrev pub invariant-loop-name : goal.invariant-loop-name
invariant-loop-name l =
    l.all.items ++ hidden_in l.strings (drop l.name-index l.names) ≡ hidden_in l.strings l.names
