use Rattle.std.proofs.Common.{◌≡◌, ◌++◌, drop}
use Rattle.deal_state.specs.Prospects.{gone_in}
use Rattle.deal_state.proofs.outstanding.put_without.Given as goal

abbrev pub invariant-loop-name : goal.invariant-loop-name
invariant-loop-name l =
    l.names.items ++ gone_in l.live (drop l.name-index l.puts) ≡ gone_in l.live l.puts
