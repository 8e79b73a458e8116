use Rattle.std.proofs.Common.{◌≡◌, ◌++◌, drop}
use Rattle.spec_chain.specs.Outputs.{made_from}
use Rattle.deal_follow.proofs.outputs.made_from.Given as goal

abbrev pub invariant-loop-one : goal.invariant-loop-one
invariant-loop-one l =
    l.all.items ++ made_from l.txid l.vout l.number (drop l.one-index l.held) l.rest ≡ made_from l.txid 0 l.first l.held l.outputs
