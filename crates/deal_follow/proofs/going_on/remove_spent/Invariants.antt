use Rattle.std.proofs.Common.{◌≡◌, map, drop}
use Rattle.spec_bitcoin.specs.declared.tx.TxIn.{TxIn}
use Rattle.spec_chain.specs.Outputs.{without_all}
use Rattle.deal_follow.proofs.going_on.remove_spent.Given as goal

abbrev pub invariant-loop-input : goal.invariant-loop-input
invariant-loop-input l =
    without_all l.live.items (map (λ (i : TxIn). i.prev) (drop l.input-index l.inputs))
    ≡ without_all l.initial.live.items (map (λ (i : TxIn). i.prev) l.inputs)
