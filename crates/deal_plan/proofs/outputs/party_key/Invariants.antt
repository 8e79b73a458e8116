use Rattle.std.proofs.Common.{◌≡◌, drop}
use Rattle.spec_bitcoin.specs.declared.label.Label.TheVariants.{Deposit}
use Rattle.spec_deal.specs.Setting.{key_at}
use Rattle.deal_plan.proofs.outputs.party_key.Given as goal

-- the key is that of what is left
abbrev pub invariant-loop-label : goal.invariant-loop-label
invariant-loop-label l = key_at (drop l.label-index l.keys) (Deposit l.party) ≡ key_at l.keys (Deposit l.party)
