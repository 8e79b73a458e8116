use Rattle.std.proofs.Common.{◌≡◌, ◌++◌, take}
use Rattle.std.specs.List.{flat_map}
use Rattle.deal_plan.specs.Parts.{sign_text}
use Rattle.deal_plan.proofs.transactions.put_signs.Given as goal

abbrev pub invariant-loop-signer : goal.invariant-loop-signer
invariant-loop-signer l = l.out.items ≡ l.initial.out.items ++ flat_map (sign_text l.which l.number l.wallet) (take l.signer-index l.signers)
