use Rattle.std.proofs.Common.{◌≡◌, ◌++◌, drop}
use Rattle.deal_finish.specs.Filled.{wallet_by}
use Rattle.deal_finish.proofs.signatures.put_witnesses.Given as goal

abbrev pub invariant-loop-signer : goal.invariant-loop-signer
invariant-loop-signer l =
    l.items.items ++ wallet_by l.given l.tx l.number (drop l.signer-index l.signers)
    ≡ l.initial.items.items ++ wallet_by l.given l.tx l.number l.signers
