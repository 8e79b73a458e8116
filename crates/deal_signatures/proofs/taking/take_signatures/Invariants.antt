use Rattle.std.proofs.Common.{◌≡◌, drop}
use Rattle.spec_deal.specs.SignatureFile.{take_signatures}
use Rattle.spec_deal.specs.Verifier.{secp256k1}
use Rattle.deal_signatures.proofs.taking.take_signatures.Given as goal

abbrev pub invariant-loop-key : goal.invariant-loop-key
invariant-loop-key l =
    take_signatures secp256k1 l.required l.tx l.input l.given (drop l.key-index l.pairs)
    ≡ take_signatures secp256k1 l.required l.tx l.input l.fn.given l.pairs
