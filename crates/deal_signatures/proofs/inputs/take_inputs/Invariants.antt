use Rattle.std.proofs.Common.{◌≡◌, drop}
use Rattle.spec_deal.specs.SignatureFile.{take_inputs}
use Rattle.spec_deal.specs.Verifier.{secp256k1}
use Rattle.deal_signatures.proofs.inputs.take_inputs.Given as goal

abbrev pub invariant-loop-number : goal.invariant-loop-number
invariant-loop-number l =
    take_inputs secp256k1 l.required l.tx l.number l.given (drop l.number l.inputs) l.rest
    ≡ take_inputs secp256k1 l.required l.tx 0 l.fn.given l.inputs l.said
