use Rattle.std.proofs.Common.{◌≡◌, ◌++◌, map, drop}
use Rattle.spec_deal.specs.Transactions.{inputs_required}
use Rattle.deal_signatures.specs.Seen.{required_in}
use Rattle.deal_signatures.proofs.required.put_inputs.Given as goal

abbrev pub invariant-loop-number : goal.invariant-loop-number
invariant-loop-number l =
    map required_in l.places ++ inputs_required l.transaction.bytes l.number (drop l.number l.transaction.inputs)
    ≡ map required_in l.initial.places ++ inputs_required l.transaction.bytes 0 l.transaction.inputs
