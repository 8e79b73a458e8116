use Rattle.std.proofs.Common.{◌≡◌, ◌++◌, map, drop}
use Rattle.deal_missing.specs.Required.{wanted_in, inputs_required}
use Rattle.deal_missing.proofs.requirements.put_requirements.Given as goal

abbrev pub invariant-loop-number : goal.invariant-loop-number
invariant-loop-number l =
    map wanted_in l.requirements.items ++ inputs_required l.transaction l.number (drop l.number l.transaction.inputs)
    ≡ map wanted_in l.initial.requirements.items ++ inputs_required l.transaction 0 l.transaction.inputs
