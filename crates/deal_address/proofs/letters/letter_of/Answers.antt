use Rattle.std.proofs.Common.{sym, arith}
use Rattle.std.proofs.lemmas.List.{get_or_past}
use Rattle.spec_address.specs.Address.{letters}
use Rattle.deal_address.proofs.letters.letter_of.Goals as goal

pub returns-in-None : goal.returns-in-None
returns-in-None c =
    let past = c.in-None.ensures.lookup.0 in
    sym (get_or_past letters c.args.value 0 (grind (arith, past)))
