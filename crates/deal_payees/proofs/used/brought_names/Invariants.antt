use Rattle.std.proofs.Common.{◌≡◌, ◌++◌, drop}
use Rattle.spec_terms.specs.Precondition.{names_of}
use Rattle.deal_payees.proofs.used.brought_names.Given as goal

abbrev pub invariant-loop-name : goal.invariant-loop-name
invariant-loop-name l = l.names.items ++ names_of (drop l.name-index l.wallets) ≡ names_of l.wallets
