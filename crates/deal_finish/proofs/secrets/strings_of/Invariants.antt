use Rattle.std.proofs.Common.{◌≡◌, ◌++◌, drop}
use Rattle.spec_deal.specs.Finished.{strings_of}
use Rattle.deal_finish.proofs.secrets.strings_of.Given as goal

abbrev pub invariant-loop-name : goal.invariant-loop-name
invariant-loop-name l = l.all.items ++ strings_of l.strings (drop l.name-index l.names) ≡ strings_of l.strings l.names
