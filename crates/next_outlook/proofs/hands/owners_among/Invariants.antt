use Rattle.std.proofs.Common.{◌≡◌, ◌++◌, drop}
use Rattle.spec_terms.specs.Precondition.{persistent, owners_of}
use Rattle.next_outlook.proofs.hands.owners_among.Given as goal

-- the owners so far and those of the rest are all
abbrev pub invariant-loop-entry : goal.invariant-loop-entry
invariant-loop-entry l = l.owners.items ++ owners_of (persistent (drop l.entry-index l.entries)) ≡ owners_of (persistent l.entries)
