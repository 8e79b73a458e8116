use Rattle.std.proofs.Common.{◌≡◌, map, drop}
use Rattle.spec_terms.specs.Parties.{add_all}
use Rattle.spec_terms.specs.Precondition.{party_of}
use Rattle.bm_syntax.proofs.parties.add_pre.Given as goal

abbrev pub invariant-loop-entry : goal.invariant-loop-entry
invariant-loop-entry l = add_all l.names.items (map party_of (drop l.entry-index l.entries)) ≡ add_all l.initial.names.items (map party_of l.entries)
