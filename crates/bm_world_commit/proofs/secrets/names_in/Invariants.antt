use Rattle.std.proofs.Common.{◌≡◌, ◌++◌, drop}
use Rattle.spec_terms.specs.Precondition.{secrets_of}
use Rattle.bm_world_commit.proofs.secrets.names_in.Given as goal

abbrev pub invariant-loop-entry : goal.invariant-loop-entry
invariant-loop-entry l = l.names ++ secrets_of l.party (drop l.entry-index l.entries) ≡ secrets_of l.party l.entries
