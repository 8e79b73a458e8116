use Rattle.std.proofs.Common.{◌≡◌, drop}
use Rattle.spec_data.specs.Lists.{is_among}
use Rattle.spec_terms.specs.Precondition.{secrets_of}
use Rattle.bm_world_events.proofs.revealing.is_secret_of.Given as goal

abbrev pub invariant-loop-entry : goal.invariant-loop-entry
invariant-loop-entry l = is_among l.secret (secrets_of l.party (drop l.entry-index l.pre)) ≡ is_among l.secret (secrets_of l.party l.pre)
