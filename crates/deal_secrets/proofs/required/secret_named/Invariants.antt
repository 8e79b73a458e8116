use Rattle.std.proofs.Common.{◌≡◌, drop}
use Rattle.spec_data.specs.Lists.{is_among}
use Rattle.spec_terms.specs.Precondition.{secrets, names_of}
use Rattle.deal_secrets.proofs.required.secret_named.Given as goal

abbrev pub invariant-loop-entry : goal.invariant-loop-entry
invariant-loop-entry l = is_among l.word (names_of (secrets (drop l.entry-index l.pre))) ≡ is_among l.word (names_of (secrets l.pre))
