use Rattle.std.proofs.Common.{◌≡◌, ◌++◌, drop, map}
use Rattle.spec_terms.specs.Precondition.{secrets, names_of}
use Rattle.spec_deal.specs.declared.deal.Needed.TheVariants as needs
use Rattle.deal_file.proofs.needs.put_secrets.Given as goal

abbrev pub invariant-loop-entry : goal.invariant-loop-entry
invariant-loop-entry l =
    l.out.items ++ map needs.Hash (names_of (secrets (drop l.entry-index l.pre)))
    ≡ l.initial.out.items ++ map needs.Hash (names_of (secrets l.pre))
