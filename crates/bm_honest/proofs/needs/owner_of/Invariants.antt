use Rattle.std.proofs.Common.{◌≡◌, drop, true}
use Rattle.spec_data.specs.Lists.{is_among}
use Rattle.spec_terms.specs.Precondition.{names_of, volatile}
use Rattle.bm_honest.specs.Unsigned.{owner_in}
use Rattle.bm_honest.proofs.needs.owner_of.Given as goal

-- the name is among those that are left, where its owner is the same
abbrev pub invariant-loop-entry : goal.invariant-loop-entry
invariant-loop-entry l = record {
  known : is_among l.name (names_of (volatile (drop l.entry-index l.pre))) ≡ true;
  owner : owner_in (drop l.entry-index l.pre) l.name ≡ owner_in l.pre l.name;
}
