use Rattle.std.proofs.Common.{◌≡◌, ◌++◌, map, drop, true}
use Rattle.std.specs.List.{list_all}
use Rattle.spec_deal.specs.SecretFile.{has_length}
use Rattle.deal_secrets.specs.Seen.{shown_in}
use Rattle.deal_secrets.proofs.strings.add_all.Given as goal

-- what is there, and what is left, are the whole; each of those that are left has as many bytes as a secret may have
abbrev pub invariant-loop-entry : goal.invariant-loop-entry
invariant-loop-entry l = record {
  sized : list_all (λ e. has_length e.shown.bytes) (drop l.entry-index l.given) ≡ true;
  exact : l.all ++ map shown_in (drop l.entry-index l.given) ≡ l.initial.all ++ map shown_in l.given;
}
