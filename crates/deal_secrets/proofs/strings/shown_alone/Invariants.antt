use Rattle.std.proofs.Common.{◌≡◌, ◌++◌, map, drop, true}
use Rattle.std.specs.List.{list_all}
use Rattle.spec_deal.specs.SecretFile.{has_length}
use Rattle.deal_secrets.specs.Seen.{shown_by}
use Rattle.deal_secrets.proofs.strings.shown_alone.Given as goal

-- what is there, and what is left, are the whole; each of those that are left has as many bytes as a secret may have
abbrev pub invariant-loop-name : goal.invariant-loop-name
invariant-loop-name l = record {
  sized : list_all (λ p. has_length (p.1)) (drop l.name-index l.shown) ≡ true;
  exact : l.all ++ map shown_by (drop l.name-index l.shown) ≡ map shown_by l.shown;
}
