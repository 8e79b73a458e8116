use Rattle.std.proofs.Common.{◌≡◌, ◌+◌, drop}
use Rattle.spec_terms.specs.Cost.{place_in}
use Rattle.bm_pred.proofs.sizes.place_in.Given as goal

abbrev pub invariant-loop-known : goal.invariant-loop-known
invariant-loop-known l = record {
  counted : l.before ≡ l.known-index;
  rest : l.before + place_in (drop l.known-index l.reveals) l.name ≡ place_in l.reveals l.name;
}
