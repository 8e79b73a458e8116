use Rattle.std.proofs.Common.{◌≡◌, ◌≤◌, ◌+◌, drop}
use Rattle.spec_terms.specs.Cost.{place_in}
use Rattle.bm_branch.proofs.predicates.place_in.Given as goal

-- those before, and those before it among the names that are left, are all before it
abbrev pub invariant-loop-known : goal.invariant-loop-known
invariant-loop-known l =
    (l.before + place_in (drop l.known-index l.names) l.name ≡ place_in l.names l.name) × (l.before ≤ l.known-index)
