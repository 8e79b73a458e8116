use Rattle.std.proofs.Common.{◌≡◌, drop}
use Rattle.bm_match.specs.Matches.{first_begun}
use Rattle.bm_match.proofs.found.first_begun.Given as goal

-- the first of those that are left is the first of all
abbrev pub invariant-loop-k : goal.invariant-loop-k
invariant-loop-k l = first_begun l.tx l.k (drop l.k l.compiled) ≡ first_begun l.tx 0 l.compiled
