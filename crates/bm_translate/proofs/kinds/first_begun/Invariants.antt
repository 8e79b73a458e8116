use Rattle.std.proofs.Common.{◌≡◌, drop}
use Rattle.bm_translate.specs.Kinds.{first_begun_now}
use Rattle.bm_translate.proofs.kinds.first_begun.Given as goal

-- the first of those that are left is the first of all
abbrev pub invariant-loop-k : goal.invariant-loop-k
invariant-loop-k l = first_begun_now l.config l.tx l.k (drop l.k l.compiled) ≡ first_begun_now l.config l.tx 0 l.compiled
