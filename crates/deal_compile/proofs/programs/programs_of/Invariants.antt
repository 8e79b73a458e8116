use Rattle.std.proofs.Common.{◌≡◌, true}
use Rattle.deal_compile.specs.Programs.{are_hashed}
use Rattle.deal_compile.proofs.programs.programs_of.Given as goal

-- those so far have their hashes
abbrev pub invariant-loop-position : goal.invariant-loop-position
invariant-loop-position g l = are_hashed (g.H.Hash32.digest_of l.hasher) l.programs ≡ true
