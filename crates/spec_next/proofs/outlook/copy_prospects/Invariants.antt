use Rattle.std.proofs.Common.{◌≡◌, take}
use Rattle.spec_next.proofs.outlook.copy_prospects.Given as goal

-- the copies so far
abbrev pub invariant-loop-prospect : goal.invariant-loop-prospect
invariant-loop-prospect l = l.list ≡ take l.prospect-index l.prospects
