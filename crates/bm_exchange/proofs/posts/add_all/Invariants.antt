use Rattle.std.proofs.Common.{◌≡◌, ◌++◌, take}
use Rattle.bm_exchange.proofs.posts.add_all.Given as goal

abbrev pub invariant-loop-number : goal.invariant-loop-number
invariant-loop-number l = l.indexed ≡ l.fn.indexed ++ take l.number l.strings
