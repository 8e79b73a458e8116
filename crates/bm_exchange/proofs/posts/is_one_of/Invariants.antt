use Rattle.std.proofs.Common.{◌≡◌, drop}
use Rattle.spec_data.specs.Lists.{is_among}
use Rattle.bm_exchange.proofs.posts.is_one_of.Given as goal

abbrev pub invariant-loop-number : goal.invariant-loop-number
invariant-loop-number l = is_among l.string (drop l.number l.strings) ≡ is_among l.string l.strings
