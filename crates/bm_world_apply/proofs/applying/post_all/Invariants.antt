use Rattle.std.proofs.Common.{◌≡◌, ◌++◌, take}
use Rattle.bm_world_apply.proofs.applying.post_all.Given as goal

abbrev pub invariant-loop-string : goal.invariant-loop-string
invariant-loop-string l = l.exchange ≡ record l.fn.exchange { posted = l.fn.exchange.posted ++ take l.string-index l.strings }
