use Rattle.std.proofs.Common.{rules}
use Rattle.bm_io.proofs.Pieces.{held_is}
use Rattle.bm_io.proofs.mem_sink.MemSinkSink.write_all.Goals as goal

pub invariant_of-self : goal.invariant_of-self
invariant_of-self c =
    (search rules, search rules, held_is _ _ _ _ _ _ c.self.invariant.2 (c.in-Ok.ensures.items) c.of.ensures c.and-self-inside.ensures)

pub invariant_of-self-2 : goal.invariant_of-self-2
invariant_of-self-2 c =
    (search rules, search rules, held_is _ _ _ _ _ _ c.self.invariant.2 (c.in-Ok.ensures.items) c.of.ensures c.and-self-inside.ensures)
