use Rattle.std.proofs.Common.{◌≡◌, drop}
use Rattle.spec_bitcoin.specs.Trees.{read}
use Rattle.spec_bitcoin.specs.Meaning.{outcome}
use Rattle.bm_interp.specs.Resuming.{resume}
use Rattle.bm_interp.proofs.running.run_ops.Given as goal

-- what is left to do makes of the stacks here what the whole makes of those at the start
abbrev pub invariant-loop-op : goal.invariant-loop-op
invariant-loop-op g l =
    resume (g.H.Hash32.digest_of l.hash) (g.C.SigCheck.valid l.check) (read (drop l.op-index l.ops)) l.conditions (record { main = l.main; alt = l.alt })
    ≡ outcome (g.H.Hash32.digest_of l.hash) (g.C.SigCheck.valid l.check) l.ops l.fn.stack
