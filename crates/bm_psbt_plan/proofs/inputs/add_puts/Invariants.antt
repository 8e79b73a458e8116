use Rattle.std.proofs.Common.{◌≡◌, ◌++◌, drop}
use Rattle.bm_psbt_plan.specs.Parts.{put_inputs}
use Rattle.bm_psbt_plan.proofs.inputs.add_puts.Given as goal

abbrev pub invariant-loop-name : goal.invariant-loop-name
invariant-loop-name g l =
    l.inputs.items ++ put_inputs (g.H.Hash32.digest_of l.hasher) l.book l.pre (drop l.name-index l.puts) l.rest
    ≡ l.initial.inputs.items ++ put_inputs (g.H.Hash32.digest_of l.hasher) l.book l.pre l.puts l.digests
