use Rattle.bm_audit.proofs.Composed.{takes_read, stopped_read}
use Rattle.bm_audit.proofs.findings.said_of.Goals as goal

pub returns-in-Ok-clause-took : goal.returns-in-Ok-clause-took
returns-in-Ok-clause-took g c = λ given e.
    takes_read g.H.Hash32.digest_of c.args.world.now c.judged_kind.new.world c.args.catalog.now c.args.tx.now given c.in-Ok.kind e
    c.in-Ok.ensures.read

pub returns-in-Err-clause-stopped : goal.returns-in-Err-clause-stopped
returns-in-Err-clause-stopped g c = λ given e.
    stopped_read g.H.Hash32.digest_of c.args.world.now c.judged_kind.new.world c.args.tx.now given c.in-Err.halt e c.in-Err.ensures.stopped
