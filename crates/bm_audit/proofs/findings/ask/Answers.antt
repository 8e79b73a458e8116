use Rattle.std.proofs.Common.{refl}
use Rattle.bm_world.specs.declared.halt.Halt.TheVariants.{Memory}
use Rattle.bm_world_heard.proofs.Hearing.{hears_none, outstanding, judging_stopped}
use Rattle.bm_audit.proofs.findings.ask.Goals as goal

pub judge-requires : goal.judge-requires
judge-requires g c = record { few = c.is_huge.ensures c.if-is_huge.false }

pub returns-then-is_huge-clause-stopped : goal.returns-then-is_huge-clause-stopped
returns-then-is_huge-clause-stopped g c =
    outstanding g.H.Hash32.digest_of c.args.world.now c.args.world.now _ _ Memory (hears_none g.H.Hash32.digest_of c.args.world.now) refl

pub returns-in-Err-clause-stopped : goal.returns-in-Err-clause-stopped
returns-in-Err-clause-stopped g c =
    judging_stopped g.H.Hash32.digest_of c.args.world.now c.judge.new.self c.args.tx.now c.in-Err.halt c.in-Err.ensures.stopped
