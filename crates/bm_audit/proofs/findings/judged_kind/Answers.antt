use Rattle.std.proofs.Common.{refl}
use Rattle.bm_world.specs.declared.halt.Halt.TheVariants.{Memory}
use Rattle.bm_world_heard.proofs.Hearing.{outstanding}
use Rattle.bm_audit.proofs.Composed.{hears_judged, refusal_there, reads_by}
use Rattle.bm_audit.proofs.findings.judged_kind.Goals as goal

pub kind_of-requires : goal.kind_of-requires
kind_of-requires g c =
    refusal_there g.H.Hash32.digest_of c.args.world.now c.ask.new.world c.args.catalog.now c.args.tx.now c.in_ok-refusal.refusal
    c.in_ok-refusal.ensures.judged

pub returns-in-Ok-clause-read : goal.returns-in-Ok-clause-read
returns-in-Ok-clause-read g c =
    reads_by g.H.Hash32.digest_of c.args.world.now c.ask.new.world c.args.catalog.now c.args.tx.now c.in_ok-refusal.refusal
    c.in_ok-refusal.ensures.judged c.in-Ok.kind c.in-Ok.ensures

pub returns-in-Err-clause-stopped : goal.returns-in-Err-clause-stopped
returns-in-Err-clause-stopped g c =
    outstanding g.H.Hash32.digest_of c.args.world.now c.ask.new.world _ _ Memory
    (hears_judged g.H.Hash32.digest_of c.args.world.now c.ask.new.world c.args.catalog.now c.args.tx.now c.in_ok-refusal.refusal
    c.in_ok-refusal.ensures.judged) refl
