use Rattle.std.proofs.Common.{refl, subst}
use Rattle.std.specs.Prelude.{IfOk, IfErr}
use Rattle.spec_tool.specs.Audit.{Given}
use Rattle.bm_world.specs.Playing.{setup_in}
use Rattle.bm_world.specs.declared.halt.Halt.TheVariants.{Memory}
use Rattle.bm_world_heard.specs.Heard.{Stopped}
use Rattle.bm_audit.specs.Found.{Takes, given_strings}
use Rattle.bm_world_heard.proofs.Hearing.{hears_none, outstanding}
use Rattle.bm_audit.proofs.findings.line_kind.Goals as goal

pub returns-in-Ok-clause-took : goal.returns-in-Ok-clause-took
returns-in-Ok-clause-took g c =
    subst (λ (given : Given). IfOk c.said.result (Takes g.H.Hash32.digest_of c.args.world.now c.said.new.world c.args.catalog.now given))
    c.in-Ok.ensures c.said.ensures.took

pub returns-in-Ok-clause-stopped : goal.returns-in-Ok-clause-stopped
returns-in-Ok-clause-stopped g c =
    subst (λ (given : Given). IfErr c.said.result (Stopped g.H.Hash32.digest_of c.args.world.now c.said.new.world
    (given_strings (setup_in g.H.Hash32.digest_of c.args.world.now) c.args.world.now.world given)))
    c.in-Ok.ensures c.said.ensures.stopped

pub returns-in-Err-clause-stopped : goal.returns-in-Err-clause-stopped
returns-in-Err-clause-stopped g c =
    outstanding g.H.Hash32.digest_of c.args.world.now c.args.world.now _ _ Memory (hears_none g.H.Hash32.digest_of c.args.world.now) refl
