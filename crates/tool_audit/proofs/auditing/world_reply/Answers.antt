use Rattle.std.proofs.Common.{◌≡◌, subst}
use Rattle.std.specs.Prelude.{IfOk}
use Rattle.spec_tool.specs.Commands.{Printed}
use Rattle.spec_tool.specs.Replies.{printed}
use Rattle.bm_world.specs.Playing.{setup_in}
use Rattle.tool_audit.proofs.Replied.{found_path, halted_is}
use Rattle.tool_audit.proofs.auditing.world_reply.Goals as goal

pub returns-in-Ok : goal.returns-in-Ok
returns-in-Ok g c =
    let s = setup_in g.H.Hash32.digest_of c.args.world.now in
    let w = c.args.world.now.world in
    subst (λ (p : Printed). IfOk c.found_reply.result (λ reply. printed reply ≡ p))
    (found_path s w c.args.text.now c.in-Ok.report _ c.in-Ok.ensures.audited.found c.in-Ok.ensures.audited.calm c.is_compiled-compiled.ensures)
    c.found_reply.ensures

pub returns-in-Err : goal.returns-in-Err
returns-in-Err g c =
    halted_is g.H.Hash32.digest_of c.args.world.now c.audit.new.world c.args.text.now c.in-Err.halt c.requires c.in-Err.ensures.stopped
    c.halt_reply.result c.halt_reply.ensures
