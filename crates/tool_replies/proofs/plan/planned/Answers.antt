use Rattle.std.proofs.Common.{◌∙◌}
use Rattle.spec_run.specs.Compiled.{compiled_instance}
use Rattle.bm_world.specs.Playing.{setup_in}
use Rattle.tool_replies.proofs.plan.planned.Goals as goal

pub returns : goal.returns
returns g c =
    let s = setup_in g.H.Hash32.digest_of c.args.world.now in
    let shown = c.in_ok-text.ensures.compiled s.hash (compiled_instance s c.args.world.now.world 0) c.compiled.ensures in
    λ i. record { status = c.new.ensures.status i; text = (c.new.ensures.text ∙ shown) i }
