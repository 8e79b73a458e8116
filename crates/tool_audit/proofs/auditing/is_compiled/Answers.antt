use Rattle.std.proofs.Common.{sym, ap, ◌∙◌}
use Rattle.std.specs.Prelude.{option_map}
use Rattle.spec_run.specs.Compiled.{compiled_instance}
use Rattle.bm_world.specs.Playing.{setup_in}
use Rattle.tool_audit.proofs.Replied.{compiled_some, compiled_none}
use Rattle.tool_audit.proofs.auditing.is_compiled.Goals as goal

pub returns-in-Some : goal.returns-in-Some
returns-in-Some g c =
    let s = setup_in g.H.Hash32.digest_of c.args.world.now in
    compiled_some s.hash (compiled_instance s c.args.world.now.world 0) _ (ap (option_map (λ x. x.now)) (sym c.in-Some.is) ∙ c.compiled.ensures)

pub returns-in-None : goal.returns-in-None
returns-in-None g c =
    let s = setup_in g.H.Hash32.digest_of c.args.world.now in
    compiled_none s.hash (compiled_instance s c.args.world.now.world 0) (ap (option_map (λ x. x.now)) (sym c.in-None.is) ∙ c.compiled.ensures)
