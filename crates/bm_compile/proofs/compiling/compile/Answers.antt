use Rattle.theory_script.proofs.KeyPlan.{plan_keys}
use Rattle.bm_compile.proofs.compiling.compile.Goals as goal

pub returns-clause-limits : goal.returns-clause-limits
returns-clause-limits g c =
    c.compile_with.ensures.limits (plan_keys (g.H.Hash32.digest_of c.args.trail.now.hasher) (g.met.H.Hash32.sized c.args.trail.now.hasher))
