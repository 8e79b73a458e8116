use Rattle.std.proofs.Common.{Option, [], ◌++◌, refl, ap, ◌∙◌}
use Rattle.spec_tool.specs.declared.finding.Kind.{Kind}
use Rattle.bm_world.specs.declared.halt.Halt.TheVariants.{Memory}
use Rattle.bm_audit.specs.Found.{onto_found}
use Rattle.bm_world_heard.proofs.Hearing.{outstanding}
use Rattle.bm_audit.proofs.findings.take_line.Goals as goal

pub returns-in-Ok-clause-took : goal.returns-in-Ok-clause-took
returns-in-Ok-clause-took g c = record {
  calm = c.in_ok-kind.ensures.took.calm;
  added =
      c.in-Ok.ensures.added
      ∙ ap (λ (o : Option Kind). c.args.findings.now ++ onto_found c.args.number o []) c.in_ok-kind.ensures.took.said;
}

pub returns-in-Err-clause-stopped : goal.returns-in-Err-clause-stopped
returns-in-Err-clause-stopped g c =
    outstanding g.H.Hash32.digest_of c.args.world.now c.line_kind.new.world _ _ Memory c.in_ok-kind.ensures.took.calm.hears refl
