use Rattle.std.proofs.Common.{Option, [], ◌++◌, sym, ap, ◌∙◌, append-nil}
use Rattle.spec_tool.specs.declared.finding.Kind.{Kind}
use Rattle.bm_audit.specs.Found.{onto_found}
use Rattle.bm_audit.proofs.findings.put_kind.Goals as goal

pub returns-in-None : goal.returns-in-None
returns-in-None c =
    sym (append-nil c.args.findings.now) ∙ ap (λ (o : Option Kind). c.args.findings.now ++ onto_found c.args.number o []) (sym c.in-None.is)
