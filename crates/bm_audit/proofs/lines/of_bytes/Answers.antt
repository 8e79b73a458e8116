use Rattle.std.proofs.Common.{Err, sym, ap, ◌∙◌}
use Rattle.spec_tool.specs.Audit.{given_by}
use Rattle.bm_audit.proofs.lines.of_bytes.Goals as goal

pub returns-in-Ok : goal.returns-in-Ok
returns-in-Ok c = sym (ap given_by c.in-Ok.ensures.ok)

pub returns-in-Err-BadTx : goal.returns-in-Err-BadTx
returns-in-Err-BadTx c = sym (ap given_by (c.decode.ensures.bad _ (c.in-Err-BadTx.is ∙ ap Err c.in-Err-BadTx.field-0-is)))
