use Rattle.std.proofs.Common.{sym, ap, ◌∙◌}
use Rattle.std.specs.Prelude.{is_some}
use Rattle.bm_world_sign.proofs.Shown.{some-map, is_here}
use Rattle.bm_world_sign.proofs.known.is_compiled.Goals as goal

pub returns : goal.returns
returns c = λ hash messages all.
    c.is_some.ensures ∙ sym (some-map (λ r. r.now) c.compiled.result) ∙ ap is_some c.compiled.ensures
    ∙ is_here hash c.args.board.now messages c.args.contract all
