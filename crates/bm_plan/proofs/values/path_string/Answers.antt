use Rattle.std.proofs.Common.{◌∙◌}
use Rattle.bm_plan.proofs.Json.Paths.{path_is_utf8, taken_whole}
use Rattle.bm_plan.proofs.values.path_string.Goals as goal

pub returns : goal.returns
returns c =
    taken_whole c.from_utf8_lossy.result _ _ c.from_utf8_lossy.ensures.ok (c.deref.ensures.value ∙ c.in_ok-name.ensures) (path_is_utf8 c.args.path.now)
