use Rattle.std.proofs.Common.{map, ap, ◌∙◌}
use Rattle.serde_json.specs.View.{view}
use Rattle.bm_plan.specs.Seen.{seen}
use Rattle.bm_plan.proofs.Json.Texts.{array_text}
use Rattle.bm_plan.proofs.values.list_value.Goals as goal

pub returns : goal.returns
returns c texts h = ap seen c.from.ensures ∙ array_text (map view c.args.values.items) texts h
