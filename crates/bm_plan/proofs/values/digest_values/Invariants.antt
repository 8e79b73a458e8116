use Rattle.std.proofs.Common.{◌≡◌, map, take}
use Rattle.serde_json.specs.View.{view}
use Rattle.spec_data.specs.Digits.{hex_text}
use Rattle.spec_tool.specs.WeighText.{quoted}
use Rattle.bm_plan.specs.Seen.{seen, plain}
use Rattle.bm_plan.proofs.values.digest_values.Given as goal

abbrev pub invariant-loop-digest : goal.invariant-loop-digest
invariant-loop-digest l =
    map seen (map view l.values.items) ≡ map plain (map (λ d. quoted (hex_text d)) (take l.digest-index l.digests))
