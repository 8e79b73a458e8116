use Rattle.std.proofs.Common.{◌≡◌, [], drop, map}
use Rattle.spec_run.specs.Translation.{last_or}
use Rattle.draw_svg.proofs.runs.last_outlook.Given as goal

abbrev pub invariant-loop-row : goal.invariant-loop-row
invariant-loop-row l = last_or l.text (map (λ r. r.outlook) (drop l.row-index l.rows)) ≡ last_or [] (map (λ r. r.outlook) l.rows)
