use Rattle.std.proofs.Common.{◌≡◌, [], drop, map}
use Rattle.spec_run.specs.Translation.{last_or}
use Rattle.draw_svg.proofs.runs.last_looks.Given as goal

abbrev pub invariant-loop-row : goal.invariant-loop-row
invariant-loop-row l = last_or l.looks (map (λ r. r.looks) (drop l.row-index l.rows)) ≡ last_or [] (map (λ r. r.looks) l.rows)
