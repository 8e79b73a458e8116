use Rattle.std.proofs.Common.{◌≡◌, drop, map}
use Rattle.spec_run.specs.Translation.{last_or}
use Rattle.draw_svg.proofs.runs.last_money.Given as goal

abbrev pub invariant-loop-row : goal.invariant-loop-row
invariant-loop-row l = last_or l.money (map (λ r. r.money) (drop l.row-index l.rows)) ≡ last_or l.none (map (λ r. r.money) l.rows)
