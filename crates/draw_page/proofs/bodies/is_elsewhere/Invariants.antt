use Rattle.std.proofs.Common.{◌≡◌, drop}
use Rattle.spec_page.specs.Page.{is_elsewhere}
use Rattle.draw_page.proofs.bodies.is_elsewhere.Given as goal

abbrev pub invariant-loop-row : goal.invariant-loop-row
invariant-loop-row l = is_elsewhere (drop l.row-index l.rows) ≡ is_elsewhere l.rows
