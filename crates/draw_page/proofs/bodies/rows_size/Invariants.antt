use Rattle.std.proofs.Common.{◌≡◌, ◌+◌, drop}
use Rattle.spec_page.specs.ContractPart.{rows_size}
use Rattle.draw_page.proofs.bodies.rows_size.Given as goal

abbrev pub invariant-loop-row : goal.invariant-loop-row
invariant-loop-row l = l.count + rows_size (drop l.row-index l.rows) ≡ rows_size l.rows
