use Rattle.std.proofs.Common.{◌≡◌, ◌++◌, drop}
use Rattle.bm_report.specs.Entries.{entries_by}
use Rattle.tool_shows.proofs.entries.entries_by.Given as goal

abbrev pub invariant-loop-number : goal.invariant-loop-number
invariant-loop-number l = l.entries.items ++ entries_by (drop l.number l.records) (drop l.number l.steps) ≡ entries_by l.records l.steps
