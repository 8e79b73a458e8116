use Rattle.std.proofs.Common.{◌≡◌, [], drop, map}
use Rattle.spec_next.specs.Together.{once_onto, joined_line}
use Rattle.next_text.proofs.together.joined_lines.Given as goal

abbrev pub invariant-loop-requirement : goal.invariant-loop-requirement
invariant-loop-requirement l = once_onto l.lines (map (joined_line l.all) (drop l.requirement-index l.all)) ≡ once_onto [] (map (joined_line l.all) l.all)
