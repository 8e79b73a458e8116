use Rattle.std.proofs.Common.{◌≡◌, ◌++◌, map, drop}
use Rattle.std.specs.List.{flat_map}
use Rattle.spec_text.specs.StepText.{step_line}
use Rattle.deal_follow.specs.Seen.{step_of}
use Rattle.deal_state.proofs.lines.put_deeds.Given as goal

abbrev pub invariant-loop-deed : goal.invariant-loop-deed
invariant-loop-deed l =
    l.out.items ++ flat_map (step_line l.made) (map step_of (drop l.deed-index l.deeds))
    ≡ l.initial.out.items ++ flat_map (step_line l.made) (map step_of l.deeds)
