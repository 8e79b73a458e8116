use Rattle.std.proofs.Common.{◌≡◌, ◌++◌, drop}
use Rattle.next_text.proofs.outlook.add_requirements.Given as goal

abbrev pub invariant-loop-requirement : goal.invariant-loop-requirement
invariant-loop-requirement l = l.all ++ drop l.requirement-index l.requirements ≡ l.initial.all ++ l.requirements
