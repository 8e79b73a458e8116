use Rattle.std.proofs.Common.{◌≡◌, ◌++◌, drop}
use Rattle.std.specs.Prelude.{filter}
use Rattle.spec_next.specs.Prospects.{is_never}
use Rattle.next_outlook.proofs.never.never_of.Given as goal

abbrev pub invariant-loop-requirement : goal.invariant-loop-requirement
invariant-loop-requirement l = l.list ++ filter is_never (drop l.requirement-index l.requirements) ≡ filter is_never l.requirements
