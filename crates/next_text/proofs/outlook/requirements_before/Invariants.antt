use Rattle.std.proofs.Common.{◌≡◌, ◌++◌, drop}
use Rattle.std.specs.List.{flat_map}
use Rattle.spec_next.specs.declared.outlook.Prospect.{Prospect}
use Rattle.spec_next.specs.Listed.{before}
use Rattle.next_text.proofs.outlook.requirements_before.Given as goal

abbrev pub invariant-loop-prospect : goal.invariant-loop-prospect
invariant-loop-prospect l =
    l.all ++ flat_map (λ (p : Prospect). p.requirements) (before (drop l.prospect-index l.prospects))
    ≡ flat_map (λ (p : Prospect). p.requirements) (before l.prospects)
