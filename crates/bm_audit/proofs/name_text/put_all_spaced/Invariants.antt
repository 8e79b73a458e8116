use Rattle.std.proofs.Common.{◌≡◌, ◌++◌, drop}
use Rattle.std.specs.List.{flat_map}
use Rattle.std.specs.Prelude.{codes}
use Rattle.spec_tool.specs.Listed.{which_text}
use Rattle.bm_audit.proofs.name_text.put_all_spaced.Given as goal

abbrev pub invariant-loop-which : goal.invariant-loop-which
invariant-loop-which l =
    l.out.items ++ flat_map (λ which. codes " " ++ which_text which) (drop l.which-index l.names) ≡ l.initial.out.items ++ flat_map (λ which. codes " " ++ which_text which) l.names
