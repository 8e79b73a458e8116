use Rattle.std.proofs.Common.{◌≡◌, ◌++◌, drop}
use Rattle.std.specs.List.{flat_map}
use Rattle.deal_file.specs.Texts.{blank_line}
use Rattle.deal_file.proofs.texts.put_blank_lines.Given as goal

abbrev pub invariant-loop-needed : goal.invariant-loop-needed
invariant-loop-needed l =
    l.out.items ++ flat_map blank_line (drop l.needed-index l.needs) ≡ l.initial.out.items ++ flat_map blank_line l.needs
