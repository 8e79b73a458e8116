use Rattle.std.proofs.Common.{◌≡◌, ◌++◌, take}
use Rattle.std.specs.List.{flat_map}
use Rattle.spec_text.specs.RunText.{honest_text}
use Rattle.next_text.proofs.header.put_honest.Given as goal

abbrev pub invariant-loop-name : goal.invariant-loop-name
invariant-loop-name l =
    l.out.items ≡ l.initial.out.items ++ flat_map honest_text (take l.name-index l.names)
