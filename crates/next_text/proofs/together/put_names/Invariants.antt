use Rattle.std.proofs.Common.{◌≡◌, ◌++◌, drop}
use Rattle.std.specs.Prelude.{flat_map}
use Rattle.spec_next.specs.Together.{spaced}
use Rattle.next_text.proofs.together.put_names.Given as goal

abbrev pub invariant-loop-name : goal.invariant-loop-name
invariant-loop-name l = l.out.items ++ flat_map spaced (drop l.name-index l.names) ≡ l.initial.out.items ++ flat_map spaced l.names
