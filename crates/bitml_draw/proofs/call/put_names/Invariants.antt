use Rattle.std.proofs.Common.{◌≡◌, ◌++◌, drop, map}
use Rattle.std.specs.Prelude.{string_bytes}
use Rattle.bitml_draw.specs.DrawAnswer.{further_names}
use Rattle.bitml_draw.proofs.call.put_names.Given as goal

abbrev pub invariant-loop-name : goal.invariant-loop-name
invariant-loop-name l =
    l.title.items ++ further_names (map string_bytes (drop l.name-index l.names))
    ≡ l.initial.title.items ++ further_names (map string_bytes l.names)
