use Rattle.std.proofs.Common.{◌≡◌, ◌++◌, drop, map}
use Rattle.spec_text.specs.Canonical.{advert_text}
use Rattle.draw_rows.proofs.picture.texts_of.Given as goal

abbrev pub invariant-loop-checked : goal.invariant-loop-checked
invariant-loop-checked l =
    l.texts.items ++ map advert_text (drop l.checked-index l.contracts) ≡ map advert_text l.contracts
