use Rattle.std.proofs.Common.{◌≡◌, ◌++◌, drop}
use Rattle.bm_translate.specs.Shown.{revealed_by}
use Rattle.bm_translate.proofs.watching.revealed_by.Given as goal

-- those so far, and those of the rest, are all
abbrev pub invariant-loop-one : goal.invariant-loop-one
invariant-loop-one g l =
    l.made.items ++ revealed_by l.config.committed (g.S.Shows.strings l.shown) (drop l.one-index l.watched)
    ≡ revealed_by l.config.committed (g.S.Shows.strings l.shown) l.watched
