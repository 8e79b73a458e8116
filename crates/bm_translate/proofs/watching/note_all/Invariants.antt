use Rattle.std.proofs.Common.{◌≡◌, ◌++◌, map, take, drop}
use Rattle.bm_translate.specs.Shown.{noted}
use Rattle.bm_translate.proofs.watching.note_all.Given as goal

-- those so far are noted, and those of the rest are as they were
abbrev pub invariant-loop-one : goal.invariant-loop-one
invariant-loop-one g l =
    take l.one-index l.one-items ++ map (noted (g.S.Shows.strings l.shown)) (drop l.one-index l.one-items)
    ≡ map (noted (g.S.Shows.strings l.shown)) l.fn.watched.items
