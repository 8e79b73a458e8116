use Rattle.std.proofs.Common.{◌≡◌, ◌++◌, drop}
use Rattle.bm_translate.specs.Shown.{strings_of}
use Rattle.bm_translate.proofs.watching.strings_of.Given as goal

-- those so far, and those of the rest, are all
abbrev pub invariant-loop-one : goal.invariant-loop-one
invariant-loop-one l = l.strings ++ strings_of (drop l.one-index l.watched) ≡ strings_of l.watched
