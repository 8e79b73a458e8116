use Rattle.std.proofs.Common.{◌≡◌, ◌++◌, drop}
use Rattle.bm_translate.specs.Shown.{revealed_of}
use Rattle.bm_translate.proofs.watching.put_revealed.Given as goal

-- those so far, and those of the rest, are all
abbrev pub invariant-loop-one : goal.invariant-loop-one
invariant-loop-one l =
    l.steps.items ++ revealed_of l.contract l.party (drop l.one-index l.watched) ≡ l.initial.steps.items ++ revealed_of l.contract l.party l.watched
