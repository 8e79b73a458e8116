use Rattle.std.proofs.Common.{◌≡◌, ◌++◌, drop}
use Rattle.bm_translate.specs.Shown.{told_of}
use Rattle.bm_translate.proofs.posts.put_items.Given as goal

-- what the items so far tell is shown, and what those of the rest tell will be
abbrev pub invariant-loop-item : goal.invariant-loop-item
invariant-loop-item l = l.shown ++ told_of l.secrets (drop l.item-index l.items) ≡ l.fn.shown ++ told_of l.secrets l.items
