use Rattle.std.proofs.Common.{◌≡◌, map, drop}
use Rattle.spec_data.specs.Lists.{is_among}
use Rattle.bm_translate.proofs.strings_shown.is_lent.Given as goal

-- none so far is the string
abbrev pub invariant-loop-one : goal.invariant-loop-one
invariant-loop-one l =
    is_among l.string (map (λ b. b.now) (drop l.one-index l.few)) ≡ is_among l.string (map (λ b. b.now) l.few)
