use Rattle.std.proofs.Common.{◌≡◌, ◌++◌, drop, map, None}
use Rattle.spec_page.specs.SvgItems.{item}
use Rattle.draw_svg.proofs.items.put_words.Given as goal

abbrev pub invariant-loop-word : goal.invariant-loop-word
invariant-loop-word l =
    l.items ++ map (λ w. item l.kind None w) (map (λ w. w.now) (drop l.word-index l.words))
    ≡ l.initial.items ++ map (λ w. item l.kind None w) (map (λ w. w.now) l.words)
