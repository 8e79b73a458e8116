use Rattle.std.proofs.Common.{◌≡◌, ◌++◌, drop, codes}
use Rattle.std.specs.Prelude.{flat_map}
use Rattle.std.specs.Fmt.{decimal}
use Rattle.draw_page.proofs.run_words.put_sums.Given as goal

abbrev pub invariant-loop-sum : goal.invariant-loop-sum
invariant-loop-sum l =
    l.out.items ++ flat_map (λ v. decimal v ++ codes " ") (drop l.sum-index l.sums)
    ≡ l.initial.out.items ++ flat_map (λ v. decimal v ++ codes " ") l.sums
