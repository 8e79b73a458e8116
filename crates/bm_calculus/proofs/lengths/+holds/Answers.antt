use Rattle.std.proofs.Common.{◌≡◌, rules}
use Rattle.spec_terms.specs.Bound.{is_bounded}
use Rattle.spec_terms.specs.Term.{both}
use Rattle.bm_syntax.specs.View.{test}
use Rattle.bm_syntax.specs.declared.term.Pred.{the_lemmas}
use Rattle.bm_calculus.proofs.Bools.{second_true}
use Rattle.bm_calculus.proofs.lengths.+holds.Goals as goal

pub holds-second-requires : goal.holds-second-requires
holds-second-requires t c =
    let seen : test c.args.pred.now ≡ both (test c.in-And.a.value) (test c.in-And.b.value) = search (rules, the_lemmas, c.in-And.is) in
    let bounded = rw seen at c.requires.bounded in (
      search (rules, the_lemmas, c.in-And.is, c.deref-in-And.ensures),
      rw c.deref-in-And.ensures (second_true (is_bounded (test c.in-And.a.value)) (is_bounded (test c.in-And.b.value)) bounded),
    )
