use Rattle.std.proofs.Common.{sym, ◌∙◌}
use Rattle.std.specs.BTreeSet.{contains}
use Rattle.std.specs.Ordering.{is_eq}
use Rattle.bm_repeats.proofs.Meeting.{begin, meet, unmet}
use Rattle.bm_repeats.proofs.elements.repeats_by_order.Goals as goal

pub loop-first-init : goal.loop-first-init
loop-first-init g c = begin (λ q k. is_eq (g.T.Ord.cmp q k)) _ _ _ c.new-seen.ensures.empty

pub loop-first-preserved : goal.loop-first-preserved
loop-first-preserved g c =
    meet (contains g.T.Ord.cmp c.loop-first.seen) (contains g.T.Ord.cmp c.insert.new.self) (λ x y. is_eq (g.T.Ord.cmp x y)) g.T.PartialEq.eq
    c.in-Some.first.now _ _ _ (λ y. sym (g.met.T.Ord.matches_eq _ y) ∙ g.met.T.Eq.laws.symm _ y) c.in-Some.ensures.cases.0
    (unmet _ _ c.in_ok-insert.ensures.added c.if-not-branch.false) c.in_ok-insert.ensures.updates.0 c.loop-first.invariant
