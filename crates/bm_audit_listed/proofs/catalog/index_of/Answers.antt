use Rattle.bm_audit_listed.proofs.Placing.{indexed_next}
use Rattle.bm_audit_listed.proofs.catalog.index_of.Goals as goal

pub loop-place-preserved : goal.loop-place-preserved
loop-place-preserved c =
    indexed_next c.args.candidates.now c.loop-place.place c.index-candidates-place.result c.loop-place.index c.add_place.new.index
    c.loop-place-test.true c.index-candidates-place.is c.loop-place.invariant c.in_ok-add_place.ensures
