use Rattle.bm_tx.proofs.Filled.{gives_marked}
use Rattle.bm_tx.proofs.reading.body_of.Goals as goal

pub returns-then-first-eq0 : goal.returns-then-first-eq0
returns-then-first-eq0 c =
    gives_marked (λ x. ((x.0, x.1), x.2.now))
    c.flagged_of.result c.args.bytes.now c.in-Some.rest.now c.in-Some.first.now c.in-Some.ensures.cases.0 c.if-first-eq0.true c.flagged_of.ensures
