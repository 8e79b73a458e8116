use Rattle.bm_match.proofs.WholeRun.{counts_held, some_nodes}
use Rattle.bm_match.proofs.found.count_held.Goals as goal

pub returns-in-Some : goal.returns-in-Some
returns-in-Some c =
    λ s w held number e h.
    counts_held s w c.args.compiled.now held number c.args.active.now e h _ _ c.in-Some.ensures c.branches_of.ensures

pub returns-in-None : goal.returns-in-None
returns-in-None c = λ s w held number e h. absurd (some_nodes s w c.args.compiled.now held number c.args.active.now e h c.in-None.ensures)
