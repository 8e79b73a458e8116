use Rattle.bm_arena.proofs.arena.Arena.find.Goals as goal

pub returns-clause-by_term : goal.returns-clause-by_term
returns-clause-by_term c root e = rw (c.branch_at.ensures, e) (c.branches_are_found.ensures root c.args.path.now)
