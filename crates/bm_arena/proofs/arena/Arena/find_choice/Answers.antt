use Rattle.bm_arena.proofs.arena.Arena.find_choice.Goals as goal

pub returns-clause-by_term : goal.returns-clause-by_term
returns-clause-by_term c root e = rw (c.choice_at.ensures, e) (c.choices_are_found.ensures root c.args.position.now)
