use Rattle.std.proofs.Common.{◌∙◌}
use Rattle.bm_compile.proofs.Indexing.{keys_there, keys_planned}
use Rattle.bm_compile.proofs.compiled.Compiled.keys_at.Goals as goal

pub returns-in-Some-clause-by_list : goal.returns-in-Some-clause-by_list
returns-in-Some-clause-by_list c =
    c.keys_of.ensures
    ∙ keys_there c.args.self.now.paths c.args.self.now.keys c.args.path.now c.args.self.now.nodes c.in-Some.number c.in-Some.ensures

pub returns-in-Some-clause-compiled : goal.returns-in-Some-clause-compiled
returns-in-Some-clause-compiled c = λ hash s is.
    returns-in-Some-clause-by_list c ∙ keys_planned hash s c.args.self.now c.args.path.now c.paths_are_listed.ensures is

pub returns-in-None-clause-by_list : goal.returns-in-None-clause-by_list
returns-in-None-clause-by_list c = rw (← c.self.view_is) (rw (c.as_slice.ensures, c.as_slice-in-None.ensures) at c.find_keys.ensures)

pub returns-in-None-clause-compiled : goal.returns-in-None-clause-compiled
returns-in-None-clause-compiled c = λ hash s is.
    returns-in-None-clause-by_list c ∙ keys_planned hash s c.args.self.now c.args.path.now c.paths_are_listed.ensures is
