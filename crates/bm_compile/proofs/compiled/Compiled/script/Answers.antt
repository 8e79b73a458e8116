use Rattle.bm_compile.specs.Numbered.{value_at, script_of}
use Rattle.bm_compile.proofs.Indexing.{same_found, script_found}
use Rattle.std.proofs.Common.{◌∙◌}
use Rattle.bm_compile.proofs.compiled.Compiled.script.Goals as goal

pub returns-clause-by_node : goal.returns-clause-by_node
returns-clause-by_node c =
    rw (← c.self.view_is) (rw (c.as_slice.ensures, c.as_slice-2.ensures) at c.entry.ensures
    ∙ same_found (value_at c.self.inside.scripts) (script_of c.self.inside.scripts) c.self.inside.choices c.self.inside.arena c.args.number
    c.self.invariant.outputs)

pub returns-clause-compiled : goal.returns-clause-compiled
returns-clause-compiled c hash s is = returns-clause-by_node c ∙ script_found hash s c.args.self.now is c.args.number c.scripts_are_listed.ensures
