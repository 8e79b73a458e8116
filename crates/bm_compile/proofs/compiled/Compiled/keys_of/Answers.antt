use Rattle.bm_compile.specs.Numbered.{row_at, keys_of}
use Rattle.bm_compile.proofs.Indexing.{same_found}
use Rattle.std.proofs.Common.{◌∙◌}
use Rattle.bm_compile.proofs.compiled.Compiled.keys_of.Goals as goal

pub returns : goal.returns
returns c =
    rw (← c.self.view_is) (rw (c.as_slice.ensures, c.as_slice-2.ensures) at c.row.ensures
    ∙ same_found (row_at c.self.inside.keys) (keys_of c.self.inside.paths c.self.inside.keys) c.self.inside.branches c.self.inside.arena
    c.args.number c.self.invariant.rows)
