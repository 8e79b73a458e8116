use Rattle.std.proofs.Common.{◌++◌, ◌∷◌, [], ap, ◌∙◌, arith}
use Rattle.bm_rows.proofs.Laying.{pushed}
use Rattle.bm_rows.proofs.Rows.push.Goals as goal

pub invariant_of-self-2 : goal.invariant_of-self-2
invariant_of-self-2 g c =
    (pushed c.self.inside.cells.items c.self.inside.ends.items c.args.row.now.items _ _ c.len.result c.self.invariant c.in_ok-append.ensures.items
    (c.push_reserved.ensures.items ∙ ap (λ l. l ++ c.len.result ∷ []) c.in_ok-reserve.ensures.items) (let counted = c.len.ensures in omega (arith, counted))).0

pub returns-clause-ok : goal.returns-clause-ok
returns-clause-ok g c =
    (pushed c.self.inside.cells.items c.self.inside.ends.items c.args.row.now.items _ _ c.len.result c.self.invariant c.in_ok-append.ensures.items
    (c.push_reserved.ensures.items ∙ ap (λ l. l ++ c.len.result ∷ []) c.in_ok-reserve.ensures.items) (let counted = c.len.ensures in omega (arith, counted))).1
    ∙ ap (λ rows. rows ++ c.args.row.now.items ∷ []) c.self.view_is
