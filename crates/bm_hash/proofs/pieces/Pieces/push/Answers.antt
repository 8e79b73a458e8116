use Rattle.std.proofs.Common.{◌++◌, ◌∷◌, [], ap, ◌∙◌, arith}
use Rattle.bm_hash.proofs.Piecing.{pushed}
use Rattle.bm_hash.proofs.pieces.Pieces.push.Goals as goal

pub invariant_of-self-2 : goal.invariant_of-self-2
invariant_of-self-2 c =
    (pushed c.self.inside.bytes.items c.self.inside.ends.items c.args.string.now _ _ c.len.result c.self.invariant c.in_ok-extend_from_slice.ensures.items
    (c.push_reserved.ensures.items ∙ ap (λ l. l ++ c.len.result ∷ []) c.in_ok-reserve.ensures.items) (let counted = c.len.ensures in omega (arith, counted))).0

pub returns-clause-ok : goal.returns-clause-ok
returns-clause-ok c =
    (pushed c.self.inside.bytes.items c.self.inside.ends.items c.args.string.now _ _ c.len.result c.self.invariant c.in_ok-extend_from_slice.ensures.items
    (c.push_reserved.ensures.items ∙ ap (λ l. l ++ c.len.result ∷ []) c.in_ok-reserve.ensures.items) (let counted = c.len.ensures in omega (arith, counted))).1
    ∙ ap (λ ps. ps ++ c.args.string.now ∷ []) c.self.view_is
