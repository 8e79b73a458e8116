use Rattle.std.proofs.Common.{take, ap, ◌∙◌, arith}
use Rattle.bm_hash.specs.Pieces.{start_at}
use Rattle.bm_hash.proofs.Piecing.{as_many, cut}
use Rattle.bm_hash.proofs.pieces.Pieces.truncate.Goals as goal

pub start_of-end-requires : goal.start_of-end-requires
start_of-end-requires c =
    let many = as_many c.self.inside.bytes.items c.self.inside.ends.items c.args.self.now c.self.view_is in
    let most = c.requires in
    rw c.deref.ensures.value (omega (arith, many, most))

pub invariant_of-self : goal.invariant_of-self
invariant_of-self c =
    (cut c.self.inside.bytes.items c.self.inside.ends.items _ _ c.args.count c.start_of-end.result c.self.invariant
    (c.start_of-end.ensures ∙ ap (λ l. start_at 0 l c.args.count) c.deref.ensures.value) c.truncate.ensures.items c.truncate-2.ensures.items).0

pub returns : goal.returns
returns c =
    (cut c.self.inside.bytes.items c.self.inside.ends.items _ _ c.args.count c.start_of-end.result c.self.invariant
    (c.start_of-end.ensures ∙ ap (λ l. start_at 0 l c.args.count) c.deref.ensures.value) c.truncate.ensures.items c.truncate-2.ensures.items).1
    ∙ ap (take c.args.count) c.self.view_is
