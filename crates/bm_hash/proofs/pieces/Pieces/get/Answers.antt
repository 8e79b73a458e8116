use Rattle.std.proofs.Common.{[], ap, ◌∙◌, arith}
use Rattle.std.specs.Prelude.{slice_range, slice_index_or}
use Rattle.bm_hash.specs.Pieces.{start_at}
use Rattle.bm_hash.proofs.Piecing.{fewer, piece_between}
use Rattle.bm_hash.proofs.pieces.Pieces.get.Goals as goal

pub start_of-start-requires : goal.start_of-start-requires
start_of-start-requires c =
    let lt = fewer c.self.inside.bytes.items c.self.inside.ends.items c.args.self.now c.args.number c.self.view_is c.requires in
    rw c.deref.ensures.value (omega (arith, lt))

pub index-requires : goal.index-requires
index-requires c =
    let lt = fewer c.self.inside.bytes.items c.self.inside.ends.items c.args.self.now c.args.number c.self.view_is c.requires in
    omega (arith, lt)

pub part_of-requires-clause-low : goal.part_of-requires-clause-low
part_of-requires-clause-low c =
    let lt = fewer c.self.inside.bytes.items c.self.inside.ends.items c.args.self.now c.args.number c.self.view_is c.requires in
    (piece_between c.self.inside.bytes.items c.self.inside.ends.items c.args.number c.start_of-start.result c.index.result.now c.self.invariant lt
    (c.start_of-start.ensures ∙ ap (λ l. start_at 0 l c.args.number) c.deref.ensures.value) c.index.ensures).0

pub part_of-requires-clause-high : goal.part_of-requires-clause-high
part_of-requires-clause-high c =
    let lt = fewer c.self.inside.bytes.items c.self.inside.ends.items c.args.self.now c.args.number c.self.view_is c.requires in
    rw c.deref-2.ensures.value (piece_between c.self.inside.bytes.items c.self.inside.ends.items c.args.number c.start_of-start.result
    c.index.result.now c.self.invariant lt
    (c.start_of-start.ensures ∙ ap (λ l. start_at 0 l c.args.number) c.deref.ensures.value) c.index.ensures).1

pub returns : goal.returns
returns c =
    let lt = fewer c.self.inside.bytes.items c.self.inside.ends.items c.args.self.now c.args.number c.self.view_is c.requires in
    c.part_of.ensures
    ∙ ap (λ l. slice_range l c.start_of-start.result c.index.result.now) c.deref-2.ensures.value
    ∙ (piece_between c.self.inside.bytes.items c.self.inside.ends.items c.args.number c.start_of-start.result c.index.result.now c.self.invariant lt
    (c.start_of-start.ensures ∙ ap (λ l. start_at 0 l c.args.number) c.deref.ensures.value) c.index.ensures).2
    ∙ ap (λ ps. slice_index_or ps c.args.number []) c.self.view_is
