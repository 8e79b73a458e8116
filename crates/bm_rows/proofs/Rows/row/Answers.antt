use Rattle.std.proofs.Common.{ap, ◌∙◌, arith}
use Rattle.std.specs.Prelude.{slice_range, slice_index_or}
use Rattle.bm_rows.specs.Laid.{start_at}
use Rattle.bm_rows.proofs.Laying.{fewer, row_between}
use Rattle.bm_rows.proofs.Rows.row.Goals as goal

pub start_of-start-requires : goal.start_of-start-requires
start_of-start-requires g c =
    let lt = fewer c.self.inside.cells.items c.self.inside.ends.items c.args.self.now c.args.number c.self.view_is c.requires in
    rw c.deref.ensures.value (omega (arith, lt))

pub index-requires : goal.index-requires
index-requires g c =
    let lt = fewer c.self.inside.cells.items c.self.inside.ends.items c.args.self.now c.args.number c.self.view_is c.requires in
    omega (arith, lt)

pub part_of-requires-clause-low : goal.part_of-requires-clause-low
part_of-requires-clause-low g c =
    let lt = fewer c.self.inside.cells.items c.self.inside.ends.items c.args.self.now c.args.number c.self.view_is c.requires in
    (row_between c.self.inside.cells.items c.self.inside.ends.items c.args.number c.start_of-start.result c.index.result.now c.self.invariant lt
    (c.start_of-start.ensures ∙ ap (λ l. start_at 0 l c.args.number) c.deref.ensures.value) c.index.ensures).0

pub part_of-requires-clause-high : goal.part_of-requires-clause-high
part_of-requires-clause-high g c =
    let lt = fewer c.self.inside.cells.items c.self.inside.ends.items c.args.self.now c.args.number c.self.view_is c.requires in
    rw c.deref-2.ensures.value (row_between c.self.inside.cells.items c.self.inside.ends.items c.args.number c.start_of-start.result
    c.index.result.now c.self.invariant lt
    (c.start_of-start.ensures ∙ ap (λ l. start_at 0 l c.args.number) c.deref.ensures.value) c.index.ensures).1

pub returns : goal.returns
returns g c =
    let lt = fewer c.self.inside.cells.items c.self.inside.ends.items c.args.self.now c.args.number c.self.view_is c.requires in
    c.part_of.ensures
    ∙ ap (λ l. slice_range l c.start_of-start.result c.index.result.now) c.deref-2.ensures.value
    ∙ (row_between c.self.inside.cells.items c.self.inside.ends.items c.args.number c.start_of-start.result c.index.result.now c.self.invariant lt
    (c.start_of-start.ensures ∙ ap (λ l. start_at 0 l c.args.number) c.deref.ensures.value) c.index.ensures).2 c.part_of.result.now
    ∙ ap (λ rows. slice_index_or rows c.args.number c.part_of.result.now) c.self.view_is
