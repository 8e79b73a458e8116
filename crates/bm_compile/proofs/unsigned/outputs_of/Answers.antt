use Rattle.bm_compile.proofs.unsigned.outputs_of.Goals as goal

pub returns-in-Split : goal.returns-in-Split
returns-in-Split g c = rw c.in-Split.is (rw c.deref-in-Split.ensures.value at c.part_outputs.ensures)
