use Rattle.std.proofs.Common.{◌∙◌, sym, ap, arith}
use Rattle.bm_io.specs.Files.{with_file}
use Rattle.bm_io.proofs.FileLemmas.{set-with_file}
use Rattle.bm_io.proofs.mem_files.put_file.Goals as goal

pub returns-then-eq-clause-ok : goal.returns-then-eq-clause-ok
returns-then-eq-clause-ok c =
    set-with_file _ _ _ _ _ _ _ (omega (arith, c.loop-place-test.true)) c.index_mut.ensures.value c.index.ensures c.as_slice.ensures
    (sym c.eq.ensures ∙ c.if-eq.true)
    ∙ c.loop-place.invariant.joined
    ∙ ap (with_file _ _) c.loop-place.invariant.same
