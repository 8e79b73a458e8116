use Rattle.std.proofs.Common.{◌∙◌}
use Rattle.std.proofs.lemmas.Result.{err_from_is_err_and}
use Rattle.bm_sighash.proofs.Doubles.{stops_in_two, stops_after_two}
use Rattle.bm_sighash.proofs.list_hashes.hash_lists.Goals as goal

-- the second stopped
pub returns-in_err-sequences-clause-trail : goal.returns-in_err-sequences-clause-trail
returns-in_err-sequences-clause-trail g c =
    let p = err_from_is_err_and c.from_residual-in_err-sequences.result c.from_residual-in_err-sequences.ensures.1 in
    rw (p.1, p.2) (
      c.in_err-sequences.ensures.trail.0
          ∙ c.in_ok-prevouts.ensures.trail.0,
      tt,
      stops_after_two _ _ _ _ _ _ _ _ c.in_ok-prevouts.ensures.trail.1
          (stops_in_two _ _ _ _ _ _ _ (rw c.in_ok-prevouts.ensures.trail.0 at c.in_err-sequences.ensures.trail.2)),
    )

-- the third stopped
pub returns-in_err-outputs-clause-trail : goal.returns-in_err-outputs-clause-trail
returns-in_err-outputs-clause-trail g c =
    let p = err_from_is_err_and c.from_residual-in_err-outputs.result c.from_residual-in_err-outputs.ensures.1 in
    let second = rw c.in_ok-prevouts.ensures.trail.0 at c.in_ok-sequences.ensures.trail.1 in
    let same = c.in_ok-sequences.ensures.trail.0 ∙ c.in_ok-prevouts.ensures.trail.0 in
    rw (p.1, p.2) (
      c.in_err-outputs.ensures.trail.0
          ∙ same,
      tt,
      stops_after_two _ _ _ _ _ _ _ _ c.in_ok-prevouts.ensures.trail.1
          (stops_after_two _ _ _ _ _ _ _ _ second (rw same at c.in_err-outputs.ensures.trail.2)),
    )
