use Rattle.std.proofs.Common.{Some, None, Err, ap, ◌∙◌, arith}
use Rattle.std.proofs.lemmas.Result.{err_from_is_err_and}
use Rattle.bm_psbt.specs.declared.fault.PsbtError.{PsbtError}
use Rattle.bm_psbt.proofs.Decoding.{no_magic, of_parts, is_bad, decoded_is_psbt}
use Rattle.bm_psbt.proofs.reading.decode.Goals as goal

pub returns-in_default-clause-bad : goal.returns-in_default-clause-bad
returns-in_default-clause-bad c = λ h. no_magic c.args.bytes.now c.in_default.ensures

pub returns-in_err-tx-clause-bad : goal.returns-in_err-tx-clause-bad
returns-in_err-tx-clause-bad c = λ h.
    let p = err_from_is_err_and c.from_residual.result c.from_residual.ensures.1 in
    of_parts c.args.bytes.now c.in-Some.maps.now None c.in-Some.ensures
    (is_bad c.in_err-tx.field-0.0 c.from_residual.result _ (p.1 ∙ ap (λ (e : PsbtError). Err e) p.2) h c.in_err-tx.ensures)

pub made-requires : goal.made-requires
made-requires c = decoded_is_psbt c.args.bytes.now c.in-Some.maps.now _ (λ i. omega (arith, c.type_inv.bytes i)) c.in-Some.ensures c.in_ok-tx.ensures

pub returns-clause-ok : goal.returns-clause-ok
returns-clause-ok c = rw c.made.ensures (of_parts c.args.bytes.now c.in-Some.maps.now _ c.in-Some.ensures c.in_ok-tx.ensures)
