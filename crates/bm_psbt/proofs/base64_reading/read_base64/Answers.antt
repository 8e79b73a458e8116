use Rattle.std.proofs.Common.{refl}
use Rattle.bm_psbt.proofs.StandardBase64.{standard_reads, standard_refuses}
use Rattle.bm_psbt.proofs.base64_reading.read_base64.Goals as goal

pub returns-in-Ok-clause-ok : goal.returns-in-Ok-clause-ok
returns-in-Ok-clause-ok c =
    standard_reads c.args.text.now c.in-Ok.bytes.items (c.in-Ok.ensures.exact (refl, refl)) c.in-Ok.ensures.bytes

pub returns-in-Err-DecodeError-clause-bad : goal.returns-in-Err-DecodeError-clause-bad
returns-in-Err-DecodeError-clause-bad c e =
    standard_refuses c.args.text.now c.in-Err-DecodeError.field-0-0
    (c.in-Err-DecodeError.ensures.strict (refl, refl)) (rw c.in-Err-DecodeError.field-0-is at c.in-Err-DecodeError.ensures.err)
