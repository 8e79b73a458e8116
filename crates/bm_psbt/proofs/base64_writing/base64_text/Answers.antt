use Rattle.std.proofs.Common.{arith}
use Rattle.bm_psbt.proofs.StandardBase64.{text_of_standard}
use Rattle.bm_psbt.proofs.base64_writing.base64_text.Goals as goal

pub returns : goal.returns
returns c =
    let e = c.into_bytes.ensures.value in
    grind (arith, e, c.in_ok-text.ensures, text_of_standard c.args.bytes.now)
