use Rattle.std.proofs.Common.{◌≡◌, subst, arith, IfOk}
use Rattle.std.specs.Prelude.{string_bytes}
use Rattle.hex.specs.Hex.{IsBytes}
use Rattle.bm_text.proofs.HexadecimalLemmas.{encode_lower-hex_text}
use Rattle.bm_plan.proofs.values.hex_string.Goals as goal

pub returns : goal.returns
returns c =
    let small : IsBytes c.args.bytes.now = λ i. let f = c.type_inv.bytes i in omega arith in
    subst (λ text. IfOk c.encode.result (λ t. string_bytes t ≡ text)) (encode_lower-hex_text c.args.bytes.now small) c.encode.ensures
