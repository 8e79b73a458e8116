use Rattle.std.proofs.Common.{◌++◌, ap, ◌∙◌, arith}
use Rattle.hex.specs.Hex.{IsBytes}
use Rattle.bm_text.proofs.HexadecimalLemmas.{encode_lower-hex_text}
use Rattle.bm_text.proofs.hexadecimal.put_hex.Goals as goal

pub returns-clause-ok : goal.returns-clause-ok
returns-clause-ok c =
    let small : IsBytes c.args.bytes.now = λ i. let f = c.type_inv.bytes i in omega arith in
    c.in_ok-extend_from_slice.ensures.items ∙ ap (λ t. c.args.out.now.items ++ t)
    (c.as_bytes.ensures.value ∙ c.in_ok-text.ensures ∙ encode_lower-hex_text c.args.bytes.now small)
