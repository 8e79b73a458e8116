use Rattle.std.proofs.Common.{arith}
use Rattle.hex.specs.Hex.{IsBytes}
use Rattle.bm_text.proofs.HexadecimalLemmas.{read_hex-hex_text}
use Rattle.bm_text.proofs.hexadecimal.hexadecimal_reads_back.Goals as goal

pub returns : goal.returns
returns c =
    let small : IsBytes c.args.bytes.now = λ i. let f = c.type_inv.bytes i in omega arith in
    read_hex-hex_text c.args.bytes.now small c.requires
