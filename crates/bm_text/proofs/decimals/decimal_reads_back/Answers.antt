use Rattle.std.proofs.Common.{arith}
use Rattle.bm_text.proofs.DecimalLemmas.{read_decimal-decimal}
use Rattle.bm_text.proofs.decimals.decimal_reads_back.Goals as goal

pub returns : goal.returns
returns c = read_decimal-decimal c.args.number (omega (arith, c.ranges.number.fits))
