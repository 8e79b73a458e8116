-- What a line is, in code, as the definitions have it.
use Rattle.spec_tool.specs.Audit.{Given, empty, not_hex, bad, read}
use Rattle.bm_audit.specs.declared.lines.Line.{Line}
use Rattle.bm_audit.specs.declared.lines.Line.TheVariants as lines

abbrev pub given_of : Line → Given
given_of lines.Empty = empty
given_of lines.NotHex = not_hex
given_of (lines.Bad place) = bad place
given_of (lines.Read tx) = read tx
