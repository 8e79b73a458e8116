-- Why a text is refused.
use Rattle.std.specs.Prelude.{ℕ, List}
use Rattle.spec_text.specs.declared.stop.TextFault.{TextFault}
use Rattle.spec_text.specs.declared.stop.TextFault.TheVariants as faults
use Rattle.spec_text.specs.declared.token.Token.{Token}
use Rattle.spec_text.specs.ReadAdvert.{fault_of}
use Rattle.bm_lex.specs.declared.error.LexError.{LexError}
use Rattle.bm_lex.specs.declared.error.LexError.TheVariants as lexers
use Rattle.bm_reader.specs.declared.error.ReadError.{ReadError}
use Rattle.bm_reader.specs.declared.error.ReadError.TheVariants as reads
use Rattle.bm_reader.specs.declared.error.ReaderError.{ReaderError}
use Rattle.bm_reader.specs.declared.error.ReaderError.TheVariants as readers

-- the fault as the error of the code
abbrev pub refused : TextFault → ReaderError
refused (faults.BadByte place) = readers.BadByte place
refused (faults.Syntax place) = readers.Syntax place
refused (faults.Limit w place) = readers.Limit w place

-- why a text of these tokens is refused, by why reading stopped
abbrev pub refusal : List ℕ → List Token → ReadError → ReaderError
refusal text tokens reads.Memory = readers.Memory
refusal text tokens (reads.Stop stop) = refused (fault_of text tokens stop)

-- why a text that has no tokens is refused
abbrev pub unlexed : LexError → ReaderError
unlexed (lexers.BadByte place) = readers.BadByte place
unlexed lexers.Memory = readers.Memory
