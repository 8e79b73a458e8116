-- What the readers of parts answer, against what reading gives.
use Rattle.std.specs.Prelude.{◌≡◌, Bool, true, false, Result, Ok, Err}
use Rattle.spec_terms.specs.Advert.{Advert}
use Rattle.spec_text.specs.declared.stop.Stop.{Stop}
use Rattle.spec_text.specs.declared.stop.TextFault.{TextFault}
use Rattle.spec_text.specs.declared.stop.TextFault.TheVariants as faults
use Rattle.spec_text.specs.declared.lexeme.Lexeme.{Lexeme}
use Rattle.spec_text.specs.Reading.{Seen}
use Rattle.spec_text.specs.ReadContract.{ends_put, ends_reveal}
use Rattle.bm_reader.specs.declared.error.ReadError.{ReadError}
use Rattle.bm_reader.specs.declared.error.ReadError.TheVariants as reads
use Rattle.bm_reader.specs.declared.error.ReaderError.{ReaderError}
use Rattle.bm_reader.specs.declared.error.ReaderError.TheVariants as readers

-- reading stops where the code says, unless memory ran out
abbrev pub Fails : {Y : Type 0} → ReadError → Result Y Stop → Type 0
Fails reads.Memory read = Unit {0}
Fails (reads.Stop stop) read = read ≡ Err stop

-- what a function returned, seen by view, is what reading gives, unless memory ran out
abbrev pub Gives : {X Y : Type 0} → (X → Y) → Result X ReadError → Result Y Stop → Type 0
Gives view (Ok x) read = read ≡ Ok (view x)
Gives view (Err e) read = Fails e read

-- the refusal of a text is the fault
abbrev pub Refuses : ReaderError → Result Advert TextFault → Type 0
Refuses (readers.BadByte place) answer = answer ≡ Err (faults.BadByte place)
Refuses (readers.Syntax place) answer = answer ≡ Err (faults.Syntax place)
Refuses (readers.Limit w place) answer = answer ≡ Err (faults.Limit w place)
Refuses readers.Memory answer = Unit {0}

-- what the reader answers is the answer to the text, unless memory ran out
abbrev pub Answers : Result Advert ReaderError → Result Advert TextFault → Type 0
Answers (Ok advert) answer = answer ≡ Ok advert
Answers (Err e) answer = Refuses e answer

-- what ends the names of a put, which is true, or of a reveal
abbrev pub ends_of : Bool → Lexeme → Seen Bool
ends_of true t = ends_put t
ends_of false t = ends_reveal t
