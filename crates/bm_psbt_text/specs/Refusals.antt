-- Why the code refuses a file, as the definitions have it.
use Rattle.std.specs.Prelude.{ℕ, List, Result, Ok, Err, codes}
use Rattle.spec_text.specs.Refusals.{Judged}
use Rattle.spec_tool.specs.Psbt.{Psbt}
use Rattle.bm_psbt_text.specs.declared.files.FileRefusal.{FileRefusal}
use Rattle.bm_psbt_text.specs.declared.files.FileRefusal.TheVariants.{Size, Base64, Form}

-- why a file is refused, in a word
abbrev pub word_of : FileRefusal → List ℕ
word_of Size = codes "size"
word_of Base64 = codes "base64"
word_of Form = codes "form"

abbrev pub judged : Result Psbt FileRefusal → Judged Psbt
judged (Ok p) = Ok p
judged (Err refusal) = Err (word_of refusal)
