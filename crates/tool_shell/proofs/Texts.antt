-- What is replied to what the reads of files gave.
use Rattle.std.proofs.Common.{◌≡◌, ℕ, Bool, true, false, List, [], ◌∷◌, ◌++◌, Option, Some, None, Result, Ok, Err, refl, sym, ap, ◌∙◌}
use Rattle.std.specs.Prelude.{IfOk}
use Rattle.spec_data.specs.Digits.{onto}
use Rattle.spec_tool.specs.Reads.{Text, failed, texts_read}
use Rattle.spec_tool.specs.Commands.{Printed, prints}
use Rattle.spec_tool.specs.Replies.{printed}
use Rattle.tool_shell.specs.declared.reading.Reading.{Reading}
use Rattle.spec_tool.specs.declared.reply.Reply.{Reply}
use Rattle.tool_shell.specs.Files.{taken, last_of, reads_of}

-- the texts that were read
all_read : (texts : List Text) → texts_read (taken texts ++ []) ≡ Some texts
all_read [] = refl
all_read (None ∷ texts) = ap (onto (Some None)) (all_read texts)
all_read (Some bytes ∷ texts) = ap (onto (Some (Some bytes))) (all_read texts)

-- none, where the last read failed
none_read : (texts : List Text) → texts_read (taken texts ++ failed ∷ []) ≡ None
none_read [] = refl
none_read (None ∷ texts) = ap (onto (Some None)) (none_read texts)
none_read (Some bytes ∷ texts) = ap (onto (Some (Some bytes))) (none_read texts)

read_none : (b : Bool) (texts : List Text) → b ≡ true → texts_read (taken texts ++ last_of b) ≡ None
read_none true texts e = none_read texts
read_none false texts e = absurd (cc)

read_some : (b : Bool) (texts : List Text) → b ≡ false → texts_read (taken texts ++ last_of b) ≡ Some texts
read_some true texts e = absurd (cc)
read_some false texts e = all_read texts

is_failed : (b : Bool) (texts : List Text) → texts_read (taken texts ++ last_of b) ≡ None → b ≡ true
is_failed true texts e = refl
is_failed false texts e = absurd (let k = all_read texts in cc)

-- nothing was read only where a read failed
pub failed_if : (reading : Reading) → texts_read (reads_of reading) ≡ None → reading.failed ≡ true
failed_if reading e = is_failed reading.failed reading.texts e

module _ (answers : Option (List Text) → Printed) (reading : Reading) where
  -- where a read failed
  pub unread_reply : (text : List ℕ) → answers None ≡ prints 3 [] → reading.failed ≡ true → text ≡ []
      → prints 3 text ≡ answers (texts_read (reads_of reading))
  unread_reply text none e empty = ap (prints 3) empty ∙ sym none ∙ sym (ap answers (read_none reading.failed reading.texts e))

  -- where all were read
  pub read_reply : {E : Type 0} (texts : List Text) (r : Result Reply E) → reading.failed ≡ false → texts ≡ reading.texts
      → IfOk r (λ reply. printed reply ≡ answers (Some texts))
      → IfOk r (λ reply. printed reply ≡ answers (texts_read (reads_of reading)))
  read_reply texts (Ok reply) e same h =
      h ∙ ap (λ (ts : List Text). answers (Some ts)) same ∙ sym (ap answers (read_some reading.failed reading.texts e))
  read_reply texts (Err error) e same h = tt
