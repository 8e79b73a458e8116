-- Files that tell of themselves fix the reads, and so the answer; and so do the new entries of the log.
use Rattle.std.proofs.Common.{◌≡◌, ℕ, Bool, true, false, List, [], ◌∷◌, ◌++◌, length, Option, Some, None, Result, Ok, Err, refl, sym, ap}
use Rattle.std.proofs.Common.{subst, ◌∙◌, arith, cond, ◌==◌}
use Rattle.std.proofs.lemmas.Bool.{and_parts, false≢true}
use Rattle.std.proofs.lemmas.List.{append_cancel_left}
use Rattle.spec_tool.specs.Reads.{Asked, Read, got, too_long, failed, fits, are_made}
use Rattle.spec_tool.specs.Commands.{Printed}
use Rattle.spec_tool.specs.Answers.{ended}
use Rattle.bm_io.specs.Files.{Told}
use Rattle.bm_io.specs.Logs.{Reply}
use Rattle.bm_io.specs.declared.files.ReadError.{ReadError}
use Rattle.bm_io.specs.declared.files.ReadError.TheVariants.{Failed, TooLong, Memory}
use Rattle.tool_shell.specs.Answered.{AnswersBy}
use Rattle.tool_shell.specs.Around.{Around, with_text, IsWritten, Ends}
use Rattle.tool_shell.specs.Asked.{all_asked, are_reads}
use Rattle.tool_shell.specs.Determined.{AnswersAlike, FilesDetermineAnswers, LogsDetermineAnswers}
use Rattle.tool_shell.specs.Files.{Tells}
use Rattle.tool_shell.specs.Logs.{answered, entries}

-- the reads of files that tell the same
same_reads : (told : Told) (one other one_now other_now : Option Told) (files : List Asked) (reads more : List Read) → one ≡ Some told
    → other ≡ Some told → Tells one one_now files reads → Tells other other_now files more → reads ≡ more
same_reads told one other one_now other_now files reads more e f a b =
    let first = subst (λ (t : Option Told). Tells t one_now files reads) e a in
    let second = subst (λ (t : Option Told). Tells t other_now files more) f b in
    first.0 ∙ sym second.0

-- an answer that was written whole: its status, and what was written
record Whole (printed : Printed) (before now : List (List ℕ)) (status : ℕ) : Type 0 where
  status_is : status ≡ printed.status
  written : now ≡ with_text printed.text before

not_empty : (byte : ℕ) (bytes : List ℕ) → (length (byte ∷ bytes) == 0) ≡ false
not_empty byte bytes = grind arith

-- a call that ends with another status than 4 wrote all of its text
is_whole : (printed : Printed) (before now : List (List ℕ)) (faults faults_now status : ℕ) → (status ≡ 4 → ⊥)
    → Ends printed before now faults faults_now status → Whole printed before now status
is_whole printed before now faults faults_now status other ends = by_went printed.text refl ends.went ends.written ends.status_is
  where
    by_went : (text : List ℕ) → printed.text ≡ text → (went : Bool) → IsWritten printed.text went before now → status ≡ ended printed went
        → Whole printed before now status
    by_went text e true written is = record { status_is = is; written = written }
    by_went [] e false written is = record {
      status_is = is ∙ ap (λ (t : List ℕ). cond (length t == 0) printed.status 4) e;
      written =
          subst (λ (t : List ℕ). IsWritten t false before now) e written ∙ ap (λ (t : List ℕ). with_text t before) (sym e);
    }
    by_went (b ∷ bs) e false written is =
        absurd (other (is ∙ ap (λ (t : List ℕ). cond (length t == 0) printed.status 4) e
        ∙ ap (λ (empty : Bool). cond empty printed.status 4) (not_empty b bs)))

-- two calls with the same reads
alike : (answers : List Read → Printed) (files : Option (List Asked)) (first first_now second second_now : Around) (status other : ℕ)
    (a : AnswersBy answers files first first_now status) (b : AnswersBy answers files second second_now other) → a.reads ≡ b.reads
    → (status ≡ 4 → ⊥) → (other ≡ 4 → ⊥) → AnswersAlike first first_now second second_now status other
alike answers files first first_now second second_now status other a b same unfailed other_unfailed =
    let one = is_whole (answers a.reads) first.written first_now.written first.write_faults first_now.write_faults status unfailed a.ends in
    let two = is_whole (answers b.reads) second.written second_now.written second.write_faults second_now.write_faults other
    other_unfailed b.ends in
    let equal = ap answers same in
    record {
      text = (answers a.reads).text;
      first_text = one.written;
      second_text = two.written ∙ ap (λ (p : Printed). with_text p.text second.written) (sym equal);
      status_is = one.status_is ∙ ap (λ (p : Printed). p.status) equal ∙ sym two.status_is;
    }

pub determined : FilesDetermineAnswers
determined answers files told first first_now second second_now status other e f a b unfailed other_unfailed =
    alike answers files first first_now second second_now status other a b
    (same_reads told first.told second.told first_now.told second_now.told (all_asked files) a.reads b.reads e f a.told b.told)
    unfailed other_unfailed

-- ---- by the log

-- what a read answered tells the read
abbrev read_in : Result (List ℕ) ReadError → Read
read_in (Ok bytes) = got bytes
read_in (Err Failed) = failed
read_in (Err TooLong) = too_long
read_in (Err Memory) = failed

read_back : (read : Read) → read_in (answered read) ≡ read
read_back (got bytes) = refl
read_back too_long = refl
read_back failed = refl

-- the reads of a log
abbrev reads_in_log : List Reply → List Read
reads_in_log [] = []
reads_in_log (reply ∷ log) = read_in reply.answer ∷ reads_in_log log

none_more : (reads : List Read) → (length reads == 0) ≡ true → reads ≡ []
none_more [] e = refl
none_more (read ∷ reads) e = absurd (grind (arith, e))

logged_reads : (files : List Asked) (reads : List Read) → are_made files reads ≡ true → reads_in_log (entries files reads) ≡ reads
logged_reads [] [] made = refl
logged_reads [] (read ∷ reads) made = absurd (false≢true made)
logged_reads (file ∷ files) [] made = refl
logged_reads (file ∷ files) (got bytes ∷ reads) made =
    ap (λ (rs : List Read). got bytes ∷ rs) (logged_reads files reads (and_parts (fits file (Some bytes)) (are_made files reads) made).1)
logged_reads (file ∷ files) (too_long ∷ reads) made = ap (λ (rs : List Read). too_long ∷ rs) (logged_reads files reads made)
logged_reads (file ∷ files) (failed ∷ reads) made =
    subst (λ (rs : List Read). reads_in_log (entries (file ∷ files) (failed ∷ rs)) ≡ failed ∷ rs) (sym (none_more reads made))
    (ap (λ (rs : List Read). failed ∷ rs) (no_entries files))
  where
    no_entries : (files : List Asked) → reads_in_log (entries files []) ≡ []
    no_entries [] = refl
    no_entries (file ∷ files) = refl

all_logged : (files : Option (List Asked)) (reads : List Read) → are_reads files reads ≡ true
    → reads_in_log (entries (all_asked files) reads) ≡ reads
all_logged None reads made = sym (none_more reads made)
all_logged (Some files) reads made = logged_reads files reads made

-- the reads of a call, by the new entries of the log
new_reads : (answers : List Read → Printed) (files : Option (List Asked)) (before now : Around) (status : ℕ) (new : List Reply)
    (a : AnswersBy answers files before now status) → now.log ≡ before.log ++ new → reads_in_log new ≡ a.reads
new_reads answers files before now status new a e =
    ap reads_in_log (append_cancel_left before.log new (entries (all_asked files) a.reads) (sym e ∙ a.logged.logged))
    ∙ all_logged files a.reads a.made

pub determined_by_logs : LogsDetermineAnswers
determined_by_logs answers files new first first_now second second_now status other e f a b unfailed other_unfailed =
    alike answers files first first_now second second_now status other a b
    (sym (new_reads answers files first first_now status new a e) ∙ new_reads answers files second second_now other new b f)
    unfailed other_unfailed
