-- What stands in the log after reads that are made one after another.
use Rattle.std.proofs.Common.{◌≡◌, ℕ, suc, ◌+◌, ◌<◌, ◌≤◌, List, [], ◌∷◌, ◌++◌, length, take, get_or, map, Option, Some}
use Rattle.std.proofs.Common.{None}
use Rattle.std.proofs.Common.{Err, refl, sym, ap, subst, ◌∙◌, arith, append_assoc, append-nil, length-append, add-one}
use Rattle.std.proofs.Math.Seq.{take-suc}
use Rattle.std.proofs.lemmas.List.{map-append, length-map}
use Rattle.std.specs.Borrow.{Bor}
use Rattle.bm_io.specs.Counts.{RoseBy}
use Rattle.bm_io.specs.Logs.{Reply, reply_of}
use Rattle.bm_io.specs.declared.files.ReadError.TheVariants.{Memory}
use Rattle.spec_tool.specs.Reads.{Asked, Read, Text, failed}
use Rattle.tool_shell.specs.Files.{read_of, taken}
use Rattle.tool_shell.specs.Asked.{asked}
use Rattle.tool_shell.specs.Logs.{entry, entries, asked_in, beyond, all_beyond, Logs, LogsOne, LogsShortage, LogsPrefix}
use Rattle.tool_shell.proofs.Told.{asked_is, before_end}

-- ---- counts

-- what rose twice rose by the sum
rose_twice : (a b x y z : ℕ) → RoseBy a x y → RoseBy b y z → RoseBy (a + b) x z
rose_twice a b x y z one two = omega (arith, one, two)

rose_same : (x : ℕ) → RoseBy 0 x x
rose_same x = omega arith

-- ---- one read after others

entries_next : (files : List Asked) (reads : List Read) (file : Asked) (read : Read) → length reads < length files
    → entries files (reads ++ read ∷ []) ≡ entries files reads ++ entry (get_or files (length reads) file) read ∷ []
entries_next [] reads file read less = absurd (omega (arith, less))
entries_next (f ∷ []) [] file read less = refl
entries_next (f ∷ g ∷ files) [] file read less = refl
entries_next (f ∷ files) (r ∷ reads) file read less =
    ap (λ (es : List Reply). entry f r ∷ es) (entries_next files reads file read (omega (arith, less)))

beyond_next : (files : List Asked) (reads : List Read) (file : Asked) (read : Read) → length reads < length files
    → all_beyond files (reads ++ read ∷ []) ≡ all_beyond files reads + beyond (get_or files (length reads) file) read
beyond_next [] reads file read less = absurd (omega (arith, less))
beyond_next (f ∷ []) [] file read less = omega arith
beyond_next (f ∷ g ∷ files) [] file read less = omega arith
beyond_next (f ∷ files) (r ∷ reads) file read less =
    let later = beyond_next files reads file read (omega (arith, less)) in omega (arith, later)

-- the next file was read
logs_next : (before mid now : List Reply) (x y z : ℕ) (files : List Asked) (reads : List Read) (file : Asked) (read : Read)
    → length reads < length files → Logs before mid x y files reads → LogsOne mid now y z (get_or files (length reads) file) read
    → Logs before now x z files (reads ++ read ∷ [])
logs_next before mid now x y z files reads file read less h one = record {
  logged =
      one.logged ∙ ap (λ (log : List Reply). log ++ entry (get_or files (length reads) file) read ∷ []) h.logged
      ∙ append_assoc before (entries files reads) (entry (get_or files (length reads) file) read ∷ [])
      ∙ ap (λ (es : List Reply). before ++ es) (sym (entries_next files reads file read less));
  counted =
      subst (λ (n : ℕ). RoseBy n x z) (sym (beyond_next files reads file read less))
      (rose_twice (all_beyond files reads) (beyond (get_or files (length reads) file) read) x y z h.counted one.counted);
}

-- ---- out of memory

asked_entries : (files : List Asked) (reads : List Read) → length reads ≤ length files
    → map asked_in (entries files reads) ≡ take (length reads) files
asked_entries [] [] le = refl
asked_entries [] (r ∷ reads) le = absurd (omega (arith, le))
asked_entries (f ∷ files) [] le = refl
asked_entries (f ∷ files) (r ∷ reads) le = ap (λ (fs : List Asked). f ∷ fs) (asked_entries files reads (omega (arith, le)))

length_entries : (files : List Asked) (reads : List Read) → length reads ≤ length files → length (entries files reads) ≡ length reads
length_entries [] [] le = refl
length_entries [] (r ∷ reads) le = absurd (omega (arith, le))
length_entries (f ∷ files) [] le = refl
length_entries (f ∷ files) (r ∷ reads) le = let later = length_entries files reads (omega (arith, le)) in omega (arith, later)

-- after some reads
prefixes_after : (before now : List Reply) (x y : ℕ) (files : List Asked) (reads : List Read) → length reads ≤ length files
    → Logs before now x y files reads → LogsPrefix before now files
prefixes_after before now x y files reads le h =
    (entries files reads, (h.logged, asked_entries files reads le ∙ ap (λ (n : ℕ). take n files) (sym (length_entries files reads le))))

-- in a read after some
prefixes_in : (before mid now : List Reply) (x y : ℕ) (files : List Asked) (reads : List Read) (file : Asked) → length reads < length files
    → Logs before mid x y files reads → LogsShortage mid now (get_or files (length reads) file) → LogsPrefix before now files
prefixes_in before mid now x y files reads file less h shortage =
    let last = get_or files (length reads) file in
    let es = entries files reads in
    let one = reply_of (last.0) (last.1) (Err Memory) in
    let counted : length (es ++ one ∷ []) ≡ suc (length reads) =
    length-append es (one ∷ []) ∙ ap (λ (n : ℕ). n + 1) (length_entries files reads (omega (arith, less))) ∙ add-one (length reads) in (
      es ++ one ∷ [],
      (
        shortage ∙ ap (λ (log : List Reply). log ++ one ∷ []) h.logged ∙ append_assoc before es (one ∷ []),
        map-append asked_in es (one ∷ [])
            ∙ ap (λ (fs : List Asked). fs ++ last ∷ []) (asked_entries files reads (omega (arith, less)))
            ∙ sym (take-suc files (length reads) file less)
            ∙ ap (λ (n : ℕ). take n files) (sym counted),
      ),
    )

-- ---- files as the code names them

module _ (before mid now : List Reply) (x y z : ℕ) (list : List (Bor (List ℕ) × ℕ)) (d : Bor (List ℕ) × ℕ) (i : ℕ) (texts : List Text)
    (e : length texts ≡ i) (less : i < length list) (h : Logs before mid x y (map asked list) (taken texts)) where
  counted : length (taken texts) ≡ i
  counted = length-map texts (λ (text : Text). read_of (Some text)) ∙ e

  inside : length (taken texts) < length (map asked list)
  inside = before_end list i (length (taken texts)) counted less

  file_is : asked (get_or list i d) ≡ get_or (map asked list) (length (taken texts)) (asked d)
  file_is = asked_is list d i (length (taken texts)) counted less

  more : (read : Read) → LogsOne mid now y z (asked (get_or list i d)) read
      → Logs before now x z (map asked list) (taken texts ++ read ∷ [])
  more read one =
      logs_next before mid now x y z (map asked list) (taken texts) (asked d) read inside h
      (subst (λ (file : Asked). LogsOne mid now y z file read) file_is one)

  pub log_goes_on : (o : Option Text) (t : Text) → o ≡ Some t → LogsOne mid now y z (asked (get_or list i d)) (read_of o)
      → Logs before now x z (map asked list) (taken (texts ++ t ∷ []))
  log_goes_on o t is one =
      subst (λ (reads : List Read). Logs before now x z (map asked list) reads)
      (sym (map-append (λ (text : Text). read_of (Some text)) texts (t ∷ [])))
      (more (read_of (Some t)) (subst (λ (p : Option Text). LogsOne mid now y z (asked (get_or list i d)) (read_of p)) is one))

  pub log_fails : (o : Option Text) → o ≡ None → LogsOne mid now y z (asked (get_or list i d)) (read_of o)
      → Logs before now x z (map asked list) (taken texts ++ failed ∷ [])
  log_fails o is one = more failed (subst (λ (p : Option Text). LogsOne mid now y z (asked (get_or list i d)) (read_of p)) is one)

  pub log_shortages : LogsShortage mid now (asked (get_or list i d)) → LogsPrefix before now (map asked list)
  log_shortages shortage =
      prefixes_in before mid now x y (map asked list) (taken texts) (asked d) inside h
      (subst (λ (file : Asked). LogsShortage mid now file) file_is shortage)

-- where memory ran out after these texts
pub log_prefix : (before now : List Reply) (x y : ℕ) (list : List (Bor (List ℕ) × ℕ)) (texts : List Text) → length texts ≤ length list
    → Logs before now x y (map asked list) (taken texts) → LogsPrefix before now (map asked list)
log_prefix before now x y list texts le h =
    let one : length (taken texts) ≡ length texts = length-map texts (λ (text : Text). read_of (Some text)) in
    let all : length (map asked list) ≡ length list = length-map list asked in
    prefixes_after before now x y (map asked list) (taken texts) (omega (arith, le, one, all)) h

-- all were read
pub log_ends : (before now : List Reply) (x y : ℕ) (files : List Asked) (texts : List Text) → Logs before now x y files (taken texts)
    → Logs before now x y files (taken texts ++ [])
log_ends before now x y files texts h = subst (λ (reads : List Read). Logs before now x y files reads) (sym (append-nil (taken texts))) h

-- before any read
pub log_begins : (log : List Reply) (x : ℕ) (files : List Asked) → Logs log log x x files []
log_begins log x [] = record { logged = sym (append-nil log); counted = rose_same x }
log_begins log x (file ∷ files) = record { logged = sym (append-nil log); counted = rose_same x }

-- the same, of texts of which there is none
pub log_starts : (log : List Reply) (x : ℕ) (files : List Asked) (texts : List Text) → texts ≡ [] → Logs log log x x files (taken texts)
log_starts log x files texts e =
    subst (λ (ts : List Text). Logs log log x x files (taken ts)) (sym e) (log_begins log x files)
