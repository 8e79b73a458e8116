-- What is told of reads that are made one after another.
use Rattle.std.proofs.Common.{◌≡◌, ℕ, zero, suc, ◌+◌, ◌<◌, ◌≤◌, nat_le, cond, Bool, true, false, List, [], ◌∷◌, ◌++◌, length, take, drop, get_or, map, Option, Some, None}
use Rattle.std.proofs.Common.{Result, Ok, Err, refl, sym, ap, subst, ◌∙◌, arith, append_assoc, append-nil, length-append, add-one}
use Rattle.std.proofs.Math.Seq.{drop-cons, take-suc, drop-length}
use Rattle.std.proofs.lemmas.List.{map-append, get_or-map, length-take-le, length-map}
use Rattle.std.specs.Borrow.{Bor}
use Rattle.std.proofs.lemmas.Bool.{and_parts, and_from}
use Rattle.std.specs.Prelude.{OnErr, IfSome}
use Rattle.spec_data.specs.Lists.{look_up}
use Rattle.bm_io.specs.declared.files.ReadError.{ReadError}
use Rattle.bm_io.specs.declared.files.ReadError.TheVariants as errors
use Rattle.bm_io.specs.Files as io
use Rattle.bm_io.specs.Files.{Told}
use Rattle.spec_tool.specs.Reads.{Asked, Read, Text, got, too_long, failed, are_made, fits, all_fit, within, is_to_fail, read_at, reads_in, onto_reads}
use Rattle.tool_shell.specs.Files.{read_of, taken, asked_also, ReadsOne, AsksOne, Tells, ReadsAll, AsksPrefix, Went}
use Rattle.tool_shell.specs.Asked.{asked}

-- ---- one read

-- what a read answers, as the definitions have it
abbrev pub read_for : Result (List ℕ) ReadError → Read
read_for (Ok bytes) = got bytes
read_for (Err errors.TooLong) = too_long
read_for (Err errors.Failed) = failed
read_for (Err errors.Memory) = failed

within_is : (b : Bool) (bytes : List ℕ) → read_for (cond b (Ok bytes) (Err errors.TooLong)) ≡ cond b (got bytes) too_long
within_is true bytes = refl
within_is false bytes = refl

found_is : (limit : ℕ) (found : Option (List ℕ)) → read_for (io.answer_of_file limit found) ≡ within limit found
found_is limit None = refl
found_is limit (Some bytes) = within_is (nat_le (length bytes) limit) bytes

number_is : (failing : Option ℕ) (n : ℕ) → io.is_number failing n ≡ is_to_fail failing n
number_is None n = refl
number_is (Some k) n = refl

answer_is : (b : Bool) (limit : ℕ) (found : Option (List ℕ)) → read_for (cond b (Err errors.Failed) (io.answer_of_file limit found))
    ≡ cond b failed (within limit found)
answer_is true limit found = refl
answer_is false limit found = found_is limit found

-- what files in which a read is to fail answer is what the definitions say of it
pub read_is : (told : Told) (name : List ℕ) (limit : ℕ) → read_for (io.answer_of told name limit)
    ≡ read_at told.files told.failing (length told.asked) (name, limit)
read_is told name limit =
    answer_is (io.is_number told.failing (length told.asked)) limit (look_up name told.files)
    ∙ ap (λ b. cond b failed (within limit (look_up name told.files))) (number_is told.failing (length told.asked))

-- a read that memory wasn't missing for
pub reads_one : (before now : Option Told) (name : List ℕ) (limit : ℕ) (t : Option Text) (r : Result (List ℕ) ReadError)
    → read_of t ≡ read_for r → (r ≡ Err errors.Memory → ⊥) → io.Reads before now name limit r → ReadsOne before now (name, limit) (read_of t)
reads_one None now name limit t r e n h = h
reads_one (Some told) now name limit t (Ok bytes) e n h = (e ∙ ap read_for (h.0) ∙ read_is told name limit, h.1)
reads_one (Some told) now name limit t (Err errors.TooLong) e n h = (e ∙ ap read_for (h.0) ∙ read_is told name limit, h.1)
reads_one (Some told) now name limit t (Err errors.Failed) e n h = (e ∙ ap read_for (h.0) ∙ read_is told name limit, h.1)
reads_one (Some told) now name limit t (Err errors.Memory) e n h = absurd (n refl)

-- one that it was
pub asks_one : (before now : Option Told) (name : List ℕ) (limit : ℕ) → io.Reads before now name limit (Err errors.Memory) → AsksOne before now name
asks_one None now name limit h = h
asks_one (Some told) now name limit h = (0, h.1 ∙ ap (λ names. Some (record told { asked = names })) (sym (append-nil told.asked)))

-- ---- one read after others

abbrev names_of : List Asked → List (List ℕ)
names_of files = map (λ file. file.0) files

onto_taken : (t : Text) (later : List Read) → onto_reads (read_of (Some t)) later ≡ read_of (Some t) ∷ later
onto_taken None later = refl
onto_taken (Some bytes) later = refl

-- where the read of this number is told in words of the files behind it
next_reads : (there : List (List ℕ × List ℕ)) (failing : Option ℕ) (k n : ℕ) (files : List Asked) (file : Asked) → n < length files
    → reads_in there failing (k + n) (drop n files)
    ≡ onto_reads (read_at there failing (k + n) (get_or files n file)) (reads_in there failing (k + n + 1) (drop (suc n) files))
next_reads there failing k n files file less = ap (reads_in there failing (k + n)) (drop-cons files n file less)

asked_next : (told : Told) (files : List Asked) (n : ℕ) (file : Asked) → n < length files
    → asked_also (asked_also told (take n (names_of files))) ((get_or files n file).0 ∷ []) ≡ asked_also told (take (suc n) (names_of files))
asked_next told files n file less =
    ap (λ names. record told { asked = names })
    (append_assoc told.asked (take n (names_of files)) ((get_or files n file).0 ∷ [])
    ∙ ap (λ names. told.asked ++ names)
    (ap (λ name. take n (names_of files) ++ name ∷ []) (sym (get_or-map (λ (f : Asked). f.0) files n file (file.0) less))
    ∙ sym (take-suc (names_of files) n (file.0) (let e : length (names_of files) ≡ length files = length-map files (λ (f : Asked). f.0) in omega (arith, e)))))

length_asked : (told : Told) (files : List Asked) (n : ℕ) → n ≤ length files → length (told.asked ++ take n (names_of files)) ≡ length told.asked + n
length_asked told files n le =
    length-append told.asked (take n (names_of files))
    ∙ ap (λ k. length told.asked + k) (length-take-le n (names_of files) (let e : length (names_of files) ≡ length files = length-map files (λ (f : Asked). f.0) in omega (arith, e)))

-- the next file was read
pub went_on : (before mid now : Option Told) (files : List Asked) (texts : List Text) (file : Asked) (t : Text) → length texts < length files
    → Went before mid files texts → ReadsOne mid now (get_or files (length texts) file) (read_of (Some t)) → Went before now files (texts ++ t ∷ [])
went_on None mid now files texts file t less h r = subst (λ m. ReadsOne m now (get_or files (length texts) file) (read_of (Some t))) h r
went_on (Some told) mid now files texts file t less h r =
    let one = subst (λ m. ReadsOne m now (get_or files (length texts) file) (read_of (Some t))) (h.1) r in
    let n = length texts in
    let k = length told.asked in
    let later = reads_in told.files told.failing (k + n + 1) (drop (suc n) files) in
    let same : read_of (Some t) ≡ read_at told.files told.failing (k + n) (get_or files n file) =
    one.0 ∙ ap (λ m. read_at told.files told.failing m (get_or files n file)) (length_asked told files n (omega arith)) in
    let counted : length (texts ++ t ∷ []) ≡ suc n = length-append texts (t ∷ []) ∙ add-one n in
    let number : k + suc n ≡ k + n + 1 = omega arith in (
      ap (λ m. taken (texts ++ t ∷ []) ++ reads_in told.files told.failing (k + m) (drop m files)) counted
          ∙ ap (λ m. taken (texts ++ t ∷ []) ++ reads_in told.files told.failing m (drop (suc n) files)) number
          ∙ ap (λ rs. rs ++ later) (map-append (λ (x : Text). read_of (Some x)) texts (t ∷ []))
          ∙ append_assoc (taken texts) (read_of (Some t) ∷ []) later
          ∙ ap (λ rs. taken texts ++ rs) (sym (onto_taken t later) ∙ ap (λ read. onto_reads read later) same
          ∙ sym (next_reads told.files told.failing k n files file less))
          ∙ h.0,
      one.1 ∙ ap Some (asked_next told files n file less ∙ ap (λ m. asked_also told (take m (names_of files))) (sym counted)),
    )

-- the next file's read failed
pub went_no_further : (before mid now : Option Told) (files : List Asked) (texts : List Text) (file : Asked) → length texts < length files
    → Went before mid files texts → ReadsOne mid now (get_or files (length texts) file) failed → Tells before now files (taken texts ++ failed ∷ [])
went_no_further None mid now files texts file less h r = subst (λ m. ReadsOne m now (get_or files (length texts) file) failed) h r
went_no_further (Some told) mid now files texts file less h r =
    let one = subst (λ m. ReadsOne m now (get_or files (length texts) file) failed) (h.1) r in
    let n = length texts in
    let k = length told.asked in
    let later = reads_in told.files told.failing (k + n + 1) (drop (suc n) files) in
    let same : failed ≡ read_at told.files told.failing (k + n) (get_or files n file) =
    one.0 ∙ ap (λ m. read_at told.files told.failing m (get_or files n file)) (length_asked told files n (omega arith)) in
    let counted : length (taken texts ++ failed ∷ []) ≡ suc n =
    length-append (taken texts) (failed ∷ []) ∙ ap (λ m. m + 1) (length-map texts (λ (x : Text). read_of (Some x))) ∙ add-one n in (
      ap (λ rs. taken texts ++ rs) (ap (λ read. onto_reads read later) same ∙ sym (next_reads told.files told.failing k n files file less)) ∙ h.0,
      one.1 ∙ ap Some (asked_next told files n file less ∙ ap (λ m. asked_also told (take m (names_of files))) (sym counted)),
    )

-- all files were read
pub went_through : (before now : Option Told) (files : List Asked) (texts : List Text) → length texts ≡ length files
    → Went before now files texts → Tells before now files (taken texts ++ [])
went_through None now files texts e h = h
went_through (Some told) now files texts e h =
    let k = length told.asked in
    let rest : reads_in told.files told.failing (k + length texts) (drop (length texts) files) ≡ [] =
    ap (reads_in told.files told.failing (k + length texts)) (ap (λ m. drop m files) e ∙ drop-length files) in
    let counted : length (taken texts ++ []) ≡ length texts = ap length (append-nil (taken texts)) ∙ length-map texts (λ (x : Text). read_of (Some x)) in (
      ap (λ rs. taken texts ++ rs) (sym rest) ∙ h.0,
      h.1 ∙ ap (λ m. Some (asked_also told (take m (names_of files)))) (sym counted),
    )

-- ---- out of memory

take_none : {A : Type 0} (m : ℕ) → take m (let none : List A = [] in none) ≡ []
take_none zero = refl
take_none (suc m) = refl

asked_some : (told : Told) (now : Option Told) (files : List Asked) (n : ℕ) (file : Asked) (m : ℕ) → n < length files
    → now ≡ Some (asked_also (asked_also told (take n (names_of files))) (take m ((get_or files n file).0 ∷ []))) → AsksPrefix (Some told) now files
asked_some told now files n file zero less e =
    (n, e ∙ ap (λ names. Some (record told { asked = names })) (append-nil (told.asked ++ take n (names_of files))))
asked_some told now files n file (suc m) less e = (
  suc n,
  e ∙ ap Some (ap (λ names. asked_also (asked_also told (take n (names_of files))) ((get_or files n file).0 ∷ names))
      (take_none m) ∙ asked_next told files n file less),
)

-- before the next file, or behind it
pub asks_prefix : (before mid now : Option Told) (files : List Asked) (texts : List Text) (file : Asked) → length texts < length files
    → Went before mid files texts → AsksOne mid now ((get_or files (length texts) file).0) → AsksPrefix before now files
asks_prefix None mid now files texts file less h r = subst (λ m. AsksOne m now ((get_or files (length texts) file).0)) h r
asks_prefix (Some told) mid now files texts file less h r =
    let one = subst (λ m. AsksOne m now ((get_or files (length texts) file).0)) (h.1) r in
    asked_some told now files (length texts) file (one.0) less (one.1)

-- the texts so far
pub asks_so_far : (before now : Option Told) (files : List Asked) (texts : List Text) → Went before now files texts → AsksPrefix before now files
asks_so_far None now files texts h = h
asks_so_far (Some told) now files texts h = (length texts, h.1)

-- ---- which reads are made

pub made_all : (files : List Asked) (texts : List Text) → length texts ≡ length files → all_fit files texts ≡ true
    → are_made files (taken texts ++ []) ≡ true
made_all [] [] e fit = refl
made_all [] (t ∷ texts) e fit = absurd (omega (arith, e))
made_all (f ∷ files) [] e fit = absurd (omega (arith, e))
made_all (f ∷ files) (None ∷ texts) e fit = made_all files texts (omega (arith, e)) fit
made_all (f ∷ files) (Some bytes ∷ texts) e fit =
    let p = and_parts (fits f (Some bytes)) (all_fit files texts) fit in
    and_from (fits f (Some bytes)) (are_made files (taken texts ++ [])) p.0 (made_all files texts (omega (arith, e)) p.1)

pub made_some : (files : List Asked) (texts : List Text) → length texts < length files → all_fit files texts ≡ true
    → are_made files (taken texts ++ failed ∷ []) ≡ true
made_some [] texts less fit = absurd (omega (arith, less))
made_some (f ∷ files) [] less fit = refl
made_some (f ∷ files) (None ∷ texts) less fit = made_some files texts (omega (arith, less)) fit
made_some (f ∷ files) (Some bytes ∷ texts) less fit =
    let p = and_parts (fits f (Some bytes)) (all_fit files texts) fit in
    and_from (fits f (Some bytes)) (are_made files (taken texts ++ failed ∷ [])) p.0 (made_some files texts (omega (arith, less)) p.1)

-- with what is taken of the next file
fit_next : (files : List Asked) (texts : List Text) (d : Asked) (t : Text) → length texts < length files → all_fit files texts ≡ true
    → fits (get_or files (length texts) d) t ≡ true → all_fit files (texts ++ t ∷ []) ≡ true
fit_next [] texts d t less fit e = absurd (omega (arith, less))
fit_next (f ∷ files) [] d t less fit e = and_from (fits f t) true e refl
fit_next (f ∷ files) (s ∷ texts) d t less fit e =
    let p = and_parts (fits f s) (all_fit files texts) fit in
    and_from (fits f s) (all_fit files (texts ++ t ∷ [])) p.0 (fit_next files texts d t (omega (arith, less)) p.1 e)

-- ---- files as the code names them

-- whatever was answered, this holds
pub on_err : {X E : Type 0} (r : Result X E) (P : Type 0) → P → OnErr r P
on_err (Ok x) P p = tt
on_err (Err e) P p = p

pub asked_is : (list : List (Bor (List ℕ) × ℕ)) (d : Bor (List ℕ) × ℕ) (i n : ℕ) → n ≡ i → i < length list → asked (get_or list i d)
    ≡ get_or (map asked list) n (asked d)
asked_is list d i n e less = sym (get_or-map asked list i d (asked d) less) ∙ ap (λ m. get_or (map asked list) m (asked d)) (sym e)

pub before_end : (list : List (Bor (List ℕ) × ℕ)) (i n : ℕ) → n ≡ i → i < length list → n < length (map asked list)
before_end list i n e less = let f : length (map asked list) ≡ length list = length-map list asked in omega (arith, e, f, less)

module _ (before mid now : Option Told) (list : List (Bor (List ℕ) × ℕ)) (d : Bor (List ℕ) × ℕ) (i : ℕ) (texts : List Text)
    (e : length texts ≡ i) (less : i < length list) (h : Went before mid (map asked list) texts)
    (fit : all_fit (map asked list) texts ≡ true) where
  pub list_goes_on : (o : Option Text) (t : Text) → o ≡ Some t → ReadsOne mid now (asked (get_or list i d)) (read_of o)
      → Went before now (map asked list) (texts ++ t ∷ [])
  list_goes_on o t is r =
      went_on before mid now (map asked list) texts (asked d) t (before_end list i (length texts) e less) h
      (subst (λ (file : Asked). ReadsOne mid now file (read_of (Some t))) (asked_is list d i (length texts) e less)
      (subst (λ (x : Option Text). ReadsOne mid now (asked (get_or list i d)) (read_of x)) is r))

  pub list_fails : (o : Option Text) → o ≡ None → ReadsOne mid now (asked (get_or list i d)) (read_of o)
      → ReadsAll before now (map asked list) (taken texts ++ failed ∷ [])
  list_fails o is r = record {
    made = made_some (map asked list) texts (before_end list i (length texts) e less) fit;
    told = went_no_further before mid now (map asked list) texts (asked d) (before_end list i (length texts) e less) h
        (subst (λ (file : Asked). ReadsOne mid now file failed) (asked_is list d i (length texts) e less)
        (subst (λ (x : Option Text). ReadsOne mid now (asked (get_or list i d)) (read_of x)) is r));
  }

  pub list_fits : (o : Option Text) (t : Text) → o ≡ Some t → IfSome o (λ x. fits (asked (get_or list i d)) x ≡ true)
      → all_fit (map asked list) (texts ++ t ∷ []) ≡ true
  list_fits o t is r =
      fit_next (map asked list) texts (asked d) t (before_end list i (length texts) e less) fit
      (subst (λ (file : Asked). fits file t ≡ true) (asked_is list d i (length texts) e less)
      (subst (λ (x : Option Text). IfSome x (λ y. fits (asked (get_or list i d)) y ≡ true)) is r))

  pub list_asks : AsksOne mid now ((asked (get_or list i d)).0) → AsksPrefix before now (map asked list)
  list_asks r =
      asks_prefix before mid now (map asked list) texts (asked d) (before_end list i (length texts) e less) h
      (subst (λ (file : Asked). AsksOne mid now (file.0)) (asked_is list d i (length texts) e less) r)

-- all were read
pub list_ends : (before now : Option Told) (list : List (Bor (List ℕ) × ℕ)) (texts : List Text) → length texts ≡ length list
    → Went before now (map asked list) texts → all_fit (map asked list) texts ≡ true
    → ReadsAll before now (map asked list) (taken texts ++ [])
list_ends before now list texts e h fit =
    let same : length texts ≡ length (map asked list) = e ∙ sym (length-map list asked) in
    record { made = made_all (map asked list) texts same fit; told = went_through before now (map asked list) texts same h }
