-- An answer has its causes.
use Rattle.std.proofs.Common.{◌≡◌, ℕ, true, List, [], ◌∷◌, Option, Some, None, refl, sym, inl, inr, ◌∙◌, map, option_map, arith}
use Rattle.std.proofs.lemmas.Bool.{false≢true}
use Rattle.spec_data.specs.Digits.{onto}
use Rattle.spec_run.specs.Conditions.{HashesBytes}
use Rattle.spec_tool.specs.Reads.{Asked, Read, Text, text_read, texts_read, are_made}
use Rattle.spec_tool.specs.Commands.{contract_file, run_file}
use Rattle.spec_next.specs.declared.form.Form.{Form}
use Rattle.spec_next.specs.NextAnswer.{NextCommand, begins, continues, next_files, next_words, next_answer, next_texts, form_of, party_of, read_next}
use Rattle.theory_commands.specs.Refused.{FilesAreJudged}
use Rattle.theory_tool.proofs.Statuses.{apart}
use Rattle.tool_shell.specs.Around.{Around}
use Rattle.tool_shell.specs.Answered.{GivesUp}
use Rattle.tool_shell.specs.Asked.{are_reads}
use Rattle.tool_shell.proofs.Ended.{ended_with, write_failed}
use Rattle.tool_shell.proofs.Seen.{some_command}
use Rattle.bitml_next.specs.Told.{Answers, AnswersOrGivesUp, CausedByTexts, Caused, Tells, TellsAll}
use Rattle.bitml_next.proofs.Causes.{causes, known}
use Rattle.bitml_next.proofs.Files.{in_files}
use Rattle.bitml_next.proofs.Shown.{Theorems, shows}

-- ---- every command reads files

-- what was read is a text or more, unless a read failed
abbrev IsThere : Option (List Text) → Type 0
IsThere None = Unit {0}
IsThere (Some []) = ⊥
IsThere (Some (first ∷ more)) = Unit {0}

onto_there : (o : Option Text) (later : Option (List Text)) → IsThere (onto o later)
onto_there None later = tt
onto_there (Some t) None = tt
onto_there (Some t) (Some ts) = tt

files_there : (file : Asked) (files : List Asked) (reads : List Read) → are_made (file ∷ files) reads ≡ true → IsThere (texts_read reads)
files_there file files [] h = absurd (false≢true h)
files_there file files (read ∷ reads) h = onto_there (text_read read) (texts_read reads)

texts_there : (command : NextCommand) (reads : List Read) → are_made (next_files command) reads ≡ true → IsThere (texts_read reads)
texts_there (begins contract) reads h = files_there (contract_file contract) [] reads h
texts_there (continues form party run contracts) reads h = files_there (run_file run) (map contract_file contracts) reads h

-- ---- the status of an answer

-- what a status tells
record Status (command : Option NextCommand) (reads : List Read) (n : ℕ) : Type 0 where
  usage : n ≡ 2 → command ≡ None
  unread : n ≡ 3 → texts_read reads ≡ None
  written : n ≡ 4 → ⊥
  memory : n ≡ 5 → ⊥

-- those of texts
abbrev numbers : List ℕ
numbers = 0 ∷ (1 ∷ (6 ∷ (7 ∷ (8 ∷ []))))

abbrev two : ℕ
two = 2

abbrev three : ℕ
three = 3

of_texts : (hash : List ℕ → List ℕ) (command : NextCommand) (reads : List Read) (o : Option (List Text)) → texts_read reads ≡ o → IsThere o
    → Status (Some command) reads (read_next hash (form_of command) (party_of command) o).status
of_texts hash command reads None e h =
    record { usage = λ n. absurd (omega (arith, n)); unread = λ n. e; written = λ n. omega (arith, n); memory = λ n. omega (arith, n) }
of_texts hash command reads (Some []) e h = absurd h
of_texts hash command reads (Some (first ∷ more)) e h =
    let n = (next_texts hash (form_of command) (party_of command) (first ∷ more)).status in
    let k = known hash (form_of command) (party_of command) first more in
    record {
      usage = λ q. absurd (apart 2 numbers refl n k q);
      unread = λ q. absurd (apart 3 numbers refl n k q);
      written = apart 4 numbers refl n k;
      memory = apart 5 numbers refl n k;
    }

of_reads : (hash : List ℕ → List ℕ) (command : Option NextCommand) (reads : List Read)
    → are_reads (option_map next_files command) reads ≡ true → Status command reads (next_answer hash command reads).status
of_reads hash None reads made =
    record { usage = λ n. refl; unread = λ n. absurd (omega (arith, n)); written = λ n. omega (arith, n); memory = λ n. omega (arith, n) }
of_reads hash (Some command) reads made = of_texts hash command reads (texts_read reads) refl (texts_there command reads made)

module _ (t : FilesAreJudged) (hash : List ℕ → List ℕ) where
  caused_by : (form : Form) (party : Option (List ℕ)) (o : Option (List Text)) → CausedByTexts hash o (read_next hash form party o)
  caused_by form party None = (refl, refl)
  caused_by form party (Some texts) =
      let c = causes hash form party texts in (c, in_files t hash texts (next_texts hash form party texts).status c)

  caused : (command : Option NextCommand) (reads : List Read) → Caused hash command reads (next_answer hash command reads)
  caused None reads = refl
  caused (Some command) reads = caused_by (form_of command) (party_of command) (texts_read reads)

-- ---- the call

module _ (t : Theorems) (hash : List ℕ → List ℕ) (bytes : HashesBytes hash) (words : List (List ℕ)) (before now : Around) (status : ℕ) where
  of_answer : Answers hash (next_words words) before now status → Tells hash words before now status
  of_answer a =
      let printed = next_answer hash (next_words words) a.reads in
      let s : Status (next_words words) a.reads printed.status = of_reads hash (next_words words) a.reads a.made in
      record {
        serves = inl (record {
          answers = a;
          caused = caused t.files hash (next_words words) a.reads;
          shows = shows t hash bytes (next_words words) a.reads;
        });
        usage = λ e. s.usage (ended_with printed a.ends.went 2 (λ f. absurd (cc)) (sym e ∙ a.ends.status_is));
        unread = λ e. a.unread (s.unread (ended_with printed a.ends.went 3 (λ f. absurd (cc)) (sym e ∙ a.ends.status_is)));
        unwritten = λ e. a.ends.unwritten (write_failed printed a.ends.went s.written (sym e ∙ a.ends.status_is));
        memory = λ e. absurd (s.memory (ended_with printed a.ends.went 5 (λ f. absurd (cc)) (sym e ∙ a.ends.status_is)));
      }

  of_none : GivesUp (option_map next_files (next_words words)) before now status → Tells hash words before now status
  of_none g = record {
    serves = inr g;
    usage = λ e. absurd (let f = g.status_is in cc);
    unread = λ e. absurd (let f = g.status_is in cc);
    unwritten = λ e. absurd (let f = g.status_is in cc);
    memory = λ e. some_command next_files (next_words words) g.some;
  }

  tells : AnswersOrGivesUp hash (next_words words) before now status → Tells hash words before now status
  tells (inl a) = of_answer a
  tells (inr g) = of_none g

pub tells_all : Theorems → TellsAll
tells_all t hash bytes words before now status answers = tells t hash bytes words before now status answers
