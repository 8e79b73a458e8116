-- What is answered draws what is asked for.
use Rattle.std.proofs.Common.{◌≡◌, ℕ, true, List, [], ◌∷◌, Option, Some, None, refl, sym, inl, inr, ◌∙◌, map, option_map, arith}
use Rattle.std.proofs.lemmas.Bool.{false≢true}
use Rattle.spec_data.specs.Digits.{onto}
use Rattle.spec_data.specs.Lists.{has_number}
use Rattle.spec_run.specs.Conditions.{HashesBytes}
use Rattle.spec_tool.specs.Commands.{contract_file, run_file}
use Rattle.spec_tool.specs.Reads.{Asked, Read, Text, text_read, texts_read, are_made}
use Rattle.theory_tool.proofs.Statuses.{apart}
use Rattle.tool_shell.specs.Around.{Around}
use Rattle.tool_shell.specs.Answered.{GivesUp}
use Rattle.tool_shell.specs.Asked.{are_reads}
use Rattle.tool_shell.proofs.Ended.{ended_with, write_failed}
use Rattle.tool_shell.proofs.Seen.{some_command}
use Rattle.bitml_draw.specs.DrawAnswer.{DrawCommand, draws, sheets, form_of, draw_files, draw_title, draw_words, drawn_texts, drawn_read, draw_answer}
use Rattle.bitml_draw.specs.Drawn.{Answers, AnswersOrGivesUp, DrawsAll, Serves, ShowsTexts, ShowsRead, Shows}
use Rattle.bitml_draw.proofs.Causes.{causes, known, numbers}
use Rattle.bitml_draw.proofs.Shown.{Theorems, says_refusals, shows_files, shows_contract}

-- ---- what is shown

module _ (t : Theorems) (hash : List ℕ → List ℕ) (bytes : HashesBytes hash) where
  shows_texts : (command : DrawCommand) (texts : List Text) → ShowsTexts hash command texts (drawn_texts hash command texts)
  shows_texts command texts = record {
    causes = causes t.causes (form_of command) (draw_title command) hash texts;
    refusals = says_refusals t (form_of command) (draw_title command) hash bytes texts;
    run = shows_files t (form_of command) (draw_title command) hash bytes texts;
    contract = shows_contract t (form_of command) (draw_title command) hash bytes texts;
  }

  shows_read : (command : DrawCommand) (o : Option (List Text)) → ShowsRead hash command o (drawn_read hash command o)
  shows_read command None = (refl, refl)
  shows_read command (Some texts) = shows_texts command texts

  shows : (command : Option DrawCommand) (reads : List Read) → Shows hash command reads (draw_answer hash command reads)
  shows None reads = refl
  shows (Some command) reads = shows_read command (texts_read reads)

-- ---- every command reads files

-- what was read is a text or more, unless a read failed
abbrev IsThere : Option (List Text) → Type 0
IsThere None = Unit {0}
IsThere (Some []) = ⊥
IsThere (Some (first ∷ more)) = Unit {0}

onto_there : (o : Option Text) (later : Option (List Text)) → IsThere (onto o later)
onto_there None later = tt
onto_there (Some t) None = tt
onto_there (Some t) (Some ts) = tt

files_there : (file : Asked) (files : List Asked) (reads : List Read) → are_made (file ∷ files) reads ≡ true → IsThere (texts_read reads)
files_there file files [] h = absurd (false≢true h)
files_there file files (read ∷ reads) h = onto_there (text_read read) (texts_read reads)

texts_there : (command : DrawCommand) (reads : List Read) → are_made (draw_files command) reads ≡ true → IsThere (texts_read reads)
texts_there (sheets contract) reads h = files_there (contract_file contract) [] reads h
texts_there (draws form run contracts) reads h = files_there (run_file run) (map contract_file contracts) reads h

-- ---- the status of an answer

-- what a status tells
record Status (command : Option DrawCommand) (reads : List Read) (n : ℕ) : Type 0 where
  usage : n ≡ 2 → command ≡ None
  unread : n ≡ 3 → texts_read reads ≡ None
  written : n ≡ 4 → ⊥
  memory : n ≡ 5 → ⊥

of_known : (command : DrawCommand) (reads : List Read) (n : ℕ) → has_number n numbers ≡ true → Status (Some command) reads n
of_known command reads n k = record {
  usage = λ q. absurd (apart 2 numbers refl n k q);
  unread = λ q. absurd (apart 3 numbers refl n k q);
  written = apart 4 numbers refl n k;
  memory = apart 5 numbers refl n k;
}

module _ (hash : List ℕ → List ℕ) where
  of_texts : (command : DrawCommand) (reads : List Read) (o : Option (List Text)) → texts_read reads ≡ o → IsThere o
      → Status (Some command) reads (drawn_read hash command o).status
  of_texts command reads None e h =
      record { usage = λ n. absurd (omega (arith, n)); unread = λ n. e; written = λ n. omega (arith, n); memory = λ n. omega (arith, n) }
  of_texts command reads (Some []) e h = absurd h
  of_texts command reads (Some (first ∷ more)) e h = of_known command reads _ (known (form_of command) (draw_title command) hash first more)

  of_reads : (command : Option DrawCommand) (reads : List Read) → are_reads (option_map draw_files command) reads ≡ true
      → Status command reads (draw_answer hash command reads).status
  of_reads None reads made =
      record { usage = λ n. refl; unread = λ n. absurd (omega (arith, n)); written = λ n. omega (arith, n); memory = λ n. omega (arith, n) }
  of_reads (Some command) reads made = of_texts command reads (texts_read reads) refl (texts_there command reads made)

-- ---- the call

module _ (t : Theorems) (hash : List ℕ → List ℕ) (bytes : HashesBytes hash) (words : List (List ℕ)) (before now : Around) (status : ℕ) where
  of_answer : Answers hash (draw_words words) before now status → Serves hash words before now status
  of_answer a =
      let printed = draw_answer hash (draw_words words) a.reads in
      let s : Status (draw_words words) a.reads printed.status = of_reads hash (draw_words words) a.reads a.made in
      record {
        draws = inl (record { answers = a; shows = shows t hash bytes (draw_words words) a.reads });
        usage = λ e. s.usage (ended_with printed a.ends.went 2 (λ f. absurd (cc)) (sym e ∙ a.ends.status_is));
        unread = λ e. a.unread (s.unread (ended_with printed a.ends.went 3 (λ f. absurd (cc)) (sym e ∙ a.ends.status_is)));
        unwritten = λ e. a.ends.unwritten (write_failed printed a.ends.went s.written (sym e ∙ a.ends.status_is));
        memory = λ e. absurd (s.memory (ended_with printed a.ends.went 5 (λ f. absurd (cc)) (sym e ∙ a.ends.status_is)));
      }

  of_none : GivesUp (option_map draw_files (draw_words words)) before now status → Serves hash words before now status
  of_none g = record {
    draws = inr g;
    usage = λ e. absurd (let f = g.status_is in cc);
    unread = λ e. absurd (let f = g.status_is in cc);
    unwritten = λ e. absurd (let f = g.status_is in cc);
    memory = λ e. some_command draw_files (draw_words words) g.some;
  }

  serves : AnswersOrGivesUp hash (draw_words words) before now status → Serves hash words before now status
  serves (inl a) = of_answer a
  serves (inr g) = of_none g

pub draws_all : Theorems → DrawsAll
draws_all t hash bytes words before now status answers = serves t hash bytes words before now status answers
