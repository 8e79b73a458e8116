-- What `play` answers to a run and contracts that are taken is a faithful run, and every other command shows what is said of it: the
-- theorems at one command and its reads.
use Rattle.std.proofs.Common.{◌≡◌, ℕ, suc, ◌+◌, ◌≤◌, true, List, [], ◌∷◌, length, Option, Some, None, refl, sym, ap, subst, ◌∙◌, arith}
use Rattle.std.proofs.lemmas.Bool.{and_parts, and_from}
use Rattle.std.proofs.lemmas.List.{length-map}
use Rattle.spec_run.specs.Conditions.{HashesBytes}
use Rattle.spec_data.specs.Digits.{onto}
use Rattle.spec_data.specs.Ranges.{most_contracts}
use Rattle.spec_text.specs.Refusals.{contract_of, run_of}
use Rattle.spec_text.specs.Played.{play_text}
use Rattle.spec_tool.specs.Reads.{Asked, Read, got, too_long, failed, Text, texts_read, are_made, fits, all_fit}
use Rattle.spec_tool.specs.Commands.{Command, check, play, plan, make, psbt_of, psbt_shown, psbt_joined, weigh, audit, auto}
use Rattle.spec_tool.specs.Commands.{Printed, onto_judged, contracts_from, both_judged, run_answer, play_answer, files_of, contract_file, setup_of}
use Rattle.spec_tool.specs.Answers.{tool_answer, tool_reads, read_answer, text_answer, contracts_in}
use Rattle.spec_tool.specs.Headline as shown
use Rattle.theory_play_text.specs.Report.{report_of}
use Rattle.theory_play_text.specs.Statements.{PlaysAreRead}
use Rattle.spec_tool.specs.Headline.{HeadlineTheorem}
use Rattle.theory_tool.specs.Kept.{RunsAreKept}
use Rattle.theory_commands.specs.Commands.{CommandsShow}
use Rattle.theory_commands.specs.Leave.{LeaveIsMeant}
use Rattle.tool_headline.specs.Headline.{texts_of, ShowsRun, ShowsTexts, ShowsFiles, Shows}
use Rattle.tool_command.specs.Seen.{HasFew}

contracts_in_texts : (k : ℕ) (texts : List (List ℕ)) → contracts_in k (texts_of texts) ≡ contracts_from k texts
contracts_in_texts k [] = refl
contracts_in_texts k (text ∷ texts) = ap (onto_judged k (contract_of text)) (contracts_in_texts (k + 1) texts)

-- ---- as many texts as files

abbrev Counts : ℕ → Option (List Text) → Type 0
Counts n None = Unit {0}
Counts n (Some texts) = length texts ≡ n

onto_counts : (n : ℕ) (t : Option Text) (ts : Option (List Text)) → Counts n ts → Counts (suc n) (onto t ts)
onto_counts n None ts h = tt
onto_counts n (Some t) None h = tt
onto_counts n (Some t) (Some ts) h = ap (λ (m : ℕ). suc m) h

texts_count : (files : List Asked) (reads : List Read) → are_made files reads ≡ true → Counts (length files) (texts_read reads)
texts_count [] [] e = refl
texts_count [] (read ∷ reads) e = absurd (cc)
texts_count (file ∷ files) [] e = absurd (cc)
texts_count (file ∷ files) (got bytes ∷ reads) e =
    onto_counts (length files) (Some (Some bytes)) (texts_read reads) (texts_count files reads (and_parts (fits file (Some bytes)) _ e).1)
texts_count (file ∷ files) (too_long ∷ reads) e = onto_counts (length files) (Some None) (texts_read reads) (texts_count files reads e)
texts_count (file ∷ files) (failed ∷ reads) e = tt

-- ---- as many bytes as were asked for, or fewer

abbrev Fit : List Asked → Option (List Text) → Type 0
Fit files None = Unit {0}
Fit files (Some texts) = all_fit files texts ≡ true

onto_fit : (file : Asked) (files : List Asked) (text : Text) (ts : Option (List Text)) → fits file text ≡ true → Fit files ts
    → Fit (file ∷ files) (onto (Some text) ts)
onto_fit file files text None e h = tt
onto_fit file files text (Some texts) e h = and_from (fits file text) (all_fit files texts) e h

texts_fit : (files : List Asked) (reads : List Read) → are_made files reads ≡ true → Fit files (texts_read reads)
texts_fit [] [] e = refl
texts_fit [] (read ∷ reads) e = absurd (cc)
texts_fit (file ∷ files) [] e = absurd (cc)
texts_fit (file ∷ files) (got bytes ∷ reads) e =
    let p = and_parts (fits file (Some bytes)) (are_made files reads) e in
    onto_fit file files (Some bytes) (texts_read reads) p.0 (texts_fit files reads p.1)
texts_fit (file ∷ files) (too_long ∷ reads) e = onto_fit file files None (texts_read reads) refl (texts_fit files reads e)
texts_fit (file ∷ files) (failed ∷ reads) e = tt

-- ---- the headline

module _ (theorem : HeadlineTheorem) (kept : RunsAreKept) (leave : LeaveIsMeant) (told : PlaysAreRead) (hash : List ℕ → List ℕ)
    (bytes : HashesBytes hash) (run : List ℕ) (contracts : List (List ℕ)) (few : length contracts ≤ most_contracts) where
  of_texts : (texts : List Text) → length texts ≡ length (files_of (play run contracts)) → ShowsRun hash texts (text_answer hash (play run contracts) texts)
  of_texts texts count run_text contract_texts r adverts e valid well_formed =
      let here : length texts ≡ suc (length contract_texts) = ap length e ∙ ap (λ (m : ℕ). suc m) (length-map contract_texts (λ (t : List ℕ). Some t)) in
      let there : length (files_of (play run contracts)) ≡ suc (length contracts) = ap (λ (m : ℕ). suc m) (length-map contracts contract_file) in
      let few_texts : length contract_texts ≤ 16 = omega (arith, here, there, count, few) in
      let same : text_answer hash (play run contracts) texts ≡ play_answer hash run_text contract_texts =
      ap (text_answer hash (play run contracts)) e ∙ ap (both_judged (run_answer play_text) hash (run_of run_text)) (contracts_in_texts 0 contract_texts) in (
        subst (λ (p : Printed). shown.Headline hash run_text contract_texts p) (sym same)
            (theorem hash bytes run_text contract_texts r adverts valid well_formed few_texts),
        kept hash bytes run_text contract_texts r adverts valid well_formed few_texts,
        λ opens. leave.throughout (setup_of hash r adverts) r.events
            ((kept hash bytes run_text contract_texts r adverts valid well_formed few_texts).safe opens).honest_deposits,
        ap (λ (p : Printed). report_of r.header.parties p.text) same
            ∙ told hash bytes run_text contract_texts r adverts valid well_formed few_texts,
      )

  of_read : (o : Option (List Text)) → Counts (length (files_of (play run contracts))) o → ShowsTexts hash o (read_answer hash (play run contracts) o)
  of_read None count = tt
  of_read (Some texts) count = of_texts texts count

  pub of_play : (reads : List Read) → are_made (files_of (play run contracts)) reads ≡ true
      → ShowsTexts hash (texts_read reads) (tool_answer hash (Some (play run contracts)) reads)
  of_play reads made = of_read (texts_read reads) (texts_count (files_of (play run contracts)) reads made)

module _ (commands : CommandsShow) (hash : List ℕ → List ℕ) (bytes : HashesBytes hash) where
  of_files : (command : Command) (o : Option (List Text)) → Fit (files_of command) o → ShowsFiles hash command o (read_answer hash command o)
  of_files command None few = tt
  of_files command (Some texts) few = commands hash bytes command texts few

  of_command : (command : Command) (reads : List Read) → are_made (files_of command) reads ≡ true
      → ShowsFiles hash command (texts_read reads) (tool_answer hash (Some command) reads)
  of_command command reads made = of_files command (texts_read reads) (texts_fit (files_of command) reads made)

pub shows : HeadlineTheorem → RunsAreKept → LeaveIsMeant → PlaysAreRead → CommandsShow → (hash : List ℕ → List ℕ) → HashesBytes hash
    → (command : Option Command) (reads : List Read) → HasFew command → tool_reads command reads ≡ true
    → Shows hash command reads (tool_answer hash command reads)
shows theorem kept leave told commands hash bytes None reads few made = tt
shows theorem kept leave told commands hash bytes (Some (play run contracts)) reads few made =
    (of_play theorem kept leave told hash bytes run contracts few reads made, of_command commands hash bytes (play run contracts) reads made)
shows theorem kept leave told commands hash bytes (Some (check contract)) reads few made = of_command commands hash bytes (check contract) reads made
shows theorem kept leave told commands hash bytes (Some (plan run contract)) reads few made = of_command commands hash bytes (plan run contract) reads made
shows theorem kept leave told commands hash bytes (Some (make number size)) reads few made = of_command commands hash bytes (make number size) reads made
shows theorem kept leave told commands hash bytes (Some (psbt_of run contract which)) reads few made =
    of_command commands hash bytes (psbt_of run contract which) reads made
shows theorem kept leave told commands hash bytes (Some (psbt_shown file)) reads few made = of_command commands hash bytes (psbt_shown file) reads made
shows theorem kept leave told commands hash bytes (Some (psbt_joined first second)) reads few made =
    of_command commands hash bytes (psbt_joined first second) reads made
shows theorem kept leave told commands hash bytes (Some (weigh run contract)) reads few made = of_command commands hash bytes (weigh run contract) reads made
shows theorem kept leave told commands hash bytes (Some (audit run contract file)) reads few made =
    of_command commands hash bytes (audit run contract file) reads made
shows theorem kept leave told commands hash bytes (Some (auto run contract strategy)) reads few made =
    of_command commands hash bytes (auto run contract strategy) reads made
