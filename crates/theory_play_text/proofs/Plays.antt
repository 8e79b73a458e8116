-- What `play` prints is read as what its run shows.
use Rattle.std.proofs.Common.{◌≡◌, ℕ, List, Option, Some, None, Ok, refl, sym, ap, subst, ◌∙◌, ◌++◌, ◌≤◌, length, Bool, true, false}
use Rattle.std.specs.Prelude.{◌||◌}
use Rattle.spec_data.specs.Lists.{is_among}
use Rattle.spec_terms.specs.Advert.{Advert}
use Rattle.spec_run.specs.declared.event.Event.{Event}
use Rattle.spec_run.specs.declared.event.Run.{Run}
use Rattle.spec_run.specs.Setup.{Setup}
use Rattle.spec_run.specs.Event.{opening_collision}
use Rattle.spec_run.specs.Translation.{last_world, last_configuration, first_halt}
use Rattle.spec_run.specs.Conditions.{HashesBytes}
use Rattle.spec_run.specs.Statements.{IsRun}
use Rattle.spec_text.specs.Played.{entries, ending_from, ending, play_text}
use Rattle.spec_text.specs.PlayText.{report_text}
use Rattle.spec_text.specs.Refusals.{Judged, run_of}
use Rattle.spec_tool.specs.Commands.{JudgedAll, contracts_from, setup_of, with_contracts, with_run, play_answer}
use Rattle.theory_text.proofs.Options.{some_is}
use Rattle.theory_calculus.proofs.Names.{among-append}
use Rattle.theory_tool.proofs.Headlines.{valid_runs_are}
use Rattle.theory_play_text.specs.Report.{report_of}
use Rattle.theory_play_text.specs.Printable.{IsPrintable, report_lines}
use Rattle.theory_play_text.specs.Statements.{shown_run, PlaysAreRead, SamePlaysShowTheSame}
use Rattle.theory_play_text.proofs.MoreParties.{all_more}
use Rattle.theory_play_text.proofs.ReadRuns.{IsKnownRun, run_known}
use Rattle.theory_play_text.proofs.Reports.{reports_back}
use Rattle.theory_play_text.proofs.WholeRuns.{run_printable}

-- a run whose opening collides prints that alone
any_printable : (s : Setup) (es : List Event) → IsKnownRun s.header es → (opening_collision s ≡ None → IsRun s es)
    → IsPrintable s.header.parties s.header.deposits (entries s es) (ending s es)
any_printable s es known f = by_opening (opening_collision s) refl
  where
    by_opening : (o : Option (List ℕ × List ℕ)) → opening_collision s ≡ o
        → IsPrintable s.header.parties s.header.deposits (entries s es) (ending s es)
    by_opening None e = run_printable s es (f e) known
    by_opening (Some p) e =
        subst (λ (o : Option (List ℕ × List ℕ)).
        IsPrintable s.header.parties s.header.deposits (entries s es)
        (ending_from (last_world s es) (last_configuration s es) o (first_halt s es)))
        (sym e) (tt, tt)

run_printed : (hash : List ℕ → List ℕ) (run_file : List ℕ) (contract_files : List (List ℕ)) (run : Run) (contracts : List Advert)
    → run_of run_file ≡ Ok run → contracts_from 0 contract_files ≡ Ok contracts
    → (play_answer hash run_file contract_files).text ≡ play_text (setup_of hash run contracts) run.events
run_printed hash run_file contract_files run contracts r c =
    ap (λ (j : Judged Run). (with_run play_text hash j contract_files).text) r
    ∙ ap (λ (j : JudgedAll). (with_contracts play_text hash run j).text) c

text_is : (s : Setup) (es : List Event) → play_text s es ≡ report_text s.header.deposits (entries s es) (ending s es)
unfolding play_text
text_is s es = refl

-- what is printed is read for all parties among whom the declared ones are
read_for : (names : List (List ℕ)) (hash : List ℕ → List ℕ) → HashesBytes hash
    → (run_file : List ℕ) (contract_files : List (List ℕ)) (run : Run) (contracts : List Advert)
    → run_of run_file ≡ Ok run → contracts_from 0 contract_files ≡ Ok contracts → length contract_files ≤ 16
    → ((w : List ℕ) → is_among w run.header.parties ≡ true → is_among w names ≡ true)
    → report_of names (play_answer hash run_file contract_files).text ≡ Some (shown_run (setup_of hash run contracts) run.events)
read_for names hash bytes run_file contract_files run contracts r c few more =
    let s : Setup = setup_of hash run contracts in
    let printable = any_printable s run.events (run_known run_file run r)
    (λ opens. valid_runs_are hash bytes run_file contract_files run contracts r c few opens) in
    let lines = report_lines run.header.deposits (entries s run.events) (ending s run.events) in
    ap (report_of names) (run_printed hash run_file contract_files run contracts r c ∙ text_is s run.events)
    ∙ reports_back names run.header.deposits (entries s run.events) (ending s run.events)
    (all_more run.header.parties names more lines printable)

pub plays : PlaysAreRead
plays hash bytes run_file contract_files run contracts r c few =
    read_for run.header.parties hash bytes run_file contract_files run contracts r c few (λ w h. h)

or_first : (a b : Bool) → a ≡ true → (a || b) ≡ true
or_first true b h = refl
or_first false b h = cc

or_second : (a b : Bool) → b ≡ true → (a || b) ≡ true
or_second true b h = refl
or_second false b h = h

pub same_plays : SamePlaysShowTheSame
same_plays hash bytes a b as' bs run other contracts others r c few q d few' same =
    let names = run.header.parties ++ other.header.parties in
    let first = read_for names hash bytes a as' run contracts r c few
    (λ w h. among-append w run.header.parties other.header.parties ∙ or_first _ _ h) in
    let second = read_for names hash bytes b bs other others q d few'
    (λ w h. among-append w run.header.parties other.header.parties ∙ or_second (is_among w run.header.parties) _ h) in
    some_is (shown_run (setup_of hash run contracts) run.events) (shown_run (setup_of hash other others) other.events)
    (sym first ∙ (ap (report_of names) same ∙ second))
