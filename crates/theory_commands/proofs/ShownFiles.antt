-- What `check` shows of a contract file, and `psbt` of one or two files with partially signed transactions.
use Rattle.std.proofs.Common.{◌≡◌, ℕ, List, Some, None, Ok, Err, refl, sym, ap, subst, ◌∙◌, inl, inr}
use Rattle.std.specs.Prelude.{◌⊎◌, Result}
use Rattle.spec_terms.specs.Advert.{Advert}
use Rattle.spec_text.specs.Canonical.{advert_text}
use Rattle.spec_text.specs.Refusals.{Judged}
use Rattle.spec_text.specs.Statements.{IsSpelledBy}
use Rattle.spec_tool.specs.Answers.{contract_in}
use Rattle.spec_tool.specs.Commands.{Printed, prints, check_judged}
use Rattle.spec_tool.specs.Psbt.{Psbt}
use Rattle.spec_tool.specs.PsbtBytes.{Discord, other_tx, conflict, combined}
use Rattle.spec_tool.specs.PsbtText.{psbt_in, shown_text, file_refused, shown_judged, shown_answer, combined_answer, joined_judged}
use Rattle.spec_tool.specs.PsbtText.{joined_answer}
use Rattle.spec_tool.specs.Reads.{Text}
use Rattle.theory_text.proofs.Reader.{reader_is}
use Rattle.theory_text.proofs.Printed.Adverts.{printed_advert}
use Rattle.theory_psbt.specs.Fitting.{IsFitting}
use Rattle.theory_psbt.proofs.Combining.{combined_is_joined, combined_both_ways, other_tx_exactly, conflict_exactly}
use Rattle.theory_psbt.proofs.ReadFits.{read_fits}
use Rattle.theory_psbt.proofs.Reading.{spelled_is_read}
use Rattle.theory_commands.specs.ContractFiles.{HoldsContract}
use Rattle.theory_commands.specs.PsbtFiles.{HoldsPsbt, IsRefusedPsbt, psbt_refusal_text}
use Rattle.theory_commands.specs.Shown.Check.{IsAccepted, ShowsCheck}
use Rattle.theory_commands.specs.Shown.PsbtFiles.{ShowsPsbt, ShowsFile, ShowsBoth, AreOther, AreInConflict, ShowsFiles}
use Rattle.theory_commands.proofs.Files.{judges, of_contract}
use Rattle.theory_commands.proofs.PsbtFiles.{psbt_files_read}

-- ---- check

back : (text : Text) (advert : Advert) → HoldsContract text advert → IsSpelledBy (advert_text advert) advert
back None advert h = absurd h
back (Some text) advert h = reader_is.found (advert_text advert) advert (printed_advert advert h.read.readable)

pub check_shown : (text : Text) → ShowsCheck text (check_judged (contract_in text))
check_shown text =
    of_contract text (check_judged (contract_in text)) (λ advert. IsAccepted advert (check_judged (contract_in text)))
    (λ advert h e. record { answer = ap check_judged e; back = back text advert h }) (λ why e. ap check_judged e)

-- ---- one file

of_psbt : (n : ℕ) (text : Text) (printed : Printed) (shown : Psbt → Type 0)
    → ((p : Psbt) → HoldsPsbt text p → psbt_in text ≡ Ok p → shown p)
    → ((why : List ℕ) → psbt_in text ≡ Err why → printed ≡ file_refused n why) → ShowsPsbt n text printed shown
of_psbt n text printed shown f g =
    judges (psbt_in text) (HoldsPsbt text) (IsRefusedPsbt text) psbt_refusal_text (psbt_files_read.read text) (psbt_files_read.refused text)
    shown (λ r. printed ≡ file_refused n (psbt_refusal_text r)) f (λ r e. g (psbt_refusal_text r) e)

pub file_shown : (text : Text) → ShowsFile text (shown_answer text)
file_shown text =
    of_psbt 0 text (shown_answer text) (λ p. shown_answer text ≡ prints 0 (shown_text p)) (λ p h e. ap shown_judged e)
    (λ why e. ap shown_judged e)

-- ---- two files

pub fits : (text : Text) (p : Psbt) → HoldsPsbt text p → IsFitting p
fits None p h = absurd h
fits (Some text) p h = read_fits h.bytes p h.coded.each (spelled_is_read h.bytes p h.spelled)

abbrev Shown : Text → Text → Psbt → Psbt → Printed → Type 0
Shown first second p q printed = ShowsBoth first second p q printed ⊎ (AreOther p q printed ⊎ AreInConflict p q printed)

module _ (first second : Text) (p q : Psbt) (h : HoldsPsbt first p) (k : HoldsPsbt second q) where
  fit_p : IsFitting p
  fit_p = fits first p h

  fit_q : IsFitting q
  fit_q = fits second q k

  of_both : psbt_in first ≡ Ok p → psbt_in second ≡ Ok q → (x : Result Psbt Discord) → combined p q ≡ x
      → Shown first second p q (combined_answer x)
  of_both e f (Ok joined) c = inl (record {
    joined = joined;
    is = combined_is_joined p q joined fit_p fit_q c;
    answer = refl;
    other_way =
        (λ i. joined_judged (f i) (e i)) ∙ ap combined_answer (combined_both_ways p q joined fit_p.is fit_q.is c);
  })
  of_both e f (Err other_tx) c = inr (inl (record { differ = (other_tx_exactly p q fit_p.is fit_q.is).0 c; answer = refl }))
  of_both e f (Err (conflict n)) c =
      let x = (conflict_exactly p q n fit_p fit_q).0 c in
      inr (inr (record { input = n; same = x.0; first = x.1; answer = refl }))

pub files_shown : (first second : Text) → ShowsFiles first second (joined_answer first second)
files_shown first second =
    of_psbt 0 first (joined_answer first second)
    (λ p. ShowsPsbt 1 second (joined_answer first second) (λ q. Shown first second p q (joined_answer first second)))
    (λ p h e. of_psbt 1 second (joined_answer first second) (λ q. Shown first second p q (joined_answer first second))
    (λ q k f.
    subst (λ (printed : Printed). Shown first second p q printed) (sym (λ i. joined_judged (e i) (f i)))
    (of_both first second p q h k e f (combined p q) refl))
    (λ why f. λ i. joined_judged (e i) (f i)))
    (λ why e. ap (λ (j : Judged Psbt). joined_judged j (psbt_in second)) e)
