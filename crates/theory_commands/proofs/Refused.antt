-- A run file and contract files are answered by the first of them that is refused.
use Rattle.std.proofs.Common.{◌≡◌, ℕ, ◌+◌, List, [], ◌∷◌, ◌++◌, length, Ok, Err, refl, sym, ap, ◌∙◌, inl, inr, arith}
use Rattle.std.specs.Prelude.{◌⊎◌}
use Rattle.spec_terms.specs.Advert.{Advert}
use Rattle.spec_run.specs.declared.event.Event.{Event}
use Rattle.spec_run.specs.declared.event.Run.{Run}
use Rattle.spec_run.specs.Setup.{Setup}
use Rattle.spec_text.specs.Refusals.{Judged}
use Rattle.spec_tool.specs.Answers.{contract_in, contracts_in, run_in}
use Rattle.spec_tool.specs.Commands.{Printed, JudgedAll, onto_judged, contract_refused, both_judged}
use Rattle.spec_tool.specs.Reads.{Text}
use Rattle.theory_commands.specs.Causes.{HoldAll}
use Rattle.theory_commands.specs.ContractFiles.{Refusal, refusal_text}
use Rattle.theory_commands.specs.Refused.{FirstRefused, IsFirstRefused, ShowsContracts, SaysRefusals, FilesAreJudged}
use Rattle.theory_commands.proofs.Causes.{held, hold, run_err, run_ok, contract_err, contract_ok, contracts_err}
use Rattle.theory_commands.proofs.ContractFiles.{contracts_read}
use Rattle.theory_commands.proofs.Files.{of_run}

-- ---- the first that is refused

abbrev refused_at : ℕ → List ℕ → JudgedAll
refused_at k why = Err (k, why)

-- contracts that are held are passed over
passed : (before : List Text) (k : ℕ) (adverts : List Advert) (rest : List Text) (n : ℕ) (why : List ℕ) → HoldAll before adverts
    → contracts_in (k + length before) rest ≡ refused_at n why → contracts_in k (before ++ rest) ≡ refused_at n why
passed [] k adverts rest n why h e =
    let number : k ≡ k + 0 = omega arith in
    ap (λ (m : ℕ). contracts_in m rest) number ∙ e
passed (text ∷ before) k adverts rest n why h e =
    let number : k + 1 + length before ≡ k + length (text ∷ before) = omega arith in
    λ i. onto_judged k ((contracts_read.read text (h.0)).1 (h.3) i)
    (passed before (k + 1) (h.1) rest n why (h.4) (ap (λ (m : ℕ). contracts_in m rest) number ∙ e) i)

first_is : (texts : List Text) (k : ℕ) (why : Refusal) → FirstRefused texts k why → contracts_in 0 texts ≡ refused_at k (refusal_text why)
first_is texts k why f =
    let number : length f.before ≡ 0 + length f.before = omega arith in
    let here = ap (λ (j : Judged Advert). onto_judged k j (contracts_in (k + 1) f.after)) ((contracts_read.refused f.text (refusal_text why)).1 (why, f.refused, refl)) in
    ap (contracts_in 0) f.in_order
    ∙ passed f.before 0 f.adverts (f.text ∷ f.after) k (refusal_text why) f.held
    (ap (λ (m : ℕ). contracts_in m (f.text ∷ f.after)) (sym number ∙ sym f.number) ∙ here)

-- and what isn't held has a first
abbrev Found : List Text → Type 0
Found texts = ((adverts : List Advert) × HoldAll texts adverts) ⊎ ((r : ℕ × Refusal) × IsFirstRefused texts r)

behind : (text : Text) (texts : List Text) (advert : Advert) → contract_in text ≡ Ok advert → Found texts → Found (text ∷ texts)
behind text texts advert e (inl h) = inl (advert ∷ h.0, (advert, h.0, refl, (contracts_read.read text advert).0 e, h.1))
behind text texts advert e (inr f) =
    let first = f.1 in
    inr (
      (f.0.0 + 1, f.0.1),
      record {
        before = text ∷ first.before;
        text = first.text;
        after = first.after;
        in_order = ap (λ (ts : List Text). text ∷ ts) first.in_order;
        number = omega (arith, first.number);
        adverts = advert ∷ first.adverts;
        held = (advert, first.adverts, refl, (contracts_read.read text advert).0 e, first.held);
        refused = first.refused;
      },
    )

one_of : (texts : List Text) → Found texts
one_of [] = inl ([], refl)
one_of (text ∷ texts) = by_first (contract_in text) refl (one_of texts)
  where
    none : List Text
    none = []

    no_adverts : List Advert
    no_adverts = []

    by_first : (j : Judged Advert) → contract_in text ≡ j → Found texts → Found (text ∷ texts)
    by_first (Ok advert) e later = behind text texts advert e later
    by_first (Err why) e later =
        let x = (contracts_read.refused text why).0 e in
        inr (
          (0, x.0),
          record {
            before = none;
            text = text;
            after = texts;
            in_order = refl;
            number = refl;
            adverts = no_adverts;
            held = refl;
            refused = x.1;
          },
        )

-- ---- all files

of_contracts : (texts : List Text) (printed : Printed) (shown : List Advert → Type 0)
    → ((adverts : List Advert) → HoldAll texts adverts → contracts_in 0 texts ≡ Ok adverts → shown adverts)
    → ((k : ℕ) (why : List ℕ) → contracts_in 0 texts ≡ refused_at k why → printed ≡ contract_refused k why)
    → ShowsContracts texts printed shown
of_contracts texts printed shown f g = record {
  taken = λ adverts h. f adverts h (hold texts 0 adverts h);
  refused = λ r h. g (r.0) (refusal_text (r.1)) (first_is texts (r.0) (r.1) h);
  either = one_of texts;
}

says : (answer : Setup → List Event → Printed) (hash : List ℕ → List ℕ) (run_text : Text) (contract_texts : List Text)
    → SaysRefusals run_text contract_texts (both_judged answer hash (run_in run_text) (contracts_in 0 contract_texts))
says answer hash run_text contract_texts =
    let printed = both_judged answer hash (run_in run_text) (contracts_in 0 contract_texts) in
    of_run run_text printed (λ run. ShowsContracts contract_texts printed (λ adverts. Unit {0}))
    (λ run h e. of_contracts contract_texts printed (λ adverts. Unit {0}) (λ adverts k c. tt)
    (λ k why c. λ i. both_judged answer hash (e i) (c i)))
    (λ why e. ap (λ (j : Judged Run). both_judged answer hash j (contracts_in 0 contract_texts)) e)

pub files_judged : FilesAreJudged
files_judged = record {
  run_refused = run_err;
  run_taken = run_ok;
  contract_refused = contract_err;
  contract_taken = contract_ok;
  contracts_refused = contracts_err;
  contracts_taken = λ texts adverts. (held texts 0 adverts, hold texts 0 adverts);
  said = says;
}
