-- What is drawn of what files hold shows what the theorems on pages and their rows say.
use Rattle.std.proofs.Common.{◌≡◌, ℕ, ◌+◌, ◌<◌, ◌^◌, ◌≤◌, suc, List, [], ◌∷◌, length, map, None, Some, Ok, sym, ap, subst, refl, ◌∙◌, arith}
use Rattle.std.specs.List.{AllByRecursion}
use Rattle.std.proofs.lemmas.List.{length-map}
use Rattle.spec_data.specs.Ranges.{most_contracts}
use Rattle.spec_terms.specs.Advert.{Advert}
use Rattle.spec_terms.specs.Faults.{IsWellFormed}
use Rattle.spec_run.specs.Conditions.{HashesBytes}
use Rattle.spec_run.specs.declared.event.Event.{Event}
use Rattle.spec_run.specs.Event.{opening_collision}
use Rattle.spec_run.specs.Setup.{Setup}
use Rattle.spec_run.specs.Statements.{IsRun}
use Rattle.spec_run.specs.Translation.{course}
use Rattle.spec_text.specs.Refusals.{contract_of, run_of}
use Rattle.spec_tool.specs.Reads.{Text}
use Rattle.spec_tool.specs.Commands.{JudgedAll, Printed, contracts_from, onto_judged, setup_of, run_answer, both_judged}
use Rattle.spec_tool.specs.Answers.{contract_in, contracts_in}
use Rattle.spec_tool.specs.Statements.{ValidRunTheorem}
use Rattle.spec_page.specs.Moments.{first_moment}
use Rattle.spec_page.specs.Html.{IsWellFormedPage}
use Rattle.spec_page.specs.Page.{contract_text}
use Rattle.spec_page.specs.Picture.{picture}
use Rattle.spec_page.specs.Statements.{PagesAreWellFormed, SvgsAreWellFormed, TextsAreSafe, TextsStandApart}
use Rattle.spec_page.specs.Statements.{RowsShowBranches, AllRowsHoldEvents, MoneyIsWhole, RowsAreWhole}
use Rattle.theory_script.specs.Listed.{PathsInOrder}
use Rattle.theory_page.specs.Ids.{IdsStandOnce, SvgIdsStandOnce}
use Rattle.theory_page.specs.Outcomes.{RowsLookSo}
use Rattle.theory_page.specs.Shows.{RowsShowLooks, FoldsHaveMoments}
use Rattle.theory_page.specs.SvgTells.{SvgTellsAll}
use Rattle.theory_page.specs.Tells.{LinesTellTurns}
use Rattle.theory_commands.specs.Causes.{CausesInFiles, HoldAll}
use Rattle.theory_commands.specs.ContractFiles.{ContractsAreRead}
use Rattle.theory_commands.specs.Refused.{FilesAreJudged}
use Rattle.theory_commands.specs.RunFiles.{RunFilesAreRead}
use Rattle.theory_commands.proofs.Files.{of_contract}
use Rattle.tool_command.proofs.FewEvents.{few_events}
use Rattle.draw_replies.specs.declared.form.Form.{Form}
use Rattle.draw_replies.specs.declared.form.Form.TheVariants as forms
use Rattle.draw_replies.specs.DrawnTexts.{run_drawn, sheet_judged, drawn_texts}
use Rattle.bitml_draw.specs.Causes.{SaysRefusals}
use Rattle.bitml_draw.specs.Shown.{ShowsBranches, ShowsRows, ShowsIn, ShowsRunFiles, ShowsContractFile}

-- the theorems on files, on pages and on their rows
pub record Theorems : Type 0 where
  pub valid : ValidRunTheorem
  pub causes : CausesInFiles
  pub runs : RunFilesAreRead
  pub contracts : ContractsAreRead
  pub files : FilesAreJudged
  pub order : PathsInOrder
  pub formed : PagesAreWellFormed
  pub svgs : SvgsAreWellFormed
  pub apart : TextsStandApart
  pub tells : SvgTellsAll
  pub ids : IdsStandOnce
  pub svg_ids : SvgIdsStandOnce
  pub safe : TextsAreSafe
  pub branches : RowsShowBranches
  pub events : AllRowsHoldEvents
  pub lines : LinesTellTurns
  pub outcomes : RowsLookSo
  pub looks : RowsShowLooks
  pub moments : FoldsHaveMoments
  pub sums : RowsAreWhole
  pub money : MoneyIsWhole

-- ---- files

abbrev all_ok : List Advert → JudgedAll
all_ok adverts = Ok adverts

contracts_in_texts : (k : ℕ) (files : List (List ℕ)) → contracts_in k (map Some files) ≡ contracts_from k files
contracts_in_texts k [] = refl
contracts_in_texts k (file ∷ files) = ap (onto_judged k (contract_of file)) (contracts_in_texts (k + 1) files)

-- what they hold is as much, and well-formed
as_many : (texts : List Text) (adverts : List Advert) → HoldAll texts adverts → length adverts ≡ length texts
as_many [] adverts e = ap length e
as_many (text ∷ texts) adverts h = ap length (h.2) ∙ ap suc (as_many texts (h.1) (h.4))

well_formed : (texts : List Text) (adverts : List Advert) → HoldAll texts adverts → AllByRecursion IsWellFormed adverts
well_formed [] adverts e = subst (AllByRecursion IsWellFormed) (sym e) tt
well_formed (None ∷ texts) adverts h = absurd (h.3)
well_formed (Some text ∷ texts) adverts h =
    subst (AllByRecursion IsWellFormed) (sym (h.2))
    (record { readable = (h.3).read.readable; faultless = (h.3).faultless; limited = (h.3).limited }, well_formed texts (h.1) (h.4))

-- ---- what is drawn

module _ (t : Theorems) where
  shows_branches : (a : Advert) → ShowsBranches a
  shows_branches a = record {
    each = t.branches a;
    once = (t.order (λ x. x) (record { contract = 0; advert = a; bound = []; hashes = [] })).paths_once;
  }

  pub shows_rows : (s : Setup) (es : List Event) → (opening_collision s ≡ None → IsRun s es) → ShowsRows s es
  shows_rows s es run = record {
    branches = shows_branches;
    events = t.events (first_moment s) ((course s es).turns);
    lines = t.lines;
    outcomes = t.outcomes s es;
    looks = t.looks s es;
    moments = t.moments (first_moment s) ((course s es).turns);
    sums = λ opens. t.sums s es (run opens);
    money = t.money;
  }

  shows_in : (form : Form) (title : List ℕ) (s : Setup) (es : List Event) → length es < 2 ^ 31 → length s.contracts ≤ most_contracts
      → AllByRecursion IsWellFormed s.contracts → (opening_collision s ≡ None → IsRun s es)
      → ShowsIn form title s es (run_drawn form title s es)
  shows_in forms.Page title s es few contracts well run = record {
    told = refl;
    formed = t.formed.runs title s es;
    ids = t.ids.each title s es;
    once = t.ids.once s es few;
    safe = t.safe;
    rows = shows_rows s es run;
  }
  shows_in forms.Svg title s es few contracts well run = record {
    told = refl;
    formed = t.svgs title s es;
    ids = t.svg_ids.each title (picture s es);
    once = t.svg_ids.once s es well contracts few;
    safe = t.safe;
    apart = t.apart (picture s es);
    tells = t.tells;
    rows = shows_rows s es run;
  }

  module _ (form : Form) (title : List ℕ) (hash : List ℕ → List ℕ) (bytes : HashesBytes hash) (texts : List Text) where
    pub shows_files : ShowsRunFiles form title hash texts (drawn_texts form title hash texts)
    shows_files run_file contract_file contract_files run contracts e few holds hold =
        let s : Setup = setup_of hash run contracts in
        let runs : run_of run_file ≡ Ok run = (t.runs.read (Some run_file) run).1 holds in
        let all : contracts_in 0 (Some contract_file ∷ map Some contract_files) ≡ all_ok contracts =
        (t.files.contracts_taken (Some contract_file ∷ map Some contract_files) contracts).1 hold in
        let well : contracts_from 0 (contract_file ∷ contract_files) ≡ all_ok contracts =
        sym (contracts_in_texts 0 (contract_file ∷ contract_files)) ∙ all in
        let same : drawn_texts form title hash texts ≡ run_answer (run_drawn form title) s run.events =
        ap (drawn_texts form title hash) e ∙ (λ i. both_judged (run_answer (run_drawn form title)) hash (runs i) (all i)) in
        subst (λ (p : Printed). ShowsIn form title s run.events p.text) (sym same)
        (shows_in form title s run.events (let n = few_events (Some run_file) run runs in omega (arith, n))
        (let n = as_many (Some contract_file ∷ map Some contract_files) contracts hold in let k = length-map contract_files Some in omega (arith, n, k, few))
        (well_formed (Some contract_file ∷ map Some contract_files) contracts hold)
        (λ opens. t.valid hash bytes run_file (contract_file ∷ contract_files) run contracts runs well few opens))

    pub says_refusals : SaysRefusals texts (drawn_texts form title hash texts)
    says_refusals = by_texts texts
      where
        by_texts : (ts : List Text) → SaysRefusals ts (drawn_texts form title hash ts)
        by_texts [] = tt
        by_texts (contract ∷ []) =
            of_contract contract (sheet_judged title (contract_in contract)) (λ advert. Unit {0}) (λ advert h e. tt)
            (λ why e. ap (sheet_judged title) e)
        by_texts (run ∷ contract ∷ contracts) = t.files.said (run_answer (run_drawn form title)) hash run (contract ∷ contracts)

    pub shows_contract : ShowsContractFile title texts (drawn_texts form title hash texts)
    shows_contract contract_file advert e holds = record {
      told = same;
      formed = subst IsWellFormedPage (sym same) (t.formed.contracts title advert);
      safe = t.safe;
      branches = shows_branches advert;
    }
      where
        same : (drawn_texts form title hash texts).text ≡ contract_text title advert
        same =
            ap (λ (p : Printed). p.text)
            (ap (drawn_texts form title hash) e ∙ ap (sheet_judged title) ((t.contracts.read (Some contract_file) advert).1 holds))
