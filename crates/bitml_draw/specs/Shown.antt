-- What is known of what is drawn.
use Rattle.std.specs.Prelude.{◌≡◌, ℕ, ◌≤◌, List, [], ◌∷◌, length, map, take, true, ◌⊎◌, Some, None}
use Rattle.std.specs.List.{AllByRecursion}
use Rattle.spec_data.specs.Lists.{are_different}
use Rattle.spec_data.specs.Ranges.{most_contracts}
use Rattle.spec_terms.specs.Advert.{Advert}
use Rattle.spec_terms.specs.Order.{branch_paths}
use Rattle.spec_terms.specs.declared.path.PathStep.{PathStep}
use Rattle.spec_run.specs.declared.event.Event.{Event}
use Rattle.spec_run.specs.declared.event.Run.{Run}
use Rattle.spec_run.specs.Event.{opening_collision}
use Rattle.spec_run.specs.Setup.{Setup}
use Rattle.spec_run.specs.Translation.{course}
use Rattle.spec_tool.specs.Reads.{Text}
use Rattle.spec_tool.specs.Commands.{Printed, setup_of}
use Rattle.spec_page.specs.Balances.{all_money}
use Rattle.spec_page.specs.Html.{IsWellFormedPage}
use Rattle.spec_page.specs.Moments.{first_moment}
use Rattle.spec_page.specs.Page.{page_of, page_text, contract_text}
use Rattle.spec_page.specs.Picture.{picture}
use Rattle.spec_page.specs.Statements.{TextsAreSafe, MoneyIsWhole, RowsHoldEvents, count_path, shown_paths, all_of_it}
use Rattle.spec_page.specs.Folds.{folded}
use Rattle.spec_page.specs.Stops.{last_moment, rows_of, stops}
use Rattle.spec_page.specs.Svg.{svg_of, svg_text}
use Rattle.spec_page.specs.SvgFormed.{IsWellFormedSvg, StandsApart}
use Rattle.spec_page.specs.SvgLayout.{drawing}
use Rattle.spec_page.specs.Ways.{way_rows}
use Rattle.theory_script.specs.Listed.{are_once}
use Rattle.theory_page.specs.Ids.{ids_in, page_ids, svg_ids}
use Rattle.theory_page.specs.Outcomes.{IsOfEvents, IsOfNone}
use Rattle.theory_page.specs.Shows.{ShowContracts}
use Rattle.theory_page.specs.SvgTells.{SvgTellsAll}
use Rattle.theory_page.specs.Tells.{LinesTellTurns}
use Rattle.theory_commands.specs.Causes.{HoldAll}
use Rattle.theory_commands.specs.ContractFiles.{HoldsContract}
use Rattle.theory_commands.specs.RunFiles.{HoldsRun}
use Rattle.draw_replies.specs.declared.form.Form.{Form}
use Rattle.draw_replies.specs.declared.form.Form.TheVariants as forms

-- ---- rows

-- each branch of a contract is shown as often as it stands in it, which is once
pub record ShowsBranches (a : Advert) : Type 0 where
  pub each : (p : List PathStep) → count_path p (shown_paths (way_rows a)) ≡ count_path p (branch_paths a.root)
  pub once : are_once (branch_paths a.root) ≡ true

-- what the rows of a run and its contracts show
pub record ShowsRows (s : Setup) (es : List Event) : Type 0 where
  -- each contract shows its branches
  pub branches : (a : Advert) → ShowsBranches a
  -- the rows hold the events of the run
  pub events : RowsHoldEvents (first_moment s) ((course s es).turns)
  -- equal lines are of equal events with equal outcomes
  pub lines : LinesTellTurns
  -- each row of events looks as the last of them came out
  pub outcomes : AllByRecursion (λ st. IsOfEvents ((course s es).turns) st.row ⊎ IsOfNone st.row.look) (stops s es)
  -- in each row each part of a contract has the look that it has then
  pub looks : AllByRecursion (λ st. ShowContracts st.row.looks st.moment 0 0 s.contracts) (stops s es)
  -- which is what the events up to the row's last one left
  pub moments : AllByRecursion (λ f. f.moment ≡ last_moment (first_moment s) (take f.last ((course s es).turns))) (folded (first_moment s) ((course s es).turns))
  -- all sums of a row together are the deposits, where the opening doesn't collide
  pub sums : opening_collision s ≡ None → AllByRecursion (λ st. all_of_it st.row.money ≡ all_money s) (stops s es)
  -- also wherever no more is there than was
  pub money : MoneyIsWhole

-- ---- pages

-- of a contract alone
pub record ShowsSheet (title : List ℕ) (a : Advert) (text : List ℕ) : Type 0 where
  pub told : text ≡ contract_text title a
  pub formed : IsWellFormedPage text
  -- no text leaves its place
  pub safe : TextsAreSafe
  pub branches : ShowsBranches a

-- of a run and its contracts
pub record ShowsPage (title : List ℕ) (s : Setup) (es : List Event) (text : List ℕ) : Type 0 where
  pub told : text ≡ page_text title s es
  pub formed : IsWellFormedPage text
  -- its ids are those of its slider and of its rows, each once
  pub ids : ids_in (page_of title (picture s es)) ≡ page_ids (rows_of (stops s es))
  pub once : are_different (page_ids (rows_of (stops s es))) ≡ true
  -- no text leaves its place
  pub safe : TextsAreSafe
  pub rows : ShowsRows s es

-- ---- SVG

-- of a run and its contracts
pub record ShowsSvg (title : List ℕ) (s : Setup) (es : List Event) (text : List ℕ) : Type 0 where
  pub told : text ≡ svg_text title s es
  pub formed : IsWellFormedSvg text
  -- its ids are those of transactions and of rows, each once
  pub ids : ids_in (svg_of title (drawing (picture s es))) ≡ svg_ids (picture s es)
  pub once : are_different (svg_ids (picture s es)) ≡ true
  -- no text leaves its place
  pub safe : TextsAreSafe
  -- none meets another, or leaves the drawing
  pub apart : StandsApart (drawing (picture s es))
  -- each text of the rows stands at one place, and nothing else does
  pub tells : SvgTellsAll
  pub rows : ShowsRows s es

-- ---- files

-- a run and its contracts, in this form
abbrev pub ShowsIn : Form → List ℕ → Setup → List Event → List ℕ → Type 0
ShowsIn forms.Page title s es text = ShowsPage title s es text
ShowsIn forms.Svg title s es text = ShowsSvg title s es text

-- they hold a run and contracts, as their lines and tokens spell these
abbrev pub ShowsRunFiles : Form → List ℕ → (List ℕ → List ℕ) → List Text → Printed → Type 0
ShowsRunFiles form title hash texts printed =
    (run_file contract_file : List ℕ) (contract_files : List (List ℕ)) (run : Run) (contracts : List Advert)
    → texts ≡ Some run_file ∷ Some contract_file ∷ map Some contract_files → length (contract_file ∷ contract_files) ≤ most_contracts
    → HoldsRun (Some run_file) run → HoldAll (Some contract_file ∷ map Some contract_files) contracts
    → ShowsIn form title (setup_of hash run contracts) run.events printed.text

-- the file holds a contract
abbrev pub ShowsContractFile : List ℕ → List Text → Printed → Type 0
ShowsContractFile title texts printed =
    (contract_file : List ℕ) (advert : Advert) → texts ≡ Some contract_file ∷ [] → HoldsContract (Some contract_file) advert
    → ShowsSheet title advert printed.text
