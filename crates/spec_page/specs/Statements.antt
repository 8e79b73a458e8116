-- What is claimed of pages and of SVGs.
use Rattle.std.specs.Prelude.{◌≡◌, ◌≤◌, ℕ, ◌+◌, zero, suc, List, [], ◌∷◌, ◌++◌, map, length, sum_by, Bool, true, false, not, ◌&&◌, ◌||◌}
use Rattle.std.specs.Prelude.{◌==◌, nat_le, if◌then◌else◌, codes}
use Rattle.std.specs.List.{list_all, AllByRecursion}
use Rattle.spec_data.specs.Lists.{are_different}
use Rattle.spec_terms.specs.Advert.{Advert}
use Rattle.spec_terms.specs.Order.{branch_paths}
use Rattle.spec_terms.specs.Paths.{path_eq}
use Rattle.spec_terms.specs.declared.path.PathStep.{PathStep}
use Rattle.spec_calculus.specs.Configuration.{Configuration}
use Rattle.spec_run.specs.declared.event.Event.{Event}
use Rattle.spec_run.specs.Setup.{Setup}
use Rattle.spec_run.specs.Statements.{IsRun}
use Rattle.spec_run.specs.Translation.{Turn}
use Rattle.spec_page.specs.declared.event_row.Money.{Money}
use Rattle.spec_page.specs.declared.way_row.Payment.{Payment}
use Rattle.spec_page.specs.declared.way_row.WayRow.{WayRow}
use Rattle.spec_page.specs.declared.way_row.WayRow.TheVariants.{Choice, Way}
use Rattle.spec_page.specs.Ways.{way_rows}
use Rattle.spec_page.specs.Moments.{Moment}
use Rattle.spec_page.specs.Balances.{all_deposits, all_contracts, all_money, money_of}
use Rattle.spec_page.specs.Folds.{Fold, folded}
use Rattle.spec_page.specs.Stops.{most_rows, is_refusal, fold_look, shown_folds, held_in, stops}
use Rattle.spec_page.specs.Html.{escaped, IsWellFormedPage}
use Rattle.spec_page.specs.Page.{page_text, contract_text}
use Rattle.spec_page.specs.declared.picture.Picture.{Picture}
use Rattle.spec_page.specs.SvgLayout.{drawing}
use Rattle.spec_page.specs.Svg.{svg_text}
use Rattle.spec_page.specs.SvgFormed.{IsWellFormedSvg, StandsApart}

-- ---- the page

-- every page is well-formed, whatever its title and its names are
pub record PagesAreWellFormed : Type 0 where
  pub runs : (title : List ℕ) (s : Setup) (es : List Event) → IsWellFormedPage (page_text title s es)
  pub contracts : (title : List ℕ) (a : Advert) → IsWellFormedPage (contract_text title a)

-- ---- the SVG

-- every SVG is well-formed, whatever its title and its names are
abbrev pub SvgsAreWellFormed : Type 0
SvgsAreWellFormed = (title : List ℕ) (s : Setup) (es : List Event) → IsWellFormedSvg (svg_text title s es)

-- no two texts of an SVG overlap, and none leaves it
abbrev pub TextsStandApart : Type 0
TextsStandApart = (p : Picture) → StandsApart (drawing p)

-- ---- texts and values

-- what a browser shows of a byte: what ASCII prints, a line feed, and a question mark for any other
abbrev pub shown_byte : ℕ → ℕ
shown_byte b = if b == 10 || nat_le 32 b && nat_le b 126 then b else 63

-- whether a list begins with another
abbrev pub begins_with : List ℕ → List ℕ → Bool
begins_with [] bytes = true
begins_with (x ∷ xs) [] = false
begins_with (x ∷ xs) (b ∷ bytes) = (x == b) && begins_with xs bytes

-- the byte that is referred to behind `&`, and how many bytes the reference has there
abbrev pub reference : List ℕ → ℕ × ℕ
reference bytes =
    if begins_with (codes "lt;") bytes then (60, 3)
    else if begins_with (codes "gt;") bytes then (62, 3)
    else if begins_with (codes "amp;") bytes then (38, 4)
    else if begins_with (codes "quot;") bytes then (34, 5)
    else (38, 0)

-- what a reader of HTML takes a text for, behind so many bytes that were read before
abbrev pub read_behind : ℕ → List ℕ → List ℕ
read_behind n [] = []
read_behind (suc n) (b ∷ bytes) = read_behind n bytes
read_behind zero (b ∷ bytes) =
    if b == 38 then (reference bytes).0 ∷ read_behind ((reference bytes).1) bytes else b ∷ read_behind 0 bytes

abbrev pub read_text : List ℕ → List ℕ
read_text bytes = read_behind 0 bytes

-- no mark that ends a text or a value, or begins a tag
abbrev pub is_inside : ℕ → Bool
is_inside b = not (b == 60) && not (b == 62) && not (b == 34)

-- a text stays where it stands, and is read as it is shown
pub record IsSafe (bytes : List ℕ) : Type 0 where
  pub inside : list_all is_inside (escaped bytes) ≡ true
  pub read : read_text (escaped bytes) ≡ map shown_byte bytes

abbrev pub TextsAreSafe : Type 0
TextsAreSafe = (bytes : List ℕ) → IsSafe bytes

-- ---- the rows of a contract

-- how often a path stands among these
abbrev pub count_path : List PathStep → List (List PathStep) → ℕ
count_path p [] = 0
count_path p (q ∷ qs) = (if path_eq p q then 1 else 0) + count_path p qs

-- the branches of the payments but the row's own
abbrev pub paid_paths : List PathStep → List Payment → List (List PathStep)
paid_paths path [] = []
paid_paths path (p ∷ ps) = if path_eq p.path path then paid_paths path ps else p.path ∷ paid_paths path ps

-- the branches that rows show, each by a row or by a payment
abbrev pub shown_paths : List WayRow → List (List PathStep)
shown_paths [] = []
shown_paths (Choice depth share ∷ rows) = shown_paths rows
shown_paths (Way path depth share conditions payments ∷ rows) = path ∷ (paid_paths path payments ++ shown_paths rows)

-- each branch of the contract is shown as often as it stands in it, which is once
abbrev pub RowsShowBranches : Type 0
RowsShowBranches =
    (a : Advert) (p : List PathStep) → count_path p (shown_paths (way_rows a)) ≡ count_path p (branch_paths a.root)

-- ---- the rows of a run

-- the rows hold the events from number n on, each once
abbrev pub HoldFrom : ℕ → List Fold → Type 0
HoldFrom n [] = Unit {0}
HoldFrom n (f ∷ fs) = (f.first ≡ n) × (f.first ≤ f.last) × HoldFrom (f.last + 1) fs

-- they hold events from number n on, each once at most
abbrev pub RisesFrom : ℕ → List Fold → Type 0
RisesFrom n [] = Unit {0}
RisesFrom n (f ∷ fs) = (n ≤ f.first) × (f.first ≤ f.last) × RisesFrom (f.last + 1) fs

-- the rows that aren't refused
abbrev pub others_of : List Fold → List Fold
others_of [] = []
others_of (f ∷ fs) = if is_refusal (fold_look f) then others_of fs else (f ∷ others_of fs)

-- the folds of a run hold all its events, each once; those that are shown hold each once at most, and are at most so many
pub record RowsHoldEvents (m : Moment) (ts : List Turn) : Type 0 where
  pub each : HoldFrom 1 (folded m ts)
  pub all : held_in (folded m ts) ≡ length ts
  pub rising : RisesFrom 1 (shown_folds (folded m ts))
  pub few : length (shown_folds (folded m ts)) ≤ most_rows
  pub counted : held_in (shown_folds (folded m ts)) ≤ length ts
  -- the refused ones go first
  pub kept : length (others_of (folded m ts)) ≤ most_rows → others_of (shown_folds (folded m ts)) ≡ others_of (folded m ts)

abbrev pub AllRowsHoldEvents : Type 0
AllRowsHoldEvents = (m : Moment) (ts : List Turn) → RowsHoldEvents m ts

-- ---- sums

abbrev pub all_of_it : Money → ℕ
all_of_it m = sum_by (λ v. v) m.parties + m.contracts + m.elsewhere + m.fees

-- where parties differ, and no more is there than was, all sums together are what was
abbrev pub MoneyIsWhole : Type 0
MoneyIsWhole =
    (parties : List (List ℕ)) (total : ℕ) (g : Configuration) → are_different parties ≡ true
    → all_deposits g + all_contracts g ≤ total → all_of_it (money_of parties total g) ≡ total

-- in a run of checked contracts all sums of each row together are the header's deposits
abbrev pub RowsAreWhole : Type 0
RowsAreWhole =
    (s : Setup) (es : List Event) → IsRun s es → AllByRecursion (λ st. all_of_it st.row.money ≡ all_money s) (stops s es)
