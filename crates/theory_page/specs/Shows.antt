-- What the rows of a run show: the look of each part of a contract, and what was left.
use Rattle.std.specs.Prelude.{◌≡◌, ℕ, ◌+◌, take, List, [], ◌∷◌, length}
use Rattle.std.specs.List.{AllByRecursion}
use Rattle.spec_terms.specs.Advert.{Advert}
use Rattle.spec_tool.specs.declared.which.Which.TheVariants.{Init, At}
use Rattle.spec_run.specs.declared.event.Event.{Event}
use Rattle.spec_run.specs.Setup.{Setup}
use Rattle.spec_run.specs.Translation.{Turn}
use Rattle.spec_page.specs.declared.status.Status.{Status}
use Rattle.spec_page.specs.declared.way_row.Condition.{Condition}
use Rattle.spec_page.specs.declared.way_row.Payment.{Payment}
use Rattle.spec_page.specs.declared.way_row.WayRow.{WayRow}
use Rattle.spec_page.specs.declared.way_row.WayRow.TheVariants.{Choice, Way}
use Rattle.spec_page.specs.Ways.{way_rows}
use Rattle.spec_page.specs.Moments.{Moment, Move, move}
use Rattle.spec_page.specs.Statuses.{move_status, condition_status}
use Rattle.spec_page.specs.Timeline.{look_in}
use Rattle.spec_page.specs.Picture.{sheet}
use Rattle.spec_page.specs.ContractPart.{row_size, sheet_size}
use Rattle.spec_page.specs.Folds.{folded}
use Rattle.spec_page.specs.Stops.{last_moment, stops}

-- ---- looks

-- parts from number n on of the looks behind a row are these conditions as they stand at this moment
abbrev pub ShowConditions : List Status → Moment → Advert → Move → ℕ → List Condition → Type 0
ShowConditions looks m a x n [] = Unit {0}
ShowConditions looks m a x n (c ∷ cs) = (look_in n looks ≡ condition_status m a x c) × ShowConditions looks m a x (n + 1) cs

-- these payments of contract k
abbrev pub ShowPayments : List Status → Moment → ℕ → ℕ → List Payment → Type 0
ShowPayments looks m k n [] = Unit {0}
ShowPayments looks m k n (p ∷ ps) = (look_in n looks ≡ move_status m (move k (At p.path))) × ShowPayments looks m k (n + 1) ps

-- a branch, its conditions and its payments
abbrev pub ShowRow : List Status → Moment → ℕ → Advert → ℕ → WayRow → Type 0
ShowRow looks m k a n (Choice depth share) = Unit {0}
ShowRow looks m k a n (Way path depth share conditions payments) =
    (look_in n looks ≡ move_status m (move k (At path)))
    × ShowConditions looks m a (move k (At path)) (n + 1) conditions
    × ShowPayments looks m k (n + 1 + length conditions) payments

-- rows, numbered as a page numbers them
abbrev pub ShowRows : List Status → Moment → ℕ → Advert → ℕ → List WayRow → Type 0
ShowRows looks m k a n [] = Unit {0}
ShowRows looks m k a n (r ∷ rs) = ShowRow looks m k a n r × ShowRows looks m k a (n + row_size r) rs

-- the contracts from number k on
abbrev pub ShowContracts : List Status → Moment → ℕ → ℕ → List Advert → Type 0
ShowContracts looks m k n [] = Unit {0}
ShowContracts looks m k n (a ∷ as') =
    (look_in n looks ≡ move_status m (move k Init))
    × ShowRows looks m k a (n + 1) (way_rows a)
    × ShowContracts looks m (k + 1) (n + sheet_size (sheet a)) as'

-- in every row each part of a contract has the look that it has at the row's moment, by the number at which a page looks it up
abbrev pub RowsShowLooks : Type 0
RowsShowLooks =
    (s : Setup) (es : List Event) → AllByRecursion (λ st. ShowContracts st.row.looks st.moment 0 0 s.contracts) (stops s es)

-- ---- moments

-- each row's moment is what its events left, from this moment on
abbrev pub FoldsHaveMoments : Type 0
FoldsHaveMoments =
    (m : Moment) (ts : List Turn) → AllByRecursion (λ f. f.moment ≡ last_moment m (take f.last ts)) (folded m ts)
