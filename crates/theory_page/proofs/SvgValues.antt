-- Rows of an SVG, worked out by hand: which part has which status, and what a predicate and a deposit look like.
use Rattle.std.proofs.Common.{◌≡◌, [], ◌∷◌, true, false, Some, None, refl}
use Rattle.std.specs.Prelude.{codes}
use Rattle.std.specs.Fmt.{digits}
use Rattle.spec_terms.specs.declared.path.PathStep.TheVariants.{Branch as To, Part as Into}
use Rattle.spec_page.specs.declared.status.Status.TheVariants.{Open, Offered, Taken, Met, Gone}
use Rattle.spec_page.specs.declared.way_row.Condition.TheVariants.{Block, Holds}
use Rattle.spec_page.specs.declared.way_row.WayRow.TheVariants.{Way}
use Rattle.spec_page.specs.declared.svg_row.Kind.TheVariants as kinds
use Rattle.spec_page.specs.SvgItems.{item, cell, grid_row}
use Rattle.spec_page.specs.SvgContract.{Ending, ending, row_grid, initial_grid}

-- of A, B and C: the initial transaction is part 0, the branch part 1, its conditions 2 and 3, its payments 4 and 5
abbrev scene : Ending
scene = ending (codes "A" ∷ codes "B" ∷ codes "C" ∷ []) true (Met ∷ Taken ∷ Met ∷ Open ∷ Gone ∷ Offered ∷ []) 2

branch_row : row_grid scene 1
    (Way (To 0 ∷ []) 1 (Some 1241)
    (Block 5 ∷ Holds (codes "|x| < |y|") ∷ [])
    (record { party = codes "C"; value = 7; path = To 0 ∷ Into 0 ∷ To 0 ∷ [] }
    ∷ record { party = codes "A"; value = 1234; path = To 0 ∷ Into 1 ∷ To 0 ∷ [] } ∷ []))
    ≡ grid_row (codes "way taken") (codes "way-2:r.0") 2 (item kinds.Path (Some Taken) (codes "2:r.0") ∷ [])
    (item kinds.Note None (codes "1,241:") ∷ item kinds.Chip (Some Met) (codes "block 5") ∷ item kinds.Chip (Some Open) (codes "if")
    ∷ item kinds.Word None (codes "|x|") ∷ item kinds.Word None (codes "<") ∷ item kinds.Word None (codes "|y|") ∷ [])
    (cell (item kinds.Sum (Some Offered) (codes "1,234") ∷ []) ∷ cell [] ∷ cell (item kinds.Sum (Some Gone) (codes "7") ∷ []) ∷ [])
unfolding digits
branch_row = refl

first_row : initial_grid scene 1
    (record { party = codes "B"; value = 100; volatile = false } ∷ record { party = codes "B"; value = 2000; volatile = true } ∷ [])
    ≡ grid_row (codes "way taken") (codes "way-2:init") 0 (item kinds.Path (Some Taken) (codes "2:init") ∷ [])
    (item kinds.Word None (codes "all") ∷ item kinds.Word None (codes "sign;") ∷ item kinds.Word None (codes "each")
    ∷ item kinds.Word None (codes "puts") ∷ item kinds.Word None (codes "in") ∷ [])
    (cell []
    ∷ cell (item kinds.Sum (Some Taken) (codes "100") ∷ item kinds.Note None (codes "2,000 if put") ∷ [])
    ∷ cell [] ∷ [])
unfolding digits
first_row = refl
