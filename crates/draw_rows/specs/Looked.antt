-- The looks of all contracts, by a name for those of one that doesn't compute away.
use Rattle.std.specs.Prelude.{ℕ, ◌+◌, List, [], ◌∷◌, ◌++◌}
use Rattle.spec_terms.specs.Advert.{Advert}
use Rattle.spec_page.specs.declared.status.Status.{Status}
use Rattle.spec_page.specs.Moments.{Moment}
use Rattle.spec_page.specs.Statuses.{sheet_looks}

unfoldable pub looks_in : Moment → ℕ → Advert → List Status
looks_in m k a = sheet_looks m k a

abbrev pub all_looks : Moment → ℕ → List Advert → List Status
all_looks m k [] = []
all_looks m k (a ∷ as') = looks_in m k a ++ all_looks m (k + 1) as'
