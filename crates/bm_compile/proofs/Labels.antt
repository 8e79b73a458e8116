-- A label that is made another party's, and then a third's.
use Rattle.std.proofs.Common.{◌≡◌, ℕ, List, refl}
use Rattle.spec_bitcoin.specs.declared.label.Label.{Label}
use Rattle.spec_bitcoin.specs.declared.label.Label.TheVariants.{Deposit, Branch}
use Rattle.bm_compile.specs.Keyed.Sources.{named_for}

pub named_again : (label : Label) (one other : List ℕ) → named_for (named_for label one) other ≡ named_for label other
named_again (Deposit party) one other = refl
named_again (Branch contract path party) one other = refl
