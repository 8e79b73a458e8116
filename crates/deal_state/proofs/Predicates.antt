-- Whether a predicate is false of the secrets that its branch reveals.
use Rattle.std.proofs.Common.{◌≡◌, ℕ, List, [], length, Bool, true, false, not, Some, refl}
use Rattle.std.specs.Prelude.{◌&&◌, ◌||◌, ◌==◌}
use Rattle.spec_terms.specs.Term as term
use Rattle.spec_terms.specs.Core.{core, reveals_of, test_of}
use Rattle.spec_deal.specs.declared.entry.Shown.{Shown}
use Rattle.spec_deal.specs.Finished.{predicate_holds}
use Rattle.spec_chain.specs.Outstanding.{is_false}
use Rattle.deal_finish.specs.Filled.{fits_by}

neither : (none holds all_known : Bool) → all_known ≡ true → not (none || holds) ≡ (not none && (all_known && not holds))
neither true holds all_known e = refl
neither false holds true e = refl
neither false holds false e = cc

-- where all of them are known
pub false_is : (strings : List Shown) (hidden : List (List ℕ)) (b : term.Guarded) → (length hidden == 0) ≡ true
    → not (fits_by strings (reveals_of (core b)) (test_of (core b))) ≡ is_false strings hidden (Some b)
false_is strings hidden b e =
    neither (length (reveals_of (core b)) == 0) (predicate_holds strings b) (length hidden == 0) e
