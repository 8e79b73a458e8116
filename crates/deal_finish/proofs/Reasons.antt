-- Why a transaction isn't finished, one reason after another.
use Rattle.std.proofs.Common.{◌≡◌, ℕ, List, Bool, true, false, not, ◌&&◌, Option, Some, None, refl, ap}
use Rattle.std.proofs.Common.{if◌then◌else◌, length}
use Rattle.std.specs.Prelude.{◌||◌, ◌==◌, option_map}
use Rattle.spec_data.specs.Lists.{or_else}
use Rattle.spec_terms.specs.Term as term
use Rattle.spec_terms.specs.Core.{core, reveals_of, test_of}
use Rattle.spec_terms.specs.declared.path.PathStep.{PathStep}
use Rattle.spec_deal.specs.declared.entry.Shown.{Shown}
use Rattle.spec_deal.specs.declared.finish.FinishRefusal.{FinishRefusal}
use Rattle.spec_deal.specs.declared.finish.FinishRefusal.TheVariants as refusals
use Rattle.spec_deal.specs.Slots.{Slot}
use Rattle.spec_deal.specs.Finished.{label_party, which_path, unendorsed_refusal, predicate_holds, predicate_refusal}
use Rattle.deal_finish.specs.Filled.{fits_by}
use Rattle.deal_finish.specs.Finishes.{Refuses}
use Rattle.deal_finish.specs.declared.error.FinishError.{FinishError}
use Rattle.deal_finish.specs.declared.error.FinishError.TheVariants as finishes

pub then_other : (a b : Option FinishRefusal) → a ≡ None → or_else a b ≡ b
then_other a b e = ap (λ o. or_else o b) e

pub first_refuses : (e : FinishError) (a b : Option FinishRefusal) → Refuses e a → Refuses e (or_else a b)
first_refuses (finishes.Refused refusal) a b h = ap (λ o. or_else o b) h
first_refuses finishes.Memory a b h = tt

-- ---- endorsements

abbrev path_and_party : Slot → List PathStep × List ℕ
path_and_party slot = (which_path slot.which, label_party slot.label)

pub endorsement_is : (o : Option Slot) → option_map unendorsed_refusal o
    ≡ option_map (λ (p : List PathStep × List ℕ). refusals.Endorsement (p.0) (p.1)) (option_map path_and_party o)
endorsement_is None = refl
endorsement_is (Some slot) = refl

-- ---- the predicate

pub predicate_is : (strings : List Shown) (b : term.Guarded) → predicate_refusal strings (Some b)
    ≡ (if fits_by strings (reveals_of (core b)) (test_of (core b)) then None else Some refusals.Predicate)
predicate_is strings b = by_tests (length (reveals_of (core b)) == 0) (predicate_holds strings b)
  where
    by_tests : (none holds : Bool) → (if not none && not holds then Some refusals.Predicate else None)
        ≡ (if none || holds then None else Some refusals.Predicate)
    by_tests true holds = refl
    by_tests false true = refl
    by_tests false false = refl
