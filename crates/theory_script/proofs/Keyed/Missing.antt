-- No endorsement is missing exactly where a contract is endorsed, and what is found missing is the first that is.
use Rattle.std.proofs.Common.{◌≡◌, List, [], ◌∷◌, Bool, true, false, not, Some, refl, sym, ap, ◌∙◌, cond}
use Rattle.std.specs.Prelude.{◌&&◌}
use Rattle.std.specs.Option.{is_none}
use Rattle.std.proofs.lemmas.Bool.{and_from}
use Rattle.spec_bitcoin.specs.Keys.{Pair}
use Rattle.spec_compiler.specs.Keyed.Endorsements.{Need, needed, is_met, all_met, first_unmet}
use Rattle.theory_script.specs.Keyed.Endorsed.{IsFirstMissing, MissingIsFirst}

pub none_unmet : (book : List Pair) (required : List Need) → is_none (first_unmet book required) ≡ all_met book required
none_unmet book [] = refl
none_unmet book (n ∷ required) = by_test (is_met book n) (none_unmet book required)
  where
    by_test : (b : Bool) → is_none (first_unmet book required) ≡ all_met book required
        → is_none (cond (not b) (Some n) (first_unmet book required)) ≡ (b && all_met book required)
    by_test true ih = ih
    by_test false ih = refl

first_of : (book : List Pair) (required : List Need) (need : Need) → first_unmet book required ≡ Some need → IsFirstMissing book required need
first_of book [] need h = cc
first_of book (n ∷ required) need h = by_test (is_met book n) refl h (first_of book required need)
  where
    by_test : (b : Bool) → is_met book n ≡ b → cond (not b) (Some n) (first_unmet book required) ≡ Some need
        → (first_unmet book required ≡ Some need → IsFirstMissing book required need) → IsFirstMissing book (n ∷ required) need
    by_test true e q ih =
        let r = ih q in
        record { earlier = n ∷ r.earlier; later = r.later; stands = ap (λ xs. n ∷ xs) r.stands; missing = r.missing; met = and_from _ _ e r.met }
    by_test false e q ih =
        let z : n ≡ need = cc in
        record { earlier = []; later = required; stands = ap (λ x. x ∷ required) z; missing = ap (is_met book) (sym z) ∙ e; met = refl }

pub missing_is_first : MissingIsFirst
missing_is_first hash keys s book = record { none = none_unmet book (needed hash keys s); first = first_of book (needed hash keys s) }
