-- Whether all conditions hold, from either end.
use Rattle.std.proofs.Common.{◌≡◌, List, [], ◌∷◌, ◌++◌, Bool, true, false, ◌&&◌, refl, sym, ap, ◌∙◌}
use Rattle.std.specs.Prelude.{reverse}
use Rattle.std.specs.List.{list_all}
use Rattle.std.proofs.lemmas.List.{reverse-append}
use Rattle.bm_interp.specs.Resuming.{all_hold}

and_assoc : (a b c : Bool) → (a && b) && c ≡ a && (b && c)
and_assoc true b c = refl
and_assoc false b c = refl

and_comm : (a b : Bool) → a && b ≡ b && a
and_comm true true = refl
and_comm true false = refl
and_comm false true = refl
and_comm false false = refl

all_hold-push : (xs : List Bool) (x : Bool) → all_hold (xs ++ x ∷ []) ≡ x && all_hold xs
all_hold-push [] x = refl
all_hold-push (y ∷ ys) x =
    ap (λ b. y && b) (all_hold-push ys x) ∙ sym (and_assoc y x (all_hold ys)) ∙ ap (λ b. b && all_hold ys) (and_comm y x) ∙ and_assoc x y (all_hold ys)

pub all_hold-reverse : (xs : List Bool) → list_all (λ c. c) xs ≡ all_hold (reverse xs)
all_hold-reverse [] = refl
all_hold-reverse (x ∷ xs) = ap (λ b. x && b) (all_hold-reverse xs) ∙ sym (ap all_hold (reverse-append (x ∷ []) xs) ∙ all_hold-push (reverse xs) x)
