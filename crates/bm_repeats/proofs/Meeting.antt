-- A list is gone through, and each element is looked for among those before it.
use Rattle.std.proofs.Common.{◌≡◌, List, [], ◌∷◌, Bool, true, false, not, cond, ◌||◌, refl, sym, ap, ◌∙◌, subst}
use Rattle.std.specs.List.{list_any}
use Rattle.bm_repeats.specs.Repeats.{has_repeat}

-- nothing has been met
pub none_met : {T : Type 0} (met : T → Bool) → ((q : T) → met q ≡ false) → (xs : List T) → list_any met xs ≡ false
none_met met none [] = refl
none_met met none (x ∷ xs) = rw (none x) (none_met met none xs)

none_of : {T : Type 0} (test : T → Bool) (keys : List T) → keys ≡ [] → list_any test keys ≡ false
none_of test keys h = ap (list_any test) h

pub begun : {T : Type 0} (met : T → Bool) (eq : T → T → Bool) (xs : List T) → ((q : T) → met q ≡ false) → list_any met xs || has_repeat eq xs ≡ has_repeat eq xs
begun met eq xs none = rw (none_met met none xs) refl

pub begin : {T : Type 0} (test : T → T → Bool) (keys : List T) (eq : T → T → Bool) (xs : List T) → keys ≡ []
    → list_any (λ q. list_any (test q) keys) xs || has_repeat eq xs ≡ has_repeat eq xs
begin test keys eq xs h = begun (λ q. list_any (test q) keys) eq xs (λ q. none_of (test q) keys h)

shuffle : (e h a b : Bool) → cond e true h || (a || b) ≡ (h || a) || (e || b)
shuffle true true a b = refl
shuffle true false true b = refl
shuffle true false false b = refl
shuffle false true a b = refl
shuffle false false a b = refl

regroup : (a b c : Bool) → (a || b) || c ≡ a || (b || c)
regroup true b c = refl
regroup false b c = refl

-- one more has been met
met_more : {T : Type 0} (met next : T → Bool) (test : T → Bool) → ((q : T) → next q ≡ cond (test q) true (met q)) → (xs : List T)
    → list_any next xs ≡ list_any met xs || list_any test xs
met_more met next test more [] = refl
met_more met next test more (x ∷ xs) =
    ap (λ b. b || list_any next xs) (more x) ∙ ap (λ b. cond (test x) true (met x) || b) (met_more met next test more xs)
    ∙ shuffle (test x) (met x) (list_any met xs) (list_any test xs)

list_any-same : {T : Type 0} (f g : T → Bool) → ((x : T) → f x ≡ g x) → (xs : List T) → list_any f xs ≡ list_any g xs
list_any-same f g same [] = refl
list_any-same f g same (x ∷ xs) = rw (same x) (ap (λ b. g x || b) (list_any-same f g same xs))

pub unmet : (added met : Bool) → added ≡ not met → added ≡ true → met ≡ false
unmet added true is yields = let e = sym is ∙ yields in cc
unmet added false is yields = refl

-- the first of the rest hasn't been met before, and now it has
pub meet : {T : Type 0} (met next : T → Bool) (test : T → T → Bool) (eq : T → T → Bool) (x : T) (rest others : List T) (whole : Bool)
    → ((y : T) → test x y ≡ eq y x) → rest ≡ x ∷ others → met x ≡ false → ((q : T) → next q ≡ cond (test x q) true (met q))
    → list_any met rest || has_repeat eq rest ≡ whole → list_any next others || has_repeat eq others ≡ whole
meet met next test eq x rest others whole same split new more before =
    let all : list_any met (x ∷ others) || has_repeat eq (x ∷ others) ≡ whole = subst (λ l. list_any met l || has_repeat eq l ≡ whole) split before in
    let tail : list_any met others || has_repeat eq (x ∷ others) ≡ whole = ap (λ b. (b || list_any met others) || has_repeat eq (x ∷ others)) (sym new) ∙ all in
    ap (λ b. b || has_repeat eq others) (
    met_more met next (test x) more others
    ∙ ap (λ b. list_any met others || b) (list_any-same (test x) (λ y. eq y x) same others))
    ∙ regroup (list_any met others) (list_any (λ y. eq y x) others) (has_repeat eq others)
    ∙ tail
