-- Options that are taken apart step by step.
use Rattle.std.proofs.Common.{◌≡◌, List, ◌∷◌, Bool, true, false, Option, Some, None, refl, sym, subst}
use Rattle.std.specs.List.{AllByRecursion}
use Rattle.spec_data.specs.Digits.{onto}
use Rattle.spec_text.specs.Words.{◌>>=◌, given}

abbrev pub some : {A : Type 0} → A → Option A
some x = Some x

pub some_is : {A : Type 0} (x y : A) → some x ≡ some y → x ≡ y
some_is x y h = cc

pub none_some : {A : Type 0} (x : A) → None ≡ some x → ⊥
none_some x h = cc

-- what came before a value
pub record Came {A B : Type 0} (m : Option A) (f : A → Option B) (y : B) : Type 0 where
  pub first : A
  pub is : m ≡ some first
  pub then' : f first ≡ some y

pub came : {A B : Type 0} (m : Option A) (f : A → Option B) (y : B) → (m >>= f) ≡ some y → Came m f y
came None f y h = absurd (none_some y h)
came (Some x) f y h = record { first = x; is = refl; then' = h }

-- what holds of each element holds of all
pub onto_all : {A : Type 0} (P : A → Type 0) (x : Option A) (xs : Option (List A)) (ys : List A) → onto x xs ≡ some ys
    → ((a : A) → x ≡ some a → P a) → ((as' : List A) → xs ≡ some as' → AllByRecursion P as') → AllByRecursion P ys
onto_all P (Some a) (Some as') ys h f g = subst (AllByRecursion P) (some_is (a ∷ as') ys h) (f a refl, g as' refl)
onto_all P (Some a) None ys h f g = absurd (none_some ys h)
onto_all P None xs ys h f g = absurd (none_some ys h)

-- the first and the others of a list that came
pub record Onto {A : Type 0} (x : Option A) (xs : Option (List A)) (ys : List A) : Type 0 where
  pub first : A
  pub others : List A
  pub is : x ≡ some first
  pub are : xs ≡ some others
  pub all : ys ≡ first ∷ others

pub onto_is : {A : Type 0} (x : Option A) (xs : Option (List A)) (ys : List A) → onto x xs ≡ some ys → Onto x xs ys
onto_is (Some a) (Some as') ys h = record { first = a; others = as'; is = refl; are = refl; all = sym (some_is (a ∷ as') ys h) }
onto_is (Some a) None ys h = absurd (none_some ys h)
onto_is None xs ys h = absurd (none_some ys h)

-- a value that is given where a test holds
pub record Given {A : Type 0} (t : Bool) (x y : A) : Type 0 where
  pub holds : t ≡ true
  pub same : x ≡ y

pub given_is : {A : Type 0} (t : Bool) (x y : A) → given t x ≡ some y → Given t x y
given_is true x y h = record { holds = refl; same = some_is x y h }
given_is false x y h = absurd (none_some y h)
