-- Lists each of whose elements stands in a relation to all behind it: joined, mapped; in their own order, and each once.
use Rattle.std.proofs.Common.{◌≡◌, ℕ, List, [], ◌∷◌, ◌++◌, map, true, not, refl, sym, ap, subst, append_assoc, inl, inr}
use Rattle.std.proofs.lemmas.Bool.{and_parts}
use Rattle.spec_data.specs.Lists.{is_among, are_different}
use Rattle.theory_calculus.specs.Members.{Is_in}
use Rattle.theory_calculus.proofs.Members.{in_append}
use Rattle.theory_deal.specs.SigningOrder.{Precedes, IsAscending}
use Rattle.theory_chain.proofs.Deals.Whole.{among_in, from_map}

pub ascend_then : {X : Type 0} (R Q : X → X → Type 0) (xs : List X) → ((x y : X) → R x y → Q x y) → IsAscending R xs → IsAscending Q xs
ascend_then R Q [] f h = tt
ascend_then R Q (x ∷ xs) f h = (λ y i. f x y (h.0 y i), ascend_then R Q xs f h.1)

pub ascend_append : {X : Type 0} (R : X → X → Type 0) (xs ys : List X) → IsAscending R xs → IsAscending R ys
    → ((x y : X) → Is_in x xs → Is_in y ys → R x y) → IsAscending R (xs ++ ys)
ascend_append R [] ys h k across = k
ascend_append R (x ∷ xs) ys h k across = (
  λ y i. elim (in_append y xs ys i) [ inl a ↦ h.0 y a | inr b ↦ across x y (inl refl) b ],
  ascend_append R xs ys h.1 k (λ a b i j. across a b (inr i) j),
)

pub ascend_map : {X Y : Type 0} (R : Y → Y → Type 0) (f : X → Y) (xs : List X) → IsAscending (λ a b. R (f a) (f b)) xs
    → IsAscending R (map f xs)
ascend_map R f [] h = tt
ascend_map R f (x ∷ xs) h = (
  λ y i. let r = from_map f xs y i in subst (R (f x)) (sym r.2) (h.0 r.0 r.1),
  ascend_map R f xs h.1,
)

-- ---- what stands before what

pub in_split : {X : Type 0} (xs : List X) (y : X) → Is_in y xs → (prefix : List X) × (behind : List X) × (xs ≡ prefix ++ y ∷ behind)
in_split [] y h = absurd h
in_split (x ∷ xs) y (inl e) = ([], xs, ap (λ z. z ∷ xs) (sym e))
in_split (x ∷ xs) y (inr h) = let r = in_split xs y h in (x ∷ r.0, r.1, ap (λ zs. x ∷ zs) r.2)

standing_from : {X : Type 0} (prefix xs : List X) → IsAscending (Precedes (prefix ++ xs)) xs
standing_from prefix [] = tt
standing_from {X} prefix (x ∷ xs) = (
  λ y i.
      let r = in_split xs y i in
      record { prefix = prefix; between = r.0; behind = r.1; stands = ap (λ (zs : List X). prefix ++ x ∷ zs) r.2 },
  subst (λ (zs : List X). IsAscending (Precedes zs) xs) (append_assoc prefix (x ∷ []) xs) (standing_from (prefix ++ x ∷ []) xs),
)

-- each stands before all that stand behind it
pub standing : {X : Type 0} (xs : List X) → IsAscending (Precedes xs) xs
standing xs = standing_from [] xs

-- ---- lists without repetition

abbrev pub AreApart : {X : Type 0} → List X → Type 0
AreApart {X} xs = IsAscending (λ (a b : X). a ≡ b → ⊥) xs

pub names_apart : (names : List (List ℕ)) → are_different names ≡ true → AreApart names
names_apart [] h = tt
names_apart (n ∷ names) h =
    let q = and_parts (not (is_among n names)) (are_different names) h in (
      λ y i e. let k : is_among n names ≡ true = among_in n names (subst (λ z. Is_in z names) (sym e) i) in cc,
      names_apart names q.1,
    )
