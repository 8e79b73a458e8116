-- Lists each of whose elements stands in a relation to all behind it, and lists without repetition.
use Rattle.std.proofs.Common.{◌≡◌, ℕ, List, [], ◌∷◌, ◌++◌, map, Bool, true, false, not, refl, sym, ap, subst, inl, inr}
use Rattle.std.specs.Prelude.{◌||◌}
use Rattle.std.specs.List.{flat_map}
use Rattle.std.specs.Str.{bytes_eq}
use Rattle.std.proofs.lemmas.Bool.{and_parts}
use Rattle.spec_data.specs.Lists.{is_among, are_different}
use Rattle.spec_terms.specs.Paths.{path_eq}
use Rattle.spec_terms.specs.PathSameness.{path_eq-Decides}
use Rattle.spec_terms.specs.declared.path.PathStep.{PathStep}
use Rattle.theory_calculus.specs.Members.{Is_in}
use Rattle.theory_calculus.proofs.Members.{in_append}
use Rattle.theory_calculus.proofs.Names.{bytes_refl}
use Rattle.theory_script.specs.Keyed.Listed.{is_path_among, are_once}
use Rattle.theory_deal.specs.SigningOrder.{IsAscending}

-- ---- elements

pub in_map : {X Y : Type 0} (f : X → Y) (xs : List X) (y : Y) → Is_in y (map f xs) → (x : X) × Is_in x xs × (y ≡ f x)
in_map f [] y h = absurd h
in_map f (x ∷ xs) y (inl e) = (x, inl refl, e)
in_map f (x ∷ xs) y (inr h) = let r = in_map f xs y h in (r.0, inr r.1, r.2)

pub map_in : {X Y : Type 0} (f : X → Y) (xs : List X) (x : X) → Is_in x xs → Is_in (f x) (map f xs)
map_in f [] x h = absurd h
map_in f (y ∷ xs) x (inl e) = inl (ap f e)
map_in f (y ∷ xs) x (inr h) = inr (map_in f xs x h)

pub in_flat : {X Y : Type 0} (f : X → List Y) (xs : List X) (y : Y) → Is_in y (flat_map f xs) → (x : X) × Is_in x xs × Is_in y (f x)
in_flat f [] y h = absurd h
in_flat f (x ∷ xs) y h = elim (in_append y (f x) (flat_map f xs) h) [
  | inl a ↦ (x, inl refl, a)
  | inr b ↦ let r = in_flat f xs y b in (r.0, inr r.1, r.2)
]

in_among : (name : List ℕ) (ns : List (List ℕ)) → Is_in name ns → is_among name ns ≡ true
in_among name [] h = absurd h
in_among name (n ∷ ns) (inl e) =
    let same : bytes_eq n name ≡ true = subst (λ x. bytes_eq n x ≡ true) (sym e) (bytes_refl n) in
    ap (λ (b : Bool). b || is_among name ns) same
in_among name (n ∷ ns) (inr h) = by_test (bytes_eq n name) (in_among name ns h)
  where
    by_test : (b : Bool) → is_among name ns ≡ true → (b || is_among name ns) ≡ true
    by_test true k = refl
    by_test false k = k

-- ---- each before all behind it

pub ascend_then : {X : Type 0} (R Q : X → X → Type 0) (xs : List X) → ((x y : X) → R x y → Q x y) → IsAscending R xs → IsAscending Q xs
ascend_then R Q [] f h = tt
ascend_then R Q (x ∷ xs) f h = (λ y i. f x y (h.0 y i), ascend_then R Q xs f h.1)

pub ascend_append : {X : Type 0} (R : X → X → Type 0) (xs ys : List X) → IsAscending R xs → IsAscending R ys
    → ((x y : X) → Is_in x xs → Is_in y ys → R x y) → IsAscending R (xs ++ ys)
ascend_append R [] ys h k across = k
ascend_append R (x ∷ xs) ys h k across = (
  λ y i. elim (in_append y xs ys i) [ inl a ↦ h.0 y a | inr b ↦ across x y (inl refl) b ],
  ascend_append R xs ys h.1 k (λ a b i j. across a b (inr i) j),
)

pub ascend_map : {X Y : Type 0} (R : Y → Y → Type 0) (f : X → Y) (xs : List X) → IsAscending (λ a b. R (f a) (f b)) xs
    → IsAscending R (map f xs)
ascend_map R f [] h = tt
ascend_map R f (x ∷ xs) h = (
  λ y i. let r = in_map f xs y i in subst (R (f x)) (sym r.2) (h.0 r.0 r.1),
  ascend_map R f xs h.1,
)

pub ascend_back : {X Y : Type 0} (R : Y → Y → Type 0) (f : X → Y) (xs : List X) → IsAscending R (map f xs)
    → IsAscending (λ a b. R (f a) (f b)) xs
ascend_back R f [] h = tt
ascend_back R f (x ∷ xs) h = (λ y i. h.0 (f y) (map_in f xs y i), ascend_back R f xs h.1)

pub ascend_flat : {X Y : Type 0} (Q : X → X → Type 0) (R : Y → Y → Type 0) (f : X → List Y) (xs : List X) → IsAscending Q xs
    → ((x : X) → Is_in x xs → IsAscending R (f x)) → ((a b : X) (u v : Y) → Q a b → Is_in u (f a) → Is_in v (f b) → R u v)
    → IsAscending R (flat_map f xs)
ascend_flat Q R f [] h each across = tt
ascend_flat Q R f (x ∷ xs) h each across =
    ascend_append R (f x) (flat_map f xs) (each x (inl refl)) (ascend_flat Q R f xs h.1 (λ y i. each y (inr i)) across)
    (λ u v a b. let r = in_flat f xs v b in across x r.0 u v (h.0 r.0 r.1) a r.2)

-- ---- without repetition

abbrev pub AreApart : {X : Type 0} → List X → Type 0
AreApart {X} xs = IsAscending (λ (a b : X). a ≡ b → ⊥) xs

path_among : (path : List PathStep) (paths : List (List PathStep)) → Is_in path paths → is_path_among path paths ≡ true
path_among path [] h = absurd h
path_among path (p ∷ paths) (inl e) =
    ap (λ (b : Bool). b || is_path_among path paths) ((path_eq-Decides path p).1 e)
path_among path (p ∷ paths) (inr h) = by_test (path_eq path p) (path_among path paths h)
  where
    by_test : (b : Bool) → is_path_among path paths ≡ true → (b || is_path_among path paths) ≡ true
    by_test true k = refl
    by_test false k = k

pub paths_apart : (paths : List (List PathStep)) → are_once paths ≡ true → AreApart paths
paths_apart [] h = tt
paths_apart (p ∷ paths) h =
    let q = and_parts (not (is_path_among p paths)) (are_once paths) h in (
      λ y i e. let k : is_path_among p paths ≡ true = path_among p paths (subst (λ z. Is_in z paths) (sym e) i) in cc,
      paths_apart paths q.1,
    )

pub names_apart : (names : List (List ℕ)) → are_different names ≡ true → AreApart names
names_apart [] h = tt
names_apart (n ∷ names) h =
    let q = and_parts (not (is_among n names)) (are_different names) h in (
      λ y i e. let k : is_among n names ≡ true = in_among n names (subst (λ z. Is_in z names) (sym e) i) in cc,
      names_apart names q.1,
    )
