-- A language says which lists are texts of which values: what was taken from the prefix, a text behind another, a value with no text.
use Rattle.std.proofs.Common.{◌≡◌, List, [], ◌∷◌, ◌++◌, refl, sym, inl, inr, ◌⊎◌, ℕ, zero, suc, ◌<◌, ◌≤◌, length, take, ap, arith}

-- a text was taken from the prefix
pub record Taken {X A : Type 0} (L : List X → A → Type 0) (whole : List X) (a : A) (rest : List X) : Type 0 where
  pub text : List X
  pub parts : whole ≡ text ++ rest
  pub spelled : L text a

pub record Some_text {X A : Type 0} (L : List X → A → Type 0) : Type 0 where
  pub text : List X
  pub value : A
  pub spelled : L text value

-- a text of the first language, and one of the second behind it
pub record Seq {X A C : Type 0} (F : List X → A → Type 0) (K : A → List X → C → Type 0) (text : List X) (c : C) : Type 0 where
  pub first : List X
  pub second : List X
  pub value : A
  pub parts : text ≡ first ++ second
  pub prefix : F first value
  pub back : K value second c

-- a value with no text
pub record Nothing {X A : Type 0} (a : A) (text : List X) (b : A) : Type 0 where
  pub empty : text ≡ []
  pub same : a ≡ b

-- of two ways to cut a list one goes further
pub cuts : {X : Type 0} (a b c d : List X) → a ++ b ≡ c ++ d
    → ((m : List X) × (a ≡ c ++ m) × (d ≡ m ++ b)) ⊎ ((m : List X) × (c ≡ a ++ m) × (b ≡ m ++ d))
cuts a b [] d e = inl (a, refl, sym e)
cuts [] b (y ∷ c) d e = inr (y ∷ c, refl, e)
cuts (x ∷ a) b (y ∷ c) d e =
    let heads : x ≡ y = cc in
    let tails : a ++ b ≡ c ++ d = cc in
    elim (cuts a b c d tails) [
      | inl w ↦ inl (w.0, cc, w.2)
      | inr w ↦ inr (w.0, cc, w.2)
    ]

-- a longer prefix goes past the next item
pub longer : {X : Type 0} (prefix rest : List X) (q : ℕ) → length prefix < q → q ≤ length (prefix ++ rest)
    → (c : X) × (after : List X) × (within : List X) × (rest ≡ c ∷ after) × (take q (prefix ++ rest) ≡ prefix ++ c ∷ within)
longer [] [] q lt le = absurd (omega arith)
longer [] (c ∷ after) zero lt le = absurd (omega arith)
longer [] (c ∷ after) (suc q) lt le = (c, after, take q after, refl, refl)
longer {X} (x ∷ prefix) rest zero lt le = absurd (omega arith)
longer {X} (x ∷ prefix) rest (suc q) lt le =
    let w = longer prefix rest q (omega arith) (omega arith) in
    (w.0, w.1, w.2, w.3, ap (λ (l : List X). x ∷ l) w.4)
