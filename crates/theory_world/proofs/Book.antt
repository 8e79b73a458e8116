-- The book of signatures, and keys of labels.
use Rattle.std.proofs.Common.{◌≡◌, ℕ, List, [], ◌∷◌, ◌++◌, Bool, true, false, refl, sym, ◌∙◌, subst, inl, inr}
use Rattle.std.specs.Prelude.{◌&&◌, ◌||◌, ◌⊎◌, if◌then◌else◌}
use Rattle.std.specs.Str.{bytes_eq}
use Rattle.std.proofs.lemmas.Bool.{and_parts, and_from, or_left, or_right, or_cases}
use Rattle.spec_data.specs.Lists.{is_among}
use Rattle.spec_bitcoin.specs.declared.label.Label.{Label}
use Rattle.spec_bitcoin.specs.Keys.{Pair, label_text, key_of, has_signed, is_valid, signature_of}
use Rattle.spec_run.specs.Signing.{signed, signed_all}
use Rattle.theory_calculus.proofs.Names.{bytes-true, bytes_refl}
use Rattle.theory_world.proofs.Tests.{any-append}
use Rattle.theory_world.specs.KeptApart.{NoCollision}

pub signed-append : (xs ys : List Pair) (k d : List ℕ) → has_signed (xs ++ ys) k d ≡ (has_signed xs k d || has_signed ys k d)
signed-append xs ys k d = any-append (λ p. bytes_eq p.0 k && bytes_eq p.1 d) xs ys

one_more : (book : List Pair) (p : Pair) (k d : List ℕ) → has_signed book k d ≡ true → has_signed (signed book p) k d ≡ true
one_more book p k d h = by_test (has_signed book (p.0) (p.1))
  where
    by_test : (b : Bool) → has_signed (if b then book else book ++ p ∷ []) k d ≡ true
    by_test true = h
    by_test false = signed-append book (p ∷ []) k d ∙ or_left _ _ h

one_new : (book : List Pair) (p : Pair) → has_signed (signed book p) (p.0) (p.1) ≡ true
one_new book p = by_test (has_signed book (p.0) (p.1)) refl
  where
    by_test : (b : Bool) → has_signed book (p.0) (p.1) ≡ b → has_signed (if b then book else book ++ p ∷ []) (p.0) (p.1) ≡ true
    by_test true e = e
    by_test false e =
        signed-append book (p ∷ []) (p.0) (p.1) ∙ or_right (has_signed book (p.0) (p.1)) _ (or_left _ _ (and_from _ _ (bytes_refl (p.0)) (bytes_refl (p.1))))

one_back : (book : List Pair) (p : Pair) (k d : List ℕ) → has_signed (signed book p) k d ≡ true
    → (has_signed book k d ≡ true) ⊎ (has_signed (p ∷ []) k d ≡ true)
one_back book p k d h = by_test (has_signed book (p.0) (p.1)) h
  where
    by_test : (b : Bool) → has_signed (if b then book else book ++ p ∷ []) k d ≡ true → (has_signed book k d ≡ true) ⊎ (has_signed (p ∷ []) k d ≡ true)
    by_test true q = inl q
    by_test false q = or_cases _ _ (sym (signed-append book (p ∷ []) k d) ∙ q)

-- what is signed stays
pub signed_more : (book ps : List Pair) (k d : List ℕ) → has_signed book k d ≡ true → has_signed (signed_all book ps) k d ≡ true
signed_more book [] k d h = h
signed_more book (p ∷ ps) k d h = signed_more (signed book p) ps k d (one_more book p k d h)

-- and comes from the book before or from the new pairs
pub signed_back : (book ps : List Pair) (k d : List ℕ) → has_signed (signed_all book ps) k d ≡ true → (has_signed book k d ≡ true) ⊎ (has_signed ps k d ≡ true)
signed_back book [] k d h = inl h
signed_back book (p ∷ ps) k d h = elim (signed_back (signed book p) ps k d h) [
  | inl a ↦ elim (one_back book p k d a) [
    | inl x ↦ inl x
    | inr y ↦ inr (elim (or_cases (bytes_eq p.0 k && bytes_eq p.1 d) false y) [ inl u ↦ or_left _ _ u | inr v ↦ cc ])
  ]
  | inr b ↦ inr (or_right (bytes_eq p.0 k && bytes_eq p.1 d) _ b)
]

pub signed_new : (book ps : List Pair) (k d : List ℕ) → has_signed ps k d ≡ true → has_signed (signed_all book ps) k d ≡ true
signed_new book [] k d h = cc
signed_new book (p ∷ ps) k d h = elim (or_cases (bytes_eq p.0 k && bytes_eq p.1 d) (has_signed ps k d) h) [
  | inl a ↦
      let q = and_parts (bytes_eq p.0 k) (bytes_eq p.1 d) a in
      let x = bytes-true p.0 k q.0 in
      let y = bytes-true p.1 d q.1 in
      signed_more (signed book p) ps k d (subst (λ v. has_signed (signed book p) k v ≡ true) y
      (subst (λ v. has_signed (signed book p) v (p.1) ≡ true) x (one_new book p)))
  | inr b ↦ signed_new (signed book p) ps k d b
]

-- a valid signature's pair stands in the book
pub valid_signed : (book : List Pair) (digest signature key : List ℕ) → is_valid book digest signature key ≡ true → has_signed book key digest ≡ true
valid_signed book digest signature key h = (and_parts (bytes_eq signature (signature_of key digest)) (has_signed book key digest) h).1

-- keys are told apart by the texts of their labels
pub key-apart : (hash : List ℕ → List ℕ) (hs : List (List ℕ)) (l m : Label) → NoCollision hash hs → is_among (label_text l) hs ≡ true
    → is_among (label_text m) hs ≡ true → key_of hash l ≡ key_of hash m → label_text l ≡ label_text m
key-apart hash hs l m clear hl hm e =
    let f : hash (label_text l) ≡ hash (label_text m) = cc in
    clear.one (label_text l) (label_text m) hl hm f
