-- Full witnesses next to those of the least and of the greatest weight.
use Rattle.std.proofs.Common.{◌≡◌, ℕ, zero, suc, ◌+◌, ◌≤◌, List, [], ◌∷◌, length, reverse, replicate, refl, sym, ap, ◌∙◌, subst, arith}
use Rattle.std.specs.List.{AllByRecursion}
use Rattle.std.proofs.lemmas.List.{length-replicate}
use Rattle.spec_data.specs.Ranges.{least_secret_bytes, most_item_bytes}
use Rattle.spec_terms.specs.Advert.{Advert}
use Rattle.spec_terms.specs.Parties.{participants}
use Rattle.spec_terms.specs.declared.path.PathStep.{PathStep}
use Rattle.spec_compiler.specs.declared.unsigned.Spent.{Spent}
use Rattle.spec_compiler.specs.declared.unsigned.Unsigned.{Unsigned}
use Rattle.spec_compiler.specs.Witness.{witness_of, selectors}
use Rattle.spec_tool.specs.Weights.{signature_size, any_signature, any_signatures, any_secrets, any_full, deposits_full, branch_full, reveal_count}
use Rattle.spec_tool.specs.Weights.{last_branch, choices_at, IsSignature, IsSecret, IsInitialFull, IsPathFull}
use Rattle.theory_weights.proofs.NoLonger.{NoLonger, AllNoLonger, no_longer_same, no_longer_append, no_longer_reversed, no_longer_sized}
use Rattle.theory_weights.proofs.NoLonger.{each_replicated, each_weaker}

-- ---- signatures

pub any_are_signatures : (n : ℕ) → AllByRecursion IsSignature (any_signatures n)
any_are_signatures n = each_replicated IsSignature n any_signature refl

pub any_count : (n : ℕ) → length (any_signatures n) ≡ n
any_count n = length-replicate n any_signature

-- signatures all have one size
signatures_alike : (xs ys : List (List ℕ)) → AllByRecursion IsSignature xs → AllByRecursion IsSignature ys → length xs ≡ length ys
    → NoLonger xs ys
signatures_alike xs ys a b c =
    no_longer_sized signature_size xs ys (each_weaker IsSignature (λ x. length x ≤ signature_size) (λ x h. omega (arith, h)) xs a)
    (each_weaker IsSignature (λ y. signature_size ≤ length y) (λ y h. omega (arith, h)) ys b) c

pub deposits_alike : (xs ys : List (List ℕ)) (spends : List Spent) → AllByRecursion IsSignature xs → AllByRecursion IsSignature ys
    → length spends ≤ length xs → length spends ≤ length ys → AllNoLonger (deposits_full xs spends) (deposits_full ys spends)
deposits_alike [] [] [] a b c d = tt
deposits_alike [] (y ∷ ys) [] a b c d = tt
deposits_alike (x ∷ xs) [] [] a b c d = tt
deposits_alike (x ∷ xs) (y ∷ ys) [] a b c d = tt
deposits_alike [] ys (z ∷ spends) a b c d = let bad : ⊥ = omega (arith, c) in absurd bad
deposits_alike (x ∷ xs) [] (z ∷ spends) a b c d = let bad : ⊥ = omega (arith, d) in absurd bad
deposits_alike (x ∷ xs) (y ∷ ys) (z ∷ spends) a b c d =
    let e = a.0 in
    let f = b.0 in
    ((omega (arith, e, f), (omega arith, tt)), deposits_alike xs ys spends a.1 b.1 (omega (arith, c)) (omega (arith, d)))

-- ---- secrets

-- a secret of no bytes but 0
abbrev pub blank : ℕ → List ℕ
blank size = replicate size 0

pub secrets_of : (n size : ℕ) → AllByRecursion (λ x. length x ≡ size) (replicate n (blank size))
secrets_of n size = each_replicated (λ x. length x ≡ size) n (blank size) (length-replicate {A = ℕ} size 0)

pub secrets_count : (n size : ℕ) → length (replicate n (blank size)) ≡ n
secrets_count n size = length-replicate n (blank size)

pub no_longer_than : (n size : ℕ) (ys : List (List ℕ)) → AllByRecursion (λ y. size ≤ length y) ys → length ys ≡ n
    → NoLonger (replicate n (blank size)) ys
no_longer_than n size ys h c =
    no_longer_sized size (replicate n (blank size)) ys
    (each_weaker (λ x. length x ≡ size) (λ x. length x ≤ size) (λ x e. omega (arith, e)) (replicate n (blank size)) (secrets_of n size)) h
    (secrets_count n size ∙ sym c)

pub no_shorter_than : (n size : ℕ) (xs : List (List ℕ)) → AllByRecursion (λ x. length x ≤ size) xs → length xs ≡ n
    → NoLonger xs (replicate n (blank size))
no_shorter_than n size xs h c =
    no_longer_sized size xs (replicate n (blank size)) h
    (each_weaker (λ x. length x ≡ size) (λ x. size ≤ length x) (λ x e. omega (arith, e)) (replicate n (blank size)) (secrets_of n size))
    (c ∙ sym (secrets_count n size))

-- secrets of this size are secrets
pub secrets_fit : (n size : ℕ) → least_secret_bytes ≤ size → size ≤ most_item_bytes → AllByRecursion IsSecret (replicate n (blank size))
secrets_fit n size l m =
    each_weaker (λ x. length x ≡ size) IsSecret (λ x e. record { long = omega (arith, e, l); short = omega (arith, e, m) })
    (replicate n (blank size)) (secrets_of n size)

-- ---- witnesses of a branch

witness_alike : (xs ys us vs : List (List ℕ)) (i n : ℕ) (script : List ℕ) → NoLonger xs ys → NoLonger us vs
    → NoLonger (witness_of xs us i n script) (witness_of ys vs i n script)
witness_alike xs ys us vs i n script h k =
    no_longer_append _ _ (script ∷ []) (script ∷ [])
    (no_longer_append (reverse xs) (reverse ys) _ _ (no_longer_reversed xs ys h)
    (no_longer_append (reverse us) (reverse vs) _ _ (no_longer_reversed us vs k) (no_longer_same (reverse (selectors i n)))))
    (no_longer_same (script ∷ []))

branch_alike : (advert : Advert) (path : List PathStep) (xs ys us vs os ps : List (List ℕ)) (spends : List Spent) → NoLonger xs ys → NoLonger us vs
    → AllByRecursion IsSignature os → AllByRecursion IsSignature ps → length spends ≤ length os + 1 → length spends ≤ length ps + 1
    → AllNoLonger (branch_full advert path xs us os spends) (branch_full advert path ys vs ps spends)
branch_alike advert path xs ys us vs os ps [] a u o p m n = tt
branch_alike advert path xs ys us vs os ps (x ∷ rest) a u o p m n = (
  witness_alike xs ys us vs (last_branch path) (choices_at advert path) x.script a u,
  deposits_alike os ps rest o p (omega (arith, m)) (omega (arith, n)),
)

module _ (advert : Advert) (path : List PathStep) (d : Unsigned) (witnesses : List (List (List ℕ))) (full : IsPathFull advert path d witnesses) where
  abbrev people : ℕ
  people = length (participants advert)

  abbrev all : ℕ
  all = length d.spends

  -- those with secrets of the least size are no longer
  pub least_no_longer : AllNoLonger (any_full advert path least_secret_bytes d) witnesses
  least_no_longer =
      let c = full.other_count in
      let e = any_count all in
      subst (λ ws. AllNoLonger (any_full advert path least_secret_bytes d) ws) (sym full.same)
      (branch_alike advert path (any_signatures people) full.signatures (any_secrets advert path least_secret_bytes) full.secrets
      (any_signatures all) full.others d.spends
      (signatures_alike (any_signatures people) full.signatures (any_are_signatures people) full.each_signature (any_count people ∙ sym full.signature_count))
      (no_longer_than (reveal_count advert path) least_secret_bytes full.secrets
      (each_weaker IsSecret (λ x. least_secret_bytes ≤ length x) (λ x h. h.long) full.secrets full.each_secret) full.secret_count)
      (any_are_signatures all) full.each_other (omega (arith, e)) (omega (arith, c)))

  -- and those with secrets of the greatest size are no shorter
  pub most_no_shorter : AllNoLonger witnesses (any_full advert path most_item_bytes d)
  most_no_shorter =
      let c = full.other_count in
      let e = any_count all in
      subst (λ ws. AllNoLonger ws (any_full advert path most_item_bytes d)) (sym full.same)
      (branch_alike advert path full.signatures (any_signatures people) full.secrets (any_secrets advert path most_item_bytes) full.others
      (any_signatures all) d.spends
      (signatures_alike full.signatures (any_signatures people) full.each_signature (any_are_signatures people) (full.signature_count ∙ sym (any_count people)))
      (no_shorter_than (reveal_count advert path) most_item_bytes full.secrets
      (each_weaker IsSecret (λ x. length x ≤ most_item_bytes) (λ x h. h.short) full.secrets full.each_secret) full.secret_count)
      full.each_other (any_are_signatures all) (omega (arith, c)) (omega (arith, e)))

-- full witnesses of an initial transaction are all alike
pub initial_alike : (d : Unsigned) (witnesses : List (List (List ℕ))) → IsInitialFull d witnesses
    → AllNoLonger (deposits_full (any_signatures (length d.spends)) d.spends) witnesses
    × AllNoLonger witnesses (deposits_full (any_signatures (length d.spends)) d.spends)
initial_alike d witnesses full =
    let any = any_signatures (length d.spends) in
    let c = full.count in
    let e = any_count (length d.spends) in (
      subst (λ ws. AllNoLonger (deposits_full any d.spends) ws) (sym full.same)
          (deposits_alike any full.signatures d.spends (any_are_signatures (length d.spends)) full.each (omega (arith, e)) (omega (arith, c))),
      subst (λ ws. AllNoLonger ws (deposits_full any d.spends)) (sym full.same)
          (deposits_alike full.signatures any d.spends full.each (any_are_signatures (length d.spends)) (omega (arith, c)) (omega (arith, e))),
    )

-- ---- what is reached

pub initial_any : (d : Unsigned) → IsInitialFull d (deposits_full (any_signatures (length d.spends)) d.spends)
initial_any d =
    record { signatures = any_signatures (length d.spends); each = any_are_signatures (length d.spends); count = any_count (length d.spends); same = refl }

-- a signature too many changes nothing
one_too_many : (x : List ℕ) (n : ℕ) (spends : List Spent) → length spends ≤ n
    → deposits_full (replicate (suc n) x) spends ≡ deposits_full (replicate n x) spends
one_too_many x n [] h = no_spends x n
  where
    no_spends : (x : List ℕ) (n : ℕ) → deposits_full (replicate (suc n) x) [] ≡ deposits_full (replicate n x) []
    no_spends x zero = refl
    no_spends x (suc n) = refl
one_too_many x zero (s ∷ spends) h = let bad : ⊥ = omega (arith, h) in absurd bad
one_too_many x (suc n) (s ∷ spends) h = ap (λ ws. (x ∷ (s.script ∷ [])) ∷ ws) (one_too_many x n spends (omega (arith, h)))

path_any_of : (advert : Advert) (path : List PathStep) (size : ℕ) (d : Unsigned) (x : Spent) (rest : List Spent) → d.spends ≡ x ∷ rest
    → least_secret_bytes ≤ size → size ≤ most_item_bytes → IsPathFull advert path d (any_full advert path size d)
path_any_of advert path size d x rest is l m =
    let n = length rest in
    let c = any_count n in
    let count : length d.spends ≡ suc n = ap length is in
    record {
      signatures = any_signatures (length (participants advert));
      secrets = any_secrets advert path size;
      others = any_signatures n;
      each_signature = any_are_signatures (length (participants advert));
      each_secret = secrets_fit (reveal_count advert path) size l m;
      each_other = any_are_signatures n;
      signature_count = any_count (length (participants advert));
      secret_count = secrets_count (reveal_count advert path) size;
      other_count = omega (arith, c, count);
      same =
          let f : ℕ → List Spent → List (List (List ℕ)) =
          λ k spends. branch_full advert path (any_signatures (length (participants advert))) (any_secrets advert path size) (any_signatures k) spends in
          let w = witness_of (any_signatures (length (participants advert))) (any_secrets advert path size) (last_branch path) (choices_at advert path) x.script in
          let a : f (length d.spends) d.spends ≡ f (suc n) (x ∷ rest) = λ j. f (count j) (is j) in
          let b : f (suc n) (x ∷ rest) ≡ f n (x ∷ rest) = ap (λ ws. w ∷ ws) (one_too_many any_signature n rest (omega arith)) in
          a ∙ b ∙ ap (f n) (sym is);
    }

-- a transaction that spends something has full witnesses with secrets of each size
pub path_any : (advert : Advert) (path : List PathStep) (size : ℕ) (d : Unsigned) → 1 ≤ length d.spends
    → least_secret_bytes ≤ size → size ≤ most_item_bytes → IsPathFull advert path d (any_full advert path size d)
path_any advert path size d some l m = by_spends d.spends refl some
  where
    by_spends : (spends : List Spent) → d.spends ≡ spends → 1 ≤ length spends → IsPathFull advert path d (any_full advert path size d)
    by_spends [] is h = let bad : ⊥ = omega (arith, h) in absurd bad
    by_spends (x ∷ rest) is h = path_any_of advert path size d x rest is l m
