-- Secrets that come to be shown, and the steps that reveal them.
use Rattle.std.proofs.Common.{◌≡◌, ℕ, List, [], ◌∷◌, ◌++◌, map, Bool, true, false, not, Option, Some, None, refl, sym, ap, ◌∙◌, arith, append_assoc, append-nil}
use Rattle.std.specs.Prelude.{◌==◌, ◌&&◌, ◌||◌, is_some}
use Rattle.std.specs.List.{filter, list_all}
use Rattle.std.specs.Str.{bytes_eq}
use Rattle.std.proofs.lemmas.Bool.{and_parts, and_from, or_parts, or_from, eqb-true, eq-eqb, not-true, not_from_false, false_from_ne_true, both_ways}
use Rattle.spec_calculus.specs.declared.parts.Revealed.{Revealed}
use Rattle.spec_calculus.specs.Configuration.{Configuration}
use Rattle.spec_calculus.specs.Branches.{length_at, is_known, is_revealed}
use Rattle.spec_calculus.specs.Steps.{effect, after_steps, Legal}
use Rattle.spec_run.specs.Steps.{reveal_step}
use Rattle.theory_calculus.proofs.Names.{bytes-true, bytes_refl}
use Rattle.theory_world.proofs.Tests.{any-append}
use Rattle.theory_run.proofs.Steps.Legal.{passes}
use Rattle.theory_run.specs.KeptSecrets.{has_secret}

-- ---- secrets

abbrev pub same_secret : Revealed → Revealed → Bool
same_secret r x = (r.contract == x.contract) && bytes_eq r.party x.party && bytes_eq r.secret x.secret

abbrev pub different_secrets : List Revealed → Bool
different_secrets [] = true
different_secrets (x ∷ xs) = not (has_secret x xs) && different_secrets xs

pub secret-true : (r x : Revealed) → same_secret r x ≡ true → r ≡ x
secret-true r x h =
    let a = and_parts ((r.contract == x.contract) && bytes_eq r.party x.party) (bytes_eq r.secret x.secret) h in
    let b = and_parts (r.contract == x.contract) (bytes_eq r.party x.party) a.0 in
    let e = eqb-true r.contract x.contract b.0 in
    let f = bytes-true r.party x.party b.1 in
    let g = bytes-true r.secret x.secret a.1 in
    λ i. record { contract = e i; party = f i; secret = g i }

pub secret_refl : (x : Revealed) → same_secret x x ≡ true
secret_refl x = and_from _ _ (and_from _ _ (eq-eqb x.contract x.contract refl) (bytes_refl x.party)) (bytes_refl x.secret)

-- two secrets are the same either way
secret_sym : (r x : Revealed) → same_secret r x ≡ false → same_secret x r ≡ false
secret_sym r x h = false_from_ne_true _ (λ t. let e = secret-true x r t in both_ways _ h (rw e (secret_refl r)))

pub has_secret-append : (x : Revealed) (xs ys : List Revealed) → has_secret x (xs ++ ys) ≡ (has_secret x xs || has_secret x ys)
has_secret-append x xs ys = any-append (λ r. same_secret r x) xs ys

module _ (p : Revealed → Bool) where
  filter-out : (x : Revealed) (ys : List Revealed) → p x ≡ false → has_secret x (filter p ys) ≡ false
  filter-out x [] h = refl
  filter-out x (y ∷ ys) h =
      let e : same_secret y x ≡ true → p y ≡ p x = λ k. ap p (secret-true y x k) in
      grind (arith, e, filter-out x ys h)

  filter-in : (x : Revealed) (ys : List Revealed) → p x ≡ true → has_secret x (filter p ys) ≡ has_secret x ys
  filter-in x [] h = refl
  filter-in x (y ∷ ys) h =
      let e : same_secret y x ≡ true → p y ≡ p x = λ k. ap p (secret-true y x k) in
      grind (arith, e, filter-in x ys h)

  -- a member of the list is in the filter exactly where it passes
  pub filter-member : (x : Revealed) (ys : List Revealed) → (p x ≡ true → has_secret x ys ≡ true) → has_secret x (filter p ys) ≡ p x
  filter-member x ys h = by_test (p x) refl h
    where
      by_test : (b : Bool) → p x ≡ b → (b ≡ true → has_secret x ys ≡ true) → has_secret x (filter p ys) ≡ b
      by_test true e k = filter-in x ys e ∙ k refl
      by_test false e k = filter-out x ys e

  filter-less : (x : Revealed) (ys : List Revealed) → has_secret x ys ≡ false → has_secret x (filter p ys) ≡ false
  filter-less x [] h = refl
  filter-less x (y ∷ ys) h = grind (arith, filter-less x ys)

  pub different-filter : (ys : List Revealed) → different_secrets ys ≡ true → different_secrets (filter p ys) ≡ true
  different-filter [] h = refl
  different-filter (y ∷ ys) h = grind (arith, different-filter ys, filter-less y ys)

  pub all-filter : (q : Revealed → Bool) (ys : List Revealed) → ((x : Revealed) → p x ≡ true → q x ≡ true) → list_all q (filter p ys) ≡ true
  all-filter q [] h = refl
  all-filter q (y ∷ ys) h =
      let ih = all-filter q ys h in
      let here = h y in
      grind arith

-- ---- the steps

pub after-reveals : (xs : List Revealed) (g : Configuration) → after_steps g (map reveal_step xs) ≡ record g { revealed = g.revealed ++ xs }
after-reveals [] g = ap (λ rs. record g { revealed = rs }) (sym (append-nil g.revealed))
after-reveals (x ∷ xs) g = after-reveals xs (effect g (reveal_step x)) ∙ ap (λ rs. record g { revealed = rs }) (append_assoc g.revealed (x ∷ []) xs)

known-is_some : (o : Option (Option ℕ)) → is_known o ≡ true → is_some o ≡ true
known-is_some None h = cc
known-is_some (Some l) h = refl

-- those that come after x aren't x
still_hidden : (x : Revealed) (rs xs : List Revealed) → has_secret x xs ≡ false → list_all (λ y. not (has_secret y rs)) xs ≡ true
    → list_all (λ y. not (has_secret y (rs ++ x ∷ []))) xs ≡ true
still_hidden x rs [] h k = refl
still_hidden x rs (y ∷ xs) h k =
    let e = has_secret-append y rs (x ∷ []) in
    let a = or_parts (same_secret y x) (has_secret x xs) h in
    let f = secret_sym y x a.0 in
    let b = and_parts (not (has_secret y rs)) (list_all (λ z. not (has_secret z rs)) xs) k in
    let ih = still_hidden x rs xs a.1 b.1 in
    let c = not-true (has_secret y rs) b.0 in
    and_from _ _ (not_from_false _ (e ∙ or_from _ _ c (or_from _ false f refl))) ih

-- whether a secret's length is committed and known
abbrev pub is_known_in : Configuration → Revealed → Bool
is_known_in g x = is_known (length_at g.committed x.contract x.party x.secret)

pub legal_reveals : (xs : List Revealed) (g : Configuration) → list_all (is_known_in g) xs ≡ true
    → list_all (λ x. not (has_secret x g.revealed)) xs ≡ true → different_secrets xs ≡ true → Legal g (map reveal_step xs)
legal_reveals [] g known hidden apart = tt
legal_reveals (x ∷ xs) g known hidden apart =
    let k = and_parts (is_known_in g x) (list_all (is_known_in g) xs) known in
    let h = and_parts (not (has_secret x g.revealed)) (list_all (λ y. not (has_secret y g.revealed)) xs) hidden in
    let d = and_parts (not (has_secret x xs)) (different_secrets xs) apart in (
      passes g (reveal_step x) (known-is_some (length_at g.committed x.contract x.party x.secret) k.0, (k.0, (h.0, tt))),
      legal_reveals xs (effect g (reveal_step x)) k.1 (still_hidden x g.revealed xs (not-true _ d.0) h.1) d.1,
    )
