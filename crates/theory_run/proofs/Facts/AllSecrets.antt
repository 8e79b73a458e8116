-- The secrets of all contracts are different.
use Rattle.std.proofs.Common.{◌≡◌, ℕ, ◌+◌, ◌<◌, List, [], ◌∷◌, ◌++◌, map, true, false, not, refl, sym, ap, ◌∙◌, subst, arith, inl, inr}
use Rattle.std.specs.List.{AllByRecursion}
use Rattle.std.specs.Str.{bytes_eq}
use Rattle.std.proofs.lemmas.Bool.{and_parts, and_from, or_left, or_right, or_from, or_cases, not-true, not_from_false, false_from_ne_true, both_ways}
use Rattle.spec_data.specs.Lists.{is_among, are_different}
use Rattle.spec_terms.specs.Advert.{Advert}
use Rattle.spec_terms.specs.Faults.{IsWellFormed}
use Rattle.spec_terms.specs.Precondition.{secrets, name_in}
use Rattle.spec_terms.specs.declared.pre.Pre.{Pre}
use Rattle.spec_terms.specs.declared.pre.Pre.TheVariants.{Persistent, Volatile, Secret}
use Rattle.spec_calculus.specs.declared.parts.Revealed.{Revealed}
use Rattle.spec_run.specs.Setup.{Setup}
use Rattle.spec_run.specs.Secrets.{all_secrets, secrets_from, secrets_of_contract}
use Rattle.theory_calculus.proofs.Names.{bytes_refl, different_names}
use Rattle.theory_run.specs.KeptSecrets.{has_secret}
use Rattle.theory_run.proofs.Facts.Secrets.{same_secret, secret-true, secret_refl, has_secret-append, different_secrets}

-- ---- names of one precondition

-- the secrets of a contract, of different names
secret_named : (k : ℕ) (x : Revealed) (pre : List Pre) → has_secret x (secrets_of_contract k (secrets pre)) ≡ true → is_among x.secret (map name_in pre) ≡ true
secret_named k x [] h = cc
secret_named k x (Persistent party value name ∷ pre) h = or_right (bytes_eq name x.secret) _ (secret_named k x pre h)
secret_named k x (Volatile party value name ∷ pre) h = or_right (bytes_eq name x.secret) _ (secret_named k x pre h)
secret_named k x (Secret party name ∷ pre) h =
    elim (or_cases (same_secret (record { contract = k; party = party; secret = name }) x) (has_secret x (secrets_of_contract k (secrets pre))) h) [
      | inl a ↦ or_left _ _ (let e = secret-true (record { contract = k; party = party; secret = name }) x a in
          subst (λ y. bytes_eq name y ≡ true) (ap (λ (y : Revealed). y.secret) e) (bytes_refl name))
      | inr b ↦ or_right (bytes_eq name x.secret) _ (secret_named k x pre b)
    ]

one_contract : (k : ℕ) (pre : List Pre) → are_different (map name_in pre) ≡ true → different_secrets (secrets_of_contract k (secrets pre)) ≡ true
one_contract k [] h = refl
one_contract k (Persistent party value name ∷ pre) h = one_contract k pre (and_parts _ (are_different (map name_in pre)) h).1
one_contract k (Volatile party value name ∷ pre) h = one_contract k pre (and_parts _ (are_different (map name_in pre)) h).1
one_contract k (Secret party name ∷ pre) h =
    let p = and_parts (not (is_among name (map name_in pre))) (are_different (map name_in pre)) h in
    let x : Revealed = record { contract = k; party = party; secret = name } in
    let fresh : has_secret x (secrets_of_contract k (secrets pre)) ≡ false =
    false_from_ne_true _ (λ t. both_ways _ (not-true _ p.0) (secret_named k x pre t)) in
    and_from _ _ (not_from_false _ fresh) (one_contract k pre p.1)

-- ---- all contracts

contract_is : (k : ℕ) (x : Revealed) (ps : List (List ℕ × List ℕ)) → has_secret x (secrets_of_contract k ps) ≡ true → k ≡ x.contract
contract_is k x [] h = cc
contract_is k x (p ∷ ps) h = elim (or_cases (same_secret (record { contract = k; party = p.1; secret = p.0 }) x) (has_secret x (secrets_of_contract k ps)) h) [
  | inl a ↦ ap (λ (y : Revealed). y.contract) (secret-true (record { contract = k; party = p.1; secret = p.0 }) x a)
  | inr b ↦ contract_is k x ps b
]

-- those of later contracts have greater numbers
later_than : (k : ℕ) (x : Revealed) (cs : List Advert) → x.contract < k → has_secret x (secrets_from k cs) ≡ false
later_than k x [] h = refl
later_than k x (c ∷ cs) h =
    false_from_ne_true _ (λ t. elim (or_cases (has_secret x (secrets_of_contract k (secrets c.pre)))
    (has_secret x (secrets_from (k + 1) cs)) (sym (has_secret-append x (secrets_of_contract k (secrets c.pre)) (secrets_from (k + 1) cs)) ∙ t)) [
      | inl a ↦ let e = contract_is k x (secrets c.pre) a in absurd (omega (arith, h, e))
      | inr b ↦ both_ways _ (later_than (k + 1) x cs (omega (arith, h))) b
    ])

different_append : (xs ys : List Revealed) → different_secrets xs ≡ true → different_secrets ys ≡ true
    → ((x : Revealed) → has_secret x xs ≡ true → has_secret x ys ≡ false) → different_secrets (xs ++ ys) ≡ true
different_append [] ys a b h = b
different_append (x ∷ xs) ys a b h =
    let p = and_parts (not (has_secret x xs)) (different_secrets xs) a in
    let here : has_secret x ys ≡ false = h x (or_left _ _ (secret_refl x)) in
    let ih = different_append xs ys p.1 b (λ y t. h y (or_right (same_secret x y) _ t)) in
    and_from _ _ (not_from_false _ (has_secret-append x xs ys ∙ or_from _ _ (not-true _ p.0) here)) ih

all_from : (k : ℕ) (cs : List Advert) → AllByRecursion IsWellFormed cs → different_secrets (secrets_from k cs) ≡ true
all_from k [] h = refl
all_from k (c ∷ cs) h =
    different_append (secrets_of_contract k (secrets c.pre)) (secrets_from (k + 1) cs) (one_contract k c.pre (different_names c h.0)) (all_from (k + 1) cs h.1)
    (λ x t. later_than (k + 1) x cs (let e = contract_is k x (secrets c.pre) t in omega (arith, e)))

pub all_different : (s : Setup) → AllByRecursion IsWellFormed s.contracts → different_secrets (all_secrets s) ≡ true
all_different s h = all_from 0 s.contracts h
