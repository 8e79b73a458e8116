-- What every run keeps of commitments: they are of advertised contracts, to secrets of their parties, each by a digest of 32 bytes.
use Rattle.std.proofs.Common.{◌≡◌, ℕ, List, [], ◌∷◌, ◌++◌, length, map, Bool, true, false, Option, Some, None, refl, sym, ap, ◌∙◌, subst, arith, inl, inr}
use Rattle.std.specs.Prelude.{◌==◌, ◌||◌, is_some, if◌then◌else◌}
use Rattle.std.specs.List.{list_any, list_all}
use Rattle.std.specs.Str.{bytes_eq}
use Rattle.std.proofs.lemmas.Bool.{and_parts, or_left, or_right, or_cases, both_ways, eqb-true, eq-eqb}
use Rattle.spec_data.specs.Lists.{is_among, look_up}
use Rattle.spec_terms.specs.Advert.{Advert}
use Rattle.spec_terms.specs.Parties.{participants, choice_mentions}
use Rattle.spec_terms.specs.Precondition.{names_of, secrets, party_of, secrets_of}
use Rattle.spec_compiler.specs.Instance.{Instance}
use Rattle.spec_compiler.specs.Scripts.{digest_of}
use Rattle.spec_compiler.specs.Statements.{has_size}
use Rattle.spec_run.specs.Setup.{Setup, pre_of}
use Rattle.spec_run.specs.World.{Promise, World, is_advertised, is_promise_of, has_promised, digests_at}
use Rattle.spec_run.specs.Compiled.{compiled_instance}
use Rattle.spec_run.specs.Conditions.{IsSetup}
use Rattle.spec_run.specs.Advertising.{arranged}
use Rattle.spec_run.specs.Committing.{secrets_at}
use Rattle.theory_calculus.proofs.Names.{bytes-true, all_among, looked_in, named_looked}
use Rattle.theory_calculus.specs.Members.{Is_in}
use Rattle.theory_world.proofs.Tests.{any-append}
use Rattle.theory_world.proofs.Later.{IsCompiledAt, compiled_is}
use Rattle.theory_run.proofs.Steps.CommitSteps.{arranged-some, arranged-look, every}
use Rattle.theory_run.proofs.Facts.Promised.{in_pushed, none_named, one_more_named}
use Rattle.theory_run.specs.KeptPromises.{PromisesNamed, KeptPromises}
use Rattle.theory_run.proofs.Accepted.Tested.{secret_party, secret_among, look_append, digest_looked}
use Rattle.theory_world.proofs.Hashed.{among_left}
use Rattle.theory_run.proofs.Accepted.Spending.{Checked}
use Rattle.theory_world.proofs.Contracts.Checking.{compiled_checked}
use Rattle.theory_world.proofs.Contracts.Mentions.{added}

-- ---- digests of 32 bytes

looked_joined : (n : List ℕ) (xs ys : List (List ℕ × List ℕ)) → is_some (look_up n (xs ++ ys)) ≡ (is_some (look_up n xs) || is_some (look_up n ys))
looked_joined n [] ys = refl
looked_joined n (x ∷ xs) ys = grind (arith, looked_joined n xs ys)

-- a digest that is found has 32 bytes
sized_at : (ps : List Promise) (k : ℕ) (n : List ℕ)
    → ((p : Promise) → Is_in p ps → (m d : List ℕ) → look_up m p.digests ≡ Some d → length d ≡ 32) → is_some (look_up n (digests_at ps k))
    ≡ true → length (digest_of (digests_at ps k) n) ≡ 32
sized_at [] k n h f = cc
sized_at (p ∷ ps) k n h f = by_contract (p.contract == k) f (sized_at ps k n (λ q i. h q (inr i)))
  where
    by_look : (o : Option (List ℕ)) → look_up n p.digests ≡ o → is_some (look_up n (p.digests ++ digests_at ps k)) ≡ true
        → (is_some (look_up n (digests_at ps k)) ≡ true → length (digest_of (digests_at ps k) n) ≡ 32)
        → length (digest_of (p.digests ++ digests_at ps k) n) ≡ 32
    by_look None e q ih =
        ap length (look_append n p.digests (digests_at ps k) ∙ rw e refl) ∙ ih (sym (looked_joined n p.digests (digests_at ps k) ∙ rw e refl) ∙ q)
    by_look (Some d) e q ih = ap length (look_append n p.digests (digests_at ps k) ∙ rw e (digest_looked n d p.digests e)) ∙ h p (inl refl) n d e

    by_contract : (b : Bool) → is_some (look_up n (if b then p.digests ++ digests_at ps k else digests_at ps k)) ≡ true
        → (is_some (look_up n (digests_at ps k)) ≡ true → length (digest_of (digests_at ps k) n) ≡ 32)
        → length (digest_of (if b then p.digests ++ digests_at ps k else digests_at ps k) n) ≡ 32
    by_contract true q ih = by_look (look_up n p.digests) refl q ih
    by_contract false q ih = ih q

-- what a commitment has is found
found_at : (ps : List Promise) (k : ℕ) (n : List ℕ) (p : Promise) → Is_in p ps → p.contract ≡ k → is_some (look_up n p.digests) ≡ true
    → is_some (look_up n (digests_at ps k)) ≡ true
found_at [] k n p i e h = absurd i
found_at (q ∷ ps) k n p (inl r) e h =
    let t : (q.contract == k) ≡ true = eq-eqb q.contract k (ap (λ (x : Promise). x.contract) (sym r) ∙ e) in
    rw t (looked_joined n q.digests (digests_at ps k) ∙ or_left _ _ (subst (λ (x : Promise). is_some (look_up n x.digests) ≡ true) r h))
found_at (q ∷ ps) k n p (inr i) e h = by_contract (q.contract == k) (found_at ps k n p i e h)
  where
    by_contract : (b : Bool) → is_some (look_up n (digests_at ps k)) ≡ true
        → is_some (look_up n (if b then q.digests ++ digests_at ps k else digests_at ps k)) ≡ true
    by_contract true g = looked_joined n q.digests (digests_at ps k) ∙ or_right (is_some (look_up n q.digests)) _ g
    by_contract false g = g

-- who has committed has a commitment
promise_of : (ps : List Promise) (k : ℕ) (a : List ℕ) → list_any (is_promise_of k a) ps ≡ true → (p : Promise) × Is_in p ps × (p.contract ≡ k) × (p.party ≡ a)
promise_of [] k a h = cc
promise_of (p ∷ ps) k a h = elim (or_cases (is_promise_of k a p) (list_any (is_promise_of k a) ps) h) [
  | inl x ↦ (let q = and_parts (p.contract == k) (bytes_eq p.party a) x in (p, inl refl, eqb-true p.contract k q.0, bytes-true p.party a q.1))
  | inr y ↦ (let r = promise_of ps k a y in (r.0, inr r.1, r.2, r.3))
]

-- the digests of compiled contracts have 32 bytes, and the contracts have passed the check
pub checked_now : (s : Setup) → IsSetup s → (w : World) → KeptPromises s w → Checked s w
checked_now s setup w kept = record { checked = λ k st h. compiled_checked s setup w k st h; committed = committed }
  where
    committed : (k : ℕ) (st : Instance) → compiled_instance s w k ≡ Some st
        → list_all (λ name. has_size 32 (digest_of st.hashes name)) (names_of (secrets st.advert.pre)) ≡ true
    committed k st h = subst (λ (x : Instance). list_all (λ name. has_size 32 (digest_of x.hashes name)) (names_of (secrets x.advert.pre))
        ≡ true) (sym c.is) (every (λ name. has_size 32 (digest_of (digests_at w.promises k) name)) (names_of (secrets ad.pre)) one)
      where
        c : IsCompiledAt s w k st
        c = compiled_is s w k st h

        ad : Advert
        ad = c.advert

        one : (n : List ℕ) → is_among n (names_of (secrets ad.pre)) ≡ true → has_size 32 (digest_of (digests_at w.promises k) n) ≡ true
        one n i =
            let l = named_looked (secrets ad.pre) n i in
            let j = looked_in (secrets ad.pre) n l.0 l.1 in
            let part : is_among l.0 (participants ad) ≡ true =
            added (map party_of ad.pre ++ choice_mentions ad.root) [] l.0
            (among_left l.0 (map party_of ad.pre) (choice_mentions ad.root) (secret_party ad.pre (n, l.0) j)) in
            let p = promise_of w.promises k l.0 (all_among (has_promised w k) (participants ad) l.0 c.promised part) in
            let own : is_among n (secrets_at s k l.0) ≡ true =
            subst (λ pre. is_among n (secrets_of l.0 pre) ≡ true) (sym (ap pre_of c.there)) (secret_among (secrets ad.pre) n l.0 j) in
            let own' : is_among n (secrets_at s p.0.contract p.0.party) ≡ true =
            subst (λ x. is_among n (secrets_at s x p.0.party) ≡ true) (sym p.2) (subst (λ x. is_among n (secrets_at s k x) ≡ true) (sym p.3) own) in
            eq-eqb _ 32 (sized_at w.promises k n kept.sized (found_at w.promises k n p.0 p.1 p.2 (kept.full p.0 p.1 n own')))

-- ---- the opening

pub opening_promises : (s : Setup) (w : World) → w.promises ≡ [] → KeptPromises s w
opening_promises s w e = record {
  told = λ k a h. absurd (both_ways _ (ap (list_any (is_promise_of k a)) e) h);
  named = subst (PromisesNamed s) (sym e) (none_named s);
  sized = λ p i n d h. absurd (subst (Is_in p) e i);
  full = λ p i n h. absurd (subst (Is_in p) e i);
}

-- ---- later

-- where nobody commits
pub promises_stay : (s : Setup) (w next : World) → KeptPromises s w → next.promises ≡ w.promises
    → ((k : ℕ) → is_advertised w k ≡ true → is_advertised next k ≡ true) → KeptPromises s next
promises_stay s w next kept e more = record {
  told = λ k a h. more k (kept.told k a (ap (list_any (is_promise_of k a)) (sym e) ∙ h));
  named = subst (PromisesNamed s) (sym e) kept.named;
  sized = λ p i n d h. kept.sized p (subst (Is_in p) e i) n d h;
  full = λ p i n h. kept.full p (subst (Is_in p) e i) n h;
}

-- a commitment of digests of 32 bytes to secrets of an advertised contract
pub one_more_promise : (s : Setup) (w : World) (k : ℕ) (a : List ℕ) (entries : List (List ℕ × List ℕ)) (hashed posted : List (List ℕ))
    → KeptPromises s w → is_advertised w k ≡ true
    → list_all (λ n. is_some (look_up n entries)) (secrets_at s k a) ≡ true
    → ((n d : List ℕ) → look_up n entries ≡ Some d → is_among n (secrets_at s k a) ≡ true → length d ≡ 32)
    → KeptPromises s (record w {
      promises = w.promises
          ++ record { contract = k; party = a; digests = arranged [] (secrets_at s k a) entries } ∷ [];
      hashed = hashed;
      posted = posted;
    })
one_more_promise s w k a entries hashed posted kept adv looked long = record {
  told = λ j b h. elim (or_cases (has_promised w j b) _ (sym (any-append (is_promise_of j b) w.promises (new ∷ [])) ∙ h)) [
    | inl x ↦ kept.told j b x
    | inr y ↦ elim (or_cases (is_promise_of j b new) false y) [
      | inl t ↦ subst (λ m. is_advertised w m ≡ true) (eqb-true k j (and_parts (k == j) (bytes_eq a b) t).0) adv
      | inr t ↦ cc
    ]
  ];
  named = one_more_named s w.promises k a entries kept.named;
  sized = λ p i n d h. elim (in_pushed w.promises new p i) [
    | inl x ↦ kept.sized p x n d h
    | inr e ↦ (let r = arranged-look (secrets_at s k a) entries n d (subst (λ (x : Promise). look_up n x.digests ≡ Some d) e h) looked in long n d r.0 r.1)
  ];
  full = λ p i n h. elim (in_pushed w.promises new p i) [
    | inl x ↦ kept.full p x n h
    | inr e ↦ subst (λ (x : Promise). is_some (look_up n x.digests) ≡ true) (sym e)
        (arranged-some (secrets_at s k a) entries n (subst (λ (x : Promise). is_among n (secrets_at s x.contract x.party) ≡ true) e h))
  ];
}
  where
    new : Promise
    new = record { contract = k; party = a; digests = arranged [] (secrets_at s k a) entries }
