-- What an accepted put or reveal shows: its secrets are revealed, and its test is true of their lengths.
use Rattle.std.proofs.Common.{◌≡◌, ℕ, List, [], ◌∷◌, ◌++◌, length, map, reverse, Bool, true, false, not, Option, Some, None, refl, sym, ap, ◌∙◌, subst, inl, inr}
use Rattle.std.specs.Prelude.{◌-◌, if◌then◌else◌, ◌==◌, ◌&&◌, ◌||◌, slice_get, is_some}
use Rattle.std.specs.List.{find, list_all, list_any}
use Rattle.std.specs.Option.{option_map}
use Rattle.std.specs.Str.{bytes_eq}
use Rattle.std.proofs.lemmas.Bool.{and_parts, and_from, or_cases, or_left, or_right, eqb-true, both_ways}
use Rattle.std.proofs.lemmas.List.{reverse-append}
use Rattle.spec_data.specs.Lists.{is_among, are_different, look_up}
use Rattle.spec_terms.specs.Advert.{Advert}
use Rattle.spec_terms.specs.Parties.{participants, choice_mentions}
use Rattle.spec_terms.specs.Precondition.{secrets, names_of, name_in, party_of, names_of_party, secrets_of}
use Rattle.spec_terms.specs.Faults.{IsWellFormed}
use Rattle.spec_terms.specs.declared.pre.Pre.{Pre}
use Rattle.spec_terms.specs.declared.pre.Pre.TheVariants.{Persistent, Volatile, Secret}
use Rattle.spec_bitcoin.specs.Verdict.{items_of}
use Rattle.spec_calculus.specs.declared.parts.Revealed.{Revealed}
use Rattle.spec_calculus.specs.Configuration.{Configuration}
use Rattle.spec_calculus.specs.Branches.{length_at, known_length, is_revealed_by, are_revealed, length_by, secret_length, secret_lengths}
use Rattle.spec_compiler.specs.Scripts.{digest_of}
use Rattle.spec_compiler.specs.Statements.{is_secret, are_secrets, lengths_of}
use Rattle.spec_run.specs.Setup.{Setup, pre_of, pre_at, is_honest, held_secret}
use Rattle.spec_run.specs.World.{Promise, World, digests_at, is_promise_of, has_promised, have_promised}
use Rattle.spec_run.specs.Committing.{secrets_at, is_secret_long}
use Rattle.spec_run.specs.Revealing.{fits, fitting}
use Rattle.spec_run.specs.Secrets.{digest_at, is_shown, secret_size, length_in_run}
use Rattle.theory_world.proofs.Hashed.{among_left, among_head, among_split, any_then, find_any}
use Rattle.theory_calculus.proofs.Names.{bytes-true, bytes_refl, different_names, looked_in, in_looked, named_looked, all_among}
use Rattle.theory_calculus.specs.Members.{Is_in}
use Rattle.theory_world.proofs.Contracts.Mentions.{added}
use Rattle.theory_run.specs.KeptSecrets.{KeptSecrets}
use Rattle.theory_run.proofs.Facts.KeptSecrets.{Begins, length_at-by}
use Rattle.theory_run.proofs.Facts.Posting.{is_own-some}
use Rattle.theory_run.specs.KeptPromises.{PromisesNamed}

-- ---- what the check of a contract sees to

-- ---- whose a secret is

pub secret_party : (pre : List Pre) (x : List ℕ × List ℕ) → Is_in x (secrets pre) → is_among (x.1) (map party_of pre) ≡ true
secret_party [] x h = absurd h
secret_party (Persistent party value name ∷ pre) x h = or_right (bytes_eq party (x.1)) _ (secret_party pre x h)
secret_party (Volatile party value name ∷ pre) x h = or_right (bytes_eq party (x.1)) _ (secret_party pre x h)
secret_party (Secret party name ∷ pre) x (inl e) =
    or_left _ _ (subst (λ y. bytes_eq party y ≡ true) (ap (λ (y : List ℕ × List ℕ). y.1) (sym e)) (bytes_refl party))
secret_party (Secret party name ∷ pre) x (inr i) = or_right (bytes_eq party (x.1)) _ (secret_party pre x i)

pub secret_among : (ss : List (List ℕ × List ℕ)) (n a : List ℕ) → Is_in (n, a) ss → is_among n (names_of_party a ss) ≡ true
secret_among [] n a h = absurd h
secret_among (q ∷ ss) n a (inl e) = by_test (bytes_eq (q.1) a) refl
  where
    pa : q.1 ≡ a
    pa = ap (λ (y : List ℕ × List ℕ). y.1) (sym e)

    pn : q.0 ≡ n
    pn = ap (λ (y : List ℕ × List ℕ). y.0) (sym e)

    by_test : (b : Bool) → bytes_eq (q.1) a ≡ b → is_among n (if b then (q.0 ∷ names_of_party a ss) else names_of_party a ss) ≡ true
    by_test true t = or_left _ _ (subst (λ y. bytes_eq (q.0) y ≡ true) pn (bytes_refl (q.0)))
    by_test false t = absurd (both_ways _ t (subst (λ y. bytes_eq (q.1) y ≡ true) pa (bytes_refl (q.1))))
secret_among (q ∷ ss) n a (inr i) = by_test (bytes_eq (q.1) a) (secret_among ss n a i)
  where
    by_test : (b : Bool) → is_among n (names_of_party a ss) ≡ true → is_among n (if b then (q.0 ∷ names_of_party a ss) else names_of_party a ss) ≡ true
    by_test true ih = or_right (bytes_eq (q.0) n) _ ih
    by_test false ih = ih

among_secret : (ss : List (List ℕ × List ℕ)) (n a : List ℕ) → is_among n (names_of_party a ss) ≡ true → Is_in (n, a) ss
among_secret [] n a h = cc
among_secret (q ∷ ss) n a h = by_test (bytes_eq (q.1) a) refl h (among_secret ss n a)
  where
    by_test : (b : Bool) → bytes_eq (q.1) a ≡ b → is_among n (if b then (q.0 ∷ names_of_party a ss) else names_of_party a ss) ≡ true
        → (is_among n (names_of_party a ss) ≡ true → Is_in (n, a) ss) → Is_in (n, a) (q ∷ ss)
    by_test true t k ih = elim (or_cases (bytes_eq (q.0) n) (is_among n (names_of_party a ss)) k) [
      | inl u ↦ (let x = sym (bytes-true (q.0) n u) in let y = sym (bytes-true (q.1) a t) in inl (λ j. (x j, y j)))
      | inr v ↦ inr (ih v)
    ]
    by_test false t k ih = inr (ih k)

secret_named : (pre : List Pre) (n : List ℕ) → is_among n (names_of (secrets pre)) ≡ true → is_among n (map name_in pre) ≡ true
secret_named [] n h = h
secret_named (Persistent party value name ∷ pre) n h = or_right (bytes_eq name n) _ (secret_named pre n h)
secret_named (Volatile party value name ∷ pre) n h = or_right (bytes_eq name n) _ (secret_named pre n h)
secret_named (Secret party name ∷ pre) n h = elim (or_cases (bytes_eq name n) (is_among n (names_of (secrets pre))) h) [
  | inl a ↦ or_left _ _ a
  | inr b ↦ or_right (bytes_eq name n) _ (secret_named pre n b)
]

pub secrets_different : (pre : List Pre) → are_different (map name_in pre) ≡ true → are_different (names_of (secrets pre)) ≡ true
secrets_different [] h = refl
secrets_different (Persistent party value name ∷ pre) h =
    secrets_different pre (and_parts (not (is_among name (map name_in pre))) (are_different (map name_in pre)) h).1
secrets_different (Volatile party value name ∷ pre) h =
    secrets_different pre (and_parts (not (is_among name (map name_in pre))) (are_different (map name_in pre)) h).1
secrets_different (Secret party name ∷ pre) h =
    let p = and_parts (not (is_among name (map name_in pre))) (are_different (map name_in pre)) h in
    let f = secret_named pre name in
    let q = p.0 in
    let ih = secrets_different pre p.1 in
    by_test (is_among name (names_of (secrets pre))) refl f q ih
  where
    by_test : (b : Bool) → is_among name (names_of (secrets pre)) ≡ b
        → (is_among name (names_of (secrets pre)) ≡ true → is_among name (map name_in pre) ≡ true) → not (is_among name (map name_in pre))
        ≡ true → are_different (names_of (secrets pre)) ≡ true → (not (is_among name (names_of (secrets pre))) && are_different (names_of (secrets pre))) ≡ true
    by_test true e f q ih = let t = f e in let u : not true ≡ true = subst (λ b. not b ≡ true) t q in cc
    by_test false e f q ih = and_from _ _ (ap not e) ih

-- ---- the digest that is committed

pub look_append : (n : List ℕ) (xs ys : List (List ℕ × List ℕ)) → digest_of (xs ++ ys) n ≡ (if is_some (look_up n xs) then digest_of xs n else digest_of ys n)
look_append n [] ys = refl
look_append n (x ∷ xs) ys = by_test (bytes_eq (x.0) n) (look_append n xs ys)
  where
    by_test : (b : Bool) → digest_of (xs ++ ys) n ≡ (if is_some (look_up n xs) then digest_of xs n else digest_of ys n)
        → (if b then x.1 else digest_of (xs ++ ys) n)
        ≡ (if is_some (if b then Some (x.1) else look_up n xs) then (if b then x.1 else digest_of xs n) else digest_of ys n)
    by_test true e = refl
    by_test false e = e

pub digest_looked : (n d : List ℕ) (xs : List (List ℕ × List ℕ)) → look_up n xs ≡ Some d → digest_of xs n ≡ d
digest_looked n d [] h = cc
digest_looked n d (x ∷ xs) h = by_test (bytes_eq (x.0) n) h (digest_looked n d xs)
  where
    by_test : (b : Bool) → (if b then Some (x.1) else look_up n xs) ≡ Some d → (look_up n xs ≡ Some d → digest_of xs n ≡ d)
        → (if b then x.1 else digest_of xs n) ≡ d
    by_test true q ih = cc
    by_test false q ih = ih q

-- what is committed for a party's secret is what the contract is compiled with
committed_digest : (k : ℕ) (a n d : List ℕ) (ps : List Promise)
    → ((p : Promise) → Is_in p ps → p.contract ≡ k → (e : List ℕ) → look_up n p.digests ≡ Some e → p.party ≡ a)
    → digest_at ps (record { contract = k; party = a; secret = n }) ≡ Some d → digest_of (digests_at ps k) n ≡ d
committed_digest k a n d [] one h = cc
committed_digest k a n d (p ∷ ps) one h = by_contract (p.contract == k) refl (committed_digest k a n d ps (λ q i. one q (inr i)))
  where
    by_contract : (b : Bool) → (p.contract == k) ≡ b
        → (digest_at ps (record { contract = k; party = a; secret = n }) ≡ Some d → digest_of (digests_at ps k) n ≡ d)
        → digest_of (if b then p.digests ++ digests_at ps k else digests_at ps k) n ≡ d
    by_contract false e ih =
        let skip : (is_promise_of k a p) ≡ false = rw e refl in
        ih (rw skip at h)
    by_contract true e ih = by_look (look_up n p.digests) refl
      where
        by_look : (o : Option (List ℕ)) → look_up n p.digests ≡ o → digest_of (p.digests ++ digests_at ps k) n ≡ d
        by_look (Some x) l =
            let pa = one p (inl refl) (eqb-true p.contract k e) x l in
            let here : is_promise_of k a p ≡ true = and_from _ _ e (subst (λ y. bytes_eq p.party y ≡ true) pa (bytes_refl p.party)) in
            let q : look_up n p.digests ≡ Some d = rw here at h in
            look_append n p.digests (digests_at ps k) ∙ rw q (digest_looked n d p.digests q)
        by_look None l = look_append n p.digests (digests_at ps k) ∙ rw l (by_party (is_promise_of k a p) refl)
          where
            by_party : (b : Bool) → is_promise_of k a p ≡ b → digest_of (digests_at ps k) n ≡ d
            by_party true u = let q : look_up n p.digests ≡ Some d = rw u at h in cc
            by_party false u = ih (rw u at h)

-- ---- a string that fits, and the length that the configuration knows

find_found : (p : List ℕ → Bool) (xs : List (List ℕ)) → list_any p xs ≡ true → (t : List ℕ) × (find p xs ≡ Some t) × (p t ≡ true) × (is_among t xs ≡ true)
find_found p [] h = cc
find_found p (x ∷ xs) h = by_test (p x) refl h (find_found p xs)
  where
    by_test : (b : Bool) → p x ≡ b → (b || list_any p xs) ≡ true
        → (list_any p xs ≡ true → (t : List ℕ) × (find p xs ≡ Some t) × (p t ≡ true) × (is_among t xs ≡ true)) → (t : List ℕ)
        × ((if b then Some x else find p xs) ≡ Some t) × (p t ≡ true) × (is_among t (x ∷ xs) ≡ true)
    by_test true e k ih = (x, refl, e, or_left _ _ (bytes_refl x))
    by_test false e k ih = let r = ih k in (r.0, r.1, r.2, or_right (bytes_eq x r.0) _ r.3)

any_of : (p : List ℕ → Bool) (t : List ℕ) (xs : List (List ℕ)) → p t ≡ true → is_among t xs ≡ true → list_any p xs ≡ true
any_of p t xs f h = any_then (λ u. bytes_eq u t) p xs (λ u i k. subst (λ y. p y ≡ true) (sym (bytes-true u t k)) f) h

module _ (s : Setup) (z : List (List ℕ)) (c : Configuration) (w : World) (kept : KeptSecrets s z c w) (begins : Begins z w.posted)
    (promises : PromisesNamed s w.promises)
    (k : ℕ) (ad : Advert) (contract : slice_get s.contracts k ≡ Some ad) (well : IsWellFormed ad) (promised : have_promised w k (participants ad) ≡ true) where
  one_length : (x : Revealed) (d t : List ℕ) → digest_at w.promises x ≡ Some d → fits s d t ≡ true → is_among t w.posted ≡ true
      → length_in_run s z x.party x.secret d ≡ Some (secret_size t)
  one_length x d t e f h = by_honest (is_honest s x.party) refl
    where
      value : s.hash t ≡ d
      value = bytes-true (s.hash t) d (and_parts (is_secret_long t) (bytes_eq (s.hash t) d) f).1

      the_same : (u : List ℕ) → s.hash u ≡ d → is_among u w.hashed ≡ true → u ≡ t
      the_same u q i = kept.clear.one u t i (kept.heard t h) (q ∙ sym value)

      by_honest : (b : Bool) → is_honest s x.party ≡ b
          → (if b then option_map secret_size (held_secret s x.party x.secret) else option_map secret_size (fitting s z d)) ≡ Some (secret_size t)
      by_honest true q =
          let o = is_own-some s w.hashed (held_secret s x.party x.secret) (digest_at w.promises x) (kept.own x q) (ap is_some e) in
          let v : (let y : Option (List ℕ) = Some (s.hash o.secret) in y) ≡ Some d = sym o.digest ∙ e in
          let v' : s.hash o.secret ≡ d = cc in
          ap (option_map secret_size) o.own ∙ ap (λ u. Some (secret_size u)) (the_same o.secret v' o.heard)
      by_honest false q =
          let any = any_of (fits s d) t w.posted f h in
          let r = find_found (fits s d) w.posted any in
          let v = bytes-true (s.hash r.0) d (and_parts (is_secret_long r.0) (bytes_eq (s.hash r.0) d) r.2).1 in
          ap (option_map secret_size) (begins.first (fits s d) any ∙ r.1) ∙ ap (λ u. Some (secret_size u)) (the_same r.0 v (kept.heard r.0 r.3))

  -- a secret of the contract, and the digest that its party has committed
  record Known (x : List ℕ) : Type 0 where
    pub party : List ℕ
    pub looked : look_up x (secrets ad.pre) ≡ Some party
    pub digest : List ℕ
    pub committed : digest_at w.promises (record { contract = k; party = party; secret = x }) ≡ Some digest
    pub compiled : digest_of (digests_at w.promises k) x ≡ digest

  pre_is : pre_at s k ≡ ad.pre
  pre_is = ap pre_of contract

  known : (x : List ℕ) → is_among x (names_of (secrets ad.pre)) ≡ true → Known x
  known x h =
      let l = named_looked (secrets ad.pre) x h in
      let i = looked_in (secrets ad.pre) x l.0 l.1 in
      let part : is_among l.0 (participants ad) ≡ true =
      added (map party_of ad.pre ++ choice_mentions ad.root) [] l.0
      (among_left l.0 (map party_of ad.pre) (choice_mentions ad.root) (secret_party ad.pre (x, l.0) i)) in
      let has : has_promised w k l.0 ≡ true = all_among (has_promised w k) (participants ad) l.0 promised part in
      let own : is_among x (secrets_at s k l.0) ≡ true =
      subst (λ pre. is_among x (secrets_of l.0 pre) ≡ true) (sym pre_is) (secret_among (secrets ad.pre) x l.0 i) in
      by_digest l.0 l.1 (digest_at w.promises (record { contract = k; party = l.0; secret = x })) refl
      (kept.full (record { contract = k; party = l.0; secret = x }) has own)
    where
      by_digest : (a : List ℕ) → look_up x (secrets ad.pre) ≡ Some a → (o : Option (List ℕ))
          → digest_at w.promises (record { contract = k; party = a; secret = x }) ≡ o → is_some o ≡ true → Known x
      by_digest a l None e q = cc
      by_digest a l (Some d) e q = record {
        party = a;
        looked = l;
        digest = d;
        committed = e;
        compiled = committed_digest k a x d w.promises (λ p i pk y u.
            let n : is_among x (secrets_at s k p.party) ≡ true = subst (λ j. is_among x (secrets_at s j p.party) ≡ true) pk (promises.named p i x y u) in
            let n' : is_among x (secrets_of p.party ad.pre) ≡ true = subst (λ pre. is_among x (secrets_of p.party pre) ≡ true) pre_is n in
            let v = in_looked (secrets ad.pre) (x, p.party) (secrets_different ad.pre (different_names ad well)) (among_secret (secrets ad.pre) x p.party n') in
            let m : (let r : Option (List ℕ) = Some p.party in r) ≡ Some a = sym v ∙ l in
            cc) e;
      }

  fits_of : (t d : List ℕ) → is_secret s.hash t d ≡ true → fits s d t ≡ true
  fits_of t d h = h

  -- one secret with its string
  one_revealed : (x t : List ℕ) (n : Known x) → fits s n.digest t ≡ true → is_among t w.posted ≡ true
      → is_revealed_by c.revealed k (look_up x (secrets ad.pre)) x ≡ true
  one_revealed x t n f h =
      let r : Revealed = record { contract = k; party = n.party; secret = x } in
      let sh : is_shown s w.posted (digest_at w.promises r) ≡ true =
      ap (is_shown s w.posted) n.committed ∙ find_any (fits s n.digest) w.posted (any_of (fits s n.digest) t w.posted f h) in
      ap (λ o. is_revealed_by c.revealed k o x) n.looked ∙ kept.revealed r ∙ sh

  one_known : (x t : List ℕ) (n : Known x) → fits s n.digest t ≡ true → is_among t w.posted ≡ true → secret_length c.committed k ad.pre x ≡ length t - 16
  one_known x t n f h =
      let r : Revealed = record { contract = k; party = n.party; secret = x } in
      ap (λ o. length_by c.committed k o x) n.looked
      ∙ ap (λ cs. known_length (length_at cs k n.party x)) kept.lengths
      ∙ ap known_length (length_at-by s z r w.promises ∙ ap (option_map (length_in_run s z n.party x)) n.committed
      ∙ ap Some (one_length r n.digest t n.committed f h))

  -- all secrets with their strings
  pub all_revealed : (xs ts : List (List ℕ)) → list_all (λ x. is_among x (names_of (secrets ad.pre))) xs ≡ true
      → are_secrets s.hash ts (map (digest_of (digests_at w.promises k)) xs) ≡ true → ((t : List ℕ) → is_among t ts ≡ true → is_among t w.posted ≡ true)
      → (are_revealed c.revealed k ad.pre xs ≡ true) × (secret_lengths c.committed k ad.pre xs ≡ lengths_of xs (map length ts))
  all_revealed [] [] h f p = (refl, refl)
  all_revealed [] (t ∷ ts) h f p = cc
  all_revealed (x ∷ xs) [] h f p = cc
  all_revealed (x ∷ xs) (t ∷ ts) h f p =
      let a = and_parts (is_among x (names_of (secrets ad.pre))) (list_all (λ y. is_among y (names_of (secrets ad.pre))) xs) h in
      let q = and_parts (is_secret s.hash t (digest_of (digests_at w.promises k) x)) (are_secrets s.hash ts (map (digest_of (digests_at w.promises k)) xs)) f in
      let n = known x a.0 in
      let g = fits_of t n.digest (subst (λ d. is_secret s.hash t d ≡ true) n.compiled q.0) in
      let i = p t (among_head t ts) in
      let ih = all_revealed xs ts a.1 q.1 (λ u j. p u (or_right (bytes_eq t u) _ j)) in
      let e = one_known x t n g i in
      let r = ih.1 in
      (and_from _ _ (one_revealed x t n g i) ih.0, λ j. (x, e j) ∷ r j)

-- ---- items of a witness

among_reversed : (t : List ℕ) (xs : List (List ℕ)) → is_among t (reverse xs) ≡ true → is_among t xs ≡ true
among_reversed t [] h = h
among_reversed t (x ∷ xs) h = elim (among_split t (reverse xs) (x ∷ []) (ap (is_among t) (sym (reverse-append (x ∷ []) xs)) ∙ h)) [
  | inl a ↦ or_right (bytes_eq x t) _ (among_reversed t xs a)
  | inr b ↦ elim (or_cases (bytes_eq x t) (is_among t []) b) [ inl u ↦ or_left _ _ u | inr v ↦ cc ]
]

among_items : (t : List ℕ) (xs : List (List ℕ)) → is_among t (items_of xs) ≡ true → is_among t xs ≡ true
among_items t [] h = h
among_items t (x ∷ []) h = cc
among_items t (x ∷ (y ∷ ys)) h = elim (or_cases (bytes_eq x t) (is_among t (items_of (y ∷ ys))) h) [
  | inl a ↦ or_left _ _ a
  | inr b ↦ or_right (bytes_eq x t) _ (among_items t (y ∷ ys) b)
]

-- what stands on a witness's stack is among its items
pub among_stack : (t : List ℕ) (xs : List (List ℕ)) → is_among t (reverse (items_of xs)) ≡ true → is_among t xs ≡ true
among_stack t xs h = among_items t xs (among_reversed t (items_of xs) h)
