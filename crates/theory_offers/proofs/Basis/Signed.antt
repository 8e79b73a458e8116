-- What the offers rest on stays where a party authorises a branch, or signs an initial transaction.
use Rattle.std.proofs.Common.{◌≡◌, ℕ, List, [], ◌∷◌, ◌++◌, map, Bool, true, false, not, Some, refl, sym, ap, ◌∙◌, subst, inl, inr, cond}
use Rattle.std.specs.Prelude.{◌==◌, ◌&&◌, ◌⊎◌, slice_get, is_some, if◌then◌else◌, option_map}
use Rattle.std.specs.List.{filter}
use Rattle.std.specs.Str.{bytes_eq}
use Rattle.std.proofs.lemmas.Bool.{and_parts, and_from, or_left, or_right, or_cases, both_ways, eqb-true, not-true}
use Rattle.spec_data.specs.Lists.{is_among, are_different}
use Rattle.spec_terms.specs.Term as term
use Rattle.spec_terms.specs.Term.{Contract, branches}
use Rattle.spec_terms.specs.Precondition.{Holding, persistent}
use Rattle.spec_terms.specs.declared.path.PathStep.TheVariants.{Branch as To}
use Rattle.spec_bitcoin.specs.declared.tx.Tx.{Tx}
use Rattle.spec_bitcoin.specs.Keys.{key_of, has_signed}
use Rattle.spec_calculus.specs.declared.parts.InitAuthorisation.{InitAuthorisation}
use Rattle.spec_calculus.specs.declared.parts.BranchAuthorisation.{BranchAuthorisation}
use Rattle.spec_calculus.specs.declared.step.Step.TheVariants as steps
use Rattle.spec_calculus.specs.Configuration.{Configuration}
use Rattle.spec_calculus.specs.Beginning.{is_init_authorised}
use Rattle.spec_calculus.specs.Branches.{has_branch_authorised}
use Rattle.spec_calculus.specs.Steps.{after_steps, with_init, with_branch}
use Rattle.spec_compiler.specs.Instance.{Instance, branch_label, deposit_key}
use Rattle.spec_compiler.specs.Transactions.{Standing, tx_of, digest_of_spent, prepared, deposit, branch_unsigned, initial_unsigned}
use Rattle.spec_compiler.specs.ByPath.{position_at, prepared_at}
use Rattle.spec_run.specs.Setup.{Setup, pre_at, pre_of}
use Rattle.spec_run.specs.World.{ContractPosition, World, output_at, live_position_at}
use Rattle.spec_run.specs.Compiled.{compiled_instance}
use Rattle.spec_run.specs.Signing.{signed_all, authorising_pairs, branch_pair, prepared_if_compiled, pairs_of_deposits, initial_pairs}
use Rattle.spec_run.specs.Steps.{init_steps, is_of_party, is_bound_live}
use Rattle.theory_calculus.proofs.Names.{bytes-true, bytes_refl}
use Rattle.theory_calculus.specs.Members.{Is_in}
use Rattle.theory_calculus.proofs.Members.{in_filter}
use Rattle.theory_world.proofs.Tests.{any-append}
use Rattle.theory_world.proofs.Book.{signed_more, signed_new}
use Rattle.theory_world.proofs.Later.{compiled_is}
use Rattle.theory_world.proofs.Contracts.Standing.{unsigned_of_branch}
use Rattle.theory_run.proofs.Steps.Beginnings.{init_all, after-inits}
use Rattle.theory_offers.proofs.Basis.Offered.{KeptOffers}
use Rattle.theory_offers.proofs.Basis.Opening.{signs_offers}

-- ---- a branch

-- a further authorisation of a branch
pub with_branch-split : (xs : List BranchAuthorisation) (party : List ℕ) (n i m j : ℕ) (a : List ℕ)
    → has_branch_authorised (with_branch xs party n i) m j a ≡ true
    → (has_branch_authorised xs m j a ≡ true) ⊎ ((party ≡ a) × (n ≡ m) × (i ≡ j))
with_branch-split xs party n i m j a h = by_test (has_branch_authorised xs n i party) h
  where
    new : (bytes_eq party a && (n == m) && (i == j)) ≡ true → (has_branch_authorised xs m j a ≡ true) ⊎ ((party ≡ a) × (n ≡ m) × (i ≡ j))
    new q =
        let p = and_parts (bytes_eq party a && (n == m)) (i == j) q in
        let r = and_parts (bytes_eq party a) (n == m) p.0 in
        inr (bytes-true party a r.0, eqb-true n m r.1, eqb-true i j p.1)

    by_test : (b : Bool) → has_branch_authorised (cond b xs (xs ++ record { party = party; output = n; branch = i } ∷ [])) m j a ≡ true
        → (has_branch_authorised xs m j a ≡ true) ⊎ ((party ≡ a) × (n ≡ m) × (i ≡ j))
    by_test true q = inl q
    by_test false q =
        elim (or_cases _ _ (sym (any-append (λ (x : BranchAuthorisation). bytes_eq x.party a && (x.output == m) && (x.branch == j)) xs
        (record { party = party; output = n; branch = i } ∷ [])) ∙ q)) [
          | inl x ↦ inl x
          | inr x ↦ elim (or_cases (bytes_eq party a && (n == m) && (i == j)) false x) [ inl y ↦ new y | inr y ↦ cc ]
        ]

pub authorise_offers : (s : Setup) (g : Configuration) (w : World) (party : List ℕ) (n i : ℕ) (hashed posted : List (List ℕ))
    → KeptOffers s g w → is_some (output_at w n) ≡ true
    → KeptOffers s (after_steps g (steps.AuthBranch party n i ∷ []))
    (record w { book = signed_all w.book (authorising_pairs s w party (live_position_at w n) i); hashed = hashed; posted = posted })
authorise_offers s g w party n i hashed posted more there =
    let ps = authorising_pairs s w party (live_position_at w n) i in
    signs_offers s g (after_steps g (steps.AuthBranch party n i ∷ [])) w (signed_all w.book ps) hashed posted more
    (record { parties = more.constant.parties; honest = more.constant.honest; contracts = more.constant.contracts })
    (λ k d h. signed_more w.book ps k d h)
    (λ k x h. inl h)
    (λ m j a h. elim (with_branch-split g.branch_authorised party n i m j a h) [
      | inl x ↦ inl x
      | inr x ↦ inr (subst (λ y. is_some (output_at w y) ≡ true) x.1 there)
    ])
    (λ k st d c j a l. inl a)
    (λ m j a h st here choice b e c p t q r. elim (with_branch-split g.branch_authorised party n i m j a r) [
      | inl x ↦ inl x
      | inr x ↦ inr (signed_new w.book ps _ _ (new m j a h st here choice b e c p t x.0 x.1 x.2))
    ])
  where
    new : (m j : ℕ) (a : List ℕ) (h : ContractPosition) (st : Instance) (here : Standing) (choice : Contract) (b : term.Guarded)
        → live_position_at w m ≡ Some h → compiled_instance s w h.contract ≡ Some st → position_at s.hash st h.position
        ≡ Some (here, choice) → slice_get (branches choice) j ≡ Some b
        → party ≡ a → n ≡ m → i ≡ j → has_signed (authorising_pairs s w party (live_position_at w n) i)
        (key_of s.hash (branch_label h.contract (h.position ++ To j ∷ []) a))
        (digest_of_spent s.hash (tx_of (branch_unsigned s.hash st here j b)) here.output) ≡ true
    new m j a h st here choice b e c p t ea en ei =
        let key = key_of s.hash (branch_label h.contract (h.position ++ To j ∷ []) a) in
        let dg = digest_of_spent s.hash (tx_of (branch_unsigned s.hash st here j b)) here.output in
        let d : prepared_at s.hash st (h.position ++ To j ∷ []) ≡ Some (prepared s.hash (branch_unsigned s.hash st here j b)) =
        ap (option_map (prepared s.hash)) (unsigned_of_branch s.hash st h.position here choice j b p t) in
        let f : prepared_if_compiled s (compiled_instance s w h.contract) (h.position ++ To j ∷ [])
        ≡ Some (prepared s.hash (branch_unsigned s.hash st here j b)) =
        ap (λ o. prepared_if_compiled s o (h.position ++ To j ∷ [])) c ∙ d in
        let pairs : authorising_pairs s w party (live_position_at w n) i ≡ (key, dg) ∷ [] =
        (λ x. authorising_pairs s w (ea x) (live_position_at w (en x)) (ei x))
        ∙ ap (λ o. authorising_pairs s w a o j) e ∙ ap (branch_pair s a h.contract (h.position ++ To j ∷ [])) f in
        subst (λ xs. has_signed xs key dg ≡ true) (sym pairs) (or_left _ _ (and_from _ _ (bytes_refl key) (bytes_refl dg)))

-- ---- an initial transaction

pub with_init-split : (xs : List InitAuthorisation) (k : ℕ) (x : List ℕ) (j : ℕ) (y : List ℕ) → is_init_authorised (with_init xs k x) j y
    ≡ true → (is_init_authorised xs j y ≡ true) ⊎ ((k ≡ j) × (x ≡ y))
with_init-split xs k x j y h = by_test (is_init_authorised xs k x) h
  where
    new : ((k == j) && bytes_eq x y) ≡ true → (is_init_authorised xs j y ≡ true) ⊎ ((k ≡ j) × (x ≡ y))
    new q = let p = and_parts (k == j) (bytes_eq x y) q in inr (eqb-true k j p.0, bytes-true x y p.1)

    by_test : (b : Bool) → is_init_authorised (cond b xs (xs ++ record { contract = k; deposit = x } ∷ [])) j y ≡ true
        → (is_init_authorised xs j y ≡ true) ⊎ ((k ≡ j) × (x ≡ y))
    by_test true q = inl q
    by_test false q =
        elim (or_cases _ _
        (sym (any-append (λ (a : InitAuthorisation). (a.contract == j) && bytes_eq a.deposit y) xs (record { contract = k; deposit = x } ∷ [])) ∙ q)) [
          | inl u ↦ inl u
          | inr u ↦ elim (or_cases ((k == j) && bytes_eq x y) false u) [ inl v ↦ new v | inr v ↦ cc ]
        ]

all_inits-split : (xs : List InitAuthorisation) (k : ℕ) (ds : List (List ℕ × Holding)) (j : ℕ) (y : List ℕ) → is_init_authorised (init_all xs k ds) j y ≡ true
    → (is_init_authorised xs j y ≡ true) ⊎ ((k ≡ j) × ((d : List ℕ × Holding) × Is_in d ds × (d.0 ≡ y)))
all_inits-split xs k [] j y h = inl h
all_inits-split xs k (d ∷ ds) j y h = elim (all_inits-split (with_init xs k (d.0)) k ds j y h) [
  | inl a ↦ elim (with_init-split xs k (d.0) j y a) [ inl u ↦ inl u | inr v ↦ inr (v.0, (d, inl refl, v.1)) ]
  | inr b ↦ inr (b.0, (b.1.0, inr b.1.1, b.1.2))
]

-- of different names, one name has one deposit
one_deposit : (ds : List (List ℕ × Holding)) (d e : List ℕ × Holding) → are_different (map (λ (x : List ℕ × Holding). x.0) ds) ≡ true
    → Is_in d ds → Is_in e ds → d.0 ≡ e.0 → d ≡ e
one_deposit [] d e h i j q = absurd i
one_deposit (x ∷ ds) d e h i j q =
    by_places i j (one_deposit ds d e (and_parts (not (is_among (x.0) (map (λ (y : List ℕ × Holding). y.0) ds)))
    (are_different (map (λ (y : List ℕ × Holding). y.0) ds)) h).1)
  where
    p : (not (is_among (x.0) (map (λ (y : List ℕ × Holding). y.0) ds)) ≡ true) × (are_different (map (λ (y : List ℕ × Holding). y.0) ds) ≡ true)
    p = and_parts (not (is_among (x.0) (map (λ (y : List ℕ × Holding). y.0) ds))) (are_different (map (λ (y : List ℕ × Holding). y.0) ds)) h

    there : (y : List ℕ × Holding) (ys : List (List ℕ × Holding)) → Is_in y ys → is_among (y.0) (map (λ (z : List ℕ × Holding). z.0) ys) ≡ true
    there y [] k = absurd k
    there y (z ∷ ys) (inl k) = or_left _ _ (subst (λ (v : List ℕ × Holding). bytes_eq (v.0) (y.0) ≡ true) k (bytes_refl (y.0)))
    there y (z ∷ ys) (inr k) = or_right (bytes_eq (z.0) (y.0)) _ (there y ys k)

    by_places : (d ≡ x) ⊎ Is_in d ds → (e ≡ x) ⊎ Is_in e ds → (Is_in d ds → Is_in e ds → d.0 ≡ e.0 → d ≡ e) → d ≡ e
    by_places (inl a) (inl b) ih = a ∙ sym b
    by_places (inl a) (inr b) ih =
        absurd (both_ways _ (not-true _ p.0) (subst (λ n. is_among n (map (λ (y : List ℕ × Holding). y.0) ds) ≡ true)
        (sym q ∙ ap (λ (v : List ℕ × Holding). v.0) a) (there e ds b)))
    by_places (inr a) (inl b) ih =
        absurd (both_ways _ (not-true _ p.0) (subst (λ n. is_among n (map (λ (y : List ℕ × Holding). y.0) ds) ≡ true)
        (q ∙ ap (λ (v : List ℕ × Holding). v.0) b) (there d ds a)))
    by_places (inr a) (inr b) ih = ih a b q

-- a party's deposit has its pair among those of the party
pair_there : (s : Setup) (st : Instance) (party : List ℕ) (tx : Tx) (ds : List (List ℕ × Holding)) (d : List ℕ × Holding) → Is_in d ds → (d.1).owner ≡ party
    → has_signed (pairs_of_deposits s party ds
    (map (digest_of_spent s.hash tx) (map (λ (x : List ℕ × Holding). deposit s.hash st x.0 x.1) ds))) (deposit_key s.hash party)
    (digest_of_spent s.hash tx (deposit s.hash st (d.0) (d.1))) ≡ true
pair_there s st party tx [] d h o = absurd h
pair_there s st party tx (x ∷ ds) d h o = by_test (bytes_eq (x.1).owner party) refl h (λ i. pair_there s st party tx ds d i o)
  where
    by_test : (b : Bool) → bytes_eq (x.1).owner party ≡ b → (d ≡ x) ⊎ Is_in d ds
        → (Is_in d ds → has_signed (pairs_of_deposits s party ds
        (map (digest_of_spent s.hash tx) (map (λ (y : List ℕ × Holding). deposit s.hash st y.0 y.1) ds))) (deposit_key s.hash party)
        (digest_of_spent s.hash tx (deposit s.hash st (d.0) (d.1))) ≡ true)
        → has_signed (if b then (deposit_key s.hash party, digest_of_spent s.hash tx (deposit s.hash st (x.0) (x.1)))
        ∷ pairs_of_deposits s party ds (map (digest_of_spent s.hash tx)
        (map (λ (y : List ℕ × Holding). deposit s.hash st y.0 y.1) ds)) else pairs_of_deposits s party ds
        (map (digest_of_spent s.hash tx) (map (λ (y : List ℕ × Holding). deposit s.hash st y.0 y.1) ds)))
        (deposit_key s.hash party) (digest_of_spent s.hash tx (deposit s.hash st (d.0) (d.1))) ≡ true
    by_test true e (inl q) ih = or_left _ _ (and_from _ _ (bytes_refl (deposit_key s.hash party))
        (subst (λ (y : List ℕ × Holding). bytes_eq (digest_of_spent s.hash tx (deposit s.hash st (y.0) (y.1)))
        (digest_of_spent s.hash tx (deposit s.hash st (d.0) (d.1))) ≡ true) q (bytes_refl (digest_of_spent s.hash tx (deposit s.hash st (d.0) (d.1))))))
    by_test true e (inr i) ih = or_right (bytes_eq (deposit_key s.hash party) (deposit_key s.hash party)
        && bytes_eq (digest_of_spent s.hash tx (deposit s.hash st (x.0) (x.1))) (digest_of_spent s.hash tx (deposit s.hash st (d.0) (d.1)))) _ (ih i)
    by_test false e (inl q) ih =
        absurd (both_ways _ e (subst (λ y. bytes_eq y party ≡ true) (sym o ∙ ap (λ (v : List ℕ × Holding). (v.1).owner) q) (bytes_refl party)))
    by_test false e (inr i) ih = ih i

pub init_offers : (s : Setup) (g : Configuration) (w : World) (k : ℕ) (party : List ℕ) (hashed posted : List (List ℕ)) → KeptOffers s g w
    → (st : Instance) → compiled_instance s w k ≡ Some st
    → are_different (map (λ (x : List ℕ × Holding). x.0) (persistent st.advert.pre)) ≡ true
    → KeptOffers s (after_steps g (init_steps s w k party))
    (record w { book = signed_all w.book (initial_pairs s party (compiled_instance s w k)); hashed = hashed; posted = posted })
init_offers s g w k party hashed posted more st c apart =
    let ps = initial_pairs s party (compiled_instance s w k) in
    let ds = filter (λ d. is_of_party party d && is_bound_live w k d) (persistent (pre_at s k)) in
    subst (λ x. KeptOffers s x (record w { book = signed_all w.book ps; hashed = hashed; posted = posted })) (sym (after-inits k ds g))
    (signs_offers s g (record g { init_authorised = init_all g.init_authorised k ds }) w (signed_all w.book ps) hashed posted more
    (record { parties = more.constant.parties; honest = more.constant.honest; contracts = more.constant.contracts })
    (λ a d h. signed_more w.book ps a d h)
    (λ j x h. elim (all_inits-split g.init_authorised k ds j x h) [
      | inl y ↦ inl y
      | inr y ↦ inr (subst (λ m. is_some (compiled_instance s w m) ≡ true) y.0 (ap is_some c))
    ])
    (λ n i a h. inl h)
    (λ j su d cj i a l. elim (all_inits-split g.init_authorised k ds j (d.0) a) [
      | inl x ↦ inl x
      | inr x ↦ inr (signed_new w.book ps _ _ (new j su d cj i x.0 x.1.0 x.1.1 x.1.2))
    ])
    (λ n i a h su here choice b e cj p t q r. inl r))
  where
    pre_is : pre_at s k ≡ st.advert.pre
    pre_is = let ci = compiled_is s w k st c in ap pre_of ci.there ∙ ap (λ (y : Instance). y.advert.pre) (sym ci.is)

    new : (j : ℕ) (su : Instance) (d : List ℕ × Holding) → compiled_instance s w j ≡ Some su → Is_in d (persistent su.advert.pre) → k ≡ j
        → (e : List ℕ × Holding) → Is_in e (filter (λ x. is_of_party party x && is_bound_live w k x) (persistent (pre_at s k))) → e.0 ≡ d.0
        → has_signed (initial_pairs s party (compiled_instance s w k)) (deposit_key s.hash (d.1).owner)
        (digest_of_spent s.hash (tx_of (initial_unsigned s.hash su)) (deposit s.hash su (d.0) (d.1))) ≡ true
    new j su d cj i kj e ie en =
        let both : Some su ≡ Some st = sym cj ∙ ap (compiled_instance s w) (sym kj) ∙ c in
        let same : su ≡ st = cc in
        let id : Is_in d (persistent st.advert.pre) = subst (λ (y : Instance). Is_in d (persistent y.advert.pre)) same i in
        let r = in_filter (λ x. is_of_party party x && is_bound_live w k x) (persistent (pre_at s k)) e ie in
        let je : Is_in e (persistent st.advert.pre) = subst (λ pre. Is_in e (persistent pre)) pre_is r.0 in
        let ed : e ≡ d = one_deposit (persistent st.advert.pre) e d apart je id en in
        let o : (e.1).owner ≡ party = bytes-true (e.1).owner party (and_parts (is_of_party party e) (is_bound_live w k e) r.1).0 in
        let od : (d.1).owner ≡ party = ap (λ (v : List ℕ × Holding). (v.1).owner) (sym ed) ∙ o in
        let p = pair_there s st party (tx_of (initial_unsigned s.hash st)) (persistent st.advert.pre) d id od in
        let q : has_signed (initial_pairs s party (compiled_instance s w k))
        (deposit_key s.hash party) (digest_of_spent s.hash (tx_of (initial_unsigned s.hash st)) (deposit s.hash st (d.0) (d.1))) ≡ true =
        ap (λ x. has_signed (initial_pairs s party x)
        (deposit_key s.hash party) (digest_of_spent s.hash (tx_of (initial_unsigned s.hash st)) (deposit s.hash st (d.0) (d.1)))) c ∙ p in
        let u : has_signed (initial_pairs s party (compiled_instance s w k))
        (deposit_key s.hash (d.1).owner) (digest_of_spent s.hash (tx_of (initial_unsigned s.hash st)) (deposit s.hash st (d.0) (d.1))) ≡ true =
        subst (λ x. has_signed (initial_pairs s party (compiled_instance s w k)) (deposit_key s.hash x)
        (digest_of_spent s.hash (tx_of (initial_unsigned s.hash st)) (deposit s.hash st (d.0) (d.1))) ≡ true) (sym od) q in
        subst (λ (y : Instance). has_signed (initial_pairs s party (compiled_instance s w k)) (deposit_key s.hash (d.1).owner)
        (digest_of_spent s.hash (tx_of (initial_unsigned s.hash y)) (deposit s.hash y (d.0) (d.1))) ≡ true) (sym same) u
