-- What an endorsed contract has signed for each of its branches.
use Rattle.std.proofs.Common.{◌≡◌, ℕ, List, [], ◌∷◌, ◌++◌, map, Bool, true, false, not, Some, refl, sym, ap, ◌∙◌, subst, inl, inr}
use Rattle.std.specs.Prelude.{◌⊎◌, slice_get, filter, if◌then◌else◌}
use Rattle.std.specs.List.{list_all, flat_map}
use Rattle.std.specs.Option.{option_map_or}
use Rattle.std.specs.Str.{bytes_eq}
use Rattle.std.proofs.lemmas.Bool.{and_parts, or_cases, or_left, or_right, both_ways}
use Rattle.std.proofs.lemmas.List.Concat.{flat_map-cons}
use Rattle.spec_data.specs.Lists.{is_among, look_up}
use Rattle.spec_terms.specs.Term as term
use Rattle.spec_terms.specs.Term.{Contract, branches}
use Rattle.spec_terms.specs.Core.{core, lock, is_asked, puts_of}
use Rattle.spec_terms.specs.Parties.{participants}
use Rattle.spec_terms.specs.Paths.{at}
use Rattle.spec_terms.specs.Precondition.{volatile}
use Rattle.spec_terms.specs.declared.path.PathStep.{PathStep}
use Rattle.spec_terms.specs.declared.path.PathStep.TheVariants.{Branch as To}
use Rattle.spec_bitcoin.specs.declared.tx.Tx.{Tx}
use Rattle.spec_bitcoin.specs.Keys.{Pair, key_of, has_signed}
use Rattle.spec_compiler.specs.declared.prepared.Prepared.{Prepared}
use Rattle.spec_compiler.specs.Instance.{Instance, branch_path, branch_label, deposit_key, people}
use Rattle.spec_compiler.specs.declared.unsigned.Unsigned.{Unsigned}
use Rattle.spec_compiler.specs.Transactions.{Standing, tx_of, digest_of_spent, prepared, deposit, holding_or_none, put_deposits, branch_unsigned}
use Rattle.spec_compiler.specs.Compilation.{path_transactions}
use Rattle.spec_compiler.specs.ByPath as by_path
use Rattle.spec_compiler.specs.ByPath.{position_at}
use Rattle.spec_compiler.specs.Endorsements.{put_owner, branch_needs, put_needs, needs_of, path_needs, is_met, is_endorsed}
use Rattle.theory_calculus.proofs.Names.{bytes-true, all_among}
use Rattle.theory_calculus.specs.Members.{Is_in}
use Rattle.theory_calculus.proofs.Members.{all_map}
use Rattle.theory_world.proofs.Tests.{all-append}
use Rattle.theory_world.proofs.Contracts.Positions.{branch_here, covered}
use Rattle.theory_world.proofs.Contracts.Standing.{stand_of_branch, position_named, term_branches}

pub among_filter : (p : List ℕ → Bool) (a : List ℕ) (xs : List (List ℕ)) → is_among a xs ≡ true → p a ≡ true → is_among a (filter p xs) ≡ true
among_filter p a [] h k = cc
among_filter p a (x ∷ xs) h k = by_test (p x) refl (or_cases (bytes_eq x a) (is_among a xs) h) (λ q. among_filter p a xs q k)
  where
    by_test : (b : Bool) → p x ≡ b → (bytes_eq x a ≡ true) ⊎ (is_among a xs ≡ true)
        → (is_among a xs ≡ true → is_among a (filter p xs) ≡ true) → is_among a (if b then x ∷ filter p xs else filter p xs) ≡ true
    by_test true e (inl q) ih = or_left _ _ q
    by_test true e (inr q) ih = or_right (bytes_eq x a) _ (ih q)
    by_test false e (inl q) ih = absurd (both_ways _ e (subst (λ y. p y ≡ true) (sym (bytes-true x a q)) k))
    by_test false e (inr q) ih = ih q

module _ (hash : List ℕ → List ℕ) (st : Instance) (book : List Pair)
    (q : List PathStep) (here : Standing) (choice : Contract) (i : ℕ) (b : term.Guarded) (stands : position_at hash st q ≡ Some (here, choice))
    (there : slice_get (branches choice) i ≡ Some b) (endorsed : is_endorsed hash st book ≡ true) where
  abbrev path : List PathStep
  path = branch_path here.position i

  abbrev made : Unsigned
  made = branch_unsigned hash st here i b

  listed : Is_in (branch_path here.position i, branch_unsigned hash st here i b) (path_transactions hash st)
  listed = covered hash st (q ++ To i ∷ []) (by_path.at_branch here i b) (stand_of_branch hash st q here choice i b stands there) _
      (branch_here hash st here i (lock b) b)

  in_all : (ds : List (List PathStep × Unsigned)) (d : List PathStep × Unsigned) → Is_in d ds
      → list_all (is_met book) (flat_map (λ (p : List PathStep × Prepared). path_needs hash st.contract st.advert p.0 p.1)
      (map {B = List PathStep × Prepared} (λ (p : List PathStep × Unsigned). (p.0, prepared hash p.1)) ds)) ≡ true
      → list_all (is_met book) (path_needs hash st.contract st.advert (d.0) (prepared hash (d.1))) ≡ true
  in_all [] d k h = absurd k
  in_all (x ∷ ds) d k h =
      let e = flat_map-cons (λ (p : List PathStep × Prepared). path_needs hash st.contract st.advert p.0 p.1)
      (x.0, prepared hash x.1) (map {B = List PathStep × Prepared} (λ (p : List PathStep × Unsigned). (p.0, prepared hash p.1)) ds) in
      let a = sym (all-append (is_met book) (path_needs hash st.contract st.advert (x.0) (prepared hash (x.1)))
      (flat_map (λ (p : List PathStep × Prepared). path_needs hash st.contract st.advert p.0 p.1)
      (map {B = List PathStep × Prepared} (λ (p : List PathStep × Unsigned). (p.0, prepared hash p.1)) ds)))
      ∙ ap (list_all (is_met book)) (sym e) ∙ h in
      let two = and_parts _ _ a in
      by_place k two.0 (λ j. in_all ds d j two.1)
    where
      by_place : (d ≡ x) ⊎ Is_in d ds → list_all (is_met book) (path_needs hash st.contract st.advert (x.0) (prepared hash (x.1))) ≡ true
          → (Is_in d ds → list_all (is_met book) (path_needs hash st.contract st.advert (d.0) (prepared hash (d.1))) ≡ true)
          → list_all (is_met book) (path_needs hash st.contract st.advert (d.0) (prepared hash (d.1))) ≡ true
      by_place (inl e) f ih =
          subst (λ (y : List PathStep × Unsigned). list_all (is_met book) (path_needs hash st.contract st.advert (y.0) (prepared hash (y.1))) ≡ true) (sym e) f
      by_place (inr j) f ih = ih j

  path_is : branch_path here.position i ≡ q ++ To i ∷ []
  path_is = ap (λ p. p ++ To i ∷ []) (position_named hash st q here choice stands)

  at_is : at st.advert.root (branch_path here.position i) ≡ Some b
  at_is = ap (at st.advert.root) path_is ∙ term_branches hash st q here choice i stands ∙ there

  needs_met : list_all (is_met book) (branch_needs hash st.contract st.advert path b (digest_of_spent hash (tx_of made) here.output)
      ++ put_needs hash st.advert path (puts_of (core b)) (map (digest_of_spent hash (tx_of made)) (put_deposits hash st (puts_of (core b))))) ≡ true
  needs_met = sym (ap (λ o. list_all (is_met book)
      (option_map_or (λ c. needs_of hash st.contract st.advert path c (prepared hash made).digests) o [])) at_is)
      ∙ in_all (path_transactions hash st) (path, made) listed endorsed

  two : (list_all (is_met book) (branch_needs hash st.contract st.advert path b (digest_of_spent hash (tx_of made) here.output)) ≡ true)
      × (list_all (is_met book) (put_needs hash st.advert path (puts_of (core b))
      (map (digest_of_spent hash (tx_of made)) (put_deposits hash st (puts_of (core b))))) ≡ true)
  two = and_parts _ _ (sym (all-append (is_met book)
      (branch_needs hash st.contract st.advert path b (digest_of_spent hash (tx_of made) here.output))
      (put_needs hash st.advert path (puts_of (core b)) (map (digest_of_spent hash (tx_of made)) (put_deposits hash st (puts_of (core b)))))) ∙ needs_met)

  -- whom the branch doesn't ask has signed it
  pub branch_met : (a : List ℕ) → is_among a (people st) ≡ true → is_asked b a ≡ false
      → has_signed book (key_of hash (branch_label st.contract path a)) (digest_of_spent hash (tx_of made) here.output) ≡ true
  branch_met a h k =
      let ps = filter (λ party. not (is_asked b party)) (participants st.advert) in
      let all = sym (all_map (is_met book) (λ party.
      record { path = path; party = party; key = key_of hash (branch_label st.contract path party); digest = digest_of_spent hash (tx_of made) here.output })
      ps) ∙ two.0 in
      all_among (λ party. has_signed book (key_of hash (branch_label st.contract path party))
      (digest_of_spent hash (tx_of made) here.output)) ps a all (among_filter (λ party. not (is_asked b party)) a (participants st.advert) h (ap not k))

  each_put : (tx : Tx) (names : List (List ℕ)) (name : List ℕ) → Is_in name names
      → list_all (is_met book) (put_needs hash st.advert path names (map (digest_of_spent hash tx) (put_deposits hash st names))) ≡ true
      → has_signed book (deposit_key hash (put_owner st.advert name))
      (digest_of_spent hash tx (deposit hash st name (holding_or_none (look_up name (volatile st.advert.pre))))) ≡ true
  each_put tx [] name k h = absurd k
  each_put tx (x ∷ names) name k h =
      let p = and_parts _ (list_all (is_met book) (put_needs hash st.advert path names (map (digest_of_spent hash tx) (put_deposits hash st names)))) h in
      by_place k p.0 (λ j. each_put tx names name j p.1)
    where
      by_place : (name ≡ x) ⊎ Is_in name names
          → has_signed book (deposit_key hash (put_owner st.advert x))
          (digest_of_spent hash tx (deposit hash st x (holding_or_none (look_up x (volatile st.advert.pre))))) ≡ true
          → (Is_in name names → has_signed book (deposit_key hash (put_owner st.advert name))
          (digest_of_spent hash tx (deposit hash st name (holding_or_none (look_up name (volatile st.advert.pre))))) ≡ true)
          → has_signed book (deposit_key hash (put_owner st.advert name))
          (digest_of_spent hash tx (deposit hash st name (holding_or_none (look_up name (volatile st.advert.pre))))) ≡ true
      by_place (inl e) f ih = subst (λ y. has_signed book (deposit_key hash (put_owner st.advert y))
          (digest_of_spent hash tx (deposit hash st y (holding_or_none (look_up y (volatile st.advert.pre))))) ≡ true) (sym e) f
      by_place (inr j) f ih = ih j

  -- the owner of a deposit that the branch puts has signed
  pub put_met : (name : List ℕ) → Is_in name (puts_of (core b))
      → has_signed book (deposit_key hash (put_owner st.advert name))
      (digest_of_spent hash (tx_of made) (deposit hash st name (holding_or_none (look_up name (volatile st.advert.pre))))) ≡ true
  put_met name k = each_put (tx_of made) (puts_of (core b)) name k two.1
