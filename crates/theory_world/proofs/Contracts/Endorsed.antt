-- What a party signs when it endorses a contract: puts of deposits, and branches that don't ask it.
use Rattle.std.proofs.Common.{◌≡◌, ℕ, List, [], ◌∷◌, ◌++◌, map, Bool, true, false, not, Option, Some, None, refl, sym, ap, ◌∙◌, subst, inl, inr}
use Rattle.std.specs.Prelude.{◌&&◌, ◌⊎◌, if◌then◌else◌}
use Rattle.std.specs.List.{flat_map, filter}
use Rattle.std.specs.Option.{option_and_then, option_map_or}
use Rattle.std.specs.Str.{bytes_eq}
use Rattle.std.proofs.lemmas.Bool.{and_parts, or_left, or_right, or_cases}
use Rattle.std.proofs.lemmas.List.Concat.{flat_map-cons}
use Rattle.spec_data.specs.Lists.{is_among}
use Rattle.spec_terms.specs.Term as term
use Rattle.spec_terms.specs.Core.{core, puts_of, is_asked}
use Rattle.spec_terms.specs.Parties.{participants}
use Rattle.spec_terms.specs.Paths.{at}
use Rattle.spec_terms.specs.declared.path.PathStep.{PathStep}
use Rattle.spec_bitcoin.specs.declared.tx.Tx.{Tx}
use Rattle.spec_bitcoin.specs.Keys.{key_of, has_signed}
use Rattle.spec_compiler.specs.declared.prepared.Prepared.{Prepared}
use Rattle.spec_compiler.specs.Instance.{Instance, branch_label, deposit_key, people}
use Rattle.spec_compiler.specs.declared.unsigned.Spent.{Spent}
use Rattle.spec_compiler.specs.declared.unsigned.Unsigned.{Unsigned}
use Rattle.spec_compiler.specs.Transactions.{Standing, tx_of, digest_of_spent, put_deposits, prepared, branch_unsigned}
use Rattle.spec_compiler.specs.Compilation.{path_transactions, compilation}
use Rattle.spec_compiler.specs.Endorsements.{Need, needs, path_needs, needs_of, branch_needs, put_needs}
use Rattle.spec_compiler.specs.ByPath as by_path
use Rattle.spec_compiler.specs.ByPath.{PathEnd, end_at, as_unsigned, unsigned_at}
use Rattle.spec_run.specs.Signing.{pairs_of_party}
use Rattle.theory_calculus.proofs.Names.{bytes-true, bytes_refl}
use Rattle.theory_calculus.specs.Members.{Is_in}
use Rattle.theory_calculus.proofs.Members.{in_filter}
use Rattle.theory_script.proofs.Listing.Transactions.{AreRight, transactions_right}
use Rattle.theory_world.proofs.Contracts.Standing.{term_branch}
use Rattle.theory_world.proofs.Contracts.Made.{IsBranch, known}

-- ---- elements of lists

pub in_map : {A B : Type 0} (f : A → B) (xs : List A) (y : B) → Is_in y (map f xs) → (x : A) × Is_in x xs × (y ≡ f x)
in_map f [] y h = absurd h
in_map f (x ∷ xs) y (inl e) = (x, inl refl, e)
in_map f (x ∷ xs) y (inr i) = let r = in_map f xs y i in (r.0, inr r.1, r.2)

pub in_joined : {A : Type 0} (xs ys : List A) (x : A) → Is_in x (xs ++ ys) → Is_in x xs ⊎ Is_in x ys
in_joined [] ys x h = inr h
in_joined (y ∷ xs) ys x (inl e) = inl (inl e)
in_joined (y ∷ xs) ys x (inr k) = elim (in_joined xs ys x k) [ inl u ↦ inl (inr u) | inr v ↦ inr v ]

pub in_flat : {A B : Type 0} (f : A → List B) (xs : List A) (y : B) → Is_in y (flat_map f xs) → (x : A) × Is_in x xs × Is_in y (f x)
in_flat f [] y h = absurd h
in_flat f (x ∷ xs) y h = elim (in_joined (f x) (flat_map f xs) y (subst (Is_in y) (flat_map-cons f x xs) h)) [
  | inl k ↦ (x, inl refl, k)
  | inr k ↦ (let r = in_flat f xs y k in (r.0, inr r.1, r.2))
]

pub in_among : (xs : List (List ℕ)) (x : List ℕ) → Is_in x xs → is_among x xs ≡ true
in_among [] x h = absurd h
in_among (y ∷ ys) x (inl e) = or_left _ _ (subst (λ z. bytes_eq y z ≡ true) (sym e) (bytes_refl y))
in_among (y ∷ ys) x (inr k) = or_right (bytes_eq y x) _ (in_among ys x k)

-- ---- needs

-- the need of a pair of a party
pub need_of_pair : (party : List ℕ) (ns : List Need) (k d : List ℕ) → has_signed (pairs_of_party party ns) k d ≡ true → (n : Need)
    × Is_in n ns × (n.party ≡ party) × (n.key ≡ k) × (n.digest ≡ d)
need_of_pair party [] k d h = cc
need_of_pair party (n ∷ ns) k d h = by_test (bytes_eq n.party party) refl h (λ v. need_of_pair party ns k d v)
  where
    later : ((m : Need) × Is_in m ns × (m.party ≡ party) × (m.key ≡ k) × (m.digest ≡ d)) → (m : Need) × Is_in m (n ∷ ns) × (m.party ≡ party)
        × (m.key ≡ k) × (m.digest ≡ d)
    later r = (r.0, inr r.1, r.2, r.3, r.4)

    by_test : (b : Bool) → bytes_eq n.party party ≡ b
        → has_signed (if b then (n.key, n.digest) ∷ pairs_of_party party ns else pairs_of_party party ns) k d ≡ true
        → (has_signed (pairs_of_party party ns) k d ≡ true → (m : Need) × Is_in m ns × (m.party ≡ party) × (m.key ≡ k) × (m.digest ≡ d))
        → (m : Need) × Is_in m (n ∷ ns) × (m.party ≡ party) × (m.key ≡ k) × (m.digest ≡ d)
    by_test true e x ih = elim (or_cases (bytes_eq n.key k && bytes_eq n.digest d) (has_signed (pairs_of_party party ns) k d) x) [
      | inl u ↦ (let p = and_parts (bytes_eq n.key k) (bytes_eq n.digest d) u in
          (n, inl refl, bytes-true n.party party e, bytes-true n.key k p.0, bytes-true n.digest d p.1))
      | inr v ↦ later (ih v)
    ]
    by_test false e x ih = later (ih x)

right_in : (f : List PathStep → Option Unsigned) (es : List (List PathStep × Unsigned)) (e : List PathStep × Unsigned) → AreRight f es
    → Is_in e es → f (e.0) ≡ Some (e.1)
right_in f [] e h k = absurd k
right_in f (x ∷ es) e h (inl q) = subst (λ (y : List PathStep × Unsigned). f (y.0) ≡ Some (y.1)) (sym q) h.0
right_in f (x ∷ es) e h (inr k) = right_in f es e h.1 k

module _ (hash : List ℕ → List ℕ) (st : Instance) where
  -- the branch of a need
  pub record AtBranch (path : List PathStep) (d : Unsigned) : Type 0 where
    pub here : Standing
    pub index : ℕ
    pub branch : term.Guarded
    pub is_branch : IsBranch hash st path here index branch
    pub in_text : at st.advert.root path ≡ Some branch
    pub unsigned_is : d ≡ branch_unsigned hash st here index branch

  at_unsigned : (path : List PathStep) (d : Unsigned) → unsigned_at hash st path ≡ Some d → AtBranch path d
  at_unsigned path d h = by_stand (end_at hash st path) refl h
    where
      by_stand : (o : Option PathEnd) → end_at hash st path ≡ o → option_and_then (as_unsigned hash st) o ≡ Some d → AtBranch path d
      by_stand None e x = cc
      by_stand (Some (by_path.at_position a c)) e x = cc
      by_stand (Some (by_path.at_branch a i b)) e x =
          let z : branch_unsigned hash st a i b ≡ d = cc in
          record {
            here = a;
            index = i;
            branch = b;
            is_branch = known hash st path (by_path.at_branch a i b) e;
            in_text = term_branch hash
                st path a i b e;
            unsigned_is = sym z;
          }

  pub data NeedIs (n : Need) : Type 0 where
    branch_need : (path : List PathStep) (d : Unsigned) (a : AtBranch path d) → is_among n.party (people st) ≡ true
        → is_asked a.branch n.party ≡ false → n.key ≡ key_of hash (branch_label st.contract path n.party)
        → n.digest ≡ digest_of_spent hash (tx_of (branch_unsigned hash st a.here a.index a.branch)) a.here.output → NeedIs n
    put_need : (path : List PathStep) (d : Unsigned) (a : AtBranch path d) → n.key ≡ deposit_key hash n.party → (x : Spent)
        → Is_in x (put_deposits hash st (puts_of (core a.branch)))
        → n.digest ≡ digest_of_spent hash (tx_of (branch_unsigned hash st a.here a.index a.branch)) x → NeedIs n

  put_in : (tx : Tx) (path : List PathStep) (names : List (List ℕ)) (n : Need)
      → Is_in n (put_needs hash st.advert path names (map (digest_of_spent hash tx) (put_deposits hash st names)))
      → (n.key ≡ deposit_key hash n.party) × ((x : Spent) × Is_in x (put_deposits hash st names) × (n.digest ≡ digest_of_spent hash tx x))
  put_in tx path [] n h = absurd h
  put_in tx path (m ∷ names) n (inl e) = (
    let f = ap (λ (y : Need). y.key) e in let g = ap (λ (y : Need). y.party) e in f ∙ ap (deposit_key hash) (sym g),
    (_, inl refl, ap (λ (y : Need). y.digest) e),
  )
  put_in tx path (m ∷ names) n (inr k) = let r = put_in tx path names n k in (r.0, (r.1.0, inr r.1.1, r.1.2))

  branch_in : (path : List PathStep) (d : Unsigned) (a : AtBranch path d) (n : Need)
      → Is_in n (branch_needs hash st.contract st.advert path a.branch
      (digest_of_spent hash (tx_of (branch_unsigned hash st a.here a.index a.branch)) a.here.output)) → NeedIs n
  branch_in path d a n h =
      let r = in_map {B = Need} (λ party. record {
        path = path;
        party = party;
        key = key_of hash (branch_label st.contract path party);
        digest = digest_of_spent hash (tx_of (branch_unsigned hash st a.here a.index a.branch)) a.here.output;
      }) (filter (λ party. not (is_asked a.branch party)) (participants st.advert)) n h in
      let f = in_filter (λ party. not (is_asked a.branch party)) (participants st.advert) r.0 r.1 in
      let p : n.party ≡ r.0 = ap (λ (y : Need). y.party) r.2 in
      branch_need path d a (subst (λ y. is_among y (people st) ≡ true) (sym p) (in_among (participants st.advert) r.0 f.0))
      (subst (λ y. is_asked a.branch y ≡ false) (sym p) (not-true _ f.1))
      (ap (λ (y : Need). y.key) r.2 ∙ ap (λ y. key_of hash (branch_label st.contract path y)) (sym p)) (ap (λ (y : Need). y.digest) r.2)
    where
      not-true : (b : Bool) → not b ≡ true → b ≡ false
      not-true true x = cc
      not-true false x = refl

  -- what a need is
  pub need_is : (n : Need) → Is_in n (needs hash st.contract st.advert (compilation hash st).paths) → NeedIs n
  need_is n h = by_path_of (in_flat (λ (p : List PathStep × Prepared). path_needs hash st.contract st.advert p.0 p.1) (compilation hash st).paths n h)
    where
      by_path_of : ((p : List PathStep × Prepared) × Is_in p (compilation hash st).paths × Is_in n (path_needs hash st.contract st.advert p.0 p.1)) → NeedIs n
      by_path_of r =
          by_unsigned (in_map {B = List PathStep × Prepared} (λ (p : List PathStep × Unsigned). (p.0, prepared hash p.1)) (path_transactions hash st) r.0 r.1)
        where
          by_unsigned : ((p : List PathStep × Unsigned) × Is_in p (path_transactions hash st) × (r.0 ≡ (p.0, prepared hash p.1))) → NeedIs n
          by_unsigned q = by_needs (in_joined (branch_needs hash st.contract st.advert (q.0.0) a.branch
              (digest_of_spent hash (tx_of (branch_unsigned hash st a.here a.index a.branch)) a.here.output)) _ n required)
            where
              a : AtBranch (q.0.0) (q.0.1)
              a = at_unsigned (q.0.0) (q.0.1) (right_in (unsigned_at hash st) (path_transactions hash st) q.0 (transactions_right hash st) q.1)

              made : (x : List PathStep × Prepared) → r.0 ≡ x → Is_in n (path_needs hash st.contract st.advert x.0 x.1)
              made x e = subst (λ (y : List PathStep × Prepared). Is_in n (path_needs hash st.contract st.advert y.0 y.1)) e r.2

              required : Is_in n (needs_of hash st.contract st.advert (q.0.0) a.branch
                  (prepared hash (branch_unsigned hash st a.here a.index a.branch)).digests)
              required = subst (λ (y : Unsigned). Is_in n (needs_of hash st.contract st.advert (q.0.0) a.branch (prepared hash y).digests)) a.unsigned_is
                  (subst (λ o. Is_in n (option_map_or (λ b. needs_of hash st.contract st.advert (q.0.0) b (prepared hash q.0.1).digests) o
                  [])) a.in_text (made (q.0.0, prepared hash q.0.1) q.2))

              by_needs : Is_in n (branch_needs hash st.contract st.advert (q.0.0) a.branch
                  (digest_of_spent hash (tx_of (branch_unsigned hash st a.here a.index a.branch)) a.here.output))
                  ⊎ Is_in n (put_needs hash st.advert (q.0.0) (puts_of (core a.branch))
                  (map (digest_of_spent hash (tx_of (branch_unsigned hash st a.here a.index a.branch)))
                  (put_deposits hash st (puts_of (core a.branch))))) → NeedIs n
              by_needs (inl k) = branch_in (q.0.0) (q.0.1) a n k
              by_needs (inr k) =
                  let p = put_in (tx_of (branch_unsigned hash st a.here a.index a.branch)) (q.0.0) (puts_of (core a.branch)) n k in
                  put_need (q.0.0) (q.0.1) a p.0 p.1.0 p.1.1 p.1.2
