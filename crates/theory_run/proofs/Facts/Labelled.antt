-- Keys of labels that take part in a run are told apart, and what the pair of one label says of honest parties' signatures.
use Rattle.std.proofs.Common.{◌≡◌, ℕ, ◌≤◌, List, [], ◌∷◌, ◌++◌, length, Bool, true, false, Option, Some, None, refl, sym, ap, ◌∙◌, subst, arith, inl, inr}
use Rattle.std.specs.Prelude.{◌&&◌, slice_get, if◌then◌else◌, option_map}
use Rattle.std.specs.Str.{bytes_eq}
use Rattle.std.proofs.lemmas.Bool.{and_parts, or_cases, both_ways}
use Rattle.spec_data.specs.Lists.{is_among}
use Rattle.spec_terms.specs.Term as term
use Rattle.spec_terms.specs.Term.{Contract, branches}
use Rattle.spec_terms.specs.Paths as terms
use Rattle.spec_terms.specs.declared.path.PathStep.{PathStep}
use Rattle.spec_terms.specs.declared.path.PathStep.TheVariants.{Branch as To}
use Rattle.spec_bitcoin.specs.declared.label.Label.{Label}
use Rattle.spec_bitcoin.specs.declared.label.Label.TheVariants as labels
use Rattle.spec_bitcoin.specs.Keys.{key_of, label_text, has_signed, IsLabel}
use Rattle.spec_calculus.specs.Configuration.{Configuration}
use Rattle.spec_calculus.specs.Branches.{has_branch_authorised}
use Rattle.spec_compiler.specs.Instance.{Instance, branch_label, deposit_key, people}
use Rattle.spec_compiler.specs.Transactions.{Standing, tx_of, digest_of_spent, prepared, branch_unsigned}
use Rattle.spec_compiler.specs.ByPath.{position_at}
use Rattle.spec_compiler.specs.Hashed.{compiled_strings}
use Rattle.spec_run.specs.Setup.{Setup, is_declared, is_honest}
use Rattle.spec_run.specs.World.{ContractPosition, Output, World, live_position_at, live_position}
use Rattle.spec_run.specs.Compiled.{compiled_instance}
use Rattle.spec_run.specs.Conditions.{HashesBytes}
use Rattle.spec_run.specs.Signing.{label_party, branch_pair, prepared_if_compiled, authorising_pairs}
use Rattle.spec_run.specs.Ledger.{position_path}
use Rattle.theory_bitcoin.proofs.Labels.{one_label}
use Rattle.theory_calculus.proofs.Names.{bytes-true}
use Rattle.theory_calculus.proofs.Members.{get_below}
use Rattle.theory_world.specs.KeptApart.{NoCollision}
use Rattle.theory_world.proofs.Book.{key-apart}
use Rattle.theory_world.proofs.Labels.{path_fine}
use Rattle.theory_world.proofs.Later.{compiled_is}
use Rattle.theory_world.proofs.Contracts.Standing.{stand_of_branch, unsigned_of_branch, view_at}
use Rattle.theory_run.specs.KeptBook.{KeptBook, HeldFine, BranchCause}
use Rattle.theory_run.proofs.Accepted.Spending.{Checked, label_heard}

-- the one pair of a list of one
pub one_pair : (key digest k d : List ℕ) → has_signed ((key, digest) ∷ []) k d ≡ true → (key ≡ k) × (digest ≡ d)
one_pair key digest k d h = elim (or_cases (bytes_eq key k && bytes_eq digest d) false h) [
  | inl x ↦ (let p = and_parts (bytes_eq key k) (bytes_eq digest d) x in (bytes-true key k p.0, bytes-true digest d p.1))
  | inr y ↦ cc
]

-- paths of branches are equal only where the positions and the numbers are
pub behind_last : (p q : List PathStep) (i j : ℕ) → p ++ To i ∷ [] ≡ q ++ To j ∷ [] → (p ≡ q) × (i ≡ j)
behind_last [] [] i j h = let e : To i ∷ [] ≡ To j ∷ [] = h in (refl, cc)
behind_last [] (y ∷ []) i j h = cc
behind_last [] (y ∷ z ∷ q) i j h = cc
behind_last (x ∷ []) [] i j h = cc
behind_last (x ∷ z ∷ p) [] i j h = cc
behind_last (x ∷ p) (y ∷ q) i j h =
    let e : x ≡ y = cc in
    let f : p ++ To i ∷ [] ≡ q ++ To j ∷ [] = cc in
    let r = behind_last p q i j f in
    ((λ t. e t ∷ r.0 t), r.1)

abbrev pub label_contract : Label → ℕ
label_contract (labels.Deposit p) = 0
label_contract (labels.Branch c p a) = c

abbrev pub label_path : Label → List PathStep
label_path (labels.Deposit p) = []
label_path (labels.Branch c p a) = p

-- the label of a participant's key of a branch of a compiled contract, whose strings are among these
pub compiled_label : (s : Setup) → length s.contracts ≤ 16 → (w : World) → Checked s w → (hs : List (List ℕ))
    → ((j : ℕ) (su : Instance) → compiled_instance s w j ≡ Some su → (t : List ℕ) → is_among t (compiled_strings s.hash su) ≡ true → is_among t hs ≡ true)
    → (k : ℕ) (st : Instance) (q : List PathStep) (here : Standing) (choice : Contract) (i : ℕ) (b : term.Guarded) (a : List ℕ)
    → compiled_instance s w k ≡ Some st → position_at s.hash st q ≡ Some (here, choice) → slice_get (branches choice) i ≡ Some b
    → is_among a (people st) ≡ true
    → IsLabel (branch_label k (q ++ To i ∷ []) a) × (is_among (label_text (branch_label k (q ++ To i ∷ []) a)) hs ≡ true)
compiled_label s few_contracts w check hs heard k st q here choice i b a c e t p =
    let ci = compiled_is s w k st c in
    let sc : st.contract ≡ k = ap (λ (y : Instance). y.contract) ci.is in
    let lt = get_below s.contracts k ci.advert ci.there in
    let subterm : terms.subterm_from (terms.position st.advert.root) (q ++ To i ∷ []) ≡ Some (terms.at_branch b) =
    view_at s.hash st (q ++ To i ∷ []) ∙ ap (option_map _) (stand_of_branch s.hash st q here choice i b e t) in (
      (omega (arith, lt, few_contracts), path_fine st.advert (q ++ To i ∷ []) (terms.at_branch b) (check.checked k st c) subterm),
      subst (λ n. is_among (label_text (branch_label n (q ++ To i ∷ []) a)) hs ≡ true) sc (label_heard s.hash st hs (heard k st c) q here choice i b e t a p),
    )

module _ (s : Setup) (size : HashesBytes s.hash) (few_contracts : length s.contracts ≤ 16) (g : Configuration) (w : World) (kept : KeptBook s g w)
    (check : Checked s w) (hs : List (List ℕ)) (clear : NoCollision s.hash hs) (sub : (t : List ℕ) → is_among t w.hashed ≡ true → is_among t hs ≡ true) where
  -- a label that a run's messages have
  pub record IsHeard (l : Label) : Type 0 where
    pub fine : IsLabel l
    pub heard : is_among (label_text l) hs ≡ true

  pub same_label : (l m : Label) → IsHeard l → IsHeard m → key_of s.hash l ≡ key_of s.hash m → l ≡ m
  same_label l m a b e = one_label l m a.fine b.fine (key-apart s.hash hs l m clear a.heard b.heard e)

  pub deposit_label : (a : List ℕ) → is_declared s a ≡ true → IsHeard (labels.Deposit a)
  deposit_label a h = record { fine = tt; heard = sub _ (kept.labelled a h) }

  pub heard_label : (k : ℕ) (st : Instance) (q : List PathStep) (here : Standing) (choice : Contract) (i : ℕ) (b : term.Guarded)
      (a : List ℕ) → compiled_instance s w k ≡ Some st → position_at s.hash st q ≡ Some (here, choice) → slice_get (branches choice) i
      ≡ Some b → is_among a (people st) ≡ true
      → IsHeard (branch_label k (q ++ To i ∷ []) a)
  heard_label k st q here choice i b a c e t p =
      let r = compiled_label s few_contracts w check hs (λ j su d x y. sub x (kept.heard j su d x y)) k st q here choice i b a c e t p in
      record { fine = r.0; heard = r.1 }

  -- ---- a pair that a dishonest party signs at will

  module _ (g' : Configuration) (next : World) (party : List ℕ)
      (label : Label) (digest : List ℕ) (lies : is_honest s party ≡ false) (owned : label_party label ≡ party) (fine : IsHeard label) where
    pub lie_deposit : (a d : List ℕ) → is_declared s a ≡ true → is_honest s a ≡ true
        → has_signed ((key_of s.hash label, digest) ∷ []) (deposit_key s.hash a) d ≡ true → ⊥
    lie_deposit a d k h x =
        let p = one_pair (key_of s.hash label) digest (deposit_key s.hash a) d x in
        let e = same_label label (labels.Deposit a) fine (deposit_label a k) p.0 in
        let f : party ≡ a = sym owned ∙ ap label_party e in
        both_ways _ lies (subst (λ y. is_honest s y ≡ true) (sym f) h)

    pub lie_branch : (k : ℕ) (st : Instance) (q : List PathStep) (here : Standing) (choice : Contract) (i : ℕ) (b : term.Guarded)
        (a d : List ℕ) → compiled_instance s w k ≡ Some st → position_at s.hash st q ≡ Some (here, choice) → slice_get (branches choice) i ≡ Some b
        → is_among a (people st) ≡ true → is_honest s a ≡ true
        → has_signed ((key_of s.hash label, digest) ∷ []) (key_of s.hash (branch_label k (q ++ To i ∷ []) a)) d ≡ true
        → BranchCause s g' next k st q here i b a d
    lie_branch k st q here choice i b a d c e t p h x =
        let r = one_pair (key_of s.hash label) digest (key_of s.hash (branch_label k (q ++ To i ∷ []) a)) d x in
        let y = same_label label (branch_label k (q ++ To i ∷ []) a) fine (heard_label k st q here choice i b a c e t p) r.0 in
        let f : party ≡ a = sym owned ∙ ap label_party y in
        absurd (both_ways _ lies (subst (λ z. is_honest s z ≡ true) (sym f) h))

  -- ---- the pair of a branch that a party authorises

  module _ (g' : Configuration) (next : World) (outs : next.outputs ≡ w.outputs) (party : List ℕ) (n : ℕ) (o : Output)
      (held : ContractPosition) (there : slice_get w.outputs n ≡ Some o) (fine : HeldFine s w o held)
      (j : ℕ) (c : term.Guarded) (has : slice_get (branches fine.choice) j ≡ Some c)
      (part : is_among party (people fine.instance) ≡ true) (now : has_branch_authorised g'.branch_authorised n j party ≡ true) where
    abbrev digest : List ℕ
    digest = digest_of_spent s.hash (tx_of (branch_unsigned s.hash fine.instance fine.here j c)) fine.here.output

    abbrev label : Label
    label = branch_label held.contract (held.position ++ To j ∷ []) party

    label_fine : IsHeard label
    label_fine = heard_label held.contract fine.instance held.position fine.here fine.choice j c party fine.compiled fine.stands has part

    pub pairs_are : authorising_pairs s w party (Some held) j ≡ (key_of s.hash label, digest) ∷ []
    pairs_are =
        ap (λ (x : Option Instance). branch_pair s party held.contract (position_path held j) (prepared_if_compiled s x (position_path held j))) fine.compiled
        ∙ ap (λ x. branch_pair s party held.contract (position_path held j) (option_map (prepared s.hash) x))
        (unsigned_of_branch s.hash fine.instance held.position fine.here fine.choice j c fine.stands has)

    pub authorised_deposit : (a d : List ℕ) → is_declared s a ≡ true → has_signed ((key_of s.hash label, digest) ∷ []) (deposit_key s.hash a) d ≡ true → ⊥
    authorised_deposit a d k x =
        let p = one_pair (key_of s.hash label) digest (deposit_key s.hash a) d x in
        let e = same_label label (labels.Deposit a) label_fine (deposit_label a k) p.0 in
        cc

    pub authorised_branch : (k : ℕ) (st : Instance) (q : List PathStep) (here : Standing) (choice : Contract) (i : ℕ) (b : term.Guarded)
        (a d : List ℕ) → compiled_instance s w k ≡ Some st → position_at s.hash st q ≡ Some (here, choice) → slice_get (branches choice) i ≡ Some b
        → is_among a (people st) ≡ true → has_signed ((key_of s.hash label, digest) ∷ [])
        (key_of s.hash (branch_label k (q ++ To i ∷ []) a)) d ≡ true → BranchCause s g' next k st q here i b a d
    authorised_branch k st q here choice i b a d given e t p x = found
      where
        r : (key_of s.hash label ≡ key_of s.hash (branch_label k (q ++ To i ∷ []) a)) × (digest ≡ d)
        r = one_pair (key_of s.hash label) digest (key_of s.hash (branch_label k (q ++ To i ∷ []) a)) d x

        same : label ≡ branch_label k (q ++ To i ∷ []) a
        same = same_label label (branch_label k (q ++ To i ∷ []) a) label_fine (heard_label k st q here choice i b a given e t p) r.0

        kc : held.contract ≡ k
        kc = ap label_contract same

        pq : (held.position ≡ q) × (j ≡ i)
        pq = behind_last held.position q j i (ap label_path same)

        pa : party ≡ a
        pa = ap label_party same

        settings : fine.instance ≡ st
        settings = let m : (let y : Option Instance = Some fine.instance in y) ≡ Some st = sym fine.compiled ∙ ap (compiled_instance s w) kc ∙ given in cc

        stands : (let y : Option (Standing × Contract) = Some (fine.here, fine.choice) in y) ≡ Some (here, choice)
        stands = sym fine.stands ∙ (λ m. position_at s.hash (settings m) (pq.0 m)) ∙ e

        both : (let y : Standing × Contract = (fine.here, fine.choice) in y) ≡ (here, choice)
        both = let m = stands in cc

        heres : fine.here ≡ here
        heres = ap (λ (y : Standing × Contract). y.0) both

        choices : fine.choice ≡ choice
        choices = ap (λ (y : Standing × Contract). y.1) both

        bs : c ≡ b
        bs = let m : (let y : Option term.Guarded = Some c in y) ≡ Some b = sym has ∙ (λ z. slice_get (branches (choices z)) (pq.1 z)) ∙ t in cc

        held_is : held ≡ record { contract = k; position = q }
        held_is = λ m. record { contract = kc m; position = pq.0 m }

        found : BranchCause s g' next k st q here i b a d
        found = record {
          is = sym r.1 ∙ (λ m. digest_of_spent s.hash (tx_of (branch_unsigned s.hash (settings m) (heres m) (pq.1 m) (bs m))) (heres m).output);
          existed = λ z. (n, o, subst (λ os. slice_get os n ≡ Some o) (sym outs) there, fine.outpoint ∙ ap (λ (y : Standing). y.output.outpoint) heres);
          authorised = λ z m hm.
              let u = held_there m hm in
              let v = kept.apart m n u.0 o u.1 there
              ((kept.held m u.0 (record { contract = k; position = q }) u.1 u.2).outpoint ∙ sym (same_place m u.0 u.1 u.2)) in
              subst (λ y. has_branch_authorised g'.branch_authorised y i a ≡ true) (sym v)
              (subst (λ y. has_branch_authorised g'.branch_authorised n y a ≡ true) pq.1
              (subst (λ y. has_branch_authorised g'.branch_authorised n j y ≡ true) pa now));
        }
          where
            held_there : (m : ℕ) → live_position_at next m ≡ Some (record { contract = k; position = q }) → (x : Output)
                × (slice_get w.outputs m ≡ Some x) × (x.holds ≡ Some (record { contract = k; position = q }))
            held_there m h =
                by_output (slice_get w.outputs m) refl (subst (λ os. live_position (slice_get os m) ≡ Some (record { contract = k; position = q })) outs h)
              where
                by_output : (y : Option Output) → slice_get w.outputs m ≡ y → live_position y ≡ Some (record { contract = k; position = q })
                    → (x : Output) × (slice_get w.outputs m ≡ Some x) × (x.holds ≡ Some (record { contract = k; position = q }))
                by_output None f l = cc
                by_output (Some y) f l = by_live y.live refl l
                  where
                    by_live : (b : Bool) → y.live ≡ b → (if b then y.holds else None) ≡ Some (record { contract = k; position = q })
                        → (x : Output) × (slice_get w.outputs m ≡ Some x) × (x.holds ≡ Some (record { contract = k; position = q }))
                    by_live true v z = (y, f, z)
                    by_live false v z = cc

            -- where what holds the position lies
            same_place : (m : ℕ) (x : Output) (l : slice_get w.outputs m ≡ Some x)
                (z : x.holds ≡ Some (record { contract = k; position = q })) → o.outpoint
                ≡ (kept.held m x (record { contract = k; position = q }) l z).here.output.outpoint
            same_place m x l z =
                let f = kept.held m x (record { contract = k; position = q }) l z in
                let u : (let y : Option Instance = Some f.instance in y) ≡ Some st = sym f.compiled ∙ given in
                let us : f.instance ≡ st = cc in
                let v : (let y : Option (Standing × Contract) = Some (f.here, f.choice) in y) ≡ Some (here, choice) =
                sym f.stands ∙ ap (λ y. position_at s.hash y q) us ∙ e in
                let vb : (let y : Standing × Contract = (f.here, f.choice) in y) ≡ (here, choice) = cc in
                let vh : f.here ≡ here = ap (λ (y : Standing × Contract). y.0) vb in
                fine.outpoint ∙ ap (λ (y : Standing). y.output.outpoint) (heres ∙ sym vh)
