-- What is kept when parties sign: endorsements, deposits of an initial transaction, branches that ask them, and what a dishonest party likes.
use Rattle.std.proofs.Common.{◌≡◌, ℕ, ◌≤◌, List, [], ◌∷◌, ◌++◌, length, map, Bool, true, false, Option, Some, refl, sym, ap, ◌∙◌, subst, inl, inr}
use Rattle.std.specs.Prelude.{◌&&◌, ◌⊎◌, slice_get, if◌then◌else◌}
use Rattle.std.specs.Str.{bytes_eq}
use Rattle.std.proofs.lemmas.Bool.{and_parts, or_cases, both_ways}
use Rattle.spec_data.specs.Lists.{is_among}
use Rattle.spec_terms.specs.Term as term
use Rattle.spec_terms.specs.Term.{Contract, branches}
use Rattle.spec_terms.specs.Core.{is_asked}
use Rattle.spec_terms.specs.Precondition.{Holding, persistent}
use Rattle.spec_terms.specs.declared.path.PathStep.{PathStep}
use Rattle.spec_terms.specs.declared.path.PathStep.TheVariants.{Branch as To}
use Rattle.spec_bitcoin.specs.declared.label.Label.{Label}
use Rattle.spec_bitcoin.specs.declared.label.Label.TheVariants as labels
use Rattle.spec_bitcoin.specs.declared.tx.Tx.{Tx}
use Rattle.spec_bitcoin.specs.Keys.{Pair, key_of, has_signed}
use Rattle.spec_calculus.specs.Configuration.{Configuration}
use Rattle.spec_calculus.specs.Beginning.{is_init_authorised}
use Rattle.spec_calculus.specs.Branches.{has_branch_authorised}
use Rattle.spec_compiler.specs.Instance.{Instance, branch_label, deposit_key, people}
use Rattle.spec_compiler.specs.declared.unsigned.Spent.{Spent}
use Rattle.spec_compiler.specs.Transactions.{Standing, tx_of, digest_of_spent, deposit, branch_unsigned, initial_unsigned}
use Rattle.spec_compiler.specs.Endorsements.{Need}
use Rattle.spec_compiler.specs.ByPath.{position_at}
use Rattle.spec_run.specs.Setup.{Setup, is_declared, is_honest, pre_at}
use Rattle.spec_run.specs.World.{ContractPosition, Output, World}
use Rattle.spec_run.specs.Compiled.{compiled_instance}
use Rattle.spec_run.specs.Conditions.{HashesBytes}
use Rattle.spec_run.specs.Signing.{signed_all, label_party, needs_at, pairs_of_party, pairs_of_deposits, initial_pairs, authorising_pairs}
use Rattle.spec_run.specs.Steps.{is_bound_live}
use Rattle.theory_calculus.proofs.Names.{bytes-true}
use Rattle.theory_calculus.specs.Members.{Is_in}
use Rattle.theory_world.specs.KeptApart.{NoCollision}
use Rattle.theory_world.proofs.Later.{lasts_refl, compiled_is}
use Rattle.theory_world.proofs.Book.{signed_more, signed_back}
use Rattle.theory_run.specs.KeptBook.{KeptBook, HeldFine, DepositCause, Needed, Started, BranchCause, needed, started}
use Rattle.theory_run.proofs.Facts.Kept.{Frame, signs}
use Rattle.theory_run.proofs.Accepted.Spending.{Checked}
use Rattle.theory_run.proofs.Facts.Labelled.{IsHeard, same_label, deposit_label, heard_label, behind_last, label_contract, label_path, lie_deposit, lie_branch, pairs_are, authorised_deposit, authorised_branch}
use Rattle.theory_world.proofs.Contracts.Endorsed.{need_of_pair, NeedIs, branch_need, put_need, need_is}

-- two names of one branch
pub record SameSpot (st su : Instance) (here there : Standing) (b c : term.Guarded) : Type 0 where
  pub settings : st ≡ su
  pub heres : here ≡ there
  pub branches : b ≡ c

pub same_spot : (s : Setup) (w : World) (k j : ℕ) (st su : Instance) (q r : List PathStep) (here there : Standing) (choice other : Contract)
    (i n : ℕ) (b c : term.Guarded)
    → compiled_instance s w k ≡ Some st → position_at s.hash st q ≡ Some (here, choice) → slice_get (branches choice) i ≡ Some b
    → compiled_instance s w j ≡ Some su → position_at s.hash su r ≡ Some (there, other) → slice_get (branches other) n ≡ Some c
    → k ≡ j → q ≡ r → i ≡ n → SameSpot st su here there b c
same_spot s w k j st su q r here there choice other i n b c ck eq tb cj er tc kj qr ni =
    let m : (let y : Option Instance = Some st in y) ≡ Some su = sym ck ∙ ap (compiled_instance s w) kj ∙ cj in
    let ss : st ≡ su = cc in
    let v : (let y : Option (Standing × Contract) = Some (here, choice) in y) ≡ Some (there, other) = sym eq ∙ (λ z. position_at s.hash (ss z) (qr z)) ∙ er in
    let both : (let y : Standing × Contract = (here, choice) in y) ≡ (there, other) = cc in
    let cs : choice ≡ other = ap (λ (y : Standing × Contract). y.1) both in
    let u : (let y : Option term.Guarded = Some b in y) ≡ Some c = sym tb ∙ (λ z. slice_get (branches (cs z)) (ni z)) ∙ tc in
    record { settings = ss; heres = ap (λ (y : Standing × Contract). y.0) both; branches = cc }

-- a pair is the first one, where that is there, or of the others
first_or_rest : (b : Bool) (key own k d : List ℕ) (rest : List Pair) → has_signed (if b then (key, own) ∷ rest else rest) k d ≡ true
    → ((key ≡ k) × (own ≡ d)) ⊎ (has_signed rest k d ≡ true)
first_or_rest true key own k d rest h = elim (or_cases (bytes_eq key k && bytes_eq own d) (has_signed rest k d) h) [
  | inl u ↦ (let p = and_parts (bytes_eq key k) (bytes_eq own d) u in inl (bytes-true key k p.0, bytes-true own d p.1))
  | inr v ↦ inr v
]
first_or_rest false key own k d rest h = inr h

-- a pair of a party's deposits
pub pair_of_deposit : (s : Setup) (st : Instance) (tx : Tx) (party : List ℕ) (ds : List (List ℕ × Holding)) (k d : List ℕ)
    → has_signed (pairs_of_deposits s party ds (map (digest_of_spent s.hash tx) (map (λ (e : List ℕ × Holding). deposit s.hash st e.0 e.1) ds))) k d ≡ true
    → (deposit_key s.hash party ≡ k) × ((x : Spent) × Is_in x (map (λ (e : List ℕ × Holding). deposit s.hash st e.0 e.1) ds)
    × (d ≡ digest_of_spent s.hash tx x))
pair_of_deposit s st tx party [] k d h = cc
pair_of_deposit s st tx party (e ∷ ds) k d h =
    elim (first_or_rest (bytes_eq (e.1).owner party) (deposit_key s.hash party) (digest_of_spent s.hash tx (deposit s.hash st e.0 e.1)) k d
    (pairs_of_deposits s party ds (map (digest_of_spent s.hash tx) (map (λ (e : List ℕ × Holding). deposit s.hash st e.0 e.1) ds))) h) [
      | inl u ↦ (u.0, (deposit s.hash st e.0 e.1, inl refl, sym u.1))
      | inr v ↦ (let r = pair_of_deposit s st tx party ds k d v in (r.0, (r.1.0, inr r.1.1, r.1.2)))
    ]

module _ (s : Setup) (size : HashesBytes s.hash) (few_contracts : length s.contracts ≤ 16) (g : Configuration) (w : World)
    (kept : KeptBook s g w) (check : Checked s w) (hs : List (List ℕ)) (clear : NoCollision s.hash hs)
    (sub : (t : List ℕ) → is_among t w.hashed ≡ true → is_among t hs ≡ true)
    (g' : Configuration) (height : ℕ) (posts : List (List ℕ))
    (inits : (k : ℕ) (x : List ℕ) → is_init_authorised g.init_authorised k x ≡ true → is_init_authorised g'.init_authorised k x ≡ true)
    (asked : (n i : ℕ) (a : List ℕ) → has_branch_authorised g.branch_authorised n i a ≡ true → has_branch_authorised g'.branch_authorised n i a ≡ true) where
  -- the world after these pairs are signed, whatever its height and its posted strings
  abbrev pub after_pairs : List Pair → World
  after_pairs pairs = record w { tip = height; book = signed_all w.book pairs; hashed = hs; posted = posts }

  abbrev DepositsNew : List Pair → Type 0
  DepositsNew pairs = (a d : List ℕ) → is_declared s a ≡ true → is_honest s a ≡ true → has_signed pairs (deposit_key s.hash a) d ≡ true
      → DepositCause s g' (after_pairs pairs) a d

  abbrev BranchesNew : List Pair → Type 0
  BranchesNew pairs = (k : ℕ) (st : Instance) (q : List PathStep) (here : Standing) (choice : Contract) (i : ℕ) (b : term.Guarded)
      (a d : List ℕ) → compiled_instance s w k ≡ Some st → position_at s.hash st q ≡ Some (here, choice) → slice_get (branches choice) i ≡ Some b
      → is_among a (people st) ≡ true → is_honest s a ≡ true → has_signed pairs (key_of s.hash (branch_label k (q ++ To i ∷ []) a)) d ≡ true
      → BranchCause s g' (after_pairs pairs) k st q here i b a d

  frame : (pairs : List Pair) → Frame s g g' w (after_pairs pairs)
  frame pairs = record {
    outputs = lasts_refl w.outputs;
    book = λ k d h. signed_more w.book pairs k d
        h;
    hashed = sub;
    compiled = λ k st h. h;
    bindings = λ k h. refl;
    inits = inits;
    asked = asked;
  }

  pub pairs_kept : (pairs : List Pair) → DepositsNew pairs → BranchesNew pairs → KeptBook s g' (after_pairs pairs)
  pairs_kept pairs dn bn = signs s g g' w (after_pairs pairs) (frame pairs) pairs kept refl (λ k st h. h)
      (λ k h e. absurd (both_ways _ e h)) (λ k d h. signed_back w.book pairs k d h) dn bn

  -- where nothing is signed
  pub quiet_kept : KeptBook s g' (after_pairs [])
  quiet_kept = pairs_kept [] (λ a d k h x. cc) (λ k st q here choice i b a d c e t p h x. cc)

  -- ---- at will

  pub sign_kept : (party : List ℕ) (label : Label) (digest : List ℕ) → is_honest s party ≡ false → label_party label ≡ party
      → IsHeard s size few_contracts g w kept check hs clear sub label → KeptBook s g' (after_pairs ((key_of s.hash label, digest) ∷ []))
  sign_kept party label digest lies owned fine =
      let next = after_pairs ((key_of s.hash label, digest) ∷ []) in
      pairs_kept ((key_of s.hash label, digest) ∷ [])
      (λ a d k h x. absurd (lie_deposit s size few_contracts g w kept check hs clear sub g' next party label digest lies owned fine a d k h x))
      (lie_branch s size few_contracts g w kept check hs clear sub g' next party label digest lies owned fine)

  -- ---- a branch that asks the party

  pub authorise_kept : (party : List ℕ) (n : ℕ) (o : Output) (held : ContractPosition) (there : slice_get w.outputs n ≡ Some o)
      (fine : HeldFine s w o held) (j : ℕ) (c : term.Guarded) → slice_get (branches fine.choice) j ≡ Some c → is_among party (people fine.instance) ≡ true
      → has_branch_authorised g'.branch_authorised n j party ≡ true → KeptBook s g' (after_pairs (authorising_pairs s w party (Some held) j))
  authorise_kept party n o held there fine j c has part now =
      let d = digest_of_spent s.hash (tx_of (branch_unsigned s.hash fine.instance fine.here j c)) fine.here.output in
      let pairs : List Pair = (key_of s.hash (branch_label held.contract (held.position ++ To j ∷ []) party), d) ∷ [] in
      let e = pairs_are s size few_contracts g w kept check hs clear sub g' (after_pairs pairs) refl party n o held there fine j c has part now in
      subst (λ ps. KeptBook s g' (after_pairs ps)) (sym e) (pairs_kept pairs
      (λ a d k h x. absurd (authorised_deposit s size few_contracts g w kept check hs clear sub g' (after_pairs pairs) refl party n o held
      there fine j c has part now a d k x))
      (λ k st q here choice i b a d e t p q' h x. authorised_branch s size few_contracts g w kept check hs clear sub g' (after_pairs pairs)
      refl party n o held there fine j c has part now k st q here choice i b a d e t p q' x))

  -- ---- endorsements

  module _ (party : List ℕ) (declared : is_declared s party ≡ true) (k0 : ℕ) (st0 : Instance) (given : compiled_instance s w k0 ≡ Some st0) where
    abbrev endorsing : List Pair
    endorsing = pairs_of_party party (needs_at s st0)

    named : st0.contract ≡ k0
    named = ap (λ (y : Instance). y.contract) (compiled_is s w k0 st0 given).is

    -- the need of a deposit's pair is the party's own
    pub endorse_needed : (a d : List ℕ) → is_declared s a ≡ true → has_signed endorsing (deposit_key s.hash a) d ≡ true
        → (h : Needed s (after_pairs endorsing) a d) × (h.contract ≡ k0) × (party ≡ a)
    endorse_needed a d decl x = by_need r.0 (need_is s.hash st0 r.0 r.1) r.2 r.3 r.4
      where
        r : (n : Need) × Is_in n (needs_at s st0) × (n.party ≡ party) × (n.key ≡ deposit_key s.hash a) × (n.digest ≡ d)
        r = need_of_pair party (needs_at s st0) (deposit_key s.hash a) d x

        by_need : (n : Need) → NeedIs s.hash st0 n → n.party ≡ party → n.key ≡ deposit_key s.hash a → n.digest ≡ d
            → (h : Needed s (after_pairs endorsing) a d) × (h.contract ≡ k0) × (party ≡ a)
        by_need n (branch_need path dr br part free key dig) np nk nd =
            let l = heard_label s size few_contracts g w kept check hs clear sub k0 st0
            br.is_branch.position br.here br.is_branch.choice br.index br.branch n.party given br.is_branch.stands br.is_branch.there part in
            let e : key_of s.hash (branch_label k0 (br.is_branch.position ++ To br.index ∷ []) n.party) ≡ deposit_key s.hash a =
            sym (λ m. key_of s.hash (branch_label (named m) (br.is_branch.path_is m) n.party)) ∙ sym key ∙ nk in
            let z = same_label s size few_contracts g w kept check hs clear sub (branch_label k0 (br.is_branch.position ++ To br.index ∷ []) n.party)
            (labels.Deposit a) l (deposit_label s size few_contracts g w kept check hs clear sub a decl) e in
            cc
        by_need n (put_need path dr br key y i dig) np nk nd =
            let own : deposit_key s.hash party ≡ deposit_key s.hash a = ap (deposit_key s.hash) (sym np) ∙ sym key ∙ nk in
            let z = same_label s size few_contracts g w kept check hs clear sub
            (labels.Deposit party) (labels.Deposit a) (deposit_label s size few_contracts g w kept check hs clear sub party declared)
            (deposit_label s size few_contracts g w kept check hs clear sub a decl) own in (
              record {
                contract = k0;
                instance = st0;
                compiled = given;
                position = br.is_branch.position;
                here = br.here;
                choice = br.is_branch.choice;
                stands = br.is_branch.stands;
                index = br.index;
                branch = br.branch;
                there = br.is_branch.there;
                spent = y;
                put = i;
                is = sym nd ∙ dig;
              },
              refl,
              ap label_party z,
            )

    endorse_branches : BranchesNew endorsing
    endorse_branches k st q here choice i b a d c e t p honest x = by_need r.0 (need_is s.hash st0 r.0 r.1) r.2 r.3 r.4
      where
        r : (n : Need) × Is_in n (needs_at s st0) × (n.party ≡ party) × (n.key ≡ key_of s.hash (branch_label k (q ++ To i ∷ []) a)) × (n.digest ≡ d)
        r = need_of_pair party (needs_at s st0) (key_of s.hash (branch_label k (q ++ To i ∷ []) a)) d x

        other : IsHeard s size few_contracts g w kept check hs clear sub (branch_label k (q ++ To i ∷ []) a)
        other = heard_label s size few_contracts g w kept check hs clear sub k st q here choice i b a c e t p

        by_need : (n : Need) → NeedIs s.hash st0 n → n.party ≡ party → n.key ≡ key_of s.hash (branch_label k (q ++ To i ∷ []) a) → n.digest
            ≡ d → BranchCause s g' (after_pairs endorsing) k st q here i b a d
        by_need n (put_need path dr br key y j dig) np nk nd =
            let decl : is_declared s n.party ≡ true = subst (λ z. is_declared s z ≡ true) (sym np) declared in
            let z = same_label s size few_contracts g w kept check hs clear sub (labels.Deposit n.party) (branch_label k (q ++ To i ∷ []) a)
            (deposit_label s size few_contracts g w kept check hs clear sub n.party decl) other (sym key ∙ nk) in
            cc
        by_need n (branch_need path dr br part free key dig) np nk nd = by_label z
          where
            l : IsHeard s size few_contracts g w kept check hs clear sub (branch_label k0 (br.is_branch.position ++ To br.index ∷ []) n.party)
            l = heard_label s size few_contracts g w kept check hs clear sub k0 st0 br.is_branch.position br.here br.is_branch.choice
                br.index br.branch n.party given br.is_branch.stands br.is_branch.there part

            z : branch_label k0 (br.is_branch.position ++ To br.index ∷ []) n.party ≡ branch_label k (q ++ To i ∷ []) a
            z = same_label s size few_contracts g w kept check hs clear sub
                (branch_label k0 (br.is_branch.position ++ To br.index ∷ []) n.party) (branch_label k (q ++ To i ∷ []) a) l other
                (sym (λ m. key_of s.hash (branch_label (named m) (br.is_branch.path_is m) n.party)) ∙ sym key ∙ nk)

            by_label : branch_label k0 (br.is_branch.position ++ To br.index ∷ []) n.party ≡ branch_label k (q ++ To i ∷ []) a
                → BranchCause s g' (after_pairs endorsing) k st q here i b a d
            by_label y =
                let kc : k0 ≡ k = ap label_contract y in
                let pq = behind_last br.is_branch.position q br.index i (ap label_path y) in
                let pa : n.party ≡ a = ap label_party y in
                let ss = same_spot s w k0 k st0 st br.is_branch.position q br.here
                here br.is_branch.choice choice br.index i br.branch b given br.is_branch.stands br.is_branch.there c e t kc pq.0 pq.1 in
                let unasked : is_asked b a ≡ false = sym (λ m. is_asked (ss.branches m) (pa m)) ∙ free in
                record {
                  is = sym nd ∙ dig ∙ (λ m. digest_of_spent s.hash
                      (tx_of (branch_unsigned s.hash (ss.settings m) (ss.heres m) (pq.1 m) (ss.branches m))) (ss.heres m).output);
                  existed = λ v. absurd (both_ways _ unasked v);
                  authorised = λ v. absurd (both_ways _ unasked v);
                }

    pub endorse_kept : KeptBook s g' (after_pairs endorsing)
    endorse_kept = pairs_kept endorsing (λ a d decl honest x. needed (endorse_needed a d decl x).0) endorse_branches

    -- ---- deposits of the initial transaction

    module _ (now : (e : List ℕ × Holding) → Is_in e (persistent (pre_at s k0))
        → (e.1).owner ≡ party → is_bound_live w k0 e ≡ true → is_init_authorised g'.init_authorised k0 (e.0) ≡ true) where
      abbrev starting : List Pair
      starting = initial_pairs s party (Some st0)

      pub start_started : (a d : List ℕ) → is_declared s a ≡ true → has_signed starting (deposit_key s.hash a) d ≡ true
          → (h : Started s g' (after_pairs starting) a d) × (h.contract ≡ k0) × (party ≡ a)
      start_started a d decl x =
          let r = pair_of_deposit s st0 (tx_of (initial_unsigned s.hash st0)) party (persistent st0.advert.pre) (deposit_key s.hash a) d x in
          let z = same_label s size few_contracts g w kept check hs clear sub
          (labels.Deposit party) (labels.Deposit a) (deposit_label s size few_contracts g w kept check hs clear sub party declared)
          (deposit_label s size few_contracts g w kept check hs clear sub a decl) r.0 in
          let pa : party ≡ a = ap label_party z in (
            record {
              contract = k0;
              instance = st0;
              compiled = given;
              spent = r.1.0;
              persists = r.1.1;
              is = r.1.2;
              authorised = λ e i o l. now e i (o ∙ sym pa) l;
            },
            refl,
            pa,
          )

      start_branches : BranchesNew starting
      start_branches k st q here choice i b a d c e t p honest x =
          let r = pair_of_deposit s st0 (tx_of (initial_unsigned s.hash st0)) party
          (persistent st0.advert.pre) (key_of s.hash (branch_label k (q ++ To i ∷ []) a)) d x in
          let z = same_label s size few_contracts g w kept check hs clear sub (labels.Deposit party)
          (branch_label k (q ++ To i ∷ []) a) (deposit_label s size few_contracts g w kept check hs clear sub party declared)
          (heard_label s size few_contracts g w kept check hs clear sub k st q here choice i b a c e t p) r.0 in
          cc

      pub init_kept : KeptBook s g' (after_pairs starting)
      init_kept = pairs_kept starting (λ a d decl honest x. started (start_started a d decl x).0) start_branches
