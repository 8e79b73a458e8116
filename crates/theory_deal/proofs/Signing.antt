-- A signature is needed exactly where the contract asks for it; endorsements are those of runs; held and missing are all.
use Rattle.std.proofs.Common.{◌≡◌, ℕ, zero, suc, ◌+◌, List, [], ◌∷◌, map, Bool, true, false, not, Option, Some, None, refl, sym, ap, subst, ◌∙◌, arith, inl, inr}
use Rattle.std.specs.Prelude.{filter, slice_get, ◌||◌, cond}
use Rattle.std.specs.List.{flat_map}
use Rattle.std.specs.Option.{option_map, option_map_or}
use Rattle.std.specs.Str.{bytes_eq}
use Rattle.spec_data.specs.Lists.{is_among}
use Rattle.spec_terms.specs.Term as term
use Rattle.spec_terms.specs.Core.{core, asks, is_asked, puts_of}
use Rattle.spec_terms.specs.Parties.{participants}
use Rattle.spec_terms.specs.Paths.{at}
use Rattle.spec_terms.specs.Precondition.{Holding, persistent}
use Rattle.spec_terms.specs.declared.path.PathStep.{PathStep}
use Rattle.spec_bitcoin.specs.declared.label.Label.{Label}
use Rattle.spec_bitcoin.specs.declared.label.Label.TheVariants as labels
use Rattle.spec_compiler.specs.Keyed.Keys.{Keys}
use Rattle.spec_compiler.specs.Keyed.Instance.{Instance, branch_label}
use Rattle.spec_compiler.specs.declared.unsigned.Spent.{Spent}
use Rattle.spec_compiler.specs.declared.unsigned.Unsigned.{Unsigned}
use Rattle.spec_compiler.specs.Keyed.Compilation.{path_transactions}
use Rattle.spec_compiler.specs.Keyed.ByPath.{unsigned_at}
use Rattle.spec_compiler.specs.Keyed.Endorsements.{put_owner}
use Rattle.spec_tool.specs.declared.which.Which.{Which}
use Rattle.spec_tool.specs.declared.which.Which.TheVariants as names
use Rattle.spec_tool.specs.Keyed.Listed.{Listed, deposit_signer, initial_signers, branch_signers, path_signers, initial_listed, path_listed, listed, listed_at}
use Rattle.spec_deal.specs.declared.finish.Verb.{Verb}
use Rattle.spec_deal.specs.declared.finish.Verb.TheVariants as verbs
use Rattle.spec_deal.specs.Given.{has}
use Rattle.spec_deal.specs.Slots.{Slot, verb_if_asked, branch_verb, verb_of, input_slot, input_slots, slots_from, listed_slots, slots}
use Rattle.spec_deal.specs.Wallets.{input_wallet}
use Rattle.theory_calculus.specs.Members.{Is_in}
use Rattle.theory_calculus.proofs.Members.{in_left, in_right, in_append, in_from_contains, contains_from_in}
use Rattle.theory_calculus.proofs.Names.{bytes-true, bytes_refl}
use Rattle.theory_script.proofs.Keyed.Transactions.{AreRight, transactions_right}
use Rattle.theory_deal.proofs.ByName.{listed_in}
use Rattle.theory_deal.specs.Signing.{StartsBy, BranchEvent, BranchBy, Signs, IsAsked, AsksExactly, IsParted, HeldAndMissing}

-- ---- lists

some_same : {A : Type 0} {a b : A} → Some a ≡ Some b → a ≡ b
some_same e = cc

-- what stands at a number of a map
pub map_at : {X Y : Type 0} (f : X → Y) (xs : List X) (k : ℕ) (y : Y) → slice_get (map f xs) k ≡ Some y
    → (x : X) × (slice_get xs k ≡ Some x) × (y ≡ f x)
map_at f [] k y e = cc
map_at f (x ∷ xs) zero y e = (x, refl, sym (some_same e))
map_at f (x ∷ xs) (suc k) y e = map_at f xs k y e

pub at_map : {X Y : Type 0} (f : X → Y) (xs : List X) (k : ℕ) (x : X) → slice_get xs k ≡ Some x → slice_get (map f xs) k ≡ Some (f x)
at_map f [] k x e = cc
at_map f (y ∷ xs) zero x e = ap (λ z. Some (f z)) (some_same e)
at_map f (y ∷ xs) (suc k) x e = at_map f xs k x e

pub in_map : {X Y : Type 0} (f : X → Y) (xs : List X) (y : Y) → Is_in y (map f xs) → (x : X) × Is_in x xs × (y ≡ f x)
in_map f [] y h = absurd h
in_map f (x ∷ xs) y (inl e) = (x, inl refl, e)
in_map f (x ∷ xs) y (inr h) = let r = in_map f xs y h in (r.0, inr r.1, r.2)

pub map_in : {X Y : Type 0} (f : X → Y) (xs : List X) (x : X) → Is_in x xs → Is_in (f x) (map f xs)
map_in f [] x h = absurd h
map_in f (y ∷ xs) x (inl e) = inl (ap f e)
map_in f (y ∷ xs) x (inr h) = inr (map_in f xs x h)

pub in_flat : {X Y : Type 0} (f : X → List Y) (xs : List X) (y : Y) → Is_in y (flat_map f xs) → (x : X) × Is_in x xs × Is_in y (f x)
in_flat f [] y h = absurd h
in_flat f (x ∷ xs) y h = elim (in_append y (f x) (flat_map f xs) h) [
  | inl a ↦ (x, inl refl, a)
  | inr b ↦ let r = in_flat f xs y b in (r.0, inr r.1, r.2)
]

pub flat_in : {X Y : Type 0} (f : X → List Y) (xs : List X) (x : X) (y : Y) → Is_in x xs → Is_in y (f x) → Is_in y (flat_map f xs)
flat_in f [] x y h k = absurd h
flat_in f (z ∷ xs) x y (inl e) k = in_left y (f z) (flat_map f xs) (subst (λ w. Is_in y (f w)) e k)
flat_in f (z ∷ xs) x y (inr h) k = in_right y (f z) (flat_map f xs) (flat_in f xs x y h k)

-- names are among others where they stand there
pub among_in : (name : List ℕ) (ns : List (List ℕ)) → is_among name ns ≡ true → Is_in name ns
among_in name [] h = cc
among_in name (n ∷ ns) h = by_test (bytes_eq n name) refl h (among_in name ns)
  where
    by_test : (b : Bool) → bytes_eq n name ≡ b → (b || is_among name ns) ≡ true → (is_among name ns ≡ true → Is_in name ns)
        → Is_in name (n ∷ ns)
    by_test true e k ih = inl (sym (bytes-true n name e))
    by_test false e k ih = inr (ih k)

pub in_among : (name : List ℕ) (ns : List (List ℕ)) → Is_in name ns → is_among name ns ≡ true
in_among name [] h = absurd h
in_among name (n ∷ ns) (inl e) =
    let same : bytes_eq n name ≡ true = subst (λ x. bytes_eq n x ≡ true) (sym e) (bytes_refl n) in
    ap (λ (b : Bool). b || is_among name ns) same
in_among name (n ∷ ns) (inr h) = by_test (bytes_eq n name) (in_among name ns h)
  where
    by_test : (b : Bool) → is_among name ns ≡ true → (b || is_among name ns) ≡ true
    by_test true k = refl
    by_test false k = k

-- ---- the signatures of a transaction

module _ (keys : Keys) (s : Instance) (l : Listed) where
  -- it is of one of the inputs from number k on
  pub record IsOf (k : ℕ) (spends : List Spent) (signers : List (List Label)) (slot : Slot) : Type 0 where
    pub j : ℕ
    pub spent : Spent
    pub those : List Label
    pub label : Label
    pub spends_it : slice_get spends j ≡ Some spent
    pub signed_by : slice_get signers j ≡ Some those
    pub one : Is_in label those
    pub same : slot ≡ input_slot keys s.advert l (k + j) spent label

  pub from_slots : (k : ℕ) (spends : List Spent) (signers : List (List Label)) (slot : Slot)
      → Is_in slot (slots_from keys s.advert l k spends signers) → IsOf k spends signers slot
  from_slots k [] signers slot h = absurd h
  from_slots k (spent ∷ spends) [] slot h = absurd h
  from_slots k (spent ∷ spends) (those ∷ signers) slot h =
      elim (in_append slot (input_slots keys s.advert l k spent those) (slots_from keys s.advert l (k + 1) spends signers) h) [
        | inl a ↦ here (in_map (input_slot keys s.advert l k spent) those slot a)
        | inr b ↦ later (from_slots (k + 1) spends signers slot b)
      ]
    where
      here : (label : Label) × Is_in label those × (slot ≡ input_slot keys s.advert l k spent label)
          → IsOf k (spent ∷ spends) (those ∷ signers) slot
      here r =
          let z : k ≡ k + 0 = omega arith in
          record {
            j = 0;
            spent = spent;
            those = those;
            label = r.0;
            spends_it = refl;
            signed_by = refl;
            one = r.1;
            same = subst (λ (n : ℕ). slot ≡ input_slot keys s.advert l n spent r.0) z r.2;
          }

      later : IsOf (k + 1) spends signers slot → IsOf k (spent ∷ spends) (those ∷ signers) slot
      later r =
          let z : k + 1 + r.j ≡ k + suc r.j = omega arith in
          record {
            j = suc r.j;
            spent = r.spent;
            those = r.those;
            label = r.label;
            spends_it = r.spends_it;
            signed_by = r.signed_by;
            one = r.one;
            same = subst (λ (n : ℕ). slot ≡ input_slot keys s.advert l n r.spent r.label) z r.same;
          }

  to_slots : (k : ℕ) (spends : List Spent) (signers : List (List Label)) (j : ℕ) (spent : Spent) (those : List Label) (label : Label)
      → slice_get spends j ≡ Some spent → slice_get signers j ≡ Some those → Is_in label those
      → Is_in (input_slot keys s.advert l (k + j) spent label) (slots_from keys s.advert l k spends signers)
  to_slots k [] signers j spent those label a b c = cc
  to_slots k (x ∷ spends) [] j spent those label a b c = cc
  to_slots k (x ∷ spends) (y ∷ signers) zero spent those label a b c =
      let z : k ≡ k + 0 = omega arith in
      let here : Is_in (input_slot keys s.advert l k spent label) (input_slots keys s.advert l k x y) =
      subst (λ (w : Spent). Is_in (input_slot keys s.advert l k w label) (input_slots keys s.advert l k x y)) (some_same a)
      (map_in (input_slot keys s.advert l k x) y label (subst (λ (w : List Label). Is_in label w) (sym (some_same b)) c)) in
      subst (λ (n : ℕ). Is_in (input_slot keys s.advert l n spent label) (slots_from keys s.advert l k (x ∷ spends) (y ∷ signers))) z
      (in_left (input_slot keys s.advert l k spent label) (input_slots keys s.advert l k x y) (slots_from keys s.advert l (k + 1) spends signers) here)
  to_slots k (x ∷ spends) (y ∷ signers) (suc j) spent those label a b c =
      let z : k + 1 + j ≡ k + suc j = omega arith in
      subst (λ (n : ℕ). Is_in (input_slot keys s.advert l n spent label) (slots_from keys s.advert l k (x ∷ spends) (y ∷ signers))) z
      (in_right (input_slot keys s.advert l (k + 1 + j) spent label) (input_slots keys s.advert l k x y) (slots_from keys s.advert l (k + 1) spends signers)
      (to_slots (k + 1) spends signers j spent those label a b c))

-- ---- who signs

-- what is signed at a branch is by the event for which it asks
event_of : (b : term.Guarded) (party : List ℕ) → BranchEvent b party (verb_if_asked (is_asked b party))
event_of b party = by_test (is_asked b party) refl
  where
    by_test : (t : Bool) → is_asked b party ≡ t → BranchEvent b party (verb_if_asked t)
    by_test true e = inl (contains_from_in (asks b) party (among_in party (asks b) e), refl)
    by_test false e =
        inr (
          λ c. let n : is_asked b party ≡ true = in_among party (asks b) (in_from_contains (asks b) party c) in cc,
          refl,
        )

-- and that event is the verb
verb_is : (b : term.Guarded) (party : List ℕ) (verb : Verb) → BranchEvent b party verb → verb ≡ verb_if_asked (is_asked b party)
verb_is b party verb (inl p) =
    let n : is_asked b party ≡ true = in_among party (asks b) (in_from_contains (asks b) party p.0) in
    p.1 ∙ ap verb_if_asked (sym n)
verb_is b party verb (inr p) = by_test (is_asked b party) refl
  where
    by_test : (t : Bool) → is_asked b party ≡ t → verb ≡ verb_if_asked t
    by_test true e = absurd (p.0 (contains_from_in (asks b) party (among_in party (asks b) e)))
    by_test false e = p.1

module _ (s : Instance) where
  starts_by : (k : ℕ) (those : List Label) (label : Label) → slice_get (initial_signers s.advert) k ≡ Some those → Is_in label those
      → StartsBy s k label verbs.Init
  starts_by k those label e one =
      let r = map_at (λ (d : List ℕ × Holding). deposit_signer (d.1).owner) (persistent s.advert.pre) k those e in
      record {
        deposit = r.0;
        stands = r.1;
        key = only label ((r.0).1).owner (subst (λ (w : List Label). Is_in label w) r.2 one);
        event = refl;
      }
    where
      only : (x : Label) (party : List ℕ) → Is_in x (deposit_signer party) → x ≡ labels.Deposit party
      only x party (inl q) = q
      only x party (inr q) = absurd q

  branch_by : (path : List PathStep) (b : term.Guarded) (k : ℕ) (those : List Label) (label : Label)
      → at s.advert.root path ≡ Some b → slice_get (branch_signers s.contract s.advert path b) k ≡ Some those → Is_in label those
      → BranchBy s path b k label (verb_of s.advert (names.At path) label)
  branch_by path b zero those label there e one =
      let r = in_map (branch_label s.contract path) (participants s.advert) label
      (subst (λ (w : List Label). Is_in label w) (sym (some_same e)) one) in
      record {
        party = r.0;
        takes_part = contains_from_in (participants s.advert) r.0 r.1;
        key = r.2;
        event =
            subst (λ (x : Label). BranchEvent b r.0 (verb_of s.advert (names.At path) x)) (sym r.2)
            (subst (λ (o : Option term.Guarded). BranchEvent b r.0 (branch_verb o r.0)) (sym there) (event_of b r.0));
      }
  branch_by path b (suc k) those label there e one =
      let r = map_at (λ (name : List ℕ). deposit_signer (put_owner s.advert name)) (puts_of (core b)) k those e in
      let q = only label (put_owner s.advert r.0) (subst (λ (w : List Label). Is_in label w) r.2 one) in
      record {
        name = r.0;
        stands = r.1;
        key = q;
        event = ap (verb_of s.advert (names.At path)) q;
      }
    where
      only : (x : Label) (party : List ℕ) → Is_in x (deposit_signer party) → x ≡ labels.Deposit party
      only x party (inl h) = h
      only x party (inr h) = absurd h

  path_by : (path : List PathStep) (k : ℕ) (those : List Label) (label : Label)
      → slice_get (path_signers s path) k ≡ Some those → Is_in label those
      → Signs s (names.At path) k label (verb_of s.advert (names.At path) label)
  path_by path k those label e one = by_branch (at s.advert.root path) refl e
    where
      by_branch : (o : Option term.Guarded) → at s.advert.root path ≡ o
          → slice_get (option_map_or (branch_signers s.contract s.advert path) o []) k ≡ Some those
          → Signs s (names.At path) k label (verb_of s.advert (names.At path) label)
      by_branch None there h = cc
      by_branch (Some b) there h = (b, there, branch_by path b k those label there h one)

  -- ---- and the labels of those who sign

  record Among (signers : List (List Label)) (which : Which) (k : ℕ) (label : Label) (verb : Verb) : Type 0 where
    those : List Label
    signed_by : slice_get signers k ≡ Some those
    one : Is_in label those
    is_verb : verb ≡ verb_of s.advert which label

  starter_among : (k : ℕ) (label : Label) (verb : Verb) → StartsBy s k label verb
      → Among (initial_signers s.advert) names.Init k label verb
  starter_among k label verb h = record {
    those = deposit_signer ((h.deposit).1).owner;
    signed_by = at_map (λ (d : List ℕ × Holding). deposit_signer (d.1).owner) (persistent s.advert.pre) k h.deposit h.stands;
    one = inl h.key;
    is_verb = h.event;
  }

  branch_among : (path : List PathStep) (b : term.Guarded) (k : ℕ) (label : Label) (verb : Verb) → at s.advert.root path ≡ Some b
      → BranchBy s path b k label verb → Among (branch_signers s.contract s.advert path b) (names.At path) k label verb
  branch_among path b zero label verb there h = record {
    those = map (branch_label s.contract path) (participants s.advert);
    signed_by = refl;
    one =
        subst (λ (x : Label). Is_in x (map (branch_label s.contract path) (participants s.advert))) (sym h.key)
        (map_in (branch_label s.contract path) (participants s.advert) h.party
        (in_from_contains (participants s.advert) h.party h.takes_part));
    is_verb =
        verb_is b h.party verb h.event
        ∙ ap (λ (o : Option term.Guarded). branch_verb o h.party) (sym there)
        ∙ ap (verb_of s.advert (names.At path)) (sym h.key);
  }
  branch_among path b (suc k) label verb there h = record {
    those = deposit_signer (put_owner s.advert h.name);
    signed_by = at_map (λ (name : List ℕ). deposit_signer (put_owner s.advert name)) (puts_of (core b)) k h.name h.stands;
    one = inl h.key;
    is_verb = h.event ∙ ap (verb_of s.advert (names.At path)) (sym h.key);
  }

  path_among : (path : List PathStep) (k : ℕ) (label : Label) (verb : Verb) → Signs s (names.At path) k label verb
      → Among (path_signers s path) (names.At path) k label verb
  path_among path k label verb h =
      subst (λ (o : Option term.Guarded).
      Among (option_map_or (branch_signers s.contract s.advert path) o []) (names.At path) k label verb) (sym h.1)
      (branch_among path h.0 k label verb h.1 h.2)

-- ---- a contract's signatures

pending_of : (o : Option Listed) (d : Unsigned) → option_map (λ (l : Listed). l.pending) o ≡ Some d → (l : Listed) × (o ≡ Some l) × (l.pending ≡ d)
pending_of None d e = cc
pending_of (Some l) d e = (l, refl, some_same e)

module _ (hash : List ℕ → List ℕ) (keys : Keys) (s : Instance) where
  -- what is known of the signatures of a transaction that a contract has
  asked_one : (l : Listed) (slot : Slot)
      → option_map (λ (x : Listed). x.pending) (listed_at hash keys s l.which) ≡ Some l.pending
      → ((k : ℕ) (those : List Label) (label : Label) → slice_get l.signers k ≡ Some those → Is_in label those
      → Signs s l.which k label (verb_of s.advert l.which label))
      → Is_in slot (listed_slots keys s.advert l) → IsAsked hash keys s slot
  asked_one l slot there signs h =
      let r = from_slots keys s l 0 l.pending.spends l.signers slot h in
      let z : 0 + r.j ≡ r.j = omega arith in
      subst (IsAsked hash keys s) (sym r.same)
      (subst (λ (n : ℕ). IsAsked hash keys s (input_slot keys s.advert l n r.spent r.label)) (sym z)
      (record { there = there; spends = r.spends_it; signs = signs r.j r.those r.label r.signed_by r.one; brought = refl }))

  asked_paths : (es : List (List PathStep × Unsigned)) (slot : Slot) → AreRight (unsigned_at hash keys s) es
      → Is_in slot (flat_map (listed_slots keys s.advert) (map (λ p. path_listed s (p.0) (p.1)) es)) → IsAsked hash keys s slot
  asked_paths [] slot right h = absurd h
  asked_paths (e ∷ es) slot right h =
      let l = path_listed s (e.0) (e.1) in
      let there : option_map (λ (x : Listed). x.pending) (listed_at hash keys s (names.At (e.0))) ≡ Some (e.1) =
      ap (λ (o : Option Unsigned). option_map (λ (x : Listed). x.pending) (option_map (path_listed s (e.0)) o)) right.0 in
      elim (in_append slot (listed_slots keys s.advert l)
      (flat_map (listed_slots keys s.advert) (map (λ p. path_listed s (p.0) (p.1)) es)) h) [
        | inl a ↦ asked_one l slot there (path_by s (e.0)) a
        | inr b ↦ asked_paths es slot right.1 b
      ]

  asked : (slot : Slot) → Is_in slot (slots hash keys s) → IsAsked hash keys s slot
  asked slot h =
      let l = initial_listed hash keys s in
      elim (in_append slot (listed_slots keys s.advert l)
      (flat_map (listed_slots keys s.advert) (map (λ p. path_listed s (p.0) (p.1)) (path_transactions hash keys s))) h) [
        | inl a ↦ asked_one l slot refl (starts_by s) a
        | inr b ↦ asked_paths (path_transactions hash keys s) slot (transactions_right hash keys s) b
      ]

  -- ---- and back

  among_listed : (which : Which) (l : Listed) (k : ℕ) (label : Label) (verb : Verb) → listed_at hash keys s which ≡ Some l
      → Signs s which k label verb → Among s l.signers which k label verb × (l.which ≡ which)
  among_listed names.Init l k label verb e h =
      let same = some_same e in (
        subst (λ (x : Listed). Among s x.signers names.Init k label verb) same (starter_among s k label verb h),
        ap (λ (x : Listed). x.which) (sym same),
      )
  among_listed (names.At path) l k label verb e h = by_pending (unsigned_at hash keys s path) e
    where
      by_pending : (o : Option Unsigned) → option_map (path_listed s path) o ≡ Some l
          → Among s l.signers (names.At path) k label verb × (l.which ≡ names.At path)
      by_pending None q = cc
      by_pending (Some d) q =
          let same = some_same q in (
            subst (λ (x : Listed). Among s x.signers (names.At path) k label verb) same (path_among s path k label verb h),
            ap (λ (x : Listed). x.which) (sym same),
          )

  required : (slot : Slot) → IsAsked hash keys s slot → Is_in slot (slots hash keys s)
  required slot h =
      let d = pending_of (listed_at hash keys s slot.which) slot.pending h.there in
      let l = d.0 in
      let r = among_listed slot.which l slot.input slot.label slot.verb d.1 h.signs in
      let a = r.0 in
      let z : 0 + slot.input ≡ slot.input = omega arith in
      let spends : slice_get l.pending.spends slot.input ≡ Some slot.spent =
      subst (λ (x : Unsigned). slice_get x.spends slot.input ≡ Some slot.spent) (sym d.2) h.spends in
      let one = to_slots keys s l 0 l.pending.spends l.signers slot.input slot.spent a.those slot.label spends a.signed_by a.one in
      let verb : verb_of s.advert l.which slot.label ≡ slot.verb =
      ap (λ (w : Which). verb_of s.advert w slot.label) r.1 ∙ sym a.is_verb in
      let wallet : input_wallet keys s.advert l.which (0 + slot.input) ≡ slot.wallet =
      (λ i. input_wallet keys s.advert (r.1 i) (z i)) ∙ sym h.brought in
      let same : input_slot keys s.advert l (0 + slot.input) slot.spent slot.label ≡ slot =
      (λ i.
      record {
        which = r.1 i;
        pending = d.2 i;
        input = z i;
        spent = slot.spent;
        label = slot.label;
        verb = verb i;
        wallet = wallet i;
      }) in
      flat_in (listed_slots keys s.advert) (listed hash keys s) l slot (listed_in hash keys s slot.which l d.1)
      (subst (λ (x : Slot). Is_in x (listed_slots keys s.advert l)) same one)

pub asks_exactly : AsksExactly
asks_exactly hash keys s slot = (
  λ h. asked hash keys s slot (in_from_contains (slots hash keys s) slot h),
  λ h. contains_from_in (slots hash keys s) slot (required hash keys s slot h),
)

-- ---- those that are there

parted : {X : Type 0} (test : X → Bool) (xs : List X) → IsParted test xs (filter test xs) (filter (λ x. not (test x)) xs)
parted test [] = (refl, refl)
parted {X} test (x ∷ xs) = by_test (test x) refl (parted test xs)
  where
    by_test : (b : Bool) → test x ≡ b → IsParted test xs (filter test xs) (filter (λ y. not (test y)) xs)
        → IsParted test (x ∷ xs) (cond b (x ∷ filter test xs) (filter test xs))
        (cond (not b) (x ∷ filter (λ y. not (test y)) xs) (filter (λ y. not (test y)) xs))
    by_test true e ih = inl (filter test xs, e, refl, ih)
    by_test false e ih = inr (filter (λ y. not (test y)) xs, e, refl, ih)

pub held_and_missing : HeldAndMissing
held_and_missing hash keys s given = parted (has hash keys given) (slots hash keys s)
