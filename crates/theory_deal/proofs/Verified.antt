-- Each signature that is read verifies under its key, for the digest of the input that needs it.
use Rattle.std.proofs.Common.{◌≡◌, ℕ, zero, suc, ◌+◌, List, [], ◌∷◌, ◌++◌, map, Bool, true, false, not, Option, Some, None}
use Rattle.std.proofs.Common.{refl, sym, ap, ◌∙◌, subst, arith, cond, inl, inr}
use Rattle.std.specs.Prelude.{Ok, ◌&&◌, ◌||◌, ◌==◌, ◌⊎◌, drop, slice_get, is_some, if◌then◌else◌}
use Rattle.std.specs.List.{Contains, list_all, find, flat_map}
use Rattle.std.specs.Option.{option_map, option_map_or}
use Rattle.std.specs.Str.{bytes_eq}
use Rattle.std.proofs.lemmas.Bool.{and_parts, and_from, both_ways}
use Rattle.spec_terms.specs.Advert.{Advert}
use Rattle.spec_bitcoin.specs.declared.label.Label.{Label}
use Rattle.spec_bitcoin.specs.Spelling.{stripped, is_filled}
use Rattle.spec_compiler.specs.Keyed.Statements.{AreKeyDeposits}
use Rattle.spec_compiler.specs.Keyed.Keys.{Keys}
use Rattle.spec_compiler.specs.Keyed.Instance.{Instance}
use Rattle.spec_compiler.specs.declared.unsigned.Spent.{Spent}
use Rattle.spec_compiler.specs.Keyed.Transactions.{tx_of, digest_of_spent}
use Rattle.spec_tool.specs.declared.which.Which.{Which}
use Rattle.spec_tool.specs.Keyed.Listed.{Listed, listed, listed_at}
use Rattle.spec_deal.specs.declared.signed.Signed.{Signed}
use Rattle.spec_deal.specs.Finished.{bytes_or_none}
use Rattle.spec_deal.specs.Given.{is_for, has, signature_for}
use Rattle.spec_deal.specs.SignatureFile.{verifies_if, is_verified, read_signatures}
use Rattle.spec_deal.specs.declared.transaction.Wallet.{Wallet}
use Rattle.spec_deal.specs.Setting.{no_key}
use Rattle.spec_deal.specs.Shape.{is_strict}
use Rattle.spec_deal.specs.Wallets.{has_digest, input_wallet}
use Rattle.spec_deal.specs.Slots.{Slot, input_slot, input_slots, slots_from, listed_slots, slots, slot_bytes, slot_key, slot_digest}
use Rattle.spec_deal.specs.Transactions.{Required, input_required, inputs_required, all_required}
use Rattle.spec_deal.specs.Transactions.{no_digest, input, inputs, transaction, transactions}
use Rattle.spec_deal.specs.Verifier.{Verifier}
use Rattle.theory_calculus.specs.Members.{Is_in}
use Rattle.theory_calculus.proofs.Members.{in_left, in_right, in_from_contains, contains_from_in, all_in, all_map, found}
use Rattle.theory_calculus.proofs.Names.{bytes-true}
use Rattle.theory_deal.proofs.ByName.{listed_in}
use Rattle.theory_deal.proofs.Listed.{may_start_exactly}
use Rattle.theory_deal.proofs.ReadDeals.{there_found}
use Rattle.theory_deal.proofs.ReadSignatures.{is_sound, any_sound, keys_sound}
use Rattle.theory_deal.specs.Files.{verifies, AreGiven, SignaturesVerify}
use Rattle.theory_deal.proofs.Signing.{from_slots}
use Rattle.theory_deal.specs.Finished.{Oracle, accepts_one, accepts, digest_at, oracle_by, Agrees, KeysAgree}

map_append : {X Y : Type 0} (f : X → Y) (xs ys : List X) → map f (xs ++ ys) ≡ map f xs ++ map f ys
map_append f [] ys = refl
map_append f (x ∷ xs) ys = ap (λ zs. f x ∷ zs) (map_append f xs ys)

-- ---- what is needed is what is needed

module _ (hash : List ℕ → List ℕ) (keys : Keys) where
  -- the digest that stands for the input
  abbrev due : Slot → List ℕ
  due slot = if has_digest slot.wallet then slot_digest hash slot else no_digest

  -- where the signature is needed, and of which digest
  abbrev required_of : Slot → Required
  required_of slot = record {
    spot = record { tx = slot_bytes slot; input = slot.input; key = slot_key hash keys slot };
    digest = due slot;
  }

  of_labels : (advert : Advert) (l : Listed) (k : ℕ) (spent : Spent) (labels : List Label)
      → input_required (stripped (tx_of l.pending)) k (input hash keys advert l k spent labels)
      ≡ map required_of (input_slots keys advert l k spent labels)
  of_labels advert l k spent [] = refl
  of_labels advert l k spent (label ∷ labels) =
      ap (λ (ws : List Required). required_of (input_slot keys advert l k spent label) ∷ ws) (of_labels advert l k spent labels)

  none_left : (advert : Advert) (l : Listed) (k : ℕ) (spends : List Spent)
      → inputs_required (stripped (tx_of l.pending)) k (inputs hash keys advert l k spends []) ≡ []
  none_left advert l k [] = refl
  none_left advert l k (spent ∷ spends) = none_left advert l (k + 1) spends

  of_inputs : (advert : Advert) (l : Listed) (k : ℕ) (spends : List Spent) (signers : List (List Label))
      → inputs_required (stripped (tx_of l.pending)) k (inputs hash keys advert l k spends signers)
      ≡ map required_of (slots_from keys advert l k spends signers)
  of_inputs advert l k [] signers = refl
  of_inputs advert l k (spent ∷ spends) [] = none_left advert l (k + 1) spends
  of_inputs advert l k (spent ∷ spends) (labels ∷ signers) =
      (λ i. of_labels advert l k spent labels i ++ of_inputs advert l (k + 1) spends signers i)
      ∙ sym (map_append required_of (input_slots keys advert l k spent labels) (slots_from keys advert l (k + 1) spends signers))

  of_listed : (advert : Advert) (ls : List Listed)
      → all_required (map (transaction hash keys advert) ls) ≡ map required_of (flat_map (listed_slots keys advert) ls)
  of_listed advert [] = refl
  of_listed advert (l ∷ ls) =
      (λ i. of_inputs advert l 0 l.pending.spends l.signers i ++ of_listed advert ls i)
      ∙ sym (map_append required_of (listed_slots keys advert l) (flat_map (listed_slots keys advert) ls))

  required_is : (s : Instance) → all_required (transactions hash keys s) ≡ map required_of (slots hash keys s)
  required_is s = of_listed s.advert (listed hash keys s)

  -- ---- signatures

  drop_not : (a b : Bool) → a ≡ true → (not a || b) ≡ true → b ≡ true
  drop_not true b e k = k
  drop_not false b e k = cc

  -- a signature by a key that is there, of those that verify wherever they are needed
  good_at : (v : Verifier) (wallets : Bool) (all : List Slot) (given : List Signed) (slot : Slot)
      → (wallets ≡ false) ⊎ (slot_key hash keys slot ≡ no_key → ⊥)
      → list_all (is_sound v wallets (map required_of all)) given ≡ true → Is_in slot all → slot.wallet ≡ None
      → has hash keys given slot ≡ true
      → v.is_signature (slot_key hash keys slot) (slot_digest hash slot) (bytes_or_none (signature_for hash keys given slot)) ≡ true
  good_at v wallets all given slot other h here none there =
      by_found (find (is_for hash keys slot) given) refl (there_found (is_for hash keys slot) given there)
    where
      its : (g : Signed) → is_for hash keys slot g ≡ true → g.key ≡ slot_key hash keys slot
      its g r =
          let later = (and_parts (bytes_eq g.tx (slot_bytes slot)) _ r).1 in
          bytes-true g.key (slot_key hash keys slot) (and_parts (g.input == slot.input) (bytes_eq g.key (slot_key hash keys slot)) later).1

      no_witness : (g : Signed) → is_for hash keys slot g ≡ true → (wallets && (bytes_eq g.key no_key && bytes_eq g.signature [])) ≡ true
          → (wallets ≡ false) ⊎ (slot_key hash keys slot ≡ no_key → ⊥) → ⊥
      no_witness g r m (inl e) = let yes = (and_parts wallets (bytes_eq g.key no_key && bytes_eq g.signature []) m).0 in both_ways wallets e yes
      no_witness g r m (inr f) =
          let p = (and_parts wallets (bytes_eq g.key no_key && bytes_eq g.signature []) m).1 in
          f (sym (its g r) ∙ bytes-true g.key no_key (and_parts (bytes_eq g.key no_key) (bytes_eq g.signature []) p).0)

      verified : (g : Signed) → is_for hash keys slot g ≡ true → (b : Bool)
          → cond b (wallets && (bytes_eq g.key no_key && bytes_eq g.signature []))
          (is_strict g.signature && is_verified v (map required_of all) g) ≡ true
          → is_verified v (map required_of all) g ≡ true
      verified g r true m = absurd (no_witness g r m other)
      verified g r false m = (and_parts (is_strict g.signature) (is_verified v (map required_of all) g) m).1

      by_found : (o : Option Signed) → find (is_for hash keys slot) given ≡ o → is_some o ≡ true
          → v.is_signature (slot_key hash keys slot) (slot_digest hash slot) (bytes_or_none (option_map (λ (g : Signed). g.signature) o))
          ≡ true
      by_found None e k = cc
      by_found (Some g) e k =
          let r = found (is_for hash keys slot) given g e in
          let good : Slot → Bool = λ x. not (is_for hash keys x g) || v.is_signature g.key (due x) g.signature in
          let each : list_all good all ≡ true =
          sym (all_map (verifies_if v g) required_of all)
          ∙ verified g r.1 (is_filled g.witness) (all_in (is_sound v wallets (map required_of all)) given g h r.0) in
          let signed = drop_not (is_for hash keys slot g) (v.is_signature g.key (due slot) g.signature) r.1 (all_in good all slot each here)
          in
          let digest : due slot ≡ slot_digest hash slot =
          ap (λ (o : Option Wallet). if has_digest o then slot_digest hash slot else no_digest) none in
          (λ i. v.is_signature (sym (its g r.1) i) (sym digest i) g.signature) ∙ signed

  -- where no key is missing, or none is a wallet's
  good_slot : (v : Verifier) (wallets : Bool) (s : Instance) (given : List Signed)
      → (wallets ≡ false) ⊎ AreGiven hash keys s
      → list_all (is_sound v wallets (map required_of (slots hash keys s))) given ≡ true → (slot : Slot) → Contains (slots hash keys s) slot
      → has hash keys given slot ≡ true → verifies v hash keys given slot ≡ true
  good_slot v wallets s given may h slot c there = by_wallet slot.wallet refl
    where
      other : slot.wallet ≡ None → (wallets ≡ false) ⊎ AreGiven hash keys s → (wallets ≡ false) ⊎ (slot_key hash keys slot ≡ no_key → ⊥)
      other none (inl e) = inl e
      other none (inr f) = inr (f slot c none)

      by_wallet : (o : Option Wallet) → slot.wallet ≡ o
          → (is_some o || v.is_signature (slot_key hash keys slot) (slot_digest hash slot)
          (bytes_or_none (signature_for hash keys given slot))) ≡ true
      by_wallet (Some w) e = refl
      by_wallet None e =
          good_at v wallets (slots hash keys s) given slot (other e may) h (in_from_contains (slots hash keys s) slot c) e there

module _ (v : Verifier) (hash : List ℕ → List ℕ) (keys : Keys) (s : Instance) (text : List ℕ) (given : List Signed)
    (e : read_signatures v hash keys s text ≡ Ok given) where
  on_slots : (wallets : Bool) → list_all (is_sound v wallets (all_required (transactions hash keys s))) given ≡ true
      → list_all (is_sound v wallets (map (required_of hash keys) (slots hash keys s))) given ≡ true
  on_slots wallets h =
      subst (λ (ws : List Required). list_all (is_sound v wallets ws) given ≡ true) (required_is hash keys s) h

  each_good : AreKeyDeposits keys ⊎ AreGiven hash keys s → (slot : Slot) → Contains (slots hash keys s) slot → has hash keys given slot ≡ true
      → verifies v hash keys given slot ≡ true
  each_good (inl of_keys) slot c there =
      good_slot hash keys v false s given (inl refl) (on_slots false (keys_sound hash keys s of_keys v text given e)) slot c there
  each_good (inr are_given) slot c there =
      good_slot hash keys v true s given (inr are_given) (on_slots true (any_sound v hash keys s text given e)) slot c there

pub signatures_verify : SignaturesVerify
signatures_verify v hash keys s text given may e =
    let each = each_good v hash keys s text given e may in
    let started = (may_start_exactly hash keys s given).endorsed in
    record {
      each = each;
      starts = (
        λ m slot c w. (started.0 m slot c w, each slot c (started.0 m slot c w)),
        λ f. started.1 (λ slot c w. (f slot c w).0),
      );
    }

-- ---- the oracle of a transaction

all_both : {X : Type 0} (p : X → Bool) (xs ys : List X) → list_all p (xs ++ ys) ≡ (list_all p xs && list_all p ys)
all_both p [] ys = refl
all_both p (x ∷ xs) ys = by_test (p x) (all_both p xs ys)
  where
    by_test : (b : Bool) → list_all p (xs ++ ys) ≡ (list_all p xs && list_all p ys)
        → (b && list_all p (xs ++ ys)) ≡ ((b && list_all p xs) && list_all p ys)
    by_test true h = h
    by_test false h = refl

all_by : {X : Type 0} (p q : X → Bool) (xs : List X) → ((x : X) → Is_in x xs → p x ≡ true → q x ≡ true)
    → list_all p xs ≡ true → list_all q xs ≡ true
all_by p q [] h k = refl
all_by p q (x ∷ xs) h k =
    let r = and_parts (p x) (list_all p xs) k in
    and_from (q x) (list_all q xs) (h x (inl refl) r.0) (all_by p q xs (λ y i. h y (inr i)) r.1)

in_flat : {X Y : Type 0} (f : X → List Y) (xs : List X) (x : X) (y : Y) → Is_in x xs → Is_in y (f x) → Is_in y (flat_map f xs)
in_flat f [] x y i k = absurd i
in_flat f (z ∷ xs) x y (inl e) k = in_left y (f z) (flat_map f xs) (subst (λ w. Is_in y (f w)) e k)
in_flat f (z ∷ xs) x y (inr i) k = in_right y (f z) (flat_map f xs) (in_flat f xs x y i k)

-- the first behind the first k stands at number k
pub cut : {X : Type 0} (all : List X) (k : ℕ) (x : X) (xs : List X) → drop k all ≡ x ∷ xs
    → (slice_get all k ≡ Some x) × (drop (k + 1) all ≡ xs)
cut [] zero x xs e = cc
cut [] (suc k) x xs e = cc
cut (y ∷ ys) zero x xs e = (cc, cc)
cut (y ∷ ys) (suc k) x xs e =
    let next : suc k + 1 ≡ suc (k + 1) = omega arith in
    let r = cut ys k x xs e in
    (r.0, ap (λ (n : ℕ). drop n (y ∷ ys)) next ∙ r.1)

module _ (v : Verifier) (hash : List ℕ → List ℕ) (keys : Keys) (s : Instance) (given : List Signed) where
  -- of input k, which spends this
  same_input : (l : Listed) (k : ℕ) (spent : Spent) (labels : List Label)
      → digest_at hash l k ≡ digest_of_spent hash (tx_of l.pending) spent
      → list_all (accepts_one hash keys given (oracle_by v hash l)) (input_slots keys s.advert l k spent labels)
      ≡ list_all (verifies v hash keys given) (input_slots keys s.advert l k spent labels)
  same_input l k spent [] e = refl
  same_input l k spent (label ∷ labels) e =
      let first : Slot = input_slot keys s.advert l k spent label in
      λ i.
      (is_some first.wallet || v.is_signature (slot_key hash keys first) (e i) (bytes_or_none (signature_for hash keys given first)))
      && same_input l k spent labels e i

  -- of the inputs from number k on
  same_from : (l : Listed) (k : ℕ) (spends : List Spent) (signers : List (List Label)) → drop k l.pending.spends ≡ spends
      → list_all (accepts_one hash keys given (oracle_by v hash l)) (slots_from keys s.advert l k spends signers)
      ≡ list_all (verifies v hash keys given) (slots_from keys s.advert l k spends signers)
  same_from l k [] signers e = refl
  same_from l k (spent ∷ spends) [] e = refl
  same_from l k (spent ∷ spends) (labels ∷ signers) e =
      let r = cut l.pending.spends k spent spends e in
      let here : digest_at hash l k ≡ digest_of_spent hash (tx_of l.pending) spent =
      ap (λ (o : Option Spent). option_map_or (digest_of_spent hash (tx_of l.pending)) o []) r.0 in
      let now = input_slots keys s.advert l k spent labels in
      let later = slots_from keys s.advert l (k + 1) spends signers in
      all_both (accepts_one hash keys given (oracle_by v hash l)) now later
      ∙ (λ i. same_input l k spent labels here i && same_from l (k + 1) spends signers r.1 i)
      ∙ sym (all_both (verifies v hash keys given) now later)

  -- the verifier accepts all signatures of a transaction that are there
  pub accepts_read : (text : List ℕ) (which : Which) (l : Listed) → AreKeyDeposits keys ⊎ AreGiven hash keys s → read_signatures v hash keys s text ≡ Ok given
      → listed_at hash keys s which ≡ Some l → list_all (has hash keys given) (listed_slots keys s.advert l) ≡ true
      → accepts hash keys s given (oracle_by v hash l) l ≡ true
  accepts_read text which l may e there signed =
      let verified = signatures_verify v hash keys s text given may e in
      let in_all : (slot : Slot) → Is_in slot (listed_slots keys s.advert l) → Contains (slots hash keys s) slot =
      λ slot i.
      contains_from_in (slots hash keys s) slot
      (in_flat (listed_slots keys s.advert) (listed hash keys s) l slot (listed_in hash keys s which l there) i) in
      same_from l 0 l.pending.spends l.signers refl
      ∙ all_by (has hash keys given) (verifies v hash keys given) (listed_slots keys s.advert l)
      (λ slot i h. verified.each slot (in_all slot i) h) signed

-- and so does every oracle that agrees with it
pub agrees_accepts : (v : Verifier) (hash : List ℕ → List ℕ) (keys : Keys) (s : Instance) (given : List Signed) (l : Listed)
    (oracle : Oracle) → Agrees v hash l oracle → accepts hash keys s given (oracle_by v hash l) l ≡ true
    → accepts hash keys s given oracle l ≡ true
agrees_accepts v hash keys s given l oracle agrees h =
    all_by (accepts_one hash keys given (oracle_by v hash l)) (accepts_one hash keys given oracle) (listed_slots keys s.advert l)
    (λ slot i k. by_wallet slot (is_some slot.wallet) k) h
  where
    by_wallet : (slot : Slot) (b : Bool)
        → (b || oracle_by v hash l slot.input (bytes_or_none (signature_for hash keys given slot)) (slot_key hash keys slot)) ≡ true
        → (b || oracle slot.input (bytes_or_none (signature_for hash keys given slot)) (slot_key hash keys slot)) ≡ true
    by_wallet slot true k = refl
    by_wallet slot false k = agrees slot.input (bytes_or_none (signature_for hash keys given slot)) (slot_key hash keys slot) k

-- where it agrees at the inputs that keys of the deal sign
pub keys_agree : (v : Verifier) (hash : List ℕ → List ℕ) (keys : Keys) (s : Instance) (given : List Signed) (l : Listed)
    (oracle : Oracle) → KeysAgree v hash keys s l oracle → accepts hash keys s given (oracle_by v hash l) l ≡ true
    → accepts hash keys s given oracle l ≡ true
keys_agree v hash keys s given l oracle agrees h =
    all_by (accepts_one hash keys given (oracle_by v hash l)) (accepts_one hash keys given oracle) (listed_slots keys s.advert l)
    (λ slot i k. by_wallet slot slot.wallet (brought slot i) refl k) h
  where
    brought : (slot : Slot) → Is_in slot (listed_slots keys s.advert l) → slot.wallet ≡ input_wallet keys s.advert l.which slot.input
    brought slot i =
        let r = from_slots keys s l 0 l.pending.spends l.signers slot i in
        ap (λ (x : Slot). x.wallet) r.same ∙ ap (λ (x : Slot). input_wallet keys s.advert l.which x.input) (sym r.same)

    by_wallet : (slot : Slot) (o : Option Wallet) → slot.wallet ≡ input_wallet keys s.advert l.which slot.input → slot.wallet ≡ o
        → (is_some o || oracle_by v hash l slot.input (bytes_or_none (signature_for hash keys given slot)) (slot_key hash keys slot)) ≡ true
        → (is_some o || oracle slot.input (bytes_or_none (signature_for hash keys given slot)) (slot_key hash keys slot)) ≡ true
    by_wallet slot (Some w) same e k = refl
    by_wallet slot None same e k =
        agrees slot.input (sym same ∙ e) (bytes_or_none (signature_for hash keys given slot)) (slot_key hash keys slot) k
