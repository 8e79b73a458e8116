-- What the transactions of a deal ask for is what its contract needs, in the same order.
use Rattle.std.proofs.Common.{◌≡◌, ℕ, ◌+◌, List, [], ◌∷◌, ◌++◌, map, Bool, true, false, Some, refl, sym, ap, ◌∙◌, cond}
use Rattle.std.specs.Prelude.{flat_map, filter, ◌||◌}
use Rattle.std.specs.List.{find, list_any}
use Rattle.std.specs.Option.{option_map}
use Rattle.spec_bitcoin.specs.declared.label.Label.{Label}
use Rattle.spec_bitcoin.specs.Spelling.{stripped}
use Rattle.spec_compiler.specs.Keyed.Instance.{Instance}
use Rattle.spec_compiler.specs.Keyed.Keys.{Keys}
use Rattle.spec_compiler.specs.Keyed.Transactions.{tx_of}
use Rattle.spec_compiler.specs.declared.unsigned.Spent.{Spent}
use Rattle.spec_terms.specs.Advert.{Advert}
use Rattle.spec_tool.specs.Keyed.Listed.{Listed, listed}
use Rattle.spec_deal.specs.Slots.{Slot, input_slot, input_slots, slots_from, listed_slots, slots, slot_bytes, slot_key, slot_digest}
use Rattle.spec_deal.specs.Transactions.{no_digest, signer, input, inputs, transaction, transactions}
use Rattle.spec_deal.specs.Wallets.{input_wallet, has_digest}
use Rattle.theory_deal_text.specs.Asked.{Asked, input_asks, inputs_ask, asked}

-- ---- lists

pub mapped_append : {A B : Type 0} (f : A → B) (xs ys : List A) → map f (xs ++ ys) ≡ map f xs ++ map f ys
mapped_append f [] ys = refl
mapped_append f (x ∷ xs) ys = ap (λ (r : List _). f x ∷ r) (mapped_append f xs ys)

pub mapped_filter : {A B : Type 0} (f : A → B) (p : B → Bool) (xs : List A) → filter p (map f xs) ≡ map f (filter (λ x. p (f x)) xs)
mapped_filter f p [] = refl
mapped_filter {A} {B} f p (x ∷ xs) = by_test (p (f x)) (mapped_filter f p xs)
  where
    by_test : (b : Bool) → filter p (map f xs) ≡ map f (filter (λ y. p (f y)) xs)
        → cond b (f x ∷ filter p (map f xs)) (filter p (map f xs)) ≡ map f (cond b (x ∷ filter (λ y. p (f y)) xs) (filter (λ y. p (f y)) xs))
    by_test true h = ap (λ (r : List B). f x ∷ r) h
    by_test false h = h

pub mapped_find : {A B : Type 0} (f : A → B) (p : B → Bool) (xs : List A) → find p (map f xs) ≡ option_map f (find (λ x. p (f x)) xs)
mapped_find f p [] = refl
mapped_find {A} {B} f p (x ∷ xs) = by_test (p (f x)) (mapped_find f p xs)
  where
    by_test : (b : Bool) → find p (map f xs) ≡ option_map f (find (λ y. p (f y)) xs)
        → cond b (Some (f x)) (find p (map f xs)) ≡ option_map f (cond b (Some x) (find (λ y. p (f y)) xs))
    by_test true h = refl
    by_test false h = h

pub mapped_any : {A B : Type 0} (f : A → B) (p : B → Bool) (xs : List A) → list_any p (map f xs) ≡ list_any (λ x. p (f x)) xs
mapped_any f p [] = refl
mapped_any f p (x ∷ xs) = ap (λ (b : Bool). p (f x) || b) (mapped_any f p xs)

-- ---- signatures that are needed

module _ (hash : List ℕ → List ℕ) (keys : Keys) where
  -- as a transaction asks for it
  abbrev pub as_asked : Slot → Asked
  as_asked slot = record {
    which = slot.which;
    tx = slot_bytes slot;
    input = slot.input;
    wallet = slot.wallet;
    digest = cond (has_digest slot.wallet) (slot_digest hash slot) no_digest;
    signer = record { label = slot.label; key = slot_key hash keys slot; verb = slot.verb };
  }

  module _ (advert : Advert) (l : Listed) where
    abbrev bytes : List ℕ
    bytes = stripped (tx_of l.pending)

    one_input : (k : ℕ) (spent : Spent) (all labels : List Label)
        → input_asks l.which bytes k
        (record (input hash keys advert l k spent all) { signers = map (signer hash keys advert l.which (input_wallet keys advert l.which k)) labels })
        ≡ map as_asked (input_slots keys advert l k spent labels)
    one_input k spent all [] = refl
    one_input k spent all (label ∷ labels) =
        ap (λ (r : List Asked). as_asked (input_slot keys advert l k spent label) ∷ r) (one_input k spent all labels)

    each_input : (k : ℕ) (spends : List Spent) (signers : List (List Label))
        → inputs_ask l.which bytes k (inputs hash keys advert l k spends signers) ≡ map as_asked (slots_from keys advert l k spends signers)
    each_input k [] signers = refl
    each_input k (spent ∷ spends) [] = none (k + 1) spends
      where
        none : (j : ℕ) (xs : List Spent) → inputs_ask l.which bytes j (inputs hash keys advert l j xs []) ≡ []
        none j [] = refl
        none j (x ∷ xs) = none (j + 1) xs
    each_input k (spent ∷ spends) (labels ∷ signers) =
        (λ i. one_input k spent labels labels i ++ each_input (k + 1) spends signers i)
        ∙ sym (mapped_append as_asked (input_slots keys advert l k spent labels) (slots_from keys advert l (k + 1) spends signers))

  each_listed : (advert : Advert) (ls : List Listed)
      → asked (map (transaction hash keys advert) ls) ≡ map as_asked (flat_map (listed_slots keys advert) ls)
  each_listed advert [] = refl
  each_listed advert (l ∷ ls) =
      (λ i. each_input advert l 0 l.pending.spends l.signers i ++ each_listed advert ls i)
      ∙ sym (mapped_append as_asked (listed_slots keys advert l) (flat_map (listed_slots keys advert) ls))

  pub all_asked : (s : Instance) → asked (transactions hash keys s) ≡ map as_asked (slots hash keys s)
  all_asked s = each_listed s.advert (listed hash keys s)
