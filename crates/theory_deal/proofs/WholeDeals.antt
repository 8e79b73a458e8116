-- A deal that is taken gives all that it uses of what its contract needs, in order.
use Rattle.std.proofs.Common.{◌≡◌, ℕ, List, [], ◌∷◌, ◌++◌, map, Bool, true, false, not, Option, Some, None, refl, sym, ap, ◌∙◌, subst, cond, inl, inr}
use Rattle.std.specs.Prelude.{filter, ◌&&◌, ◌||◌, is_some}
use Rattle.std.specs.List.{flat_map, list_all, list_any}
use Rattle.std.proofs.lemmas.Bool.{and_parts, and_from}
use Rattle.spec_terms.specs.Advert.{Advert}
use Rattle.spec_terms.specs.Precondition.{names_of}
use Rattle.spec_bitcoin.specs.declared.label.Label.{Label}
use Rattle.spec_bitcoin.specs.Keys.{label_text}
use Rattle.spec_deal.specs.declared.deal.Needed.TheVariants as needs
use Rattle.spec_deal.specs.declared.entry.Entry.{Entry}
use Rattle.spec_deal.specs.declared.entry.Value.{Value}
use Rattle.spec_deal.specs.DealFile.{value_for, with_key, deal_of, entry_keys, is_given, is_used, is_missing, first_missing}
use Rattle.spec_deal.specs.Needed.{needed_labels, needed_deposits, needed_secrets, same_label}
use Rattle.spec_deal.specs.Verifier.{Verifier}
use Rattle.theory_calculus.specs.Members.{Is_in}
use Rattle.theory_calculus.proofs.Names.{bytes-true, bytes_refl}
use Rattle.theory_deal.proofs.ReadDeals.{AllFit, given_some, keys_settled, is_of}
use Rattle.theory_deal.proofs.Ledger.KeysApart.{same_value_for}
use Rattle.theory_deal.specs.Files.{GivesAll, DealsGiveAll}

names_beside : {V : Type 0} (f : List ℕ → V) (names : List (List ℕ)) → names_of (map (λ name. (name, f name)) names) ≡ names
names_beside f [] = refl
names_beside f (name ∷ names) = ap (λ ns. name ∷ ns) (names_beside f names)

-- ---- keys

-- what is given to a label
abbrev key_for : List Entry → Label → Option Value
key_for entries label = value_for entries (needs.Key label)

abbrev keys_of : List Entry → List Label → List (Label × List ℕ)
keys_of entries ls = flat_map (λ l. with_key l (key_for entries l)) ls

-- the labels of the keys that are given
labels_given : (entries : List Entry) (ls : List Label) → map (λ (p : Label × List ℕ). p.0) (keys_of entries ls) ≡ filter (λ l. is_some (key_for entries l)) ls
labels_given entries [] = refl
labels_given entries (l ∷ ls) = by_value (key_for entries l) (labels_given entries ls)
  where
    by_value : (o : Option Value) → map (λ (p : Label × List ℕ). p.0) (keys_of entries ls) ≡ filter (λ x. is_some (key_for entries x)) ls
        → map (λ (p : Label × List ℕ). p.0) (with_key l o ++ keys_of entries ls)
        ≡ cond (is_some o) (l ∷ filter (λ x. is_some (key_for entries x)) ls) (filter (λ x. is_some (key_for entries x)) ls)
    by_value None ih = ih
    by_value (Some value) ih = ap (λ (xs : List Label). l ∷ xs) ih

-- whether there is a key of this label
abbrev there_is : List Entry → List Label → Label → Bool
there_is entries ls label = list_any (λ (p : Label × List ℕ). same_label (p.0) label) (keys_of entries ls)

none_there : (entries : List Entry) (ls : List Label) (label : Label) → key_for entries label ≡ None → there_is entries ls label ≡ false
none_there entries [] label e = refl
none_there entries (l ∷ ls) label e = by_value (key_for entries l) refl (none_there entries ls label e)
  where
    some_none : (value : Value) → key_for entries l ≡ Some value → label_text l ≡ label_text label → ⊥
    some_none value f t =
        let q : Some value ≡ None = sym f ∙ same_value_for entries l label t ∙ e in
        cc

    by_test : (value : Value) (b : Bool) → same_label l label ≡ b → key_for entries l ≡ Some value → there_is entries ls label ≡ false
        → (b || there_is entries ls label) ≡ false
    by_test value false t f ih = ih
    by_test value true t f ih = absurd (some_none value f (bytes-true (label_text l) (label_text label) t))

    by_value : (o : Option Value) → key_for entries l ≡ o → there_is entries ls label ≡ false
        → list_any (λ (p : Label × List ℕ). same_label (p.0) label) (with_key l o ++ keys_of entries ls) ≡ false
    by_value None f ih = ih
    by_value (Some value) f ih = by_test value (same_label l label) refl f ih

some_there : (entries : List Entry) (ls : List Label) (label : Label) → Is_in label ls → is_some (key_for entries label) ≡ true
    → there_is entries ls label ≡ true
some_there entries [] label i e = absurd i
some_there entries (l ∷ ls) label (inl same) e =
    subst (λ (x : Label). list_any (λ (p : Label × List ℕ). same_label (p.0) label) (with_key x (key_for entries x) ++ keys_of entries ls) ≡ true) same
    (by_value (key_for entries label) e)
  where
    by_value : (o : Option Value) → is_some o ≡ true
        → list_any (λ (p : Label × List ℕ). same_label (p.0) label) (with_key label o ++ keys_of entries ls) ≡ true
    by_value None k = cc
    by_value (Some value) k = ap (λ (b : Bool). b || there_is entries ls label) (bytes_refl (label_text label))
some_there entries (l ∷ ls) label (inr i) e = by_value (key_for entries l) (some_there entries ls label i e)
  where
    by_test : (b : Bool) → there_is entries ls label ≡ true → (b || there_is entries ls label) ≡ true
    by_test true k = refl
    by_test false k = k

    by_value : (o : Option Value) → there_is entries ls label ≡ true
        → list_any (λ (p : Label × List ℕ). same_label (p.0) label) (with_key l o ++ keys_of entries ls) ≡ true
    by_value None k = k
    by_value (Some value) k = by_test (same_label l label) k

is_there : (entries : List Entry) (ls : List Label) (label : Label) → Is_in label ls → is_some (key_for entries label) ≡ there_is entries ls label
is_there entries ls label i = by_value (key_for entries label) refl
  where
    none_is : (o : Option Value) → o ≡ None → is_some o ≡ false
    none_is o e = ap (λ (x : Option Value). is_some x) e

    by_value : (o : Option Value) → key_for entries label ≡ o → is_some o ≡ there_is entries ls label
    by_value None e = sym (none_there entries ls label e)
    by_value (Some value) e = sym (some_there entries ls label i (ap (λ (x : Option Value). is_some x) e))

same_filter : {X : Type 0} (p q : X → Bool) (xs : List X) → ((x : X) → Is_in x xs → p x ≡ q x) → filter p xs ≡ filter q xs
same_filter p q [] f = refl
same_filter p q (x ∷ xs) f =
    let first = f x (inl refl) in
    let later = same_filter p q xs (λ y i. f y (inr i)) in
    λ i. cond (first i) (x ∷ later i) (later i)

-- what isn't missing is there, or isn't used
each_used : (advert : Advert) (entries : List Entry) (all ls : List Label) → ((l : Label) → Is_in l ls → Is_in l all)
    → list_all (λ l. not (is_missing advert entries (needs.Key l))) ls ≡ true
    → list_all (λ l. there_is entries all l || not (is_used (entry_keys advert entries) advert (needs.Key l))) ls ≡ true
each_used advert entries all [] f h = refl
each_used advert entries all (l ∷ ls) f h =
    let p = and_parts (not (is_missing advert entries (needs.Key l))) _ h in
    and_from (there_is entries all l || not (is_used (entry_keys advert entries) advert (needs.Key l))) _
    (by_test (is_given entries (needs.Key l)) (is_used (entry_keys advert entries) advert (needs.Key l)) refl p.0)
    (each_used advert entries all ls (λ x i. f x (inr i)) p.1)
  where
    or_right_true : (a : Bool) → (a || true) ≡ true
    or_right_true true = refl
    or_right_true false = refl

    by_test : (a b : Bool) → is_given entries (needs.Key l) ≡ a → not (not a && b) ≡ true → (there_is entries all l || not b) ≡ true
    by_test true b e k =
        ap (λ (x : Bool). x || not b) (some_there entries all l (f l (inl refl)) (given_some entries (needs.Key l) e))
    by_test false false e k = or_right_true (there_is entries all l)
    by_test false true e k = cc

entries_give : (v : Verifier) (advert : Advert) (entries : List Entry) → AllFit v entries → first_missing advert entries ≡ None
    → GivesAll advert (deal_of advert entries)
entries_give v advert entries all none = record {
  labels =
      labels_given entries (needed_labels advert)
      ∙ same_filter (λ l. is_some (key_for entries l)) (there_is entries (needed_labels advert)) (needed_labels advert)
      (λ l i. is_there entries (needed_labels advert) l i);
  used = each_used advert entries (needed_labels advert) (needed_labels advert) (λ l i. i) (keys_settled v advert entries all none);
  deposits = names_beside _ (needed_deposits advert);
  secrets = names_beside _ (needed_secrets advert);
}

pub deals_give_all : DealsGiveAll
deals_give_all v advert text deal e =
    let d = is_of v advert text deal e in
    subst (GivesAll advert) d.same (entries_give v advert d.entries d.fit d.none)
