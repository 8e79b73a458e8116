-- What a contract needs is needed once: no two labels, deposits or secrets of it are the same.
use Rattle.std.proofs.Common.{◌≡◌, ℕ, List, [], ◌∷◌, ◌++◌, map, Bool, true, false, not, refl, sym, ap, ◌∙◌, inl, inr}
use Rattle.std.specs.Prelude.{flat_map, ◌||◌, ◌⊎◌}
use Rattle.std.specs.List.{list_any, AllByRecursion}
use Rattle.std.specs.Str.{bytes_eq}
use Rattle.std.proofs.lemmas.Bool.{and_parts, and_from, or_cases, or_left, or_right, not-true, not_from_false, both_ways, false_from_ne_true}
use Rattle.spec_data.specs.Lists.{is_among, are_different}
use Rattle.spec_terms.specs.Advert.{Advert}
use Rattle.spec_terms.specs.Faults.{IsWellFormed}
use Rattle.spec_terms.specs.Order.{branch_paths}
use Rattle.spec_terms.specs.Parties.{participants}
use Rattle.spec_terms.specs.Precondition.{secrets, names_of, name_in}
use Rattle.spec_terms.specs.declared.path.PathStep.{PathStep}
use Rattle.spec_terms.specs.declared.pre.Pre.{Pre}
use Rattle.spec_terms.specs.declared.pre.Pre.TheVariants.{Persistent, Volatile, Secret}
use Rattle.spec_bitcoin.specs.declared.label.Label.{Label}
use Rattle.spec_bitcoin.specs.declared.label.Label.TheVariants as labels
use Rattle.spec_bitcoin.specs.Keys.{IsLabel, label_text}
use Rattle.spec_compiler.specs.Keyed.Instance.{Instance, branch_label}
use Rattle.spec_compiler.specs.Keyed.Keys.{by_plan}
use Rattle.spec_deal.specs.declared.deal.Needed.{Needed}
use Rattle.spec_deal.specs.declared.deal.Needed.TheVariants as needs
use Rattle.spec_deal.specs.declared.entry.Value.{Value}
use Rattle.spec_deal.specs.DealFile.{same_value}
use Rattle.spec_deal.specs.Finished.{label_party}
use Rattle.spec_deal.specs.Needed.{deal_contract, path_labels, needed_labels, needed_deposits, needed_secrets, needed, same_label, same_needed}
use Rattle.theory_bitcoin.proofs.Labels.{one_label}
use Rattle.theory_calculus.specs.Members.{Is_in}
use Rattle.theory_calculus.proofs.Members.{in_append}
use Rattle.theory_calculus.proofs.Names.{bytes-true, different_names, deposits_different}
use Rattle.theory_script.specs.Keyed.Listed.{are_once, PathsInOrder}
use Rattle.theory_psbt.proofs.KeysDiffer.{participants_differ}
use Rattle.theory_deal.specs.SigningOrder.{IsAscending}
use Rattle.theory_deal_text.proofs.Ascending.{in_map, AreApart, ascend_then, ascend_append, ascend_map, ascend_flat, names_apart, paths_apart}
use Rattle.theory_play_text.proofs.LegalSteps.{all_by_in}
use Rattle.theory_plan_text.specs.Audit.{IsShownLabel}
use Rattle.theory_deal_text.specs.Filled.{are_apart}
use Rattle.theory_deal_text.proofs.KeysRead.{labels_asked}

-- ---- labels

abbrev label_path : Label → List PathStep
label_path (labels.Deposit party) = []
label_path (labels.Branch contract path party) = path

deposit_apart : (a b : List ℕ) → (a ≡ b → ⊥) → labels.Deposit a ≡ labels.Deposit b → ⊥
deposit_apart a b h e = h (ap label_party e)

branch_apart : (path : List PathStep) (a b : List ℕ) → (a ≡ b → ⊥) → branch_label deal_contract path a ≡ branch_label deal_contract path b → ⊥
branch_apart path a b h e = h (ap label_party e)

-- no path of a contract stands twice, with whatever it is compiled
once : PathsInOrder → (a : Advert) → are_once (branch_paths a.root) ≡ true
once order a =
    let s : Instance = record { contract = deal_contract; advert = a; bound = []; hashes = [] } in
    (order (λ message. message) by_plan s).paths_once

people_apart : (a : Advert) → AreApart (participants a)
people_apart a = names_apart (participants a) (participants_differ a)

all_apart : PathsInOrder → (a : Advert) → AreApart (needed_labels a)
all_apart order a =
    let people = participants a in
    ascend_append (λ (x y : Label). x ≡ y → ⊥) (map (λ party. labels.Deposit party) people) (flat_map (path_labels a) (branch_paths a.root))
    (ascend_map (λ (x y : Label). x ≡ y → ⊥) (λ party. labels.Deposit party) people
    (ascend_then (λ (x y : List ℕ). x ≡ y → ⊥) (λ x y. labels.Deposit x ≡ labels.Deposit y → ⊥) people deposit_apart (people_apart a)))
    (ascend_flat (λ (x y : List PathStep). x ≡ y → ⊥) (λ (x y : Label). x ≡ y → ⊥) (path_labels a) (branch_paths a.root)
    (paths_apart (branch_paths a.root) (once order a)) (λ path i. of_path path) across)
    (λ x y i j e. deposit_no_branch x y i j e)
  where
    of_path : (path : List PathStep) → AreApart (path_labels a path)
    of_path path =
        ascend_map (λ (x y : Label). x ≡ y → ⊥) (branch_label deal_contract path) (participants a)
        (ascend_then (λ (x y : List ℕ). x ≡ y → ⊥) (λ x y. branch_label deal_contract path x ≡ branch_label deal_contract path y → ⊥) (participants a)
        (branch_apart path) (people_apart a))

    across : (p q : List PathStep) (x y : Label) → (p ≡ q → ⊥) → Is_in x (path_labels a p) → Is_in y (path_labels a q) → x ≡ y → ⊥
    across p q x y h i j e =
        let r = in_map (branch_label deal_contract p) (participants a) x i in
        let t = in_map (branch_label deal_contract q) (participants a) y j in
        h (ap label_path (sym r.2 ∙ e ∙ t.2))

    in_paths : (paths : List (List PathStep)) (y : Label) → Is_in y (flat_map (path_labels a) paths)
        → (path : List PathStep) × (party : List ℕ) × (y ≡ branch_label deal_contract path party)
    in_paths [] y j = absurd j
    in_paths (path ∷ paths) y j = elim (in_append y (path_labels a path) (flat_map (path_labels a) paths) j) [
      | inl l ↦ (let t = in_map (branch_label deal_contract path) (participants a) y l in (path, t.0, t.2))
      | inr r ↦ in_paths paths y r
    ]

    deposit_no_branch : (x y : Label) → Is_in x (map (λ party. labels.Deposit party) (participants a))
        → Is_in y (flat_map (path_labels a) (branch_paths a.root)) → x ≡ y → ⊥
    deposit_no_branch x y i j e =
        let r = in_map (λ party. labels.Deposit party) (participants a) x i in
        let t = in_paths (branch_paths a.root) y j in
        let same : labels.Deposit r.0 ≡ branch_label deal_contract t.0 t.1 = sym r.2 ∙ e ∙ t.2 in
        cc

is_label : (l : Label) → IsShownLabel l → IsLabel l
is_label (labels.Deposit party) h = tt
is_label (labels.Branch contract path party) h = (h.0, h.1)

labels_differ : (ls : List Label) → AllByRecursion IsShownLabel ls → AreApart ls → IsAscending (λ a b. same_label a b ≡ false) ls
labels_differ [] h k = tt
labels_differ (l ∷ ls) h k = (
  λ y i. false_from_ne_true _ (λ t.
      k.0 y i (one_label l y (is_label l h.0) (is_label y (all_by_in IsShownLabel ls h.1 y i)) (bytes-true (label_text l) (label_text y) t))),
  labels_differ ls h.1 k.1,
)

-- ---- names

names_differ : (names : List (List ℕ)) → AreApart names → IsAscending (λ a b. bytes_eq a b ≡ false) names
names_differ names h =
    ascend_then (λ (a b : List ℕ). a ≡ b → ⊥) (λ a b. bytes_eq a b ≡ false) names
    (λ a b k. false_from_ne_true _ (λ t. k (bytes-true a b t))) h

secret_named : (pre : List Pre) (n : List ℕ) → is_among n (names_of (secrets pre)) ≡ true → is_among n (map name_in pre) ≡ true
secret_named [] n h = h
secret_named (Persistent party value name ∷ pre) n h = or_right (bytes_eq name n) _ (secret_named pre n h)
secret_named (Volatile party value name ∷ pre) n h = or_right (bytes_eq name n) _ (secret_named pre n h)
secret_named (Secret party name ∷ pre) n h =
    elim (or_cases (bytes_eq name n) (is_among n (names_of (secrets pre))) h)
    [ inl a ↦ or_left _ _ a | inr b ↦ or_right (bytes_eq name n) _ (secret_named pre n b) ]

secrets_different : (pre : List Pre) → are_different (map name_in pre) ≡ true → are_different (names_of (secrets pre)) ≡ true
secrets_different [] h = refl
secrets_different (Persistent party value name ∷ pre) h =
    secrets_different pre (and_parts (not (is_among name (map name_in pre))) (are_different (map name_in pre)) h).1
secrets_different (Volatile party value name ∷ pre) h =
    secrets_different pre (and_parts (not (is_among name (map name_in pre))) (are_different (map name_in pre)) h).1
secrets_different (Secret party name ∷ pre) h =
    let p = and_parts (not (is_among name (map name_in pre))) (are_different (map name_in pre)) h in
    let none : is_among name (names_of (secrets pre)) ≡ false =
    false_from_ne_true _ (λ t. both_ways _ (not-true _ p.0) (secret_named pre name t)) in
    and_from _ _ (not_from_false _ none) (secrets_different pre p.1)

-- ---- all that is needed

abbrev pub Differ : Needed → Needed → Type 0
Differ a b = same_needed a b ≡ false

pub needed_apart : PathsInOrder → (a : Advert) → IsWellFormed a → IsAscending Differ (needed a)
needed_apart order a well =
    let names = different_names a well in
    let keys = map needs.Key (needed_labels a) in
    let places = map needs.Deposit (needed_deposits a) in
    let hashes = map needs.Hash (needed_secrets a) in
    ascend_append Differ keys (places ++ hashes)
    (ascend_map Differ needs.Key (needed_labels a) (labels_differ (needed_labels a) (labels_asked a well) (all_apart order a)))
    (ascend_append Differ places hashes
    (ascend_map Differ needs.Deposit (needed_deposits a)
    (names_differ (needed_deposits a) (names_apart (needed_deposits a) (deposits_different a.pre names))))
    (ascend_map Differ needs.Hash (needed_secrets a)
    (names_differ (needed_secrets a) (names_apart (needed_secrets a) (secrets_different a.pre names))))
    (λ x y i j.
    let r = in_map needs.Deposit (needed_deposits a) x i in
    let t = in_map needs.Hash (needed_secrets a) y j in
    (λ k. same_needed (r.2 k) (t.2 k)) ∙ refl))
    (λ x y i j. key_else x y i (in_append y places hashes j))
  where
    key_else : (x y : Needed) → Is_in x (map needs.Key (needed_labels a))
        → Is_in y (map needs.Deposit (needed_deposits a)) ⊎ Is_in y (map needs.Hash (needed_secrets a)) → Differ x y
    key_else x y i (inl j) =
        let r = in_map needs.Key (needed_labels a) x i in
        let t = in_map needs.Deposit (needed_deposits a) y j in
        (λ k. same_needed (r.2 k) (t.2 k)) ∙ refl
    key_else x y i (inr j) =
        let r = in_map needs.Key (needed_labels a) x i in
        let t = in_map needs.Hash (needed_secrets a) y j in
        (λ k. same_needed (r.2 k) (t.2 k)) ∙ refl

-- ---- values

none_same : (p : Value → Bool) (xs : List Value) → list_any p xs ≡ false → (y : Value) → Is_in y xs → p y ≡ false
none_same p [] h y i = absurd i
none_same p (x ∷ xs) h y (inl e) = ap p e ∙ (first (p x) (list_any p xs) h)
  where
    first : (a b : Bool) → (a || b) ≡ false → a ≡ false
    first true b k = cc
    first false b k = refl
none_same p (x ∷ xs) h y (inr i) = none_same p xs (rest (p x) (list_any p xs) h) y i
  where
    rest : (a b : Bool) → (a || b) ≡ false → b ≡ false
    rest true b k = cc
    rest false b k = k

pub values_apart : (xs : List Value) → are_apart xs ≡ true → IsAscending (λ a b. same_value a b ≡ false) xs
values_apart [] h = tt
values_apart (x ∷ xs) h =
    let p = and_parts (not (list_any (same_value x) xs)) (are_apart xs) h in
    (none_same (same_value x) xs (not-true _ p.0), values_apart xs p.1)
