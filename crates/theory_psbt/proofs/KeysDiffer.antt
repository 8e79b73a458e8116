-- The keys of different parties for a branch are different, where no two texts of their labels collide.
use Rattle.std.proofs.Common.{◌≡◌, ℕ, ◌<◌, ◌^◌, List, [], ◌∷◌, map, Bool, true, false, not, refl, sym, ap, ◌∙◌}
use Rattle.std.specs.Prelude.{fold, if◌then◌else◌, ◌++◌, ◌||◌}
use Rattle.std.specs.List.{AllByRecursion}
use Rattle.std.specs.Str.{bytes_eq}
use Rattle.std.proofs.lemmas.Bool.{or_parts}
use Rattle.spec_data.specs.Lists.{is_among, are_different}
use Rattle.spec_terms.specs.Parties.{choice_mentions, add_new}
use Rattle.spec_terms.specs.Precondition.{party_of}
use Rattle.spec_terms.specs.declared.path.PathStep.{PathStep}
use Rattle.spec_bitcoin.specs.Keys.{IsStep, key_of}
use Rattle.spec_compiler.specs.Instance.{branch_label}
use Rattle.spec_run.specs.Signing.{label_party}
use Rattle.theory_bitcoin.proofs.Labels.{one_label}
use Rattle.theory_text.proofs.ListFacts.{and_is, and_left, and_right, not_yes, not_no, or_no, or_yes, different_push}
use Rattle.theory_psbt.specs.Listed.{AreCalm, KeysDiffer, ParticipantsDiffer}
use Rattle.theory_psbt.proofs.Order.{bytes_same, not_same}

tail_is : (xs ys : List ℕ) → 2 ∷ xs ≡ 2 ∷ ys → xs ≡ ys
tail_is xs ys e = cc

or_last : (a b : Bool) → b ≡ true → (a || b) ≡ true
or_last true b e = refl
or_last false b e = e

no_truth : (a : Bool) → a ≡ true → a ≡ false → ⊥
no_truth true e f = cc
no_truth false e f = cc

module _ (hash : List ℕ → List ℕ) (contract : ℕ) (path : List PathStep) (parties : List (List ℕ)) (small : contract < 2 ^ 32)
    (steps : AllByRecursion IsStep path) (calm : AreCalm hash contract path parties) where
  abbrev key : List ℕ → List ℕ
  key party = key_of hash (branch_label contract path party)

  abbrev keys : List (List ℕ) → List (List ℕ)
  keys names = map (key_of hash) (map (branch_label contract path) names)

  same_party : (a b : List ℕ) → is_among a parties ≡ true → is_among b parties ≡ true → key a ≡ key b → a ≡ b
  same_party a b p q e =
      ap label_party (one_label (branch_label contract path a) (branch_label contract path b) (small, steps) (small, steps)
      (calm a b p q (tail_is _ _ e)))

  absent : (a : List ℕ) (names : List (List ℕ)) → is_among a parties ≡ true → ((x : List ℕ) → is_among x names ≡ true
      → is_among x parties ≡ true)
      → is_among a names ≡ false → is_among (key a) (keys names) ≡ false
  absent a [] p all h = refl
  absent a (x ∷ names) p all h =
      let parts = or_parts (bytes_eq x a) (is_among a names) h in
      let x_there = all x (or_yes (bytes_eq x x) (is_among x names) (bytes_same x)) in
      let apart : bytes_eq (key x) (key a) ≡ false =
      not_same (key x) (key a) (λ e.
      no_truth (bytes_eq x a) (ap (λ (y : List ℕ). bytes_eq x y) (sym (same_party x a x_there p e)) ∙ bytes_same x) parts.0) in
      or_no _ _ apart (absent a names p (λ y i. all y (or_last (bytes_eq x y) (is_among y names) i)) parts.1)

  differ : (names : List (List ℕ)) → ((x : List ℕ) → is_among x names ≡ true → is_among x parties ≡ true) → are_different names ≡ true
      → are_different (keys names) ≡ true
  differ [] all h = refl
  differ (a ∷ names) all h =
      let there = all a (or_yes (bytes_eq a a) (is_among a names) (bytes_same a)) in
      let later = λ (y : List ℕ) (i : is_among y names ≡ true). all y (or_last (bytes_eq a y) (is_among y names) i) in
      and_is _ _ (not_no _ (absent a names there later (not_yes _ (and_left _ _ h))))
      (differ names later (and_right (not (is_among a names)) _ h))

pub keys_differ : KeysDiffer
keys_differ hash contract path parties small steps apart calm = differ hash contract path parties small steps calm parties (λ x i. i) apart

-- ---- the participants of a contract

one_new : (names : List (List ℕ)) (a : List ℕ) → are_different names ≡ true → are_different (add_new names a) ≡ true
one_new names a h = by_test (is_among a names) refl
  where
    by_test : (t : Bool) → is_among a names ≡ t → are_different (if t then names else (names ++ a ∷ [])) ≡ true
    by_test true e = h
    by_test false e = different_push names a h e

all_new : (names new : List (List ℕ)) → are_different names ≡ true → are_different (fold add_new names new) ≡ true
all_new names [] h = h
all_new names (a ∷ new) h = all_new (add_new names a) new (one_new names a h)

pub participants_differ : ParticipantsDiffer
participants_differ advert = all_new [] (map party_of advert.pre ++ choice_mentions advert.root) refl
