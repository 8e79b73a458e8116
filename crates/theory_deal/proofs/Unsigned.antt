-- A script is false where one of its signers has signed nothing.
use Rattle.std.proofs.Common.{◌≡◌, ℕ, List, [], ◌∷◌, ◌++◌, map, Bool, true, false, not, refl, ap, ◌∙◌, subst}
use Rattle.std.specs.Prelude.{reverse, ◌&&◌, ◌||◌}
use Rattle.std.specs.List.{list_all, list_any}
use Rattle.std.specs.Str.{bytes_eq}
use Rattle.std.proofs.lemmas.Bool.{and_parts}
use Rattle.spec_data.specs.Lists.{is_among}
use Rattle.spec_terms.specs.Term.{Contract}
use Rattle.spec_terms.specs.declared.path.PathStep.{PathStep}
use Rattle.spec_bitcoin.specs.Meaning.{script_meaning}
use Rattle.spec_compiler.specs.Keyed.Keys.{Keys, key_in}
use Rattle.spec_compiler.specs.Keyed.Instance.{Instance, people, branch_path, branch_label, position_script}
use Rattle.spec_compiler.specs.Keyed.Statements.{are_valid, is_short, AreKeys, IsCompiled}
use Rattle.theory_calculus.proofs.Names.{bytes-true}
use Rattle.theory_script.proofs.Keyed.Opened.{opens_exactly}
use Rattle.theory_script.proofs.ScriptTheorem.{all_reverse}
use Rattle.theory_script.proofs.Scripts.Deposits.{deposit_meaning}
use Rattle.theory_deal.specs.Finished.{NoneSigns, FalseWithoutOne}

none_is_all : {X : Type 0} (p : X → Bool) (xs : List X) → list_any p xs ≡ false → list_all (λ x. not (p x)) xs ≡ true
none_is_all p [] h = refl
none_is_all p (x ∷ xs) h = by_test (p x) h (none_is_all p xs)
  where
    by_test : (b : Bool) → (b || list_any p xs) ≡ false → (list_any p xs ≡ false → list_all (λ y. not (p y)) xs ≡ true)
        → (not b && list_all (λ y. not (p y)) xs) ≡ true
    by_test true k ih = cc
    by_test false k ih = ih k

all_is_none : {X : Type 0} (p : X → Bool) (xs : List X) → list_all (λ x. not (p x)) xs ≡ true → list_any p xs ≡ false
all_is_none p [] h = refl
all_is_none p (x ∷ xs) h = by_test (p x) h (all_is_none p xs)
  where
    by_test : (b : Bool) → (not b && list_all (λ y. not (p y)) xs) ≡ true → (list_all (λ y. not (p y)) xs ≡ true → list_any p xs ≡ false)
        → (b || list_any p xs) ≡ false
    by_test true k ih = cc
    by_test false k ih = ih k

all_right : {X : Type 0} (f : X → Bool) (xs ys : List X) → list_all f (xs ++ ys) ≡ true → list_all f ys ≡ true
all_right f [] ys h = h
all_right f (x ∷ xs) ys h = all_right f xs ys (and_parts (f x) (list_all f (xs ++ ys)) h).1

-- where each has signed, this one has
one_of_all : (valid : List ℕ → List ℕ → Bool) (f : List ℕ → List ℕ) (names signatures : List (List ℕ)) (party : List ℕ)
    → are_valid valid signatures (map f names) ≡ true → is_among party names ≡ true
    → list_any (λ item. valid item (f party)) signatures ≡ true
one_of_all valid f [] signatures party h k = cc
one_of_all valid f (name ∷ names) [] party h k = cc
one_of_all valid f (name ∷ names) (x ∷ xs) party h k =
    let p = and_parts (valid x (f name)) (are_valid valid xs (map f names)) h in
    by_test (bytes_eq name party) refl k p.0 (one_of_all valid f names xs party p.1)
  where
    or_true : (b : Bool) → (b || true) ≡ true
    or_true true = refl
    or_true false = refl

    by_test : (b : Bool) → bytes_eq name party ≡ b → (b || is_among party names) ≡ true → valid x (f name) ≡ true
        → (is_among party names ≡ true → list_any (λ item. valid item (f party)) xs ≡ true)
        → (valid x (f party) || list_any (λ item. valid item (f party)) xs) ≡ true
    by_test true e m v ih =
        ap (λ (b : Bool). b || list_any (λ item. valid item (f party)) xs)
        (subst (λ (y : List ℕ). valid x (f y) ≡ true) (bytes-true name party e) v)
    by_test false e m v ih = ap (λ (b : Bool). valid x (f party) || b) (ih m) ∙ or_true (valid x (f party))

no_single : (valid : List ℕ → List ℕ → Bool) (key : List ℕ) (items : List (List ℕ))
    → list_all (λ item. not (valid item key)) items ≡ true → are_valid valid items (key ∷ []) ≡ false
no_single valid key [] h = refl
no_single valid key (x ∷ []) h = by_test (valid x key) h
  where
    by_test : (b : Bool) → (not b && true) ≡ true → (b && true) ≡ false
    by_test true k = cc
    by_test false k = refl
no_single valid key (x ∷ (y ∷ items)) h = by_test (valid x key)
  where
    by_test : (b : Bool) → (b && false) ≡ false
    by_test true = refl
    by_test false = refl

module _ (hash : List ℕ → List ℕ) (keys : Keys) (valid : List ℕ → List ℕ → Bool) where
  positions_false : (s : Instance) (position : List PathStep) (contract : Contract) (items : List (List ℕ)) (party : List ℕ)
      → AreKeys hash keys → IsCompiled s position contract → list_all is_short items ≡ true → is_among party (people s) ≡ true
      → NoneSigns hash keys valid s position party items
      → script_meaning hash valid (position_script hash keys s position contract) items ≡ false
  positions_false s position contract items party are_keys compiled short there none =
      by_meaning (script_meaning hash valid (position_script hash keys s position contract) items) refl
    where
      by_meaning : (b : Bool) → script_meaning hash valid (position_script hash keys s position contract) items ≡ b → b ≡ false
      by_meaning false e = refl
      by_meaning true e =
          let opens = (opens_exactly hash keys s position valid contract items are_keys compiled short).true_opens e in
          let key : List ℕ → List ℕ = λ name. key_in hash keys (branch_label s.contract (branch_path position opens.i) name) in
          let signed : list_any (λ item. valid item (key party)) opens.signatures ≡ true =
          one_of_all valid key (people s) opens.signatures party opens.signed there in
          let unsigned : list_all (λ item. not (valid item (key party))) (reverse items) ≡ true =
          all_reverse (λ item. not (valid item (key party))) items (none_is_all (λ item. valid item (key party)) items (none opens.i)) in
          let among : list_all (λ item. not (valid item (key party))) (opens.selectors ++ (opens.strings ++ opens.signatures)) ≡ true =
          subst (λ (xs : List (List ℕ)). list_all (λ item. not (valid item (key party))) xs ≡ true) opens.is_stack unsigned in
          let nothing : list_any (λ item. valid item (key party)) opens.signatures ≡ false =
          all_is_none (λ item. valid item (key party)) opens.signatures
          (all_right _ opens.strings opens.signatures (all_right _ opens.selectors (opens.strings ++ opens.signatures) among)) in
          cc

pub false_without_one : FalseWithoutOne
false_without_one hash keys valid = record {
  positions = positions_false hash keys valid;
  deposits = λ key items size short none.
      deposit_meaning hash valid key items size short
      ∙ no_single valid key (reverse items)
      (all_reverse (λ item. not (valid item key)) items (none_is_all (λ item. valid item key) items none));
}
