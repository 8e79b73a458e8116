-- Strings that are found by the names of their secrets.
use Rattle.std.proofs.Common.{◌≡◌, ℕ, ◌≤◌, List, [], ◌∷◌, ◌++◌, length, map, Bool, true, false, cond, Option, Some, None}
use Rattle.std.proofs.Common.{refl, sym, ap, subst, arith}
use Rattle.std.specs.Prelude.{option_map, IfSome, nat_le}
use Rattle.std.specs.List.{find, list_all}
use Rattle.std.specs.Str.{bytes_eq}
use Rattle.std.proofs.lemmas.Bool.{and_parts}
use Rattle.spec_data.specs.Ranges.{least_secret_bytes, most_item_bytes}
use Rattle.spec_deal.specs.declared.entry.Shown.{Shown}
use Rattle.spec_deal.specs.SecretFile.{has_length}
use Rattle.deal_index.proofs.Finding.{find_map}
use Rattle.deal_secrets.specs.declared.strings.Entry.{Entry}
use Rattle.deal_secrets.specs.Seen.{shown_in}

abbrev pub is_named : List ℕ → Entry → Bool
is_named name e = bytes_eq e.shown.name name

-- the string of this name
pub shown_found : (es : List Entry) (name : List ℕ)
    → option_map shown_in (find (is_named name) es) ≡ find (λ (x : Shown). bytes_eq x.name name) (map shown_in es)
shown_found es name = sym (find_map shown_in (λ (x : Shown). bytes_eq x.name name) es)

-- what is true of all is true of the one that is found
found_has : {X : Type 0} (p q : X → Bool) (xs : List X) → list_all q xs ≡ true → IfSome (find p xs) (λ x. q x ≡ true)
found_has p q [] all = tt
found_has p q (x ∷ xs) all =
    let parts = and_parts (q x) (list_all q xs) all in
    by_test (p x) parts.0 (found_has p q xs parts.1)
  where
    by_test : (b : Bool) → q x ≡ true → IfSome (find p xs) (λ y. q y ≡ true)
        → IfSome (cond b (Some x) (find p xs)) (λ y. q y ≡ true)
    by_test true h k = h
    by_test false h k = k

short_of : (bytes : List ℕ) → has_length bytes ≡ true → length bytes ≤ most_item_bytes
short_of bytes h =
    let p = and_parts (nat_le least_secret_bytes (length bytes)) (nat_le (length bytes) most_item_bytes) h in
    grind (arith, p.1)

short_in : (o : Option Entry) → IfSome o (λ e. has_length e.shown.bytes ≡ true) → (r : Option (List ℕ))
    → r ≡ option_map (λ (x : Shown). x.bytes) (option_map shown_in o) → IfSome r (λ b. length b ≤ most_item_bytes)
short_in None h None e = tt
short_in None h (Some b) e = cc
short_in (Some x) h None e = cc
short_in (Some x) h (Some b) e =
    let same : b ≡ x.shown.bytes = cc in
    subst (λ (y : List ℕ). length y ≤ most_item_bytes) (sym same) (short_of x.shown.bytes h)

-- the string that is found has as many bytes as one may have
pub short_found : (es : List Entry) (name : List ℕ) (r : Option (List ℕ)) → list_all (λ (e : Entry). has_length e.shown.bytes) es ≡ true
    → r ≡ option_map (λ (x : Shown). x.bytes) (option_map shown_in (find (is_named name) es))
    → IfSome r (λ b. length b ≤ most_item_bytes)
short_found es name r all e =
    short_in (find (is_named name) es) (found_has (is_named name) (λ (x : Entry). has_length x.shown.bytes) es all) r e

pub shown_push : (es : List Entry) (shown : Shown) → map shown_in (es ++ (record { shown = shown }) ∷ []) ≡ map shown_in es ++ shown ∷ []
shown_push [] shown = refl
shown_push (e ∷ es) shown = ap (λ more. shown_in e ∷ more) (shown_push es shown)

pub if_some_of : {X Y : Type 0} (f : X → Y) (P : Y → Type 0) (o : Option X) → IfSome (option_map f o) P → IfSome o (λ x. P (f x))
if_some_of f P None h = tt
if_some_of f P (Some x) h = h
