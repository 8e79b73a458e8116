-- What is found by the input, the key and the transaction.
use Rattle.std.proofs.Common.{◌≡◌, ℕ, ◌<◌, ◌^◌, List, ◌++◌, length, map, Bool, true, false, Option, Some, None}
use Rattle.std.proofs.Common.{refl, sym, ap, ◌∙◌, arith}
use Rattle.std.specs.Prelude.{◌&&◌, ◌==◌, nat_lt, option_map, is_some}
use Rattle.std.specs.List.{find, list_all}
use Rattle.std.specs.Cmp.Lexicographic.{nat_list_eq_equiv}
use Rattle.std.specs.Str.{bytes_eq}
use Rattle.std.proofs.lemmas.Bool.{and_parts}
use Rattle.spec_deal.specs.declared.signed.Signed.{Signed}
use Rattle.spec_deal.specs.Transactions.{Required, is_at}
use Rattle.deal_index.proofs.Finding.{find_by, find_map, same_numbered, same_behind}
use Rattle.deal_signatures.specs.declared.given.Entry.{Entry}
use Rattle.deal_signatures.specs.declared.required.Place.{Place}
use Rattle.deal_signatures.specs.Keying.{place_key, is_place, signed_key, is_sized}
use Rattle.deal_signatures.specs.Seen.{signed_in, required_in}

-- ---- one place

below : (n : ℕ) → nat_lt n (2 ^ 32) ≡ true → n < 2 ^ 32
below n h = grind (arith, h)

long : (n : ℕ) → (n == 33) ≡ true → n ≡ 33
long n h = grind (arith, h)

turned : (a b c : Bool) → (a && (b && c)) ≡ (c && (a && b))
turned true true true = refl
turned true true false = refl
turned true false true = refl
turned true false false = refl
turned false b true = refl
turned false b false = refl

pub same_place_key : (tx other : List ℕ) (i j : ℕ) (key k : List ℕ) → is_place i key ≡ true → is_place j k ≡ true
    → bytes_eq (place_key tx i key) (place_key other j k) ≡ (bytes_eq tx other && ((i == j) && bytes_eq key k))
same_place_key tx other i j key k h g =
    let p = and_parts (nat_lt i (2 ^ 32)) (length key == 33) h in
    let q = and_parts (nat_lt j (2 ^ 32)) (length k == 33) g in
    let lengths : length key ≡ length k = long (length key) p.1 ∙ sym (long (length k) q.1) in
    same_numbered i j (key ++ tx) (k ++ other) (below i p.0) (below j q.0)
    ∙ ap (λ b. (i == j) && b) (same_behind key k tx other lengths)
    ∙ turned (i == j) (bytes_eq key k) (bytes_eq tx other)

-- ---- signatures

pub signature_found : (es : List Entry) (tx : List ℕ) (i : ℕ) (key : List ℕ) (found_by : List ℕ)
    → list_all (λ (e : Entry). is_sized e.signed) es ≡ true → is_place i key ≡ true → found_by ≡ place_key tx i key
    → option_map signed_in (find (λ (e : Entry). bytes_eq (signed_key e.signed) found_by) es)
    ≡ find (is_at (record { tx = tx; input = i; key = key })) (map signed_in es)
signature_found es tx i key found_by all sized here =
    ap (λ q. option_map signed_in (find (λ (e : Entry). bytes_eq (signed_key e.signed) q) es)) here
    ∙ ap (option_map signed_in)
    (find_by (λ (e : Entry). bytes_eq (signed_key e.signed) (place_key tx i key))
    (λ (e : Entry). is_at (record { tx = tx; input = i; key = key }) e.signed) (λ (e : Entry). is_sized e.signed)
    (λ e h. same_place_key e.signed.tx tx e.signed.input i e.signed.key key h sized) es all)
    ∙ sym (find_map signed_in (is_at (record { tx = tx; input = i; key = key })) es)

-- ---- where signatures are needed

pub some_mapped : {A B : Type 0} (f : A → B) (o : Option A) → is_some o ≡ is_some (option_map f o)
some_mapped f None = refl
some_mapped f (Some a) = refl

same_number : (i j : ℕ) → (i == j) ≡ (j == i)
same_number i j = by (i == j) refl (j == i) refl
  where
    by : (a : Bool) → (i == j) ≡ a → (b : Bool) → (j == i) ≡ b → a ≡ b
    by true e true f = refl
    by false e false f = refl
    by true e false f = absurd (grind (arith, e, f))
    by false e true f = absurd (grind (arith, e, f))

is_at_turned : (tx other : List ℕ) (i j : ℕ) (key k : List ℕ)
    → (bytes_eq tx other && ((i == j) && bytes_eq key k)) ≡ (bytes_eq other tx && ((j == i) && bytes_eq k key))
is_at_turned tx other i j key k =
    λ t. nat_list_eq_equiv.symm tx other t && (same_number i j t && nat_list_eq_equiv.symm key k t)

pub place_found : (ps : List Place) (g : Signed) (found_by : List ℕ)
    → list_all (λ (p : Place). is_place p.input p.key) ps ≡ true → is_place g.input g.key ≡ true
    → found_by ≡ place_key g.tx g.input g.key
    → option_map required_in (find (λ (p : Place). bytes_eq (place_key p.tx p.input p.key) found_by) ps)
    ≡ find (λ (w : Required). is_at w.spot g) (map required_in ps)
place_found ps g found_by all sized here =
    ap (λ q. option_map required_in (find (λ (p : Place). bytes_eq (place_key p.tx p.input p.key) q) ps)) here
    ∙ ap (option_map required_in)
    (find_by (λ (p : Place). bytes_eq (place_key p.tx p.input p.key) (place_key g.tx g.input g.key))
    (λ (p : Place). is_at (required_in p).spot g) (λ (p : Place). is_place p.input p.key)
    (λ p h. same_place_key p.tx g.tx p.input g.input p.key g.key h sized ∙ is_at_turned p.tx g.tx p.input g.input p.key g.key) ps all)
    ∙ sym (find_map required_in (λ (w : Required). is_at w.spot g) ps)
