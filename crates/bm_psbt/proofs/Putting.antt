-- Records that are put into a tree of keys stand in the order of their keys.
use Rattle.std.proofs.Common.{◌≡◌, ℕ, zero, suc, ◌+◌, ◌-◌, ◌<◌, ◌≤◌, List, [], ◌∷◌, length, map, Bool, true, false, not, cond, Option, Some, None, Result, Ok, Err, refl, sym, ap, subst, ◌∙◌, arith, Bor, eqb}
use Rattle.std.specs.Prelude.{◌||◌, if◌then◌else◌}
use Rattle.std.specs.BTreeMap.{insert_entry}
use Rattle.std.specs.Cmp.Lexicographic.{slice_cmp}
use Rattle.std.specs.declared.cmp.Ordering.{Ordering}
use Rattle.std.specs.declared.cmp.Ordering.TheVariants.{Less, Equal, Greater}
use Rattle.std.specs.Map.{lookup}
use Rattle.std.specs.Ordering.{nat_cmp, is_eq, is_lt}
use Rattle.std.specs.Str.{bytes_eq}
use Rattle.std.proofs.lemmas.Bool.{ne_eqb}
use Rattle.std.proofs.lemmas.Bool.Decides.{nat_tests}
use Rattle.std.proofs.lemmas.Cmp.{same_from_slice_cmp}
use Rattle.std.proofs.lemmas.Map.Text.{is_eq-slice_cmp}
use Rattle.spec_data.specs.Lists.{is_among}
use Rattle.spec_terms.specs.Precondition.{names_of}
use Rattle.spec_bitcoin.specs.Reading.{string_at}
use Rattle.spec_text.specs.Words.{◌>>=◌, given}
use Rattle.spec_tool.specs.Psbt.{Pairing, is_before, insert_signature}
use Rattle.spec_tool.specs.PsbtBytes.{taken}
use Rattle.theory_text.proofs.ListFacts.{or_left, or_right, or_no, or_yes, bytes_eq-back, bytes_ne-back}
use Rattle.bm_psbt.specs.declared.fault.PsbtError.{PsbtError}
use Rattle.bm_psbt.specs.declared.fault.PsbtError.TheVariants.{Memory, BadPsbt}
use Rattle.bm_psbt.specs.Gathered.{pairs, one_put, gathered}
use Rattle.bm_psbt.specs.Giving.{Fails}

-- ---- the order of keys

pub before_cmp : (xs ys : List ℕ) (o : Ordering) → o ≡ slice_cmp nat_cmp xs ys → is_lt o ≡ is_before xs ys
before_cmp = same_from_slice_cmp nat_cmp is_lt is_before refl (λ _ _. refl) (λ _ _. refl) (λ x y xs ys o h. grind (arith, nat_tests))

pub same_cmp : (xs ys : List ℕ) (o : Ordering) → o ≡ slice_cmp nat_cmp xs ys → is_eq o ≡ bytes_eq xs ys
same_cmp xs ys o h = ap is_eq h ∙ is_eq-slice_cmp xs ys

-- the order of borrowed keys
abbrev pub key_cmp : Bor (List ℕ) → Bor (List ℕ) → Ordering
key_cmp x y = slice_cmp nat_cmp x.now y.now

-- whether a borrowed key is this one
abbrev pub is_key : List ℕ → Bor (List ℕ) → Bool
is_key key k = is_eq (slice_cmp nat_cmp key k.now)

-- ---- one record more

pub put_in_order : (key value : Bor (List ℕ)) (es : List (Bor (List ℕ) × Bor (List ℕ))) → is_among key.now (names_of (pairs es)) ≡ false
    → pairs (insert_entry key_cmp es key value) ≡ insert_signature (key.now, value.now) (pairs es)
put_in_order key value [] new = refl
put_in_order key value (e ∷ es) new = by_order (key_cmp key e.0) refl (put_in_order key value es (or_right (bytes_eq e.0.now key.now) _ new))
  where
    by_order : (o : Ordering) → key_cmp key e.0 ≡ o → pairs (insert_entry key_cmp es key value) ≡ insert_signature (key.now, value.now) (pairs es)
        → pairs (insert_entry key_cmp (e ∷ es) key value) ≡ insert_signature (key.now, value.now) (pairs (e ∷ es))
    by_order Less is later = let t : is_before key.now e.0.now ≡ true = sym (before_cmp key.now e.0.now Less (sym is)) in rw (is, t) refl
    by_order Equal is later =
        let t : bytes_eq key.now e.0.now ≡ true = sym (same_cmp key.now e.0.now Equal (sym is)) in
        let f : bytes_eq key.now e.0.now ≡ false = bytes_ne-back e.0.now key.now (or_left _ _ new) in
        absurd cc
    by_order Greater is later =
        let t : is_before key.now e.0.now ≡ false = sym (before_cmp key.now e.0.now Greater (sym is)) in
        rw (is, t) (ap (λ (l : List Pairing). (e.0.now, e.1.now) ∷ l) later)

-- whether a key is there
pub there : (key : List ℕ) (es : List (Bor (List ℕ) × Bor (List ℕ))) (v : Bor (List ℕ)) → lookup (is_key key) es ≡ Some v
    → is_among key (names_of (pairs es)) ≡ true
there key [] v h = absurd cc
there key (e ∷ es) v h = by_key (is_key key (e.0)) (is_eq-slice_cmp key e.0.now) h (there key es v)
  where
    by_key : (t : Bool) → t ≡ bytes_eq key e.0.now → cond t (Some (e.1)) (lookup (is_key key) es) ≡ Some v
        → (lookup (is_key key) es ≡ Some v → is_among key (names_of (pairs es)) ≡ true)
        → (bytes_eq e.0.now key || is_among key (names_of (pairs es))) ≡ true
    by_key true e1 q later = or_yes _ _ (bytes_eq-back e.0.now key ∙ sym e1)
    by_key false e1 q later = let f : bytes_eq e.0.now key ≡ false = bytes_eq-back e.0.now key ∙ sym e1 in rw f (later q)

pub not_there : (key : List ℕ) (es : List (Bor (List ℕ) × Bor (List ℕ))) → lookup (is_key key) es ≡ None → is_among key (names_of (pairs es)) ≡ false
not_there key [] h = refl
not_there key (e ∷ es) h = by_key (is_key key (e.0)) (is_eq-slice_cmp key e.0.now) h (not_there key es)
  where
    by_key : (t : Bool) → t ≡ bytes_eq key e.0.now → cond t (Some (e.1)) (lookup (is_key key) es) ≡ None
        → (lookup (is_key key) es ≡ None → is_among key (names_of (pairs es)) ≡ false)
        → (bytes_eq e.0.now key || is_among key (names_of (pairs es))) ≡ false
    by_key true e1 q later = absurd cc
    by_key false e1 q later = or_no _ _ (bytes_eq-back e.0.now key ∙ sym e1) (later q)

pub put_new : (records next : List (Bor (List ℕ) × Bor (List ℕ))) (bytes after rest : List ℕ) (key value : Bor (List ℕ)) → string_at bytes
    ≡ Ok (key.now, after) → string_at after ≡ Ok (value.now, rest)
    → None ≡ lookup (is_key key.now) records → next ≡ insert_entry key_cmp records key value → one_put (pairs records) bytes ≡ Some (pairs next, rest)
unfolding one_put
put_new records next bytes after rest key value k v old is =
    let new = not_there key.now records (sym old) in
    rw (k, v, new, is) (ap (λ (l : List Pairing). Some (l, rest)) (sym (put_in_order key value records new)))

pub put_again : (records : List (Bor (List ℕ) × Bor (List ℕ))) (bytes after rest : List ℕ) (key value had : Bor (List ℕ)) → string_at bytes
    ≡ Ok (key.now, after) → string_at after ≡ Ok (value.now, rest)
    → Some had ≡ lookup (is_key key.now) records → one_put (pairs records) bytes ≡ None
unfolding one_put
put_again records bytes after rest key value had k v old = rw (k, v, there key.now records had (sym old)) refl

-- ---- all records

pub gather_more : (n i : ℕ) (records next : List Pairing) (bytes after rest : List ℕ) (b : ℕ) (total : Option (List Pairing × List ℕ))
    → i < n → bytes ≡ b ∷ rest → (b ≡ 0 → ⊥)
    → one_put records bytes ≡ Some (next, after) → gathered (n - i) records bytes ≡ total → gathered (n - (i + 1)) next after ≡ total
unfolding gathered
gather_more n i records next bytes after rest b total lt is some put so_far =
    let k : n - i ≡ suc (n - (i + 1)) = omega arith in
    let f : eqb b 0 ≡ false = ne_eqb b 0 some in
    let one : gathered (n - i) records bytes ≡ gathered (n - (i + 1)) next after = rw (k, is, f) (rw (← is) (rw put refl)) in
    sym one ∙ so_far

pub gather_none : (n i : ℕ) (records : List Pairing) (bytes : List ℕ) (total : Option (List Pairing × List ℕ)) → i < n → bytes ≡ []
    → gathered (n - i) records bytes ≡ total → total ≡ None
unfolding gathered
gather_none n i records bytes total lt none so_far =
    let k : n - i ≡ suc (n - (i + 1)) = omega arith in
    let one : gathered (n - i) records bytes ≡ None = rw (k, none) refl in
    sym so_far ∙ one

pub gather_end : (n i : ℕ) (records : List Pairing) (bytes rest : List ℕ) (b : ℕ) (total : Option (List Pairing × List ℕ)) → i < n → bytes ≡ b ∷ rest → b ≡ 0
    → gathered (n - i) records bytes ≡ total → total ≡ Some (records, rest)
unfolding gathered
gather_end n i records bytes rest b total lt is zero_is so_far =
    let k : n - i ≡ suc (n - (i + 1)) = omega arith in
    let one : gathered (n - i) records bytes ≡ Some (records, rest) = rw (k, is, zero_is) refl in
    sym so_far ∙ one

pub gather_stop : (e : PsbtError) (n i : ℕ) (records : List Pairing) (bytes rest : List ℕ) (b : ℕ) (total : Option (List Pairing × List ℕ))
    → i < n → bytes ≡ b ∷ rest → (b ≡ 0 → ⊥)
    → Fails e (one_put records bytes) → gathered (n - i) records bytes ≡ total → Fails e total
unfolding gathered
gather_stop Memory n i records bytes rest b total lt is some put so_far = tt
gather_stop BadPsbt n i records bytes rest b total lt is some put so_far =
    let k : n - i ≡ suc (n - (i + 1)) = omega arith in
    let f : eqb b 0 ≡ false = ne_eqb b 0 some in
    let one : gathered (n - i) records bytes ≡ None = rw (k, is, f) (rw (← is) (rw put refl)) in
    sym so_far ∙ one

pub gather_past : (n i : ℕ) (records : List Pairing) (bytes : List ℕ) (total : Option (List Pairing × List ℕ)) → n ≤ i
    → gathered (n - i) records bytes ≡ total → total ≡ None
unfolding gathered
gather_past n i records bytes total le so_far =
    let k : n - i ≡ 0 = omega arith in
    let one : gathered (n - i) records bytes ≡ None = rw k refl in
    sym so_far ∙ one
