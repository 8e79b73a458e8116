-- What the two parts of an index have at any fingerprint and any string, after a change at one.
use Rattle.std.proofs.Common.{◌≡◌, ℕ, List, Bool, true, false, cond, Option}
use Rattle.std.proofs.Common.{refl, subst, arith}
use Rattle.std.specs.Prelude.{◌==◌, nat_lt}
use Rattle.std.specs.declared.cmp.Ordering.TheVariants.{Less, Equal, Greater}
use Rattle.std.specs.Ordering.{nat_cmp, is_eq}
use Rattle.std.specs.Cmp.{eq_by_cmp_equiv}
use Rattle.std.specs.Cmp.Lexicographic.{slice_cmp, nat_list_cmp_total}
use Rattle.std.specs.Str.{bytes_eq}
use Rattle.std.specs.BTreeMap as tree
use Rattle.std.specs.BTreeMap.{BTreeMap}
use Rattle.std.specs.Global.{Vec}
use Rattle.std.proofs.lemmas.Slice.Eq.{bytes_eq-Decides}
use Rattle.spec_data.proofs.MapLemmas.{other_entries, apart_in_order}
use Rattle.bm_hash_strings.specs.Placed.{place_by_fingerprint, found_at}

-- ---- fingerprints

order_equal : (less same : Bool) → is_eq (cond less Less (cond same Equal Greater)) ≡ true → same ≡ true
order_equal true same h = cc
order_equal false true h = refl
order_equal false false h = cc

same_fingerprint : (m q : ℕ) → is_eq (nat_cmp m q) ≡ true → m ≡ q
same_fingerprint m q h = let same : m == q ≡ true = order_equal (nat_lt m q) (m == q) h in grind arith

pub fingerprint_there : (m : ℕ) (index after : BTreeMap ℕ ℕ) (w : Option ℕ)
    → tree.UpdatesBy nat_cmp (λ k. nat_cmp m k) index after w → (q : ℕ) → m ≡ q → place_by_fingerprint after q ≡ w
fingerprint_there m index after w updates q same = subst (λ k. place_by_fingerprint after k ≡ w) same updates.1

pub fingerprint_elsewhere : (m : ℕ) (index after : BTreeMap ℕ ℕ) (w : Option ℕ)
    → tree.UpdatesBy nat_cmp (λ k. nat_cmp m k) index after w → (q : ℕ) → m == q ≡ false → place_by_fingerprint after q ≡ place_by_fingerprint index q
fingerprint_elsewhere m index after w updates q apart = by (is_eq (nat_cmp m q)) refl
  where
    by : (b : Bool) → is_eq (nat_cmp m q) ≡ b → place_by_fingerprint after q ≡ place_by_fingerprint index q
    by false h = updates.2 q h
    by true h = let same = same_fingerprint m q h in absurd (grind arith)

-- ---- strings

pub found_there : (bs : List ℕ) (index after : BTreeMap (Vec ℕ) ℕ) (w : Option ℕ)
    → tree.UpdatesBy (λ x y. slice_cmp nat_cmp x.items y.items) (λ k. slice_cmp nat_cmp bs k.items) index after w → (q : List ℕ)
    → bytes_eq bs q ≡ true → found_at after q ≡ w
found_there bs index after w updates q same = subst (λ l. found_at after l ≡ w) ((bytes_eq-Decides bs q).0 same) updates.1

pub found_elsewhere : (bs : List ℕ) (index after : BTreeMap (Vec ℕ) ℕ) (w : Option ℕ)
    → tree.UpdatesBy (λ x y. slice_cmp nat_cmp x.items y.items) (λ k. slice_cmp nat_cmp bs k.items) index after w → (q : List ℕ)
    → bytes_eq bs q ≡ false → found_at after q ≡ found_at index q
found_elsewhere bs index after w updates q apart =
    other_entries _ _ _ _ updates.3 _ (λ x y. (eq_by_cmp_equiv nat_list_cmp_total).congr q x.items y.items)
    (λ k. apart_in_order bs q k.items apart)
