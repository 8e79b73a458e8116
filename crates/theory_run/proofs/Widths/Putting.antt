-- The transactions of compiled contracts have numbers within their widths: what they put is bound, and isn't much.
use Rattle.std.proofs.Common.{◌≡◌, ℕ, suc, ◌≤◌, List, [], ◌∷◌, length, Bool, true, false, not, Some, refl, sym, ap, subst, arith, inl, inr}
use Rattle.std.specs.Prelude.{◌&&◌, ◌||◌, ◌⊎◌, nat_le, slice_get, if◌then◌else◌}
use Rattle.std.specs.List.{list_all}
use Rattle.std.specs.Str.{bytes_eq}
use Rattle.std.proofs.lemmas.Bool.{and_parts, and_from, or_left, or_right, or_parts, or_cases, both_ways, not-true}
use Rattle.std.proofs.lemmas.Bool.Decides.{nat_tests}
use Rattle.spec_data.specs.Lists.{is_among, are_different, look_up}
use Rattle.spec_terms.specs.Advert.{Advert}
use Rattle.spec_terms.specs.Core.{core, puts_of, reveals_of}
use Rattle.spec_terms.specs.Precondition.{volatile, deposits, secrets, names_of}
use Rattle.spec_data.specs.Ranges.{max_money}
use Rattle.spec_terms.specs.Readable.{most_deposits, most_secrets, is_readable_pre, is_readable_contract, is_some_list, is_readable_entry}
use Rattle.spec_terms.specs.Faults.{IsWellFormed}
use Rattle.spec_terms.specs.declared.pre.Pre.{Pre}
use Rattle.spec_terms.specs.declared.pre.Pre.TheVariants.{Persistent, Volatile, Secret}
use Rattle.spec_bitcoin.specs.Spelling.{IsPlace}
use Rattle.spec_calculus.specs.Configuration.{Configuration}
use Rattle.spec_compiler.specs.Instance.{Instance}
use Rattle.spec_compiler.specs.declared.unsigned.Spent.{Spent}
use Rattle.spec_compiler.specs.Transactions.{deposit, holding_or_none, put_deposits, tx_of, branch_unsigned}
use Rattle.spec_run.specs.Setup.{Setup}
use Rattle.spec_run.specs.World.{Output, World, is_advertised}
use Rattle.spec_run.specs.Compiled.{compiled_instance}
use Rattle.spec_run.specs.Conditions.{IsSetup}
use Rattle.theory_script.proofs.Checked.{core_fact, puts_known}
use Rattle.theory_world.proofs.Ledger.Preimages.{numbered}
use Rattle.theory_world.proofs.Tests.{length_map}
use Rattle.theory_world.proofs.Contracts.Standing.{term_choice}
use Rattle.theory_calculus.proofs.Faultless.{no_fault}
use Rattle.theory_calculus.proofs.Names.{bytes-true, volatile_named}
use Rattle.theory_calculus.specs.Members.{Is_in}
use Rattle.theory_run.specs.KeptBook.{KeptBook, AdvertFine}
use Rattle.theory_run.proofs.Accepted.Spending.{TransactionsFit}
use Rattle.theory_world.proofs.Contracts.Checking.{compiled_checked}
use Rattle.theory_run.proofs.Widths.Fitting.{bound_place, initial_numbered}
use Rattle.theory_run.proofs.Widths.BranchWidths.{branch_fits, branch_size}
use Rattle.theory_run.proofs.Facts.Readings.{branch_is_readable}

-- ---- different names are no more than those they are among

abbrev without : List ℕ → List (List ℕ) → List (List ℕ)
without x [] = []
without x (y ∷ ys) = if bytes_eq y x then ys else y ∷ without x ys

length_without : (x : List ℕ) (ys : List (List ℕ)) → is_among x ys ≡ true → length ys ≡ suc (length (without x ys))
length_without x [] h = cc
length_without x (y ∷ ys) h = by_test (bytes_eq y x) h (length_without x ys)
  where
    by_test : (b : Bool) → (b || is_among x ys) ≡ true → (is_among x ys ≡ true → length ys ≡ suc (length (without x ys))) → suc (length ys)
        ≡ suc (length (if b then ys else y ∷ without x ys))
    by_test true e ih = refl
    by_test false e ih = ap suc (ih e)

among_without : (x z : List ℕ) (ys : List (List ℕ)) → bytes_eq z x ≡ false → is_among z ys ≡ true → is_among z (without x ys) ≡ true
among_without x z [] h k = cc
among_without x z (y ∷ ys) h k = by_test (bytes_eq y x) refl (or_cases (bytes_eq y z) (is_among z ys) k) (among_without x z ys h)
  where
    by_test : (b : Bool) → bytes_eq y x ≡ b → (bytes_eq y z ≡ true) ⊎ (is_among z ys ≡ true)
        → (is_among z ys ≡ true → is_among z (without x ys) ≡ true) → is_among z (if b then ys else y ∷ without x ys) ≡ true
    by_test true e (inl q) ih = absurd (both_ways _ h (subst (λ t. bytes_eq t x ≡ true) (bytes-true y z q) e))
    by_test true e (inr q) ih = q
    by_test false e (inl q) ih = or_left _ _ q
    by_test false e (inr q) ih = or_right (bytes_eq y z) _ (ih q)

all_without : (x : List ℕ) (xs ys : List (List ℕ)) → is_among x xs ≡ false → list_all (λ z. is_among z ys) xs ≡ true
    → list_all (λ z. is_among z (without x ys)) xs ≡ true
all_without x [] ys h k = refl
all_without x (z ∷ xs) ys h k =
    let a = or_parts (bytes_eq z x) (is_among x xs) h in
    let b = and_parts (is_among z ys) (list_all (λ t. is_among t ys) xs) k in
    and_from _ _ (among_without x z ys a.0 b.0) (all_without x xs ys a.1 b.1)

pub no_more : (xs ys : List (List ℕ)) → are_different xs ≡ true → list_all (λ z. is_among z ys) xs ≡ true → length xs ≤ length ys
no_more [] ys h k = omega arith
no_more (x ∷ xs) ys h k =
    let a = and_parts (not (is_among x xs)) (are_different xs) h in
    let b = and_parts (is_among x ys) (list_all (λ z. is_among z ys) xs) k in
    let r = no_more xs (without x ys) a.1 (all_without x xs ys (not-true _ a.0) b.1) in
    let l = length_without x ys b.0 in
    omega (arith, r, l)

-- ---- puts

few_volatile : (pre : List Pre) → length (names_of (volatile pre)) ≤ length (deposits pre)
few_volatile [] = omega arith
few_volatile (Persistent party value name ∷ pre) = let r = few_volatile pre in omega (arith, r)
few_volatile (Volatile party value name ∷ pre) = let r = few_volatile pre in omega (arith, r)
few_volatile (Secret party name ∷ pre) = few_volatile pre

few_names : (a : Advert) → IsWellFormed a → length (names_of (volatile a.pre)) ≤ 32
few_names a h =
    let r = (and_parts (is_readable_pre a.pre) (nat_le a.fee max_money && is_readable_contract a.root) h.readable).0 in
    let p = (and_parts (is_some_list a.pre && list_all is_readable_entry a.pre)
    (nat_le (length (deposits a.pre)) most_deposits && nat_le (length (secrets a.pre)) most_secrets) r).1 in
    let q = (and_parts (nat_le (length (deposits a.pre)) most_deposits) (nat_le (length (secrets a.pre)) most_secrets) p).0 in
    let l = few_volatile a.pre in
    grind (arith, nat_tests, q, l)

module _ (s : Setup) (is : IsSetup s) (w : World) (adverts : (k : ℕ) → is_advertised w k ≡ true → AdvertFine s w k)
    (placed : (n : ℕ) (o : Output) → slice_get w.outputs n ≡ Some o → IsPlace o.outpoint) where
  put_places : (k : ℕ) (st : Instance) (c : compiled_instance s w k ≡ Some st) (puts : List (List ℕ))
      → list_all (λ n. is_among n (names_of (volatile st.advert.pre))) puts ≡ true → (x : Spent) → Is_in x (put_deposits s.hash st puts) → IsPlace x.outpoint
  put_places k st c [] h x i = absurd i
  put_places k st c (n ∷ puts) h x (inl e) =
      let r = volatile_named st.advert.pre n
      (and_parts (is_among n (names_of (volatile st.advert.pre))) (list_all (λ m. is_among m (names_of (volatile st.advert.pre))) puts) h).0 in
      let p = bound_place s is w adverts placed k st c (n, r.0) r.2 in
      subst (λ (y : Spent). IsPlace y.outpoint) (sym e) p
  put_places k st c (n ∷ puts) h x (inr i) =
      put_places k st c puts (and_parts (is_among n (names_of (volatile st.advert.pre)))
      (list_all (λ m. is_among m (names_of (volatile st.advert.pre))) puts) h).1 x i

  -- every compiled transaction has numbers within their widths
  pub all_fit : TransactionsFit s w
  all_fit = record {
    initial = λ k st c. initial_numbered s is w adverts placed k st c;
    branch = λ k st q here choice i b c stand there.
        let well = compiled_checked s is w k st c in
        let ch = term_choice s.hash st q here choice stand in
        let f = no_fault st.advert well in
        let known = puts_known st.advert well q choice ch i b there in
        let once = (and_parts (are_different (puts_of (core b))) (are_different (reveals_of (core b)))
        (core_fact (λ y. are_different (puts_of y) && are_different (reveals_of y)) st.advert q choice i b f.1.1.1.0 ch there)).0 in
        let n = no_more (puts_of (core b)) (names_of (volatile st.advert.pre)) once known in
        let l = few_names st.advert well in
        let m = length_map (λ name. deposit s.hash st name (holding_or_none (look_up name (volatile st.advert.pre)))) (puts_of (core b)) in
        let readable = branch_is_readable s.hash st well q here choice i b stand there in
        numbered (tx_of (branch_unsigned s.hash st here i b))
        (branch_fits s.hash is.hash st well q here choice i b stand there readable (put_places k st c (puts_of (core b)) known)
        (omega (arith, n, l, m))) (branch_size s.hash is.hash st here i b readable);
  }

pub transactions_fit : (s : Setup) → IsSetup s → (g : Configuration) (w : World) → KeptBook s g w → TransactionsFit s w
transactions_fit s is g w kept = all_fit s is w kept.adverts kept.placed_fine
