-- Two partially signed transactions combined.
use Rattle.std.proofs.Common.{◌≡◌, ℕ, zero, suc, ◌+◌, List, [], ◌∷◌, length, Bool, true, false, eqb, Option, Some, None, Result, Ok, Err, refl, sym, ap, subst, ◌∙◌, arith}
use Rattle.std.specs.Prelude.{◌↔◌, ◌&&◌, if◌then◌else◌}
use Rattle.std.specs.List.{list_all, AllByRecursion}
use Rattle.std.proofs.lemmas.Bool.{eqb-true, eq-eqb}
use Rattle.spec_bitcoin.specs.declared.tx.Tx.{Tx}
use Rattle.spec_run.specs.Ledger.{same_bare}
use Rattle.spec_tool.specs.declared.psbt.PsbtInput.{PsbtInput}
use Rattle.spec_tool.specs.Psbt.{Psbt, is_unsigned, is_psbt}
use Rattle.spec_tool.specs.PsbtBytes.{Discord, other_tx, conflict, inputs_differ, first_conflict, inputs_joined, joined_unless, combined}
use Rattle.theory_text.proofs.ListFacts.{and_is, and_left, and_right}
use Rattle.theory_text.proofs.Options.{some_is, none_some}
use Rattle.theory_psbt.specs.Fitting.{IsKnown, IsFitting}
use Rattle.theory_psbt.specs.Joined.{FirstApart, NoneApart, AllHaveBoth, IsJoined}
use Rattle.theory_psbt.proofs.InputsApart.{differ_back, joined_back, differ_are_apart, calm_not_apart, has_both}
use Rattle.theory_psbt.proofs.Kept.{signs_ascend}
use Rattle.theory_psbt.proofs.SameTx.{tx_same, tx_own}
use Rattle.theory_psbt.proofs.Signatures.{joined_ascend}

-- ---- the parts of a partially signed transaction

pub record Sound (p : Psbt) : Type 0 where
  pub unsigned : is_unsigned p.tx ≡ true
  pub count : length p.inputs ≡ length p.tx.inputs
  pub ascend : list_all signs_ascend p.inputs ≡ true

pub sound : (p : Psbt) → is_psbt p ≡ true → Sound p
sound p h =
    let prefix = and_left (is_unsigned p.tx && eqb (length p.inputs) (length p.tx.inputs)) _ h in
    record {
      unsigned = and_left (is_unsigned p.tx) _ prefix;
      count = eqb-true _ _ (and_right (is_unsigned p.tx) _ prefix);
      ascend = and_right (is_unsigned p.tx && eqb (length p.inputs) (length p.tx.inputs)) _ h;
    }

pub is_sound : (p : Psbt) → Sound p → is_psbt p ≡ true
is_sound p s = and_is _ _ (and_is _ _ s.unsigned (eq-eqb _ _ s.count)) s.ascend

-- ---- what is answered

abbrev answer : Psbt → Result Psbt Discord
answer p = Ok p

abbrev refused : Discord → Result Psbt Discord
refused d = Err d

ok_is : (p q : Psbt) → answer p ≡ answer q → p ≡ q
ok_is p q e = cc

err_is : (d e : Discord) → refused d ≡ refused e → d ≡ e
err_is d e h = cc

ok_err : (p : Psbt) (d : Discord) → answer p ≡ refused d → ⊥
ok_err p d e = absurd cc

conflict_is : (j k : ℕ) → conflict j ≡ conflict k → j ≡ k
conflict_is j k e = cc

other_conflict : (k : ℕ) → other_tx ≡ conflict k → ⊥
other_conflict k e = absurd cc

-- how combining goes
pub data Goes (a b : Psbt) : Type 0 where
  other : (a.tx ≡ b.tx → ⊥) → combined a b ≡ Err other_tx → Goes a b
  stops : (k : ℕ) → a.tx ≡ b.tx → first_conflict 0 a.inputs b.inputs ≡ Some k → combined a b ≡ Err (conflict k) → Goes a b
  joins : a.tx ≡ b.tx → first_conflict 0 a.inputs b.inputs ≡ None → combined a b
      ≡ Ok (record { tx = a.tx; inputs = inputs_joined a.inputs b.inputs }) → Goes a b

pub goes : (a b : Psbt) → is_psbt a ≡ true → is_psbt b ≡ true → Goes a b
goes a b h k = by_tx (same_bare a.tx b.tx) refl
  where
    by_inputs : (o : Option ℕ) → first_conflict 0 a.inputs b.inputs ≡ o → a.tx ≡ b.tx → combined a b ≡ joined_unless o a b → Goes a b
    by_inputs (Some n) f same e = stops n same f e
    by_inputs None f same e = joins same f e

    by_tx : (t : Bool) → same_bare a.tx b.tx ≡ t → Goes a b
    by_tx true e = by_inputs (first_conflict 0 a.inputs b.inputs) refl (tx_same a.tx b.tx (sound a h).unsigned (sound b k).unsigned e) (rw e refl)
    by_tx false e =
        other (λ same. let own : same_bare a.tx b.tx ≡ true = subst (λ (x : Tx). same_bare a.tx x ≡ true) same (tx_own a.tx) in absurd cc) (rw e refl)

-- ---- both ways round

abbrev here_or : ℕ → List PsbtInput → List PsbtInput → Bool → Option ℕ
here_or k xs ys t = if t then Some k else first_conflict (k + 1) xs ys

conflict_back : (k : ℕ) (xs ys : List PsbtInput) → list_all signs_ascend xs ≡ true → list_all signs_ascend ys ≡ true
    → first_conflict k xs ys ≡ first_conflict k ys xs
conflict_back k [] [] h g = refl
conflict_back k [] (y ∷ ys) h g = refl
conflict_back k (x ∷ xs) [] h g = refl
conflict_back k (x ∷ xs) (y ∷ ys) h g =
    let here = differ_back x y (and_left _ _ h) (and_left _ _ g) in
    let later = conflict_back (k + 1) xs ys (and_right (signs_ascend x) _ h) (and_right (signs_ascend y) _ g) in
    ap (here_or k xs ys) here ∙ ap (λ (o : Option ℕ). if inputs_differ y x then Some k else o) later

no_conflict : (k : ℕ) (x y : PsbtInput) (xs ys : List PsbtInput) → first_conflict k (x ∷ xs) (y ∷ ys) ≡ None → (inputs_differ x y ≡ false)
    × (first_conflict (k + 1) xs ys ≡ None)
no_conflict k x y xs ys h = by_test (inputs_differ x y) refl h
  where
    by_test : (t : Bool) → inputs_differ x y ≡ t → here_or k xs ys t ≡ None → (inputs_differ x y ≡ false) × (first_conflict (k + 1) xs ys ≡ None)
    by_test true e q = absurd cc
    by_test false e q = (e, q)

inputs_back : (k : ℕ) (xs ys : List PsbtInput) → length xs ≡ length ys → list_all signs_ascend xs ≡ true → list_all signs_ascend ys ≡ true
    → first_conflict k xs ys ≡ None → inputs_joined xs ys ≡ inputs_joined ys xs
inputs_back k [] [] n h g e = refl
inputs_back k [] (y ∷ ys) n h g e = absurd (omega (arith, n))
inputs_back k (x ∷ xs) [] n h g e = absurd (omega (arith, n))
inputs_back k (x ∷ xs) (y ∷ ys) n h g e =
    let calm = no_conflict k x y xs ys e in
    let first = joined_back x y (and_left _ _ h) (and_left _ _ g) calm.0 in
    let others = inputs_back (k + 1) xs ys (omega (arith, n)) (and_right (signs_ascend x) _ h) (and_right (signs_ascend y) _ g) calm.1 in
    λ i. first i ∷ others i

pub combined_both_ways : (a b p : Psbt) → is_psbt a ≡ true → is_psbt b ≡ true → combined a b ≡ answer p → combined b a ≡ answer p
combined_both_ways a b p h k e = by_way (goes a b h k)
  where
    by_way : Goes a b → combined b a ≡ answer p
    by_way (other differ q) = absurd (ok_err p other_tx (sym e ∙ q))
    by_way (stops n same f q) = absurd (ok_err p (conflict n) (sym e ∙ q))
    by_way (joins same f q) =
        let sa = sound a h in
        let sb = sound b k in
        let tests : same_bare b.tx a.tx ≡ true = subst (λ (x : Tx). same_bare b.tx x ≡ true) (sym same) (tx_own b.tx) in
        let none : first_conflict 0 b.inputs a.inputs ≡ None = sym (conflict_back 0 a.inputs b.inputs sa.ascend sb.ascend) ∙ f in
        let count : length a.inputs ≡ length b.inputs = sa.count ∙ ap (λ (x : Tx). length x.inputs) same ∙ sym sb.count in
        let inputs = inputs_back 0 a.inputs b.inputs count sa.ascend sb.ascend f in
        let back : combined b a ≡ answer (record { tx = b.tx; inputs = inputs_joined b.inputs a.inputs }) = rw (tests, none) refl in
        let equal : answer (record { tx = b.tx; inputs = inputs_joined b.inputs a.inputs })
        ≡ answer (record { tx = a.tx; inputs = inputs_joined a.inputs b.inputs }) =
        λ i. answer (record { tx = sym same i; inputs = sym inputs i }) in
        back ∙ equal ∙ sym q ∙ e

-- ---- why two can't be combined

pub other_tx_exactly : (a b : Psbt) → is_psbt a ≡ true → is_psbt b ≡ true → ((combined a b ≡ refused other_tx) ↔ (a.tx ≡ b.tx → ⊥))
other_tx_exactly a b h k = (λ e. only (goes a b h k) e, λ differ. always (goes a b h k) differ)
  where
    only : Goes a b → combined a b ≡ refused other_tx → a.tx ≡ b.tx → ⊥
    only (other differ q) e = differ
    only (stops n same f q) e = absurd (other_conflict n (err_is other_tx (conflict n) (sym e ∙ q)))
    only (joins same f q) e = absurd (ok_err _ other_tx (sym q ∙ e))

    always : Goes a b → (a.tx ≡ b.tx → ⊥) → combined a b ≡ refused other_tx
    always (other differ q) d = q
    always (stops n same f q) d = absurd (d same)
    always (joins same f q) d = absurd (d same)

-- the first number is that of the first inputs that are apart
first_apart : (n k : ℕ) (xs ys : List PsbtInput) → AllByRecursion IsKnown xs → AllByRecursion IsKnown ys → list_all signs_ascend xs ≡ true
    → FirstApart k xs ys → first_conflict n xs ys ≡ Some (n + k)
first_apart n k [] ys h g asc f = absurd f
first_apart n k (x ∷ xs) [] h g asc f = absurd f
first_apart n zero (x ∷ xs) (y ∷ ys) h g asc f = by_test (inputs_differ x y) refl
  where
    by_test : (t : Bool) → inputs_differ x y ≡ t → here_or n xs ys t ≡ Some (n + 0)
    by_test true e = let z : n ≡ n + 0 = omega arith in ap (λ (m : ℕ). Some m) z
    by_test false e = absurd (calm_not_apart x y e f)
first_apart n (suc k) (x ∷ xs) (y ∷ ys) h g asc f =
    by_test (inputs_differ x y) refl (first_apart (n + 1) k xs ys h.1 g.1 (and_right (signs_ascend x) _ asc) f.1)
  where
    by_test : (t : Bool) → inputs_differ x y ≡ t → first_conflict (n + 1) xs ys ≡ Some ((n + 1) + k) → here_or n xs ys t ≡ Some (n + suc k)
    by_test true e later = absurd (f.0 (differ_are_apart x y h.0 g.0 (and_left _ _ asc) e))
    by_test false e later = let z : (n + 1) + k ≡ n + suc k = omega arith in later ∙ ap (λ (m : ℕ). Some m) z

-- where there is a first conflict
record Found (n m : ℕ) (xs ys : List PsbtInput) : Type 0 where
  place : ℕ
  is : m ≡ n + place
  apart : FirstApart place xs ys

conflict_apart : (n m : ℕ) (xs ys : List PsbtInput) → AllByRecursion IsKnown xs → AllByRecursion IsKnown ys → list_all signs_ascend xs
    ≡ true → first_conflict n xs ys ≡ Some m → Found n m xs ys
conflict_apart n m [] ys h g asc e = absurd cc
conflict_apart n m (x ∷ xs) [] h g asc e = absurd cc
conflict_apart n m (x ∷ xs) (y ∷ ys) h g asc e = by_test (inputs_differ x y) refl e (conflict_apart (n + 1) m xs ys h.1 g.1 (and_right (signs_ascend x) _ asc))
  where
    by_test : (t : Bool) → inputs_differ x y ≡ t → here_or n xs ys t ≡ Some m
        → (first_conflict (n + 1) xs ys ≡ Some m → Found (n + 1) m xs ys) → Found n m (x ∷ xs) (y ∷ ys)
    by_test true d q later =
        let here : n ≡ m = some_is n m q in
        record { place = zero; is = omega (arith, here); apart = differ_are_apart x y h.0 g.0 (and_left _ _ asc) d }
    by_test false d q later = let f = later q in record { place = suc f.place; is = omega (arith, f.is); apart = (calm_not_apart x y d, f.apart) }

pub conflict_exactly : (a b : Psbt) (k : ℕ) → IsFitting a → IsFitting b
    → ((combined a b ≡ refused (conflict k)) ↔ ((a.tx ≡ b.tx) × FirstApart k a.inputs b.inputs))
conflict_exactly a b k h g = (λ e. only (goes a b h.is g.is) e, λ w. always (goes a b h.is g.is) w)
  where
    only : Goes a b → combined a b ≡ refused (conflict k) → (a.tx ≡ b.tx) × FirstApart k a.inputs b.inputs
    only (other differ q) e = absurd (other_conflict k (err_is other_tx (conflict k) (sym q ∙ e)))
    only (stops n same f q) e =
        let number : n ≡ k = conflict_is n k (err_is (conflict n) (conflict k) (sym q ∙ e)) in
        let found = conflict_apart 0 n a.inputs b.inputs h.inputs g.inputs (sound a h.is).ascend f in
        let place : found.place ≡ k = omega (arith, found.is, number) in
        (same, subst (λ (j : ℕ). FirstApart j a.inputs b.inputs) place found.apart)
    only (joins same f q) e = absurd (ok_err _ (conflict k) (sym q ∙ e))

    always : Goes a b → (a.tx ≡ b.tx) × FirstApart k a.inputs b.inputs → combined a b ≡ refused (conflict k)
    always (other differ q) w = absurd (differ w.0)
    always (stops n same f q) w =
        let z : 0 + k ≡ k = omega arith in
        let number : n ≡ 0 + k = some_is n (0 + k) (sym f ∙ first_apart 0 k a.inputs b.inputs h.inputs g.inputs (sound a h.is).ascend w.1) in
        q ∙ ap (λ (j : ℕ). refused (conflict j)) (number ∙ z)
    always (joins same f q) w = absurd (none_some (0 + k) (sym f ∙ first_apart 0 k a.inputs b.inputs h.inputs g.inputs (sound a h.is).ascend w.1))

-- ---- both together

none_apart : (k : ℕ) (xs ys : List PsbtInput) → first_conflict k xs ys ≡ None → NoneApart xs ys
none_apart k [] ys e = tt
none_apart k (x ∷ xs) [] e = tt
none_apart k (x ∷ xs) (y ∷ ys) e = let c = no_conflict k x y xs ys e in (calm_not_apart x y c.0, none_apart (k + 1) xs ys c.1)

all_have_both : (xs ys : List PsbtInput) → length xs ≡ length ys → AllHaveBoth xs ys (inputs_joined xs ys)
all_have_both [] [] n = tt
all_have_both [] (y ∷ ys) n = absurd (omega (arith, n))
all_have_both (x ∷ xs) [] n = absurd (omega (arith, n))
all_have_both (x ∷ xs) (y ∷ ys) n = (has_both x y, all_have_both xs ys (omega (arith, n)))

joined_count : (xs ys : List PsbtInput) → length (inputs_joined xs ys) ≡ length xs
joined_count [] ys = refl
joined_count (x ∷ xs) [] = refl
joined_count (x ∷ xs) (y ∷ ys) = ap suc (joined_count xs ys)

all_ascend : (xs ys : List PsbtInput) → list_all signs_ascend xs ≡ true → list_all signs_ascend (inputs_joined xs ys) ≡ true
all_ascend [] ys h = refl
all_ascend (x ∷ xs) [] h = h
all_ascend (x ∷ xs) (y ∷ ys) h = and_is _ _ (joined_ascend x.partial y.partial (and_left _ _ h)) (all_ascend xs ys (and_right (signs_ascend x) _ h))

-- what is combined is a partially signed transaction
pub combined_is_psbt : (a b : Psbt) → is_psbt a ≡ true → is_psbt (record { tx = a.tx; inputs = inputs_joined a.inputs b.inputs }) ≡ true
combined_is_psbt a b h =
    let s = sound a h in
    is_sound (record { tx = a.tx; inputs = inputs_joined a.inputs b.inputs })
    (record { unsigned = s.unsigned; count = joined_count a.inputs b.inputs ∙ s.count; ascend = all_ascend a.inputs b.inputs s.ascend })

pub combined_is_joined : (a b p : Psbt) → IsFitting a → IsFitting b → combined a b ≡ answer p → IsJoined a b p
combined_is_joined a b p h g e = by_way (goes a b h.is g.is)
  where
    by_way : Goes a b → IsJoined a b p
    by_way (other differ q) = absurd (ok_err p other_tx (sym e ∙ q))
    by_way (stops n same f q) = absurd (ok_err p (conflict n) (sym e ∙ q))
    by_way (joins same f q) =
        let count : length a.inputs ≡ length b.inputs = (sound a h.is).count ∙ ap (λ (x : Tx). length x.inputs) same ∙ sym (sound b g.is).count in
        let made : IsJoined a b (record { tx = a.tx; inputs = inputs_joined a.inputs b.inputs }) = record {
          first = refl;
          second = same;
          calm = none_apart 0 a.inputs b.inputs f;
          inputs = all_have_both a.inputs b.inputs count;
          is = combined_is_psbt a b h.is;
        } in
        subst (IsJoined a b) (ok_is _ p (sym q ∙ e)) made
