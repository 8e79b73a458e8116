-- Two lists of signatures in ascending order of their keys are compared and joined side by side.
use Rattle.std.proofs.Common.{◌≡◌, ℕ, List, [], ◌∷◌, ◌++◌, Bool, true, false, not, Option, Some, None, ◌+◌, drop, append_assoc, suc, ◌<◌, length, get_or, arith, refl, sym, ap, subst, ◌∙◌}
use Rattle.std.specs.Prelude.{◌||◌, if◌then◌else◌}
use Rattle.std.specs.Option.{option_or}
use Rattle.std.specs.Str.{bytes_eq}
use Rattle.std.proofs.Math.Seq.{drop-cons}
use Rattle.spec_data.specs.Lists.{look_up}
use Rattle.spec_terms.specs.Precondition.{names_of}
use Rattle.spec_tool.specs.Psbt.{Pairing, is_before, are_ascending}
use Rattle.spec_tool.specs.PsbtBytes.{are_at_odds, signatures_differ, signatures_joined}
use Rattle.theory_text.proofs.ListFacts.{bytes_ne-back}
use Rattle.theory_psbt.proofs.Order.{Before, same_bytes, bytes_same, before_both, before_after, apart_before, apart_after, all_before, first_before, others_ascend, ascend_with}
use Rattle.theory_psbt.proofs.Signatures.{look_first, look_other, before_none, found_after, same_signatures, joined_ascend, joined_found}
use Rattle.bm_psbt.specs.Merged.{not_before, without_first, before_key, at_first}

-- ---- those that come before a key

pub ascend_not_before : (key : List ℕ) (qs : List Pairing) → are_ascending (names_of qs) ≡ true → are_ascending (names_of (not_before key qs)) ≡ true
ascend_not_before key [] h = refl
ascend_not_before key (q ∷ qs) h = by_test (is_before (q.0) key) (ascend_not_before key qs (others_ascend (q.0) (names_of qs) h))
  where
    by_test : (t : Bool) → are_ascending (names_of (not_before key qs)) ≡ true → are_ascending (names_of (if t then not_before key qs else q ∷ qs)) ≡ true
    by_test true later = later
    by_test false later = h

pub ascend_without : (key : List ℕ) (qs : List Pairing) → are_ascending (names_of qs) ≡ true → are_ascending (names_of (without_first key qs)) ≡ true
ascend_without key [] h = refl
ascend_without key (q ∷ qs) h = by_test (bytes_eq (q.0) key)
  where
    by_test : (t : Bool) → are_ascending (names_of (if t then qs else q ∷ qs)) ≡ true
    by_test true = others_ascend (q.0) (names_of qs) h
    by_test false = h

-- what stands at a key that doesn't come before it stands there still
look_not_before : (key k : List ℕ) (qs : List Pairing) → ((x : List ℕ) → is_before x key ≡ true → bytes_eq x k ≡ false)
    → look_up k (not_before key qs) ≡ look_up k qs
look_not_before key k [] h = refl
look_not_before key k (q ∷ qs) h = by_test (is_before (q.0) key) refl (look_not_before key k qs h)
  where
    by_test : (t : Bool) → is_before (q.0) key ≡ t → look_up k (not_before key qs) ≡ look_up k qs
        → look_up k (if t then not_before key qs else q ∷ qs) ≡ look_up k (q ∷ qs)
    by_test true e later = later ∙ sym (look_other k q qs (h (q.0) e))
    by_test false e later = refl

look_without : (key k : List ℕ) (qs : List Pairing) → is_before key k ≡ true → look_up k (without_first key qs) ≡ look_up k qs
look_without key k [] h = refl
look_without key k (q ∷ qs) h = by_test (bytes_eq (q.0) key) refl
  where
    by_test : (t : Bool) → bytes_eq (q.0) key ≡ t → look_up k (if t then qs else q ∷ qs) ≡ look_up k (q ∷ qs)
    by_test true e = sym (look_other k q qs (subst (λ (x : List ℕ). bytes_eq x k ≡ false) (sym (same_bytes (q.0) key e)) (apart_before key k h)))
    by_test false e = refl

-- the first from the key on is the one at the key
at_first_found : (key : List ℕ) (qs : List Pairing) → are_ascending (names_of qs) ≡ true → at_first key (not_before key qs) ≡ look_up key qs
at_first_found key [] h = refl
at_first_found key (q ∷ qs) h = by_test (is_before (q.0) key) refl (at_first_found key qs (others_ascend (q.0) (names_of qs) h))
  where
    by_key : (t : Bool) → bytes_eq (q.0) key ≡ t → is_before (q.0) key ≡ false → (if t then Some (q.1) else None) ≡ (if t then Some (q.1) else look_up key qs)
    by_key true e f = refl
    by_key false e f =
        let after : is_before key (q.0) ≡ true = by_order (is_before key (q.0)) refl in
        sym (before_none key qs (all_before key (q.0) (names_of qs) after (first_before (q.0) (names_of qs) h)))
      where
        by_order : (u : Bool) → is_before key (q.0) ≡ u → u ≡ true
        by_order true g = refl
        by_order false g =
            let level : bytes_eq (q.0) key ≡ true =
            subst (λ (x : List ℕ). bytes_eq (q.0) x ≡ true) (before_both (q.0) key f g) (bytes_same (q.0)) in
            absurd cc

    by_test : (t : Bool) → is_before (q.0) key ≡ t → at_first key (not_before key qs) ≡ look_up key qs
        → at_first key (if t then not_before key qs else q ∷ qs) ≡ look_up key (q ∷ qs)
    by_test true e later = later ∙ sym (look_other key q qs (apart_before (q.0) key e))
    by_test false e later = by_key (bytes_eq (q.0) key) refl e

-- ---- whether signatures differ

-- what counts of the second list is what stands at the keys of the first
differ_by_found : (ps qs rs : List Pairing) (first : List ℕ) → Before first (names_of ps)
    → ((k : List ℕ) → is_before first k ≡ true → look_up k qs ≡ look_up k rs) → signatures_differ ps qs ≡ signatures_differ ps rs
differ_by_found [] qs rs first h same = refl
differ_by_found (p ∷ ps) qs rs first h same =
    ap (λ (o : Option (List ℕ)). are_at_odds bytes_eq (Some (p.1)) o || signatures_differ ps qs) (same (p.0) h.0)
    ∙ ap (λ (b : Bool). are_at_odds bytes_eq (Some (p.1)) (look_up (p.0) rs) || b) (differ_by_found ps qs rs first h.1 same)

not_before_back : (key k x : List ℕ) → is_before key k ≡ true → is_before x key ≡ true → bytes_eq x k ≡ false
not_before_back key k x h e = apart_before x k (before_after x key k e h)

-- one signature is compared
pub differ_step : (p : Pairing) (ps qs : List Pairing) → are_ascending (names_of (p ∷ ps)) ≡ true → are_ascending (names_of qs) ≡ true
    → signatures_differ (p ∷ ps) qs ≡ (are_at_odds bytes_eq (Some (p.1)) (at_first (p.0) (not_before (p.0) qs)) || signatures_differ ps (not_before (p.0) qs))
differ_step p ps qs h k =
    ap (λ (o : Option (List ℕ)). are_at_odds bytes_eq (Some (p.1)) o || signatures_differ ps qs) (sym (at_first_found (p.0) qs k))
    ∙ ap (λ (b : Bool). are_at_odds bytes_eq (Some (p.1)) (at_first (p.0) (not_before (p.0) qs)) || b)
    (differ_by_found ps qs (not_before (p.0) qs) (p.0) (first_before (p.0) (names_of ps) h)
    (λ x e. sym (look_not_before (p.0) x qs (λ y f. not_before_back (p.0) x y e f))))

-- ---- joined

before_joined : (key : List ℕ) (ps qs : List Pairing) → Before key (names_of ps) → Before key (names_of qs) → are_ascending (names_of ps)
    ≡ true → are_ascending (names_of qs) ≡ true
    → (js : List Pairing) → ((k : List ℕ) → look_up k js ≡ option_or (look_up k ps) (look_up k qs)) → are_ascending (names_of js) ≡ true
    → Before key (names_of js)
before_joined key ps qs h k a b [] e asc = tt
before_joined key ps qs h k a b (j ∷ js) e asc = first_of (look_up (j.0) ps) refl (look_up (j.0) qs) refl
  where
    all : is_before key (j.0) ≡ true → Before key (names_of (j ∷ js))
    all t = (t, all_before key (j.0) (names_of js) t (first_before (j.0) (names_of js) asc))

    first_of : (o : Option (List ℕ)) → look_up (j.0) ps ≡ o → (q : Option (List ℕ)) → look_up (j.0) qs ≡ q → Before key (names_of (j ∷ js))
    first_of (Some v) f q g = all (found_after key (j.0) ps v h f)
    first_of None f (Some w) g = all (found_after key (j.0) qs w k g)
    first_of None f None g = let gone : Some (j.1) ≡ None = sym (look_first j js) ∙ e (j.0) ∙ rw (f, g) refl in absurd cc

abbrev asc : List Pairing → Type 0
asc ps = are_ascending (names_of ps) ≡ true

-- joining gives the list that ascends and finds what both find
joined_is : (ps qs js : List Pairing) → asc ps → asc js → ((k : List ℕ) → look_up k js ≡ option_or (look_up k ps) (look_up k qs)) → signatures_joined ps qs ≡ js
joined_is ps qs js a b e = same_signatures (signatures_joined ps qs) js (joined_ascend ps qs a) b (λ k. joined_found k ps qs ∙ sym (e k))

-- nothing and all of the second
pub joined_none : (qs : List Pairing) → asc qs → signatures_joined [] qs ≡ qs
joined_none qs h = joined_is [] qs qs refl h (λ k. refl)

-- a signature of the second that comes before all of the first
joined_second : (q p : Pairing) (ps qs : List Pairing) → is_before (q.0) (p.0) ≡ true → asc (p ∷ ps) → asc (q ∷ qs)
    → signatures_joined (p ∷ ps) (q ∷ qs) ≡ q ∷ signatures_joined (p ∷ ps) qs
joined_second q p ps qs h a b =
    let before_ps : Before (q.0) (names_of (p ∷ ps)) = (h, all_before (q.0) (p.0) (names_of ps) h (first_before (p.0) (names_of ps) a)) in
    let tail = others_ascend (q.0) (names_of qs) b in
    let before = before_joined (q.0) (p ∷ ps) qs before_ps (first_before (q.0) (names_of qs) b) a tail
    (signatures_joined (p ∷ ps) qs) (λ k. joined_found k (p ∷ ps) qs) (joined_ascend (p ∷ ps) qs a) in
    joined_is (p ∷ ps) (q ∷ qs) (q ∷ signatures_joined (p ∷ ps) qs) a
    (ascend_with (q.0) (names_of (signatures_joined (p ∷ ps) qs)) before (joined_ascend (p ∷ ps) qs a))
    (λ k. by_key before_ps k (bytes_eq (q.0) k) refl)
  where
    by_key : Before (q.0) (names_of (p ∷ ps)) → (k : List ℕ) (t : Bool) → bytes_eq (q.0) k ≡ t
        → (if t then Some (q.1) else look_up k (signatures_joined (p ∷ ps) qs)) ≡ option_or (look_up k (p ∷ ps)) (if t then Some (q.1) else look_up k qs)
    by_key before k true e =
        let none : look_up k (p ∷ ps) ≡ None = subst (λ (x : List ℕ). look_up x (p ∷ ps) ≡ None) (same_bytes (q.0) k e) (before_none (q.0) (p ∷ ps) before) in
        ap (λ (o : Option (List ℕ)). option_or o (Some (q.1))) (sym none)
    by_key before k false e = joined_found k (p ∷ ps) qs

-- a signature of the first that comes before all of the second, but for one at its key
joined_first : (p : Pairing) (ps qs rs : List Pairing) → asc (p ∷ ps) → asc rs → Before (p.0) (names_of rs)
    → ((k : List ℕ) → is_before (p.0) k ≡ true → look_up k rs ≡ look_up k qs)
    → ((k : List ℕ) → bytes_eq (p.0) k ≡ false → look_up k rs ≡ look_up k qs) → signatures_joined (p ∷ ps) qs ≡ p ∷ signatures_joined ps rs
joined_first p ps qs rs a b h after same =
    let tail = others_ascend (p.0) (names_of ps) a in
    let before = before_joined (p.0) ps rs (first_before (p.0) (names_of ps) a) h tail b
    (signatures_joined ps rs) (λ k. joined_found k ps rs) (joined_ascend ps rs tail) in
    joined_is (p ∷ ps) qs (p ∷ signatures_joined ps rs) a (ascend_with (p.0) (names_of (signatures_joined ps rs)) before (joined_ascend ps rs tail))
    (λ k. by_key k (bytes_eq (p.0) k) refl)
  where
    by_key : (k : List ℕ) (t : Bool) → bytes_eq (p.0) k ≡ t → (if t then Some (p.1) else look_up k (signatures_joined ps rs))
        ≡ option_or (if t then Some (p.1) else look_up k ps) (look_up k qs)
    by_key k true e = refl
    by_key k false e = joined_found k ps rs ∙ ap (λ (o : Option (List ℕ)). option_or (look_up k ps) o) (same k e)

-- those of the second that come before the first's first
joined_before : (p : Pairing) (ps qs : List Pairing) → asc (p ∷ ps) → asc qs → signatures_joined (p ∷ ps) qs ≡ before_key (p.0) qs
    ++ signatures_joined (p ∷ ps) (not_before (p.0) qs)
joined_before p ps [] a b = refl
joined_before p ps (q ∷ qs) a b = by_test (is_before (q.0) (p.0)) refl (joined_before p ps qs a (others_ascend (q.0) (names_of qs) b))
  where
    by_test : (t : Bool) → is_before (q.0) (p.0) ≡ t → signatures_joined (p ∷ ps) qs ≡ before_key (p.0) qs ++ signatures_joined (p ∷ ps) (not_before (p.0) qs)
        → signatures_joined (p ∷ ps) (q ∷ qs) ≡ (if t then q ∷ before_key (p.0) qs else [])
        ++ signatures_joined (p ∷ ps) (if t then not_before (p.0) qs else q ∷ qs)
    by_test true e later = joined_second q p ps qs e a b ∙ ap (λ (l : List Pairing). q ∷ l) later
    by_test false e later = refl

-- from a key on, without one at the key, all come after it
after_key : (key : List ℕ) (qs : List Pairing) → asc qs → Before key (names_of (without_first key (not_before key qs)))
after_key key [] h = tt
after_key key (q ∷ qs) h = by_test (is_before (q.0) key) refl (after_key key qs (others_ascend (q.0) (names_of qs) h))
  where
    by_order : (u : Bool) → is_before key (q.0) ≡ u → is_before (q.0) key ≡ false → bytes_eq (q.0) key ≡ false → u ≡ true
    by_order true g f e = refl
    by_order false g f e =
        let level : bytes_eq (q.0) key ≡ true = subst (λ (x : List ℕ). bytes_eq (q.0) x ≡ true) (before_both (q.0) key f g) (bytes_same (q.0)) in
        absurd cc

    by_key : (t : Bool) → bytes_eq (q.0) key ≡ t → is_before (q.0) key ≡ false → Before key (names_of (if t then qs else q ∷ qs))
    by_key true e f = subst (λ (x : List ℕ). Before x (names_of qs)) (same_bytes (q.0) key e) (first_before (q.0) (names_of qs) h)
    by_key false e f = let t = by_order (is_before key (q.0)) refl f e in (t, all_before key (q.0) (names_of qs) t (first_before (q.0) (names_of qs) h))

    by_test : (t : Bool) → is_before (q.0) key ≡ t → Before key (names_of (without_first key (not_before key qs)))
        → Before key (names_of (without_first key (if t then not_before key qs else q ∷ qs)))
    by_test true e later = later
    by_test false e later = by_key (bytes_eq (q.0) key) refl e

look_other_key : (key k : List ℕ) (qs : List Pairing) → bytes_eq key k ≡ false → look_up k (without_first key qs) ≡ look_up k qs
look_other_key key k [] h = refl
look_other_key key k (q ∷ qs) h = by_test (bytes_eq (q.0) key) refl
  where
    by_test : (t : Bool) → bytes_eq (q.0) key ≡ t → look_up k (if t then qs else q ∷ qs) ≡ look_up k (q ∷ qs)
    by_test true e = sym (look_other k q qs (subst (λ (x : List ℕ). bytes_eq x k ≡ false) (sym (same_bytes (q.0) key e)) h))
    by_test false e = refl

-- one signature of the first is joined
pub joined_step : (p : Pairing) (ps qs : List Pairing) → asc (p ∷ ps) → asc qs
    → signatures_joined (p ∷ ps) qs ≡ before_key (p.0) qs ++ (p ∷ signatures_joined ps (without_first (p.0) (not_before (p.0) qs)))
joined_step p ps qs a b =
    joined_before p ps qs a b ∙ ap (λ (l : List Pairing). before_key (p.0) qs ++ l)
    (joined_first p ps (not_before (p.0) qs) (without_first (p.0) (not_before (p.0) qs)) a
    (ascend_without (p.0) (not_before (p.0) qs) (ascend_not_before (p.0) qs b)) (after_key (p.0) qs b)
    (λ k e. look_without (p.0) k (not_before (p.0) qs) e) (λ k e. look_other_key (p.0) k (not_before (p.0) qs) e))

-- ---- as loops do

pub differ_more : (here others next : List Pairing) (i : ℕ) (p : Pairing) (t total : Bool) → drop i here ≡ p ∷ drop (i + 1) here
    → asc (drop i here) → asc others → next ≡ not_before (p.0) others
    → t ≡ are_at_odds bytes_eq (Some (p.1)) (at_first (p.0) next) → t ≡ false → signatures_differ (drop i here) others ≡ total
    → asc (drop (i + 1) here) × asc next × (signatures_differ (drop (i + 1) here) next ≡ total)
differ_more here others next i p t total cut a b is odds calm so_far =
    let a2 : asc (p ∷ drop (i + 1) here) = subst (λ (l : List Pairing). asc l) cut a in
    let b2 : asc next = subst (λ (l : List Pairing). asc l) (sym is) (ascend_not_before (p.0) others b) in
    let f : are_at_odds bytes_eq (Some (p.1)) (at_first (p.0) (not_before (p.0) others)) ≡ false =
    ap (λ (l : List Pairing). are_at_odds bytes_eq (Some (p.1)) (at_first (p.0) l)) (sym is) ∙ sym odds ∙ calm in
    let step : signatures_differ (p ∷ drop (i + 1) here) others ≡ signatures_differ (drop (i + 1) here) (not_before (p.0) others) =
    differ_step p (drop (i + 1) here) others a2 b ∙ ap (λ (u : Bool). u || signatures_differ (drop (i + 1) here) (not_before (p.0) others)) f in (
      others_ascend (p.0) (names_of (drop (i + 1) here)) a2,
      b2,
      ap (signatures_differ (drop (i + 1) here)) is ∙ sym step
          ∙ ap (λ (l : List Pairing). signatures_differ l others) (sym cut) ∙ so_far,
    )

pub differ_found : (here others next : List Pairing) (i : ℕ) (p : Pairing) (t total : Bool) → drop i here ≡ p ∷ drop (i + 1) here
    → asc (drop i here) → asc others → next ≡ not_before (p.0) others
    → t ≡ are_at_odds bytes_eq (Some (p.1)) (at_first (p.0) next) → t ≡ true → signatures_differ (drop i here) others ≡ total → true ≡ total
differ_found here others next i p t total cut a b is odds found so_far =
    let a2 : asc (p ∷ drop (i + 1) here) = subst (λ (l : List Pairing). asc l) cut a in
    let f : are_at_odds bytes_eq (Some (p.1)) (at_first (p.0) (not_before (p.0) others)) ≡ true =
    ap (λ (l : List Pairing). are_at_odds bytes_eq (Some (p.1)) (at_first (p.0) l)) (sym is) ∙ sym odds ∙ found in
    let step : signatures_differ (p ∷ drop (i + 1) here) others ≡ true =
    differ_step p (drop (i + 1) here) others a2 b ∙ ap (λ (u : Bool). u || signatures_differ (drop (i + 1) here) (not_before (p.0) others)) f in
    sym step ∙ ap (λ (l : List Pairing). signatures_differ l others) (sym cut) ∙ so_far

pub joined_more : (here others next out out1 out2 : List Pairing) (i : ℕ) (p : Pairing) (total : List Pairing) → drop i here ≡ p
    ∷ drop (i + 1) here → asc (drop i here) → asc others
    → next ≡ without_first (p.0) (not_before (p.0) others) → out1 ≡ out ++ before_key (p.0) others → out2 ≡ out1 ++ p ∷ [] → out
    ++ signatures_joined (drop i here) others ≡ total
    → asc (drop (i + 1) here) × asc next × (out2 ++ signatures_joined (drop (i + 1) here) next ≡ total)
joined_more here others next out out1 out2 i p total cut a b is e1 e2 so_far =
    let a2 : asc (p ∷ drop (i + 1) here) = subst (λ (l : List Pairing). asc l) cut a in
    let b2 : asc next = subst (λ (l : List Pairing). asc l) (sym is) (ascend_without (p.0) (not_before (p.0) others) (ascend_not_before (p.0) others b)) in
    let step = joined_step p (drop (i + 1) here) others a2 b in
    let prefix : out2 ++ signatures_joined (drop (i + 1) here) next
    ≡ out ++ (before_key (p.0) others ++ (p ∷ signatures_joined (drop (i + 1) here) (without_first (p.0) (not_before (p.0) others)))) =
    rw (e2, e1, is) (simp append_assoc) in (
      others_ascend (p.0) (names_of (drop (i + 1) here)) a2,
      b2,
      prefix
          ∙ ap (λ (l : List Pairing). out ++ l) (sym step ∙ ap (λ (l : List Pairing). signatures_joined l others) (sym cut)) ∙ so_far,
    )

pub joined_done : (here others out out1 : List Pairing) (i : ℕ) (total : List Pairing) → drop i here ≡ [] → asc others → out1 ≡ out
    ++ others → out ++ signatures_joined (drop i here) others ≡ total → out1 ≡ total
joined_done here others out out1 i total none b e so_far =
    e ∙ ap (λ (l : List Pairing). out ++ l) (sym (joined_none others b) ∙ ap (λ (l : List Pairing). signatures_joined l others) (sym none)) ∙ so_far

-- the element at a place, and those behind it
pub cut_at : (xs : List Pairing) (i : ℕ) (x : Pairing) → i < length xs → x ≡ get_or xs i x → drop i xs ≡ x ∷ drop (i + 1) xs
cut_at xs i x lt e = let n : suc i ≡ i + 1 = omega arith in drop-cons xs i x lt ∙ (λ k. sym e k ∷ drop (n k) xs)
