-- Signatures by their keys: put in their place, found, and joined.
use Rattle.std.proofs.Common.{◌≡◌, ℕ, List, [], ◌∷◌, Bool, true, false, not, Option, Some, None, refl, sym, ap, subst, ◌∙◌}
use Rattle.std.specs.Prelude.{◌||◌, if◌then◌else◌}
use Rattle.std.specs.Option.{option_map_or, option_or}
use Rattle.std.specs.Str.{bytes_eq}
use Rattle.spec_data.specs.Lists.{look_up, is_among}
use Rattle.spec_terms.specs.Precondition.{names_of}
use Rattle.spec_tool.specs.Psbt.{Pairing, is_before, are_ascending, insert_signature}
use Rattle.spec_tool.specs.PsbtBytes.{are_at_odds, signatures_differ, signatures_joined}
use Rattle.theory_text.proofs.ListFacts.{and_is, or_left, or_right, by_test, bytes_ne-back}
use Rattle.theory_text.proofs.Options.{some, some_is, none_some}
use Rattle.theory_psbt.proofs.Order.{Before, same_bytes, bytes_same, before_both, apart_before, all_before, first_before, others_ascend, ascend_with, before_absent}

-- ---- what is found

pub look_none : {V : Type 0} (key : List ℕ) (ps : List (List ℕ × V)) → is_among key (names_of ps) ≡ false → look_up key ps ≡ None
look_none key [] h = refl
look_none key (p ∷ ps) h = rw (or_left (bytes_eq (p.0) key) (is_among key (names_of ps)) h) (look_none key ps (or_right (bytes_eq (p.0) key) _ h))

pub none_among : {V : Type 0} (key : List ℕ) (ps : List (List ℕ × V)) → look_up key ps ≡ None → is_among key (names_of ps) ≡ false
none_among key [] h = refl
none_among {V} key (p ∷ ps) h = by_key (bytes_eq (p.0) key) h (none_among key ps)
  where
    by_key : (t : Bool) → (if t then Some (p.1) else look_up key ps) ≡ None → (look_up key ps ≡ None → is_among key (names_of ps) ≡ false)
        → (t || is_among key (names_of ps)) ≡ false
    by_key true e later = absurd cc
    by_key false e later = later e

pub look_first : {V : Type 0} (p : List ℕ × V) (ps : List (List ℕ × V)) → look_up (p.0) (p ∷ ps) ≡ Some (p.1)
look_first p ps = rw (bytes_same (p.0)) refl

pub look_other : {V : Type 0} (key : List ℕ) (p : List ℕ × V) (ps : List (List ℕ × V)) → bytes_eq (p.0) key ≡ false → look_up key (p ∷ ps) ≡ look_up key ps
look_other key p ps h = rw h refl

pub before_none : {V : Type 0} (key : List ℕ) (ps : List (List ℕ × V)) → Before key (names_of ps) → look_up key ps ≡ None
before_none key ps h = look_none key ps (before_absent key (names_of ps) h)

-- a key that is found comes after each that comes before all
pub found_after : {V : Type 0} (first key : List ℕ) (ps : List (List ℕ × V)) (v : V) → Before first (names_of ps) → look_up key ps ≡ Some v
    → is_before first key ≡ true
found_after first key [] v h e = absurd cc
found_after first key (p ∷ ps) v h e =
    by_test (bytes_eq (p.0) key) (Some (p.1)) (look_up key ps) (Some v) (is_before first key ≡ true) e
    (λ t q. subst (λ (x : List ℕ). is_before first x ≡ true) (same_bytes (p.0) key t) h.0)
    (λ q. found_after first key ps v h.1 q)

-- ---- put in its place

pub before_put : (key : List ℕ) (r : Pairing) (ss : List Pairing) → is_before key (r.0) ≡ true → Before key (names_of ss)
    → Before key (names_of (insert_signature r ss))
before_put key r [] h k = (h, tt)
before_put key r (s ∷ ss) h k = by_place (is_before (r.0) (s.0)) (before_put key r ss h k.1)
  where
    by_place : (t : Bool) → Before key (names_of (insert_signature r ss)) → Before key (names_of (if t then r ∷ (s ∷ ss) else s ∷ insert_signature r ss))
    by_place true later = (h, k)
    by_place false later = (k.0, later)

pub put_ascends : (r : Pairing) (ss : List Pairing) → are_ascending (names_of ss) ≡ true → is_among (r.0) (names_of ss) ≡ false
    → are_ascending (names_of (insert_signature r ss)) ≡ true
put_ascends r [] h new = refl
put_ascends r (s ∷ ss) h new =
    by_place (is_before (r.0) (s.0)) refl (put_ascends r ss (others_ascend (s.0) (names_of ss) h) (or_right (bytes_eq (s.0) (r.0)) _ new))
  where
    by_place : (t : Bool) → is_before (r.0) (s.0) ≡ t → are_ascending (names_of (insert_signature r ss)) ≡ true
        → are_ascending (names_of (if t then r ∷ (s ∷ ss) else s ∷ insert_signature r ss)) ≡ true
    by_place true e later = and_is _ _ e h
    by_place false e later =
        let after : is_before (s.0) (r.0) ≡ true = by_order (is_before (s.0) (r.0)) refl e in
        ascend_with (s.0) (names_of (insert_signature r ss)) (before_put (s.0) r ss after (first_before (s.0) (names_of ss) h)) later
      where
        by_order : (t : Bool) → is_before (s.0) (r.0) ≡ t → is_before (r.0) (s.0) ≡ false → t ≡ true
        by_order true q e = refl
        by_order false q e =
            let same = before_both (s.0) (r.0) q e in
            let apart = or_left (bytes_eq (s.0) (r.0)) _ new in
            let level : bytes_eq (s.0) (r.0) ≡ true = subst (λ (x : List ℕ). bytes_eq (s.0) x ≡ true) same (bytes_same (s.0)) in
            absurd cc

pub put_found : (key : List ℕ) (r : Pairing) (ss : List Pairing) → is_among (r.0) (names_of ss) ≡ false
    → look_up key (insert_signature r ss) ≡ (if bytes_eq (r.0) key then Some (r.1) else look_up key ss)
put_found key r [] new = refl
put_found key r (s ∷ ss) new = by_place (is_before (r.0) (s.0)) (put_found key r ss (or_right (bytes_eq (s.0) (r.0)) _ new))
  where
    by_key : (t : Bool) → bytes_eq (s.0) key ≡ t → look_up key (insert_signature r ss) ≡ (if bytes_eq (r.0) key then Some (r.1) else look_up key ss)
        → (if t then Some (s.1) else look_up key (insert_signature r ss))
        ≡ (if bytes_eq (r.0) key then Some (r.1) else (if t then Some (s.1) else look_up key ss))
    by_key true e later =
        let apart : bytes_eq (r.0) key ≡ false =
        subst (λ (x : List ℕ). bytes_eq (r.0) x ≡ false) (same_bytes (s.0) key e) (bytes_ne-back (s.0) (r.0) (or_left _ _ new)) in
        rw apart refl
    by_key false e later = later

    by_place : (t : Bool) → look_up key (insert_signature r ss) ≡ (if bytes_eq (r.0) key then Some (r.1) else look_up key ss)
        → look_up key (if t then r ∷ (s ∷ ss) else s ∷ insert_signature r ss) ≡ (if bytes_eq (r.0) key then Some (r.1) else look_up key (s ∷ ss))
    by_place true later = refl
    by_place false later = by_key (bytes_eq (s.0) key) refl later

-- before all others it is the first
pub put_first : (r : Pairing) (ss : List Pairing) → are_ascending (r.0 ∷ names_of ss) ≡ true → insert_signature r ss ≡ r ∷ ss
put_first r [] h = refl
put_first r (s ∷ ss) h = rw (first_before (r.0) (names_of (s ∷ ss)) h).0 refl

-- ---- ascending lists that say the same

first_absent : (p q : Pairing) (ps qs : List Pairing) → are_ascending (names_of (q ∷ qs)) ≡ true → is_before (p.0) (q.0) ≡ true
    → look_up (p.0) (p ∷ ps) ≡ look_up (p.0) (q ∷ qs) → ⊥
first_absent p q ps qs asc h e =
    let gone : look_up (p.0) (q ∷ qs) ≡ None = before_none (p.0) (q ∷ qs) (h, all_before (p.0) (q.0) (names_of qs) h (first_before (q.0) (names_of qs) asc)) in
    none_some (p.1) (sym gone ∙ sym e ∙ look_first p ps)

pub same_signatures : (ps qs : List Pairing) → are_ascending (names_of ps) ≡ true → are_ascending (names_of qs) ≡ true
    → ((key : List ℕ) → look_up key ps ≡ look_up key qs) → ps ≡ qs
same_signatures [] [] a b h = refl
same_signatures [] (q ∷ qs) a b h = absurd (none_some (q.1) (h (q.0) ∙ look_first q qs))
same_signatures (p ∷ ps) [] a b h = absurd (none_some (p.1) (sym (h (p.0)) ∙ look_first p ps))
same_signatures (p ∷ ps) (q ∷ qs) a b h =
    by_order (is_before (p.0) (q.0)) refl (is_before (q.0) (p.0)) refl
    (same_signatures ps qs (others_ascend (p.0) (names_of ps) a) (others_ascend (q.0) (names_of qs) b))
  where
    tails : (key : List ℕ) → p.0 ≡ q.0 → (t : Bool) → bytes_eq (p.0) key ≡ t → look_up key ps ≡ look_up key qs
    tails key same true e =
        let here : look_up key ps ≡ None =
        subst (λ (x : List ℕ). look_up x ps ≡ None) (same_bytes (p.0) key e) (before_none (p.0) ps (first_before (p.0) (names_of ps) a)) in
        let there : look_up key qs ≡ None =
        subst (λ (x : List ℕ). look_up x qs ≡ None) (sym same ∙ same_bytes (p.0) key e) (before_none (q.0) qs (first_before (q.0) (names_of qs) b)) in
        here ∙ sym there
    tails key same false e =
        let other : bytes_eq (q.0) key ≡ false = subst (λ (x : List ℕ). bytes_eq x key ≡ false) same e in
        sym (look_other key p ps e) ∙ h key ∙ look_other key q qs other

    by_order : (t : Bool) → is_before (p.0) (q.0) ≡ t → (u : Bool) → is_before (q.0) (p.0) ≡ u
        → (((key : List ℕ) → look_up key ps ≡ look_up key qs) → ps ≡ qs) → p ∷ ps ≡ q ∷ qs
    by_order true e u f later = absurd (first_absent p q ps qs b e (h (p.0)))
    by_order false e true f later = absurd (first_absent q p qs ps a f (sym (h (q.0))))
    by_order false e false f later =
        let same = before_both (p.0) (q.0) e f in
        let found : look_up (q.0) (p ∷ ps) ≡ Some (p.1) = subst (λ (x : List ℕ). look_up x (p ∷ ps) ≡ Some (p.1)) same (look_first p ps) in
        let values : p.1 ≡ q.1 = some_is (p.1) (q.1) (sym found ∙ h (q.0) ∙ look_first q qs) in
        let rest = later (λ key. tails key same (bytes_eq (p.0) key) refl) in
        let firsts : p ≡ q = λ i. (same i, values i) in
        cc

-- ---- joined

pub joined_ascend : (here there : List Pairing) → are_ascending (names_of here) ≡ true → are_ascending (names_of (signatures_joined here there)) ≡ true
joined_ascend here [] h = h
joined_ascend here (p ∷ ps) h = by_found (look_up (p.0) here) refl (joined_ascend here ps h) (joined_ascend (insert_signature p here) ps)
  where
    by_found : (o : Option (List ℕ)) → look_up (p.0) here ≡ o → are_ascending (names_of (signatures_joined here ps)) ≡ true
        → (are_ascending (names_of (insert_signature p here)) ≡ true → are_ascending (names_of (signatures_joined (insert_signature p here) ps)) ≡ true)
        → are_ascending (names_of (option_map_or (λ s. signatures_joined here ps) o (signatures_joined (insert_signature p here) ps))) ≡ true
    by_found (Some s) e had new = had
    by_found None e had new = new (put_ascends p here h (none_among (p.0) here e))

pub joined_found : (key : List ℕ) (here there : List Pairing) → look_up key (signatures_joined here there) ≡ option_or (look_up key here) (look_up key there)
joined_found key here [] = by_found (look_up key here)
  where
    by_found : (o : Option (List ℕ)) → o ≡ option_or o None
    by_found (Some s) = refl
    by_found None = refl
joined_found key here (p ∷ ps) = by_found (look_up (p.0) here) refl (joined_found key here ps) (joined_found key (insert_signature p here) ps)
  where
    had_key : (s : List ℕ) (t : Bool) → bytes_eq (p.0) key ≡ t → look_up (p.0) here ≡ Some s → option_or (look_up key here) (look_up key ps)
        ≡ option_or (look_up key here) (if t then Some (p.1) else look_up key ps)
    had_key s true e h =
        let found : look_up key here ≡ Some s = subst (λ (x : List ℕ). look_up x here ≡ Some s) (same_bytes (p.0) key e) h in
        rw found refl
    had_key s false e h = refl

    new_key : (t : Bool) → bytes_eq (p.0) key ≡ t → look_up (p.0) here ≡ None
        → option_or (if t then Some (p.1) else look_up key here) (look_up key ps) ≡ option_or (look_up key here) (if t then Some (p.1) else look_up key ps)
    new_key true e h =
        let found : look_up key here ≡ None = subst (λ (x : List ℕ). look_up x here ≡ None) (same_bytes (p.0) key e) h in
        rw found refl
    new_key false e h = refl

    by_found : (o : Option (List ℕ)) → look_up (p.0) here ≡ o → look_up key (signatures_joined here ps) ≡ option_or (look_up key here) (look_up key ps)
        → look_up key (signatures_joined (insert_signature p here) ps) ≡ option_or (look_up key (insert_signature p here)) (look_up key ps)
        → look_up key (option_map_or (λ s. signatures_joined here ps) o (signatures_joined (insert_signature p here) ps))
        ≡ option_or (look_up key here) (look_up key (p ∷ ps))
    by_found (Some s) e had new = had ∙ had_key s (bytes_eq (p.0) key) refl e
    by_found None e had new =
        new ∙ ap (λ (o : Option (List ℕ)). option_or o (look_up key ps)) (put_found key p here (none_among (p.0) here e)) ∙ new_key (bytes_eq (p.0) key) refl e

-- ---- a key with different signatures

-- not different: found in both, it is the same
pub agree : (key : List ℕ) (here there : List Pairing) (v w : List ℕ) → signatures_differ here there ≡ false → look_up key here ≡ Some v
    → look_up key there ≡ Some w → v ≡ w
agree key [] there v w h e f = absurd cc
agree key (p ∷ ps) there v w h e f =
    by_test (bytes_eq (p.0) key) (Some (p.1)) (look_up key ps) (Some v) (v ≡ w) e
    (λ t q.
    let found : look_up (p.0) there ≡ Some w = subst (λ (x : List ℕ). look_up x there ≡ Some w) (sym (same_bytes (p.0) key t)) f in
    let calm : not (bytes_eq (p.1) w) ≡ false = subst (λ (o : Option (List ℕ)). are_at_odds bytes_eq (Some (p.1)) o ≡ false) found (or_left _ _ h) in
    let is : p.1 ≡ v = some_is (p.1) v q in
    sym is ∙ same_value (bytes_eq (p.1) w) refl calm)
    (λ q. agree key ps there v w (or_right (are_at_odds bytes_eq (Some (p.1)) (look_up (p.0) there)) _ h) q f)
  where
    same_value : (t : Bool) → bytes_eq (p.1) w ≡ t → not t ≡ false → p.1 ≡ w
    same_value true e n = same_bytes (p.1) w e
    same_value false e n = absurd cc

-- a key that has one signature here and another there
pub record Apart (here there : List Pairing) : Type 0 where
  pub key : List ℕ
  pub one : List ℕ
  pub other : List ℕ
  pub in_here : look_up key here ≡ Some one
  pub in_there : look_up key there ≡ Some other
  pub differ : one ≡ other → ⊥

pub differ_apart : (here there : List Pairing) → are_ascending (names_of here) ≡ true → signatures_differ here there ≡ true → Apart here there
differ_apart [] there h d = absurd cc
differ_apart (p ∷ ps) there h d =
    by_odds (look_up (p.0) there) refl d (differ_apart ps there (others_ascend (p.0) (names_of ps) h))
  where
    later_apart : Apart ps there → Apart (p ∷ ps) there
    later_apart a = record {
      key = a.key;
      one = a.one;
      other = a.other;
      in_here = look_other a.key p ps (apart_before (p.0) a.key (found_after (p.0) a.key ps a.one (first_before (p.0) (names_of ps) h) a.in_here)) ∙ a.in_here;
      in_there = a.in_there;
      differ = a.differ;
    }

    by_value : (w : List ℕ) → look_up (p.0) there ≡ Some w → (t : Bool) → bytes_eq (p.1) w ≡ t → (not t || signatures_differ ps there)
        ≡ true → (signatures_differ ps there ≡ true → Apart ps there) → Apart (p ∷ ps) there
    by_value w e true q d later = later_apart (later d)
    by_value w e false q d later = record {
      key = p.0;
      one = p.1;
      other = w;
      in_here = look_first p ps;
      in_there = e;
      differ = λ same. let level : bytes_eq (p.1) w ≡ true = subst (λ (x : List ℕ). bytes_eq (p.1) x ≡ true) same (bytes_same (p.1)) in absurd cc;
    }

    by_odds : (o : Option (List ℕ)) → look_up (p.0) there ≡ o → (are_at_odds bytes_eq (Some (p.1)) o || signatures_differ ps there) ≡ true
        → (signatures_differ ps there ≡ true → Apart ps there) → Apart (p ∷ ps) there
    by_odds None e d later = later_apart (later d)
    by_odds (Some w) e d later = by_value w e (bytes_eq (p.1) w) refl d later

pub apart_differ : (here there : List Pairing) → Apart here there → signatures_differ here there ≡ true
apart_differ here there a = by_answer (signatures_differ here there) refl
  where
    by_answer : (t : Bool) → signatures_differ here there ≡ t → t ≡ true
    by_answer true e = refl
    by_answer false e = absurd (a.differ (agree a.key here there a.one a.other e a.in_here a.in_there))

pub apart_back : (here there : List Pairing) → Apart here there → Apart there here
apart_back here there a = record { key = a.key; one = a.other; other = a.one; in_here = a.in_there; in_there = a.in_here; differ = λ e. a.differ (sym e) }

same_truth : (a b : Bool) → (a ≡ true → b ≡ true) → (b ≡ true → a ≡ true) → a ≡ b
same_truth true true f g = refl
same_truth true false f g = sym (f refl)
same_truth false true f g = g refl
same_truth false false f g = refl

pub differ_both_ways : (here there : List Pairing) → are_ascending (names_of here) ≡ true → are_ascending (names_of there) ≡ true
    → signatures_differ here there ≡ signatures_differ there here
differ_both_ways here there a b =
    same_truth _ _ (λ h. apart_differ there here (apart_back here there (differ_apart here there a h)))
    (λ h. apart_differ here there (apart_back there here (differ_apart there here b h)))

-- where none differ both ways of joining say the same
pub joined_both_ways : (here there : List Pairing) → are_ascending (names_of here) ≡ true → are_ascending (names_of there) ≡ true
    → signatures_differ here there ≡ false → signatures_joined here there ≡ signatures_joined there here
joined_both_ways here there a b calm =
    same_signatures (signatures_joined here there) (signatures_joined there here) (joined_ascend here there a) (joined_ascend there here b)
    (λ key. joined_found key here there ∙ either (look_up key here) (look_up key there) (λ v w e f. agree key here there v w calm e f)
    ∙ sym (joined_found key there here))
  where
    either : (o q : Option (List ℕ)) → ((v w : List ℕ) → o ≡ Some v → q ≡ Some w → v ≡ w) → option_or o q ≡ option_or q o
    either (Some v) (Some w) h = ap (λ (x : List ℕ). some x) (h v w refl refl)
    either (Some v) None h = refl
    either None (Some w) h = refl
    either None None h = refl
