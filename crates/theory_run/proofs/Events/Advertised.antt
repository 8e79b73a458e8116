-- What is kept after a contract is advertised.
use Rattle.std.proofs.Common.{◌≡◌, ℕ, List, [], ◌∷◌, ◌++◌, map, Bool, true, false, not, Option, Some, None, refl, sym, ap, ◌∙◌, subst, arith, inl, inr}
use Rattle.std.specs.Prelude.{◌==◌, ◌&&◌, ◌||◌, is_some, if◌then◌else◌}
use Rattle.std.specs.List.{list_all}
use Rattle.std.specs.Option.{is_none}
use Rattle.std.specs.Str.{bytes_eq}
use Rattle.std.proofs.lemmas.Bool.{and_parts, and_from, or_left, or_right, or_parts, both_ways, not-true, eqb-true, eq-eqb}
use Rattle.spec_data.specs.Lists.{is_among, are_different, has_number, look_up}
use Rattle.spec_terms.specs.Precondition.{Holding, deposits, names_of, name_in}
use Rattle.spec_terms.specs.declared.pre.Pre.{Pre}
use Rattle.spec_terms.specs.declared.pre.Pre.TheVariants.{Persistent, Volatile, Secret}
use Rattle.spec_calculus.specs.Same.{owner_eq}
use Rattle.spec_calculus.specs.declared.step.Owner.TheVariants.{Party, Outside}
use Rattle.spec_run.specs.Setup.{Setup, pre_at}
use Rattle.spec_run.specs.World.{Output, World, output_at, is_deposit}
use Rattle.spec_run.specs.Owners.{paid_to, owner_among, owner_by, suits}
use Rattle.spec_run.specs.Advertising.{or_else_this, arranged, repeated, not_live, unsuited}
use Rattle.theory_calculus.proofs.Names.{bytes-true, bytes_refl, deposit_named, in_named}
use Rattle.theory_calculus.specs.Members.{Is_in}
use Rattle.theory_world.proofs.Tests.{any-append}
use Rattle.theory_run.specs.KeptBook.{IsBound}

-- ---- look-ups in what is arranged

pub look_arranged : (names : List (List ℕ)) (bs : List (List ℕ × ℕ)) (x : List ℕ) (n : ℕ) → list_all (λ m. is_some (look_up m bs)) names
    ≡ true → look_up x (arranged 0 names bs) ≡ Some n → look_up x bs ≡ Some n
look_arranged [] bs x n all h = cc
look_arranged (m ∷ names) bs x n all h =
    let p = and_parts (is_some (look_up m bs)) (list_all (λ m. is_some (look_up m bs)) names) all in
    by_test (bytes_eq m x) refl h p.0 (λ q. look_arranged names bs x n p.1 q)
  where
    by_value : (o : Option ℕ) → is_some o ≡ true → Some (or_else_this 0 o) ≡ Some n → o ≡ Some n
    by_value None e q = cc
    by_value (Some v) e q = q

    by_test : (b : Bool) → bytes_eq m x ≡ b → (if b then Some (or_else_this 0 (look_up m bs)) else look_up x (arranged 0 names bs)) ≡ Some n
        → is_some (look_up m bs) ≡ true
        → (look_up x (arranged 0 names bs) ≡ Some n → look_up x bs ≡ Some n) → look_up x bs ≡ Some n
    by_test true e q there ih = let z = bytes-true m x e in subst (λ y. look_up y bs ≡ Some n) z (by_value (look_up m bs) there q)
    by_test false e q there ih = ih q

pub some_arranged : (names : List (List ℕ)) (bs : List (List ℕ × ℕ)) (x : List ℕ) → is_among x names ≡ true → is_some (look_up x (arranged 0 names bs)) ≡ true
some_arranged [] bs x h = cc
some_arranged (m ∷ names) bs x h = by_test (bytes_eq m x) h (λ q. some_arranged names bs x q)
  where
    by_test : (b : Bool) → (b || is_among x names) ≡ true → (is_among x names ≡ true → is_some (look_up x (arranged 0 names bs)) ≡ true)
        → is_some (if b then Some (or_else_this 0 (look_up m bs)) else look_up x (arranged 0 names bs)) ≡ true
    by_test true q ih = refl
    by_test false q ih = ih q

named_looked : (bs : List (List ℕ × ℕ)) (x : List ℕ) → is_among x (names_of bs) ≡ true → is_some (look_up x bs) ≡ true
named_looked [] x h = cc
named_looked (b ∷ bs) x h = grind (arith, named_looked bs x)

pub all_looked : (bs : List (List ℕ × ℕ)) (names : List (List ℕ)) → list_all (λ n. is_among n (names_of bs)) names ≡ true
    → list_all (λ m. is_some (look_up m bs)) names ≡ true
all_looked bs [] h = refl
all_looked bs (m ∷ names) h =
    let p = and_parts (is_among m (names_of bs)) (list_all (λ n. is_among n (names_of bs)) names) h in
    and_from _ _ (named_looked bs m p.0) (all_looked bs names p.1)

-- ---- what the row says of a binding

pub live_looked : (w : World) (bs : List (List ℕ × ℕ)) (x : List ℕ) (n : ℕ) → is_some (not_live w bs) ≡ false → look_up x bs ≡ Some n
    → is_deposit (output_at w n) ≡ true
live_looked w [] x n h l = cc
live_looked w (b ∷ bs) x n h l = by_live (is_deposit (output_at w (b.1))) refl h (λ q k. live_looked w bs x n q k)
  where
    by_name : (t : Bool) → is_deposit (output_at w (b.1)) ≡ true → (if t then Some (b.1) else look_up x bs) ≡ Some n
        → (look_up x bs ≡ Some n → is_deposit (output_at w n) ≡ true) → is_deposit (output_at w n) ≡ true
    by_name true d q ih = let z : b.1 ≡ n = cc in subst (λ k. is_deposit (output_at w k) ≡ true) z d
    by_name false d q ih = ih q

    by_live : (t : Bool) → is_deposit (output_at w (b.1)) ≡ t → is_some (if t then not_live w bs else Some (b.0)) ≡ false
        → (is_some (not_live w bs) ≡ false → look_up x bs ≡ Some n → is_deposit (output_at w n) ≡ true) → is_deposit (output_at w n) ≡ true
    by_live true d q ih = by_name (bytes_eq (b.0) x) d l (λ k. ih q k)
    by_live false d q ih = cc

pub suits_looked : (s : Setup) (w : World) (contract : ℕ) (bs : List (List ℕ × ℕ)) (x : List ℕ) (n : ℕ) → is_some (unsuited s w contract bs)
    ≡ false → look_up x bs ≡ Some n → suits s (look_up x (deposits (pre_at s contract))) (output_at w n) ≡ true
suits_looked s w contract [] x n h l = cc
suits_looked s w contract (b ∷ bs) x n h l =
    by_suits (suits s (look_up (b.0) (deposits (pre_at s contract))) (output_at w (b.1))) refl h (λ q k. suits_looked s w contract bs x n q k)
  where
    by_name : (t : Bool) → bytes_eq (b.0) x ≡ t → suits s (look_up (b.0) (deposits (pre_at s contract))) (output_at w (b.1)) ≡ true
        → (if t then Some (b.1) else look_up x bs) ≡ Some n
        → (look_up x bs ≡ Some n → suits s (look_up x (deposits (pre_at s contract))) (output_at w n) ≡ true)
        → suits s (look_up x (deposits (pre_at s contract))) (output_at w n) ≡ true
    by_name true e d q ih =
        let z : b.1 ≡ n = cc in
        subst (λ k. suits s (look_up x (deposits (pre_at s contract))) (output_at w k) ≡ true) z
        (subst (λ y. suits s (look_up y (deposits (pre_at s contract))) (output_at w (b.1)) ≡ true) (bytes-true (b.0) x e) d)
    by_name false e d q ih = ih q

    by_suits : (t : Bool) → suits s (look_up (b.0) (deposits (pre_at s contract))) (output_at w (b.1)) ≡ t
        → is_some (if t then unsuited s w contract bs else Some (b.0)) ≡ false
        → (is_some (unsuited s w contract bs) ≡ false → look_up x bs ≡ Some n
        → suits s (look_up x (deposits (pre_at s contract))) (output_at w n) ≡ true) → suits s (look_up x (deposits (pre_at s contract))) (output_at w n) ≡ true
    by_suits true d q ih = by_name (bytes_eq (b.0) x) refl d l (λ k. ih q k)
    by_suits false d q ih = cc

-- numbers of different names differ, and aren't those seen before
unseen : (seen : List ℕ) (bs : List (List ℕ × ℕ)) (x : List ℕ) (n : ℕ) → is_some (repeated seen bs) ≡ false → look_up x bs ≡ Some n → has_number n seen ≡ false
unseen seen [] x n h l = cc
unseen seen (b ∷ bs) x n h l = by_seen (has_number (b.1) seen) refl h (λ q k. unseen (seen ++ b.1 ∷ []) bs x n q k)
  where
    by_name : (t : Bool) → has_number (b.1) seen ≡ false → (if t then Some (b.1) else look_up x bs) ≡ Some n
        → (look_up x bs ≡ Some n → has_number n (seen ++ b.1 ∷ []) ≡ false) → has_number n seen ≡ false
    by_name true f q ih = let z : b.1 ≡ n = cc in subst (λ k. has_number k seen ≡ false) z f
    by_name false f q ih = (or_parts (has_number n seen) (has_number n (b.1 ∷ [])) (sym (any-append (λ y. y == n) seen (b.1 ∷ [])) ∙ ih q)).0

    by_seen : (t : Bool) → has_number (b.1) seen ≡ t → is_some (if t then Some (b.0) else repeated (seen ++ b.1 ∷ []) bs) ≡ false
        → (is_some (repeated (seen ++ b.1 ∷ []) bs) ≡ false → look_up x bs ≡ Some n → has_number n (seen ++ b.1 ∷ []) ≡ false) → has_number n seen ≡ false
    by_seen true f q ih = cc
    by_seen false f q ih = by_name (bytes_eq (b.0) x) f l (λ k. ih q k)

pub one_name : (seen : List ℕ) (bs : List (List ℕ × ℕ)) (x y : List ℕ) (n : ℕ) → is_some (repeated seen bs) ≡ false → look_up x bs ≡ Some n
    → look_up y bs ≡ Some n → x ≡ y
one_name seen [] x y n h l m = cc
one_name seen (b ∷ bs) x y n h l m = by_seen (has_number (b.1) seen) h (λ q k j. one_name (seen ++ b.1 ∷ []) bs x y n q k j)
  where
    -- a later name has another number
    not_here : (z : List ℕ) → is_some (repeated (seen ++ b.1 ∷ []) bs) ≡ false → look_up z bs ≡ Some n → b.1 ≡ n → ⊥
    not_here z q k e = both_ways _ (unseen (seen ++ b.1 ∷ []) bs z n q k)
        (any-append (λ y. y == n) seen (b.1 ∷ []) ∙ or_right (has_number n seen) _ (or_left _ _ (eq-eqb (b.1) n e)))

    by_names : (t u : Bool) → bytes_eq (b.0) x ≡ t → bytes_eq (b.0) y ≡ u → is_some (repeated (seen ++ b.1 ∷ []) bs) ≡ false
        → (if t then Some (b.1) else look_up x bs) ≡ Some n → (if u then Some (b.1) else look_up y bs) ≡ Some n
        → (look_up x bs ≡ Some n → look_up y bs ≡ Some n → x ≡ y) → x ≡ y
    by_names true true e f q k j ih = sym (bytes-true (b.0) x e) ∙ bytes-true (b.0) y f
    by_names true false e f q k j ih = absurd (not_here y q j (let z : b.1 ≡ n = cc in z))
    by_names false true e f q k j ih = absurd (not_here x q k (let z : b.1 ≡ n = cc in z))
    by_names false false e f q k j ih = ih k j

    by_seen : (t : Bool) → is_some (if t then Some (b.0) else repeated (seen ++ b.1 ∷ []) bs) ≡ false
        → (is_some (repeated (seen ++ b.1 ∷ []) bs) ≡ false → look_up x bs ≡ Some n → look_up y bs ≡ Some n → x ≡ y) → x ≡ y
    by_seen true q ih = cc
    by_seen false q ih = by_names (bytes_eq (b.0) x) (bytes_eq (b.0) y) refl refl q l m (λ k j. ih q k j)

-- ---- a deposit that suits

owner_is : (s : Setup) (ps : List (List ℕ)) (script a : List ℕ) → owner_eq (owner_among s ps script) (Party a) ≡ true
    → (is_among a ps ≡ true) × (script ≡ paid_to s a)
owner_is s [] script a h = cc
owner_is s (p ∷ ps) script a h = by_test (bytes_eq (paid_to s p) script) refl h (λ q. owner_is s ps script a q)
  where
    by_test : (t : Bool) → bytes_eq (paid_to s p) script ≡ t → owner_eq (if t then Party p else owner_among s ps script) (Party a) ≡ true
        → (owner_eq (owner_among s ps script) (Party a) ≡ true → (is_among a ps ≡ true) × (script ≡ paid_to s a))
        → (is_among a (p ∷ ps) ≡ true) × (script ≡ paid_to s a)
    by_test true e q ih = (or_left _ _ q, sym (bytes-true (paid_to s p) script e) ∙ ap (paid_to s) (bytes-true p a q))
    by_test false e q ih = let r = ih q in (or_right (bytes_eq p a) _ r.0, r.1)

pub none_is : {X : Type 0} (o : Option X) → is_none o ≡ true → o ≡ None
none_is None h = refl
none_is (Some x) h = cc

pub suits_bound : (s : Setup) (w : World) (h : Holding) (n : ℕ) → suits s (Some h) (output_at w n) ≡ true → IsBound s w h n
suits_bound s w h n t = by_output (output_at w n) refl t
  where
    by_deposit : (o : Output) → output_at w n ≡ Some o → (d : Bool) → (o.live && is_none o.holds) ≡ d
        → (d && owner_eq (if d then owner_by s o.script else Outside) (Party h.owner) && ((if d then o.value else 0) == h.value)) ≡ true → IsBound s w h n
    by_deposit o e true f q =
        let p = and_parts (owner_eq (owner_by s o.script) (Party h.owner)) (o.value == h.value) q in
        let own = owner_is s s.header.parties o.script h.owner p.0 in
        record {
          output = o;
          there = e;
          script = own.1;
          value = eqb-true o.value h.value p.1;
          free = none_is o.holds
              (and_parts o.live (is_none o.holds) f).1;
          declared = own.0;
        }
    by_deposit o e false f q = cc

    by_output : (o : Option Output) → output_at w n ≡ o → suits s (Some h) o ≡ true → IsBound s w h n
    by_output None e q = cc
    by_output (Some o) e q = by_deposit o e (o.live && is_none o.holds) refl q

-- ---- names of deposits

-- an entry of different names is what its name is looked up as
entry_looked : (e : List ℕ × Holding) (ds : List (List ℕ × Holding)) (d : List ℕ × Holding) → is_among (e.0) (names_of ds) ≡ false
    → Is_in d (e ∷ ds) → (Is_in d ds → look_up (d.0) ds ≡ Some (d.1)) → look_up (d.0) (e ∷ ds) ≡ Some (d.1)
entry_looked e ds d f (inl q) ih =
    let z : bytes_eq (e.0) (d.0) ≡ true = subst (λ (y : List ℕ × Holding). bytes_eq (e.0) (y.0) ≡ true) (sym q) (bytes_refl (e.0)) in
    rw z (ap (λ (y : List ℕ × Holding). Some (y.1)) (sym q))
entry_looked e ds d f (inr i) ih = by_test (bytes_eq (e.0) (d.0)) refl
  where
    by_test : (t : Bool) → bytes_eq (e.0) (d.0) ≡ t → (if t then Some (e.1) else look_up (d.0) ds) ≡ Some (d.1)
    by_test true u = absurd (both_ways _ f (subst (λ y. is_among y (names_of ds) ≡ true) (sym (bytes-true (e.0) (d.0) u)) (in_named ds d i)))
    by_test false u = ih i

pub head_apart : (name : List ℕ) (pre : List Pre) → (not (is_among name (map name_in pre)) && are_different (map name_in pre)) ≡ true
    → (is_among name (names_of (deposits pre)) ≡ false) × (are_different (map name_in pre) ≡ true)
head_apart name pre h =
    let p = and_parts (not (is_among name (map name_in pre))) (are_different (map name_in pre)) h in
    (by_test (is_among name (names_of (deposits pre))) refl (not-true _ p.0), p.1)
  where
    by_test : (t : Bool) → is_among name (names_of (deposits pre)) ≡ t → is_among name (map name_in pre) ≡ false
        → is_among name (names_of (deposits pre)) ≡ false
    by_test true e f = absurd (both_ways _ f (deposit_named pre name e))
    by_test false e f = e

pub deposit_looked : (pre : List Pre) (d : List ℕ × Holding) → are_different (map name_in pre) ≡ true → Is_in d (deposits pre)
    → look_up (d.0) (deposits pre) ≡ Some (d.1)
deposit_looked [] d h i = absurd i
deposit_looked (Persistent party value name ∷ pre) d h i =
    let p = head_apart name pre h in
    entry_looked (name, record { owner = party; value = value }) (deposits pre) d p.0 i (λ k. deposit_looked pre d p.1 k)
deposit_looked (Volatile party value name ∷ pre) d h i =
    let p = head_apart name pre h in
    entry_looked (name, record { owner = party; value = value }) (deposits pre) d p.0 i (λ k. deposit_looked pre d p.1 k)
deposit_looked (Secret party name ∷ pre) d h i = deposit_looked pre d (head_apart name pre h).1 i
