-- The deposits that fit a contract are bound so that it may be advertised, where each name is bound.
use Rattle.std.proofs.Common.{◌≡◌, ℕ, suc, ◌+◌, List, [], ◌∷◌, ◌++◌, map, Bool, true, false, Option, Some, None, refl, sym, ap, ◌∙◌, subst, inl, inr, ◌⊎◌}
use Rattle.std.proofs.Common.{arith, append-nil, append_assoc}
use Rattle.std.specs.Prelude.{not, ◌||◌, ◌&&◌, ◌==◌, if◌then◌else◌, slice_get}
use Rattle.std.specs.List.{cons_option, list_all}
use Rattle.std.specs.Str.{bytes_eq}
use Rattle.std.proofs.lemmas.Bool.{and_parts, and_from, or_left, or_right, false≢true}
use Rattle.std.proofs.lemmas.Slice.Eq.{bytes_eq-Decides}
use Rattle.spec_data.specs.Lists.{is_among, are_different, has_number}
use Rattle.spec_terms.specs.Precondition.{Holding, names_of}
use Rattle.spec_calculus.specs.declared.parts.Deposit.{Deposit}
use Rattle.spec_calculus.specs.declared.step.Owner.TheVariants.{Party, Outside}
use Rattle.spec_calculus.specs.Same.{owner_eq}
use Rattle.spec_run.specs.Setup.{Setup}
use Rattle.spec_run.specs.World.{Output, is_deposit}
use Rattle.spec_run.specs.Owners.{owner_by, owner_of, deposit_value, suits}
use Rattle.spec_run.specs.Advertising.{are_rearranged, repeated}
use Rattle.spec_run.specs.Agreement.{deposits_from}
use Rattle.spec_next.specs.Bindings.{fits, is_taken, first_fitting, binding, bindings_onto}
use Rattle.theory_calculus.specs.Members.{Is_in}
use Rattle.theory_calculus.proofs.Names.{bytes_refl}
use Rattle.theory_world.proofs.Tests.{any_map, map_append}

not_yes : (b : Bool) → not b ≡ true → b ≡ false
not_yes true h = absurd (false≢true h)
not_yes false h = refl

-- ---- the first that fits

module _ (live : List Deposit) where
  record Fitting (required : Holding) (bound : List (List ℕ × ℕ)) (n : ℕ) : Type 0 where
    d : Deposit
    there : Is_in d live
    number : d.number ≡ n
    fit : fits required d ≡ true
    free : is_taken bound n ≡ false

  fitting_of : (required : Holding) (bound : List (List ℕ × ℕ)) (ds : List Deposit) (n : ℕ) → ((d : Deposit) → Is_in d ds → Is_in d live)
      → first_fitting required bound ds ≡ Some n → Fitting required bound n
  fitting_of required bound [] n all h = cc
  fitting_of required bound (d ∷ ds) n all h =
      by_test (fits required d && not (is_taken bound d.number)) refl h (fitting_of required bound ds n (λ x i. all x (inr i)))
    where
      by_test : (b : Bool) → (fits required d && not (is_taken bound d.number)) ≡ b
          → (if b then Some d.number else first_fitting required bound ds) ≡ Some n
          → (first_fitting required bound ds ≡ Some n → Fitting required bound n) → Fitting required bound n
      by_test true e q later =
          let p = and_parts (fits required d) (not (is_taken bound d.number)) e in
          let same : d.number ≡ n = cc in
          record {
            d = d;
            there = all d (inl refl);
            number = same;
            fit = p.0;
            free = subst (λ (m : ℕ). is_taken bound m ≡ false) same (not_yes _ p.1);
          }
      by_test false e q later = later q

  -- ---- what is bound, name by name

  Extends : List (List ℕ × ℕ) → List (List ℕ × Holding) → List (List ℕ × ℕ) → Type 0
  Extends bound [] extra = extra ≡ []
  Extends bound (d ∷ ds) extra =
      Extends bound ds extra
      ⊎ ((n : ℕ) × (rest : List (List ℕ × ℕ)) × (extra ≡ (d.0, n) ∷ rest) × Fitting (d.1) bound n × Extends (bound ++ (d.0, n) ∷ []) ds rest)

  record Extended (bound : List (List ℕ × ℕ)) (ds : List (List ℕ × Holding)) : Type 0 where
    extra : List (List ℕ × ℕ)
    is : bindings_onto live bound ds ≡ bound ++ extra
    by_names : Extends bound ds extra

  extended : (bound : List (List ℕ × ℕ)) (ds : List (List ℕ × Holding)) → Extended bound ds
  unfolding Extends
  extended bound [] = record { extra = []; is = sym (append-nil bound); by_names = refl }
  extended bound (d ∷ ds) = by_number (first_fitting (d.1) bound live) refl (λ b. extended b ds)
    where
      by_number : (o : Option ℕ) → first_fitting (d.1) bound live ≡ o → ((b : List (List ℕ × ℕ)) → Extended b ds) → Extended bound (d ∷ ds)
      by_number None e later =
          let x = later bound in
          record {
            extra = x.extra;
            is = ap (λ (b : List (List ℕ × ℕ)). bindings_onto live b ds) (ap (λ (o : Option ℕ). bound ++ binding (d.0) o) e ∙ append-nil bound) ∙ x.is;
            by_names = inl x.by_names;
          }
      by_number (Some n) e later =
          let x = later (bound ++ (d.0, n) ∷ []) in
          record {
            extra = (d.0, n) ∷ x.extra;
            is = ap (λ (o : Option ℕ). bindings_onto live (bound ++ binding (d.0) o) ds) e
                ∙ (x.is ∙ append_assoc bound ((d.0, n) ∷ []) x.extra);
            by_names = inr (n, x.extra, refl, fitting_of (d.1) bound live n (λ y i. i) e, x.by_names);
          }

  -- ---- names

  some_names : (bound : List (List ℕ × ℕ)) (ds : List (List ℕ × Holding)) (extra : List (List ℕ × ℕ)) (x : List ℕ) → Extends bound ds extra
      → is_among x (names_of extra) ≡ true → is_among x (names_of ds) ≡ true
  unfolding Extends
  some_names bound [] extra x e h = absurd (false≢true (sym (ap (λ (es : List (List ℕ × ℕ)). is_among x (names_of es)) e) ∙ h))
  some_names bound (d ∷ ds) extra x (inl e) h = or_right (bytes_eq (d.0) x) _ (some_names bound ds extra x e h)
  some_names bound (d ∷ ds) extra x (inr (n, rest, e, fit, more)) h =
      by_first (bytes_eq (d.0) x) (sym (ap (λ (es : List (List ℕ × ℕ)). is_among x (names_of es)) e) ∙ h) (some_names (bound ++ (d.0, n) ∷ []) ds rest x more)
    where
      by_first : (b : Bool) → (b || is_among x (names_of rest)) ≡ true → (is_among x (names_of rest) ≡ true → is_among x (names_of ds) ≡ true)
          → (b || is_among x (names_of ds)) ≡ true
      by_first true k later = refl
      by_first false k later = later k

  -- where each name of the precondition is among them, they are these names
  AllAmong : List (List ℕ) → List (List ℕ) → Type 0
  AllAmong names xs = (x : List ℕ) → is_among x names ≡ true → is_among x xs ≡ true

  same_names : (bound : List (List ℕ × ℕ)) (ds : List (List ℕ × Holding)) (extra : List (List ℕ × ℕ)) → Extends bound ds extra
      → are_different (names_of ds) ≡ true → AllAmong (names_of ds) (names_of extra) → names_of extra ≡ names_of ds
  unfolding Extends AllAmong
  same_names bound [] extra e differ all = ap names_of e
  same_names bound (d ∷ ds) extra (inl e) differ all =
      let p = and_parts (not (is_among (d.0) (names_of ds))) (are_different (names_of ds)) differ in
      let here = some_names bound ds extra (d.0) e (all (d.0) (or_left _ _ (bytes_refl (d.0)))) in
      absurd (false≢true (sym (not_yes _ p.0) ∙ here))
  same_names bound (d ∷ ds) extra (inr (n, rest, e, fit, more)) differ all =
      let p = and_parts (not (is_among (d.0) (names_of ds))) (are_different (names_of ds)) differ in
      ap names_of e
      ∙ ap (λ (xs : List (List ℕ)). d.0 ∷ xs)
      (same_names (bound ++ (d.0, n) ∷ []) ds rest more p.1
      (λ x i. behind x i (not_yes _ p.0) (bytes_eq (d.0) x) refl
      (sym (ap (λ (es : List (List ℕ × ℕ)). is_among x (names_of es)) e) ∙ all x (or_right (bytes_eq (d.0) x) _ i))))
    where
      behind : (x : List ℕ) → is_among x (names_of ds) ≡ true → is_among (d.0) (names_of ds) ≡ false → (b : Bool) → bytes_eq (d.0) x ≡ b
          → (b || is_among x (names_of rest)) ≡ true → is_among x (names_of rest) ≡ true
      behind x i free true q k =
          absurd (false≢true (sym free ∙ subst (λ (y : List ℕ). is_among y (names_of ds) ≡ true) (sym ((bytes_eq-Decides (d.0) x).0 q)) i))
      behind x i free false q k = k

  -- ---- numbers

  taken_is : (bound : List (List ℕ × ℕ)) (n : ℕ) → is_taken bound n ≡ false → has_number n (map (λ (b : List ℕ × ℕ). b.1) bound) ≡ false
  taken_is bound n h = any_map (λ (m : ℕ). m == n) (λ (b : List ℕ × ℕ). b.1) bound ∙ h

  none_repeated : (bound : List (List ℕ × ℕ)) (ds : List (List ℕ × Holding)) (extra : List (List ℕ × ℕ)) → Extends bound ds extra
      → repeated (map (λ (b : List ℕ × ℕ). b.1) bound) extra ≡ None
  unfolding Extends
  none_repeated bound [] extra e = ap (repeated (map (λ (b : List ℕ × ℕ). b.1) bound)) e
  none_repeated bound (d ∷ ds) extra (inl e) = none_repeated bound ds extra e
  none_repeated bound (d ∷ ds) extra (inr (n, rest, e, fit, more)) =
      let seen = map (λ (b : List ℕ × ℕ). b.1) bound in
      ap (repeated seen) e
      ∙ ap (λ (b : Bool). if b then Some (d.0) else repeated (seen ++ n ∷ []) rest) (taken_is bound n fit.free)
      ∙ ap (λ (xs : List ℕ). repeated xs rest) (sym (map_append (λ (b : List ℕ × ℕ). b.1) bound ((d.0, n) ∷ [])))
      ∙ none_repeated (bound ++ (d.0, n) ∷ []) ds rest more

  -- each is bound to a live deposit that fits what the precondition has under the name
  pub record BoundTo (ds : List (List ℕ × Holding)) (b : List ℕ × ℕ) : Type 0 where
    pub holding : Holding
    pub named : Is_in (b.0, holding) ds
    pub d : Deposit
    pub there : Is_in d live
    pub number : d.number ≡ b.1
    pub fit : fits holding d ≡ true

  more_bound : (d : List ℕ × Holding) (ds : List (List ℕ × Holding)) (b : List ℕ × ℕ) → BoundTo ds b → BoundTo (d ∷ ds) b
  more_bound d ds b x =
      record { holding = x.holding; named = inr x.named; d = x.d; there = x.there; number = x.number; fit = x.fit }

  each_bound : (bound : List (List ℕ × ℕ)) (ds : List (List ℕ × Holding)) (extra : List (List ℕ × ℕ)) → Extends bound ds extra
      → (b : List ℕ × ℕ) → Is_in b extra → BoundTo ds b
  unfolding Extends
  each_bound bound [] extra e b i = absurd (subst (λ (es : List (List ℕ × ℕ)). Is_in b es) e i)
  each_bound bound (d ∷ ds) extra (inl e) b i = more_bound d ds b (each_bound bound ds extra e b i)
  each_bound bound (d ∷ ds) extra (inr (n, rest, e, fit, more)) b i =
      by_place (subst (λ (es : List (List ℕ × ℕ)). Is_in b es) e i) (each_bound (bound ++ (d.0, n) ∷ []) ds rest more b)
    where
      by_place : (b ≡ (d.0, n)) ⊎ Is_in b rest → (Is_in b rest → BoundTo ds b) → BoundTo (d ∷ ds) b
      by_place (inl q) later =
          subst (λ (x : List ℕ × ℕ). BoundTo (d ∷ ds) x) (sym q)
          (record { holding = d.1; named = inl refl; d = fit.d; there = fit.there; number = fit.number; fit = fit.fit })
      by_place (inr j) later = more_bound d ds b (later j)

  -- all of this of bindings in which no name is left out
  pub record BoundWell (ds : List (List ℕ × Holding)) (bs : List (List ℕ × ℕ)) : Type 0 where
    pub names : names_of bs ≡ names_of ds
    pub once : repeated [] bs ≡ None
    pub each : (b : List ℕ × ℕ) → Is_in b bs → BoundTo ds b

  pub bound_well : (ds : List (List ℕ × Holding)) → are_different (names_of ds) ≡ true
      → ((x : List ℕ) → is_among x (names_of ds) ≡ true → is_among x (names_of (bindings_onto live [] ds)) ≡ true)
      → BoundWell ds (bindings_onto live [] ds)
  unfolding AllAmong
  bound_well ds differ all =
      let x = extended [] ds in
      subst (λ (bs : List (List ℕ × ℕ)). BoundWell ds bs) (sym x.is) (record {
        names = same_names [] ds x.extra x.by_names differ
            (λ y i. sym (ap (λ (bs : List (List ℕ × ℕ)). is_among y (names_of bs)) x.is) ∙ all y i);
        once = none_repeated [] ds x.extra x.by_names;
        each = each_bound [] ds x.extra x.by_names;
      })

-- ---- rearranged

all_in_names : (xs ys : List (List ℕ)) → ((x : List ℕ) → Is_in x xs → is_among x ys ≡ true) → list_all (λ n. is_among n ys) xs ≡ true
all_in_names [] ys f = refl
all_in_names (x ∷ xs) ys f = and_from _ _ (f x (inl refl)) (all_in_names xs ys (λ y i. f y (inr i)))

in_among : (x : List ℕ) (xs : List (List ℕ)) → Is_in x xs → is_among x xs ≡ true
in_among x [] i = absurd i
in_among x (y ∷ ys) (inl e) = or_left _ _ (subst (λ (z : List ℕ). bytes_eq z x ≡ true) e (bytes_refl x))
in_among x (y ∷ ys) (inr i) = or_right (bytes_eq y x) _ (in_among x ys i)

pub rearranged_same : (xs : List (List ℕ)) → are_different xs ≡ true → are_rearranged xs xs ≡ true
rearranged_same xs h =
    let all = all_in_names xs xs (λ x i. in_among x xs i) in
    and_from (are_different xs && list_all (λ n. is_among n xs) xs) (list_all (λ n. is_among n xs) xs) (and_from (are_different xs) _ h all) all

-- ---- live deposits

module _ (s : Setup) where
  pub record IsLiveAt (os : List Output) (k : ℕ) (d : Deposit) : Type 0 where
    pub j : ℕ
    pub o : Output
    pub at : slice_get os j ≡ Some o
    pub number : d.number ≡ k + j
    pub live : is_deposit (Some o) ≡ true
    pub owner : d.owner ≡ owner_by s o.script
    pub value : d.value ≡ o.value

  pub live_at : (os : List Output) (k : ℕ) (d : Deposit) → Is_in d (deposits_from s k os) → IsLiveAt os k d
  live_at [] k d h = absurd h
  live_at (o ∷ os) k d h = by_test (is_deposit (Some o)) refl h (live_at os (k + 1) d)
    where
      later : IsLiveAt os (k + 1) d → IsLiveAt (o ∷ os) k d
      later x = record {
        j = suc x.j;
        o = x.o;
        at = x.at;
        number = let e = x.number in omega (arith, e);
        live = x.live;
        owner = x.owner;
        value = x.value;
      }

      by_test : (b : Bool) → is_deposit (Some o) ≡ b
          → Is_in d (cons_option (if b then Some record { number = k; owner = owner_by s o.script; value = o.value } else None) (deposits_from s (k + 1) os))
          → (Is_in d (deposits_from s (k + 1) os) → IsLiveAt os (k + 1) d) → IsLiveAt (o ∷ os) k d
      by_test true e (inl q) next =
          let z : k ≡ k + 0 = omega arith in
          record {
            j = 0;
            o = o;
            at = refl;
            number = ap (λ (x : Deposit). x.number) q ∙ z;
            live = e;
            owner = ap (λ (x : Deposit). x.owner) q;
            value = ap (λ (x : Deposit). x.value) q;
          }
      by_test true e (inr i) next = later (next i)
      by_test false e i next = later (next i)

  -- a live deposit that fits suits
  pub suits_at : (required : Holding) (d : Deposit) (o : Output) → fits required d ≡ true → is_deposit (Some o) ≡ true → d.owner ≡ owner_by s o.script
      → d.value ≡ o.value → suits s (Some required) (Some o) ≡ true
  suits_at required d o fit live owner value =
      let p = and_parts (owner_eq d.owner (Party required.owner)) (d.value == required.value) fit in
      and_from (is_deposit (Some o) && owner_eq (owner_of s (Some o)) (Party required.owner)) (deposit_value (Some o) == required.value)
      (and_from (is_deposit (Some o)) (owner_eq (owner_of s (Some o)) (Party required.owner)) live
      (ap (λ b. owner_eq (if b then owner_by s o.script else Outside) (Party required.owner)) live
      ∙ (ap (λ w. owner_eq w (Party required.owner)) (sym owner) ∙ p.0)))
      (ap (λ (b : Bool). (if b then o.value else 0) == required.value) live ∙ (ap (λ (v : ℕ). v == required.value) (sym value) ∙ p.1))
