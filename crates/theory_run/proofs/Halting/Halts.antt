-- A run halts only with what is there, and an event that goes on has nothing to halt it.
use Rattle.std.proofs.Common.{◌≡◌, ℕ, List, [], ◌∷◌, ◌++◌, Bool, true, false, not, Option, Some, None, refl, sym, ap, ◌∙◌, subst, arith, append_assoc, append-nil}
use Rattle.std.specs.Prelude.{◌&&◌, ◌||◌, if◌then◌else◌}
use Rattle.std.specs.List.{find}
use Rattle.std.specs.Option.{option_map, option_or}
use Rattle.std.specs.Str.{bytes_eq}
use Rattle.std.proofs.lemmas.Bool.{and_parts, both_ways, not-true}
use Rattle.spec_data.specs.Lists.{is_among}
use Rattle.spec_run.specs.declared.event.Event.{Event}
use Rattle.spec_run.specs.declared.header.HeldSecret.{HeldSecret}
use Rattle.spec_run.specs.Setup.{Setup}
use Rattle.spec_data.specs.Messages.{noted, noted_all, is_twin, collision_with, collision}
use Rattle.spec_run.specs.World.{World}
use Rattle.spec_run.specs.Pending.{is_allowed, is_guessed}
use Rattle.spec_run.specs.Event.{pending}
use Rattle.spec_run.specs.Halting.{AreApart, Collides, GivesAway, GivesNoneAway, Guesses, SameStrings}
use Rattle.theory_calculus.proofs.Names.{bytes-true, bytes_refl, among-append}
use Rattle.theory_run.proofs.Halting.Allowing.{allowed_own, own_allowed}
use Rattle.theory_world.specs.KeptApart.{NoCollision}
use Rattle.theory_world.proofs.Hashed.{no_collision, among_head}

-- ---- the same strings

-- a message that is noted is among the others, wherever it stands
noted_same : (ms : List (List ℕ)) (m t : List ℕ) → is_among t (noted ms m) ≡ is_among t (ms ++ m ∷ [])
noted_same ms m t = by_test (is_among m ms) refl
  where
    there : (b : Bool) → is_among m ms ≡ true → bytes_eq m t ≡ b → is_among t ms ≡ (is_among t ms || (b || false))
    there true h e =
        let k : is_among t ms ≡ true = subst (λ x. is_among x ms ≡ true) (bytes-true m t e) h in
        grind (arith, k)
    there false h e = grind arith

    by_test : (b : Bool) → is_among m ms ≡ b → is_among t (if b then ms else ms ++ m ∷ []) ≡ is_among t (ms ++ m ∷ [])
    by_test true h = there (bytes_eq m t) h refl ∙ sym (among-append t ms (m ∷ []))
    by_test false h = refl

-- a message is noted, or stands before those that follow
noted_prefix : (ms xs : List (List ℕ)) (m : List ℕ) → SameStrings (noted ms m ++ xs) (ms ++ m ∷ xs)
noted_prefix ms xs m t =
    among-append t (noted ms m) xs ∙ ap (λ b. b || is_among t xs) (noted_same ms m t)
    ∙ sym (among-append t (ms ++ m ∷ []) xs) ∙ ap (is_among t) (append_assoc ms (m ∷ []) xs)

-- what was noted and what is hashed are all that is noted then
pub all_noted : (ms ts : List (List ℕ)) → SameStrings (noted_all ms ts) (ms ++ ts)
all_noted ms [] t = ap (is_among t) (sym (append-nil ms))
all_noted ms (x ∷ xs) t = all_noted (noted ms x) xs t ∙ noted_prefix ms xs x t

apart_by : (hash : List ℕ → List ℕ) (xs ys : List (List ℕ)) → SameStrings xs ys → NoCollision hash xs → AreApart hash ys
apart_by hash xs ys same clear = record { apart = λ t u h k e. clear.one t u (same t ∙ h) (same u ∙ k) e }

-- ---- collisions

-- what doesn't collide is apart
pub calm_is : (hash : List ℕ → List ℕ) (ms ts : List (List ℕ)) → NoCollision hash ms → collision hash ms ts ≡ None → AreApart hash (ms ++ ts)
calm_is hash ms ts clear none = apart_by hash (noted_all ms ts) (ms ++ ts) (all_noted ms ts) (no_collision hash ms ts clear none)

pub found : (p : List ℕ → Bool) (xs : List (List ℕ)) (x : List ℕ) → find p xs ≡ Some x → (p x ≡ true) × (is_among x xs ≡ true)
found p [] x h = cc
found p (y ∷ ys) x h = by_test (p y) refl h (found p ys x)
  where
    by_test : (b : Bool) → p y ≡ b → (if b then Some y else find p ys) ≡ Some x
        → (find p ys ≡ Some x → (p x ≡ true) × (is_among x ys ≡ true)) → (p x ≡ true) × (is_among x (y ∷ ys) ≡ true)
    by_test true e h ih =
        let q : y ≡ x = cc in
        (subst (λ z. p z ≡ true) q e, subst (λ z. is_among z (y ∷ ys) ≡ true) q (among_head y ys))
    by_test false e h ih = let r = ih h in (r.0, grind (arith, r.1))

module _ (hash : List ℕ → List ℕ) where
  abbrev pair : List ℕ → List ℕ → Option (List ℕ × List ℕ)
  pair a b = Some (a, b)

  pair_parts : (a b c d : List ℕ) → pair a b ≡ pair c d → (a ≡ c) × (b ≡ d)
  pair_parts a b c d h =
      (ap (λ (o : Option (List ℕ × List ℕ)). first_of_pair o) h, ap (λ (o : Option (List ℕ × List ℕ)). second_of_pair o) h)
    where
      first_of_pair : Option (List ℕ × List ℕ) → List ℕ
      first_of_pair None = []
      first_of_pair (Some p) = p.0

      second_of_pair : Option (List ℕ × List ℕ) → List ℕ
      second_of_pair None = []
      second_of_pair (Some p) = p.1

  -- a message collides with one that was noted
  found_collision : (ms ts : List (List ℕ)) (m a b : List ℕ) (o : Option (List ℕ)) → NoCollision hash ms → find (is_twin hash m) ms ≡ o
      → option_map (λ earlier. (earlier, m)) o ≡ pair a b → Collides hash ms (m ∷ ts) a b
  found_collision ms ts m a b None clear e h = cc
  found_collision ms ts m a b (Some x) clear e h =
      let p = pair_parts x m a b h in
      let f = found (is_twin hash m) ms x e in
      let t = and_parts (bytes_eq (hash x) (hash m)) (not (bytes_eq x m)) f.0 in
      let different : x ≡ m → ⊥ = λ q. both_ways (bytes_eq x m) (not-true _ t.1) (subst (λ y. bytes_eq x y ≡ true) q (bytes_refl x)) in
      subst (λ y. Collides hash ms (m ∷ ts) y b) p.0 (subst (Collides hash ms (m ∷ ts) x) p.1 (record {
        different = different;
        same_digest = bytes-true (hash x) (hash m) t.0;
        sooner = [];
        afterwards = ts;
        in_order = refl;
        earlier_first = ap (is_among x) (append-nil ms) ∙ f.1;
        none_sooner = apart_by hash ms (ms ++ []) (λ u. ap (is_among u) (sym (append-nil ms))) clear;
      }))

  -- a collision is of two different strings with one digest, and these are the first
  pub collides : (ms ts : List (List ℕ)) (a b : List ℕ) → NoCollision hash ms → collision hash ms ts ≡ pair a b → Collides hash ms ts a b
  collides ms [] a b clear h = cc
  collides ms (m ∷ ts) a b clear h = by_one_collision (find (is_twin hash m) ms) refl h (collides (noted ms m) ts a b)
    where
      by_one_collision : (o : Option (List ℕ)) → find (is_twin hash m) ms ≡ o
          → option_or (option_map (λ earlier. (earlier, m)) o) (collision hash (noted ms m) ts) ≡ pair a b
          → (NoCollision hash (noted ms m) → collision hash (noted ms m) ts ≡ pair a b → Collides hash (noted ms m) ts a b)
          → Collides hash ms (m ∷ ts) a b
      by_one_collision (Some x) e k ih = found_collision ms ts m a b (Some x) clear e k
      by_one_collision None e k ih =
          let none : collision_with hash ms m ≡ None = ap (option_map (λ earlier. (earlier, m))) e in
          let later = ih (no_collision hash ms (m ∷ []) clear (ap (λ (o : Option (List ℕ × List ℕ)). option_or o None) none)) k in
          record {
            different = later.different;
            same_digest = later.same_digest;
            sooner = m ∷ later.sooner;
            afterwards = later.afterwards;
            in_order = ap (λ xs. m ∷ xs) later.in_order;
            earlier_first = sym (noted_prefix ms later.sooner m a) ∙ later.earlier_first;
            none_sooner = record {
              apart =
                  λ t u i j e'. later.none_sooner.apart t u (noted_prefix ms later.sooner m t ∙ i) (noted_prefix ms later.sooner m u ∙ j) e';
            };
          }

-- ---- guesses

module _ (s : Setup) (w : World) (e : Event) where
  abbrev is_given : HeldSecret → Bool
  is_given x = is_guessed w.posted (pending s w e).posts (pending s w e).allowed x

  gives : (x : HeldSecret) → is_given x ≡ true → GivesAway s w e x
  gives x h =
      let d = pending s w e in
      let a = and_parts (is_among x.bytes d.posts && not (is_among x.bytes w.posted)) (not (is_allowed d.allowed x)) h in
      let b = and_parts (is_among x.bytes d.posts) (not (is_among x.bytes w.posted)) a.0 in
      record {
        posted_now = b.0;
        not_before = not-true _ b.1;
        not_own = λ own. both_ways (is_allowed d.allowed x) (not-true _ a.1) (allowed_own s w e x own b.0);
      }

  gives_not : (x : HeldSecret) → is_given x ≡ false → GivesAway s w e x → ⊥
  gives_not x h away = by_allowed (is_allowed (pending s w e).allowed x) refl
    where
      by_allowed : (b : Bool) → is_allowed (pending s w e).allowed x ≡ b → ⊥
      by_allowed true a = away.not_own (own_allowed s w e x a)
      by_allowed false a =
          let p = away.posted_now in
          let n = away.not_before in
          let t : is_given x ≡ true = rw (p, n, a) refl in
          both_ways (is_given x) h t

  -- where nothing is guessed, no secret is given away
  pub none_away : (xs : List HeldSecret) → find (is_guessed w.posted (pending s w e).posts (pending s w e).allowed) xs ≡ None
      → GivesNoneAway s w e xs
  none_away [] h = tt
  none_away (x ∷ xs) h = by_test (is_given x) refl h (none_away xs)
    where
      by_test : (b : Bool) → is_given x ≡ b
          → (if b then Some x else find (is_guessed w.posted (pending s w e).posts (pending s w e).allowed) xs) ≡ None
          → (find (is_guessed w.posted (pending s w e).posts (pending s w e).allowed) xs ≡ None → GivesNoneAway s w e xs)
          → GivesNoneAway s w e (x ∷ xs)
      by_test true q k ih = cc
      by_test false q k ih = (gives_not x q, ih k)

  -- what is guessed is the first secret that is given away
  pub guesses : (xs : List HeldSecret) (held : HeldSecret)
      → find (is_guessed w.posted (pending s w e).posts (pending s w e).allowed) xs ≡ Some held → Guesses s w e xs held.party held.name
  guesses [] held h = cc
  guesses (x ∷ xs) held h = by_test (is_given x) refl h (guesses xs held)
    where
      by_test : (b : Bool) → is_given x ≡ b
          → (if b then Some x else find (is_guessed w.posted (pending s w e).posts (pending s w e).allowed) xs) ≡ Some held
          → (find (is_guessed w.posted (pending s w e).posts (pending s w e).allowed) xs ≡ Some held → Guesses s w e xs held.party held.name)
          → Guesses s w e (x ∷ xs) held.party held.name
      by_test true q k ih =
          let same : x ≡ held = cc in
          record {
            secret = x;
            is_owner = ap (λ (y : HeldSecret). y.party) same;
            is_name = ap (λ (y : HeldSecret). y.name) same;
            given = gives x q;
            sooner = [];
            afterwards = xs;
            in_order = refl;
            none_sooner = tt;
          }
      by_test false q k ih =
          let later = ih k in
          record {
            secret = later.secret;
            is_owner = later.is_owner;
            is_name = later.is_name;
            given = later.given;
            sooner = x ∷ later.sooner;
            afterwards = later.afterwards;
            in_order = ap (λ ys. x ∷ ys) later.in_order;
            none_sooner = (gives_not x q, later.none_sooner);
          }
