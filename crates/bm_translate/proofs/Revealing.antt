-- The secrets that come to be shown, by those that are waited for.
use Rattle.std.proofs.Common.{◌≡◌, ℕ, List, [], ◌∷◌, ◌++◌, map, Bool, true, false, not, cond, Option, Some, None, refl, sym, ap, ◌∙◌, subst, append_assoc}
use Rattle.std.specs.Prelude.{◌&&◌, ◌||◌, ◌==◌, if◌then◌else◌}
use Rattle.std.specs.List.{filter, list_any}
use Rattle.std.specs.Option.{option_map}
use Rattle.std.specs.Str.{bytes_eq}
use Rattle.std.proofs.lemmas.Bool.{and_parts, or_parts, eqb-true}
use Rattle.spec_data.specs.Lists.{is_among, look_up}
use Rattle.spec_terms.specs.Advert.{Advert}
use Rattle.spec_calculus.specs.declared.parts.Revealed.{Revealed}
use Rattle.spec_calculus.specs.Configuration.{Configuration}
use Rattle.spec_calculus.specs.Branches.{length_at}
use Rattle.spec_run.specs.Setup.{Setup}
use Rattle.spec_run.specs.World.{Promise, World, is_promise_of, has_promised}
use Rattle.spec_run.specs.Secrets.{all_secrets, secrets_from, digest_at, is_shown, shown, length_in_run}
use Rattle.spec_run.specs.Steps.{reveal_step, reveals}
use Rattle.theory_calculus.proofs.Names.{bytes-true}
use Rattle.theory_world.proofs.Hashed.{among_left}
use Rattle.theory_run.specs.KeptSecrets.{committed_by}
use Rattle.theory_run.proofs.Facts.KeptSecrets.{length_at-by}
use Rattle.bm_translate.specs.declared.watching.Watched.{Watched}
use Rattle.bm_translate.specs.Shown.{string_of, is_one_of, watched_of, watched_all, noted, comes_up, is_out, reveal_of, revealed_by, revealed_of}
use Rattle.bm_translate.specs.Moments.{AreHeard}
use Rattle.bm_translate.proofs.Strings.{shown_by, one_of-append}

-- ---- look-ups in the commitments

-- who has committed commits nothing else later
digest_stays : (ps more : List Promise) (x : Revealed) → list_any (is_promise_of x.contract x.party) ps ≡ true → digest_at (ps ++ more) x ≡ digest_at ps x
digest_stays [] more x h = cc
digest_stays (p ∷ ps) more x h = by_test (is_promise_of x.contract x.party p) h (digest_stays ps more x)
  where
    by_test : (b : Bool) → (b || list_any (is_promise_of x.contract x.party) ps) ≡ true
        → (list_any (is_promise_of x.contract x.party) ps ≡ true → digest_at (ps ++ more) x ≡ digest_at ps x)
        → (if b then look_up x.secret p.digests else digest_at (ps ++ more) x) ≡ (if b then look_up x.secret p.digests else digest_at ps x)
    by_test true k ih = refl
    by_test false k ih = ih k

digest_skips : (ps more : List Promise) (x : Revealed) → list_any (is_promise_of x.contract x.party) ps ≡ false → digest_at (ps ++ more) x ≡ digest_at more x
digest_skips [] more x h = refl
digest_skips (p ∷ ps) more x h =
    let f = or_parts (is_promise_of x.contract x.party p) (list_any (is_promise_of x.contract x.party) ps) h in
    rw f.0 (digest_skips ps more x f.1)

digest_none : (ps : List Promise) (x : Revealed) → list_any (is_promise_of x.contract x.party) ps ≡ false → digest_at ps x ≡ None
digest_none [] x h = refl
digest_none (p ∷ ps) x h =
    let f = or_parts (is_promise_of x.contract x.party p) (list_any (is_promise_of x.contract x.party) ps) h in
    rw f.0 (digest_none ps x f.1)

-- what is committed stays so
digest_later : (ps more : List Promise) (x : Revealed) (d : List ℕ) → digest_at ps x ≡ Some d → digest_at (ps ++ more) x ≡ Some d
digest_later ps more x d h = by_test (list_any (is_promise_of x.contract x.party) ps) refl
  where
    by_test : (b : Bool) → list_any (is_promise_of x.contract x.party) ps ≡ b → digest_at (ps ++ more) x ≡ Some d
    by_test true e = digest_stays ps more x e ∙ h
    by_test false e = let n = sym h ∙ digest_none ps x e in cc

-- ---- filters

filtered : {X Y Z : Type 0} (p : Y → Bool) (q : X → Bool) (g : X → Y) (f : Y → Z) (h : X → Z) (xs : List X)
    → ((x : X) → p (g x) ≡ q x) → ((x : X) → f (g x) ≡ h x) → map f (filter p (map g xs)) ≡ map h (filter q xs)
filtered p q g f h [] e k = refl
filtered p q g f h (x ∷ xs) e k = rw (e x) (by_test (q x) (filtered p q g f h xs e k))
  where
    by_test : (b : Bool) → map f (filter p (map g xs)) ≡ map h (filter q xs)
        → map f (cond b (g x ∷ filter p (map g xs)) (filter p (map g xs))) ≡ map h (cond b (x ∷ filter q xs) (filter q xs))
    by_test true ih = λ i. k x i ∷ ih i
    by_test false ih = ih

-- ---- what an event posts

and_true : (a : Bool) → (a && true) ≡ a
and_true true = refl
and_true false = refl

-- what is so in both worlds doesn't come
never : (a : Bool) → (a && not a) ≡ false
never true = refl
never false = refl

come : (a b : Bool) → (not a && b && true) ≡ ((a || b) && not a)
come true b = refl
come false true = refl
come false false = refl

none_come : (a b : Bool) → (not a && b && false) ≡ false
none_come true b = refl
none_come false true = refl
none_come false false = refl

module _ (s : Setup) (messages posted : List (List ℕ)) (heard : AreHeard s.hash messages posted) where
  abbrev watch : List Promise → List (List ℕ) → Revealed → Watched
  watch promises strings = watched_of s.hash messages promises strings

  -- where nobody commits
  module _ (z : List (List ℕ)) (g : Configuration) (w next : World) (more : List Promise) (posts later : List (List ℕ))
      (committed : g.committed ≡ map (committed_by s z) w.promises) (same : next.promises ≡ w.promises)
      (strings : next.posted ≡ w.posted ++ posts) (ends : posted ≡ next.posted ++ later) where
    within : (t : List ℕ) → is_among t next.posted ≡ true → is_among t posted ≡ true
    within t h = rw ends (among_left t next.posted later h)

    before : (t : List ℕ) → is_among t w.posted ≡ true → is_among t posted ≡ true
    before t h = within t (rw strings (among_left t w.posted posts h))

    comes : (x : Revealed) → comes_up g.committed posts (watch (w.promises ++ more) w.posted x) ≡ (shown s next x && not (shown s w x))
    comes x = by_digest (digest_at w.promises x) refl
      where
        by_digest : (o : Option (List ℕ)) → digest_at w.promises x ≡ o
            → comes_up g.committed posts (watch (w.promises ++ more) w.posted x) ≡ (shown s next x && not (shown s w x))
        by_digest None e =
            let n : digest_at next.promises x ≡ None = ap (λ ps. digest_at ps x) same ∙ e in
            let l : length_at g.committed x.contract x.party x.secret ≡ None =
            ap (λ cs. length_at cs x.contract x.party x.secret) committed ∙ length_at-by s z x w.promises
            ∙ ap (option_map (length_in_run s z x.party x.secret)) e in
            rw (l, n) (none_come (is_one_of w.posted (string_of s.hash messages (digest_at (w.promises ++ more) x)))
            (is_one_of posts (string_of s.hash messages (digest_at (w.promises ++ more) x))))
        by_digest (Some d) e =
            let n : digest_at next.promises x ≡ Some d = ap (λ ps. digest_at ps x) same ∙ e in
            let l : length_at g.committed x.contract x.party x.secret ≡ Some (length_in_run s z x.party x.secret d) =
            ap (λ cs. length_at cs x.contract x.party x.secret) committed ∙ length_at-by s z x w.promises
            ∙ ap (option_map (length_in_run s z x.party x.secret)) e in
            let f = digest_later w.promises more x d e in
            let o = string_of s.hash messages (Some d) in
            let a : is_shown s next.posted (Some d) ≡ (is_one_of w.posted o || is_one_of posts o) =
            shown_by s messages posted heard d next.posted within ∙ ap (λ ts. is_one_of ts o) strings ∙ one_of-append w.posted posts o in
            let b : is_shown s w.posted (Some d) ≡ is_one_of w.posted o = shown_by s messages posted heard d w.posted before in
            rw (l, f, n, e, a, b) (come (is_one_of w.posted o) (is_one_of posts o))

    -- those whose strings an event posts are revealed
    pub reveals_are : revealed_by g.committed posts (watched_all s.hash messages (w.promises ++ more) w.posted s.contracts) ≡ reveals s w next
    reveals_are =
        filtered (comes_up g.committed posts) (λ x. shown s next x && not (shown s w x)) (watch (w.promises ++ more) w.posted) reveal_of
        reveal_step (all_secrets s) comes (λ x. refl)

  -- where a party commits
  module _ (w next : World) (p : Promise) (more : List Promise) (later : List (List ℕ))
      (fresh : has_promised w p.contract p.party ≡ false) (promises : next.promises ≡ w.promises ++ p ∷ [])
      (strings : next.posted ≡ w.posted) (ends : posted ≡ next.posted ++ later) where
    abbrev all : List Promise
    all = next.promises ++ more

    within_all : (t : List ℕ) → is_among t next.posted ≡ true → is_among t posted ≡ true
    within_all t h = rw ends (among_left t next.posted later h)

    -- a secret of the party
    mine : (x : Revealed) → is_promise_of x.contract x.party p ≡ true
        → is_one_of w.posted (string_of s.hash messages (digest_at (next.promises ++ more) x)) ≡ (shown s next x && not (shown s w x))
    mine x is =
        let q = and_parts (p.contract == x.contract) (bytes_eq p.party x.party) is in
        let c = eqb-true p.contract x.contract q.0 in
        let r = bytes-true p.party x.party q.1 in
        let none : list_any (is_promise_of x.contract x.party) w.promises ≡ false =
        subst (λ k. list_any (is_promise_of k x.party) w.promises ≡ false) c
        (subst (λ a. list_any (is_promise_of p.contract a) w.promises ≡ false) r fresh) in
        let here : digest_at next.promises x ≡ look_up x.secret p.digests =
        ap (λ ps. digest_at ps x) promises ∙ digest_skips w.promises (p ∷ []) x none ∙ rw is refl in
        let there : digest_at (next.promises ++ more) x ≡ look_up x.secret p.digests =
        rw (promises, append_assoc) (digest_skips w.promises (p ∷ more) x none ∙ rw is refl) in
        rw (there, here, digest_none w.promises x none) (by_digest (look_up x.secret p.digests))
      where
        by_digest : (o : Option (List ℕ)) → is_one_of w.posted (string_of s.hash messages o) ≡ (is_shown s next.posted o && true)
        by_digest None = refl
        by_digest (Some d) = sym (and_true (is_shown s next.posted (Some d)) ∙ shown_by s messages posted heard d next.posted within_all
            ∙ ap (λ ts. is_one_of ts (string_of s.hash messages (Some d))) strings)

    -- a secret of another
    other : (x : Revealed) → is_promise_of x.contract x.party p ≡ false → false ≡ (shown s next x && not (shown s w x))
    other x is = sym (rw (strings, same) (never (is_shown s w.posted (digest_at w.promises x))))
      where
        by_test : (b : Bool) → list_any (is_promise_of x.contract x.party) w.promises ≡ b → digest_at (w.promises ++ p ∷ []) x ≡ digest_at w.promises x
        by_test true e = digest_stays w.promises (p ∷ []) x e
        by_test false e = digest_skips w.promises (p ∷ []) x e ∙ rw is refl ∙ sym (digest_none w.promises x e)

        same : digest_at next.promises x ≡ digest_at w.promises x
        same = ap (λ ps. digest_at ps x) promises ∙ by_test (list_any (is_promise_of x.contract x.party) w.promises) refl

    outs : (x : Revealed) → is_out p.contract p.party (watch (next.promises ++ more) w.posted x) ≡ (shown s next x && not (shown s w x))
    outs x = by_test (is_promise_of x.contract x.party p) refl
      where
        by_test : (b : Bool) → is_promise_of x.contract x.party p ≡ b
            → (b && is_one_of w.posted (string_of s.hash messages (digest_at (next.promises ++ more) x))) ≡ (shown s next x && not (shown s w x))
        by_test true e = mine x e
        by_test false e = other x e

    -- its secrets that are posted already are revealed
    pub reveals_out : revealed_of p.contract p.party (watched_all s.hash messages (next.promises ++ more) w.posted s.contracts) ≡ reveals s w next
    reveals_out =
        filtered (is_out p.contract p.party) (λ x. shown s next x && not (shown s w x)) (watch (next.promises ++ more) w.posted) reveal_of
        reveal_step (all_secrets s) outs (λ x. refl)

-- ---- what is noted

noted_one : (hash : List ℕ → List ℕ) (messages : List (List ℕ)) (promises : List Promise) (posted posts : List (List ℕ)) (x : Revealed)
    → noted posts (watched_of hash messages promises posted x) ≡ watched_of hash messages promises (posted ++ posts) x
noted_one hash messages promises posted posts x =
    let string = string_of hash messages (digest_at promises x) in
    ap (λ b. record { secret = x; string = string; posted = b }) (sym (one_of-append posted posts string))

noted_list : (hash : List ℕ → List ℕ) (messages : List (List ℕ)) (promises : List Promise) (posted posts : List (List ℕ)) (xs : List Revealed)
    → map (noted posts) (map (watched_of hash messages promises posted) xs) ≡ map (watched_of hash messages promises (posted ++ posts)) xs
noted_list hash messages promises posted posts [] = refl
noted_list hash messages promises posted posts (x ∷ xs) =
    λ i. noted_one hash messages promises posted posts x i ∷ noted_list hash messages promises posted posts xs i

-- what is waited for after these strings are posted too
pub noted_all : (hash : List ℕ → List ℕ) (messages : List (List ℕ)) (promises : List Promise) (posted posts : List (List ℕ))
    (contracts : List Advert) → map (noted posts) (watched_all hash messages promises posted contracts)
    ≡ watched_all hash messages promises (posted ++ posts) contracts
noted_all hash messages promises posted posts contracts = noted_list hash messages promises posted posts (secrets_from 0 contracts)
